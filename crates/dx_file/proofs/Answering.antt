-- A file has at most one answer, and the readers of the two layers give it.
use Rattle.std.proofs.Common.{ℕ, ◌≡◌, ◌*◌, inl, inr, sym, ap, subst, arith, List, Ok, Err}
use Rattle.dx_base.proofs.FirstLaws.{first_unique}
use Rattle.dx_base.specs.First.{IsFirst}
use Rattle.dx_base.specs.declared.fault.Fault.{Fault}
use Rattle.dx_base.specs.declared.fault.Fault.TheVariants.{Refused, Limit, OutOfMemory}
use Rattle.dx_base.specs.declared.fault.Rule.TheVariants.{C, B, Y, M, N, P}
use Rattle.dx_base.specs.declared.fault.Which.TheVariants.{File, Records, Fields, Blocks, Instructions, Cases, PhiEntries, Resources}
use Rattle.dxbc_container.specs.Layout.{Carries}
use Rattle.dxbc_container.specs.Reading.{ContainerAnswer}
use Rattle.dxbc_container.specs.Rules.{IsBroken as BreaksContainer}
use Rattle.dxbc_container.specs.declared.part.Parts.{Parts}
use Rattle.dxbc_container.proofs.Tables.{sound_of, only_of}
use Rattle.bitstream_spelling.specs.Rules.{IsWhole, IsBroken as BreaksBitstream}
use Rattle.bitstream_spelling.specs.declared.item.Item.{Item}
use Rattle.bitstream_spelling.specs.declared.item.Items.{Items}
use Rattle.bitstream_spelling.proofs.Fronts.{whole_unique, whole_sound}
use Rattle.dx_bitstream.specs.Answers.{ItemsAnswer}
use Rattle.dx_file.specs.Layers.{Refusal, refused, limited, IsContent, IsFirstOfBitcode, IsFirstRefusal, of_container, of_bitcode, of_records, of_fields}
use Rattle.dx_file.specs.Reading.{NoRefusal, NoContent, IsOnly, FaultAnswer}

module _ (bytes : List ℕ) where
  first_of_both : (p q : Parts) (r b s c : ℕ) → IsFirstOfBitcode bytes p r b → IsFirstOfBitcode bytes q s c → (r ≡ s) × (b ≡ c)
  first_of_both p q r b s c x y =
      let same : q ≡ p = only_of bytes p x.container q y.container in
      first_unique (BreaksBitstream bytes (8 * p.from) (8 * p.to)) r b s c x.first (subst (λ (o : Parts). IsFirst (BreaksBitstream bytes (8 * o.from) (8 * o.to)) s c) same y.first)

  not_both : (r b : ℕ) (p : Parts) (s c : ℕ) → IsFirst (BreaksContainer bytes) r b → IsFirstOfBitcode bytes p s c → ⊥
  not_both r b p s c x y = (sound_of bytes p y.container).none r b x.broken

  pub refusal_unique : (one other : Refusal) → IsFirstRefusal bytes one → IsFirstRefusal bytes other → one ≡ other
  refusal_unique one other (of_container r b x) (of_container s c y) = let u = first_unique (BreaksContainer bytes) r b s c x y in cc (u.0, u.1)
  refusal_unique one other (of_container r b x) (of_bitcode q s c l y) = absurd (not_both r b q s c x y)
  refusal_unique one other (of_container r b x) (of_records q c y) = absurd (not_both r b q 9 c x y)
  refusal_unique one other (of_container r b x) (of_fields q c y) = absurd (not_both r b q 10 c x y)
  refusal_unique one other (of_bitcode p r b k x) (of_container s c y) = absurd (not_both s c p r b y x)
  refusal_unique one other (of_bitcode p r b k x) (of_bitcode q s c l y) = let u = first_of_both p q r b s c x y in cc (u.0, u.1)
  refusal_unique one other (of_bitcode p r b k x) (of_records q c y) = absurd (omega (arith, (first_of_both p q r b 9 c x y).0))
  refusal_unique one other (of_bitcode p r b k x) (of_fields q c y) = absurd (omega (arith, (first_of_both p q r b 10 c x y).0))
  refusal_unique one other (of_records p b x) (of_container s c y) = absurd (not_both s c p 9 b y x)
  refusal_unique one other (of_records p b x) (of_bitcode q s c l y) = absurd (omega (arith, (first_of_both p q 9 b s c x y).0))
  refusal_unique one other (of_records p b x) (of_records q c y) = ap (limited Records) (first_of_both p q 9 b 9 c x y).1
  refusal_unique one other (of_records p b x) (of_fields q c y) = absurd (omega (arith, (first_of_both p q 9 b 10 c x y).0))
  refusal_unique one other (of_fields p b x) (of_container s c y) = absurd (not_both s c p 10 b y x)
  refusal_unique one other (of_fields p b x) (of_bitcode q s c l y) = absurd (omega (arith, (first_of_both p q 10 b s c x y).0))
  refusal_unique one other (of_fields p b x) (of_records q c y) = absurd (omega (arith, (first_of_both p q 10 b 9 c x y).0))
  refusal_unique one other (of_fields p b x) (of_fields q c y) = ap (limited Fields) (first_of_both p q 10 b 10 c x y).1

  pub content_unique : (parts others : Parts) (is js : List Item) (fs gs : List ℕ) → IsContent bytes parts is fs → IsContent bytes others js gs → (parts ≡ others) × (is ≡ js) × (fs ≡ gs)
  content_unique parts others is js fs gs x y =
      let same : others ≡ parts = only_of bytes parts x.container others y.container in
      let u = whole_unique bytes (8 * parts.from) (8 * parts.to) is js fs gs x.bitcode (subst (λ (o : Parts). IsWhole bytes (8 * o.from) (8 * o.to) js gs) same y.bitcode) in
      (sym same, u.0, u.1)

  -- where there is a content, nothing of its bitcode is broken
  bitcode_sound : (p : Parts) (is : List Item) (fs : List ℕ) (q : Parts) (r b : ℕ) → IsContent bytes p is fs → IsFirstOfBitcode bytes q r b → ⊥
  bitcode_sound p is fs q r b x y =
      let same : q ≡ p = only_of bytes p x.container q y.container in
      let first : IsFirst (BreaksBitstream bytes (8 * p.from) (8 * p.to)) r b = subst (λ (o : Parts). IsFirst (BreaksBitstream bytes (8 * o.from) (8 * o.to)) r b) same y.first in
      (whole_sound bytes (8 * p.from) (8 * p.to) is fs x.bitcode).none r b first.broken

  pub content_sound : (p : Parts) (is : List Item) (fs : List ℕ) (refusal : Refusal) → IsContent bytes p is fs → IsFirstRefusal bytes refusal → ⊥
  content_sound p is fs refusal x (of_container r b y) = (sound_of bytes p x.container).none r b y.broken
  content_sound p is fs refusal x (of_bitcode q r b l y) = bitcode_sound p is fs q r b x y
  content_sound p is fs refusal x (of_records q b y) = bitcode_sound p is fs q 9 b x y
  content_sound p is fs refusal x (of_fields q b y) = bitcode_sound p is fs q 10 b x y

  no_content : (refusal : Refusal) → IsFirstRefusal bytes refusal → NoContent bytes
  no_content refusal first = record { none = λ p is fs x. content_sound p is fs refusal x first }

  no_refusal : (p : Parts) (is : List Item) (fs : List ℕ) → IsContent bytes p is fs → NoRefusal bytes
  no_refusal p is fs x = record { none = λ refusal first. content_sound p is fs refusal x first }

  -- the fault of the container's reader
  pub container_fault : (f : Fault) → ContainerAnswer (Err f) bytes → FaultAnswer f bytes
  container_fault (Refused (C n) bit) a = let first = of_container n bit a.0 in record { first = first; nothing = no_content (refused (C n) bit) first }
  container_fault (Refused (B n) bit) a = absurd a
  container_fault (Refused (Y n) bit) a = absurd a
  container_fault (Refused (M n) bit) a = absurd a
  container_fault (Refused (N n) bit) a = absurd a
  container_fault (Refused (P n) bit) a = absurd a
  container_fault (Limit which bit) a = absurd a
  container_fault OutOfMemory a = tt

  -- the fault of the bitstream's reader
  module _ (p : Parts) (w : Carries bytes p) where
    pub bitcode_fault : (f : Fault) → ItemsAnswer (Err f) bytes (8 * p.from) (8 * p.to) → FaultAnswer f bytes
    bitcode_fault (Refused (C n) bit) a = absurd a
    bitcode_fault (Refused (B n) bit) a = let first = of_bitcode p n bit a.0 (record { container = w; first = a.1 }) in record { first = first; nothing = no_content (refused (B n) bit) first }
    bitcode_fault (Refused (Y n) bit) a = absurd a
    bitcode_fault (Refused (M n) bit) a = absurd a
    bitcode_fault (Refused (N n) bit) a = absurd a
    bitcode_fault (Refused (P n) bit) a = absurd a
    bitcode_fault (Limit File bit) a = absurd a
    bitcode_fault (Limit Records bit) a = let first = of_records p bit (record { container = w; first = a.0 }) in record { first = first; nothing = no_content (limited Records bit) first }
    bitcode_fault (Limit Fields bit) a = let first = of_fields p bit (record { container = w; first = a.0 }) in record { first = first; nothing = no_content (limited Fields bit) first }
    bitcode_fault (Limit Blocks bit) a = absurd a
    bitcode_fault (Limit Instructions bit) a = absurd a
    bitcode_fault (Limit Cases bit) a = absurd a
    bitcode_fault (Limit PhiEntries bit) a = absurd a
    bitcode_fault (Limit Resources bit) a = absurd a
    bitcode_fault OutOfMemory a = tt

    pub content_of : (items : Items) → ItemsAnswer (Ok items) bytes (8 * p.from) (8 * p.to) → IsContent bytes p items.list items.fields × NoRefusal bytes
    content_of items a = let x : IsContent bytes p items.list items.fields = record { container = w; bitcode = a.0 } in (x, no_refusal p items.list items.fields x)

    pub only_content : (items : Items) → ItemsAnswer (Ok items) bytes (8 * p.from) (8 * p.to) → IsOnly bytes (record { parts = p; items = items })
    only_content items a = record { only = λ q is fs x. content_unique q p is items.list fs items.fields x (record { container = w; bitcode = a.0 }) }
