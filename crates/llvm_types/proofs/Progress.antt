-- What the reader has after one more item.
use Rattle.std.proofs.Common.{ℕ, ◌≡◌, ◌+◌, ◌<◌, ◌≤◌, refl, sym, ap, ◌∙◌, subst, arith, List, [], ◌∷◌, ◌++◌, length, take, get_or, slice_get, map, Some, Bool, true, false, ◌||◌, Err, if◌then◌else◌, append-nil, take_all}
use Rattle.std.proofs.lemmas.List.{take_more, map-append}
use Rattle.std.proofs.lemmas.List.Elements.{filter-append}
use Rattle.std.proofs.lemmas.List.Folds.{list_any-append}
use Rattle.std.proofs.lemmas.Option.{slice_get-get_or}
use Rattle.std.specs.List.{filter, list_any}
use Rattle.dx_base.specs.First.{IsFirst, IsSound, IsClear}
use Rattle.dx_base.specs.Sentences.{first_that_holds, Stated}
use Rattle.dx_base.proofs.FirstLaws.{clear_none, clear_more, first_here, sound_of}
use Rattle.dx_base.proofs.SentenceLaws.{least_stated, none_stated}
use Rattle.bitstream_spelling.specs.Framed.{IsFramed, bit_of, open_after}
use Rattle.bitstream_spelling.specs.declared.item.Item.{Item}
use Rattle.llvm_items.specs.Sites.{Site, sites, enters, code_of, fields_of, bit_at}
use Rattle.llvm_items.proofs.SiteLaws.{take-sites, site-at, length-sites, sites-rise, site_of, sites_more, open_more}
use Rattle.llvm_types.specs.Types.{is_numbered, numbered, types_of, type_of}
use Rattle.llvm_types.specs.Reading.{HasRead, list_after, IsNext, rule_at, StepAnswer, TypesAnswer}
use Rattle.llvm_types.specs.Rules.{Broken, sentences, tests}
use Rattle.llvm_types.specs.declared.read.Reader.{Reader}
use Rattle.dx_base.specs.declared.fault.Fault.{Fault}
use Rattle.dx_base.specs.declared.fault.Fault.TheVariants.{Refused, Limit, OutOfMemory}
use Rattle.dx_base.specs.declared.fault.Rule.TheVariants.{C, B, Y, M, N, P}
use Rattle.llvm_types.specs.declared.kind.LlvmType.{LlvmType}

numbered_more : (is : List Item) (x : Item) → numbered (is ++ x ∷ []) ≡ numbered is ++ (if is_numbered (site_of is x) then site_of is x ∷ [] else [])
numbered_more is x = ap (filter is_numbered) (sites_more is x) ∙ filter-append is_numbered (sites is) (site_of is x ∷ [])

begun_more : (is : List Item) (x : Item) → list_any (enters 17) (sites (is ++ x ∷ [])) ≡ (list_any (enters 17) (sites is) || enters 17 (site_of is x))
begun_more is x = ap (list_any (enters 17)) (sites_more is x) ∙ list_any-append (enters 17) (sites is) (site_of is x ∷ []) ∙ ap (λ b. list_any (enters 17) (sites is) || b) (or_false (enters 17 (site_of is x))) where
  or_false : (b : Bool) → (b || false) ≡ b
  or_false true = refl
  or_false false = refl

types_if : (fs : List ℕ) (xs : List Site) (s : Site) (b : Bool) → map (λ z. type_of (code_of z.item) (fields_of fs z.item)) (xs ++ (if b then s ∷ [] else []))
    ≡ (if b then map (λ z. type_of (code_of z.item) (fields_of fs z.item)) xs ++ type_of (code_of s.item) (fields_of fs s.item) ∷ [] else map (λ z. type_of (code_of z.item) (fields_of fs z.item)) xs)
types_if fs xs s true = map-append (λ z. type_of (code_of z.item) (fields_of fs z.item)) xs (s ∷ [])
types_if fs xs s false = ap (map (λ z. type_of (code_of z.item) (fields_of fs z.item))) (append-nil xs)

types_more : (fs : List ℕ) (is : List Item) (x : Item) → types_of (is ++ x ∷ []) fs ≡ list_after fs (types_of is fs) (site_of is x)
types_more fs is x = ap (map (λ z. type_of (code_of z.item) (fields_of fs z.item))) (numbered_more is x) ∙ types_if fs (numbered is) (site_of is x) (is_numbered (site_of is x))

has_more : (list : List Item) (fs : List ℕ) (index : ℕ) (old new : Reader) (d : Item) → HasRead (take index list) fs old.around old.begun old.list → index < length list → IsNext old new fs (get_or list index d)
    → HasRead (take (index + 1) list) fs new.around new.begun new.list
has_more list fs index old new d c h n =
    let x = get_or list index d in
    let front = take index list in
    let cut : take (index + 1) list ≡ front ++ x ∷ [] = take_more list index d h in
    subst (λ (l : List Item). HasRead l fs new.around new.begun new.list) (sym cut) (record {
      open_is = n.around ∙ ap (λ q. open_after q x) c.open_is ∙ sym (open_more front x);
      begun_is = n.begun ∙ ap (λ q. old.begun || enters 17 (record { around = q; item = x })) c.open_is ∙ ap (λ b. b || enters 17 (site_of front x)) c.begun_is ∙ sym (begun_more front x);
      list_is = n.list ∙ ap (λ q. list_after fs old.list (record { around = q; item = x })) c.open_is ∙ ap (λ l. list_after fs l (site_of front x)) c.list_is ∙ sym (types_more fs front x);
    })

-- the sentences of the whole list
abbrev pub Breaks : List Item → List ℕ → List Site → Site → ℕ → Type 0
Breaks list fs = Stated (sentences fs (length (numbered list)))

-- the reading so far: what was read, and that nothing is broken
pub record IsReading (list : List Item) (fs : List ℕ) (index : ℕ) (r : Reader) : Type 0 where
  pub has : HasRead (take index list) fs r.around r.begun r.list
  pub clear : IsClear bit_at (Breaks list fs) (sites list) index

pub reading_first : (list : List Item) (fs : List ℕ) (r : Reader) → r.around ≡ [] → r.begun ≡ false → r.list ≡ [] → IsReading list fs 0 r
reading_first list fs r p b l = record { has = record { open_is = p; begun_is = b; list_is = l }; clear = clear_none bit_at (Breaks list fs) (sites list) }

module _ (list : List Item) (fs : List ℕ) (index count : ℕ) (r : Reader) (d : Item) (i : IsReading list fs index r) (h : index < length list) (c : count ≡ length (numbered list)) where
  here : Site
  here = site_of (take index list) (get_or list index d)

  -- the reader's tests are the sentences at the place
  same : rule_at r fs count (get_or list index d) ≡ first_that_holds (sentences fs (length (numbered list)) (take index (sites list)) (site_of (take index list) (get_or list index d)))
  same =
      let x = get_or list index d in
      ap (λ k. rule_at r fs k x) c
      ∙ ap (λ b. first_that_holds (tests fs (length (numbered list)) b (record { around = r.around; item = x }))) i.has.begun_is
      ∙ ap (λ p. first_that_holds (tests fs (length (numbered list)) (list_any (enters 17) (sites (take index list))) (record { around = p; item = x }))) i.has.open_is
      ∙ ap (λ b. first_that_holds (sentences fs (length (numbered list)) b (site_of (take index list) x))) (sym (take-sites [] index list))

  stands : slice_get (sites list) index ≡ Some (site_of (take index list) (get_or list index d))
  stands = site-at [] index list (get_or list index d) (slice_get-get_or list index d h)

  pub reading_more : (new : Reader) → rule_at r fs count (get_or list index d) ≡ 0 → IsNext r new fs (get_or list index d) → IsReading list fs (index + 1) new
  reading_more new e n = record {
    has = has_more list fs index r new d i.has h n;
    clear = clear_more bit_at (Breaks list fs) (sites list) index (site_of (take index list) (get_or list index d)) i.clear stands
        (none_stated (sentences fs (length (numbered list))) (take index (sites list)) (site_of (take index list) (get_or list index d)) (sym same ∙ e));
  }

  pub reading_stops : (rule bit : ℕ) → IsFramed list fs → rule_at r fs count (get_or list index d) ≡ rule → 0 < rule → bit ≡ bit_of (get_or list index d) → IsFirst (Broken list fs) rule bit
  reading_stops rule bit f e g b =
      let least = least_stated (sentences fs (length (numbered list))) (take index (sites list)) (site_of (take index list) (get_or list index d)) rule (sym e ∙ same) g in
      let first = first_here bit_at (Breaks list fs) (sites list) index (site_of (take index list) (get_or list index d)) rule (sites-rise (Breaks list fs) list fs f) i.clear stands least in
      subst (λ (z : ℕ). IsFirst (Broken list fs) rule z) (sym b) first

  -- a fault of the reader at an item is the answer for the whole list
  pub fault_stops : (new : Reader) (fault : Fault) → IsFramed list fs → StepAnswer (Err fault) r new fs count (get_or list index d) → TypesAnswer (Err fault) list fs
  fault_stops new (Refused (C rule) bit) f a = a
  fault_stops new (Refused (B rule) bit) f a = a
  fault_stops new (Refused (Y rule) bit) f a = reading_stops rule bit f a.0 a.1 a.2
  fault_stops new (Refused (M rule) bit) f a = a
  fault_stops new (Refused (N rule) bit) f a = a
  fault_stops new (Refused (P rule) bit) f a = a
  fault_stops new (Limit which bit) f a = a
  fault_stops new OutOfMemory f a = a

pub reading_ends : (list : List Item) (fs : List ℕ) (index : ℕ) (r : Reader) (types : List LlvmType) → IsReading list fs index r → length list ≤ index → index ≤ length list → types ≡ r.list → (types ≡ types_of list fs) × IsSound (Broken list fs)
reading_ends list fs index r types i h k e =
    let whole : take index list ≡ list = take_all index list h in
    let n : index ≡ length (sites list) = omega (arith, length-sites [] list) in
    (e ∙ i.has.list_is ∙ ap (λ l. types_of l fs) whole, sound_of bit_at (Breaks list fs) (sites list) (subst (λ (z : ℕ). IsClear bit_at (Breaks list fs) (sites list) z) n i.clear))
