-- How a reading ends at a place.
use Rattle.std.proofs.Common.{refl, sym, subst, ℕ, ◌≡◌, ◌<◌, ◌≤◌, ◌^◌, inl, inr, List, ◌++◌, length, arith, false, Err}
use Rattle.std.proofs.lemmas.Bool.{cases_lt}
use Rattle.dx_base.specs.First.{IsFirst}
use Rattle.dx_base.specs.declared.fault.Fault.{Fault}
use Rattle.dx_base.specs.declared.fault.Fault.TheVariants.{Refused, Limit, OutOfMemory}
use Rattle.dx_base.specs.declared.fault.Rule.TheVariants.{B, C, Y, M, N, P}
use Rattle.dx_base.specs.declared.fault.Which.TheVariants as which
use Rattle.bitstream_spelling.specs.Layout.{Shape}
use Rattle.bitstream_spelling.specs.Spelling.{Place, Lays, item}
use Rattle.bitstream_spelling.specs.Rules.{IsKnown, IsSoundShape, HasStatedLength, IsNamed, IsSmall, StandsRight, Within, Breaks, b3, b4, b5, b6, b7, b8, too_many_records, too_many_fields, records, IsOpen, IsBroken, PassesEnd, HasMagic}
use Rattle.bitstream_spelling.specs.declared.item.Item.{Item}
use Rattle.bitstream_spelling.proofs.Fronts.{whole_sound, short_first, first_here, magic_first}
use Rattle.dx_bitstream.specs.Answers.{ItemsAnswer, NoItems}
use Rattle.dx_bitstream.specs.Places.{IsAt}
use Rattle.dx_bitstream.specs.Steps.{Halts, short, least, HaltAnswer, StepAnswer, TakenAnswer, NoStep}
use Rattle.dx_bitstream.specs.declared.reader.Reader.{Reader}

-- at a place no rule below a number is broken
pub record HoldsBelow (n : ℕ) (p : Place) (is : List Item) (fs : List ℕ) (shape : Shape) (after : ℕ) : Type 0 where
  pub known : 3 < n → IsKnown shape
  pub sound : 4 < n → IsSoundShape shape
  pub stated : HasStatedLength p shape after
  pub named : 6 < n → IsNamed p shape
  pub small : 7 < n → IsSmall p shape
  pub right : 8 < n → StandsRight p shape
  pub few : 9 < n → records (is ++ item p shape (length fs)) ≤ 2 ^ 22

pub least_of : (n : ℕ) (p : Place) (is : List Item) (fs : List ℕ) (shape : Shape) (after : ℕ) → HoldsBelow n p is fs shape after → n ≤ 10 → (other at : ℕ) → Breaks p is fs shape after other at → (p.at ≡ at) × (n ≤ other)
least_of n p is fs shape after h l _ _ (b3 x) = (refl, elim (cases_lt 3 n) [ inl lt ↦ absurd (x (h.known lt)) | inr ge ↦ ge ])
least_of n p is fs shape after h l _ _ (b4 x) = (refl, elim (cases_lt 4 n) [ inl lt ↦ absurd (x (h.sound lt)) | inr ge ↦ ge ])
least_of n p is fs shape after h l _ _ (b5 x) = absurd (x h.stated)
least_of n p is fs shape after h l _ _ (b6 x) = (refl, elim (cases_lt 6 n) [ inl lt ↦ absurd (x (h.named lt)) | inr ge ↦ ge ])
least_of n p is fs shape after h l _ _ (b7 x) = (refl, elim (cases_lt 7 n) [ inl lt ↦ absurd (x (h.small lt)) | inr ge ↦ ge ])
least_of n p is fs shape after h l _ _ (b8 x) = (refl, elim (cases_lt 8 n) [ inl lt ↦ absurd (x (h.right lt)) | inr ge ↦ ge ])
least_of n p is fs shape after h l _ _ (too_many_records x) = (refl, elim (cases_lt 9 n) [ inl lt ↦ absurd (omega (arith, x, h.few lt)) | inr ge ↦ ge ])
least_of n p is fs shape after h l _ _ (too_many_fields x) = (refl, l)

-- a rule or limit that is the least one broken at a place
pub halts_by : (bytes : List ℕ) (start end : ℕ) (p : Place) (is : List Item) (fs : List ℕ) (shape : Shape) (after n : ℕ) → Lays bytes start p shape after → Within end p shape after → Breaks p is fs shape after n p.at
    → HoldsBelow n p is fs shape after → n ≤ 10 → Halts bytes start end p is fs n p.at
halts_by bytes start end p is fs shape after n lays within breaks h l = least (record { shape = shape; after = after; lays = lays; within = within; breaks = breaks; least = least_of n p is fs shape after h l })

-- the first of all
first_of : (bytes : List ℕ) (start end : ℕ) (p : Place) (is : List Item) (fs : List ℕ) (n bit : ℕ) → IsOpen bytes start end p is fs → Halts bytes start end p is fs n bit → IsFirst (IsBroken bytes start end) n bit
first_of bytes start end p is fs _ _ o (short h) = short_first bytes start end p is fs o h
first_of bytes start end p is fs _ _ o (least l) = first_here bytes start end p is fs l.shape l.after _ _ o l.lays l.within l.breaks l.least

-- where something is broken the bits spell no items
none_of : (bytes : List ℕ) (start end n bit : ℕ) → IsFirst (IsBroken bytes start end) n bit → NoItems bytes start end
none_of bytes start end n bit f = record { none = λ list fields w. (whole_sound bytes start end list fields w).none n bit f.broken }

pub fault_first : (r : Reader) (p : Place) (fault : Fault) → IsOpen r.cursor.bytes r.cursor.start r.cursor.end p r.list r.fields → HaltAnswer fault r p → ItemsAnswer (Err fault) r.cursor.bytes r.cursor.start r.cursor.end
fault_first r p (Refused (B n) bit) o h = let f = first_of r.cursor.bytes r.cursor.start r.cursor.end p r.list r.fields n bit o h.1 in (h.0, f, none_of _ _ _ _ _ f)
fault_first r p (Refused (C n) bit) o h = absurd h
fault_first r p (Refused (Y n) bit) o h = absurd h
fault_first r p (Refused (M n) bit) o h = absurd h
fault_first r p (Refused (N n) bit) o h = absurd h
fault_first r p (Refused (P n) bit) o h = absurd h
fault_first r p (Limit which.Records bit) o h = let f = first_of r.cursor.bytes r.cursor.start r.cursor.end p r.list r.fields 9 bit o h in (f, none_of _ _ _ _ _ f)
fault_first r p (Limit which.Fields bit) o h = let f = first_of r.cursor.bytes r.cursor.start r.cursor.end p r.list r.fields 10 bit o h in (f, none_of _ _ _ _ _ f)
fault_first r p (Limit which.File bit) o h = absurd h
fault_first r p (Limit which.Blocks bit) o h = absurd h
fault_first r p (Limit which.Instructions bit) o h = absurd h
fault_first r p (Limit which.Cases bit) o h = absurd h
fault_first r p (Limit which.PhiEntries bit) o h = absurd h
fault_first r p (Limit which.Resources bit) o h = absurd h
fault_first r p OutOfMemory o h = tt

pub no_magic_first : (bytes : List ℕ) (start end : ℕ) → (HasMagic bytes start end → ⊥) → ItemsAnswer (Err (Refused (B 1) start)) bytes start end
no_magic_first bytes start end h = let f = magic_first bytes start end h in (omega arith, f, none_of bytes start end 1 start f)

module _ (old : Reader) (bit : ℕ) where
  -- whatever place the reader has come to, the reading ends there by a rule or limit
  pub record AllHalt (n b : ℕ) : Type 0 where
    pub halt : (p : Place) → IsAt old p bit → p.over ≡ false → Halts old.cursor.bytes old.cursor.start old.cursor.end p old.list old.fields n b

  -- by a rule at the bit itself
  pub at_bit : (n : ℕ) → ((p : Place) → IsAt old p bit → Halts old.cursor.bytes old.cursor.start old.cursor.end p old.list old.fields n p.at) → AllHalt n bit
  at_bit n h = record { halt = λ p a g. subst (λ (b : ℕ). Halts old.cursor.bytes old.cursor.start old.cursor.end p old.list old.fields n b) a.at (h p a) }

  pub at_end : ((p : Place) → IsAt old p bit → PassesEnd old.cursor.bytes old.cursor.start old.cursor.end p) → AllHalt 2 bit
  at_end h = at_bit 2 (λ p a. short (h p a))

  module _ (n b : ℕ) (h : AllHalt n b) where
    refused_step : n ≤ 8 → NoStep old bit (Refused (B n) b)
    refused_step l = record { halts = λ p a g. (l, h.halt p a g) }

  pub refuses : (x : Fault) (n b : ℕ) (new : Reader) → x ≡ Refused (B n) b → n ≤ 8 → AllHalt n b → StepAnswer (Err x) old bit new
  refuses x n b new e l h = subst (λ (y : Fault). StepAnswer (Err y) old bit new) (sym e) (refused_step n b h l)

  pub takes_none : (x : Fault) (n b : ℕ) (new : Reader) → x ≡ Refused (B n) b → n ≤ 8 → AllHalt n b → TakenAnswer (Err x) old bit new
  takes_none x n b new e l h = subst (λ (y : Fault). TakenAnswer (Err y) old bit new) (sym e) (refused_step n b h l)

  pub passes_records : (x : Fault) (b : ℕ) (new : Reader) → x ≡ Limit which.Records b → AllHalt 9 b → StepAnswer (Err x) old bit new
  passes_records x b new e h = subst (λ (y : Fault). StepAnswer (Err y) old bit new) (sym e) (record { halts = λ p a g. h.halt p a g })

  pub passes_fields : (x : Fault) (b : ℕ) (new : Reader) → x ≡ Limit which.Fields b → AllHalt 10 b → StepAnswer (Err x) old bit new
  passes_fields x b new e h = subst (λ (y : Fault). StepAnswer (Err y) old bit new) (sym e) (record { halts = λ p a g. h.halt p a g })

  pub failed_step : (new mid : Reader) (x : Fault) → TakenAnswer (Err x) old bit mid → StepAnswer (Err x) old bit new
  failed_step new mid (Refused rule b) h = h
  failed_step new mid (Limit which b) h = h
  failed_step new mid OutOfMemory h = tt
