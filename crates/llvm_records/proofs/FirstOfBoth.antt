-- The first of the rules of the values and of the bodies together.
use Rattle.std.proofs.Common.{ℕ, ◌≡◌, ◌<◌, ◌≤◌, inl, inr, zero, suc, refl, arith, List, [], ◌∷◌, length, take, drop, Bool, true, false, Result, Ok, Err, nat_lt, if◌then◌else◌}
use Rattle.std.proofs.lemmas.Bool.{cases_lt, ltb-true, ltb-false}
use Rattle.dx_base.specs.First.{IsFirst, IsSound}
use Rattle.dx_base.specs.Sentences.{holds}
use Rattle.dx_base.specs.declared.fault.Fault.{Fault}
use Rattle.dx_base.specs.declared.fault.Fault.TheVariants.{Refused, Limit, OutOfMemory}
use Rattle.dx_base.specs.declared.fault.Rule.TheVariants.{C, B, Y, M, N, P}
use Rattle.dx_base.specs.declared.fault.Which.{Which}
use Rattle.dx_base.specs.declared.fault.Which.TheVariants.{File, Records, Fields, Blocks, Instructions, Cases, PhiEntries, Resources}
use Rattle.bitstream_spelling.specs.declared.item.Item.{Item}
use Rattle.llvm_values.specs.Rules.{Broken as BreaksValues, sentences as value_sentences}
use Rattle.llvm_values.specs.Reading.{RulesAnswer}
use Rattle.llvm_bodies.specs.Bodies.{known}
use Rattle.llvm_bodies.specs.Rules.{Broken as BreaksBodies, tests}
use Rattle.llvm_bodies.specs.Reading.{BodiesAnswer, Tells}
use Rattle.llvm_bodies.specs.declared.line.Body.{Body}
use Rattle.llvm_records.specs.Reading.{Broken, facts_in, first_told}
use Rattle.llvm_items.specs.Sites.{sites}
use Rattle.llvm_types.specs.Types.{types_of}

-- the number of a sentence that holds is one of the list's
within : (bs : List Bool) (n : ℕ) → holds bs n ≡ true → n ≤ length bs
within [] n e = absurd (cc)
within (b ∷ bs) zero e = omega arith
within (b ∷ bs) (suc zero) e = omega arith
within (b ∷ bs) (suc (suc n)) e = let more = within bs (suc n) e in omega (arith, more)

-- behind six sentences that do not hold, it is at least 7
behind_six : (bs : List Bool) (n : ℕ) → holds (false ∷ false ∷ false ∷ false ∷ false ∷ false ∷ bs) n ≡ true → 7 ≤ n
behind_six bs zero e = absurd (cc)
behind_six bs (suc zero) e = absurd (cc)
behind_six bs (suc (suc zero)) e = absurd (cc)
behind_six bs (suc (suc (suc zero))) e = absurd (cc)
behind_six bs (suc (suc (suc (suc zero)))) e = absurd (cc)
behind_six bs (suc (suc (suc (suc (suc zero))))) e = absurd (cc)
behind_six bs (suc (suc (suc (suc (suc (suc zero)))))) e = absurd (cc)
behind_six bs (suc (suc (suc (suc (suc (suc (suc n))))))) e = omega arith

module _ (is : List Item) (fs : List ℕ) where
  of_values : (rule bit : ℕ) → BreaksValues is fs rule bit → rule ≤ 6
  of_values rule bit b = within (value_sentences is fs (types_of is fs) (take b.index (sites is)) b.place) rule b.breaks

  of_bodies : (rule bit : ℕ) → BreaksBodies (facts_in is fs) is fs rule bit → 7 ≤ rule
  of_bodies rule bit b = behind_six (drop 6 (tests (facts_in is fs) fs (known (facts_in is fs) fs (take b.index (sites is))) b.breaks.parts b.place)) rule b.breaks.breaks

  pub sound_both : IsSound (BreaksValues is fs) → IsSound (BreaksBodies (facts_in is fs) is fs) → IsSound (Broken is fs)
  sound_both s t = record { none = λ rule bit b. elim b [ inl x ↦ s.none rule bit x | inr y ↦ t.none rule bit y ] }

  -- the first of the values, where the bodies have none before it
  values_first : (rule bit : ℕ) → IsFirst (BreaksValues is fs) rule bit → ((other at : ℕ) → BreaksBodies (facts_in is fs) is fs other at → bit ≤ at) → IsFirst (Broken is fs) rule bit
  values_first rule bit f later = record {
    broken = inl f.broken;
    least = λ other at b. elim b [
      | inl x ↦ f.least other at x
      | inr y ↦ elim (cases_lt bit at) [
        | inl h ↦ inl h
        | inr h ↦ inr (omega (arith, later other at y, h), omega (arith, of_values rule bit f.broken, of_bodies other at y))
      ]
    ];
  }

  -- the first of the bodies, where the values have none up to it
  bodies_first : (rule bit : ℕ) → IsFirst (BreaksBodies (facts_in is fs) is fs) rule bit → ((other at : ℕ) → BreaksValues is fs other at → bit < at) → IsFirst (Broken is fs) rule bit
  bodies_first rule bit f later = record { broken = inr f.broken; least = λ other at b. elim b [ inl x ↦ inl (later other at x) | inr y ↦ f.least other at y ] }

  -- what follows a first one stands no earlier
  from_first : (Breaks : ℕ → ℕ → Type 0) (rule bit other at : ℕ) → IsFirst Breaks rule bit → Breaks other at → bit ≤ at
  from_first Breaks rule bit other at f b = elim (f.least other at b) [ inl h ↦ omega (arith, h) | inr h ↦ omega (arith, h.0) ]

  -- the two firsts: that of the bodies where it stands at a lesser bit
  both : (rule bit other at : ℕ) (c : Bool) → nat_lt at bit ≡ c → IsFirst (BreaksValues is fs) rule bit → IsFirst (BreaksBodies (facts_in is fs) is fs) other at
      → IsFirst (Broken is fs) (if c then other else rule) (if c then at else bit)
  both rule bit other at true e f g = bodies_first other at g (λ o a x. let later = from_first (BreaksValues is fs) rule bit o a f x in let less = ltb-true at bit e in omega (arith, less, later))
  both rule bit other at false e f g = values_first rule bit f (λ o a y. let later = from_first (BreaksBodies (facts_in is fs) is fs) other at o a g y in let least = ltb-false at bit e in omega (arith, least, later))

  pub of_answers : (values : Fault) (bodies : Result (List Body) Fault) → RulesAnswer (Err values) is fs → BodiesAnswer bodies (facts_in is fs) is fs → Tells (IsFirst (Broken is fs)) (first_told values bodies)
  of_answers (Refused (M rule) bit) bodies f answer = by_bodies bodies answer where
    told : rule ≤ 11
    told = let small = of_values rule bit f.broken in omega (arith, small)

    by_rule : (other at : ℕ) (c : Bool) → nat_lt at bit ≡ c → other ≤ 11 → IsFirst (BreaksBodies (facts_in is fs) is fs) other at
        → Tells (IsFirst (Broken is fs)) (if c then Refused (M other) at else Refused (M rule) bit)
    by_rule other at true e few g = (few, both rule bit other at true e f g)
    by_rule other at false e few g = (told, both rule bit other at false e f g)

    by_limit : (which : Which) (other at : ℕ) (c : Bool) → nat_lt at bit ≡ c → IsFirst (BreaksBodies (facts_in is fs) is fs) other at → (IsFirst (Broken is fs) other at → Tells (IsFirst (Broken is fs)) (Limit which at))
        → Tells (IsFirst (Broken is fs)) (if c then Limit which at else Refused (M rule) bit)
    by_limit which other at true e g say = say (both rule bit other at true e f g)
    by_limit which other at false e g say = (told, both rule bit other at false e f g)

    by_bodies : (bodies : Result (List Body) Fault) → BodiesAnswer bodies (facts_in is fs) is fs → Tells (IsFirst (Broken is fs)) (first_told (Refused (M rule) bit) bodies)
    by_bodies (Ok bodies) a = (told, values_first rule bit f (λ other at y. absurd (a.1.none other at y)))
    by_bodies (Err (Refused (M other) at)) a = by_rule other at (nat_lt at bit) refl a.0 a.1
    by_bodies (Err (Refused (C n) at)) a = absurd a
    by_bodies (Err (Refused (B n) at)) a = absurd a
    by_bodies (Err (Refused (Y n) at)) a = absurd a
    by_bodies (Err (Refused (N n) at)) a = absurd a
    by_bodies (Err (Refused (P n) at)) a = absurd a
    by_bodies (Err (Limit Blocks at)) a = by_limit Blocks 12 at (nat_lt at bit) refl a (λ f. f)
    by_bodies (Err (Limit Instructions at)) a = by_limit Instructions 13 at (nat_lt at bit) refl a (λ f. f)
    by_bodies (Err (Limit Cases at)) a = by_limit Cases 14 at (nat_lt at bit) refl a (λ f. f)
    by_bodies (Err (Limit PhiEntries at)) a = by_limit PhiEntries 15 at (nat_lt at bit) refl a (λ f. f)
    by_bodies (Err (Limit File at)) a = absurd a
    by_bodies (Err (Limit Records at)) a = absurd a
    by_bodies (Err (Limit Fields at)) a = absurd a
    by_bodies (Err (Limit Resources at)) a = absurd a
    by_bodies (Err OutOfMemory) a = tt
  of_answers (Refused (C n) bit) bodies f answer = absurd f
  of_answers (Refused (B n) bit) bodies f answer = absurd f
  of_answers (Refused (Y n) bit) bodies f answer = absurd f
  of_answers (Refused (N n) bit) bodies f answer = absurd f
  of_answers (Refused (P n) bit) bodies f answer = absurd f
  of_answers (Limit which bit) bodies f answer = absurd f
  of_answers OutOfMemory bodies f answer = tt

  -- the values break nothing
  pub of_bodies_fault : (e : Fault) → IsSound (BreaksValues is fs) → BodiesAnswer (Err e) (facts_in is fs) is fs → Tells (IsFirst (Broken is fs)) e
  of_bodies_fault e s a = by_fault e a where
    first : (rule bit : ℕ) → IsFirst (BreaksBodies (facts_in is fs) is fs) rule bit → IsFirst (Broken is fs) rule bit
    first rule bit f = bodies_first rule bit f (λ other at x. absurd (s.none other at x))

    by_fault : (e : Fault) → BodiesAnswer (Err e) (facts_in is fs) is fs → Tells (IsFirst (Broken is fs)) e
    by_fault (Refused (M rule) bit) a = (a.0, first rule bit a.1)
    by_fault (Refused (C n) bit) a = absurd a
    by_fault (Refused (B n) bit) a = absurd a
    by_fault (Refused (Y n) bit) a = absurd a
    by_fault (Refused (N n) bit) a = absurd a
    by_fault (Refused (P n) bit) a = absurd a
    by_fault (Limit Blocks bit) a = first 12 bit a
    by_fault (Limit Instructions bit) a = first 13 bit a
    by_fault (Limit Cases bit) a = first 14 bit a
    by_fault (Limit PhiEntries bit) a = first 15 bit a
    by_fault (Limit File bit) a = absurd a
    by_fault (Limit Records bit) a = absurd a
    by_fault (Limit Fields bit) a = absurd a
    by_fault (Limit Resources bit) a = absurd a
    by_fault OutOfMemory a = tt
