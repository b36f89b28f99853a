-- The first sentence that holds is the least rule that is broken at a place.
use Rattle.std.proofs.Common.{ℕ, ◌≡◌, ◌<◌, ◌≤◌, ◌+◌, refl, sym, ◌∙◌, subst, arith, List, [], ◌∷◌, Bool, true, false, zero, suc}
use Rattle.dx_base.specs.First.{IsLeast, IsUnbroken}
use Rattle.dx_base.specs.Sentences.{holds, first_from, first_that_holds, Stated}

-- counted from k + 1 on, the first is at its place behind k, and none before it holds
record IsNth (bs : List Bool) (k n : ℕ) : Type 0 where
  at : ℕ
  is_at : n ≡ k + at
  positive : 0 < at
  holds_at : holds bs at ≡ true
  least : (m : ℕ) → holds bs m ≡ true → at ≤ m

holds_zero : {A : Type 0} (bs : List Bool) → holds bs 0 ≡ true → A
holds_zero [] e = cc
holds_zero (b ∷ bs) e = cc

nth : (bs : List Bool) (k : ℕ) → 0 < first_from (k + 1) bs → IsNth bs k (first_from (k + 1) bs)
nth [] k h = absurd (omega arith)
nth (true ∷ bs) k h = record { at = 1; is_at = refl; positive = omega arith; holds_at = refl; least = least } where
  least : (m : ℕ) → holds (true ∷ bs) m ≡ true → 1 ≤ m
  least zero e = cc
  least (suc m) e = omega arith
nth (false ∷ bs) k h = let r = nth bs (k + 1) h in record { at = suc r.at; is_at = omega (arith, r.is_at); positive = omega arith; holds_at = one_on bs r.at r.positive r.holds_at; least = least bs r.at r.least } where
  one_on : (cs : List Bool) (at : ℕ) → 0 < at → holds cs at ≡ true → holds (false ∷ cs) (suc at) ≡ true
  one_on cs zero p e = absurd (omega arith)
  one_on cs (suc at) p e = e

  least : (cs : List Bool) (at : ℕ) → ((m : ℕ) → holds cs m ≡ true → at ≤ m) → (m : ℕ) → holds (false ∷ cs) m ≡ true → suc at ≤ m
  least cs at l zero e = cc
  least cs at l (suc zero) e = cc
  least cs at l (suc (suc m)) e = omega (arith, l (suc m) e)

none_holds : (bs : List Bool) (k : ℕ) → first_from (k + 1) bs ≡ 0 → (m : ℕ) → holds bs m ≡ true → ⊥
none_holds [] k h m e = cc
none_holds (true ∷ bs) k h m e = omega arith
none_holds (false ∷ bs) k h zero e = cc
none_holds (false ∷ bs) k h (suc zero) e = cc
none_holds (false ∷ bs) k h (suc (suc m)) e = none_holds bs (k + 1) h (suc m) e

pub least_stated : {S : Type 0} (sentences : List S → S → List Bool) (before : List S) (place : S) (n : ℕ) → n ≡ first_that_holds (sentences before place) → 0 < n → IsLeast (Stated sentences) before place n
least_stated sentences before place n e h =
    let r = nth (sentences before place) 0 (omega (arith, e)) in
    let same : n ≡ r.at = e ∙ r.is_at ∙ omega arith in
    record { broken = subst (λ k. holds (sentences before place) k ≡ true) (sym same) r.holds_at; least = λ m g. omega (arith, r.least m g, same) }

pub none_stated : {S : Type 0} (sentences : List S → S → List Bool) (before : List S) (place : S) → first_that_holds (sentences before place) ≡ 0 → IsUnbroken (Stated sentences) before place
none_stated sentences before place e = record { none = λ m g. none_holds (sentences before place) 0 e m g }
