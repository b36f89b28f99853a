-- A test that tells the blocks which enter roots.
use Rattle.std.proofs.Common.{◌≡◌, inl, inr, ℕ, zero, suc, ◌<◌, Bool, true, false, eqb, ◌&&◌, ◌||◌, List, length, get_or, subst, arith, eq-eqb}
use Rattle.std.proofs.lemmas.Bool.{cases_eq, or_cases, or_left, or_right, and_parts, and_from, eqb-true, false≢true}
use Rattle.dxil_form.specs.Graphs.{Graph}
use Rattle.region_builder.specs.Walked.{TellsEntries}

-- some number below n passes the test
abbrev any_below : ℕ → (ℕ → Bool) → Bool
any_below zero p = false
any_below (suc n) p = p n || any_below n p

any_is : (n : ℕ) (p : ℕ → Bool) → any_below n p ≡ true → (i : ℕ) × (p i ≡ true)
any_is zero p t = absurd (false≢true t)
any_is (suc n) p t = elim (or_cases (p n) (any_below n p) t) [ inl h ↦ (n, h) | inr h ↦ any_is n p h ]

is_any : (n : ℕ) (p : ℕ → Bool) (i : ℕ) → i < n → p i ≡ true → any_below n p ≡ true
is_any zero p i l t = absurd (omega arith)
is_any (suc n) p i l t = elim (cases_eq i n) [
  | inl q ↦ (let P : ℕ → Type 0 = λ z. p z ≡ true in or_left (p n) (any_below n p) (subst P q t))
  | inr m ↦ or_right (p n) (any_below n p) (is_any n p i (omega arith) t)
]

abbrev pub entry_test : List ℕ → Graph → ℕ → Bool
entry_test blocks g c = any_below (length blocks) (λ i. g.live i && eqb (get_or blocks i 0) c)

pub entry_tells : (blocks : List ℕ) (g : Graph) → ((i : ℕ) → g.live i ≡ true → i < length blocks) → TellsEntries blocks g (entry_test blocks g)
entry_tells blocks g inside c = (
  λ t. (
      let (i, h) = any_is (length blocks) (λ i. g.live i && eqb (get_or blocks i 0) c) t in
      let (l, q) = and_parts (g.live i) (eqb (get_or blocks i 0) c) h in (i, l, eqb-true (get_or blocks i 0) c q)),
  λ h. (
      let (i, l, q) = h in
      is_any (length blocks) (λ i. g.live i && eqb (get_or blocks i 0) c) i (inside i l) (and_from (g.live i) (eqb (get_or blocks i 0) c) l (eq-eqb (get_or blocks i 0) c q))),
)
