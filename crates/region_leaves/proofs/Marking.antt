-- The places of the marks, one place further.
use Rattle.std.proofs.Common.{◌≡◌, inl, inr, ℕ, ◌+◌, ◌<◌, Bool, true, false, List, [], ◌∷◌, ◌++◌, length, get_or, sym, ap, subst, ◌∙◌, arith, length-append}
use Rattle.std.proofs.lemmas.Bool.{cases_lt, both_ways}
use Rattle.std.proofs.lemmas.Grind.{common_steps}
use Rattle.region_leaves.specs.Edges.{AreMarked}

pub marked_on : (marks : List Bool) (n : ℕ) (numbers : List ℕ) → AreMarked marks n numbers → get_or marks n false ≡ true → AreMarked marks (n + 1) (numbers ++ n ∷ [])
marked_on marks n numbers m t = record { rising = rising; only = only; all = all }
  where
    at_front : (i : ℕ) → i < length numbers → get_or (numbers ++ n ∷ []) i 0 ≡ get_or numbers i 0
    at_front i l = grind (arith, common_steps)

    at_last : get_or (numbers ++ n ∷ []) (length numbers) 0 ≡ n
    at_last = grind (arith, common_steps)

    rising : (i j : ℕ) → i < j → j < length (numbers ++ n ∷ []) → get_or (numbers ++ n ∷ []) i 0 < get_or (numbers ++ n ∷ []) j 0
    rising i j h l =
        let e = length-append numbers (n ∷ []) in
        elim (cases_lt j (length numbers)) [
          | inl k ↦ (let r = m.rising i j h k in let a = at_front i (omega arith) in let b = at_front j k in omega arith)
          | inr k ↦ (
              let q : length numbers ≡ j = omega arith in
              let P : ℕ → Type 0 = λ z. get_or (numbers ++ n ∷ []) i 0 < get_or (numbers ++ n ∷ []) z 0 in
              let a = at_front i (omega arith) in
              let b = (m.only i (omega arith)).0 in
              let c = at_last in
              subst P q (omega arith))
        ]

    only : (i : ℕ) → i < length (numbers ++ n ∷ []) → (get_or (numbers ++ n ∷ []) i 0 < n + 1) × (get_or marks (get_or (numbers ++ n ∷ []) i 0) false ≡ true)
    only i l =
        let e = length-append numbers (n ∷ []) in
        elim (cases_lt i (length numbers)) [
          | inl k ↦ (
              let (b, h) = m.only i k in
              let P : ℕ → Type 0 = λ z. (z < n + 1) × (get_or marks z false ≡ true) in
              subst P (sym (at_front i k)) (omega arith, h))
          | inr k ↦ (
              let q : length numbers ≡ i = omega arith in
              let P : ℕ → Type 0 = λ z. (z < n + 1) × (get_or marks z false ≡ true) in
              subst P (sym (sym (ap (λ (z : ℕ). get_or (numbers ++ n ∷ []) z 0) q) ∙ at_last)) (omega arith, t))
        ]

    all : (b : ℕ) → b < n + 1 → get_or marks b false ≡ true → (i : ℕ) × (i < length (numbers ++ n ∷ [])) × (get_or (numbers ++ n ∷ []) i 0 ≡ b)
    all b l h =
        let e = length-append numbers (n ∷ []) in
        elim (cases_lt b n) [
          | inl k ↦ (let (i, o, q) = m.all b k h in (i, omega arith, at_front i o ∙ q))
          | inr k ↦ (length numbers, omega arith, at_last ∙ omega arith)
        ]

pub not_marked_on : (marks : List Bool) (n : ℕ) (numbers : List ℕ) → AreMarked marks n numbers → get_or marks n false ≡ false → AreMarked marks (n + 1) numbers
not_marked_on marks n numbers m f = record {
  rising = m.rising;
  only = λ i l. (let (b, h) = m.only i l in (omega arith, h));
  all = λ b l h. elim (cases_lt b n) [
    | inl k ↦ m.all b k h
    | inr k ↦ (let q : b ≡ n = omega arith in let P : ℕ → Type 0 = λ z. get_or marks z false ≡ true in absurd (both_ways _ f (subst P q h)))
  ];
}
