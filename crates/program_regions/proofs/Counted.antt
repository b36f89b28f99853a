-- Two lists of the reachable blocks are equally long.
use Rattle.std.proofs.Common.{◌≡◌, inl, inr, ℕ, zero, suc, ◌-◌, ◌<◌, ◌≤◌, List, length, get_or, Some, ap, arith}
use Rattle.std.proofs.lemmas.Bool.{cases_order}
use Rattle.std.proofs.lemmas.Option.{slice_get_within, slice_get-get_or, get_or_from_slice_get}
use Rattle.std.specs.List.{slice_get}
use Rattle.dxil_form.specs.declared.program.Program.{Program}
use Rattle.region_laws.proofs.Places.{has_get, get_has}
use Rattle.region_leaves.specs.Leaves.{AreReachable}

module _ (p : Program) (xs ys : List ℕ) (are : AreReachable p xs) (also : AreReachable p ys) where
  found : (i : ℕ) → i < length xs → (j : ℕ) × (slice_get ys j ≡ Some (get_or xs i 0))
  found i l = get_has ys (get_or xs i 0) (also.all (get_or xs i 0) (are.only (get_or xs i 0) (has_get xs i (get_or xs i 0) (slice_get-get_or xs i 0 l))))

  -- what stands at a place of one list stands no earlier in the other
  behind : (i j : ℕ) → i < length xs → slice_get ys j ≡ Some (get_or xs i 0) → i ≤ j
  behind zero j l h = omega arith
  behind (suc i) j l h =
      let (k, g) = found i (omega arith) in
      let before = behind i k (omega arith) g in
      let rise = are.rising i (suc i) (omega arith) l in
      let m = slice_get_within ys j (get_or xs (suc i) 0) h in
      let n = slice_get_within ys k (get_or xs i 0) g in
      let x = get_or_from_slice_get ys j (get_or xs (suc i) 0) 0 h in
      let y = get_or_from_slice_get ys k (get_or xs i 0) 0 g in
      elim (cases_order k j) [
        | inl q ↦ (let z = ap (λ n. get_or ys n 0) q in absurd (omega arith))
        | inr (inl below) ↦ omega arith
        | inr (inr above) ↦ (let s = also.rising j k above n in absurd (omega arith))
      ]

  pub no_longer : length xs ≤ length ys
  no_longer = elim (cases_order 0 (length xs)) [
    | inl q ↦ omega arith
    | inr (inl l) ↦ (
        let within : length xs - 1 < length xs = omega arith in
        let (j, h) = found (length xs - 1) within in
        let m = slice_get_within ys j (get_or xs (length xs - 1) 0) h in
        let b = behind (length xs - 1) j within h in omega arith)
    | inr (inr l) ↦ absurd (omega arith)
  ]
