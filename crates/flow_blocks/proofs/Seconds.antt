-- Every second word of a list, from the front.
use Rattle.std.proofs.Common.{ℕ, zero, suc, ◌≡◌, ◌<◌, ◌≤◌, ◌+◌, ◌-◌, ◌++◌, ◌∷◌, [], refl, sym, ap, subst, ◌∙◌, arith, List, length, map, drop, get_or, append_assoc}
use Rattle.flow_blocks.specs.Blocks.{every_second}

second_step : (ws : List ℕ) (i : ℕ) → suc i < length ws → every_second (drop i ws) ≡ get_or ws (suc i) 0 ∷ every_second (drop (suc (suc i)) ws)
second_step [] i h = absurd (omega arith)
second_step (a ∷ []) zero h = absurd (omega arith)
second_step (a ∷ b ∷ ws) zero h = refl
second_step (a ∷ ws) (suc i) h = second_step ws i (omega arith)

second_end : (ws : List ℕ) (i : ℕ) → length ws ≤ suc i → every_second (drop i ws) ≡ []
second_end [] zero h = refl
second_end [] (suc i) h = refl
second_end (a ∷ []) zero h = refl
second_end (a ∷ b ∷ ws) zero h = absurd (omega arith)
second_end (a ∷ ws) (suc i) h = second_end ws i (omega arith)

-- the numbers of these are put one by one
module _ (number : ℕ → ℕ) (ws : List ℕ) where
  pub seconds_more : (all targets new : List ℕ) (at : ℕ) → 0 < at → at < length ws → new ≡ targets ++ number (get_or ws at 0) ∷ [] → targets ++ map number (every_second (drop (at - 1) ws)) ≡ all
      → new ++ map number (every_second (drop (at + 2 - 1) ws)) ≡ all
  seconds_more all targets new zero some inside is before = absurd (omega arith)
  seconds_more all targets new (suc i) some inside is before =
      let back : suc i - 1 ≡ i = omega arith in
      let next : suc i + 2 - 1 ≡ suc (suc i) = omega arith in
      let old : targets ++ map number (every_second (drop i ws)) ≡ all = subst (λ (k : ℕ). targets ++ map number (every_second (drop k ws)) ≡ all) back before in
      subst (λ (k : ℕ). new ++ map number (every_second (drop k ws)) ≡ all) (sym next)
      (ap (λ (l : List ℕ). l ++ map number (every_second (drop (suc (suc i)) ws))) is ∙ append_assoc targets (number (get_or ws (suc i) 0) ∷ []) (map number (every_second (drop (suc (suc i)) ws)))
      ∙ ap (λ (l : List ℕ). targets ++ map number l) (sym (second_step ws i inside)) ∙ old)

  pub seconds_all : (all targets : List ℕ) (at : ℕ) → 0 < at → length ws ≤ at → targets ++ map number (every_second (drop (at - 1) ws)) ≡ all → targets ≡ all
  seconds_all all targets zero some end before = absurd (omega arith)
  seconds_all all targets (suc i) some end before =
      let back : suc i - 1 ≡ i = omega arith in
      let old : targets ++ map number (every_second (drop i ws)) ≡ all = subst (λ (k : ℕ). targets ++ map number (every_second (drop k ws)) ≡ all) back before in
      sym (append_none targets) ∙ ap (λ (l : List ℕ). targets ++ map number l) (sym (second_end ws i end)) ∙ old where
        append_none : (l : List ℕ) → l ++ [] ≡ l
        append_none [] = refl
        append_none (x ∷ l) = ap (λ (m : List ℕ). x ∷ m) (append_none l)
