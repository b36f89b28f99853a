-- The targets of branches are declared blocks.
use Rattle.std.proofs.Common.{ℕ, ◌≡◌, ◌<◌, inl, inr, refl, sym, subst, ◌∙◌, ap, arith, List, length, drop, get_or, Bool, true, false, if◌then◌else◌, ◌==◌, ◌||◌}
use Rattle.std.proofs.lemmas.Bool.{or_cases, eqb-true}
use Rattle.llvm_layout.specs.Table.{rows_of}
use Rattle.llvm_layout.specs.Reads.{HasLayout}
use Rattle.llvm_layout.specs.declared.letter.Around.{Around}
use Rattle.llvm_bodies.specs.declared.line.Line.{Line}
use Rattle.profile_tables.specs.Parts.{pairs_of, goes_to, has_target}
use Rattle.entry_read.proofs.Layouts.{IsJump, IsFork, IsSwitch, branch_said, switch_said, goes_below}

module _ (x : Around) (fields : List ℕ) (line : Line) (k : ℕ) where
  abbrev branch_to : List ℕ → Bool
  branch_to ns = if length ns == 1 then get_or ns 0 0 == k else (get_or ns 0 0 == k || get_or ns 1 0 == k)

  abbrev switch_to : List ℕ → Bool
  switch_to ns = get_or ns 1 0 == k || goes_to k (pairs_of (drop 2 ns))

  of_jump : IsJump x fields line.numbers → branch_to line.numbers ≡ true → k < x.blocks
  of_jump j e = let h = eqb-true j.to k (sym (ap branch_to j.is) ∙ e) in let b = j.below in omega (arith, h, b)

  of_fork : IsFork x fields line.numbers → branch_to line.numbers ≡ true → k < x.blocks
  of_fork j e = elim (or_cases (j.yes == k) (j.no == k) (sym (ap branch_to j.is) ∙ e)) [
    | inl h ↦ (let g = eqb-true j.yes k h in let b = j.yes_below in omega (arith, g, b))
    | inr h ↦ (let g = eqb-true j.no k h in let b = j.no_below in omega (arith, g, b))
  ]

  of_switch : IsSwitch x fields line.numbers → switch_to line.numbers ≡ true → k < x.blocks
  of_switch j e = elim (or_cases (j.to == k) (goes_to k (pairs_of j.tail)) (sym (ap switch_to j.is) ∙ e)) [
    | inl h ↦ (let g = eqb-true j.to k h in let b = j.below in omega (arith, g, b))
    | inr h ↦ goes_below x.blocks k j.tail j.goes h
  ]

  pub target_below : HasLayout x (rows_of line.code fields) fields (record { numbers = line.numbers; types = line.types; plain = line.plain }) → has_target k line ≡ true → k < x.blocks
  target_below layout e = by (line.code == 11) (line.code == 12) refl refl e where
    by : (b c : Bool) → (line.code == 11) ≡ b → (line.code == 12) ≡ c → (if b then branch_to line.numbers else if c then switch_to line.numbers else false) ≡ true → k < x.blocks
    by true c f g e = elim (branch_said x fields (record { numbers = line.numbers; types = line.types; plain = line.plain })
        (subst (λ (n : ℕ). HasLayout x (rows_of n fields) fields (record { numbers = line.numbers; types = line.types; plain = line.plain })) (eqb-true line.code 11 f) layout)) [ inl j ↦ of_jump j e | inr j ↦ of_fork j e ]
    by false true f g e = of_switch (switch_said x fields (record { numbers = line.numbers; types = line.types; plain = line.plain })
        (subst (λ (n : ℕ). HasLayout x (rows_of n fields) fields (record { numbers = line.numbers; types = line.types; plain = line.plain })) (eqb-true line.code 12 g) layout)) e
    by false false f g e = cc
