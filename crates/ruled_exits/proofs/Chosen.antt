-- A selection among the next blocks of a block keeps the rules.
use Rattle.std.proofs.Common.{◌≡◌, ℕ, ◌+◌, ◌≤◌, true, List, [], ◌∷◌, map, Option, Some, None, refl, sym, subst, arith}
use Rattle.dxil_form.specs.declared.block.Term.{Term}
use Rattle.dxil_form.specs.declared.block.Term.TheVariants.{Ret, Unreachable, Go, If, Switch}
use Rattle.dxil_form.specs.Branches.{has, targets}
use Rattle.spv_form.specs.declared.module.Inst.{Inst}
use Rattle.spirv_code.specs.Plans.{Context, inst, result, int_id, bool_id}
use Rattle.spirv_code.specs.Exits.{setters_code, way_label, pairs, choose_code}
use Rattle.line_runs.specs.Held.{Setting, Has}
use Rattle.access_runs.proofs.Stepping.{has_at}
use Rattle.region_runs.proofs.Targets.{has_here, has_there, way_armed, way_loose}
use Rattle.ruled_lines.specs.Kept.{AreKept, StandsAhead}
use Rattle.ruled_lines.proofs.Readings.{block_next, value_later}
use Rattle.ruled_lines.proofs.Straight.{cons_kept}
use Rattle.ruled_lines.proofs.Jumps.{merge_rules, fork_rules}
use Rattle.ruled_exits.proofs.Wants.{setters_kept, setter_there}
use Rattle.ruled_exits.specs.Exits.{Stands, CanWant}
use Rattle.ruled_exits.proofs.Switches.{PairsStand, switch_rules}
use Rattle.ruled_exits.proofs.Tested.{TestedValue}

-- the labels of the pairs of cases
pub pairs_stand : (insts : List Inst) (to : ℕ → ℕ) (cases : List (ℕ × ℕ)) → ((k : ℕ) → has k (map (λ (x : ℕ × ℕ). x.1) cases) ≡ true → Stands insts (to k)) → PairsStand insts (pairs to cases)
pairs_stand insts to [] there = tt
pairs_stand insts to (x ∷ cases) there =
    (there x.1 (has_here x.1 (map (λ (x : ℕ × ℕ). x.1) cases)), pairs_stand insts to cases (λ k among. there k (has_there k x.1 (map (λ (x : ℕ × ℕ). x.1) cases) among)))

module _ (s : Setting) (low : ℕ) (ahead : StandsAhead s low) where
  abbrev insts : List Inst
  insts = s.made.insts

  abbrev c : Context
  c = s.context

  -- where a branch goes: to an arm, or to a setter
  way_stands : (labels : ℕ → Option ℕ) (ks : List ℕ) (place meet k : ℕ) → ((j id : ℕ) → labels j ≡ Some id → Stands insts id) → (labels k ≡ None → has k ks ≡ true) → Has s.made place (setters_code c place meet ks) → Stands insts (way_label labels (result c place) ks k)
  way_stands labels ks place meet k armed loose code = by_label (labels k) refl
    where
      by_label : (o : Option ℕ) → labels k ≡ o → Stands insts (way_label labels (result c place) ks k)
      by_label (Some id) e = subst (Stands insts) (sym (way_armed labels (result c place) ks k id e)) (armed k id e)
      by_label None e =
          subst (Stands insts) (sym (way_loose labels (result c place) ks k e)) (setter_there s ks place meet k (loose e) code)

  pub choose_kept : (term : Term) (place meet id : ℕ) (labels : ℕ → Option ℕ) (ks : List ℕ) → low ≤ place → TestedValue s place id term → Stands insts meet → ((j n : ℕ) → labels j ≡ Some n → Stands insts n) → ((k : ℕ) → has k (targets term) ≡ true → labels k ≡ None → has k ks ≡ true) → ((k : ℕ) → has k ks ≡ true → CanWant s k) → Has s.made place (choose_code c place meet id term labels ks) → AreKept insts place (choose_code c place meet id term labels ks)
  choose_kept Ret place meet id labels ks behind value there armed loose can code = absurd value
  choose_kept Unreachable place meet id labels ks behind value there armed loose can code = absurd value
  choose_kept (Go k) place meet id labels ks behind value there armed loose can code = absurd value
  choose_kept (If cond this other) place meet id labels ks behind value there armed loose can code =
      let e : place + 1 + 1 ≡ place + 2 = omega arith in
      let back : List Inst = setters_code c (place + 2) meet ks in
      let sets = has_at s.made (place + 1 + 1) (place + 2) back e code.1.1 in
      let first = way_stands labels ks (place + 2) meet this armed (loose this (has_here this (other ∷ []))) sets in
      let second = way_stands labels ks (place + 2) meet other armed (loose other (has_there other this (other ∷ []) (has_here other []))) sets in
      let later = value_later insts place (place + 1) id (bool_id c) (omega arith) (block_next insts place (inst 247 (meet ∷ 0 ∷ [])) code.0 refl) value.0 in
      let to : ℕ → ℕ = way_label labels (result c (place + 2)) ks in
      (merge_rules s low ahead place there.0 meet there.1, cons_kept insts (place + 1) (place + 2) (inst 250 (id ∷ to this ∷ to other ∷ [])) back (omega arith) (fork_rules s low ahead (place + 1) id first.0 (to this) second.0 (to other) value.1 later first.1 second.1) (setters_kept s low ahead ks (place + 2) meet there can (omega (arith, behind)) sets))
  choose_kept (Switch on default cases) place meet id labels ks behind value there armed loose can code =
      let e : place + 1 + 1 ≡ place + 2 = omega arith in
      let back : List Inst = setters_code c (place + 2) meet ks in
      let sets = has_at s.made (place + 1 + 1) (place + 2) back e code.1.1 in
      let others : List ℕ = map (λ (x : ℕ × ℕ). x.1) cases in
      let to : ℕ → ℕ = way_label labels (result c (place + 2)) ks in
      let first = way_stands labels ks (place + 2) meet default armed (loose default (has_here default others)) sets in
      let rest = pairs_stand insts to cases (λ k among. way_stands labels ks (place + 2) meet k armed (loose k (has_there k default others among)) sets) in
      let later = value_later insts place (place + 1) id (int_id c) (omega arith) (block_next insts place (inst 247 (meet ∷ 0 ∷ [])) code.0 refl) value.0 in
      (merge_rules s low ahead place there.0 meet there.1, cons_kept insts (place + 1) (place + 2) (inst 251 (id ∷ to default ∷ pairs to cases)) back (omega arith) (switch_rules s low ahead (place + 1) id (to default) (pairs to cases) value.1 later first rest) (setters_kept s low ahead ks (place + 2) meet there can (omega (arith, behind)) sets))
