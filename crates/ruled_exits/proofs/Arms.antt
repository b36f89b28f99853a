-- The labels of the arms of a selection stand in their code.
use Rattle.std.proofs.Common.{◌≡◌, ℕ, Bool, true, false, List, length, ◌+◌, Some, subst}
use Rattle.std.specs.Prelude.{nat_eq, if◌then◌else◌}
use Rattle.spv_form.specs.declared.module.Inst.{Inst}
use Rattle.spirv_code.specs.Plans.{Context}
use Rattle.spirv_code.specs.Trees.{No_arm, Arms, Arm, label_at, arm_label}
use Rattle.spirv_code.specs.Rows.{arm_code, arm_pairs, row_code, met_arms}
use Rattle.line_runs.specs.Held.{Setting, Has}
use Rattle.line_runs.proofs.Pieces.{has_front, has_back}
use Rattle.line_runs.proofs.Tests.{none_some, some_inj}
use Rattle.ruled_exits.specs.Exits.{Stands}
use Rattle.ruled_exits.proofs.Switches.{PairsStand}

module _ (s : Setting) where
  abbrev c : Context
  c = s.context

  pub met_labels : (arms : Arms) (meet place : ℕ) → Has s.made place (met_arms c meet place arms) → (k id : ℕ) → arm_label arms k ≡ Some id → Stands s.made.insts id
  met_labels No_arm meet place has k id e = absurd (none_some e)
  met_labels (Arm target tree arms) meet place has k id e =
      let front : List Inst = arm_code place meet tree (λ q. row_code c q tree) in
      let back : List Inst = met_arms c meet (place + length front) arms in
      let first = has_front s.made place front back has in
      by_test (nat_eq k target) (place, first.0) e (met_labels arms meet (place + length front) (has_back s.made place front back has) k id)
    where
      by_test : (t : Bool) → Stands s.made.insts (label_at tree) → (if t then Some (label_at tree) else arm_label arms k) ≡ Some id → (arm_label arms k ≡ Some id → Stands s.made.insts id) → Stands s.made.insts id
      by_test true there e rest = subst (Stands s.made.insts) (some_inj e) there
      by_test false there e rest = rest e

  pub met_pairs : (arms : Arms) (meet place : ℕ) → Has s.made place (met_arms c meet place arms) → PairsStand s.made.insts (arm_pairs arms)
  met_pairs No_arm meet place has = tt
  met_pairs (Arm target tree arms) meet place has =
      let front : List Inst = arm_code place meet tree (λ q. row_code c q tree) in
      let back : List Inst = met_arms c meet (place + length front) arms in
      let first = has_front s.made place front back has in
      ((place, first.0), met_pairs arms meet (place + length front) (has_back s.made place front back has))
