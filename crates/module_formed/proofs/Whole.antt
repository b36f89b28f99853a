-- The module of a program is formed: what stands before the code of the regions, that code, and what stands behind it.
use Rattle.std.proofs.Common.{◌≡◌, ℕ, ◌+◌, ◌≤◌, Bool, true, false, List, ◌++◌, length, length-append, refl, sym, subst, arith}
use Rattle.std.specs.Prelude.{nat_eq, if◌then◌else◌}
use Rattle.dxil_form.specs.declared.program.Program.{Program}
use Rattle.dxil_form.specs.declared.region.Region.{Region}
use Rattle.dxil_form.specs.Sound.{Sound}
use Rattle.dxil_form.specs.Wired.{Wired}
use Rattle.spv_form.specs.declared.module.Inst.{Inst}
use Rattle.spv_form.specs.declared.module.Version.{Version}
use Rattle.spv_form.specs.Formed.{IsFormed}
use Rattle.spirv_meaning.specs.Bindings.{Bindings}
use Rattle.spirv_code.specs.Plans.{Plan, context_of}
use Rattle.spirv_code.specs.Trees.{root_of, label_at, begins_plainly}
use Rattle.spirv_code.specs.Leaves.{followed}
use Rattle.spirv_code.specs.Rows.{onwards, row_code}
use Rattle.spirv_code.specs.Frame.{frame, body_code, closing, insts_of, is_bare, bound_of, module_of}
use Rattle.frame_facts.proofs.Searches.{both_so, eq_told}
use Rattle.formed_lines.proofs.Lists.{AreFormed, join, all_formed, each_formed}
use Rattle.formed_lines.proofs.Shapes.{label_formed, branch_formed}
use Rattle.chosen_plan.specs.IsPlan.{IsPlan}
use Rattle.chosen_plan.proofs.Whole.{plans_are_chosen}
use Rattle.formed_rows.proofs.Whole.{rows_are_formed}
use Rattle.module_formed.specs.Laws.{ModulesAreFormed}
use Rattle.module_formed.proofs.Framed.{Holds, frame_formed, closing_formed}
use Rattle.module_formed.proofs.Bound.{count, full, bound_full, room, upto_end, root_label, holds_full}
use Rattle.module_formed.proofs.Bare.{bare_body, bare_holds}

module _ (p : Program) (list : List Region) (at : Bindings) (v : Version) (plan : Plan) (sound : Sound p) (wired : Wired p list) (is_plan : IsPlan p list plan) where
  abbrev begins : ℕ
  begins = length (frame p list at v plan)

  whole : (b : ℕ) → Holds b list plan → AreFormed b (body_code p plan (root_of list) begins) → AreFormed b (insts_of p list at v plan)
  whole b holds body =
      join b (frame p list at v plan) _ (frame_formed p list at v plan sound is_plan b holds) (join b (body_code p plan (root_of list) begins) closing body (closing_formed b))

  -- ---- where something is declared

  abbrev row : ℕ → List Inst
  row place = row_code (context_of p plan) place (root_of list)

  body_ends : begins + length (body_code p plan (root_of list) begins) ≤ count p list at v plan
  body_ends =
      let a = length-append (frame p list at v plan) (body_code p plan (root_of list) begins ++ closing) in
      let b = length-append (body_code p plan (root_of list) begins) closing in
      omega (arith, a, b)

  row_formed : (place : ℕ) → place + length (row place) ≤ count p list at v plan → AreFormed (full p list at v plan) (row place)
  row_formed place few =
      each_formed (full p list at v plan) (row place) (rows_are_formed p list plan (full p list at v plan) place sound wired is_plan (room p list at v plan) (upto_end p list at v plan (place + length (row place)) few))

  body_formed : AreFormed (full p list at v plan) (body_code p plan (root_of list) begins)
  body_formed = by_test (begins_plainly (root_of list)) body_ends
    where
      label : ℕ
      label = label_at (root_of list)

      by_test : (t : Bool) → begins + length (if t then row begins else followed begins (onwards label) row) ≤ count p list at v plan → AreFormed (full p list at v plan) (if t then row begins else followed begins (onwards label) row)
      by_test true few = row_formed begins few
      by_test false few =
          let there = root_label p list at v plan wired is_plan in
          let further = length-append (onwards label) (row (begins + length (onwards label))) in
          (branch_formed (full p list at v plan) label there, (label_formed (full p list at v plan) label there, row_formed (begins + length (onwards label)) (omega (arith, few, further))))

  full_formed : AreFormed (full p list at v plan) (insts_of p list at v plan)
  full_formed = whole (full p list at v plan) (holds_full p list at v plan wired is_plan) body_formed

  -- ---- where nothing is

  bare_formed : is_bare plan ≡ true → AreFormed 5 (insts_of p list at v plan)
  bare_formed e =
      let both = both_so (nat_eq plan.regions 1) (nat_eq (length plan.slots + length plan.table) 0) e in
      let one = eq_told plan.regions 1 both.0 in
      let none = eq_told (length plan.slots + length plan.table) 0 both.1 in
      whole 5 (bare_holds p list plan wired is_plan one none) (bare_body p list plan wired is_plan one none begins)

  formed_by_plan : IsFormed (module_of p list at v plan)
  formed_by_plan = all_formed (bound_of plan (count p list at v plan)) (insts_of p list at v plan) (by_test (is_bare plan) refl)
    where
      by_test : (t : Bool) → is_bare plan ≡ t → AreFormed (bound_of plan (count p list at v plan)) (insts_of p list at v plan)
      by_test true e =
          subst (λ t. AreFormed (if t then 5 else full p list at v plan) (insts_of p list at v plan)) (sym e) (bare_formed e)
      by_test false e =
          subst (λ b. AreFormed b (insts_of p list at v plan)) (sym (bound_full p list at v plan e)) full_formed

pub modules_are_formed : ModulesAreFormed
modules_are_formed p list slots at v sound wired are =
    formed_by_plan p list at v _ sound wired (plans_are_chosen p list slots sound wired are)
