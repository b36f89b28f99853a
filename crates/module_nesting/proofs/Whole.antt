-- No module of the regions that a program is written by has too many merge instructions that wait.
use Rattle.std.proofs.Common.{inl, inr, ◌≤◌, List, length, sym, subst, arith}
use Rattle.std.proofs.lemmas.Bool.{cases_lt}
use Rattle.std.specs.Prelude.{[], ◌∷◌, ◌++◌, take, false}
use Rattle.dxil_form.specs.declared.program.Program.{Program}
use Rattle.dxil_form.specs.declared.region.Region.{Region}
use Rattle.spv_form.specs.declared.module.Inst.{Inst}
use Rattle.order_rules.specs.Merges.{waiting}
use Rattle.program_regions.specs.Chosen.{AreRegions}
use Rattle.spirv_code.specs.Trees.{root_of}
use Rattle.written_rows.specs.Code.{inst}
use Rattle.nested_rows.proofs.Rows.{shallow}
use Rattle.module_structure.specs.Depth.{depth_of}
use Rattle.module_structure.proofs.Function.{label, slots, body, front, front_low, insts_are, row}
use Rattle.module_nesting.specs.Laws.{ModulesStayShallow}
use Rattle.module_nesting.proofs.Counted.{root_depth}
use Rattle.module_nesting.proofs.Flat.{flat_depth}
use Rattle.module_nesting.proofs.Reachable.{blocks, are_reachable, leaves_few}

root_low : (p : Program) (list : List Region) → AreRegions p list → depth_of (root_of list) ≤ 1023
root_low p list h =
    let w = h.wired in
    let all = blocks p list w in
    elim (cases_lt 400 (length all)) [
      | inl many ↦ (let low = flat_depth p list w (h.many all (are_reachable p list w) many) in omega (arith, low))
      | inr less ↦ (let low = root_depth p list w in let leaves = leaves_few p list w in omega (arith, low, leaves, less))
    ]

pub stays_shallow : ModulesStayShallow
stays_shallow p list at v plan h regions j =
    let w = h.wired in
    let low = root_low p list h in
    let begins = label p list at v plan w regions in
    let code = slots p list at v plan w regions ++ body p list at v plan w regions in
    let end : List Inst = inst 56 [] ∷ [] in
    subst (λ is. waiting (take j is) ≤ 1023) (sym (insts_are p list at v plan w regions)) (shallow 1023 false (front p list at v plan w regions) code end begins (front_low p list at v plan w regions) (row p list at v plan w regions 1023 low) (omega arith, tt) j)
