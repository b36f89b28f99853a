use Rattle.std.proofs.Common.{◌≡◌, map, ap, ◌∙◌}
use Rattle.std.proofs.lemmas.Result.{IfOk-weaker}
use Rattle.resource_map.specs.Pairs.{pair_of}
use Rattle.spv_form.specs.declared.module.Module.{Module}
use Rattle.spirv_code.specs.Frame.{module_of}
use Rattle.spirv_table.specs.Tables.{plan_of}
use Rattle.chosen_plan.specs.Chosen.{plan_for}
use Rattle.spirv_lower.proofs.lowering.write_program.Goals as goal

pub returns : goal.returns
returns c =
    let p = c.args.p.now in
    let list = c.args.list.now in
    let at = map pair_of c.args.bindings.now in
    let v = c.args.version in
    IfOk-weaker c.write_by.result (λ (m : Module). m ≡ module_of p list at v (plan_of c.in_ok-tables.tables)) (λ (m : Module). m ≡ module_of p list at v (plan_for p list c.args.slots.now)) (λ m e. e ∙ ap (module_of p list at v) c.in_ok-tables.ensures) c.write_by.ensures
