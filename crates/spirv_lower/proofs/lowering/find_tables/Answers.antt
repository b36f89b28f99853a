use Rattle.std.proofs.Common.{List, length, ap, ◌∙◌}
use Rattle.spirv_code.specs.declared.key.Global.{Global}
use Rattle.spirv_code.specs.declared.key.Slot.{Slot}
use Rattle.spirv_code.specs.Further.{wants}
use Rattle.spirv_code.specs.Needed.{table_of}
use Rattle.spirv_code.specs.Plans.{Plan}
use Rattle.chosen_plan.specs.Chosen.{variables}
use Rattle.spirv_lower.proofs.lowering.find_tables.Goals as goal

pub returns : goal.returns
returns c =
    let p = c.args.p.now in
    let list = c.args.list.now in
    let plan : List Slot → List Global → Plan = λ ss ts. record { regions = length list; slots = ss; table = ts } in
    let found = variables p list c.args.slots.now in
    let keys = c.in_ok-table.ensures ∙ ap (λ w. table_of p list w c.as_slice.result.now) c.wants.ensures ∙ ap (table_of p list (wants p list)) (c.as_slice.ensures.keys ∙ c.in_ok-variables.ensures) in
    ap (λ ss. plan ss c.in_ok-table.table.keys) c.in_ok-variables.ensures ∙ ap (plan found) keys
