use Rattle.std.proofs.Common.{◌∙◌, sym, ap}
use Rattle.std.specs.Prelude.{◌+◌, option_map}
use Rattle.spirv_code.specs.Plans.{slots_from}
use Rattle.spirv_table.specs.Tables.{plan_of}
use Rattle.spirv_table.proofs.Keys.{slot_place}
use Rattle.spirv_table.proofs.tables.Tables.slot_id.Goals as goal

pub returns-in-Some : goal.returns-in-Some
returns-in-Some c =
    ap (option_map (λ k. slots_from (plan_of c.args.self.now) + k)) (sym c.in-Some.is ∙ c.get_index_of.ensures.index) ∙ slot_place c.args.self.now.slots.keys c.args.slot (slots_from (plan_of c.args.self.now))

pub returns-in-None : goal.returns-in-None
returns-in-None c =
    ap (option_map (λ k. slots_from (plan_of c.args.self.now) + k)) (sym c.in-None.is ∙ c.get_index_of.ensures.index) ∙ slot_place c.args.self.now.slots.keys c.args.slot (slots_from (plan_of c.args.self.now))
