use Rattle.std.proofs.Common.{sym, ◌∙◌}
use Rattle.flow_rules.proofs.Listing.{switch_span}
use Rattle.flow_rules.proofs.lists.switch_of.Goals as goal

pub returns-in-Switch : goal.returns-in-Switch
returns-in-Switch c = λ bs at. switch_span bs c.args.p c.args.block.now c.selection_of.result at (sym c.terminator.ensures ∙ c.in-Switch.is) (c.selection_of.ensures bs at)
