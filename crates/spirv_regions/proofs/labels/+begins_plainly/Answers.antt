use Rattle.std.proofs.Common.{Some, sym, ap, ◌∙◌, arith}
use Rattle.spirv_code.specs.Trees.{begins_plainly}
use Rattle.spirv_code.proofs.TreeLaws.{first_below}
use Rattle.spirv_regions.proofs.Nodes.{at_node}
use Rattle.spirv_regions.proofs.labels.+begins_plainly.Goals as goal

pub begins_plainly-requires : goal.begins_plainly-requires
begins_plainly-requires t c =
    let below = first_below c.args.list.now c.requires c.args.place _ _ _ (sym c.in-Some-Then.ensures.value ∙ ap Some c.in-Some-Then.field-0-is) in
    (omega (arith, below), c.requires)

pub returns-in-Some-Then : goal.returns-in-Some-Then
returns-in-Some-Then t c =
    c.begins_plainly.ensures ∙ at_node c.args.list.now c.requires begins_plainly c.args.place _ (sym c.in-Some-Then.ensures.value ∙ ap Some c.in-Some-Then.field-0-is)
