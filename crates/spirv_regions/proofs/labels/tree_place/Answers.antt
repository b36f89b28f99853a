use Rattle.std.proofs.Common.{Some, sym, ap, ◌∙◌}
use Rattle.spirv_code.specs.Trees.{arms_of, place_of, tree_at}
use Rattle.spirv_regions.proofs.Nodes.{at_node}
use Rattle.spirv_regions.proofs.labels.tree_place.Goals as goal

pub returns-in-Some-Arms-clause-place : goal.returns-in-Some-Arms-clause-place
returns-in-Some-Arms-clause-place c =
    c.leaf_place.ensures.place (arms_of (tree_at c.args.list.now) c.in-Some-Arms.field-0-1) ∙ at_node c.args.list.now c.requires place_of c.args.place _ (sym c.in-Some-Arms.ensures.value ∙ ap Some c.in-Some-Arms.field-0-is)
