use Rattle.std.proofs.Common.{Some, sym, ap, ◌∙◌, arith}
use Rattle.spirv_code.specs.Trees.{arms_of, tree_at, with_arms}
use Rattle.spirv_code.proofs.TreeLaws.{leaf_below}
use Rattle.spirv_regions.proofs.Nodes.{at_node, with_arms_twice}
use Rattle.spirv_regions.proofs.labels.+leaf_at.Goals as goal

pub leaf_at-requires : goal.leaf_at-requires
leaf_at-requires t c =
    let below = leaf_below c.args.list.now c.requires c.args.place _ _ (sym c.in-Some-Arms.ensures.value ∙ ap Some c.in-Some-Arms.field-0-is) in
    (omega (arith, below), c.requires)

pub returns-in-Some-Arms-clause-leaf : goal.returns-in-Some-Arms-clause-leaf
returns-in-Some-Arms-clause-leaf t c = λ arms.
    sym (at_node c.args.list.now c.requires (λ tree. with_arms tree arms) c.args.place _ (sym c.in-Some-Arms.ensures.value ∙ ap Some c.in-Some-Arms.field-0-is)) ∙ with_arms_twice (tree_at c.args.list.now c.in-Some-Arms.first) (arms_of (tree_at c.args.list.now) c.in-Some-Arms.field-0-1) arms ∙ c.leaf_at.ensures.leaf arms
