use Rattle.std.proofs.Common.{Some, sym, ap, ◌∙◌, arith}
use Rattle.spirv_code.specs.Trees.{label_at, arms_of, tree_at}
use Rattle.spirv_code.proofs.TreeLaws.{first_below}
use Rattle.spirv_regions.proofs.Nodes.{at_node}
use Rattle.spirv_regions.proofs.labels.+entry_label.Goals as goal

pub entry_label-requires : goal.entry_label-requires
entry_label-requires t c =
    let below = first_below c.args.list.now c.requires.earlier c.args.place _ _ _ (sym c.in-Some-Then.ensures.value ∙ ap Some c.in-Some-Then.field-0-is) in
    (omega (arith, below), (c.requires.few, c.requires.earlier))

pub returns-in-Some-Then : goal.returns-in-Some-Then
returns-in-Some-Then t c =
    c.entry_label.ensures ∙ at_node c.args.list.now c.requires.earlier label_at c.args.place _ (sym c.in-Some-Then.ensures.value ∙ ap Some c.in-Some-Then.field-0-is)

pub returns-in-Some-Arms : goal.returns-in-Some-Arms
returns-in-Some-Arms t c =
    c.leaf_label.ensures (arms_of (tree_at c.args.list.now) c.in-Some-Arms.field-0-1) ∙ at_node c.args.list.now c.requires.earlier label_at c.args.place _ (sym c.in-Some-Arms.ensures.value ∙ ap Some c.in-Some-Arms.field-0-is)
