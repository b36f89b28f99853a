use Rattle.std.proofs.Common.{arith, sym, ◌∙◌, ◌+◌, length}
use Rattle.spirv_meaning.specs.Sought.{LabelBelow}
use Rattle.spirv_meaning.proofs.Searching.{label_more, label_none, get_some, described_as, described_up_to}
use Rattle.spirv_meaning.proofs.site.labels_of.Goals as goal
use Rattle.spirv_meaning.proofs.site.labels_of.Goals.{then-is_label, else-is_label}

pub loop-at-preserved : goal.loop-at-preserved
loop-at-preserved c =
    let insts = c.args.insts.now in
    let stands = get_some insts c.loop-at.at c.index-insts-at.result c.loop-at-test.true c.index-insts-at.is in
    elim c.if-is_label.branch [
      | then-is_label w ↦ described_as (LabelBelow insts c.args.id (c.loop-at.at + 1)) _ _ (w.sought-is ∙ w.join-sought.ensures) (label_more insts c.args.id c.loop-at.at c.index-insts-at.result c.loop-at.sought stands (c.is_label.ensures.0 w.if-is_label.true) c.loop-at.invariant)
      | else-is_label w ↦ described_as (LabelBelow insts c.args.id (c.loop-at.at + 1)) _ _ w.sought-is (label_none insts c.args.id c.loop-at.at c.index-insts-at.result c.loop-at.sought stands (λ e. let clash = sym w.if-is_label.false ∙ c.is_label.ensures.1 e in absurd (cc)) c.loop-at.invariant)
    ]

pub returns : goal.returns
returns c =
    described_up_to (LabelBelow c.args.insts.now c.args.id) c.loop-at.at (length c.args.insts.now) c.loop-at.sought (omega arith) c.loop-at.invariant
