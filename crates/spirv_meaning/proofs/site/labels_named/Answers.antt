use Rattle.std.proofs.Common.{arith, sym, ◌∙◌, ◌+◌, length}
use Rattle.spirv_meaning.specs.Names.{text_words}
use Rattle.spirv_meaning.specs.Sought.{NamedBelow}
use Rattle.spirv_meaning.proofs.Searching.{named_more, named_none, get_some, described_as, described_up_to}
use Rattle.spirv_meaning.proofs.site.labels_named.Goals as goal
use Rattle.spirv_meaning.proofs.site.labels_named.Goals.{in-Some, in_default}

pub loop-inst-preserved : goal.loop-inst-preserved
loop-inst-preserved c =
    let insts = c.args.insts.now in
    let name = text_words c.args.name.now in
    let stands = get_some insts c.loop-inst.inst-index c.inst-item.result c.loop-inst-test.true c.inst-item.is in
    elim c.match-named_id.branch [
      | in-Some w ↦ described_as (NamedBelow insts name (c.loop-inst.inst-index + 1)) _ _ (w.sought-is ∙ w.join-sought.ensures) (named_more insts name c.loop-inst.inst-index w.in-Some.id c.inst-item.result c.loop-inst.sought w.labels_of.result stands (sym c.named_id.ensures ∙ w.in-Some.is) c.loop-inst.invariant w.labels_of.ensures)
      | in_default w ↦ described_as (NamedBelow insts name (c.loop-inst.inst-index + 1)) _ _ w.sought-is (named_none insts name c.loop-inst.inst-index c.inst-item.result c.loop-inst.sought stands (sym c.named_id.ensures ∙ w.in_default.is) c.loop-inst.invariant)
    ]

pub returns : goal.returns
returns c =
    described_up_to (NamedBelow c.args.insts.now (text_words c.args.name.now)) c.loop-inst.inst-index (length c.args.insts.now) c.loop-inst.sought (omega arith) c.loop-inst.invariant
