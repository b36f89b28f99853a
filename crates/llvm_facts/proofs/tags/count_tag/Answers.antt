use Rattle.llvm_facts.proofs.TagLaws.{counted_goes, counted_ends}
use Rattle.llvm_facts.proofs.tags.count_tag.Goals as goal

pub loop-k-preserved : goal.loop-k-preserved
loop-k-preserved c =
    counted_goes c.args.lookup.now c.args.tag c.args.fields.now c.loop-k.k c.loop-k.count _ c.loop-k.invariant c.loop-k-test.true c.is_tag.result c.is_tag.ensures c.counted-count.ensures

pub returns : goal.returns
returns c = counted_ends c.args.lookup.now c.args.tag c.args.fields.now c.loop-k.k c.loop-k.count c.loop-k.invariant c.loop-k-test.false
