use Rattle.std.proofs.Common.{rules}
use Rattle.llvm_facts.proofs.TagLaws.{all_goes, all_ends}
use Rattle.llvm_facts.proofs.tags.are_tags.Goals as goal

pub loop-k-preserved : goal.loop-k-preserved
loop-k-preserved c = all_goes c.args.lookup.now c.args.fields.now c.loop-k.k c.loop-k.invariant c.loop-k-test.true (search rules)

pub returns : goal.returns
returns c = all_ends c.args.lookup.now c.args.fields.now c.loop-k.k c.loop-k.invariant c.loop-k-test.false
