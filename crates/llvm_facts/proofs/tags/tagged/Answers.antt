use Rattle.std.proofs.Common.{rules}
use Rattle.llvm_facts.proofs.TagLaws.{sought_goes, sought_found, sought_ends}
use Rattle.llvm_facts.proofs.tags.tagged.Goals as goal

pub returns-then-is_tag : goal.returns-then-is_tag
returns-then-is_tag c = sought_found c.args.lookup.now c.args.tag c.args.fields.now c.loop-k.k c.loop-k.invariant c.loop-k-test.true (search rules)

pub loop-k-preserved : goal.loop-k-preserved
loop-k-preserved c = sought_goes c.args.lookup.now c.args.tag c.args.fields.now c.loop-k.k c.loop-k.invariant c.loop-k-test.true (search rules)

pub returns : goal.returns
returns c = sought_ends c.args.lookup.now c.args.tag c.args.fields.now c.loop-k.k c.loop-k.invariant c.loop-k-test.false
