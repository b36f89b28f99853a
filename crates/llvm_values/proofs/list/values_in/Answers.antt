use Rattle.std.proofs.Common.{refl}
use Rattle.llvm_values.proofs.Listing.{listing_few, listing_more, listing_ends, values_whole, values_few}
use Rattle.llvm_values.proofs.list.values_in.Goals as goal

pub step-requires-clause-few : goal.step-requires-clause-few
step-requires-clause-few c = listing_few _ _ _ _ _ c.requires.framed c.loop-item.invariant c.loop-item-test.true

pub loop-item-preserved : goal.loop-item-preserved
loop-item-preserved c = listing_more _ _ _ _ _ _ _ c.requires.table c.requires.whole c.loop-item.invariant c.loop-item-test.true _ c.in_ok-step.ensures

pub returns-clause-exact : goal.returns-clause-exact
returns-clause-exact c = listing_ends _ _ _ _ _ _ c.loop-item.invariant c.loop-item-test.false refl

pub returns-clause-whole : goal.returns-clause-whole
returns-clause-whole c = values_whole c.args.list.now c.args.fields.now c.args.types.now.list _ (listing_ends _ _ _ _ _ _ c.loop-item.invariant c.loop-item-test.false refl)

pub returns-clause-few : goal.returns-clause-few
returns-clause-few c = values_few c.args.list.now c.args.fields.now c.args.types.now.list _ c.requires.framed (listing_ends _ _ _ _ _ _ c.loop-item.invariant c.loop-item-test.false refl)
