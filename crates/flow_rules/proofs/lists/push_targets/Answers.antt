use Rattle.std.proofs.Common.{refl}
use Rattle.flow_rules.proofs.Listing.{targets_more}
use Rattle.flow_rules.proofs.lists.push_targets.Goals as goal

pub loop-target-preserved : goal.loop-target-preserved
loop-target-preserved c =
    targets_more c.args.p c.args.targets.now c.args.spans.now.items c.loop-target.spans.items c.push_one.new.spans.items c.loop-target.target-index _ c.loop-target-test.true refl c.loop-target.invariant c.in_ok-push_one.ensures
