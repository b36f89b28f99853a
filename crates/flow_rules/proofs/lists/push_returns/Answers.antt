use Rattle.std.proofs.Common.{refl}
use Rattle.flow_rules.proofs.Listing.{returns_more, returns_pass}
use Rattle.flow_rules.proofs.lists.push_returns.Goals as goal
use Rattle.flow_rules.proofs.lists.push_returns.Goals.{then-target-p+in_ok-push_one, else-target-p}

pub loop-target-preserved : goal.loop-target-preserved
loop-target-preserved c = elim c.if-target-p.branch [
  | then-target-p+in_ok-push_one w ↦ rw w.spans-is
      (returns_more c.args.p c.args.targets.now c.args.spans.now.items c.loop-target.spans.items w.push_one.new.spans.items c.loop-target.target-index _ c.loop-target-test.true refl w.if-target-p.true c.loop-target.invariant w.in_ok-push_one.ensures)
  | else-target-p w ↦ rw w.spans-is (returns_pass c.args.p c.args.targets.now c.args.spans.now.items c.loop-target.spans.items c.loop-target.target-index _ c.loop-target-test.true refl w.if-target-p.false c.loop-target.invariant)
]
