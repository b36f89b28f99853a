use Rattle.std.proofs.Common.{refl, sym, ◌∙◌}
use Rattle.std.proofs.lemmas.Option.{slice_get_read}
use Rattle.order_rules.proofs.OrderLaws.{stuck_here, never_stuck}
use Rattle.order_rules.proofs.order.first_out_of_order.Goals as goal

pub returns-in-None : goal.returns-in-None
returns-in-None c = stuck_here _ _ c.index-insts-at.result _ (slice_get_read _ _ _ _ refl c.loop-at-test.true c.index-insts-at.is) c.loop-at.invariant (sym c.follow.ensures ∙ c.in-None.is)

pub returns : goal.returns
returns c = never_stuck _ _ _ c.loop-at.invariant c.loop-at-test.false
