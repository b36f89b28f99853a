use Rattle.std.proofs.Common.{ℕ, List, subst}
use Rattle.flow_rules.specs.Lists.{Extends, BackTarget, BackSource, LoopOf}
use Rattle.flow_rules.proofs.Listing.{extends_span}
use Rattle.flow_rules.proofs.Parts.{backs_all, returns_all}
use Rattle.flow_rules.proofs.lists.push_family.Goals as goal

pub returns-in_ok-push_edges-in-Edges : goal.returns-in_ok-push_edges-in-Edges
returns-in_ok-push_edges-in-Edges c = rw c.in-Edges.is (λ bs at. c.in_ok-push_edges-in-Edges.ensures bs at)

pub returns-in_ok-push_backs-in-Backs : goal.returns-in_ok-push_backs-in-Backs
returns-in_ok-push_backs-in-Backs c = rw c.in-Backs.is (λ bs at.
    backs_all bs c.args.p c.args.block.now c.args.spans.now.items c.push_backs.new.spans.items at
    (subst (λ (xs : List ℕ). Extends (BackTarget c.args.p xs) c.args.spans.now.items c.push_backs.new.spans.items) c.targets.ensures c.in_ok-push_backs-in-Backs.ensures))

pub returns-in_ok-push_returns-in-Returns : goal.returns-in_ok-push_returns-in-Returns
returns-in_ok-push_returns-in-Returns c = rw c.in-Returns.is (λ bs at.
    returns_all bs c.args.p c.args.block.now c.args.spans.now.items c.push_returns.new.spans.items at
    (subst (λ (xs : List ℕ). Extends (BackSource c.args.p xs) c.args.spans.now.items c.push_returns.new.spans.items) c.targets-in-Returns.ensures c.in_ok-push_returns-in-Returns.ensures))

pub returns-in_ok-push_span-in-Loops : goal.returns-in_ok-push_span-in-Loops
returns-in_ok-push_span-in-Loops c = rw c.in-Loops.is (λ bs at.
    extends_span (LoopOf bs c.args.p) c.args.spans.now.items c.push_span-in-Loops.new.spans.items c.loop_of.result c.in_ok-push_span-in-Loops.ensures (c.loop_of.ensures bs at))
