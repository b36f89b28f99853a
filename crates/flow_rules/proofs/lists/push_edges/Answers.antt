use Rattle.std.proofs.Common.{ℕ, List, subst}
use Rattle.flow_rules.specs.Lists.{Extends, TargetOf}
use Rattle.flow_rules.proofs.Parts.{edges_all}
use Rattle.flow_rules.proofs.lists.push_edges.Goals as goal

pub returns : goal.returns
returns c = λ bs at.
    edges_all bs c.args.p c.args.block.now c.args.spans.now.items c.push_targets.new.spans.items c.push_span.new.spans.items c.push_span-2.new.spans.items c.header_of.result c.body_of.result at
    (subst (λ (xs : List ℕ). Extends (TargetOf c.args.p xs) c.args.spans.now.items c.push_targets.new.spans.items) c.targets.ensures c.in_ok-push_targets.ensures)
    c.in_ok-push_span.ensures (c.header_of.ensures bs at) c.in_ok-push_span-2.ensures (c.body_of.ensures bs at)
