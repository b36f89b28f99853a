use Rattle.std.proofs.Common.{ℕ, List, subst}
use Rattle.flow_rules.specs.Lists.{Between}
use Rattle.flow_rules.proofs.Starts.{starts_some, starts_none}
use Rattle.flow_rules.proofs.lists.case_starts.Goals as goal

pub returns-in_ok-starts-in-Some : goal.returns-in_ok-starts-in-Some
returns-in_ok-starts-in-Some c = λ bs at. starts_some bs c.args.p c.args.block.now c.in-Some.span c.in_ok-starts-in-Some.starts.items at (c.in-Some.ensures bs at)
    (subst (λ (xs : List ℕ). Between xs c.args.p c.in-Some.span.end c.in_ok-starts-in-Some.starts.items) c.targets.ensures c.in_ok-starts-in-Some.ensures)

pub returns-in-None : goal.returns-in-None
returns-in-None c = λ bs at. starts_none bs c.args.p (c.in-None.ensures bs at) c.new.result.items c.new.ensures.items 0
