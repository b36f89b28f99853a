use Rattle.std.proofs.Common.{ℕ, List, subst}
use Rattle.flow_rules.specs.Lists.{Extends, FromSpan}
use Rattle.flow_rules.proofs.Parts.{froms_all}
use Rattle.flow_rules.proofs.lists.push_case_froms.Goals as goal

pub returns : goal.returns
returns c = λ bs at.
    froms_all bs c.args.p c.args.spans.now.items c.push_froms.new.spans.items c.in_ok-cases.cases.starts.items c.in_ok-cases.cases.last (c.in_ok-cases.ensures bs at)
    (subst (λ (xs : List ℕ). Extends (FromSpan xs) c.args.spans.now.items c.push_froms.new.spans.items) c.deref.ensures.value c.in_ok-push_froms.ensures)
