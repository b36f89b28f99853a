use Rattle.std.proofs.Common.{ℕ, List, length, subst}
use Rattle.flow_rules.specs.Lists.{Extends, CasesTo}
use Rattle.flow_rules.proofs.Parts.{nested_all}
use Rattle.flow_rules.proofs.lists.push_nested.Goals as goal

pub returns : goal.returns
returns c = λ bs at.
    nested_all bs c.args.p c.args.spans.now.items c.push_span.new.spans.items c.push_span-2.new.spans.items c.push_cases.new.spans.items c.header_of.result c.body_of.result
    c.in_ok-cases.cases.starts.items c.in_ok-cases.cases.last
    c.in_ok-push_span.ensures (c.header_of.ensures bs at) c.in_ok-push_span-2.ensures (c.body_of.ensures bs at) (c.in_ok-cases.ensures bs at)
    (subst (λ (xs : List ℕ). Extends (CasesTo xs c.in_ok-cases.cases.last (length xs)) c.push_span-2.new.spans.items c.push_cases.new.spans.items) c.deref.ensures.value c.in_ok-push_cases.ensures)
