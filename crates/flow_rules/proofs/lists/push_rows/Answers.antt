use Rattle.flow_rules.proofs.Parts.{rows_all}
use Rattle.flow_rules.proofs.lists.push_rows.Goals as goal

pub returns : goal.returns
returns c = λ bs at.
    rows_all bs c.args.p c.args.spans.now.items c.push_nested.new.spans.items c.push_span.new.spans.items c.continue_of.result (c.in_ok-push_nested.ensures bs at) c.in_ok-push_span.ensures (c.continue_of.ensures bs at)
