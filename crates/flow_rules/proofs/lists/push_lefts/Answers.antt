use Rattle.flow_rules.proofs.Parts.{lefts_all}
use Rattle.flow_rules.proofs.lists.push_lefts.Goals as goal

pub returns : goal.returns
returns c = λ bs at.
    lefts_all bs c.args.p c.args.spans.now.items c.push_span.new.spans.items c.push_span-2.new.spans.items c.selection_of.result c.continue_of.result
    c.in_ok-push_span.ensures (c.selection_of.ensures bs at) c.in_ok-push_span-2.ensures (c.continue_of.ensures bs at)
