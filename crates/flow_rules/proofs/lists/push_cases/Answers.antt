use Rattle.flow_rules.proofs.Listing.{cases_more}
use Rattle.flow_rules.proofs.lists.push_cases.Goals as goal

pub loop-i-preserved : goal.loop-i-preserved
loop-i-preserved c =
    cases_more c.args.starts.now c.args.last c.loop-i.i c.args.spans.now.items c.loop-i.spans.items c.push_span.new.spans.items c.case_at.result c.loop-i.invariant c.in_ok-push_span.ensures c.case_at.ensures
