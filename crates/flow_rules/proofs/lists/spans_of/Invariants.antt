use Rattle.flow_rules.specs.Lists.{ListsTo, OfFamily}
use Rattle.flow_rules.proofs.lists.spans_of.Given as goal

abbrev pub invariant-loop-p : goal.invariant-loop-p
invariant-loop-p l = ListsTo (OfFamily l.blocks l.family) l.p l.spans.items
