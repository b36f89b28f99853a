use Rattle.std.proofs.Common.{List, subst, length, sym}
use Rattle.flow_scans.specs.declared.span.Span.{Span}
use Rattle.flow_scans.specs.Spans.{Below}
use Rattle.flow_rules.specs.Lists.{SpanOf, OfFamily}
use Rattle.flow_rules.proofs.Numbers.{below_of, end_table_of}
use Rattle.flow_rules.proofs.tables.end_table.Goals as goal

pub first_ends-requires-clause-below : goal.first_ends-requires-clause-below
first_ends-requires-clause-below c =
    subst (λ (spans : List Span). Below (length c.args.blocks.now) spans) (sym c.deref.ensures.value) (below_of c.args.blocks.now c.requires.numbered c.args.family c.in_ok-spans.spans.items c.in_ok-spans.ensures)

pub returns : goal.returns
returns c =
    rw c.in_ok-runs.ensures
    (end_table_of (SpanOf (OfFamily c.args.blocks.now c.args.family)) c.in_ok-spans.spans.items c.in_ok-spans.ensures c.args.gap (length c.args.blocks.now) c.deref.result.now c.in_ok-table.table.items c.deref.ensures.value c.in_ok-table.ensures.len c.in_ok-table.ensures.each)
