use Rattle.std.proofs.Common.{get_or, None}
use Rattle.flow_graph.specs.Links.{left, Sound}
use Rattle.flow_graph.specs.Changes.{Between, Merging}
use Rattle.flow_graph.proofs.cells.take_over.Given as goal

abbrev pub invariant-loop-first_from : goal.invariant-loop-first_from
invariant-loop-first_from l = record {
  sound : Sound l.cells l.first_from l.first_to;
  moved : Between l.a l.j l.fn.cells l.cells;
  merging : Merging l.a l.j l.marks l.hint l.cells;
}

abbrev pub decreases-loop-first_from : goal.decreases-loop-first_from
decreases-loop-first_from l = left (get_or l.first_from l.j None)
