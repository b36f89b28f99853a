use Rattle.flow_graph.proofs.Steps.{merged_is}
use Rattle.flow_graph.proofs.cells.merge.Goals as goal

pub returns-clause-merged : goal.returns-clause-merged
returns-clause-merged c =
    merged_is c.args.a c.args.j c.args.cells.now c.end_edge.new.cells c.take_over.new.cells c.requires.apart c.requires.sole c.end_edge.ensures.ended
    c.take_over.ensures.moved c.take_over.ensures.done
