use Rattle.flow_graph.proofs.TargetLists.{two_sources}
use Rattle.flow_graph.proofs.cells.sole_source.Goals as goal

pub returns-in-Some-clause-none : goal.returns-in-Some-clause-none
returns-in-Some-clause-none c = λ a here other sole.
    two_sources c.args.cells.now c.args.first_to.now c.args.j c.in_ok-c.c c.in-Some.field-0 c.requires.lists c.requires.single
    c.requires.j c.in_ok-c.was c.in-Some.is a sole
