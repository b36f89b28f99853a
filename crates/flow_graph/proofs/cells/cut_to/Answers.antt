use Rattle.flow_graph.proofs.TargetLists.{cells_cut, first_cut}
use Rattle.flow_graph.proofs.cells.cut_to.Goals as goal

pub returns-in-Some-clause-lists : goal.returns-in-Some-clause-lists
returns-in-Some-clause-lists c =
    cells_cut c.args.cells.now c.args.first.now c.requires.lists c.args.c c.requires.c c.requires.used c.in-Some.p c.in-Some.ensures

pub returns-in-None-clause-lists : goal.returns-in-None-clause-lists
returns-in-None-clause-lists c =
    first_cut c.args.cells.now c.args.first.now c.requires.lists c.args.c c.requires.c c.requires.used c.requires.to c.in-None.ensures
