use Rattle.std.proofs.Common.{◌<◌, length, arith, refl}
use Rattle.flow_graph.specs.Given.{edge_at}
use Rattle.flow_graph.proofs.Placing.{place_more}
use Rattle.flow_graph.proofs.making.place.Goals as goal

pub returns : goal.returns
returns c =
    let edge = edge_at c.args.edges.now c.args.i in
    let within = c.requires.within c.args.i c.requires.i in
    let inside : c.args.i < length c.args.cells.now = omega arith in
    let fits : edge.to < length c.args.first_to.now = (let w = within.1 in omega arith) in
    place_more c.args.edges.now c.args.chosen.now c.args.i c.args.cells.now c.args.first_from.now c.args.first_to.now c.requires.before
    edge.from edge.to refl refl inside within.0 fits c.if-not-chosen-i.false
