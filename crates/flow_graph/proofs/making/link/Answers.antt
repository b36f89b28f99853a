use Rattle.flow_graph.proofs.Placing.{place_start}
use Rattle.flow_graph.proofs.making.link.Goals as goal

pub loop-i-init : goal.loop-i-init
loop-i-init c =
    place_start c.args.edges.now c.args.chosen.now c.args.cells.now c.args.first_from.now c.args.first_to.now c.requires.unused c.requires.none_from c.requires.none_to
