use Rattle.std.proofs.Common.{◌+◌, take, sym, subst}
use Rattle.dxil_form.specs.Graphs.{Graph}
use Rattle.flow_graph.specs.Shapes.{plain}
use Rattle.region_builder.specs.Absorbing.{AreAbsorbed}
use Rattle.region_builder.proofs.Absorbing.{none_absorbed, child_pred, next_absorbed}
use Rattle.region_builder.proofs.builder.absorb_all.Goals as goal

pub loop-n-init : goal.loop-n-init
loop-n-init c = none_absorbed (plain c.args.graph.now) c.args.a c.requires.formed c.requires.reached

pub absorb-requires-clause-sole : goal.absorb-requires-clause-sole
absorb-requires-clause-sole c =
    child_pred (plain c.args.graph.now) c.args.a c.args.nodes.now c.requires.children c.loop-n.n (plain c.loop-n.graph) c.loop-n.invariant c.loop-n-test.true

pub loop-n-preserved : goal.loop-n-preserved
loop-n-preserved c =
    let P : Graph → Type 0 = λ h. AreAbsorbed (plain c.args.graph.now) c.args.a (take (c.loop-n.n + 1) c.args.nodes.now) h in
    subst P (sym c.absorb.ensures)
    (next_absorbed (plain c.args.graph.now) c.args.a c.args.nodes.now c.requires.children c.loop-n.n (plain c.loop-n.graph) c.loop-n.invariant c.loop-n-test.true)
