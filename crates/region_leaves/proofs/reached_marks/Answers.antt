use Rattle.std.proofs.Common.{◌≡◌, ◌<◌, true, length, set, subst, arith}
use Rattle.std.proofs.lemmas.List.{with_items_is}
use Rattle.flow_graph.specs.Shapes.{plain}
use Rattle.flow_graph.specs.Given.{given}
use Rattle.dxil_form.specs.Graphs.{Graph}
use Rattle.region_leaves.specs.Edges.{MarksFromStart}
use Rattle.region_leaves.proofs.Reaching.{marks_from_start}
use Rattle.region_leaves.proofs.reached_marks.Goals as goal

pub returns-clause-exact : goal.returns-clause-exact
returns-clause-exact c =
    let n : length c.mark_reached.new.marks ≡ c.in-Ok.marks.len = omega (arith, c.in-Ok.ensures.len) in
    let e = with_items_is c.in-Ok.marks c.mark_reached.new.marks n in
    let l : 0 < length c.mark_reached.new.marks = omega (arith, c.in-Ok.ensures.len) in
    let q : plain c.in_ok-graph.graph ≡ given c.args.count c.args.edges.now = c.in_ok-graph.ensures.exact in
    let m : MarksFromStart (plain c.in_ok-graph.graph) (set c.mark_reached.new.marks 0 true) = marks_from_start (plain c.in_ok-graph.graph) c.mark_reached.new.marks l c.mark_reached.ensures.exact in
    let P : Graph → Type 0 = λ g. MarksFromStart g (set c.mark_reached.new.marks 0 true) in
    rw e (subst P q m)
