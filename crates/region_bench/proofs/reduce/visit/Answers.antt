use Rattle.std.proofs.Common.{◌≡◌, true, ap, ◌∙◌}
use Rattle.dxil_form.specs.Graphs.{Graph}
use Rattle.flow_graph.specs.Shapes.{plain}
use Rattle.region_bench.proofs.reduce.visit.Goals as goal

-- a fold leaves each node as it is
pub sole_pred-requires : goal.sole_pred-requires
sole_pred-requires c =
    let live : (plain c.args.graph.now).live c.args.j ≡ true = c.is_live.ensures.0 c.if-not-is_live.false in
    ap (λ (g : Graph). g.live c.args.j) c.fold-folded.ensures.exact ∙ live
