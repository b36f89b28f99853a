use Rattle.std.proofs.Common.{ℕ, List, [], ◌∷◌, length, length-append, Option, ap, sym, subst, arith}
use Rattle.flow_graph.specs.Shapes.{plain}
use Rattle.region_builder.specs.Children.{AreSolePreds}
use Rattle.region_builder.proofs.Leaving.{no_preds, preds_on}
use Rattle.region_builder.proofs.whole.sole_preds.Goals as goal

pub loop-j-init : goal.loop-j-init
loop-j-init c = record {
  len = ap (λ (l : List (Option ℕ)). length l) c.new-preds.ensures.items;
  sole = (let P : List (Option ℕ) → Type 0 = λ l. AreSolePreds (plain c.args.graph.now) l in subst P (sym c.new-preds.ensures.items) (no_preds (plain c.args.graph.now)));
}

pub loop-j-preserved : goal.loop-j-preserved
loop-j-preserved c =
    let P : List (Option ℕ) → Type 0 = λ l. AreSolePreds (plain c.args.graph.now) l in
    let e = ap (λ (l : List (Option ℕ)). length l) c.in_ok-add_pred.ensures in
    let f = length-append c.loop-j.preds.items (c.sole_pred-pred.result ∷ []) in
    let n = c.loop-j.invariant.len in
    record {
      len = omega arith;
      sole = subst P (sym c.in_ok-add_pred.ensures) (preds_on (plain c.args.graph.now) c.loop-j.preds.items c.loop-j.j c.sole_pred-pred.result c.loop-j.invariant.sole n c.sole_pred-pred.ensures.some c.sole_pred-pred.ensures.none);
    }
