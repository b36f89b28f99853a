use Rattle.std.proofs.Common.{◌≡◌, ℕ, Bool, List, length, subst, sym, arith, ◌∙◌}
use Rattle.std.proofs.lemmas.Result.{IfOk-weaker}
use Rattle.flow_graph.specs.declared.linked.Edge.{Edge}
use Rattle.flow_graph.specs.Given.{given}
use Rattle.region_leaves.specs.Leaves.{AreReachable}
use Rattle.region_leaves.specs.Edges.{MarksFromStart, AreMarked, edges_on}
use Rattle.region_leaves.proofs.Reaching.{reachable_is}
use Rattle.region_leaves.proofs.reachable.Goals as goal
use Rattle.region_leaves.proofs.reachable.Goals.{After-drop-edges-2}

marks : (c : After-drop-edges-2) → MarksFromStart (given (length c.args.p.now.blocks) (edges_on 0 c.args.p.now.blocks)) c.deref-2.result.now
marks c =
    let q : c.deref.result.now ≡ edges_on 0 c.args.p.now.blocks = c.deref.ensures.value ∙ c.in_ok-edges.ensures.items in
    let P : List Edge → Type 0 = λ es. MarksFromStart (given (length c.args.p.now.blocks) es) c.deref-2.result.now in
    let Q : ℕ → Type 0 = λ n. MarksFromStart (given n c.deref.result.now) c.in_ok-marks.marks.items in
    let R : List Bool → Type 0 = λ l. MarksFromStart (given (length c.args.p.now.blocks) c.deref.result.now) l in
    subst P q (subst R (sym c.deref-2.ensures.value) (subst Q c.len.ensures c.in_ok-marks.ensures.exact))

pub returns : goal.returns
returns c =
    let n : length c.deref-2.result.now ≡ length c.args.p.now.blocks = omega (arith, c.in_ok-marks.ensures.len) in
    let P : ℕ → Type 0 = λ k. (v : List ℕ) → AreMarked c.deref-2.result.now k v → AreMarked c.deref-2.result.now (length c.args.p.now.blocks) v in
    let on : (v : List ℕ) → AreMarked c.deref-2.result.now (length c.deref-2.result.now) v → AreMarked c.deref-2.result.now (length c.args.p.now.blocks) v = subst P (sym n) (λ v m. m) in
    IfOk-weaker {X = List ℕ} c.marked.result (λ v. AreMarked c.deref-2.result.now (length c.deref-2.result.now) v) (λ v. AreReachable c.args.p.now v) (λ v m. reachable_is c.args.p.now c.requires c.deref-2.result.now v (marks c) (on v m)) c.marked.ensures
