-- Each step leaves less to do, and as many rings with two entrances.
use Rattle.std.proofs.Common.{◌≡◌, ◌≢◌, ◌⊎◌, ◌↔◌, inl, inr, ℕ, ◌+◌, ◌*◌, ◌<◌, true, false, eqb, ◌&&◌, List, get_or, Some, refl, sym, ap, subst, ◌∙◌, arith, eq-eqb}
use Rattle.std.proofs.lemmas.Bool.{both_ways, and_parts, and_from, and_right, not_from_true, false_from_ne_true}
use Rattle.std.proofs.lemmas.Option.{slice_get-get_or}
use Rattle.std.specs.List.{slice_get}
use Rattle.dxil_form.specs.Graphs.{Graph, IsFormed, SolePred, Crossed, folded, absorbed, count_below}
use Rattle.dxil_form.specs.Branches.{has}
use Rattle.graph_laws.proofs.Rewrites.{edge_absorbed, fold_less}
use Rattle.flow_graph.specs.Shapes.{Shape, plain}
use Rattle.region_builder.specs.Built.{self_edges, SameRings, size}
use Rattle.region_builder.specs.Absorbing.{AreChildren, AreAbsorbed}
use Rattle.region_builder.proofs.Counting.{count_less, count_one}
use Rattle.region_builder.proofs.Absorbing.{place_has}

abbrev pub work : Graph → ℕ
work g = 2 * count_below g.count g.live + self_edges g

module _ (g : Graph) (formed : IsFormed g) where
  pub absorb_less : (a j : ℕ) → j ≢ 0 → SolePred g a j → work (absorbed g a j) < work g
  absorb_less a j nonzero pred =
      let now = absorbed g a j in
      let live = formed.to a j pred.edge in
      let lives = count_less g.count now.live g.live (λ x t. (and_parts (g.live x) _ t).0) j (formed.within j live)
      (and_right (g.live j) _ (not_from_true (eqb j j) (eq-eqb j j refl))) live in
      let selfs = count_one g.count (λ i. now.edge i i) (λ i. g.edge i i) a (λ x n t. own x n (edge_absorbed g a j nonzero pred x x t)) in
      omega arith
    where
      own : (x : ℕ) → (x ≡ a → ⊥) → (x ≢ j) × (x ≢ j) × ((g.edge x x ≡ true) ⊎ ((x ≡ a) × (g.edge j x ≡ true))) → g.edge x x ≡ true
      own x n (_, _, inl e) = e
      own x n (_, _, inr (q, _)) = absurd (n q)

  pub fold_lessens : (a : ℕ) → g.edge a a ≡ true → work (folded g a) < work g
  fold_lessens a self =
      let now = folded g a in
      let selfs = count_less g.count (λ i. now.edge i i) (λ i. g.edge i i) (λ x t. fold_less g a x x t) a (formed.within a (formed.from a a self))
      (and_right (g.edge a a) _ (not_from_true (eqb a a && eqb a a) (and_from (eqb a a) (eqb a a) (eq-eqb a a refl) (eq-eqb a a refl)))) self in
      omega arith

  pub branch_less : (a : ℕ) (nodes : List ℕ) (now : Graph) → AreChildren g a nodes → AreAbsorbed g a nodes now → work now < work g
  branch_less a nodes now c are =
      let some = c.some in
      let j = get_or nodes 0 0 in
      let h : slice_get nodes 0 ≡ Some (get_or nodes 0 0) = slice_get-get_or nodes 0 0 (omega arith) in
      let live = formed.to a (get_or nodes 0 0) (c.sole 0 (get_or nodes 0 0) h).edge in
      let lives = count_less g.count now.live g.live (λ x t. ((are.live x).0 t).0) (get_or nodes 0 0) (formed.within (get_or nodes 0 0) live)
      (false_from_ne_true (now.live (get_or nodes 0 0)) (λ t. both_ways _ ((are.live (get_or nodes 0 0)).0 t).1 (place_has nodes 0 (get_or nodes 0 0) h))) live in
      let selfs = count_one g.count (λ i. now.edge i i) (λ i. g.edge i i) a (λ x n t. own x n ((are.edge x x).0 t)) in
      let x = ap (λ (n : ℕ). count_below n now.live) are.count in
      let y = ap (λ (n : ℕ). count_below n (λ i. now.edge i i)) are.count in
      omega arith
    where
      own : (x : ℕ) → (x ≡ a → ⊥) → (has x nodes ≡ false) × (has x nodes ≡ false) × ((g.edge x x ≡ true) ⊎ ((x ≡ a) × ((j : ℕ) × (has j nodes ≡ true) × (g.edge j x ≡ true)))) → g.edge x x ≡ true
      own x n (_, _, inl e) = e
      own x n (_, _, inr (q, _)) = absurd (n q)

-- the same for what a call leaves
pub less_of : (h : Graph) (old new : Shape) → plain new ≡ h → work h < work (plain old) → size new < size old
less_of h old new q l = let P : Graph → Type 0 = λ z. work z < work (plain old) in subst P (sym q) l

pub rings_of : (h : Graph) (old new : Shape) → plain new ≡ h → h.count ≡ old.count → Crossed h ↔ Crossed (plain old) → SameRings old new
rings_of h old new q c k = record {
  count = ap (λ (z : Graph). z.count) q ∙ c;
  crossed = (let P : Graph → Type 0 = λ z. Crossed z ↔ Crossed (plain old) in subst P (sym q) k);
}
