use Rattle.std.proofs.Common.{◌≡◌, ◌≢◌, ℕ, List, Some, true, length, subst, sym, ap, arith}
use Rattle.std.proofs.lemmas.Bool.{both_ways, eqb-false, eqb-true, false≢true}
use Rattle.std.specs.List.{slice_get}
use Rattle.flow_graph.specs.Shapes.{plain}
use Rattle.region_builder.specs.Absorbing.{AreChildren}
use Rattle.dxil_form.specs.Graphs.{SolePred}
use Rattle.dxil_form.specs.Branches.{has}
use Rattle.std.proofs.lemmas.Option.{slice_get_within}
use Rattle.region_builder.proofs.Absorbing.{not_child, has_place}
use Rattle.head_table.specs.Table.{over}
use Rattle.region_builder.specs.Settled.{IsAllowed}
use Rattle.region_builder.proofs.Finding.{as_children, went_nowhere, went_by}
use Rattle.region_builder.proofs.builder.Builder.branch_children.Goals as goal
use Rattle.region_builder.proofs.builder.Builder.branch_children.Goals.{After-deref}

are : (c : After-deref) → AreChildren (plain c.args.self.now.graph) c.args.a c.deref.result.now
are c =
    let some : c.in_ok-nodes.nodes.len ≡ 0 → ⊥ = eqb-false c.in_ok-nodes.nodes.len 0 (sym (c.if-is_empty.ensures)) in
    let P : List ℕ → Type 0 = λ l. AreChildren (plain c.args.self.now.graph) c.args.a l in
    subst P (sym c.deref.ensures.value) (as_children c.args.self.now c.args.a _ c.in_ok-nodes.nodes.items c.in_ok-nodes.ensures (
    let e = ap (λ (l : List ℕ). length l) c.deref.ensures.value in
    let n = c.deref.ensures.len in omega arith))

pub branch-self-requires-clause-children : goal.branch-self-requires-clause-children
branch-self-requires-clause-children c = are c

pub branch-self-requires-clause-own : goal.branch-self-requires-clause-own
branch-self-requires-clause-own c =
    let P : List ℕ → Type 0 = λ l. (n j : ℕ) → slice_get l n ≡ Some j → slice_get c.args.self.now.firsts.items j ≡ Some (Some c.args.a) in
    subst P (sym c.deref.ensures.value) c.in_ok-nodes.ensures.own

pub branch-self-requires-clause-allowed : goal.branch-self-requires-clause-allowed
branch-self-requires-clause-allowed c =
    let P : List ℕ → Type 0 = λ l. (n j : ℕ) → slice_get l n ≡ Some j → IsAllowed (over c.args.self.now.heads) c.args.a j in
    subst P (sym c.deref.ensures.value) c.in_ok-nodes.ensures.allowed

pub returns-then-not-is_leaf-clause-went : goal.returns-then-not-is_leaf-clause-went
returns-then-not-is_leaf-clause-went c = went_nowhere c.args.self.now

pub returns-then-is_empty-clause-went : goal.returns-then-is_empty-clause-went
returns-then-is_empty-clause-went c = went_nowhere c.args.self.now

pub returns-clause-went : goal.returns-clause-went
returns-clause-went c =
    went_by c.args.self.now c.branch-self.new.self c.in_ok-branch.ensures.built c.in_ok-branch.ensures.rings c.in_ok-branch.ensures.smaller c.in_ok-branch.ensures.heads c.in_ok-branch.ensures.ranks

pub returns-clause-live : goal.returns-clause-live
returns-clause-live c =
    (c.in_ok-branch.ensures.graph.live c.args.a).1 (c.requires.live, not_child (plain c.args.self.now.graph) c.args.a c.deref.result.now (are (goal.at.returns-clause-live c).After-deref))

pub returns-then-not-is_leaf-clause-none : goal.returns-then-not-is_leaf-clause-none
returns-then-not-is_leaf-clause-none c f leaf = absurd (both_ways c.is_leaf.result c.if-not-is_leaf.true (c.is_leaf.ensures.1 leaf))

pub returns-then-not-is_leaf-clause-branched : goal.returns-then-not-is_leaf-clause-branched
returns-then-not-is_leaf-clause-branched c t = absurd (false≢true t)

pub returns-then-is_empty-clause-branched : goal.returns-then-is_empty-clause-branched
returns-then-is_empty-clause-branched c t = absurd (false≢true t)

pub returns-then-is_empty-clause-none : goal.returns-then-is_empty-clause-none
returns-then-is_empty-clause-none c f leaf j n p q w =
    let (o, first, b) = c.requires.built in
    let l = b.built.formed.within j (b.built.formed.to c.args.a j p.edge) in
    let e = b.built.count in
    let (i, h) = has_place c.in_ok-nodes.nodes.items j (c.in_ok-nodes.ensures.all j n (omega arith) p q w) in
    let m = slice_get_within c.in_ok-nodes.nodes.items i j h in
    let z = eqb-true c.in_ok-nodes.nodes.len 0 (sym (c.if-is_empty.ensures)) in omega arith

pub returns-clause-none : goal.returns-clause-none
returns-clause-none c f leaf = absurd (false≢true (sym f))

pub returns-clause-branched : goal.returns-clause-branched
returns-clause-branched c t =
    let (o, first, b) = c.requires.built in
    let P : List ℕ → Type 0 = λ l. (j : ℕ) → j ≢ 0 → SolePred (plain c.args.self.now.graph) c.args.a j → slice_get c.args.self.now.firsts.items j ≡ Some (Some c.args.a)
    → IsAllowed (over c.args.self.now.heads) c.args.a j → has j l ≡ true in
    let e = b.built.count in
    record {
      nodes = c.deref.result.now;
      all = subst P (sym c.deref.ensures.value) (λ j n p q w. (
          let l = b.built.formed.within j (b.built.formed.to c.args.a j p.edge) in c.in_ok-nodes.ensures.all j n (omega arith) p q w));
      sole = λ j h. (let (n, at) = has_place c.deref.result.now j h in (are (goal.at.returns-clause-branched c).After-deref).sole n j at);
      absorbed = c.in_ok-branch.ensures.graph;
      puts = c.in_ok-branch.ensures.arms;
    }
