-- A visit of one node, where each block has at most one edge into it.
use Rattle.std.proofs.Common.{◌≡◌, inl, ℕ, ◌+◌, Bool, true, false, get_or, refl, subst, ◌∙◌, arith}
use Rattle.dxil_form.specs.declared.program.Program.{Program}
use Rattle.dxil_form.specs.Graphs.{Graph}
use Rattle.flow_graph.specs.Shapes.{plain}
use Rattle.head_table.specs.Table.{over}
use Rattle.region_builder.specs.declared.partial.Partial.{Partial}
use Rattle.region_builder.specs.declared.builder.Builder.{Builder}
use Rattle.region_builder.specs.Settled.{MayRepeat}
use Rattle.region_builder.specs.Built.{BuiltBy, Went}
use Rattle.region_builder.specs.Bare.{IsTree, HasLeaf, Bare, IsSeen, BareFrom, NoArms, Branched}
use Rattle.region_builder.proofs.Bareness.{no_repeat, edge_rises, no_edges, old_edge, branched_none, bare_branched, bare_went, visited}

-- what a node's branch leaves
record Left (start : Graph) (old new : Builder) (a : ℕ) : Type 0 where
  bare : Bare start new
  less : (x y : ℕ) → (plain new.graph).edge x y ≡ true → (plain old.graph).edge x y ≡ true
  none : (y : ℕ) → (plain new.graph).edge a y ≡ true → ⊥

same_edges : (old new : Builder) → Went old new false → (x y : ℕ) → (plain new.graph).edge x y ≡ true → (plain old.graph).edge x y ≡ true
same_edges old new w x y e = let P : Graph → Type 0 = λ g. g.edge x y ≡ true in subst P (w.same refl) e

module _ (p : Program) (first : Partial) (tree : IsTree (plain first.graph)) where
  abbrev start : Graph
  start = plain first.graph

  -- the branch
  branch_left : (old new : Builder) (a : ℕ) (d : Bool) → BuiltBy p first old → Bare start old → (plain old.graph).live a ≡ true → Went old new d
      → (d ≡ true → Branched old new a) → (d ≡ false → HasLeaf old a → NoArms old a) → ((j y : ℕ) → start.edge a j ≡ true → (plain old.graph).edge j y ≡ true → ⊥) → Left start old new a
  branch_left old new a true is bare live w branched none done =
      let k = branched refl in record {
        bare = bare_branched p first old is tree bare new a k done;
        less = λ x y e. (old_edge p first old is tree bare new a k done x y e).1;
        none = branched_none p first old is tree bare new a k done;
      }
  branch_left old new a false is bare live w branched none done = record {
    bare = bare_went start old new w bare;
    less = same_edges old new w;
    none = λ y e. no_edges p first old is tree bare a (bare.ready a live) (none refl) y (same_edges old new w a y e);
  }

  -- no child is left for the joins
  join_none : (old new : Builder) (a : ℕ) (d : Bool) → Went old new d → (d ≡ true → (j : ℕ) × ((plain old.graph).edge a j ≡ true)) → ((y : ℕ) → (plain old.graph).edge a y ≡ true → ⊥) → Went old new false
  join_none old new a true w did none = let (j, e) = did refl in absurd (none j e)
  join_none old new a false w did none = w

  repeat_none : (old new : Builder) (a : ℕ) (d : Bool) → BuiltBy p first old → Bare start old → Went old new d → (d ≡ true → MayRepeat (over old.heads) (plain old.graph) a) → Went old new false
  repeat_none old new a true is bare w did = absurd (no_repeat p first old is tree bare a (did refl))
  repeat_none old new a false is bare w did = w

  pub stepped : (b0 b1 b2 b3 b4 : Builder) (a r : ℕ) (d1 d2 d3 d4 : Bool) → BuiltBy p first b0 → (plain b0.graph).live a ≡ true
      → Went b0 b1 d1 → (d1 ≡ true → Branched b0 b1 a) → (d1 ≡ false → HasLeaf b0 a → NoArms b0 a) → Went b1 b2 d2 → (d2 ≡ true → (j : ℕ) × ((plain b1.graph).edge a j ≡ true))
      → Went b2 b3 d3 → (d3 ≡ true → MayRepeat (over b2.heads) (plain b2.graph) a) → Went b3 b4 d4 → (d4 ≡ true → (j : ℕ) × ((plain b3.graph).edge a j ≡ true))
      → get_or b0.ranks.items a 0 ≡ r → BareFrom start b0 r a → BareFrom start b4 r (a + 1)
  stepped b0 b1 b2 b3 b4 a r d1 d2 d3 d4 is live w1 branched none w2 did2 w3 did3 w4 did4 q from =
      let left = branch_left b0 b1 a d1 is from.bare live w1 branched none (λ j y s e. from.done j y (behind j s) e) in
      let v2 = join_none b1 b2 a d2 w2 did2 left.none in
      let is2 = w2.keeps p first (w1.keeps p first is) in
      let bare2 = bare_went start b1 b2 v2 left.bare in
      let v3 = repeat_none b2 b3 a d3 is2 bare2 w3 did3 in
      let none3 : (y : ℕ) → (plain b3.graph).edge a y ≡ true → ⊥ = λ y e. left.none y (same_edges b1 b2 v2 a y (same_edges b2 b3 v3 a y e)) in
      let v4 = join_none b3 b4 a d4 w4 did4 none3 in
      visited start b0 b4 r a (w4.ranks ∙ w3.ranks ∙ w2.ranks ∙ w1.ranks) from (bare_went start b3 b4 v4 (bare_went start b2 b3 v3 bare2))
      (λ x y e. left.less x y (same_edges b1 b2 v2 x y (same_edges b2 b3 v3 x y (same_edges b3 b4 v4 x y e)))) (λ _ y e. none3 y (same_edges b3 b4 v4 a y e))
    where
      behind : (j : ℕ) → start.edge a j ≡ true → IsSeen b0.ranks.items r a j
      behind j s = let l = edge_rises p first b0 is tree a j s in inl (omega arith)
