-- The loops are those of the heads of the branch graph, by the numbers of blocks.
use Rattle.std.proofs.Common.{◌≡◌, ◌↔◌, ℕ, ◌<◌, ◌≤◌, true, List, length, get_or, Some, sym, subst}
use Rattle.std.proofs.lemmas.Option.{slice_get_within, get_or_from_slice_get}
use Rattle.std.specs.List.{slice_get}
use Rattle.dxil_form.specs.declared.program.Program.{Program}
use Rattle.dxil_form.specs.declared.region.Region.{Region}
use Rattle.dxil_form.specs.declared.region.Region.TheVariants.{Leaf, Loop}
use Rattle.dxil_form.specs.Graphs.{Graph, Reached, Crossed, IsHeadOver}
use Rattle.dxil_form.specs.Branches.{declared_graph, IsBranchGraph}
use Rattle.dxil_form.specs.Sound.{Sound}
use Rattle.graph_laws.proofs.Paths.{path_next}
use Rattle.region_leaves.specs.Leaves.{AreReachable}
use Rattle.region_leaves.proofs.Rooted.{index_of, block_reached, branch_reached}
use Rattle.region_builder.specs.Started.{IsNodeGraph}
use Rattle.region_builder.specs.Bare.{IsTree}
use Rattle.region_builder.specs.Loops.{Under, LoopsAreRings, LoopsAreHeads}
use Rattle.region_builder.specs.Loops.Under.{is_leaf, in_part}
use Rattle.region_builder.proofs.Starting.{first_block}
use Rattle.region_builder.proofs.Leaving.{one_block}
use Rattle.region_builder.proofs.Renaming.{over_up, over_down, crossed_up, crossed_down}

leaf_place : (list : List Region) (r b : ℕ) → Under list r b → (s : ℕ) × (slice_get list s ≡ Some (Leaf b))
leaf_place list r b (is_leaf h) = (r, h)
leaf_place list r b (in_part {s = s} m u) = leaf_place list s b u

module _ (p : Program) (sound : Sound p) (blocks : List ℕ) (are : AreReachable p blocks) (few : length blocks ≤ 400) (old : Graph) (is : IsNodeGraph p blocks old) (new : Graph) (branch : IsBranchGraph p new) where
  abbrev name : ℕ → ℕ
  name i = get_or blocks i 0

  inside : (i j : ℕ) → old.edge i j ≡ true → (i < length blocks) × (j < length blocks)
  inside i j e = let (b, k, x, y, _) = (is.edges i j).0 e in (slice_get_within blocks i b x, slice_get_within blocks j k y)

  up : (i j : ℕ) → old.edge i j ≡ true → new.edge (name i) (name j) ≡ true
  up i j e =
      let (b, k, x, y, t) = (is.edges i j).0 e in
      let P : ℕ → Type 0 = λ z. new.edge z (name j) ≡ true in
      let Q : ℕ → Type 0 = λ z. new.edge b z ≡ true in
      subst P (sym (get_or_from_slice_get blocks i b 0 x)) (subst Q (sym (get_or_from_slice_get blocks j k 0 y)) ((branch.edges b k).1 (block_reached p sound blocks are i b x, t)))

  down : (x y : ℕ) → new.edge x y ≡ true → (i : ℕ) × (j : ℕ) × (name i ≡ x) × (name j ≡ y) × (old.edge i j ≡ true)
  down x y e =
      let (reached, t) = (branch.edges x y).0 e in
      let (i, h) = index_of p sound blocks are x reached in
      let (j, k) = index_of p sound blocks are y (branch_reached p sound blocks are x y reached t) in
      (i, j, get_or_from_slice_get blocks i x 0 h, get_or_from_slice_get blocks j y 0 k, (is.edges i j).1 (x, y, h, k, t))

  apart : (i j : ℕ) → i < length blocks → j < length blocks → name i ≡ name j → i ≡ j
  apart i j l m e = one_block are i j l m e

  zero : slice_get blocks 0 ≡ Some 0
  zero = first_block p sound blocks are few old is

  zero_is : name 0 ≡ 0
  zero_is = get_or_from_slice_get blocks 0 0 0 zero

  some : 0 < length blocks
  some = slice_get_within blocks 0 0 zero

  pub same_crossed : Crossed old ↔ Crossed new
  same_crossed = (
    λ k. crossed_up (length blocks) name old new inside up down apart zero_is some k,
    λ k. crossed_down (length blocks) name old new inside up down apart zero_is some k,
  )

  pub tree_of : IsTree new → IsTree old
  tree_of tree x y z e d = apart x y (inside x z e).0 (inside y z d).0 (tree (name x) (name y) (name z) (up x z e) (up y z d))

  over_old : (h b : ℕ) → h < length blocks → b < length blocks → IsHeadOver new (name h) (name b) → IsHeadOver old h b
  over_old h b l m o =
      let (x, y, p, q, k) = over_down (length blocks) name old new inside up down apart zero_is some (name h) (name b) o in
      let P : ℕ → Type 0 = λ z. IsHeadOver old z b in
      let Q : ℕ → Type 0 = λ z. IsHeadOver old x z in
      let (lx, ly) = below x y k in subst P (apart x h lx l p) (subst Q (apart y b ly m q) k)
    where
      below : (x y : ℕ) → IsHeadOver old x y → (x < length blocks) × (y < length blocks)
      below x y (ring, k, i) =
          let (a, _, w) = k.closed in
          let (u, e, _) = path_next old a a y ring w i in
          let (v, d, _) = path_next old a a x ring w (k.enters.0) in ((inside x v d).0, (inside y u e).0)

  over_new : (h b : ℕ) → IsHeadOver old h b → IsHeadOver new (name h) (name b)
  over_new h b o = over_up (length blocks) name old new inside up down apart zero_is some h b o

  pub loops_are_heads : (list : List Region) → ((r b : ℕ) → slice_get list r ≡ Some (Leaf b) → Reached (declared_graph p) b) → LoopsAreRings old blocks list → LoopsAreHeads new list
  loops_are_heads list reached loops = record {
    made = λ x y o. (
        let (h, b, p, q, k) = over_down (length blocks) name old new inside up down apart zero_is some x y o in
        let (r, body, e) = loops.made h b k in
        let P : ℕ → Type 0 = λ z. slice_get list r ≡ Some (Loop body z) in (r, body, subst P p e));
    once = loops.once;
    heads = λ r body x e. (
        let (h, at, k) = loops.heads r body x e in
        let P : ℕ → Type 0 = λ z. IsHeadOver new z z in subst P (get_or_from_slice_get blocks h x 0 at) (over_new h h k));
    passes = λ r body x y e. (
        let (h, at, _) = loops.heads r body x e in
        let name_h = get_or_from_slice_get blocks h x 0 at in
        let P : ℕ → Type 0 = λ z. IsHeadOver new z y in (
          λ u. (
              let (s, leaf) = leaf_place list r y u in
              let (b, k) = index_of p sound blocks are y (reached s y leaf) in
              let name_b = get_or_from_slice_get blocks b y 0 k in
              let Q : ℕ → Type 0 = λ z. Under list r z in
              let R : ℕ → Type 0 = λ z. IsHeadOver new (name h) z in
              subst P name_h (subst R name_b (over_new h b ((loops.passes r body h b x at e (slice_get_within blocks b y k)).0 (subst Q (sym name_b) u))))),
          λ o. (
              let (c, b, _, name_b, k) = over_down (length blocks) name old new inside up down apart zero_is some (name h) y (subst P (sym name_h) o) in
              let Q : ℕ → Type 0 = λ z. Under list r z in
              let R : ℕ → Type 0 = λ z. IsHeadOver new (name h) z in
              let lh = slice_get_within blocks h x at in
              let lb = passed_below c b k in
              subst Q name_b ((loops.passes r body h b x at e lb).1 (over_old h b lh lb (subst R (sym name_b) (subst P (sym name_h) o))))),
        ));
  }
    where
      passed_below : (x y : ℕ) → IsHeadOver old x y → y < length blocks
      passed_below x y (ring, k, i) =
          let (a, _, w) = k.closed in
          let (u, e, _) = path_next old a a y ring w i in (inside y u e).0
