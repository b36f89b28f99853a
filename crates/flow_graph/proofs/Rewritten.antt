-- The plain graph after a rewrite of the cells.
use Rattle.std.proofs.Common.{◌≡◌, ◌≢◌, ◌⊎◌, ◌↔◌, inl, inr, ℕ, ◌<◌, Bool, true, false, not, ◌&&◌, ◌||◌, eqb, Option, List, length, get_or, set, sym, refl, ap, subst, ◌∙◌, eqb-true, eq-eqb, ne_eqb, get_or-set_same, get_or-set_other, length-set}
use Rattle.std.proofs.lemmas.Bool.{cases_Bool, cases_eq, cases_lt, both_ways, and_parts, and_from, and_right, or_cases, or_left, or_right, not-true, not_from_false}
use Rattle.std.proofs.lemmas.List.{get_or_past}
use Rattle.std.proofs.Math.Path.{fun_ext}
use Rattle.dxil_form.specs.Graphs.{Graph, SolePred, folded, absorbed}
use Rattle.flow_graph.specs.declared.cells.Cell.{Cell}
use Rattle.flow_graph.specs.Links.{Joining, Sound}
use Rattle.flow_graph.specs.Changes.{Ended, Merged}
use Rattle.flow_graph.specs.Shapes.{Shape, plain, joins, edges_of, Kept}
use Rattle.flow_graph.proofs.Edges.{joining_from, joins_from}

pub same_test : (p q : Bool) → (p ≡ true → q ≡ true) → (q ≡ true → p ≡ true) → p ≡ q
same_test true q f k = sym (f refl)
same_test false true f k = k refl
same_test false false f k = refl

-- graphs with equal counts, nodes and edges are equal
pub same_graph : (g k : Graph) → g.count ≡ k.count → ((x : ℕ) → g.live x ≡ k.live x) → ((x y : ℕ) → g.edge x y ≡ k.edge x y) → g ≡ k
same_graph g k c l e =
    let el : g.live ≡ k.live = fun_ext l in
    let ee : g.edge ≡ k.edge = fun_ext (λ x. fun_ext (e x)) in
    let P : ℕ → Type 0 = λ n. g ≡ record { count = n; live = g.live; edge = g.edge } in
    let Q : (ℕ → Bool) → Type 0 = λ f. g ≡ record { count = k.count; live = f; edge = g.edge } in
    let R : (ℕ → ℕ → Bool) → Type 0 = λ f. g ≡ record { count = k.count; live = k.live; edge = f } in
    subst R ee (subst Q el (subst P c refl))

-- what contracts see of these fields
abbrev pub shape : List Bool → List Cell → Shape
shape live cells = record { count = length live; live = live; edges = edges_of cells }

not_both : (x y a b : ℕ) → (((x ≡ a) × (y ≡ b)) → ⊥) → not (eqb x a && eqb y b) ≡ true
not_both x y a b n = elim (cases_Bool (eqb x a && eqb y b)) [
  | inl t ↦ (let (p, q) = and_parts (eqb x a) (eqb y b) t in absurd (n (eqb-true x a p, eqb-true y b q)))
  | inr f ↦ not_from_false (eqb x a && eqb y b) f
]

both_not : (x y a b : ℕ) → not (eqb x a && eqb y b) ≡ true → ((x ≡ a) × (y ≡ b)) → ⊥
both_not x y a b t (p, q) = both_ways _ (not-true _ t) (and_from (eqb x a) (eqb y b) (eq-eqb x a p) (eq-eqb y b q))

pub folded_is : (live : List Bool) (cells new : List Cell) (a : ℕ) → Ended a a cells new
    → plain (shape live new) ≡ folded (plain (shape live cells)) a
folded_is live cells new a e = same_graph _ _ refl (λ x. refl) (λ x y. same_test _ _ (there x y) (back x y))
  where
    there : (x y : ℕ) → joins (edges_of new) x y ≡ true → (joins (edges_of cells) x y && not (eqb x a && eqb y a)) ≡ true
    there x y t =
        let (k, n) = (e x y).0 (joining_from new x y t) in
        and_from (joins (edges_of cells) x y) _ (joins_from cells x y k) (not_both x y a a n)

    back : (x y : ℕ) → (joins (edges_of cells) x y && not (eqb x a && eqb y a)) ≡ true → joins (edges_of new) x y ≡ true
    back x y t =
        let (k, n) = and_parts (joins (edges_of cells) x y) _ t in
        joins_from new x y ((e x y).1 (joining_from cells x y k, both_not x y a a n))

pub absorbed_is : (live : List Bool) (cells new : List Cell) (a j : ℕ) → j < length live → Merged a j cells new
    → plain (shape (set live j false) new) ≡ absorbed (plain (shape live cells)) a j
absorbed_is live cells new a j inside m = same_graph _ _ (length-set live j false) lives (λ x y. same_test _ _ (there x y) (back x y))
  where
    lives : (x : ℕ) → get_or (set live j false) x false ≡ (get_or live x false && not (eqb x j))
    lives x = elim (cases_eq x j) [
      | inl q ↦ (let P : ℕ → Type 0 = λ z. get_or (set live j false) z false ≡ (get_or live z false && not (eqb z j)) in
          subst P (sym q) (get_or-set_same live j false false inside ∙ sym (and_right (get_or live j false) _ (ap not (eq-eqb j j refl)))))
      | inr n ↦ get_or-set_other live j x false false n ∙ same_test _ _
          (λ t. and_from (get_or live x false) _ t (not_from_false (eqb x j) (ne_eqb x j n))) (λ t. (and_parts (get_or live x false) _ t).0)
    ]

    there : (x y : ℕ) → joins (edges_of new) x y ≡ true
        → (not (eqb x j || eqb y j) && (joins (edges_of cells) x y || (eqb x a && joins (edges_of cells) j y))) ≡ true
    there x y t =
        let (nx, ny, k) = (m x y).0 (joining_from new x y t) in
        and_from (not (eqb x j || eqb y j)) _ (neither nx ny) (elim k [
          | inl o ↦ or_left (joins (edges_of cells) x y) _ (joins_from cells x y o)
          | inr o ↦ or_right (joins (edges_of cells) x y) _ (and_from (eqb x a) _ (eq-eqb x a o.0) (joins_from cells j y o.1))
        ])
      where
        neither : x ≢ j → y ≢ j → not (eqb x j || eqb y j) ≡ true
        neither nx ny = elim (cases_Bool (eqb x j || eqb y j)) [
          | inl u ↦ elim (or_cases (eqb x j) (eqb y j) u) [ inl p ↦ absurd (nx (eqb-true x j p)) | inr p ↦ absurd (ny (eqb-true y j p)) ]
          | inr f ↦ not_from_false (eqb x j || eqb y j) f
        ]

    back : (x y : ℕ) → (not (eqb x j || eqb y j) && (joins (edges_of cells) x y || (eqb x a && joins (edges_of cells) j y))) ≡ true
        → joins (edges_of new) x y ≡ true
    back x y t =
        let (n, k) = and_parts (not (eqb x j || eqb y j)) _ t in
        joins_from new x y ((m x y).1 (
          λ q. both_ways _ (not-true _ n) (or_left (eqb x j) (eqb y j) (eq-eqb x j q)),
          λ q. both_ways _ (not-true _ n) (or_right (eqb x j) (eqb y j) (eq-eqb y j q)),
          elim (or_cases (joins (edges_of cells) x y) _ k) [
            | inl o ↦ inl (joining_from cells x y o)
            | inr o ↦ (let (p, q) = and_parts (eqb x a) _ o in inr (eqb-true x a p, joining_from cells j y q))
          ],
        ))

pub live_inside : (live : List Bool) (a : ℕ) → get_or live a false ≡ true → a < length live
live_inside live a t = elim (cases_lt a (length live)) [
  | inl l ↦ l
  | inr g ↦ absurd (both_ways _ (get_or_past live a false g) t)
]

module _ (live : List Bool) (ff ft : List (Option ℕ)) (cells : List Cell) (marks : List Bool) (queue : List ℕ) (k : Kept live ff ft cells marks queue)
    (gf gt : List (Option ℕ)) (new : List Cell) (ef : length gf ≡ length ff) (et : length gt ≡ length ft) (s : Sound new gf gt) where
  pub kept_ended : (a b : ℕ) → Ended a b cells new → Kept live gf gt new marks queue
  kept_ended a b e = record {
    from_count = ef ∙ k.from_count;
    to_count = et ∙ k.to_count;
    sound = s;
    ends = λ x y i. k.ends x y ((e x y).0 i).0;
    marks_count = k.marks_count;
    queue_count = k.queue_count;
    clean = k.clean;
  }

  pub kept_merged : (new_marks : List Bool) → length new_marks ≡ length marks → ((b : ℕ) → get_or new_marks b false ≡ false) → (a j : ℕ) → get_or live a false ≡ true → Merged a j cells new → Kept (set live j false) gf gt new new_marks queue
  kept_merged new_marks em clean a j la m = record {
    from_count = ef ∙ k.from_count ∙ sym len;
    to_count = et ∙ k.to_count ∙ sym len;
    sound = s;
    ends = λ x y i. ends x y ((m x y).0 i);
    marks_count = em ∙ k.marks_count ∙ sym len;
    queue_count = k.queue_count ∙ sym len;
    clean = clean;
  }
    where
      len : length (set live j false) ≡ length live
      len = length-set live j false

      stays : (x : ℕ) → x ≢ j → get_or live x false ≡ true → get_or (set live j false) x false ≡ true
      stays x n t = get_or-set_other live j x false false n ∙ t

      ends : (x y : ℕ) → (x ≢ j) × (y ≢ j) × (Joining cells x y ⊎ ((x ≡ a) × Joining cells j y))
          → (get_or (set live j false) x false ≡ true) × (get_or (set live j false) y false ≡ true)
      ends x y (nx, ny, inl o) = let (p, q) = k.ends x y o in (stays x nx p, stays y ny q)
      ends x y (nx, ny, inr (q, o)) =
          let P : ℕ → Type 0 = λ z. get_or live z false ≡ true in
          (stays x nx (subst P (sym q) la), stays y ny (k.ends j y o).1)

-- the edge from a to itself was there exactly where a cell stated it
pub edge_is : (cells : List Cell) (x y : ℕ) → Joining cells x y ↔ (joins (edges_of cells) x y ≡ true)
edge_is cells x y = (joins_from cells x y, joining_from cells x y)

-- the sole predecessor in the plain graph is the sole source in the cells
pub sole_from : (live : List Bool) (cells : List Cell) (a j : ℕ) → SolePred (plain (shape live cells)) a j
    → Joining cells a j × (a ≢ j) × ((x : ℕ) → Joining cells x j → x ≡ a)
sole_from live cells a j p = (joining_from cells a j p.edge, p.other, λ x i. p.sole x (joins_from cells x j i))

pub sole_to : (live : List Bool) (cells : List Cell) (a j : ℕ) → Joining cells a j → a ≢ j → ((x : ℕ) → Joining cells x j → x ≡ a)
    → SolePred (plain (shape live cells)) a j
sole_to live cells a j i n s = record { edge = joins_from cells a j i; other = n; sole = λ x e. s x (joining_from cells x j e) }
