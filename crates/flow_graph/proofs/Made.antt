-- The graph that is made of a list of edges.
use Rattle.std.proofs.Common.{◌≡◌, inl, inr, ℕ, zero, suc, ◌<◌, Bool, true, false, ◌&&◌, eqb, ltb, replicate, List, [], ◌∷◌, length, get_or, Option, sym, subst, ◌∙◌, arith, eqb-true, eq-eqb}
use Rattle.std.proofs.lemmas.Bool.{cases_lt, both_ways, and_parts, and_from, or_cases, or_left, or_right, lt-ltb, le-ltb}
use Rattle.std.proofs.lemmas.List.{get_or_past, get_or-replicate, length-replicate}
use Rattle.dxil_form.specs.Graphs.{IsFormed}
use Rattle.flow_graph.specs.declared.cells.Cell.{Cell}
use Rattle.flow_graph.specs.declared.linked.Edge.{Edge}
use Rattle.flow_graph.specs.Links.{cell_at, leaves, enters, first_of, next_from_of, next_to_of, Linked, Joining, Sound}
use Rattle.flow_graph.specs.Shapes.{plain, joins, edges_of, Kept}
use Rattle.flow_graph.specs.Given.{states, given, edge_at, chosen_at, Within, Chosen, IsChoice, Placed}
use Rattle.flow_graph.proofs.Edges.{joining_from, joins_from}
use Rattle.flow_graph.proofs.Rewritten.{shape, same_test, same_graph}

-- all edges have been seen
pub choice_end : (edges : List Edge) (count n : ℕ) (seen : List (Option ℕ)) (chosen : List Bool) → Within count edges → n ≡ count
    → length chosen ≡ length edges → Chosen edges n seen chosen → IsChoice edges chosen
choice_end edges count n seen chosen w m e s = record { count = e; single = s.single; all = λ i l. s.all i l (let h = (w i l).0 in omega arith) }

states_at : (edges : List Edge) (x y : ℕ) → states edges x y ≡ true
    → (i : ℕ) × (i < length edges) × ((edge_at edges i).from ≡ x) × ((edge_at edges i).to ≡ y)
states_at [] x y t = cc
states_at (e ∷ es) x y t = elim (or_cases (eqb e.from x && eqb e.to y) (states es x y) t) [
  | inl h ↦ (let (p, q) = and_parts (eqb e.from x) (eqb e.to y) h in (zero, omega arith, eqb-true e.from x p, eqb-true e.to y q))
  | inr h ↦ (let (i, l, p, q) = states_at es x y h in (suc i, omega arith, p, q))
]

at_states : (edges : List Edge) (x y i : ℕ) → i < length edges → (edge_at edges i).from ≡ x → (edge_at edges i).to ≡ y → states edges x y ≡ true
at_states [] x y i l p q = absurd (omega arith)
at_states (e ∷ es) x y zero l p q = or_left (eqb e.from x && eqb e.to y) _ (and_from (eqb e.from x) _ (eq-eqb e.from x p) (eq-eqb e.to y q))
at_states (e ∷ es) x y (suc i) l p q = or_right (eqb e.from x && eqb e.to y) _ (at_states es x y i (omega arith) p q)

module _ (edges : List Edge) (chosen : List Bool) (cells : List Cell) (ff ft : List (Option ℕ)) (p : Placed edges chosen (length edges) cells ff ft)
    (choice : IsChoice edges chosen) (count : length cells ≡ length edges) where
  joining_states : (x y : ℕ) → Joining cells x y → states edges x y ≡ true
  joining_states x y (c, l, t, e) =
      let (u, f) = and_parts (cell_at cells c).used (eqb (cell_at cells c).from x) t in
      let (m, _, g, h) = p.used c u in
      at_states edges x y c m (sym g ∙ eqb-true (cell_at cells c).from x f) (sym h ∙ e)

  states_joining : (x y : ℕ) → states edges x y ≡ true → Joining cells x y
  states_joining x y t =
      let (i, l, f, g) = states_at edges x y t in
      let (k, o, q, r) = choice.all i l in
      let inside : k < length edges = below k o in
      let u = p.placed k inside o in
      let (_, _, v, w) = p.used k u in
      (k, omega arith, and_from (cell_at cells k).used _ u (eq-eqb (cell_at cells k).from x (v ∙ q ∙ f)), w ∙ r ∙ g)
    where
      below : (k : ℕ) → chosen_at chosen k ≡ true → k < length edges
      below k o = elim (cases_lt k (length edges)) [
        | inl l ↦ l
        | inr g ↦ absurd (both_ways _ (get_or_past chosen k false (let e = choice.count in omega arith)) o)
      ]

  pub made_edges : (x y : ℕ) → joins (edges_of cells) x y ≡ states edges x y
  made_edges x y = same_test _ _ (λ t. joining_states x y (joining_from cells x y t)) (λ t. joins_from cells x y (states_joining x y t))

  pub made_sound : (n : ℕ) → length ff ≡ n → length ft ≡ n → Within n edges → Sound cells ff ft
  made_sound n ef et w = record {
    from_lists = (let P : ℕ → Type 0 = λ k. Linked k (length ff) (leaves cells) (first_of ff) (next_from_of cells) in subst P (sym count) p.from_lists);
    to_lists = (let P : ℕ → Type 0 = λ k. Linked k (length ft) (enters cells) (first_of ft) (next_to_of cells) in subst P (sym count) p.to_lists);
    from_fits = λ c u. (let (l, _, f, _) = p.used c u in let h = (w c l).0 in omega arith);
    to_fits = λ c u. (let (l, _, _, t) = p.used c u in let h = (w c l).1 in omega arith);
    single = λ a c d t u q. (let (uc, fc) = and_parts (cell_at cells c).used (eqb (cell_at cells c).from a) t in
        let (ud, fd) = and_parts (cell_at cells d).used (eqb (cell_at cells d).from a) u in
        let (_, oc, gc, hc) = p.used c uc in
        let (_, od, gd, hd) = p.used d ud in
        choice.single c d oc od (sym gc ∙ eqb-true (cell_at cells c).from a fc ∙ sym (eqb-true (cell_at cells d).from a fd) ∙ gd) (sym hc ∙ q ∙ hd));
  }

  module _ (n : ℕ) (w : Within n edges) where
    live_at : (x : ℕ) → x < n → get_or (replicate n true) x false ≡ true
    live_at x l = get_or-replicate n x true false l

    live_is : (x : ℕ) → get_or (replicate n true) x false ≡ ltb x n
    live_is x = elim (cases_lt x n) [
      | inl l ↦ live_at x l ∙ sym (lt-ltb x n l)
      | inr g ↦ get_or_past (replicate n true) x false (let e = length-replicate n true in omega arith) ∙ sym (le-ltb x n g)
    ]

    pub made_is : plain (shape (replicate n true) cells) ≡ given n edges
    made_is = same_graph _ _ (length-replicate n true) live_is made_edges

    ends : (x y : ℕ) → Joining cells x y → (x < n) × (y < n)
    ends x y (c, l, t, e) =
        let (u, f) = and_parts (cell_at cells c).used (eqb (cell_at cells c).from x) t in
        let (m, _, g, h) = p.used c u in
        let (a, b) = w c m in
        let q = eqb-true (cell_at cells c).from x f in
        (omega arith, omega arith)

    pub made_formed : 0 < n → IsFormed (plain (shape (replicate n true) cells))
    made_formed s = record {
      entry = live_at 0 s;
      within = λ a t. elim (cases_lt a n) [
        | inl l ↦ (let e = length-replicate n true in omega arith)
        | inr g ↦ absurd (both_ways _ (get_or_past (replicate n true) a false (let e = length-replicate n true in omega arith)) t)
      ];
      from = λ a b e. live_at a (ends a b (joining_from cells a b e)).0;
      to = λ a b e. live_at b (ends a b (joining_from cells a b e)).1;
    }

    pub made_kept : length ff ≡ n → length ft ≡ n → (marks : List Bool) (queue : List ℕ) → length marks ≡ n → length queue ≡ n
        → ((b : ℕ) → get_or marks b false ≡ false) → Kept (replicate n true) ff ft cells marks queue
    made_kept ef et marks queue em eq no_marks = record {
      from_count = ef ∙ sym (length-replicate n true);
      to_count = et ∙ sym (length-replicate n true);
      sound = made_sound n ef et w;
      ends = λ x y k. (live_at x (ends x y k).0, live_at y (ends x y k).1);
      marks_count = em ∙ sym (length-replicate n true);
      queue_count = eq ∙ sym (length-replicate n true);
      clean = no_marks;
    }
