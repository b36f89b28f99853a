-- The cells and lists of the chosen edges.
use Rattle.std.proofs.Common.{◌≡◌, ◌≢◌, inl, inr, ℕ, ◌+◌, ◌<◌, Bool, true, false, ◌&&◌, eqb, List, length, set, Option, Some, None, sym, refl, ap, subst, ◌∙◌, arith, eq-eqb, ne_eqb, get_or-set_same, get_or-set_other, length-set}
use Rattle.std.proofs.lemmas.Bool.{cases_eq, both_ways, cases_Bool}
use Rattle.flow_graph.specs.declared.cells.Cell.{Cell}
use Rattle.flow_graph.specs.declared.linked.Edge.{Edge}
use Rattle.flow_graph.specs.Links.{IsLast, Linked, no_cell, cell_at, leaves, enters, first_of, next_from_of, next_to_of}
use Rattle.flow_graph.specs.Given.{edge_at, chosen_at, Placed}
use Rattle.flow_graph.proofs.Lists.{linked_skip, linked_more, linked_below}

-- nothing is placed at first
pub place_start : (edges : List Edge) (chosen : List Bool) (cells : List Cell) (ff ft : List (Option ℕ)) → ((c : ℕ) → (cell_at cells c).used ≡ false)
    → ((a : ℕ) → first_of ff a ≡ None) → ((a : ℕ) → first_of ft a ≡ None) → Placed edges chosen 0 cells ff ft
place_start edges chosen cells ff ft none nf nt = record {
  from_lists = record {
    heads = λ a l. (let P : Option ℕ → Type 0 = λ o. IsLast (leaves cells a) 0 o in
        let e : IsLast (leaves cells a) 0 None = λ x i. absurd (omega arith) in subst P (sym (nf a)) e);
    nexts = λ a c l. absurd (omega arith);
  };
  to_lists = record {
    heads = λ a l. (let P : Option ℕ → Type 0 = λ o. IsLast (enters cells a) 0 o in
        let e : IsLast (enters cells a) 0 None = λ x i. absurd (omega arith) in subst P (sym (nt a)) e);
    nexts = λ a c l. absurd (omega arith);
  };
  used = λ c t. absurd (both_ways _ (none c) t);
  placed = λ c l. absurd (omega arith);
}

module _ (edges : List Edge) (chosen : List Bool) (n : ℕ) (cells : List Cell) (ff ft : List (Option ℕ)) (p : Placed edges chosen n cells ff ft) where
  unused : (cell_at cells n).used ≡ false
  unused = elim (cases_Bool (cell_at cells n).used) [
    | inl t ↦ absurd (let h = (p.used n t).0 in omega arith)
    | inr f ↦ f
  ]

  -- an edge that is not chosen is passed over
  pub place_skip : chosen_at chosen n ≡ false → Placed edges chosen (n + 1) cells ff ft
  place_skip f = record {
    from_lists = linked_skip n (length ff) (leaves cells) (first_of ff) (next_from_of cells) p.from_lists
        (λ b. ap (λ (t : Bool). t && eqb (cell_at cells n).from b) unused);
    to_lists = linked_skip n (length ft) (enters cells) (first_of ft) (next_to_of cells) p.to_lists
        (λ b. ap (λ (t : Bool). t && eqb (cell_at cells n).to b) unused);
    used = λ c t. (let (l, k, from, to) = p.used c t in (omega arith, k, from, to));
    placed = λ c l t. elim (cases_eq c n) [
      | inl q ↦ (let P : ℕ → Type 0 = λ z. chosen_at chosen z ≡ true in absurd (both_ways _ f (subst P q t)))
      | inr o ↦ p.placed c (omega arith) t
    ];
  }

  module _ (a b : ℕ) (ea : a ≡ (edge_at edges n).from) (eb : b ≡ (edge_at edges n).to) (inside : n < length cells) (af : a < length ff) (bf : b < length ft)
      (t : chosen_at chosen n ≡ true) where
    abbrev cell : Cell
    cell = record { from = a; to = b; used = true; next_from = first_of ff a; next_to = first_of ft b }

    abbrev after : List Cell
    after = set cells n cell

    at_n : cell_at (set cells n cell) n ≡ cell
    at_n = get_or-set_same cells n cell no_cell inside

    off_n : (x : ℕ) → x ≢ n → cell_at (set cells n cell) x ≡ cell_at cells x
    off_n x o = get_or-set_other cells n x cell no_cell o

    new_from : Linked (n + 1) (length (set ff a (Some n))) (leaves (set cells n cell)) (first_of (set ff a (Some n))) (next_from_of (set cells n cell))
    new_from =
        let base : Linked n (length ff) (leaves (set cells n cell)) (first_of ff) (next_from_of cells) =
        linked_below n (length ff) (leaves cells) (leaves (set cells n cell)) (first_of ff) (next_from_of cells)
        (λ x y l. ap (λ (k : Cell). k.used && eqb k.from x) (off_n y (omega arith))) p.from_lists in
        let more : Linked (n + 1) (length ff) (leaves (set cells n cell)) (first_of (set ff a (Some n))) (next_from_of (set cells n cell)) =
        linked_more n (length ff) (leaves (set cells n cell)) (first_of ff) (next_from_of cells) base (first_of (set ff a (Some n))) (next_from_of (set cells n cell))
        a af (ap (λ (k : Cell). k.used && eqb k.from a) at_n ∙ eq-eqb a a refl)
        (λ x o. ap (λ (k : Cell). k.used && eqb k.from x) at_n ∙ ne_eqb a x (λ q. o (sym q)))
        (get_or-set_same ff a (Some n) None af) (λ x o. get_or-set_other ff a x (Some n) None o)
        (ap (λ (k : Cell). k.next_from) at_n) (λ x o. ap (λ (k : Cell). k.next_from) (off_n x o)) in
        let P : ℕ → Type 0 = λ k. Linked (n + 1) k (leaves (set cells n cell)) (first_of (set ff a (Some n))) (next_from_of (set cells n cell)) in
        subst P (sym (length-set ff a (Some n))) more

    new_to : Linked (n + 1) (length (set ft b (Some n))) (enters (set cells n cell)) (first_of (set ft b (Some n))) (next_to_of (set cells n cell))
    new_to =
        let base : Linked n (length ft) (enters (set cells n cell)) (first_of ft) (next_to_of cells) =
        linked_below n (length ft) (enters cells) (enters (set cells n cell)) (first_of ft) (next_to_of cells)
        (λ x y l. ap (λ (k : Cell). k.used && eqb k.to x) (off_n y (omega arith))) p.to_lists in
        let more : Linked (n + 1) (length ft) (enters (set cells n cell)) (first_of (set ft b (Some n))) (next_to_of (set cells n cell)) =
        linked_more n (length ft) (enters (set cells n cell)) (first_of ft) (next_to_of cells) base (first_of (set ft b (Some n))) (next_to_of (set cells n cell))
        b bf (ap (λ (k : Cell). k.used && eqb k.to b) at_n ∙ eq-eqb b b refl)
        (λ x o. ap (λ (k : Cell). k.used && eqb k.to x) at_n ∙ ne_eqb b x (λ q. o (sym q)))
        (get_or-set_same ft b (Some n) None bf) (λ x o. get_or-set_other ft b x (Some n) None o)
        (ap (λ (k : Cell). k.next_to) at_n) (λ x o. ap (λ (k : Cell). k.next_to) (off_n x o)) in
        let P : ℕ → Type 0 = λ k. Linked (n + 1) k (enters (set cells n cell)) (first_of (set ft b (Some n))) (next_to_of (set cells n cell)) in
        subst P (sym (length-set ft b (Some n))) more

    -- a chosen edge gets its cell
    pub place_more : Placed edges chosen (n + 1) (set cells n cell) (set ff a (Some n)) (set ft b (Some n))
    place_more = record {
      from_lists = new_from;
      to_lists = new_to;
      used = λ c u. elim (cases_eq c n) [
        | inl q ↦ (let P : ℕ → Type 0 = λ z. (z < n + 1) × (chosen_at chosen z ≡ true) × ((cell_at (set cells n cell) z).from ≡ (edge_at edges z).from)
            × ((cell_at (set cells n cell) z).to ≡ (edge_at edges z).to) in
            let h : (n < n + 1) × (chosen_at chosen n ≡ true) × ((cell_at (set cells n cell) n).from ≡ (edge_at edges n).from)
            × ((cell_at (set cells n cell) n).to ≡ (edge_at edges n).to) =
            (omega arith, t, ap (λ (k : Cell). k.from) at_n ∙ ea, ap (λ (k : Cell). k.to) at_n ∙ eb) in
            subst P (sym q) h)
        | inr o ↦ (let (l, k, f, g) = p.used c (ap (λ (k : Cell). k.used) (sym (off_n c o)) ∙ u) in
            (omega arith, k, ap (λ (k : Cell). k.from) (off_n c o) ∙ f, ap (λ (k : Cell). k.to) (off_n c o) ∙ g))
      ];
      placed = λ c l k. elim (cases_eq c n) [
        | inl q ↦ (let P : ℕ → Type 0 = λ z. (cell_at (set cells n cell) z).used ≡ true in subst P (sym q) (ap (λ (k : Cell). k.used) at_n))
        | inr o ↦ ap (λ (k : Cell). k.used) (off_n c o) ∙ p.placed c (omega arith) k
      ];
    }
