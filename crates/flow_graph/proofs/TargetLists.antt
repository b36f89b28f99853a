-- The lists of targets after a write of a link.
use Rattle.std.proofs.Common.{◌≡◌, ◌≢◌, inl, inr, ℕ, ◌<◌, Bool, true, not, ◌&&◌, eqb, Option, Some, None, List, length, set, sym, refl, ap, subst, ◌∙◌, eqb-true, eq-eqb, get_or, get_or-set_same, get_or-set_other, length-set, arith}
use Rattle.std.proofs.lemmas.Bool.{cases_eq, and_parts, and_from}
use Rattle.flow_graph.specs.declared.cells.Cell.{Cell}
use Rattle.flow_graph.specs.Links.{IsLast, IsAbove, leaves, Joining, without, no_cell, cell_at, enters, first_of, next_to_of, ToLists, ToListsBut}
use Rattle.flow_graph.specs.Changes.{SameButTo}
use Rattle.flow_graph.proofs.Lists.{OneKey, cut_below, cut_first}
use Rattle.flow_graph.proofs.SourceLists.{linked_same}

enters_one : (cells : List Cell) → OneKey (enters cells)
enters_one cells a b x t u =
    sym (eqb-true (cell_at cells x).to a (and_parts _ _ t).1) ∙ eqb-true (cell_at cells x).to b (and_parts _ _ u).1

enters_own : (cells : List Cell) (c : ℕ) → (cell_at cells c).used ≡ true → enters cells (cell_at cells c).to c ≡ true
enters_own cells c t = and_from _ _ t (eq-eqb (cell_at cells c).to (cell_at cells c).to refl)

-- the cells with the link of p set
abbrev pub linked_to : List Cell → ℕ → Option ℕ → List Cell
linked_to cells p v = set cells p (record {
  to = (cell_at cells p).to;
  from = (cell_at cells p).from;
  used = (cell_at cells p).used;
  next_to = v;
  next_from = (cell_at cells p).next_from;
})

module _ (cells : List Cell) (p : ℕ) (v : Option ℕ) (inside : p < length cells) where
  linked_at : cell_at (linked_to cells p v) p
      ≡ record { to = (cell_at cells p).to; from = (cell_at cells p).from; used = (cell_at cells p).used; next_to = v; next_from = (cell_at cells p).next_from }
  linked_at = get_or-set_same cells p _ no_cell inside

  linked_other : (x : ℕ) → x ≢ p → cell_at (linked_to cells p v) x ≡ cell_at cells x
  linked_other x n = get_or-set_other cells p x _ no_cell n

  -- what no link touches
  kept : {A : Type 0} (read : Cell → A) → read (record { to = (cell_at cells p).to; from = (cell_at cells p).from; used = (cell_at cells p).used; next_to = v; next_from = (cell_at cells p).next_from }) ≡ read (cell_at cells p)
      → (x : ℕ) → read (cell_at (linked_to cells p v) x) ≡ read (cell_at cells x)
  kept read e x = elim (cases_eq x p) [
    | inl q ↦ (let P : ℕ → Type 0 = λ y. read (cell_at (linked_to cells p v) y) ≡ read (cell_at cells y) in subst P (sym q) (ap read linked_at ∙ e))
    | inr n ↦ ap read (linked_other x n)
  ]

  pub linked_to_same : SameButTo cells (linked_to cells p v)
  linked_to_same = record {
    to = kept (λ c. c.to) refl;
    from = kept (λ c. c.from) refl;
    used = kept (λ c. c.used) refl;
    next_from = kept (λ c. c.next_from) refl;
  }

  enters_kept : (a x : ℕ) → enters (linked_to cells p v) a x ≡ enters cells a x
  enters_kept a = kept (λ c. c.used && eqb c.to a) refl

module _ (cells : List Cell) (first : List (Option ℕ)) (lists : ToLists cells first) (c : ℕ) (below : c < length cells) (used : (cell_at cells c).used ≡ true) where
  pub cells_cut : (p : ℕ) → IsAbove (enters cells (cell_at cells c).to) (length cells) c (Some p)
      → ToListsBut c (linked_to cells p (cell_at cells c).next_to) first
  cells_cut p (cp, pn, t, gap) =
      let v = (cell_at cells c).next_to in
      let new = linked_to cells p v in
      let base = cut_below (length cells) (length first) (enters cells) (first_of first) (next_to_of cells) lists (enters_one cells)
      (cell_at cells c).to c below (enters_own cells c used) p cp pn t gap (next_to_of new)
      (ap (λ (k : Cell). k.next_to) (linked_at cells p v pn)) (λ x n. ap (λ (k : Cell). k.next_to) (linked_other cells p v pn x n)) in
      linked_same (length cells) (length new) (length first) (length first) (without c (enters cells)) (without c (enters new))
      (first_of first) (first_of first) (next_to_of new) (next_to_of new) (length-set cells p _) refl
      (λ a x. ap (λ (b : Bool). b && not (eqb x c)) (enters_kept cells p v pn a x)) (λ a. refl) (λ x. refl) base

  pub first_cut : (cell_at cells c).to < length first → IsAbove (enters cells (cell_at cells c).to) (length cells) c None
      → ToListsBut c cells (set first (cell_at cells c).to (cell_at cells c).next_to)
  first_cut fits gap =
      let a = (cell_at cells c).to in
      let v = (cell_at cells c).next_to in
      let base = cut_first (length cells) (length first) (enters cells) (first_of first) (next_to_of cells) lists (enters_one cells)
      a c below (enters_own cells c used) gap (first_of (set first a v))
      (get_or-set_same first a v None fits) (λ b n. get_or-set_other first a b v None n) in
      linked_same (length cells) (length cells) (length first) (length (set first a v)) (without c (enters cells)) (without c (enters cells))
      (first_of (set first a v)) (first_of (set first a v)) (next_to_of cells) (next_to_of cells) refl (length-set first a v)
      (λ b x. refl) (λ b. refl) (λ x. refl) base

-- where the list of j has two cells, no node is the source of both
pub two_sources : (cells : List Cell) (first : List (Option ℕ)) (j c d : ℕ) → ToLists cells first
    → ((a c d : ℕ) → leaves cells a c ≡ true → leaves cells a d ≡ true → (cell_at cells c).to ≡ (cell_at cells d).to → c ≡ d)
    → j < length first → get_or first j None ≡ Some c → (cell_at cells c).next_to ≡ Some d
    → (a : ℕ) → ((x : ℕ) → Joining cells x j → x ≡ a) → ⊥
two_sources cells first j c d lists single inside is next a sole =
    let P : Option ℕ → Type 0 = λ o. IsLast (enters cells j) (length cells) o in
    let (cn, tc, _) = subst P is (lists.heads j inside) in
    let Q : Option ℕ → Type 0 = λ o. IsLast (enters cells j) c o in
    let (dc, td, _) = subst Q next (lists.nexts j c cn tc) in
    let (uc, qc) = and_parts (cell_at cells c).used _ tc in
    let (ud, qd) = and_parts (cell_at cells d).used _ td in
    let ec : (cell_at cells c).to ≡ j = eqb-true (cell_at cells c).to j qc in
    let ed : (cell_at cells d).to ≡ j = eqb-true (cell_at cells d).to j qd in
    let k : c ≡ d = single a c d (from_a c cn uc ec) (from_a d (omega arith) ud ed) (ec ∙ sym ed) in
    omega arith
  where
    from_a : (e : ℕ) → e < length cells → (cell_at cells e).used ≡ true → (cell_at cells e).to ≡ j → leaves cells a e ≡ true
    from_a e l u q =
        let own : leaves cells (cell_at cells e).from e ≡ true = and_from _ _ u (eq-eqb (cell_at cells e).from (cell_at cells e).from refl) in
        and_from _ _ u (eq-eqb (cell_at cells e).from a (sole (cell_at cells e).from (e, l, own, q)))
