-- The lists of sources after a write of a link.
use Rattle.std.proofs.Common.{◌≡◌, ◌≢◌, inl, inr, ℕ, ◌<◌, Bool, true, not, ◌&&◌, eqb, Option, Some, None, List, length, set, sym, refl, ap, subst, ◌∙◌, arith, eqb-true, eq-eqb, get_or-set_same, get_or-set_other, length-set}
use Rattle.std.proofs.lemmas.Bool.{cases_eq, and_parts, and_from}
use Rattle.flow_graph.specs.declared.cells.Cell.{Cell}
use Rattle.flow_graph.specs.Links.{IsLast, IsAbove, Linked, without, no_cell, cell_at, leaves, first_of, next_from_of, FromLists, FromListsBut}
use Rattle.flow_graph.specs.Changes.{SameButFrom}
use Rattle.flow_graph.proofs.Lists.{OneKey, cut_below, cut_first}

-- lists read through equal tests and links are the same lists
pub linked_same : (n n' keys keys' : ℕ) (m m' : ℕ → ℕ → Bool) (f f' nx nx' : ℕ → Option ℕ) → n' ≡ n → keys' ≡ keys
    → ((a x : ℕ) → m' a x ≡ m a x) → ((a : ℕ) → f' a ≡ f a) → ((x : ℕ) → nx' x ≡ nx x) → Linked n keys m f nx → Linked n' keys' m' f' nx'
linked_same n n' keys keys' m m' f f' nx nx' en ek em ef ex l = record {
  heads = λ a h. (let P : ℕ → Type 0 = λ u. IsLast (m' a) u (f' a) in
      subst P (sym en) (let Q : Option ℕ → Type 0 = λ o. IsLast (m' a) n o in subst Q (sym (ef a)) (last_same a n (f a) (l.heads a (omega arith)))));
  nexts = λ a x h t. (let Q : Option ℕ → Type 0 = λ o. IsLast (m' a) x o in
      subst Q (sym (ex x)) (last_same a x (nx x) (l.nexts a x (omega arith) (sym (em a x) ∙ t))));
}
  where
    last_same : (a u : ℕ) (r : Option ℕ) → IsLast (m a) u r → IsLast (m' a) u r
    last_same a u None h = λ x k. em a x ∙ h x k
    last_same a u (Some r) (k, t, h) = (k, em a r ∙ t, λ x i j. em a x ∙ h x i j)

pub leaves_one : (cells : List Cell) → OneKey (leaves cells)
leaves_one cells a b x t u =
    sym (eqb-true (cell_at cells x).from a (and_parts _ _ t).1) ∙ eqb-true (cell_at cells x).from b (and_parts _ _ u).1

leaves_own : (cells : List Cell) (c : ℕ) → (cell_at cells c).used ≡ true → leaves cells (cell_at cells c).from c ≡ true
leaves_own cells c t = and_from _ _ t (eq-eqb (cell_at cells c).from (cell_at cells c).from refl)

-- the cells with the link of p set
abbrev pub linked_to : List Cell → ℕ → Option ℕ → List Cell
linked_to cells p v = set cells p (record {
  from = (cell_at cells p).from;
  to = (cell_at cells p).to;
  used = (cell_at cells p).used;
  next_from = v;
  next_to = (cell_at cells p).next_to;
})

module _ (cells : List Cell) (p : ℕ) (v : Option ℕ) (inside : p < length cells) where
  pub linked_at : cell_at (linked_to cells p v) p
      ≡ record { from = (cell_at cells p).from; to = (cell_at cells p).to; used = (cell_at cells p).used; next_from = v; next_to = (cell_at cells p).next_to }
  linked_at = get_or-set_same cells p _ no_cell inside

  pub linked_other : (x : ℕ) → x ≢ p → cell_at (linked_to cells p v) x ≡ cell_at cells x
  linked_other x n = get_or-set_other cells p x _ no_cell n

  -- what no link touches
  kept : {A : Type 0} (read : Cell → A) → read (record { from = (cell_at cells p).from; to = (cell_at cells p).to; used = (cell_at cells p).used; next_from = v; next_to = (cell_at cells p).next_to }) ≡ read (cell_at cells p)
      → (x : ℕ) → read (cell_at (linked_to cells p v) x) ≡ read (cell_at cells x)
  kept read e x = elim (cases_eq x p) [
    | inl q ↦ (let P : ℕ → Type 0 = λ y. read (cell_at (linked_to cells p v) y) ≡ read (cell_at cells y) in subst P (sym q) (ap read linked_at ∙ e))
    | inr n ↦ ap read (linked_other x n)
  ]

  pub linked_to_same : SameButFrom cells (linked_to cells p v)
  linked_to_same = record {
    from = kept (λ c. c.from) refl;
    to = kept (λ c. c.to) refl;
    used = kept (λ c. c.used) refl;
    next_to = kept (λ c. c.next_to) refl;
  }

  pub leaves_kept : (a x : ℕ) → leaves (linked_to cells p v) a x ≡ leaves cells a x
  leaves_kept a = kept (λ c. c.used && eqb c.from a) refl

module _ (cells : List Cell) (first : List (Option ℕ)) (lists : FromLists cells first) (c : ℕ) (below : c < length cells) (used : (cell_at cells c).used ≡ true) where
  pub cells_cut : (p : ℕ) → IsAbove (leaves cells (cell_at cells c).from) (length cells) c (Some p)
      → FromListsBut c (linked_to cells p (cell_at cells c).next_from) first
  cells_cut p (cp, pn, t, gap) =
      let v = (cell_at cells c).next_from in
      let new = linked_to cells p v in
      let base = cut_below (length cells) (length first) (leaves cells) (first_of first) (next_from_of cells) lists (leaves_one cells)
      (cell_at cells c).from c below (leaves_own cells c used) p cp pn t gap (next_from_of new)
      (ap (λ (k : Cell). k.next_from) (linked_at cells p v pn)) (λ x n. ap (λ (k : Cell). k.next_from) (linked_other cells p v pn x n)) in
      linked_same (length cells) (length new) (length first) (length first) (without c (leaves cells)) (without c (leaves new))
      (first_of first) (first_of first) (next_from_of new) (next_from_of new) (length-set cells p _) refl
      (λ a x. ap (λ (b : Bool). b && not (eqb x c)) (leaves_kept cells p v pn a x)) (λ a. refl) (λ x. refl) base

  pub first_cut : (cell_at cells c).from < length first → IsAbove (leaves cells (cell_at cells c).from) (length cells) c None
      → FromListsBut c cells (set first (cell_at cells c).from (cell_at cells c).next_from)
  first_cut fits gap =
      let a = (cell_at cells c).from in
      let v = (cell_at cells c).next_from in
      let base = cut_first (length cells) (length first) (leaves cells) (first_of first) (next_from_of cells) lists (leaves_one cells)
      a c below (leaves_own cells c used) gap (first_of (set first a v))
      (get_or-set_same first a v None fits) (λ b n. get_or-set_other first a b v None n) in
      linked_same (length cells) (length cells) (length first) (length (set first a v)) (without c (leaves cells)) (without c (leaves cells))
      (first_of (set first a v)) (first_of (set first a v)) (next_from_of cells) (next_from_of cells) refl (length-set first a v)
      (λ b x. refl) (λ b. refl) (λ x. refl) base
