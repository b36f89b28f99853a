-- An edge that gets another source.
use Rattle.std.proofs.Common.{◌≡◌, ◌≢◌, inl, inr, ℕ, ◌<◌, Bool, true, not, ◌&&◌, eqb, Option, Some, None, List, length, get_or, set, sym, refl, ap, subst, ◌∙◌, arith, eq-eqb, get_or-set_same, get_or-set_other, length-set}
use Rattle.std.proofs.lemmas.Bool.{cases_eq, and_from}
use Rattle.flow_graph.specs.declared.cells.Cell.{Cell}
use Rattle.flow_graph.specs.Links.{IsAbove, Linked, without, no_cell, cell_at, leaves, first_of, next_from_of, FromLists, FromListsBut}
use Rattle.flow_graph.specs.Changes.{SameButFrom}
use Rattle.flow_graph.proofs.Lists.{without_false, without_at, without_true, put_below, put_first}
use Rattle.flow_graph.proofs.SourceLists.{linked_same, leaves_one, linked_to, linked_at, linked_other, leaves_kept}

-- the cells with c an edge from a, before the link v
abbrev pub moved : List Cell → ℕ → ℕ → Option ℕ → List Cell
moved cells c a v = set cells c (record {
  from = a;
  to = (cell_at cells c).to;
  used = (cell_at cells c).used;
  next_from = v;
  next_to = (cell_at cells c).next_to;
})

module _ (cells : List Cell) (c a : ℕ) (v : Option ℕ) (inside : c < length cells) where
  moved_at : cell_at (moved cells c a v) c
      ≡ record { from = a; to = (cell_at cells c).to; used = (cell_at cells c).used; next_from = v; next_to = (cell_at cells c).next_to }
  moved_at = get_or-set_same cells c _ no_cell inside

  moved_other : (x : ℕ) → x ≢ c → cell_at (moved cells c a v) x ≡ cell_at cells x
  moved_other x n = get_or-set_other cells c x _ no_cell n

  -- the members but c are as before
  moved_without : (b x : ℕ) → without c (leaves (moved cells c a v)) b x ≡ without c (leaves cells) b x
  moved_without b x = elim (cases_eq x c) [
    | inl q ↦ (let P : ℕ → Type 0 = λ y. without c (leaves (moved cells c a v)) b y ≡ without c (leaves cells) b y in
        subst P (sym q) (without_at (leaves (moved cells c a v) b) c ∙ sym (without_at (leaves cells b) c)))
    | inr n ↦ ap (λ (k : Cell). (k.used && eqb k.from b) && not (eqb x c)) (moved_other x n)
  ]

  moved_here : (cell_at cells c).used ≡ true → leaves (moved cells c a v) a c ≡ true
  moved_here u = ap (λ (k : Cell). k.used && eqb k.from a) moved_at ∙ and_from _ (eqb a a) u (eq-eqb a a refl)

module _ (cells : List Cell) (first : List (Option ℕ)) (c a : ℕ) (lists : FromListsBut c cells first) (inside : c < length cells)
    (used : (cell_at cells c).used ≡ true) where
  pub move_below : (p : ℕ) → IsAbove (leaves cells a) (length cells) c (Some p)
      → FromLists (moved (linked_to cells p (Some c)) c a (cell_at cells p).next_from) first
  move_below p (cp, pn, tp, gap) =
      let two = linked_to cells p (Some c) in
      let v = (cell_at cells p).next_from in
      let three = moved two c a v in
      let len : length two ≡ length cells = length-set cells p _ in
      let len' : length three ≡ length two = length-set two c _ in
      let cin : c < length two = omega arith in
      let ne : c ≢ p = omega arith in
      let np : p ≢ c = omega arith in
      let same : (b x : ℕ) → without c (leaves three) b x ≡ without c (leaves cells) b x =
      λ b x. moved_without two c a v cin b x ∙ ap (λ (t : Bool). t && not (eqb x c)) (leaves_kept cells p (Some c) pn b x) in
      let used' : (cell_at two c).used ≡ true = ap (λ (k : Cell). k.used) (linked_other cells p (Some c) pn c ne) ∙ used in
      let base : Linked (length cells) (length first) (without c (leaves three)) (first_of first) (next_from_of cells) =
      linked_same (length cells) (length cells) (length first) (length first) (without c (leaves cells)) (without c (leaves three))
      (first_of first) (first_of first) (next_from_of cells) (next_from_of cells) refl refl same (λ b. refl) (λ x. refl) lists in
      let put = put_below (length cells) (length first) (leaves three) (first_of first) (next_from_of cells) c base (leaves_one three) a inside
      (moved_here two c a v cin used') p cp pn (same a p ∙ without_true (leaves cells a) c p tp np)
      (λ x i j. same a x ∙ without_false (leaves cells a) c x (gap x i j)) (next_from_of three)
      (ap (λ (k : Cell). k.next_from) (moved_at two c a v cin))
      (ap (λ (k : Cell). k.next_from) (moved_other two c a v cin p np ∙ linked_at cells p (Some c) pn))
      (λ x n m. ap (λ (k : Cell). k.next_from) (moved_other two c a v cin x m ∙ linked_other cells p (Some c) pn x n)) in
      linked_same (length cells) (length three) (length first) (length first) (leaves three) (leaves three) (first_of first) (first_of first)
      (next_from_of three) (next_from_of three) (len' ∙ len) refl (λ b x. refl) (λ b. refl) (λ x. refl) put

  pub move_first : a < length first → IsAbove (leaves cells a) (length cells) c None
      → FromLists (moved cells c a (get_or first a None)) (set first a (Some c))
  move_first fits gap =
      let v = get_or first a None in
      let two = moved cells c a v in
      let same : (b x : ℕ) → without c (leaves two) b x ≡ without c (leaves cells) b x = moved_without cells c a v inside in
      let base : Linked (length cells) (length first) (without c (leaves two)) (first_of first) (next_from_of cells) =
      linked_same (length cells) (length cells) (length first) (length first) (without c (leaves cells)) (without c (leaves two))
      (first_of first) (first_of first) (next_from_of cells) (next_from_of cells) refl refl same (λ b. refl) (λ x. refl) lists in
      let put = put_first (length cells) (length first) (leaves two) (first_of first) (next_from_of cells) c base (leaves_one two) a inside
      (moved_here cells c a v inside used) (λ x i j. same a x ∙ without_false (leaves cells a) c x (gap x i j))
      (first_of (set first a (Some c))) (next_from_of two)
      (get_or-set_same first a (Some c) None fits) (λ b n. get_or-set_other first a b (Some c) None n)
      (ap (λ (k : Cell). k.next_from) (moved_at cells c a v inside))
      (λ x n. ap (λ (k : Cell). k.next_from) (moved_other cells c a v inside x n)) fits in
      linked_same (length cells) (length two) (length first) (length (set first a (Some c))) (leaves two) (leaves two)
      (first_of (set first a (Some c))) (first_of (set first a (Some c))) (next_from_of two) (next_from_of two)
      (length-set cells c _) (length-set first a (Some c)) (λ b x. refl) (λ b. refl) (λ x. refl) put

-- a cut of other links keeps what lies above
pub above_kept : (old new : List Cell) → SameButFrom old new → length new ≡ length old → (a c : ℕ) (r : Option ℕ)
    → IsAbove (leaves old a) (length old) c r → IsAbove (leaves new a) (length new) c r
above_kept old new s e a c None h = λ x i j. leaves_same x ∙ h x i (omega arith)
  where
    leaves_same : (x : ℕ) → leaves new a x ≡ leaves old a x
    leaves_same x = ap (λ (t : Bool). t && eqb (cell_at new x).from a) (s.used x) ∙ ap (λ (y : ℕ). (cell_at old x).used && eqb y a) (s.from x)
above_kept old new s e a c (Some r) (i, j, t, h) = (i, omega arith, leaves_same r ∙ t, λ x v w. leaves_same x ∙ h x v w)
  where
    leaves_same : (x : ℕ) → leaves new a x ≡ leaves old a x
    leaves_same x = ap (λ (t : Bool). t && eqb (cell_at new x).from a) (s.used x) ∙ ap (λ (y : ℕ). (cell_at old x).used && eqb y a) (s.from x)
