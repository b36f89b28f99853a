-- The edges that contracts see are those of the used cells.
use Rattle.std.proofs.Common.{◌≡◌, inl, inr, ℕ, zero, suc, Bool, true, false, cond, ◌&&◌, eqb, List, [], ◌∷◌, sym, refl, subst, arith, eqb-true, eq-eqb}
use Rattle.std.proofs.lemmas.Bool.{and_parts, and_from, or_cases, or_left, or_right}
use Rattle.flow_graph.specs.declared.cells.Cell.{Cell}
use Rattle.flow_graph.specs.Shapes.{joins, edges_of}
use Rattle.flow_graph.specs.Links.{Joining}

later : (k : Cell) (cells : List Cell) (x y : ℕ) → Joining cells x y → Joining (k ∷ cells) x y
later k cells x y (c, l, t, e) = (suc c, omega arith, t, e)

pub joining_from : (cells : List Cell) (x y : ℕ) → joins (edges_of cells) x y ≡ true → Joining cells x y
joining_from [] x y h = cc
joining_from (k ∷ cells) x y h = go (k.used) refl h (joining_from cells x y)
  where
    go : (b : Bool) → k.used ≡ b → joins (cond b ((k.from, k.to) ∷ edges_of cells) (edges_of cells)) x y ≡ true
        → (joins (edges_of cells) x y ≡ true → Joining cells x y) → Joining (k ∷ cells) x y
    go false e h ih = later k cells x y (ih h)
    go true e h ih = elim (or_cases (eqb k.from x && eqb k.to y) (joins (edges_of cells) x y) h) [
      | inl t ↦ (let (p, q) = and_parts (eqb k.from x) (eqb k.to y) t in
          (zero, omega arith, and_from k.used (eqb k.from x) e p, eqb-true k.to y q))
      | inr t ↦ later k cells x y (ih t)
    ]

pub joins_from : (cells : List Cell) (x y : ℕ) → Joining cells x y → joins (edges_of cells) x y ≡ true
joins_from [] x y (c, l, t, e) = absurd (omega arith)
joins_from (k ∷ cells) x y (zero, l, t, e) =
    let (u, p) = and_parts k.used (eqb k.from x) t in
    let P : Bool → Type 0 = λ b. joins (cond b ((k.from, k.to) ∷ edges_of cells) (edges_of cells)) x y ≡ true in
    subst P (sym u) (or_left (eqb k.from x && eqb k.to y) _ (and_from (eqb k.from x) _ p (eq-eqb k.to y e)))
joins_from (k ∷ cells) x y (suc c, l, t, e) =
    let r = joins_from cells x y (c, omega arith, t, e) in
    go k.used r
  where
    go : (b : Bool) → joins (edges_of cells) x y ≡ true → joins (cond b ((k.from, k.to) ∷ edges_of cells) (edges_of cells)) x y ≡ true
    go true r = or_right (eqb k.from x && eqb k.to y) _ r
    go false r = r
