-- One node more is absorbed.
use Rattle.std.proofs.Common.{◌≡◌, ◌≢◌, ◌⊎◌, inl, inr, ℕ, zero, suc, ◌+◌, ◌<◌, true, false, not, eqb, List, [], ◌∷◌, ◌++◌, length, get_or, take, Some, refl, sym, ap, subst, arith, eq-eqb, ne_eqb}
use Rattle.std.proofs.lemmas.Bool.{both_ways, eqb-true, eqb-false, and_parts, and_from, not-true, not_from_false, or_cases, or_left, or_right, false_from_ne_true, false≢true}
use Rattle.std.proofs.lemmas.List.{take_more}
use Rattle.std.proofs.lemmas.Option.{none-some, slice_get-get_or}
use Rattle.std.specs.List.{slice_get}
use Rattle.dxil_form.specs.Graphs.{Graph, IsFormed, AllReached, SolePred, absorbed}
use Rattle.dxil_form.specs.Branches.{has}
use Rattle.graph_laws.proofs.Rewrites.{edge_absorbed, absorbed_edge, absorb_keeps}
use Rattle.graph_laws.proofs.Public.{absorb_reached, absorb_heads}
use Rattle.region_builder.specs.Absorbing.{AreChildren, AreAbsorbed}

pub has_place : (xs : List ℕ) (k : ℕ) → has k xs ≡ true → (n : ℕ) × (slice_get xs n ≡ Some k)
has_place [] k t = absurd (false≢true t)
has_place (x ∷ xs) k t = elim (or_cases (eqb k x) (has k xs) t) [
  | inl q ↦ (0, ap (λ (y : ℕ). Some y) (sym (eqb-true k x q)))
  | inr h ↦ (let (n, e) = has_place xs k h in (suc n, e))
]

pub place_has : (xs : List ℕ) (n k : ℕ) → slice_get xs n ≡ Some k → has k xs ≡ true
place_has [] n k h = absurd (none-some k h)
place_has (x ∷ xs) zero k h = let q : k ≡ x = cc in or_left (eqb k x) (has k xs) (eq-eqb k x q)
place_has (x ∷ xs) (suc n) k h = or_right (eqb k x) (has k xs) (place_has xs n k h)

has_push : (xs : List ℕ) (y k : ℕ) → has k (xs ++ y ∷ []) ≡ true → (has k xs ≡ true) ⊎ (k ≡ y)
has_push [] y k t = elim (or_cases (eqb k y) false t) [ inl q ↦ inr (eqb-true k y q) | inr f ↦ absurd (false≢true f) ]
has_push (x ∷ xs) y k t = elim (or_cases (eqb k x) (has k (xs ++ y ∷ [])) t) [
  | inl q ↦ inl (or_left (eqb k x) (has k xs) q)
  | inr h ↦ elim (has_push xs y k h) [ inl i ↦ inl (or_right (eqb k x) (has k xs) i) | inr q ↦ inr q ]
]

pub push_has : (xs : List ℕ) (y k : ℕ) → (has k xs ≡ true) ⊎ (k ≡ y) → has k (xs ++ y ∷ []) ≡ true
push_has [] y k (inl t) = absurd (false≢true t)
push_has [] y k (inr q) = or_left (eqb k y) false (eq-eqb k y q)
push_has (x ∷ xs) y k (inl t) = elim (or_cases (eqb k x) (has k xs) t) [
  | inl q ↦ or_left (eqb k x) (has k (xs ++ y ∷ [])) q
  | inr h ↦ or_right (eqb k x) (has k (xs ++ y ∷ [])) (push_has xs y k (inl h))
]
push_has (x ∷ xs) y k (inr q) = or_right (eqb k x) (has k (xs ++ y ∷ [])) (push_has xs y k (inr q))

not_push : (xs : List ℕ) (y k : ℕ) → has k (xs ++ y ∷ []) ≡ false → (has k xs ≡ false) × (k ≢ y)
not_push xs y k f = (
  false_from_ne_true (has k xs) (λ t. both_ways _ f (push_has xs y k (inl t))),
  λ q. both_ways _ f (push_has xs y k (inr q)),
)

push_not : (xs : List ℕ) (y k : ℕ) → has k xs ≡ false → k ≢ y → has k (xs ++ y ∷ []) ≡ false
push_not xs y k f n = false_from_ne_true _ (λ t. elim (has_push xs y k t) [ inl h ↦ both_ways _ f h | inr q ↦ n q ])

take_place : (xs : List ℕ) (m n k : ℕ) → slice_get (take m xs) n ≡ Some k → (slice_get xs n ≡ Some k) × (n < m)
take_place [] zero n k h = absurd (none-some k h)
take_place [] (suc m) n k h = absurd (none-some k h)
take_place (x ∷ xs) zero n k h = absurd (none-some k h)
take_place (x ∷ xs) (suc m) zero k h = (h, omega arith)
take_place (x ∷ xs) (suc m) (suc n) k h = let (e, l) = take_place xs m n k h in (e, omega arith)

pub none_absorbed : (g : Graph) (a : ℕ) → IsFormed g → AllReached g → AreAbsorbed g a [] g
none_absorbed g a formed reached = record {
  count = refl;
  formed = formed;
  all_reached = reached;
  crossed = (λ k. k, λ k. k);
  heads = λ h b f. (λ o. o, λ o. o);
  live = λ i. (λ t. (t, refl), λ h. h.0);
  edge = λ x y. (λ t. (refl, refl, inl t), λ h. elim h.2 [ inl e ↦ e | inr (_, (j, t, _)) ↦ absurd (false≢true t) ]);
}

module _ (g : Graph) (a : ℕ) (nodes : List ℕ) (c : AreChildren g a nodes) where
  pub not_child : has a nodes ≡ false
  not_child = false_from_ne_true (has a nodes) (λ t. (let (n, h) = has_place nodes a t in (c.sole n a h).other refl))

  module _ (m : ℕ) (now : Graph) (are : AreAbsorbed g a (take m nodes) now) (l : m < length nodes) where
    abbrev child : ℕ
    child = get_or nodes m 0

    abbrev done : List ℕ
    done = take m nodes

    child_at : slice_get nodes m ≡ Some child
    child_at = slice_get-get_or nodes m 0 l

    abbrev pred : SolePred g a child
    pred = c.sole m child child_at

    done_child : (k : ℕ) → has k done ≡ true → (n : ℕ) × (slice_get nodes n ≡ Some k) × (n < m)
    done_child k t = let (n, h) = has_place done k t in let (e, i) = take_place nodes m n k h in (n, e, i)

    a_not_done : has a done ≡ false
    a_not_done = false_from_ne_true (has a done) (λ t. (let (n, h, _) = done_child a t in (c.sole n a h).other refl))

    child_not_done : has child done ≡ false
    child_not_done = false_from_ne_true (has child done) (λ t. (let (n, h, i) = done_child child t in
        let e = c.once n m child h child_at in omega arith))

    pub child_pred : SolePred now a child
    child_pred = record {
      edge = (are.edge a child).1 (a_not_done, child_not_done, inl pred.edge);
      other = pred.other;
      sole = λ x e. elim ((are.edge x child).0 e).2 [ inl d ↦ pred.sole x d | inr (q, _) ↦ q ];
    }

    pub child_nonzero : child ≢ 0
    child_nonzero = c.nonzero m child child_at

    abbrev next : Graph
    next = absorbed now a child

    taken : take (m + 1) nodes ≡ done ++ child ∷ []
    taken = take_more nodes m 0 l

    push_edge : (x y : ℕ) → next.edge x y ≡ true
        → (has x (done ++ child ∷ []) ≡ false) × (has y (done ++ child ∷ []) ≡ false)
        × ((g.edge x y ≡ true) ⊎ ((x ≡ a) × ((j : ℕ) × (has j (done ++ child ∷ []) ≡ true) × (g.edge j y ≡ true))))
    push_edge x y t =
        let (nx, ny, o) = edge_absorbed now a child child_nonzero child_pred x y t in
        elim o [
          | inl e ↦ (
              let (fx, fy, k) = (are.edge x y).0 e in (
                push_not done child x fx nx,
                push_not done child y fy ny,
                elim k [
                  | inl d ↦ inl d
                  | inr (q, (j, h, d)) ↦ inr (q, (j, push_has done child j (inl h), d))
                ],
              ))
          | inr (q, e) ↦ (
              let (fx, fy, k) = (are.edge child y).0 e in
              let P : ℕ → Type 0 = λ z. has z done ≡ false in (
                push_not done child x (subst P (sym q) a_not_done) nx,
                push_not done child y fy ny,
                inr (q, (child, push_has done child child (inr refl), elim k [ inl d ↦ d | inr (o, _) ↦ absurd (pred.other (sym o)) ])),
              ))
        ]

    edge_push : (x y : ℕ) → (has x (done ++ child ∷ []) ≡ false) × (has y (done ++ child ∷ []) ≡ false)
        × ((g.edge x y ≡ true) ⊎ ((x ≡ a) × ((j : ℕ) × (has j (done ++ child ∷ []) ≡ true) × (g.edge j y ≡ true))))
        → next.edge x y ≡ true
    edge_push x y (hx, hy, o) =
        let (fx, nx) = not_push done child x hx in
        let (fy, ny) = not_push done child y hy in
        absorbed_edge now a child child_nonzero child_pred x y nx ny (elim o [
          | inl d ↦ inl ((are.edge x y).1 (fx, fy, inl d))
          | inr (q, (j, h, d)) ↦ elim (has_push done child j h) [
            | inl i ↦ inl ((are.edge x y).1 (fx, fy, inr (q, (j, i, d))))
            | inr e ↦ (let P : ℕ → Type 0 = λ z. g.edge z y ≡ true in inr (q, (are.edge child y).1 (child_not_done, fy, inl (subst P e d))))
          ]
        ])

    pub next_absorbed : AreAbsorbed g a (take (m + 1) nodes) next
    next_absorbed = let P : List ℕ → Type 0 = λ z. AreAbsorbed g a z next in
        let (formed, reached) = absorb_reached now are.formed are.all_reached a child child_nonzero child_pred in
        subst P (sym taken) (record {
          count = are.count;
          formed = formed;
          all_reached = reached;
          crossed = (let (x, y) = absorb_keeps now a child child_nonzero child_pred in (λ k. are.crossed.0 (x k), λ k. y (are.crossed.1 k)));
          heads = λ h b f. (let (fb, nb) = not_push done child b f in
              let (x, y) = absorb_heads now are.formed are.all_reached a child child_nonzero child_pred h b nb in
              let (u, v) = are.heads h b fb in (λ o. u (x o), λ o. y (v o)));
          live = λ i. (
            λ t. (let (x, n) = and_parts (now.live i) (not (eqb i child)) t in
                let (y, f) = (are.live i).0 x in (y, push_not done child i f (eqb-false i child (not-true (eqb i child) n)))),
            λ h. (let (f, n) = not_push done child i h.1 in
                and_from (now.live i) (not (eqb i child)) ((are.live i).1 (h.0, f)) (not_from_false (eqb i child) (ne_eqb i child n))),
          );
          edge = λ x y. (push_edge x y, edge_push x y);
        })
