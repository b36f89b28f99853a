-- The laws of heads in the words of rings and entrances.
use Rattle.std.proofs.Common.{◌≡◌, ◌≢◌, ◌⊎◌, inl, inr, ℕ, suc, Bool, true, not, eqb, List, [], ◌∷◌, length, Some, sym, refl, subst, ◌∙◌, arith, ne_eqb}
use Rattle.std.proofs.lemmas.Bool.{cases_Bool, cases_eq, and_parts, and_from, eqb-false, not-true, not_from_false}
use Rattle.dxil_form.specs.Graphs.{Graph, IsFormed, Path, Leads, Reached, AllReached, SolePred, folded, absorbed, IsHeadOver}
use Rattle.graph_laws.specs.Laws.{FoldKeepsReached, AbsorbKeepsReached, TellsHeads, StepOrCrossed, FoldKeepsHeads, AbsorbKeepsHeads, FoldEndsHead, IsDominated, HeadsByWalks}
use Rattle.graph_laws.proofs.Finite.{mem, mem_in, not_mem}
use Rattle.graph_laws.proofs.Paths.{path_start, path_next}
use Rattle.graph_laws.proofs.Heads.{Loops, Dom, dom_apart, head_loops, loops_head}
use Rattle.graph_laws.proofs.Order.{IsOver, step_or_crossed as order}
use Rattle.graph_laws.proofs.HeadsKept.{loops_absorbed, loops_spread, loops_folded, loops_unfolded, fold_ends as ends}
use Rattle.graph_laws.proofs.Dominators.{Around, loops_closes, closes_loops}
use Rattle.graph_laws.proofs.Rewrites.{absorb_walk, edge_absorbed, fold_walk, fold_less}

pub fold_reached : FoldKeepsReached
fold_reached g formed reached a = (
  record {
    entry = formed.entry;
    within = formed.within;
    from = λ x y e. formed.from x y (fold_less g a x y e);
    to = λ x y e. formed.to x y (fold_less g a x y e);
  },
  λ b l. (let (before, p) = reached b l in
      let (xs, q, _) = fold_walk g a (λ x. true) 0 b before p (λ z i. refl) in (xs, q)),
)

module _ (g : Graph) (formed : IsFormed g) (reached : AllReached g) (a j : ℕ) (nonzero : j ≢ 0) (pred : SolePred g a j) where
  stays : (x : ℕ) → g.live x ≡ true → x ≢ j → (absorbed g a j).live x ≡ true
  stays x l n = and_from (g.live x) _ l (not_from_false (eqb x j) (ne_eqb x j n))

  lived : (x : ℕ) → (absorbed g a j).live x ≡ true → (g.live x ≡ true) × (x ≢ j)
  lived x t = let (l, n) = and_parts (g.live x) (not (eqb x j)) t in (l, eqb-false x j (not-true (eqb x j) n))

  formed_after : IsFormed (absorbed g a j)
  formed_after = record {
    entry = stays 0 formed.entry (λ q. nonzero (sym q));
    within = λ x l. formed.within x (lived x l).0;
    from = λ x y e. from x y (edge_absorbed g a j nonzero pred x y e);
    to = λ x y e. to x y (edge_absorbed g a j nonzero pred x y e);
  }
    where
      from : (x y : ℕ) → (x ≢ j) × (y ≢ j) × ((g.edge x y ≡ true) ⊎ ((x ≡ a) × (g.edge j y ≡ true))) → (absorbed g a j).live x ≡ true
      from x y (n, m, inl e) = stays x (formed.from x y e) n
      from x y (n, m, inr (q, e)) =
          let P : ℕ → Type 0 = λ z. g.live z ≡ true in stays x (subst P (sym q) (formed.from a j pred.edge)) n

      to : (x y : ℕ) → (x ≢ j) × (y ≢ j) × ((g.edge x y ≡ true) ⊎ ((x ≡ a) × (g.edge j y ≡ true))) → (absorbed g a j).live y ≡ true
      to x y (n, m, inl e) = stays y (formed.to x y e) m
      to x y (n, m, inr (q, e)) = stays y (formed.to j y e) m

  reached_after : AllReached (absorbed g a j)
  reached_after b l =
      let (t, n) = lived b l in
      let (before, p) = reached b t in
      let (xs, q, _) = (absorb_walk g a j nonzero pred (λ x. true) 0 b before (λ o. nonzero (sym o)) p (λ z i. refl)).0 n in
      (xs, q)

  -- j is no head
  pub not_head : (b : ℕ) → Loops g j b → ⊥
  not_head b l =
      let q : l.last ≡ a = pred.sole l.last l.edge in
      let P : ℕ → Type 0 = λ y. Dom g j y in
      let (before, p) = reached a (formed.from a j pred.edge) in
      dom_apart g (suc (length before)) a j before p (omega arith) (subst P q (l.dom l.last l.last_in)) dominated pred.other
    where
      dominated : Dom g a j
      dominated [] p = absurd (nonzero (sym p))
      dominated (c ∷ before) (e, p) = inr (inl (sym (pred.sole c e)))

pub absorb_reached : AbsorbKeepsReached
absorb_reached g formed reached a j nonzero pred =
    (formed_after g formed reached a j nonzero pred, reached_after g formed reached a j nonzero pred)

module _ (g : Graph) (formed : IsFormed g) (reached : AllReached g) where
  head_reached : (h b : ℕ) → Loops g h b → Reached g h
  head_reached h b l = reached h (formed.to l.last h l.edge)

  pub over_loops : (h b : ℕ) → IsHeadOver g h b → Loops g h b
  over_loops h b (r, k, i) = head_loops g r h b k i

  pub loops_over : (h b : ℕ) → Loops g h b → IsHeadOver g h b
  loops_over h b l = loops_head g h b (head_reached h b l) l

  pub is_over : (over : ℕ → ℕ → Bool) → TellsHeads g over → IsOver g over
  is_over over t = record {
    sound = λ h b o. over_loops h b ((t h b).0 o);
    complete = λ h b l. (t h b).1 (loops_over h b l);
  }

  -- a node from which an edge, or a path of one or more, leads is reached
  start_reached : (b x c : ℕ) (before : List ℕ) → Path g b (c ∷ before) x → Reached g b
  start_reached b x c before p = elim (path_start g b x (c ∷ before) p) [
    | inl q ↦ (let P : ℕ → Type 0 = λ y. Reached g y in subst P (sym q) (reached x (formed.to c x p.0)))
    | inr i ↦ (let (y, e, _) = path_next g b x b (c ∷ before) p i in reached b (formed.from b y e))
  ]

  dom_walks : (h x : ℕ) → Dom g h x → IsDominated g h x
  dom_walks h x d = elim (cases_eq x h) [
    | inl q ↦ inl q
    | inr n ↦ inr (
      λ z. elim (d [] (sym z)) [ inl q ↦ n (sym q) | inr v ↦ v ],
      λ l. (let (c, before, p, avoids) = l in elim (d (c ∷ before) p) [ inl q ↦ n (sym q) | inr i ↦ avoids (inr i) ]),
    )
  ]

  walks_dom : (h x : ℕ) → IsDominated g h x → Dom g h x
  walks_dom h x (inl q) before p = inl (sym q)
  walks_dom h x (inr (z, none)) [] p = absurd (z (sym p))
  walks_dom h x (inr (z, none)) (c ∷ before) p = elim (cases_eq h x) [
    | inl q ↦ inl q
    | inr n ↦ elim (cases_Bool (mem (c ∷ before) h)) [
      | inl t ↦ inr (mem_in (c ∷ before) h t)
      | inr f ↦ absurd (none (c, before, p, λ i. elim i [ inl q ↦ n q | inr k ↦ not_mem (c ∷ before) h f k ]))
    ]
  ]

  around_walks : (h b x : ℕ) → Around g h b x → (b ≡ x) ⊎ Leads g b x (Some h)
  around_walks h b x ([], p, o) = inl p
  around_walks h b x (c ∷ before, p, o) = inr (c, before, p, o)

  walks_around : (h b x : ℕ) → (b ≡ h) ⊎ ((b ≡ x) ⊎ Leads g b x (Some h)) → (b ≡ h) ⊎ Around g h b x
  walks_around h b x (inl q) = inl q
  walks_around h b x (inr (inl q)) = elim (cases_eq b h) [
    | inl o ↦ inl o
    | inr n ↦ inr ([], q, λ i. elim i [ inl o ↦ n (q ∙ sym o) | inr v ↦ v ])
  ]
  walks_around h b x (inr (inr (c, before, p, avoids))) = inr (c ∷ before, p, avoids)

  by_walks : (h b : ℕ) → IsHeadOver g h b
      → (x : ℕ) × (g.edge x h ≡ true) × IsDominated g h x × ((b ≡ h) ⊎ ((b ≡ x) ⊎ Leads g b x (Some h)))
  by_walks h b o =
      let (x, e, d, k) = loops_closes g h b (over_loops h b o) in
      (x, e, dom_walks h x d, elim k [ inl q ↦ inl q | inr r ↦ inr (around_walks h b x r) ])

  from_walks : (h b : ℕ) → (x : ℕ) × (g.edge x h ≡ true) × IsDominated g h x × ((b ≡ h) ⊎ ((b ≡ x) ⊎ Leads g b x (Some h)))
      → IsHeadOver g h b
  from_walks h b (x, e, d, k) =
      loops_over h b (closes_loops g h b (started k) (λ y f. reached y (formed.from y h f)) (x, e, walks_dom h x d, walks_around h b x k))
    where
      started : (b ≡ h) ⊎ ((b ≡ x) ⊎ Leads g b x (Some h)) → Reached g b
      started (inl q) = let P : ℕ → Type 0 = λ y. Reached g y in subst P (sym q) (reached h (formed.to x h e))
      started (inr (inl q)) = let P : ℕ → Type 0 = λ y. Reached g y in subst P (sym q) (reached x (formed.from x h e))
      started (inr (inr (c, before, p, _))) = start_reached b x c before p

pub heads_by_walks : HeadsByWalks
heads_by_walks g formed reached h b = (by_walks g formed reached h b, from_walks g formed reached h b)

pub step_or_crossed : StepOrCrossed
step_or_crossed g formed reached over tells d l n = order g formed reached over (is_over g formed reached over tells) d l n

pub fold_heads : FoldKeepsHeads
fold_heads g formed reached a h b n =
    let (formed', reached') = fold_reached g formed reached a in (
      λ o. loops_over g formed reached h b (loops_unfolded g a h b (over_loops (folded g a) formed' reached' h b o)),
      λ o. loops_over (folded g a) formed' reached' h b (loops_folded g a h b n (over_loops g formed reached h b o)),
    )

pub absorb_heads : AbsorbKeepsHeads
absorb_heads g formed reached a j nonzero pred h b n =
    let (formed', reached') = absorb_reached g formed reached a j nonzero pred in (
      λ o. loops_over g formed reached h b (loops_spread g a j nonzero pred h b (over_loops (absorbed g a j) formed' reached' h b o)),
      λ o. loops_over (absorbed g a j) formed' reached' h b (kept (over_loops g formed reached h b o)),
    )
  where
    kept : Loops g h b → Loops (absorbed g a j) h b
    kept l = elim (cases_eq h j) [
      | inl q ↦ (let P : ℕ → Type 0 = λ y. Loops g y b in absurd (not_head g formed reached a j nonzero pred b (subst P q l)))
      | inr m ↦ loops_absorbed g a j nonzero pred h b m n l
    ]

pub fold_ends : FoldEndsHead
fold_ends g formed reached over tells a may b o =
    let (formed', reached') = fold_reached g formed reached a in
    ends g a over (is_over g formed reached over tells) may b (over_loops (folded g a) formed' reached' a b o)
