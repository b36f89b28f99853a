-- What the rewrites do to heads.
use Rattle.std.proofs.Common.{◌≡◌, ◌≢◌, ◌⊎◌, inl, inr, ℕ, Bool, true, not, ◌&&◌, eqb, [], ◌∷◌, sym, refl, ap, subst, ◌∙◌, eq-eqb, ne_eqb}
use Rattle.std.proofs.lemmas.Bool.{cases_eq, both_ways, and_from, and_right, not_from_false}
use Rattle.dxil_form.specs.Graphs.{Graph, Path, SolePred, folded, absorbed}
use Rattle.graph_laws.proofs.Finite.{mem, mem_in, in_mem}
use Rattle.graph_laws.proofs.Heads.{Loops, Dom}
use Rattle.graph_laws.specs.Laws.{MayFold}
use Rattle.graph_laws.proofs.Order.{IsOver}
use Rattle.graph_laws.proofs.Rewrites.{Walk, walk_step, walk_append, fold_less, fold_walk, unfold_path, absorbed_edge, edge_absorbed, absorb_walk, joined, joined_at, joined_other, spread_walk}

module _ (g : Graph) (a j : ℕ) (nonzero : j ≢ 0) (pred : SolePred g a j) where
  dom_to : (h x : ℕ) → h ≢ j → Dom g h x → Dom (absorbed g a j) h x
  dom_to h x n d before p =
      let (xs, q, all) = spread_walk g a j nonzero pred (mem before) 0 x before p (λ z i. in_mem before z i) in
      elim (d xs q) [
        | inl o ↦ inl o
        | inr i ↦ inr (mem_in before h (sym (joined_other g a j nonzero pred (mem before) h n) ∙ all h i))
      ]

  dom_from : (h x : ℕ) → x ≢ j → Dom (absorbed g a j) h x → Dom g h x
  dom_from h x n d before p =
      let (xs, q, all) = (absorb_walk g a j nonzero pred (mem before) 0 x before (λ o. nonzero (sym o)) p (λ z i. in_mem before z i)).0 n in
      elim (d xs q) [ inl o ↦ inl o | inr i ↦ inr (mem_in before h (all h i)) ]

  -- no path leads to j any more
  dom_gone : (h : ℕ) → Dom (absorbed g a j) h j
  dom_gone h [] p = absurd (nonzero (sym p))
  dom_gone h (c ∷ before) (e, p) = absurd ((edge_absorbed g a j nonzero pred c j e).1 refl)

  dom_j : (h : ℕ) → Dom g h a → Dom g h j
  dom_j h d [] p = absurd (nonzero (sym p))
  dom_j h d (c ∷ before) (e, p) =
      let q : c ≡ a = pred.sole c e in
      let P : ℕ → Type 0 = λ y. Path g 0 before y in
      elim (d before (subst P q p)) [ inl o ↦ inr (inl (o ∙ sym q)) | inr i ↦ inr (inr i) ]

  pub loops_absorbed : (h b : ℕ) → h ≢ j → b ≢ j → Loops g h b → Loops (absorbed g a j) h b
  loops_absorbed h b nh nb l = go l.to l.on (cases_eq l.last j)
    where
      dom : (x : ℕ) → l.among x ≡ true → Dom (absorbed g a j) h x
      dom x t = elim (cases_eq x j) [
        | inl q ↦ (let P : ℕ → Type 0 = λ y. Dom (absorbed g a j) h y in subst P (sym q) (dom_gone h))
        | inr n ↦ dom_to h x nh (l.dom x t)
      ]

      go : Walk g l.among h b → Walk g l.among b l.last → (l.last ≡ j) ⊎ (l.last ≢ j) → Loops (absorbed g a j) h b
      go (xs, p, u) (ys, q, v) (inl e) =
          let (w, t) = (absorb_walk g a j nonzero pred l.among b l.last ys nb q v).1 e in
          let P : ℕ → Type 0 = λ y. g.edge y h ≡ true in
          record {
            among = l.among;
            dom = dom;
            to = (absorb_walk g a j nonzero pred l.among h b xs nh p u).0 nb;
            last = a;
            on = w;
            last_in = t;
            edge = absorbed_edge g a j nonzero pred a h pred.other nh (inr (refl, subst P e l.edge));
          }
      go (xs, p, u) (ys, q, v) (inr n) = record {
        among = l.among;
        dom = dom;
        to = (absorb_walk g a j nonzero pred l.among h b xs nh p u).0 nb;
        last = l.last;
        on = (absorb_walk g a j nonzero pred l.among b l.last ys nb q v).0 n;
        last_in = l.last_in;
        edge = absorbed_edge g a j nonzero pred l.last h n nh (inl l.edge);
      }

  pub loops_spread : (h b : ℕ) → Loops (absorbed g a j) h b → Loops g h b
  loops_spread h b l = go l.to l.on (edge_absorbed g a j nonzero pred l.last h l.edge)
    where
      at : ℕ → Bool
      at = joined g a j nonzero pred l.among

      dom : (x : ℕ) → joined g a j nonzero pred l.among x ≡ true → Dom g h x
      dom x t = elim (cases_eq x j) [
        | inl q ↦ (let P : ℕ → Type 0 = λ y. Dom g h y in
            let Q : ℕ → Type 0 = λ y. joined g a j nonzero pred l.among y ≡ true in
            let s : l.among a ≡ true = sym (joined_at g a j nonzero pred l.among) ∙ subst Q q t in
            subst P (sym q) (dom_j h (dom_from h a pred.other (l.dom a s))))
        | inr n ↦ dom_from h x n (l.dom x (sym (joined_other g a j nonzero pred l.among x n) ∙ t))
      ]

      go : Walk (absorbed g a j) l.among h b → Walk (absorbed g a j) l.among b l.last
          → (l.last ≢ j) × (h ≢ j) × ((g.edge l.last h ≡ true) ⊎ ((l.last ≡ a) × (g.edge j h ≡ true))) → Loops g h b
      go (xs, p, u) (ys, q, v) (n, m, inl e) = record {
        among = joined g a j nonzero pred l.among;
        dom = dom;
        to = spread_walk g a j nonzero pred l.among h b xs p u;
        last = l.last;
        on = spread_walk g a j nonzero pred l.among b l.last ys q v;
        last_in = joined_other g a j nonzero pred l.among l.last n ∙ l.last_in;
        edge = e;
      }
      go (xs, p, u) (ys, q, v) (n, m, inr (o, e)) =
          let P : ℕ → Type 0 = λ y. g.edge y j ≡ true in
          let Q : ℕ → Type 0 = λ y. l.among y ≡ true in
          record {
            among = joined g a j nonzero pred l.among;
            dom = dom;
            to = spread_walk g a j nonzero pred l.among h b xs p u;
            last = j;
            on = walk_step g (joined g a j nonzero pred l.among) b l.last j (spread_walk g a j nonzero pred l.among b l.last ys q v)
                (joined_other g a j nonzero pred l.among l.last n ∙ l.last_in) (subst P (sym o) pred.edge);
            last_in = joined_at g a j nonzero pred l.among ∙ subst Q o l.last_in;
            edge = e;
          }

module _ (g : Graph) (a : ℕ) where
  pub loops_folded : (h b : ℕ) → h ≢ a → Loops g h b → Loops (folded g a) h b
  loops_folded h b n l = go l.to l.on
    where
      go : Walk g l.among h b → Walk g l.among b l.last → Loops (folded g a) h b
      go (xs, p, u) (ys, q, v) = record {
        among = l.among;
        dom = λ x t before w. l.dom x t before (unfold_path g a 0 x before w);
        to = fold_walk g a l.among h b xs p u;
        last = l.last;
        on = fold_walk g a l.among b l.last ys q v;
        last_in = l.last_in;
        edge = and_from (g.edge l.last h) _ l.edge (not_from_false _ (and_right (eqb l.last a) (eqb h a) (ne_eqb h a n)));
      }

  pub loops_unfolded : (h b : ℕ) → Loops (folded g a) h b → Loops g h b
  loops_unfolded h b l = go l.to l.on
    where
      go : Walk (folded g a) l.among h b → Walk (folded g a) l.among b l.last → Loops g h b
      go (xs, p, u) (ys, q, v) = record {
        among = l.among;
        dom = λ x t before w. (let (zs, k, all) = fold_walk g a (mem before) 0 x before w (λ z i. in_mem before z i) in
            elim (l.dom x t zs k) [ inl o ↦ inl o | inr i ↦ inr (mem_in before h (all h i)) ]);
        to = (xs, unfold_path g a h b xs p, u);
        last = l.last;
        on = (ys, unfold_path g a b l.last ys q, v);
        last_in = l.last_in;
        edge = fold_less g a l.last h l.edge;
      }

  -- a head whose rings pass nothing else is no head once it is folded
  pub fold_ends : (over : ℕ → ℕ → Bool) → IsOver g over → MayFold g over a → (b : ℕ) → Loops (folded g a) a b → ⊥
  fold_ends over test may b l =
      let k : Loops (folded g a) a l.last = record {
        among = l.among;
        dom = l.dom;
        to = walk_append (folded g a) l.among a b l.last l.to l.on;
        last = l.last;
        on = ([], refl, λ z i. absurd i);
        last_in = l.last_in;
        edge = l.edge;
      } in
      let q : l.last ≡ a = may.alone l.last (test.complete a l.last (loops_unfolded a l.last k)) in
      both_ways _ (and_right (g.edge l.last a) _ (ap not (and_true (eq-eqb l.last a q)))) l.edge
    where
      and_true : eqb l.last a ≡ true → (eqb l.last a && eqb a a) ≡ true
      and_true t = and_from (eqb l.last a) (eqb a a) t (eq-eqb a a refl)
