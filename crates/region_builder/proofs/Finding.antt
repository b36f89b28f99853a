-- Several steps are one way, and the lists of children.
use Rattle.std.proofs.Common.{◌≡◌, ◌≢◌, ◌⊎◌, inl, inr, ℕ, ◌+◌, ◌<◌, ◌≤◌, Bool, true, false, not, eqb, ne_eqb, ◌||◌, List, [], ◌∷◌, ◌++◌, length, Some, refl, sym, ap, subst, ◌∙◌, arith}
use Rattle.std.proofs.lemmas.Bool.{both_ways, cases_eq, cases_order, false≢true, and_from, not_from_false}
use Rattle.std.proofs.lemmas.Option.{none-some, slice_get_within}
use Rattle.std.specs.List.{slice_get}
use Rattle.dxil_form.specs.Graphs.{Graph, SolePred, absorbed}
use Rattle.flow_graph.specs.Shapes.{plain}
use Rattle.region_laws.proofs.Places.{cases_last}
use Rattle.region_builder.specs.Built.{IsBuilt, Keeps, SameRings, Went, AllSettled, size}
use Rattle.head_table.specs.declared.table.HeadTable.{HeadTable}
use Rattle.head_table.specs.Table.{over}
use Rattle.region_builder.specs.Settled.{IsAllowed, MayRepeat, IsSettledBy, AllSettledBy}
use Rattle.region_builder.specs.Absorbing.{AreChildren}
use Rattle.region_builder.specs.Children.{AreChildrenBelow}
use Rattle.region_builder.specs.declared.builder.Builder.{Builder}
use Rattle.region_builder.proofs.Absorbing.{push_has}
use Rattle.region_builder.proofs.Sizes.{work}

pub kept_built : (old new : Builder) → Keeps old new → IsBuilt old → IsBuilt new
kept_built old new k (p, f, b) = (p, f, k p f b)

pub went_nowhere : (b : Builder) → Went b b false
went_nowhere b = record {
  keeps = λ p f k. k;
  rings = record { count = refl; crossed = (λ k. k, λ k. k) };
  smaller = λ t. absurd (false≢true t);
  same = λ f. refl;
  told = λ f. refl;
  list = λ f. refl;
  places = λ f. refl;
  ranks = refl;
  fewer = λ h b z. z;
}

pub went_size : (old new : Builder) → plain new.graph ≡ plain old.graph → size new.graph ≡ size old.graph
went_size old new q = ap work q

pub went_on : (a b c : Builder) (d e : Bool) → Went a b d → Went b c e → Went a c (d || e)
went_on a b c d e x y = record {
  keeps = λ p f k. y.keeps p f (x.keeps p f k);
  rings = record {
    count = y.rings.count ∙ x.rings.count;
    crossed = (λ k. x.rings.crossed.0 (y.rings.crossed.0 k), λ k. y.rings.crossed.1 (x.rings.crossed.1 k));
  };
  smaller = λ t. less d e x y t;
  same = λ f. alike d e x y f;
  told = λ f. unmoved d e x y f;
  list = λ f. listed d e x y f;
  places = λ f. placed d e x y f;
  ranks = y.ranks ∙ x.ranks;
  fewer = λ h k z. y.fewer h k (x.fewer h k z);
}
  where
    less : (d e : Bool) → Went a b d → Went b c e → (d || e) ≡ true → size c.graph < size a.graph
    less true true x y t = let l = x.smaller refl in let m = y.smaller refl in omega arith
    less true false x y t = let l = x.smaller refl in let m = went_size b c (y.same refl) in omega arith
    less false true x y t = let l = went_size a b (x.same refl) in let m = y.smaller refl in omega arith
    less false false x y t = absurd (false≢true t)

    alike : (d e : Bool) → Went a b d → Went b c e → (d || e) ≡ false → plain c.graph ≡ plain a.graph
    alike false false x y f = y.same refl ∙ x.same refl
    alike false true x y f = absurd (false≢true (sym f))
    alike true e x y f = absurd (false≢true (sym f))

    listed : (d e : Bool) → Went a b d → Went b c e → (d || e) ≡ false → c.list ≡ a.list
    listed false false x y f = y.list refl ∙ x.list refl
    listed false true x y f = absurd (false≢true (sym f))
    listed true e x y f = absurd (false≢true (sym f))

    placed : (d e : Bool) → Went a b d → Went b c e → (d || e) ≡ false → c.places.items ≡ a.places.items
    placed false false x y f = y.places refl ∙ x.places refl
    placed false true x y f = absurd (false≢true (sym f))
    placed true e x y f = absurd (false≢true (sym f))

    unmoved : (d e : Bool) → Went a b d → Went b c e → (d || e) ≡ false → c.heads ≡ a.heads
    unmoved false false x y f = y.told refl ∙ x.told refl
    unmoved false true x y f = absurd (false≢true (sym f))
    unmoved true e x y f = absurd (false≢true (sym f))

-- something was done before
pub went_true : (a b c : Builder) (d e : Bool) → Went a b d → Went b c e → (d ≡ true) ⊎ (e ≡ true) → Went a c true
went_true a b c true e x y o = went_on a b c true e x y
went_true a b c false true x y o = went_on a b c false true x y
went_true a b c false false x y o = elim o [ inl t ↦ absurd (false≢true t) | inr t ↦ absurd (false≢true t) ]

-- ---- the lists of children

pub no_children : (b : Builder) (a : ℕ) → AreChildrenBelow b a 1 []
no_children b a = record {
  sole = λ m j h. absurd (none-some j h);
  own = λ m j h. absurd (none-some j h);
  allowed = λ m j h. absurd (none-some j h);
  all = λ j n l p f w. absurd (omega arith);
  nonzero = λ m j h. absurd (none-some j h);
  below = λ m j h. absurd (none-some j h);
  rising = λ l m i j o h k. absurd (none-some i h);
}

pub children_on : (b : Builder) (a n : ℕ) (nodes : List ℕ) → AreChildrenBelow b a n nodes → (SolePred (plain b.graph) a n → slice_get b.firsts.items n ≡ Some (Some a) → IsAllowed (over b.heads) a n → ⊥)
    → AreChildrenBelow b a (n + 1) nodes
children_on b a n nodes c none = record {
  sole = c.sole;
  own = c.own;
  allowed = c.allowed;
  all = λ j o l p f w. elim (cases_eq j n) [
    | inl q ↦ (
        let P : ℕ → Type 0 = λ z. SolePred (plain b.graph) a z in
        let Q : ℕ → Type 0 = λ z. slice_get b.firsts.items z ≡ Some (Some a) in
        let R : ℕ → Type 0 = λ z. IsAllowed (over b.heads) a z in absurd (none (subst P q p) (subst Q q f) (subst R q w)))
    | inr m ↦ c.all j o (omega arith) p f w
  ];
  nonzero = c.nonzero;
  below = λ m j h. (let l = c.below m j h in omega arith);
  rising = c.rising;
}

pub child_on : (b : Builder) (a n : ℕ) (nodes : List ℕ) → AreChildrenBelow b a n nodes → 1 ≤ n → SolePred (plain b.graph) a n → slice_get b.firsts.items n ≡ Some (Some a)
    → IsAllowed (over b.heads) a n → AreChildrenBelow b a (n + 1) (nodes ++ n ∷ [])
child_on b a n nodes c l p f w = record {
  sole = λ m j h. elim (cases_last nodes n m j h) [ inl k ↦ c.sole m j k | inr (_, q) ↦ (let P : ℕ → Type 0 = λ y. SolePred (plain b.graph) a y in subst P q p) ];
  own = λ m j h. elim (cases_last nodes n m j h) [ inl k ↦ c.own m j k | inr (_, q) ↦ (let P : ℕ → Type 0 = λ y. slice_get b.firsts.items y ≡ Some (Some a) in subst P q f) ];
  allowed = λ m j h. elim (cases_last nodes n m j h) [ inl k ↦ c.allowed m j k | inr (_, q) ↦ (let P : ℕ → Type 0 = λ y. IsAllowed (over b.heads) a y in subst P q w) ];
  all = λ j o k x y z. elim (cases_eq j n) [ inl q ↦ push_has nodes n j (inr q) | inr m ↦ push_has nodes n j (inl (c.all j o (omega arith) x y z)) ];
  nonzero = λ m j h. elim (cases_last nodes n m j h) [ inl k ↦ c.nonzero m j k | inr (_, q) ↦ (λ z. omega arith) ];
  below = λ m j h. elim (cases_last nodes n m j h) [ inl k ↦ (let b = c.below m j k in omega arith) | inr (_, q) ↦ omega arith ];
  rising = rising;
}
  where
    rising : (x y i j : ℕ) → x < y → slice_get (nodes ++ n ∷ []) x ≡ Some i → slice_get (nodes ++ n ∷ []) y ≡ Some j → i < j
    rising x y i j o h k = elim (cases_last nodes n y j k) [
      | inl s ↦ elim (cases_last nodes n x i h) [
        | inl r ↦ c.rising x y i j o r s
        | inr (q, _) ↦ (let b = slice_get_within nodes y j s in absurd (omega arith))
      ]
      | inr (q, e) ↦ elim (cases_last nodes n x i h) [
        | inl r ↦ (let b = c.below x i r in omega arith)
        | inr (z, _) ↦ absurd (omega arith)
      ]
    ]

pub as_children : (b : Builder) (a n : ℕ) (nodes : List ℕ) → AreChildrenBelow b a n nodes → 1 ≤ length nodes → AreChildren (plain b.graph) a nodes
as_children b a n nodes c l = record { some = l; nonzero = c.nonzero; sole = c.sole; once = once }
  where
    once : (x y j : ℕ) → slice_get nodes x ≡ Some j → slice_get nodes y ≡ Some j → x ≡ y
    once x y j h k = elim (cases_order x y) [
      | inl q ↦ q
      | inr (inl o) ↦ (let r = c.rising x y j j o h k in absurd (omega arith))
      | inr (inr o) ↦ (let r = c.rising y x j j o k h in absurd (omega arith))
    ]

pub went_by : (old new : Builder) → Keeps old new → SameRings old.graph new.graph → size new.graph < size old.graph → new.heads ≡ old.heads → new.ranks.items ≡ old.ranks.items → Went old new true
went_by old new k r s e q = record {
  keeps = k;
  rings = r;
  smaller = λ t. s;
  same = λ f. absurd (false≢true (sym f));
  told = λ f. absurd (false≢true (sym f));
  list = λ f. absurd (false≢true (sym f));
  places = λ f. absurd (false≢true (sym f));
  ranks = q;
  fewer = λ h b z. ap (λ (t : HeadTable). over t h b) e ∙ z;
}

pub absorber_lives : (g : Graph) (a j : ℕ) → SolePred g a j → g.live a ≡ true → (absorbed g a j).live a ≡ true
absorber_lives g a j p l = and_from (g.live a) (not (eqb a j)) l (not_from_false (eqb a j) (ne_eqb a j p.other))

pub same_blocks : (old new : Builder) → IsBuilt old → Keeps old new → SameRings old.graph new.graph → length new.blocks.items ≡ length old.blocks.items
same_blocks old new (p, f, b) k r = let n = k p f b in let x = b.built.count in let y = n.built.count in let z = r.count in omega arith

-- a loop that may not be made, and no child left
pub settled_by : (t u : HeadTable) (g h : Graph) (a : ℕ) → (MayRepeat (over t) g a → ⊥) → u ≡ t → h ≡ g → ((j : ℕ) → j ≢ 0 → SolePred h a j → IsAllowed (over u) a j → ⊥) → IsSettledBy (over t) g a
settled_by t u g h a stands e q none = record {
  no_fold = stands;
  no_absorb = (
      let P : Graph → Type 0 = λ z. (j : ℕ) → j ≢ 0 → SolePred z a j → IsAllowed (over u) a j → ⊥ in
      let Q : HeadTable → Type 0 = λ z. (j : ℕ) → j ≢ 0 → SolePred g a j → IsAllowed (over z) a j → ⊥ in subst Q e (subst P q none));
}

pub or_false : (d e : Bool) → (d || e) ≡ false → (d ≡ false) × (e ≡ false)
or_false false false q = (refl, refl)
or_false false true q = absurd (false≢true (sym q))
or_false true e q = absurd (false≢true (sym q))

-- what is settled where nothing was done before stays settled
pub settled_went : (old mid : Builder) → Went old mid false → (a : ℕ) → ((plain mid.graph).live a ≡ true → IsSettledBy (over mid.heads) (plain mid.graph) a) → (plain old.graph).live a ≡ true
    → IsSettledBy (over old.heads) (plain old.graph) a
settled_went old mid w a here live =
    let P : Graph → Type 0 = λ g. g.live a ≡ true → IsSettledBy (over mid.heads) g a in
    let R : HeadTable → Type 0 = λ t. (plain old.graph).live a ≡ true → IsSettledBy (over t) (plain old.graph) a in subst R (w.told refl) (subst P (w.same refl) here) live

-- without heads nothing may be done at all
pub settled_plain : (t : HeadTable) (g : Graph) → ((h b : ℕ) → over t h b ≡ false) → AllSettledBy (over t) g → AllSettled g
settled_plain t g none s a l = record {
  no_fold = λ e. (s a l).no_fold (record { edge = e; alone = λ b m o. absurd (both_ways _ (none a b) o) });
  no_absorb = λ j n p. (s a l).no_absorb j n p (λ h o. absurd (both_ways _ (none h a) o));
}

pub settled_more : (t : HeadTable) (g : Graph) → AllSettled g → AllSettledBy (over t) g
settled_more t g s a l = record { no_fold = λ m. (s a l).no_fold m.edge; no_absorb = λ j n p w. (s a l).no_absorb j n p }
