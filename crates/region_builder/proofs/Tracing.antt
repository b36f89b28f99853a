-- Each step keeps what ties the regions to the graph at first.
use Rattle.std.proofs.Common.{◌≡◌, ◌≢◌, ◌↔◌, inl, inr, ℕ, Bool, true, false, not, eqb, ◌&&◌, List, [], ◌∷◌, ◌++◌, length, get_or, set, Option, Some, sym, subst, ◌∙◌}
use Rattle.std.proofs.lemmas.Bool.{cases_eq, eqb-true, eqb-false}
use Rattle.std.specs.List.{slice_get, Contains}
use Rattle.dxil_form.specs.declared.program.Program.{Program}
use Rattle.dxil_form.specs.declared.region.Region.{Region}
use Rattle.dxil_form.specs.declared.region.Region.TheVariants.{Leaf, Then, Loop, Arms}
use Rattle.dxil_form.specs.Graphs.{Graph, IsFormed, AllReached, Crossed, SolePred, IsHeadOver, folded, absorbed}
use Rattle.dxil_form.specs.Branches.{has}
use Rattle.graph_laws.proofs.Heads.{Loops, loops_pred}
use Rattle.graph_laws.proofs.Public.{absorb_heads, over_loops, loops_over, not_head}
use Rattle.graph_laws.proofs.Rewrites.{absorb_keeps, fold_keeps}
use Rattle.flow_graph.specs.Shapes.{plain}
use Rattle.head_table.specs.declared.table.HeadTable.{HeadTable}
use Rattle.head_table.specs.Table.{over}
use Rattle.region_laws.proofs.Places.{front, cases_last}
use Rattle.region_builder.specs.declared.partial.Partial.{Partial}
use Rattle.region_builder.specs.Built.{Built}
use Rattle.region_builder.specs.Absorbing.{AreChildren, AreAbsorbed, arms_of}
use Rattle.region_builder.specs.Headed.{Headed, ArmsFrom}
use Rattle.region_builder.specs.Traced.{Traced}
use Rattle.region_builder.specs.Bare.{Fixed}
use Rattle.region_builder.proofs.Growing.{Fitting, Rewritten, Joining}
use Rattle.region_builder.proofs.Steps.{join_rewritten, join_parts, join_fits}
use Rattle.region_builder.proofs.Branching.{arm_of, block_is, rewritten, branch_parts, branch_fits}
use Rattle.region_builder.proofs.Absorbing.{has_place}
use Rattle.region_builder.proofs.Heading.{headed_on}
use Rattle.region_builder.proofs.LoopHeading.{headed_loop}

-- the same heads by an equal test
pub headed_same : (start : Graph) (list : List Region) (blocks places : List ℕ) (g : Graph) (over now : ℕ → ℕ → Bool) → ((h c : ℕ) → now h c ≡ over h c)
    → Headed start list blocks places g over → Headed start list blocks places g now
headed_same start list blocks places g over now same hd = record {
  tells = λ h b. (
    λ y. (hd.tells h b).0 (y.0, sym (same h b) ∙ y.1),
    λ o. (let (l, t) = (hd.tells h b).1 o in (l, same h b ∙ t)),
  );
  heads = λ h c l t. hd.heads h c l (sym (same h c) ∙ t);
  below = λ h c b l t i u. hd.below h c b l (sym (same h c) ∙ t) i u;
  kept = λ h b o. elim (hd.kept h b o) [ inl x ↦ inl x | inr (c, l, t, u) ↦ inr (c, l, same h c ∙ t, u) ];
  loops = λ r body head k. (let (y, i, e, q, under, none) = hd.loops r body head k in (y, i, e, q, under, λ c l t. none c l (sym (same y c) ∙ t)));
  once = hd.once;
}

-- a head whose rings pass a node with a sole predecessor has rings that pass that one
pub pulled : (start : Graph) (list : List Region) (blocks places : List ℕ) (g : Graph) (over : ℕ → ℕ → Bool) → IsFormed g → AllReached g → Headed start list blocks places g over
    → (h a i : ℕ) → i ≢ 0 → SolePred g a i → over h i ≡ true → over h a ≡ true
pulled start list blocks places g over formed reached hd h a i n pred t =
    let k : IsHeadOver g h i = (hd.tells h i).0 (formed.to a i pred.edge, t) in
    let c : Loops g h i = over_loops g formed reached h i k in
    elim (cases_eq i h) [
      | inl q ↦ (let P : ℕ → Type 0 = λ z. Loops g z i in absurd (not_head g formed reached a i n pred i (subst P (sym q) c)))
      | inr m ↦ ((hd.tells h a).1 (loops_over g formed reached h a (loops_pred g h i a (reached a (formed.from a i pred.edge)) c m pred.edge))).1
    ]

module _ (p : Program) (list : List Region) (blocks places : List ℕ) (g : Graph) (b : Built p list blocks places g)
    (first : Partial) (firsts : List (Option ℕ)) (heads : HeadTable) (t : Traced p first list blocks places g firsts heads) where
  abbrev start : Graph
  start = plain first.graph

  module _ (x : Region) (a : ℕ) (gone : ℕ → Bool) (now : Graph) (w : Rewritten g now a gone) (j : Joining places x a gone) (fits : Fitting p list x)
      (no_loop : (body head : ℕ) → x ≡ Loop body head → ⊥)
      (rings : Crossed now ↔ Crossed g)
      (kept : (h k : ℕ) → gone k ≡ false → IsHeadOver now h k ↔ IsHeadOver g h k)
      (preds : (i : ℕ) → gone i ≡ true → (i ≢ 0) × SolePred g a i)
      (keeps : (h i : ℕ) → gone i ≡ true → over heads h a ≡ true → over heads h i ≡ true)
      (arms : (f k s : ℕ) (l : List (ℕ × ℕ)) → x ≡ Arms f l → Contains l (k, s)
      → (i : ℕ) × (n : ℕ) × (slice_get list f ≡ Some (Leaf (get_or blocks i 0))) × (get_or blocks n 0 ≡ k) × SolePred start i n) where
    now_arms : ArmsFrom start (list ++ x ∷ []) blocks
    now_arms r f k s l h c = elim (cases_last list x r (Arms f l) h) [
      | inl o ↦ (let (i, n, e, q, pred) = t.arms r f k s l o c in (i, n, front list (x ∷ []) f (Leaf (get_or blocks i 0)) e, q, pred))
      | inr (_, o) ↦ (let (i, n, e, q, pred) = arms f k s l o c in (i, n, front list (x ∷ []) f (Leaf (get_or blocks i 0)) e, q, pred))
    ]

    pub traced_on : Traced p first (list ++ x ∷ []) blocks (set places a (length list)) now firsts heads
    traced_on = record {
      blocks_are = t.blocks_are;
      nodes = t.nodes;
      rings = (λ k. t.rings.0 (rings.0 k), λ k. rings.1 (t.rings.1 k));
      firsts_count = t.firsts_count;
      sole = t.sole;
      arms = now_arms;
      heads_count = t.heads_count;
      headed = λ never. (let hd = t.headed never in
          headed_on p list blocks places g b x a gone now w j fits start (over heads) hd no_loop kept keeps
          (λ h i y o. (let (n, pred) = preds i y in pulled start list blocks places g (over heads) b.formed b.all_reached hd h a i n pred o)));
    }

  pub traced_join : (a j : ℕ) (nonzero : j ≢ 0) (pred : SolePred g a j) → ((h : ℕ) → over heads h a ≡ true → over heads h j ≡ true)
      → Traced p first (list ++ Then (get_or places a 0) (get_or places j 0) (get_or blocks j 0) ∷ []) blocks (set places a (length list)) (absorbed g a j) firsts heads
  traced_join a j nonzero pred keeps =
      traced_on (Then (get_or places a 0) (get_or places j 0) (get_or blocks j 0)) a (λ i. eqb i j) (absorbed g a j)
      (join_rewritten p list blocks places g b a j nonzero pred) (join_parts p list blocks places g b a j nonzero pred) (join_fits p list blocks places g b a j nonzero pred)
      (λ body head q. cc) (absorb_keeps g a j nonzero pred)
      (λ h k f. absorb_heads g b.formed b.all_reached a j nonzero pred h k (eqb-false k j f))
      (λ i y. (let P : ℕ → Type 0 = λ z. (z ≢ 0) × SolePred g a z in subst P (sym (eqb-true i j y)) (nonzero, pred)))
      (λ h i y o. (let P : ℕ → Type 0 = λ z. over heads h z ≡ true in subst P (sym (eqb-true i j y)) (keeps h o)))
      (λ f k s l q c. absurd (cc))

  module _ (a : ℕ) (nodes : List ℕ) (c : AreChildren g a nodes) (block : ℕ) (leaf : slice_get list (get_or places a 0) ≡ Some (Leaf block))
      (now : Graph) (are : AreAbsorbed g a nodes now) (own : (n j : ℕ) → slice_get nodes n ≡ Some j → slice_get firsts j ≡ Some (Some a))
      (keeps : (n j : ℕ) → slice_get nodes n ≡ Some j → (h : ℕ) → over heads h a ≡ true → over heads h j ≡ true) where
    new_arms : (f k s : ℕ) (l : List (ℕ × ℕ)) → Arms (get_or places a 0) (arms_of blocks places nodes) ≡ Arms f l → Contains l (k, s)
        → (i : ℕ) × (n : ℕ) × (slice_get list f ≡ Some (Leaf (get_or blocks i 0))) × (get_or blocks n 0 ≡ k) × SolePred start i n
    new_arms f k s l q i =
        let e : get_or places a 0 ≡ f = cc in
        let m : l ≡ arms_of blocks places nodes = cc in
        let P : List (ℕ × ℕ) → Type 0 = λ z. Contains z (k, s) in
        let (n, j, h, o, _) = arm_of p list blocks places g b a nodes c block leaf now are k s (subst P m i) in
        let Q : ℕ → Type 0 = λ z. slice_get list z ≡ Some (Leaf (get_or blocks a 0)) in
        let R : ℕ → Type 0 = λ z. slice_get list (get_or places a 0) ≡ Some (Leaf z) in
        (a, j, subst Q e (subst R (sym (block_is p list blocks places g b a nodes c block leaf now are)) leaf), o, t.sole a j (own n j h))

    pub traced_branch : Traced p first (list ++ Arms (get_or places a 0) (arms_of blocks places nodes) ∷ []) blocks (set places a (length list)) now firsts heads
    traced_branch =
        traced_on (Arms (get_or places a 0) (arms_of blocks places nodes)) a (λ i. has i nodes) now
        (rewritten p list blocks places g b a nodes c block leaf now are) (branch_parts p list blocks places g b a nodes c block leaf now are)
        (branch_fits p list blocks places g b a nodes c block leaf now are) (λ body head q. cc) are.crossed are.heads
        (λ i y. (let (n, h) = has_place nodes i y in (c.nonzero n i h, c.sole n i h)))
        (λ h i y o. (let (n, m) = has_place nodes i y in keeps n i m h o)) new_arms

  pub traced_loop : (a : ℕ) (self : g.edge a a ≡ true) → ((k : ℕ) → g.live k ≡ true → over heads a k ≡ true → k ≡ a)
      → (now : HeadTable) → now.count ≡ heads.count → ((h c : ℕ) → over now h c ≡ (over heads h c && not (eqb h a)))
      → Traced p first (list ++ Loop (get_or places a 0) (get_or blocks a 0) ∷ []) blocks (set places a (length list)) (folded g a) firsts now
  traced_loop a self alone now count ended = record {
    blocks_are = t.blocks_are;
    nodes = t.nodes;
    rings = (let r = fold_keeps g a in (λ k. t.rings.0 (r.0 k), λ k. r.1 (t.rings.1 k)));
    firsts_count = t.firsts_count;
    sole = t.sole;
    arms = λ r f k s l h c. elim (cases_last list (Loop (get_or places a 0) (get_or blocks a 0)) r (Arms f l) h) [
      | inl o ↦ (let (i, n, e, q, pred) = t.arms r f k s l o c in (i, n, front list (Loop (get_or places a 0) (get_or blocks a 0) ∷ []) f (Leaf (get_or blocks i 0)) e, q, pred))
      | inr (_, o) ↦ absurd (cc)
    ];
    heads_count = count ∙ t.heads_count;
    headed = λ never. headed_same start _ blocks _ (folded g a) (λ h c. over heads h c && not (eqb h a)) (over now) ended
        (headed_loop p list blocks places g b a self start (over heads) (t.headed never) alone);
  }

-- the same for what a call leaves
pub traced_left : (p : Program) (first : Partial) (l m : List Region) (bs cs ps qs : List ℕ) (h k : Graph) (fs gs : List (Option ℕ)) (t u : HeadTable)
    → l ≡ m → bs ≡ cs → ps ≡ qs → h ≡ k → fs ≡ gs → t ≡ u → Traced p first m cs qs k gs u → Traced p first l bs ps h fs t
traced_left p first l m bs cs ps qs h k fs gs t u x y z w v s traced =
    let P : List Region → Type 0 = λ o. Traced p first o bs ps h fs t in
    let Q : List ℕ → Type 0 = λ o. Traced p first m o ps h fs t in
    let R : List ℕ → Type 0 = λ o. Traced p first m cs o h fs t in
    let S : Graph → Type 0 = λ o. Traced p first m cs qs o fs t in
    let T : List (Option ℕ) → Type 0 = λ o. Traced p first m cs qs k o t in
    let U : HeadTable → Type 0 = λ o. Traced p first m cs qs k gs o in
    subst P (sym x) (subst Q (sym y) (subst R (sym z) (subst S (sym w) (subst T (sym v) (subst U (sym s) traced)))))

pub fixed_left : (g : Graph) (bs cs : List ℕ) (fs gs : List (Option ℕ)) (rs qs : List ℕ) → bs ≡ cs → fs ≡ gs → rs ≡ qs → Fixed g (length cs) gs qs → Fixed g (length bs) fs rs
fixed_left g bs cs fs gs rs qs x y z fixed =
    let P : List ℕ → Type 0 = λ o. Fixed g (length o) fs rs in
    let Q : List (Option ℕ) → Type 0 = λ o. Fixed g (length cs) o rs in
    let R : List ℕ → Type 0 = λ o. Fixed g (length cs) gs o in subst P (sym x) (subst Q (sym y) (subst R (sym z) fixed))
