-- How a second part, arms and a loop go, in the words of what their parts pass.
use Rattle.std.proofs.Common.{◌≡◌, ◌≢◌, ◌⊎◌, ◌↔◌, inl, inr, ℕ, zero, suc, ◌+◌, ◌<◌, ◌≤◌, Bool, true, false, eqb, ◌||◌, List, [], ◌∷◌, ◌++◌, length, Option, Some, None, refl, sym, ap, subst, ◌∙◌, arith, append-nil, eq-eqb, ne_eqb}
use Rattle.std.proofs.lemmas.Bool.{cases_Bool, cases_eq, both_ways, eqb-true, eqb-false, or_cases, or_left, or_right, false≢true, false_from_ne_true}
use Rattle.std.proofs.lemmas.Option.{same_Some, none-some, some_pair_parts}
use Rattle.std.specs.List.{slice_get, Contains}
use Rattle.dxil_form.specs.declared.program.Program.{Program}
use Rattle.dxil_form.specs.declared.region.Region.{Region}
use Rattle.dxil_form.specs.declared.region.Region.TheVariants.{Leaf, Then, Loop, Dispatch, Arms}
use Rattle.dxil_form.specs.Branches.{branches}
use Rattle.dxil_form.specs.Walks.{Goes, Passes, NoArm}
use Rattle.dxil_form.specs.Walks.Goes.{leaf_wants, leaf_ends, then_leaves, then_goes_on, loop_leaves, loop_repeats, arms_leave, arms_go_on, dispatch_goes}
use Rattle.dxil_form.specs.Walks.Passes.{nothing, leaf_passes, then_first, then_second, loop_first, loop_again, arms_first, arms_second, dispatch_passes}
use Rattle.dxil_form.specs.Wired.{MayWant}
use Rattle.dxil_form.specs.Wired.MayWant.{leaf_wants as leaf_may, first_wants, second_wants, body_wants, source_wants, arm_wants, choice_wants}
use Rattle.region_laws.specs.Paths.{Run, Fits, PassesUpTo}
use Rattle.region_laws.specs.Paths.Run.{one, more}
use Rattle.region_laws.proofs.Places.{same_place, get_has, has_get}
use Rattle.region_laws.proofs.Growing.{Later, NoDispatch}
use Rattle.region_laws.proofs.Walking.{goes_up, passes_up, goes_down, passes_down}
use Rattle.region_laws.proofs.Runs.{Visit, run_wider, run_append, split}
use Rattle.region_laws.specs.Standing.{less, Turned, Stands}
use Rattle.region_laws.proofs.Standing.{less_parts, less_from, less_own, fails, fits_more, NotIn, Leads}

-- what a region wants after some walk it may want
pub goes_may : {p : Program} {list : List Region} → NoDispatch list → {r : ℕ} {w : List ℕ} (k : ℕ) → Goes p list r w (Some k) → MayWant p list r k
goes_may none k g = go none g refl
  where
    go : {p : Program} {list : List Region} → NoDispatch list → {r : ℕ} {w : List ℕ} {o : Option ℕ} → Goes p list r w o → o ≡ Some k → MayWant p list r k
    go {p} {list} none {r} (leaf_wants {k = j} h t) q =
        let e : j ≡ k = same_Some j k q in
        let P : ℕ → Type 0 = λ y. MayWant p list r y in subst P e (leaf_may h t)
    go none (leaf_ends h e) q = absurd (cc)
    go none (then_leaves {target = target} h g n) q = first_wants h (go none g q) (λ e. n (q ∙ ap (λ (y : ℕ). Some y) e))
    go none (then_goes_on h g m) q = second_wants h (go none m q)
    go none (loop_leaves {head = head} h g n) q = body_wants h (go none g q) (λ e. n (q ∙ ap (λ (y : ℕ). Some y) e))
    go none (loop_repeats h g m) q = go none m q
    go none (arms_leave {arms = arms} h g n) q =
        let P : Option ℕ → Type 0 = λ y. NoArm arms y in source_wants h (go none g q) (subst P q n)
    go none (arms_go_on h g c m) q = arm_wants h c (go none m q)
    go none (dispatch_goes h t) q = absurd (none _ _ h)

-- ---- one region more behind the list

module _ (p : Program) (list : List Region) (later : Later list) (none : NoDispatch list) (x : Region) where
  abbrev grown : List Region
  grown = list ++ x ∷ []

  pub stands_up : (r b : ℕ) (stops : ℕ → Bool) → r < length list → Stands p list r b stops → Stands p grown r b stops
  stands_up r b stops l s = record {
    goes = λ w o g. s.goes w o (goes_down p list later none x l g);
    comes = λ w o y m f. elim (s.comes w o y m f) [ inl g ↦ inl (goes_up p list later none x g) | inr z ↦ inr (turned w y z) ];
    passes = λ w g. s.passes w (passes_down p list later none x l g);
    passed = λ w y m. elim (s.passed w y m) [ inl g ↦ inl (passes_up p list later none x g) | inr z ↦ inr (turned w y z) ];
  }
    where
      turned : (w : List ℕ) (y : ℕ) → Turned p list r b stops w y → Turned p grown r b stops w y
      turned w y z = record {
        before = z.before;
        behind = z.behind;
        goes = goes_up p list later none x z.goes;
        rest = z.rest;
        joined = z.joined;
        shorter = z.shorter;
      }

-- ---- the ways of a second part and of arms

module _ (p : Program) (list : List Region) (s r : ℕ) where
  module _ (q j : ℕ) (here : slice_get list s ≡ Some (Then r q j)) where
    abbrev To : ℕ → ℕ → Type 0
    To k c = (k ≡ j) × (c ≡ q)

    abbrev target : ℕ → Bool
    target k = eqb k j

    at_here : (region : Region) → slice_get list s ≡ Some region → Then r q j ≡ region
    at_here region h = same_place list s (Then r q j) region here h

    not_target : (o : Option ℕ) → o ≢ Some j → NotIn target o
    not_target None n = tt
    not_target (Some k) n = ne_eqb k j (λ e. n (ap (λ (y : ℕ). Some y) e))

    target_not : (o : Option ℕ) → NotIn target o → o ≢ Some j
    target_not None n e = cc
    target_not (Some k) n e = both_ways (eqb k j) n (eq-eqb k j (same_Some k j e))

    abbrev Way : List ℕ → Option ℕ → Type 0
    Way w o = (Goes p list r w o × NotIn target o)
        ⊎ ((k : ℕ) × (c : ℕ) × (u : List ℕ) × (v : List ℕ) × To k c × Goes p list r u (Some k) × Goes p list c v o × (w ≡ u ++ v))

    goes : {w : List ℕ} {o : Option ℕ} → Goes p list s w o → Way w o
    goes (leaf_wants h t) = cc (at_here _ h)
    goes (leaf_ends h e) = cc (at_here _ h)
    goes {w} {o} (then_leaves {first = first} {second = second} {target = k} h g n) =
        let e : Then r q j ≡ Then first second k = at_here _ h in
        let f : first ≡ r = cc in
        let t : k ≡ j = cc in
        let P : ℕ → Type 0 = λ y. Goes p list y w o in
        inl (subst P f g, not_target o (λ z. n (z ∙ ap (λ (y : ℕ). Some y) (sym t))))
    goes {w} {o} (then_goes_on {first = first} {second = second} {target = k} {w = u} {v = v} h g m) =
        let e : Then r q j ≡ Then first second k = at_here _ h in
        let f : first ≡ r = cc in
        let t : k ≡ j = cc in
        let y : second ≡ q = cc in
        let P : ℕ → Type 0 = λ z. Goes p list z u (Some k) in
        inr (k, second, u, v, (t, y), subst P f g, m, refl)
    goes (loop_leaves h g n) = cc (at_here _ h)
    goes (loop_repeats h g m) = cc (at_here _ h)
    goes (arms_leave h g n) = cc (at_here _ h)
    goes (arms_go_on h g c m) = cc (at_here _ h)
    goes (dispatch_goes h t) = cc (at_here _ h)

    abbrev PassWay : List ℕ → Type 0
    PassWay w = (w ≡ []) ⊎ (Passes p list r w ⊎ ((k : ℕ) × (c : ℕ) × (u : List ℕ) × (v : List ℕ) × To k c × Goes p list r u (Some k) × Passes p list c v × (w ≡ u ++ v)))

    passes : {w : List ℕ} → Passes p list s w → PassWay w
    passes nothing = inl refl
    passes (leaf_passes h) = cc (at_here _ h)
    passes {w} (then_first {first = first} {second = second} {target = k} h g) =
        let e : Then r q j ≡ Then first second k = at_here _ h in
        let f : first ≡ r = cc in
        let P : ℕ → Type 0 = λ y. Passes p list y w in inr (inl (subst P f g))
    passes {w} (then_second {first = first} {second = second} {target = k} {w = u} {v = v} h g m) =
        let e : Then r q j ≡ Then first second k = at_here _ h in
        let f : first ≡ r = cc in
        let t : k ≡ j = cc in
        let y : second ≡ q = cc in
        let P : ℕ → Type 0 = λ z. Goes p list z u (Some k) in
        inr (inr (k, second, u, v, (t, y), subst P f g, m, refl))
    passes (loop_first h g) = cc (at_here _ h)
    passes (loop_again h g m) = cc (at_here _ h)
    passes (arms_first h g) = cc (at_here _ h)
    passes (arms_second h g c m) = cc (at_here _ h)
    passes (dispatch_passes h t) = cc (at_here _ h)

    pub then_leads : Leads p list s r To target
    then_leads = record {
      leave = λ w o g n. then_leaves here g (target_not o n);
      go_on = λ w v k c o g l m. (
          let P : ℕ → Type 0 = λ y. Goes p list r w (Some y) in
          let Q : ℕ → Type 0 = λ y. Goes p list y v o in then_goes_on here (subst P l.0 g) (subst Q l.1 m));
      goes = λ w o g. goes g;
      pass = λ w g. then_first here g;
      pass_on = λ w v k c g l m. (
          let P : ℕ → Type 0 = λ y. Goes p list r w (Some y) in
          let Q : ℕ → Type 0 = λ y. Passes p list y v in then_second here (subst P l.0 g) (subst Q l.1 m));
      passes = λ w g. passes g;
    }

-- the block is the target of an arm
abbrev pub armed : List (ℕ × ℕ) → ℕ → Bool
armed [] k = false
armed (arm ∷ arms) k = eqb arm.0 k || armed arms k

arm_place : (arms : List (ℕ × ℕ)) (k : ℕ) → armed arms k ≡ true → (n : ℕ) × (c : ℕ) × (slice_get arms n ≡ Some (k, c))
arm_place [] k t = absurd (false≢true t)
arm_place ((x, c) ∷ arms) k t = elim (or_cases (eqb x k) (armed arms k) t) [
  | inl q ↦ (0, c, ap (λ (y : ℕ). Some (y, c)) (eqb-true x k q))
  | inr h ↦ (let (n, d, e) = arm_place arms k h in (suc n, d, e))
]

pub arm_told : (arms : List (ℕ × ℕ)) (k : ℕ) → armed arms k ≡ true → (c : ℕ) × Contains arms (k, c)
arm_told arms k t = let (n, c, h) = arm_place arms k t in (c, has_get arms n (k, c) h)

place_armed : (arms : List (ℕ × ℕ)) (n k c : ℕ) → slice_get arms n ≡ Some (k, c) → armed arms k ≡ true
place_armed [] n k c h = absurd (none-some (k, c) h)
place_armed ((x, d) ∷ arms) zero k c h = or_left (eqb x k) (armed arms k) (eq-eqb x k (some_pair_parts x k d c h).0)
place_armed ((x, d) ∷ arms) (suc n) k c h = or_right (eqb x k) (armed arms k) (place_armed arms n k c h)

pub told_arm : (arms : List (ℕ × ℕ)) (k c : ℕ) → Contains arms (k, c) → armed arms k ≡ true
told_arm arms k c i = let (n, h) = get_has arms (k, c) i in place_armed arms n k c h

module _ (p : Program) (list : List Region) (s r : ℕ) (arms : List (ℕ × ℕ)) (here : slice_get list s ≡ Some (Arms r arms)) where
  abbrev ToArm : ℕ → ℕ → Type 0
  ToArm k c = Contains arms (k, c)

  at_arms : (region : Region) → slice_get list s ≡ Some region → Arms r arms ≡ region
  at_arms region h = same_place list s (Arms r arms) region here h

  not_armed : (o : Option ℕ) → NoArm arms o → NotIn (armed arms) o
  not_armed None n = tt
  not_armed (Some k) n = false_from_ne_true (armed arms k) (λ t. (let (c, i) = arm_told arms k t in n c i))

  armed_not : (o : Option ℕ) → NotIn (armed arms) o → NoArm arms o
  armed_not None n = tt
  armed_not (Some k) n = λ c i. both_ways (armed arms k) n (told_arm arms k c i)

  abbrev ArmWay : List ℕ → Option ℕ → Type 0
  ArmWay w o = (Goes p list r w o × NotIn (armed arms) o)
      ⊎ ((k : ℕ) × (c : ℕ) × (u : List ℕ) × (v : List ℕ) × ToArm k c × Goes p list r u (Some k) × Goes p list c v o × (w ≡ u ++ v))

  arm_goes : {w : List ℕ} {o : Option ℕ} → Goes p list s w o → ArmWay w o
  arm_goes (leaf_wants h t) = cc (at_arms _ h)
  arm_goes (leaf_ends h e) = cc (at_arms _ h)
  arm_goes (then_leaves h g n) = cc (at_arms _ h)
  arm_goes (then_goes_on h g m) = cc (at_arms _ h)
  arm_goes (loop_leaves h g n) = cc (at_arms _ h)
  arm_goes (loop_repeats h g m) = cc (at_arms _ h)
  arm_goes {w} {o} (arms_leave {first = first} {arms = l} h g n) =
      let e : Arms r arms ≡ Arms first l = at_arms _ h in
      let f : first ≡ r = cc in
      let m : l ≡ arms = cc in
      let P : ℕ → Type 0 = λ y. Goes p list y w o in
      let Q : List (ℕ × ℕ) → Type 0 = λ y. NoArm y o in inl (subst P f g, not_armed o (subst Q m n))
  arm_goes {w} {o} (arms_go_on {first = first} {k = k} {a = c} {arms = l} {w = u} {v = v} h g i m) =
      let e : Arms r arms ≡ Arms first l = at_arms _ h in
      let f : first ≡ r = cc in
      let z : l ≡ arms = cc in
      let P : ℕ → Type 0 = λ y. Goes p list y u (Some k) in
      let Q : List (ℕ × ℕ) → Type 0 = λ y. Contains y (k, c) in inr (k, c, u, v, subst Q z i, subst P f g, m, refl)
  arm_goes (dispatch_goes h t) = cc (at_arms _ h)

  abbrev ArmPass : List ℕ → Type 0
  ArmPass w = (w ≡ []) ⊎ (Passes p list r w ⊎ ((k : ℕ) × (c : ℕ) × (u : List ℕ) × (v : List ℕ) × ToArm k c × Goes p list r u (Some k) × Passes p list c v × (w ≡ u ++ v)))

  arm_passes : {w : List ℕ} → Passes p list s w → ArmPass w
  arm_passes nothing = inl refl
  arm_passes (leaf_passes h) = cc (at_arms _ h)
  arm_passes (then_first h g) = cc (at_arms _ h)
  arm_passes (then_second h g m) = cc (at_arms _ h)
  arm_passes (loop_first h g) = cc (at_arms _ h)
  arm_passes (loop_again h g m) = cc (at_arms _ h)
  arm_passes {w} (arms_first {first = first} {arms = l} h g) =
      let e : Arms r arms ≡ Arms first l = at_arms _ h in
      let f : first ≡ r = cc in
      let P : ℕ → Type 0 = λ y. Passes p list y w in inr (inl (subst P f g))
  arm_passes {w} (arms_second {first = first} {k = k} {a = c} {arms = l} {w = u} {v = v} h g i m) =
      let e : Arms r arms ≡ Arms first l = at_arms _ h in
      let f : first ≡ r = cc in
      let z : l ≡ arms = cc in
      let P : ℕ → Type 0 = λ y. Goes p list y u (Some k) in
      let Q : List (ℕ × ℕ) → Type 0 = λ y. Contains y (k, c) in inr (inr (k, c, u, v, subst Q z i, subst P f g, m, refl))
  arm_passes (dispatch_passes h t) = cc (at_arms _ h)

  pub arms_lead : Leads p list s r ToArm (armed arms)
  arms_lead = record {
    leave = λ w o g n. arms_leave here g (armed_not o n);
    go_on = λ w v k c o g l m. arms_go_on here g l m;
    goes = λ w o g. arm_goes g;
    pass = λ w g. arms_first here g;
    pass_on = λ w v k c g l m. arms_second here g l m;
    passes = λ w g. arm_passes g;
  }

-- ---- a loop

module _ (p : Program) (list : List Region) (s r a : ℕ) (here : slice_get list s ≡ Some (Loop r a)) (stops : ℕ → Bool) (body : Stands p list r a stops) where
  abbrev was : ℕ → Bool
  was = less stops a

  at_loop : (region : Region) → slice_get list s ≡ Some region → Loop r a ≡ region
  at_loop region h = same_place list s (Loop r a) region here h

  exit : (o : Option ℕ) (x : ℕ) → Fits p stops x o → o ≢ Some a → Fits p was x o
  exit None x f n = f
  exit (Some k) x (d, h) n = (d, less_from stops a k h (λ e. n (ap (λ (y : ℕ). Some y) e)))

  not_own : (o : Option ℕ) (x : ℕ) → Fits p was x o → o ≢ Some a
  not_own None x f e = cc
  not_own (Some k) x (d, h) e = (less_parts stops a k h).1 (same_Some k a e)

  loop_goes : {w : List ℕ} {o : Option ℕ} → Goes p list s w o → (x : ℕ) × Run p was a w x × Fits p was x o
  loop_goes (leaf_wants h t) = cc (at_loop _ h)
  loop_goes (leaf_ends h e) = cc (at_loop _ h)
  loop_goes (then_leaves h g n) = cc (at_loop _ h)
  loop_goes (then_goes_on h g m) = cc (at_loop _ h)
  loop_goes {w} {o} (loop_leaves {body = c} {head = k} h g n) =
      let e : Loop r a ≡ Loop c k = at_loop _ h in
      let f : c ≡ r = cc in
      let t : k ≡ a = cc in
      let P : ℕ → Type 0 = λ y. Goes p list y w o in
      let (x, m, z) = body.goes w o (subst P f g) in (x, m, exit o x z (λ q. n (q ∙ ap (λ (y : ℕ). Some y) (sym t))))
  loop_goes {w} {o} (loop_repeats {body = c} {head = k} {w = u} {v = v} h g m) =
      let e : Loop r a ≡ Loop c k = at_loop _ h in
      let f : c ≡ r = cc in
      let t : k ≡ a = cc in
      let P : ℕ → Type 0 = λ y. Goes p list y u (Some k) in
      let Q : ℕ → Type 0 = λ y. Goes p list r u (Some y) in
      let (x, n, z) = body.goes u (Some a) (subst Q t (subst P f g)) in
      let (y, i, q) = loop_goes m in (y, run_append p was n z.0 (less_own stops a) i, q)
  loop_goes (arms_leave h g n) = cc (at_loop _ h)
  loop_goes (arms_go_on h g c m) = cc (at_loop _ h)
  loop_goes (dispatch_goes h t) = cc (at_loop _ h)

  loop_comes : (fuel : ℕ) (w : List ℕ) (o : Option ℕ) (x : ℕ) → length w < fuel → Run p was a w x → Fits p was x o → Goes p list s w o
  loop_comes zero w o x l m f = absurd (omega arith)
  loop_comes (suc n) w o x l m f = go (body.comes w o x m f) (λ v i k. loop_comes n v o x i k f)
    where
      go : Goes p list r w o ⊎ Turned p list r a stops w x → ((v : List ℕ) → length v < n → Run p was a v x → Goes p list s v o) → Goes p list s w o
      go (inl g) again = loop_leaves here g (not_own o x f)
      go (inr z) again =
          let shorter = z.shorter in
          let P : List ℕ → Type 0 = λ y. Goes p list s y o in
          subst P (sym z.joined) (loop_repeats here z.goes (again z.behind (omega arith) z.rest))

  loop_passes : {w : List ℕ} → Passes p list s w → (w ≡ []) ⊎ ((x : ℕ) × Run p was a w x)
  loop_passes nothing = inl refl
  loop_passes (leaf_passes h) = cc (at_loop _ h)
  loop_passes (then_first h g) = cc (at_loop _ h)
  loop_passes (then_second h g m) = cc (at_loop _ h)
  loop_passes {w} (loop_first {body = c} {head = k} h g) =
      let e : Loop r a ≡ Loop c k = at_loop _ h in
      let f : c ≡ r = cc in
      let P : ℕ → Type 0 = λ y. Passes p list y w in body.passes w (subst P f g)
  loop_passes {w} (loop_again {body = c} {head = k} {w = u} {v = v} h g m) =
      let e : Loop r a ≡ Loop c k = at_loop _ h in
      let f : c ≡ r = cc in
      let t : k ≡ a = cc in
      let P : ℕ → Type 0 = λ y. Goes p list y u (Some k) in
      let Q : ℕ → Type 0 = λ y. Goes p list r u (Some y) in
      let (x, n, z) = body.goes u (Some a) (subst Q t (subst P f g)) in
      elim (loop_passes m) [
        | inl q ↦ (let R : List ℕ → Type 0 = λ l. Run p was a l x in inr (x, subst R (sym (ap (λ (l : List ℕ). u ++ l) q ∙ append-nil u)) n))
        | inr (y, i) ↦ inr (y, run_append p was n z.0 (less_own stops a) i)
      ]
  loop_passes (arms_first h g) = cc (at_loop _ h)
  loop_passes (arms_second h g c m) = cc (at_loop _ h)
  loop_passes (dispatch_passes h t) = cc (at_loop _ h)

  loop_passed : (fuel : ℕ) (w : List ℕ) (x : ℕ) → length w < fuel → Run p was a w x → Passes p list s w
  loop_passed zero w x l m = absurd (omega arith)
  loop_passed (suc n) w x l m = go (body.passed w x m) (λ v i k. loop_passed n v x i k)
    where
      go : Passes p list r w ⊎ Turned p list r a stops w x → ((v : List ℕ) → length v < n → Run p was a v x → Passes p list s v) → Passes p list s w
      go (inl g) again = loop_first here g
      go (inr z) again =
          let shorter = z.shorter in
          let P : List ℕ → Type 0 = λ y. Passes p list s y in
          subst P (sym z.joined) (loop_again here z.goes (again z.behind (omega arith) z.rest))

  pub loop_exact : PassesUpTo p list s a was
  loop_exact = record {
    goes = λ w o. (λ g. loop_goes g, λ k. (let (x, m, f) = k in loop_comes (suc (length w)) w o x (omega arith) m f));
    passes = λ w. (λ g. loop_passes g, back w);
  }
    where
      back : (w : List ℕ) → (w ≡ []) ⊎ ((x : ℕ) × Run p was a w x) → Passes p list s w
      back w (inl q) = let P : List ℕ → Type 0 = λ l. Passes p list s l in subst P (sym q) nothing
      back w (inr (x, m)) = loop_passed (suc (length w)) w x (omega arith) m
