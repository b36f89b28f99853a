-- Over roots that each pass the paths up to the next root, the whole passes exactly the paths from block 0.
use Rattle.std.proofs.Common.{◌≡◌, ◌⊎◌, inl, inr, ℕ, zero, suc, ◌<◌, ◌≤◌, Bool, false, ltb, List, [], ◌++◌, length, Option, Some, None, refl, sym, ap, subst, ◌∙◌, arith, append-nil, length-append}
use Rattle.std.proofs.lemmas.Bool.{cases_Bool, both_ways, false_from_ne_true, ltb-false, cond-true, cond-false, false≢true}
use Rattle.std.specs.List.{slice_get, Contains}
use Rattle.dxil_form.specs.declared.program.Program.{Program}
use Rattle.dxil_form.specs.declared.region.Region.{Region}
use Rattle.dxil_form.specs.declared.region.Region.TheVariants.{Dispatch}
use Rattle.dxil_form.specs.Walks.{EnteredBy, Ends, Goes, Turns, Passes, Turning, NoEntry}
use Rattle.dxil_form.specs.Walks.Goes.{leaf_wants, leaf_ends, then_leaves, then_goes_on, loop_leaves, loop_repeats, arms_leave, arms_go_on, dispatch_goes}
use Rattle.dxil_form.specs.Walks.Turns.{turn_leaves, turn_goes_on}
use Rattle.dxil_form.specs.Walks.Passes.{nothing, leaf_passes, then_first, then_second, loop_first, loop_again, arms_first, arms_second, dispatch_passes}
use Rattle.dxil_form.specs.Walks.Turning.{turn_first, turn_again}
use Rattle.region_laws.specs.Roots.{HasRoot, WiredRoots}
use Rattle.region_laws.specs.Paths.{Run, Fits, PassesUpTo, RootsPassUpToRoots, PassesAll, nowhere}
use Rattle.region_laws.specs.Paths.Run.{one, more}
use Rattle.region_laws.specs.Laws.{NoReturn, ClosedPassesAll}
use Rattle.region_laws.proofs.Places.{last}
use Rattle.region_laws.proofs.Growing.{enter_up, enter_down, entered_once}
use Rattle.region_laws.proofs.Walking.{goes_up, passes_up, goes_down, passes_down}
use Rattle.region_laws.proofs.Runs.{Visit, run_wider, run_append, split, has_entry}
use Rattle.region_laws.proofs.Closing.{places, several, arm_is_root, root_is_arm, no_choice, only_root, single_last}

module _ (p : Program) (list : List Region) (roots : List (ℕ × ℕ)) (w : WiredRoots p list roots) (pass : RootsPassUpToRoots p list roots) where
  abbrev top : Region
  top = Dispatch (places roots)

  abbrev whole : List Region
  whole = several list roots

  -- an arm that block k enters is the root of k
  arm_root : (a k : ℕ) → Contains (places roots) a → EnteredBy whole a k → HasRoot roots k a
  arm_root a k c e =
      let (b, root) = arm_is_root p list roots w (places roots) a refl c in
      let q : b ≡ k = entered_once list w.later w.no_dispatch (w.enters b a root) (enter_down list w.later top (w.within b a root) e) in
      let P : ℕ → Type 0 = λ y. HasRoot roots y a in subst P q root

  goes_in : (a k : ℕ) (v : List ℕ) (o : Option ℕ) (root : HasRoot roots k a) → Goes p whole a v o
      → (x : ℕ) × Run p (pass k a root).stops k v x × Fits p (pass k a root).stops x o
  goes_in a k v o root g = ((pass k a root).passes.goes v o).0 (goes_down p list w.later w.no_dispatch top (w.within k a root) g)

  goes_out : (a k x : ℕ) (v : List ℕ) (o : Option ℕ) (root : HasRoot roots k a) → Run p (pass k a root).stops k v x → Fits p (pass k a root).stops x o → Goes p whole a v o
  goes_out a k x v o root r f = goes_up p list w.later w.no_dispatch top (((pass k a root).passes.goes v o).1 (x, r, f))

  free : (e : ℕ → Bool) {b x : ℕ} {v : List ℕ} → Run p e b v x → Run p nowhere b v x
  free e r = run_wider p e nowhere (λ x h. refl) r

  enter_arm : (a k : ℕ) → HasRoot roots k a → EnteredBy whole a k
  enter_arm a k root = enter_up list w.later top (w.enters k a root)

  -- what is wanted at the end enters no arm, so nothing is wanted
  ended : (a k x : ℕ) (o : Option ℕ) (root : HasRoot roots k a) → NoEntry whole (places roots) o → Fits p (pass k a root).stops x o → Fits p nowhere x o
  ended a k x None root n f = f
  ended a k x (Some j) root n (t, e) =
      let (s, target) = has_entry roots j ((pass k a root).only j e) in absurd (n s (root_is_arm p list roots w j s target) (enter_arm s j target))

  turns_run : {k : ℕ} {v : List ℕ} {o : Option ℕ} → Turns p whole (places roots) k v o → (x : ℕ) × Run p nowhere k v x × Fits p nowhere x o
  turns_run {k} {v} {o} (turn_leaves {a = a} c e g n) =
      let root = arm_root a k c e in
      let (x, r, f) = goes_in a k v o root g in (x, free (pass k a root).stops r, ended a k x o root n f)
  turns_run {k} {v} {o} (turn_goes_on {a = a} {j = j} {w = u} c e g t) =
      let root = arm_root a k c e in
      let (x, r, f) = goes_in a k u (Some j) root g in
      let (y, m, h) = turns_run t in (y, run_append p nowhere (free (pass k a root).stops r) f.0 refl m, h)

  run_turns : (fuel k x a : ℕ) (v : List ℕ) → length v < fuel → HasRoot roots k a → Run p nowhere k v x → Ends p x → Turns p whole (places roots) k v None
  run_turns zero k x a v l root r end = absurd (omega arith)
  run_turns (suc n) k x a v l root r end = go (split p (pass k a root).stops nowhere r) (λ j s u. run_turns n j x s u)
    where
      go : Run p (pass k a root).stops k v x ⊎ Visit p (pass k a root).stops nowhere k x v
          → ((j s : ℕ) (u : List ℕ) → length u < n → HasRoot roots j s → Run p nowhere j u x → Ends p x → Turns p whole (places roots) j u None)
          → Turns p whole (places roots) k v None
      go (inl m) again = turn_leaves (root_is_arm p list roots w k a root) (enter_arm a k root) (goes_out a k x v None root m end) tt
      go (inr y) again =
          let (s, other) = has_entry roots y.at ((pass k a root).only y.at y.passes) in
          let shorter = y.shorter in
          let P : List ℕ → Type 0 = λ z. Turns p whole (places roots) k z None in
          subst P (sym y.joined) (turn_goes_on (root_is_arm p list roots w k a root) (enter_arm a k root)
          (goes_out a k y.last y.before (Some y.at) root y.reaches (y.edge, y.passes)) (again y.at s y.behind (omega arith) other y.rest end))

  passes_in : (a k : ℕ) (v : List ℕ) (root : HasRoot roots k a) → Passes p whole a v → (v ≡ []) ⊎ ((x : ℕ) × Run p (pass k a root).stops k v x)
  passes_in a k v root g = ((pass k a root).passes.passes v).0 (passes_down p list w.later w.no_dispatch top (w.within k a root) g)

  passes_out : (a k x : ℕ) (v : List ℕ) (root : HasRoot roots k a) → Run p (pass k a root).stops k v x → Passes p whole a v
  passes_out a k x v root r = passes_up p list w.later w.no_dispatch top (((pass k a root).passes.passes v).1 (inr (x, r)))

  turning_run : {k : ℕ} {v : List ℕ} → Turning p whole (places roots) k v → (v ≡ []) ⊎ ((x : ℕ) × Run p nowhere k v x)
  turning_run {k} {v} (turn_first {a = a} c e g) =
      let root = arm_root a k c e in
      elim (passes_in a k v root g) [
        | inl q ↦ inl q
        | inr (x, r) ↦ inr (x, free (pass k a root).stops r)
      ]
  turning_run {k} {v} (turn_again {a = a} {j = j} {w = u} {v = z} c e g t) =
      let root = arm_root a k c e in
      let (x, r, f) = goes_in a k u (Some j) root g in
      let m = free (pass k a root).stops r in
      elim (turning_run t) [
        | inl q ↦ (let P : List ℕ → Type 0 = λ l. Run p nowhere k l x in inr (x, subst P (sym (ap (λ (l : List ℕ). u ++ l) q ∙ append-nil u)) m))
        | inr (y, s) ↦ inr (y, run_append p nowhere m f.0 refl s)
      ]

  run_turning : (fuel k x a : ℕ) (v : List ℕ) → length v < fuel → HasRoot roots k a → Run p nowhere k v x → Turning p whole (places roots) k v
  run_turning zero k x a v l root r = absurd (omega arith)
  run_turning (suc n) k x a v l root r = go (split p (pass k a root).stops nowhere r) (λ j s u. run_turning n j x s u)
    where
      go : Run p (pass k a root).stops k v x ⊎ Visit p (pass k a root).stops nowhere k x v
          → ((j s : ℕ) (u : List ℕ) → length u < n → HasRoot roots j s → Run p nowhere j u x → Turning p whole (places roots) j u)
          → Turning p whole (places roots) k v
      go (inl m) again = turn_first (root_is_arm p list roots w k a root) (enter_arm a k root) (passes_out a k x v root m)
      go (inr y) again =
          let (s, other) = has_entry roots y.at ((pass k a root).only y.at y.passes) in
          let shorter = y.shorter in
          let P : List ℕ → Type 0 = λ z. Turning p whole (places roots) k z in
          subst P (sym y.joined) (turn_again (root_is_arm p list roots w k a root) (enter_arm a k root)
          (goes_out a k y.last y.before (Some y.at) root y.reaches (y.edge, y.passes)) (again y.at s y.behind (omega arith) other y.rest))

  at_top : (region : Region) → slice_get whole (length list) ≡ Some region → top ≡ region
  at_top region h = no_choice p list roots w region h

  top_goes : {v : List ℕ} {o : Option ℕ} → Goes p whole (length list) v o → Turns p whole (places roots) 0 v o
  top_goes (leaf_wants h t) = cc (at_top _ h)
  top_goes (leaf_ends h e) = cc (at_top _ h)
  top_goes (then_leaves h g n) = cc (at_top _ h)
  top_goes (then_goes_on h g m) = cc (at_top _ h)
  top_goes (loop_leaves h g n) = cc (at_top _ h)
  top_goes (loop_repeats h g m) = cc (at_top _ h)
  top_goes (arms_leave h g n) = cc (at_top _ h)
  top_goes (arms_go_on h g c m) = cc (at_top _ h)
  top_goes {v} {o} (dispatch_goes {arms = arms} h t) =
      let q : top ≡ Dispatch arms = at_top _ h in
      let same : arms ≡ places roots = cc in
      let P : List ℕ → Type 0 = λ l. Turns p whole l 0 v o in subst P same t

  top_passes : {v : List ℕ} → Passes p whole (length list) v → (v ≡ []) ⊎ Turning p whole (places roots) 0 v
  top_passes nothing = inl refl
  top_passes (leaf_passes h) = cc (at_top _ h)
  top_passes (then_first h g) = cc (at_top _ h)
  top_passes (then_second h g m) = cc (at_top _ h)
  top_passes (loop_first h g) = cc (at_top _ h)
  top_passes (loop_again h g m) = cc (at_top _ h)
  top_passes (arms_first h g) = cc (at_top _ h)
  top_passes (arms_second h g c m) = cc (at_top _ h)
  top_passes {v} (dispatch_passes {arms = arms} h t) =
      let q : top ≡ Dispatch arms = at_top _ h in
      let same : arms ≡ places roots = cc in
      let P : List ℕ → Type 0 = λ l. Turning p whole l 0 v in inr (subst P same t)

  comes_back : (v : List ℕ) (o : Option ℕ) (x : ℕ) → Run p nowhere 0 v x → Fits p nowhere x o → Goes p whole (length list) v o
  comes_back v None x r f = let (a, root) = w.begins in dispatch_goes (last list top) (run_turns (suc (length v)) 0 x a v (omega arith) root r f)
  comes_back v (Some k) x r (t, f) = absurd (false≢true f)

  pub several_passes : PassesUpTo p whole (length list) 0 nowhere
  several_passes = record {
    goes = λ v o. (λ g. turns_run (top_goes g), λ k. (let (x, r, f) = k in comes_back v o x r f));
    passes = λ v. (λ g. elim (top_passes g) [ inl q ↦ inl q | inr t ↦ turning_run t ], λ k. back v k);
  }
    where
      back : (v : List ℕ) → (v ≡ []) ⊎ ((x : ℕ) × Run p nowhere 0 v x) → Passes p whole (length list) v
      back v (inl q) = let P : List ℕ → Type 0 = λ l. Passes p whole (length list) l in subst P (sym q) nothing
      back v (inr (x, r)) = let (a, root) = w.begins in dispatch_passes (last list top) (run_turning (suc (length v)) 0 x a v (omega arith) root r)

  module _ (single : length roots ≤ 1) (never : NoReturn p) where
    abbrev stop : ℕ → Bool
    stop = (pass 0 w.begins.0 w.begins.1).stops

    none_stops : (c : ℕ) → 1 ≤ c → stop c ≡ false
    none_stops c l = false_from_ne_true (stop c) (λ t. (
        let (s, root) = has_entry roots c ((pass 0 w.begins.0 w.begins.1).only c t) in
        let q = (only_root p list roots w single c s root).0 in omega arith))

    narrow : {b x : ℕ} {v : List ℕ} → Run p nowhere b v x → Run p stop b v x
    narrow one = one
    narrow (more {b = b} {c = c} d n r) = more d (none_stops c (never b c d)) (narrow r)

    fit_in : (x : ℕ) (o : Option ℕ) → Fits p stop x o → Fits p nowhere x o
    fit_in x None f = f
    fit_in x (Some k) (t, f) = absurd (both_ways _ (none_stops k (never x k t)) f)

    fit_out : (x : ℕ) (o : Option ℕ) → Fits p nowhere x o → Fits p stop x o
    fit_out x None f = f
    fit_out x (Some k) (t, f) = absurd (false≢true f)

    pub single_passes : PassesUpTo p list w.begins.0 0 nowhere
    single_passes = let s = (pass 0 w.begins.0 w.begins.1).passes in record {
      goes = λ v o. (
        λ g. (let (x, r, f) = (s.goes v o).0 g in (x, free stop r, fit_in x o f)),
        λ k. (let (x, r, f) = k in (s.goes v o).1 (x, narrow r, fit_out x o f)),
      );
      passes = λ v. (
        λ g. elim ((s.passes v).0 g) [ inl q ↦ inl q | inr (x, r) ↦ inr (x, free stop r) ],
        λ k. (s.passes v).1 (elim k [ inl q ↦ inl q | inr (x, r) ↦ inr (x, narrow r) ]),
      );
    }

pub closed_passes_all : ClosedPassesAll
closed_passes_all p list roots never w pass = elim (cases_Bool (ltb 1 (length roots))) [
  | inl t ↦ (let P : List Region → Type 0 = λ l. PassesAll p l in
      subst P (sym (cond-true (ltb 1 (length roots)) (several list roots) list t))
      (length list, simp (length-append) (omega arith), several_passes p list roots w pass))
  | inr f ↦ (let P : List Region → Type 0 = λ l. PassesAll p l in
      let single = ltb-false 1 (length roots) f in
      subst P (sym (cond-false (ltb 1 (length roots)) (several list roots) list f))
      (w.begins.0, single_last p list roots w single, single_passes p list roots w pass single never))
]
