-- Leaves for all reachable blocks are regions under as many roots.
use Rattle.std.proofs.Common.{◌≡◌, ◌⊎◌, inl, inr, ℕ, zero, suc, ◌+◌, ◌-◌, ◌<◌, ◌≤◌, Bool, true, List, [], ◌∷◌, length, get_or, Option, Some, None, refl, sym, ap, subst, ◌∙◌, arith}
use Rattle.std.proofs.lemmas.Bool.{cases_order, both_ways}
use Rattle.std.proofs.lemmas.Option.{none-some, slice_get_within, slice_get-get_or, get_or_from_slice_get}
use Rattle.std.specs.List.{slice_get}
use Rattle.dxil_form.specs.declared.program.Program.{Program}
use Rattle.dxil_form.specs.declared.region.Region.{Region}
use Rattle.dxil_form.specs.declared.region.Region.TheVariants.{Leaf, Then, Loop, Dispatch, Arms}
use Rattle.dxil_form.specs.Graphs.{Reached}
use Rattle.dxil_form.specs.Branches.{branches, declared_graph}
use Rattle.dxil_form.specs.Sound.{Sound}
use Rattle.dxil_form.specs.Walks.{Goes, Passes}
use Rattle.dxil_form.specs.Walks.EnteredBy.{by_block}
use Rattle.dxil_form.specs.Walks.Goes.{leaf_wants, leaf_ends, then_leaves, then_goes_on, loop_leaves, loop_repeats, arms_leave, arms_go_on, dispatch_goes}
use Rattle.dxil_form.specs.Walks.Passes.{nothing, leaf_passes, then_first, then_second, loop_first, loop_again, arms_first, arms_second, dispatch_passes}
use Rattle.dxil_form.specs.Wired.{IsPart, MayWant, parts}
use Rattle.dxil_form.specs.Wired.MayWant.{leaf_wants as leaf_may, first_wants, second_wants, body_wants, source_wants, arm_wants, choice_wants}
use Rattle.region_laws.specs.Roots.{HasRoot, WiredRoots}
use Rattle.region_laws.specs.Paths.{Run, Fits, PassesUpTo, RootsPassUpToRoots, enters_root}
use Rattle.region_laws.specs.Paths.Run.{one, more}
use Rattle.region_laws.proofs.Places.{same_place, has_get, get_has}
use Rattle.region_laws.proofs.Runs.{entry_has, has_other}
use Rattle.region_leaves.specs.Leaves.{AreReachable, placed_from, leaves_of}
use Rattle.region_leaves.proofs.Placing.{placed_at, at_placed, leaf_at, at_leaf, leaves_length}
use Rattle.region_leaves.proofs.Reaching.{reached_inside}

module _ (p : Program) (sound : Sound p) (blocks : List ℕ) (are : AreReachable p blocks) where
  abbrev list : List Region
  list = leaves_of blocks

  abbrev roots : List (ℕ × ℕ)
  roots = placed_from 0 blocks

  at_index : (i b : ℕ) → slice_get blocks i ≡ Some b → get_or blocks i 0 ≡ b
  at_index i b h = get_or_from_slice_get blocks i b 0 h

  one_index : (i j b : ℕ) → slice_get blocks i ≡ Some b → slice_get blocks j ≡ Some b → i ≡ j
  one_index i j b h k =
      let l = slice_get_within blocks i b h in
      let m = slice_get_within blocks j b k in
      let x = at_index i b h in
      let y = at_index j b k in
      elim (cases_order i j) [
        | inl q ↦ q
        | inr (inl below) ↦ (let r = are.rising i j below m in absurd (omega arith))
        | inr (inr above) ↦ (let r = are.rising j i above l in absurd (omega arith))
      ]

  pub block_reached : (i b : ℕ) → slice_get blocks i ≡ Some b → Reached (declared_graph p) b
  block_reached i b h = are.only b (has_get blocks i b h)

  pub index_of : (b : ℕ) → Reached (declared_graph p) b → (i : ℕ) × (slice_get blocks i ≡ Some b)
  index_of b r = get_has blocks b (are.all b r)

  root_of : (b : ℕ) → Reached (declared_graph p) b → (r : ℕ) × HasRoot roots b r
  root_of b r = let (i, h) = index_of b r in (0 + i, (i, at_placed 0 blocks i b h))

  leaf_of : (b r : ℕ) → HasRoot roots b r → slice_get list r ≡ Some (Leaf b)
  leaf_of b r (i, h) =
      let (q, o) = placed_at 0 blocks i b r h in
      let e : i ≡ r = omega arith in
      let P : ℕ → Type 0 = λ n. slice_get list n ≡ Some (Leaf b) in subst P e (at_leaf blocks i b o)

  pub branch_reached : (b k : ℕ) → Reached (declared_graph p) b → branches p b k ≡ true → Reached (declared_graph p) k
  branch_reached b k (before, w) t = (b ∷ before, (t, w))

  all_leaves : (r : ℕ) (region : Region) → slice_get list r ≡ Some region → (b : ℕ) × (slice_get blocks r ≡ Some b) × (Leaf b ≡ region)
  all_leaves r region h = leaf_at blocks r region h

  is_leaf : (b r : ℕ) (region : Region) → HasRoot roots b r → slice_get list r ≡ Some region → Leaf b ≡ region
  is_leaf b r region root h = same_place list r (Leaf b) region (leaf_of b r root) h

  no_parts : (r i s : ℕ) → IsPart list r i s → ⊥
  no_parts r i s k =
      let (b, _, q) = all_leaves r k.region k.stands in
      let P : Region → Type 0 = λ x. slice_get (parts x) i ≡ Some s in
      none-some s (subst P (sym q) k.part)

  wants : (b r k : ℕ) → HasRoot roots b r → MayWant p list r k → (s : ℕ) × HasRoot roots k s
  wants b r k root (leaf_may {b = c} h t) =
      let (i, g, q) = all_leaves r (Leaf c) h in
      let o : i ≡ c = cc in
      let P : ℕ → Type 0 = λ y. Reached (declared_graph p) y in
      root_of k (branch_reached c k (subst P o (block_reached r i g)) t)
  wants b r k root (first_wants h m n) = cc (is_leaf b r _ root h)
  wants b r k root (second_wants h m) = cc (is_leaf b r _ root h)
  wants b r k root (body_wants h m n) = cc (is_leaf b r _ root h)
  wants b r k root (source_wants h m n) = cc (is_leaf b r _ root h)
  wants b r k root (arm_wants h c m) = cc (is_leaf b r _ root h)
  wants b r k root (choice_wants h c m n) = cc (is_leaf b r _ root h)

  distinct : (i j b c r s : ℕ) → slice_get roots i ≡ Some (b, r) → slice_get roots j ≡ Some (c, s) → (b ≡ c) ⊎ (r ≡ s) → i ≡ j
  distinct i j b c r s h k o =
      let (q, x) = placed_at 0 blocks i b r h in
      let (u, y) = placed_at 0 blocks j c s k in
      elim o [
        | inl e ↦ (let P : ℕ → Type 0 = λ z. slice_get blocks j ≡ Some z in one_index i j b x (subst P (sym e) y))
        | inr e ↦ omega arith
      ]

  -- numbers that rise are at least as large as their places
  high : (i : ℕ) → i < length blocks → i ≤ get_or blocks i 0
  high zero l = omega arith
  high (suc i) l =
      let k = high i (omega arith) in
      let r = are.rising i (suc i) (omega arith) l in omega arith

  pub few_blocks : length blocks ≤ length p.blocks
  few_blocks = elim (cases_order 0 (length blocks)) [
    | inl q ↦ omega arith
    | inr (inl l) ↦ (
        let last = length blocks - 1 in
        let within : last < length blocks = omega arith in
        let k = high last within in
        let n = reached_inside p sound (get_or blocks last 0) (block_reached last (get_or blocks last 0) (slice_get-get_or blocks last 0 within)) in
        omega arith)
    | inr (inr l) ↦ absurd (omega arith)
  ]

  leaf_reached : (r b : ℕ) → slice_get list r ≡ Some (Leaf b) → slice_get blocks r ≡ Some b
  leaf_reached r b h =
      let (c, g, q) = all_leaves r (Leaf b) h in
      let o : c ≡ b = cc in
      let P : ℕ → Type 0 = λ y. slice_get blocks r ≡ Some y in subst P o g

  other : {A : Type 0} (r : ℕ) (region : Region) → ((b : ℕ) → Leaf b ≡ region → ⊥) → slice_get list r ≡ Some region → A
  other r region apart h = let (b, _, q) = all_leaves r region h in absurd (apart b q)

  pub leaves_wired : WiredRoots p list roots
  leaves_wired = record {
    begins = root_of 0 ([], refl);
    enters = λ b r root. by_block (leaf_of b r root);
    distinct = distinct;
    wants = wants;
    within = λ b r root. slice_get_within list r (Leaf b) (leaf_of b r root);
    free = λ b r q i root k. no_parts q i r k;
    later = λ r i s k. absurd (no_parts r i s k);
    named = λ s l. (
        let e = leaves_length blocks in
        let h = slice_get-get_or blocks s 0 (omega arith) in
        let o : 0 + s ≡ s = omega arith in
        inl (get_or blocks s 0, (s, at_placed 0 blocks s (get_or blocks s 0) h ∙ ap (λ (n : ℕ). Some (get_or blocks s 0, n)) o)));
    once = λ q r i j s k m. absurd (no_parts q i s k);
    leaf = λ b r. (let (i, h) = index_of b r in (i, at_leaf blocks i b h));
    reached = λ r b h. block_reached r b (leaf_reached r b h);
    leaf_once = λ r s b h k. one_index r s b (leaf_reached r b h) (leaf_reached s b k);
    second = λ r first second target h. other r (Then first second target) (λ b q. cc) h;
    body = λ r body head h. other r (Loop body head) (λ b q. cc) h;
    one_loop = λ r body head inner k h i. other r (Loop body head) (λ b q. cc) h;
    source = λ r first arms h. other r (Arms first arms) (λ b q. cc) h;
    arm = λ r first k a arms h c. other r (Arms first arms) (λ b q. cc) h;
    no_dispatch = λ r arms h. other r (Dispatch arms) (λ b q. cc) h;
    few = (let l = few_blocks in let n = sound.begins in let e = leaves_length blocks in omega arith);
  }

  module _ (b r : ℕ) (root : HasRoot roots b r) where
    abbrev stops : ℕ → Bool
    stops = enters_root roots

    own_block : slice_get blocks r ≡ Some b
    own_block = leaf_reached r b (leaf_of b r root)

    stops_at : (c k : ℕ) → Reached (declared_graph p) c → branches p c k ≡ true → stops k ≡ true
    stops_at c k l t = let (s, h) = root_of k (branch_reached c k l t) in entry_has roots k s h

    goes : {w : List ℕ} {o : Option ℕ} → Goes p list r w o → (x : ℕ) × Run p stops b w x × Fits p stops x o
    goes (leaf_wants {b = c} {k = k} h t) =
        let q : b ≡ c = cc (is_leaf b r (Leaf c) root h) in
        let P : ℕ → Type 0 = λ y. Run p stops b (y ∷ []) y in
        let Q : ℕ → Type 0 = λ y. Reached (declared_graph p) y in
        (c, subst P q one, (t, stops_at c k (subst Q q (block_reached r b own_block)) t))
    goes (leaf_ends {b = c} h e) =
        let q : b ≡ c = cc (is_leaf b r (Leaf c) root h) in
        let P : ℕ → Type 0 = λ y. Run p stops b (y ∷ []) y in
        (c, subst P q one, e)
    goes (then_leaves h g n) = cc (is_leaf b r _ root h)
    goes (then_goes_on h g m) = cc (is_leaf b r _ root h)
    goes (loop_leaves h g n) = cc (is_leaf b r _ root h)
    goes (loop_repeats h g m) = cc (is_leaf b r _ root h)
    goes (arms_leave h g n) = cc (is_leaf b r _ root h)
    goes (arms_go_on h g c m) = cc (is_leaf b r _ root h)
    goes (dispatch_goes h t) = cc (is_leaf b r _ root h)

    comes : {w : List ℕ} {x : ℕ} (o : Option ℕ) → Run p stops b w x → Fits p stops x o → Goes p list r w o
    comes None one f = leaf_ends (leaf_of b r root) f
    comes (Some k) one (t, s) = leaf_wants (leaf_of b r root) t
    comes o (more {c = c} d n m) f = absurd (both_ways _ n (stops_at b c (block_reached r b own_block) d))

    passes : {w : List ℕ} → Passes p list r w → (w ≡ []) ⊎ ((x : ℕ) × Run p stops b w x)
    passes nothing = inl refl
    passes (leaf_passes {b = c} h) =
        let q : b ≡ c = cc (is_leaf b r (Leaf c) root h) in
        let P : ℕ → Type 0 = λ y. Run p stops b (y ∷ []) y in inr (c, subst P q one)
    passes (then_first h g) = cc (is_leaf b r _ root h)
    passes (then_second h g m) = cc (is_leaf b r _ root h)
    passes (loop_first h g) = cc (is_leaf b r _ root h)
    passes (loop_again h g m) = cc (is_leaf b r _ root h)
    passes (arms_first h g) = cc (is_leaf b r _ root h)
    passes (arms_second h g c m) = cc (is_leaf b r _ root h)
    passes (dispatch_passes h t) = cc (is_leaf b r _ root h)

    passed : {w : List ℕ} {x : ℕ} → Run p stops b w x → Passes p list r w
    passed one = leaf_passes (leaf_of b r root)
    passed (more {c = c} d n m) = absurd (both_ways _ n (stops_at b c (block_reached r b own_block) d))

    passed_all : (w : List ℕ) → (w ≡ []) ⊎ ((x : ℕ) × Run p stops b w x) → Passes p list r w
    passed_all w (inl q) = let P : List ℕ → Type 0 = λ l. Passes p list r l in subst P (sym q) nothing
    passed_all w (inr (x, m)) = passed m

    pub leaf_passes_up : PassesUpTo p list r b stops
    leaf_passes_up = record {
      goes = λ w o. (λ g. goes g, λ k. (let (x, m, f) = k in comes o m f));
      passes = λ w. (λ g. passes g, passed_all w);
    }

  pub leaves_pass : RootsPassUpToRoots p list roots
  leaves_pass b r root = record {
    stops = enters_root roots;
    all = λ c t. (let ((s, h), _) = has_other roots b c t in entry_has roots c s h);
    only = λ c t. t;
    passes = leaf_passes_up b r root;
  }
