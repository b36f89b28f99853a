-- What is true of regions stays true where one region more is put behind them.
use Rattle.std.proofs.Common.{◌≡◌, ℕ, suc, ◌<◌, true, List, [], ◌∷◌, ◌++◌, length, Some, refl, ap, subst, ◌∙◌, arith}
use Rattle.std.proofs.lemmas.Option.{slice_get_within, slice_get-map}
use Rattle.std.specs.List.{slice_get, Contains}
use Rattle.std.specs.Option.{option_map}
use Rattle.dxil_form.specs.declared.program.Program.{Program}
use Rattle.dxil_form.specs.declared.region.Region.{Region}
use Rattle.dxil_form.specs.declared.region.Region.TheVariants.{Then, Loop, Dispatch, Arms}
use Rattle.dxil_form.specs.Branches.{branches}
use Rattle.dxil_form.specs.Walks.{EnteredBy}
use Rattle.dxil_form.specs.Walks.EnteredBy.{by_block, by_head, by_first, by_source, by_start}
use Rattle.dxil_form.specs.Wired.{IsPart, MayWant, parts}
use Rattle.dxil_form.specs.Wired.MayWant.{leaf_wants as leaf_may, first_wants, second_wants, body_wants, source_wants, arm_wants, choice_wants}
use Rattle.region_laws.proofs.Places.{front, inside, get_has, same_place}

-- parts come earlier
abbrev pub Later : List Region → Type 0
Later list = (r i s : ℕ) → IsPart list r i s → s < r

-- no region is a dispatch
abbrev pub NoDispatch : List Region → Type 0
NoDispatch list = (r : ℕ) (arms : List ℕ) → slice_get list r ≡ Some (Dispatch arms) → ⊥

-- some block branches to what a region may want
pub may_branch : {p : Program} {list : List Region} {r k : ℕ} → MayWant p list r k → (b : ℕ) × (branches p b k ≡ true)
may_branch (leaf_may {b = b} h t) = (b, t)
may_branch (first_wants h m n) = may_branch m
may_branch (second_wants h m) = may_branch m
may_branch (body_wants h m n) = may_branch m
may_branch (source_wants h m n) = may_branch m
may_branch (arm_wants h i m) = may_branch m
may_branch (choice_wants h i m n) = may_branch m

module _ (list : List Region) (later : Later list) where
  pub part_at : (r i s : ℕ) (region : Region) → slice_get list r ≡ Some region → slice_get (parts region) i ≡ Some s → s < r
  part_at r i s region h k = later r i s (record { region = region; stands = h; part = k })

  pub arm_before : (r first k a : ℕ) (arms : List (ℕ × ℕ)) → slice_get list r ≡ Some (Arms first arms) → Contains arms (k, a) → a < r
  arm_before r first k a arms h c =
      let (i, e) = get_has arms (k, a) c in
      part_at r (suc i) a (Arms first arms) h (slice_get-map (λ (arm : ℕ × ℕ). arm.1) arms i ∙ ap (option_map (λ (arm : ℕ × ℕ). arm.1)) e)

  pub choice_before : (r a : ℕ) (arms : List ℕ) → slice_get list r ≡ Some (Dispatch arms) → Contains arms a → a < r
  choice_before r a arms h c = let (i, e) = get_has arms a c in part_at r i a (Dispatch arms) h e

  module _ (x : Region) where
    pub enter_up : {r b : ℕ} → EnteredBy list r b → EnteredBy (list ++ x ∷ []) r b
    enter_up (by_block h) = by_block (front list (x ∷ []) _ _ h)
    enter_up (by_head h) = by_head (front list (x ∷ []) _ _ h)
    enter_up (by_first h e) = by_first (front list (x ∷ []) _ _ h) (enter_up e)
    enter_up (by_source h e) = by_source (front list (x ∷ []) _ _ h) (enter_up e)
    enter_up (by_start h c e) = by_start (front list (x ∷ []) _ _ h) c (enter_up e)

    pub enter_down : {r b : ℕ} → r < length list → EnteredBy (list ++ x ∷ []) r b → EnteredBy list r b
    enter_down l (by_block h) = by_block (inside list x _ _ l h)
    enter_down l (by_head h) = by_head (inside list x _ _ l h)
    enter_down {r} l (by_first {first = first} {second = second} {target = target} h e) =
        let k = inside list x _ _ l h in
        let n : first < r = part_at r 0 first (Then first second target) k refl in by_first k (enter_down (omega arith) e)
    enter_down {r} l (by_source {first = first} {arms = arms} h e) =
        let k = inside list x _ _ l h in
        let n : first < r = part_at r 0 first (Arms first arms) k refl in by_source k (enter_down (omega arith) e)
    enter_down {r} l (by_start {a = a} {arms = arms} h c e) =
        let k = inside list x _ _ l h in
        let n : a < r = choice_before r a arms k c in by_start k c (enter_down (omega arith) e)

    module _ (p : Program) where
      pub want_up : {r k : ℕ} → MayWant p list r k → MayWant p (list ++ x ∷ []) r k
      want_up (leaf_may h t) = leaf_may (front list (x ∷ []) _ _ h) t
      want_up (first_wants h m n) = first_wants (front list (x ∷ []) _ _ h) (want_up m) n
      want_up (second_wants h m) = second_wants (front list (x ∷ []) _ _ h) (want_up m)
      want_up (body_wants h m n) = body_wants (front list (x ∷ []) _ _ h) (want_up m) n
      want_up (source_wants h m n) = source_wants (front list (x ∷ []) _ _ h) (want_up m) n
      want_up (arm_wants h c m) = arm_wants (front list (x ∷ []) _ _ h) c (want_up m)
      want_up (choice_wants {r = r} {arms = arms} h c m n) = choice_wants (front list (x ∷ []) _ _ h) c (want_up m)
          (λ d i e. (let l : d < r = choice_before r d arms h i in
          let w : r < length list = slice_get_within list r _ h in n d i (enter_down (omega arith) e)))

      pub want_down : {r k : ℕ} → r < length list → MayWant p (list ++ x ∷ []) r k → MayWant p list r k
      want_down l (leaf_may h t) = leaf_may (inside list x _ _ l h) t
      want_down {r} l (first_wants {first = first} {second = second} {target = target} h m n) =
          let k = inside list x _ _ l h in
          let i : first < r = part_at r 0 first (Then first second target) k refl in first_wants k (want_down (omega arith) m) n
      want_down {r} l (second_wants {first = first} {second = second} {target = target} h m) =
          let k = inside list x _ _ l h in
          let i : second < r = part_at r 1 second (Then first second target) k refl in second_wants k (want_down (omega arith) m)
      want_down {r} l (body_wants {body = body} {head = head} h m n) =
          let k = inside list x _ _ l h in
          let i : body < r = part_at r 0 body (Loop body head) k refl in body_wants k (want_down (omega arith) m) n
      want_down {r} l (source_wants {first = first} {arms = arms} h m n) =
          let k = inside list x _ _ l h in
          let i : first < r = part_at r 0 first (Arms first arms) k refl in source_wants k (want_down (omega arith) m) n
      want_down {r} l (arm_wants {first = first} {j = j} {a = a} {arms = arms} h c m) =
          let k = inside list x _ _ l h in
          let i : a < r = arm_before r first j a arms k c in arm_wants k c (want_down (omega arith) m)
      want_down {r} l (choice_wants {a = a} {arms = arms} h c m n) =
          let k = inside list x _ _ l h in
          let i : a < r = choice_before r a arms k c in choice_wants k c (want_down (omega arith) m) (λ d u e. n d u (enter_up e))

  pub entered_once : NoDispatch list → {r b c : ℕ} → EnteredBy list r b → EnteredBy list r c → b ≡ c
  entered_once none (by_block h) (by_block k) = cc (same_place list _ _ _ h k)
  entered_once none (by_block h) (by_head k) = cc (same_place list _ _ _ h k)
  entered_once none (by_block h) (by_first k e) = cc (same_place list _ _ _ h k)
  entered_once none (by_block h) (by_source k e) = cc (same_place list _ _ _ h k)
  entered_once none (by_head h) (by_block k) = cc (same_place list _ _ _ h k)
  entered_once none (by_head h) (by_head k) = cc (same_place list _ _ _ h k)
  entered_once none (by_head h) (by_first k e) = cc (same_place list _ _ _ h k)
  entered_once none (by_head h) (by_source k e) = cc (same_place list _ _ _ h k)
  entered_once none (by_first h d) (by_block k) = cc (same_place list _ _ _ h k)
  entered_once none (by_first h d) (by_head k) = cc (same_place list _ _ _ h k)
  entered_once none {c = c} (by_first {first = first} h d) (by_first {first = other} k e) =
      let q : other ≡ first = cc (same_place list _ _ _ h k) in
      let P : ℕ → Type 0 = λ y. EnteredBy list y c in entered_once none d (subst P q e)
  entered_once none (by_first h d) (by_source k e) = cc (same_place list _ _ _ h k)
  entered_once none (by_source h d) (by_block k) = cc (same_place list _ _ _ h k)
  entered_once none (by_source h d) (by_head k) = cc (same_place list _ _ _ h k)
  entered_once none (by_source h d) (by_first k e) = cc (same_place list _ _ _ h k)
  entered_once none {c = c} (by_source {first = first} h d) (by_source {first = other} k e) =
      let q : other ≡ first = cc (same_place list _ _ _ h k) in
      let P : ℕ → Type 0 = λ y. EnteredBy list y c in entered_once none d (subst P q e)
  entered_once none d (by_start k i e) = absurd (none _ _ k)
  entered_once none (by_start h i d) e = absurd (none _ _ h)
