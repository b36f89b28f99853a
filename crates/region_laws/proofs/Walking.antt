-- A region passes the same where one region more is put behind the list.
use Rattle.std.proofs.Common.{ℕ, ◌<◌, List, [], ◌∷◌, ◌++◌, length, Option, refl, arith}
use Rattle.dxil_form.specs.declared.program.Program.{Program}
use Rattle.dxil_form.specs.declared.region.Region.{Region}
use Rattle.dxil_form.specs.declared.region.Region.TheVariants.{Then, Loop, Arms}
use Rattle.dxil_form.specs.Walks.{Goes, Passes}
use Rattle.dxil_form.specs.Walks.Goes.{leaf_wants, leaf_ends, then_leaves, then_goes_on, loop_leaves, loop_repeats, arms_leave, arms_go_on, dispatch_goes}
use Rattle.dxil_form.specs.Walks.Passes.{nothing, leaf_passes, then_first, then_second, loop_first, loop_again, arms_first, arms_second, dispatch_passes}
use Rattle.region_laws.proofs.Places.{front, inside}
use Rattle.region_laws.proofs.Growing.{Later, NoDispatch, part_at, arm_before}

module _ (p : Program) (list : List Region) (later : Later list) (none : NoDispatch list) (x : Region) where
  pub goes_up : {r : ℕ} {w : List ℕ} {o : Option ℕ} → Goes p list r w o → Goes p (list ++ x ∷ []) r w o
  goes_up (leaf_wants h t) = leaf_wants (front list (x ∷ []) _ _ h) t
  goes_up (leaf_ends h e) = leaf_ends (front list (x ∷ []) _ _ h) e
  goes_up (then_leaves h g n) = then_leaves (front list (x ∷ []) _ _ h) (goes_up g) n
  goes_up (then_goes_on h g m) = then_goes_on (front list (x ∷ []) _ _ h) (goes_up g) (goes_up m)
  goes_up (loop_leaves h g n) = loop_leaves (front list (x ∷ []) _ _ h) (goes_up g) n
  goes_up (loop_repeats h g m) = loop_repeats (front list (x ∷ []) _ _ h) (goes_up g) (goes_up m)
  goes_up (arms_leave h g n) = arms_leave (front list (x ∷ []) _ _ h) (goes_up g) n
  goes_up (arms_go_on h g c m) = arms_go_on (front list (x ∷ []) _ _ h) (goes_up g) c (goes_up m)
  goes_up (dispatch_goes h t) = absurd (none _ _ h)

  pub passes_up : {r : ℕ} {w : List ℕ} → Passes p list r w → Passes p (list ++ x ∷ []) r w
  passes_up nothing = nothing
  passes_up (leaf_passes h) = leaf_passes (front list (x ∷ []) _ _ h)
  passes_up (then_first h g) = then_first (front list (x ∷ []) _ _ h) (passes_up g)
  passes_up (then_second h g m) = then_second (front list (x ∷ []) _ _ h) (goes_up g) (passes_up m)
  passes_up (loop_first h g) = loop_first (front list (x ∷ []) _ _ h) (passes_up g)
  passes_up (loop_again h g m) = loop_again (front list (x ∷ []) _ _ h) (goes_up g) (passes_up m)
  passes_up (arms_first h g) = arms_first (front list (x ∷ []) _ _ h) (passes_up g)
  passes_up (arms_second h g c m) = arms_second (front list (x ∷ []) _ _ h) (goes_up g) c (passes_up m)
  passes_up (dispatch_passes h t) = absurd (none _ _ h)

  pub goes_down : {r : ℕ} {w : List ℕ} {o : Option ℕ} → r < length list → Goes p (list ++ x ∷ []) r w o → Goes p list r w o
  goes_down l (leaf_wants h t) = leaf_wants (inside list x _ _ l h) t
  goes_down l (leaf_ends h e) = leaf_ends (inside list x _ _ l h) e
  goes_down {r} l (then_leaves {first = first} {second = second} {target = target} h g n) =
      let k = inside list x _ _ l h in
      let i : first < r = part_at list later r 0 first (Then first second target) k refl in then_leaves k (goes_down (omega arith) g) n
  goes_down {r} l (then_goes_on {first = first} {second = second} {target = target} h g m) =
      let k = inside list x _ _ l h in
      let i : first < r = part_at list later r 0 first (Then first second target) k refl in
      let j : second < r = part_at list later r 1 second (Then first second target) k refl in
      then_goes_on k (goes_down (omega arith) g) (goes_down (omega arith) m)
  goes_down {r} l (loop_leaves {body = body} {head = head} h g n) =
      let k = inside list x _ _ l h in
      let i : body < r = part_at list later r 0 body (Loop body head) k refl in loop_leaves k (goes_down (omega arith) g) n
  goes_down {r} l (loop_repeats {body = body} {head = head} h g m) =
      let k = inside list x _ _ l h in
      let i : body < r = part_at list later r 0 body (Loop body head) k refl in loop_repeats k (goes_down (omega arith) g) (goes_down l m)
  goes_down {r} l (arms_leave {first = first} {arms = arms} h g n) =
      let k = inside list x _ _ l h in
      let i : first < r = part_at list later r 0 first (Arms first arms) k refl in arms_leave k (goes_down (omega arith) g) n
  goes_down {r} l (arms_go_on {first = first} {k = j} {a = a} {arms = arms} h g c m) =
      let k = inside list x _ _ l h in
      let i : first < r = part_at list later r 0 first (Arms first arms) k refl in
      let n : a < r = arm_before list later r first j a arms k c in
      arms_go_on k (goes_down (omega arith) g) c (goes_down (omega arith) m)
  goes_down l (dispatch_goes h t) = absurd (none _ _ (inside list x _ _ l h))

  pub passes_down : {r : ℕ} {w : List ℕ} → r < length list → Passes p (list ++ x ∷ []) r w → Passes p list r w
  passes_down l nothing = nothing
  passes_down l (leaf_passes h) = leaf_passes (inside list x _ _ l h)
  passes_down {r} l (then_first {first = first} {second = second} {target = target} h g) =
      let k = inside list x _ _ l h in
      let i : first < r = part_at list later r 0 first (Then first second target) k refl in then_first k (passes_down (omega arith) g)
  passes_down {r} l (then_second {first = first} {second = second} {target = target} h g m) =
      let k = inside list x _ _ l h in
      let i : first < r = part_at list later r 0 first (Then first second target) k refl in
      let j : second < r = part_at list later r 1 second (Then first second target) k refl in
      then_second k (goes_down (omega arith) g) (passes_down (omega arith) m)
  passes_down {r} l (loop_first {body = body} {head = head} h g) =
      let k = inside list x _ _ l h in
      let i : body < r = part_at list later r 0 body (Loop body head) k refl in loop_first k (passes_down (omega arith) g)
  passes_down {r} l (loop_again {body = body} {head = head} h g m) =
      let k = inside list x _ _ l h in
      let i : body < r = part_at list later r 0 body (Loop body head) k refl in loop_again k (goes_down (omega arith) g) (passes_down l m)
  passes_down {r} l (arms_first {first = first} {arms = arms} h g) =
      let k = inside list x _ _ l h in
      let i : first < r = part_at list later r 0 first (Arms first arms) k refl in arms_first k (passes_down (omega arith) g)
  passes_down {r} l (arms_second {first = first} {k = j} {a = a} {arms = arms} h g c m) =
      let k = inside list x _ _ l h in
      let i : first < r = part_at list later r 0 first (Arms first arms) k refl in
      let n : a < r = arm_before list later r first j a arms k c in
      arms_second k (goes_down (omega arith) g) c (passes_down (omega arith) m)
  passes_down l (dispatch_passes h t) = absurd (none _ _ (inside list x _ _ l h))
