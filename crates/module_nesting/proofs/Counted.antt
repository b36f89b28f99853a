-- The tree of wired regions has no more leaves than their list, and no loop in it is another's body.
use Rattle.std.proofs.lemmas.Bool.{cases_lt}
use Rattle.std.proofs.Common.{◌≡◌, inl, inr, ℕ, zero, suc, ◌+◌, ◌-◌, ◌*◌, ◌<◌, ◌≤◌, false, List, [], ◌∷◌, length, Option, Some, None, refl, sym, ap, ◌∙◌, subst, arith}
use Rattle.std.specs.Prelude.{slice_get, map}
use Rattle.dxil_form.specs.declared.program.Program.{Program}
use Rattle.dxil_form.specs.declared.region.Region.{Region}
use Rattle.dxil_form.specs.declared.region.Region.TheVariants as region
use Rattle.dxil_form.specs.Wired.{parts, Wired}
use Rattle.spirv_code.specs.Trees.{Tree, Missing, Leaf, Then, Loop, Dispatch, Arms, No_arm, Arm, arms_of, entered_arms, with_arms, node, tree_from, root_of}
use Rattle.frame_facts.proofs.Searches.{get_below, eq_same}
use Rattle.frame_facts.proofs.Counting.{bit, single, times, times_arms}
use Rattle.frame_facts.proofs.Wiring.{root_once}
use Rattle.module_structure.specs.Depth.{depth_of}
use Rattle.module_nesting.proofs.Leaves.{blocks_in}
use Rattle.module_nesting.proofs.Nested.{is_looping, leaves, arms_leaves, IsNested, AreNested, low_tree, low_arms}

-- ---- sums over the places of a list

abbrev pub total : (ℕ → ℕ) → ℕ → ℕ
total f zero = 0
total f (suc n) = total f n + f n

pub total_low : (f g : ℕ → ℕ) (n : ℕ) → ((s : ℕ) → f s ≤ g s) → total f n ≤ total g n
total_low f g zero h = omega arith
total_low f g (suc n) h =
    let rest = total_low f g n h in
    let one = h n in
    omega (arith, rest, one)

pub total_two : (f g h : ℕ → ℕ) (n : ℕ) → ((s : ℕ) → f s + g s ≤ h s) → total f n + total g n ≤ total h n
total_two f g h zero le = omega arith
total_two f g h (suc n) le =
    let rest = total_two f g h n le in
    let one = le n in
    omega (arith, rest, one)

pub total_at : (f : ℕ → ℕ) (n k : ℕ) → k < n → f k ≤ total f n
total_at f zero k low = absurd (omega (arith, low))
total_at f (suc n) k low = elim (cases_lt k n) [
  | inl lt ↦ (let rest = total_at f n k lt in omega (arith, rest))
  | inr ge ↦ (let same : k ≡ n = omega (arith, ge, low) in let e = ap f same in omega (arith, e))
]

pub total_shift : (f : ℕ → ℕ) (n : ℕ) → total f (suc n) ≡ f 0 + total (λ s. f (suc s)) n
total_shift f zero = omega arith
total_shift f (suc n) =
    let rest = total_shift f n in
    omega (arith, rest)

-- ---- leaves by their places

-- a number, where the region is a leaf
abbrev kept : Option Region → ℕ → ℕ
kept None n = 0
kept (Some (region.Leaf b)) n = n
kept (Some (region.Then first second target)) n = 0
kept (Some (region.Loop body head)) n = 0
kept (Some (region.Dispatch arms)) n = 0
kept (Some (region.Arms first arms)) n = 0

kept_low : (o : Option Region) (m n : ℕ) → m ≤ n → kept o m ≤ kept o n
kept_low None m n h = omega arith
kept_low (Some (region.Leaf b)) m n h = h
kept_low (Some (region.Then first second target)) m n h = omega arith
kept_low (Some (region.Loop body head)) m n h = omega arith
kept_low (Some (region.Dispatch arms)) m n h = omega arith
kept_low (Some (region.Arms first arms)) m n h = omega arith

kept_two : (o : Option Region) (l m n : ℕ) → l + m ≤ n → kept o l + kept o m ≤ kept o n
kept_two None l m n h = omega arith
kept_two (Some (region.Leaf b)) l m n h = h
kept_two (Some (region.Then first second target)) l m n h = omega arith
kept_two (Some (region.Loop body head)) l m n h = omega arith
kept_two (Some (region.Dispatch arms)) l m n h = omega arith
kept_two (Some (region.Arms first arms)) l m n h = omega arith

all_leaves : (xs : List Region) → total (λ s. kept (slice_get xs s) 1) (length xs) ≡ length (blocks_in xs)
all_leaves [] = refl
all_leaves (x ∷ xs) =
    let shift = total_shift (λ s. kept (slice_get (x ∷ xs) s) 1) (length xs) in
    let rest = all_leaves xs in
    by_region x shift rest
  where
    by_region : (x : Region) → total (λ s. kept (slice_get (x ∷ xs) s) 1) (suc (length xs)) ≡ kept (Some x) 1 + total (λ s. kept (slice_get xs s) 1) (length xs) → total (λ s. kept (slice_get xs s) 1) (length xs) ≡ length (blocks_in xs) → total (λ s. kept (slice_get (x ∷ xs) s) 1) (suc (length xs)) ≡ length (blocks_in (x ∷ xs))
    by_region (region.Leaf b) shift rest = omega (arith, shift, rest)
    by_region (region.Then first second target) shift rest = omega (arith, shift, rest)
    by_region (region.Loop body head) shift rest = omega (arith, shift, rest)
    by_region (region.Dispatch arms) shift rest = omega (arith, shift, rest)
    by_region (region.Arms first arms) shift rest = omega (arith, shift, rest)

module _ (list : List Region) where
  abbrev weight : (ℕ → ℕ) → ℕ
  weight f = total (λ s. kept (slice_get list s) (f s)) (length list)

  weight_two : (f g h : ℕ → ℕ) → ((s : ℕ) → f s + g s ≤ h s) → weight f + weight g ≤ weight h
  weight_two f g h le =
      total_two (λ s. kept (slice_get list s) (f s)) (λ s. kept (slice_get list s) (g s)) (λ s. kept (slice_get list s) (h s)) (length list) (λ s. kept_two (slice_get list s) (f s) (g s) (h s) (le s))

  weight_low : (f g : ℕ → ℕ) → ((s : ℕ) → f s ≤ g s) → weight f ≤ weight g
  weight_low f g le =
      total_low (λ s. kept (slice_get list s) (f s)) (λ s. kept (slice_get list s) (g s)) (length list) (λ s. kept_low (slice_get list s) (f s) (g s) (le s))

  weight_leaf : (place block : ℕ) → slice_get list place ≡ Some (region.Leaf block) → 1 ≤ weight (single place)
  weight_leaf place block at =
      let here = total_at (λ s. kept (slice_get list s) (single place s)) (length list) place (get_below list place (region.Leaf block) at) in
      let is : kept (slice_get list place) (single place place) ≡ 1 = ap (λ o. kept o (single place place)) at ∙ ap bit (eq_same place) in
      omega (arith, here, is)

  mutual
    leaves_low : (tree : Tree) → IsNested list tree → leaves tree ≤ weight (λ s. times s tree)
    leaves_low Missing h = absurd h
    leaves_low (Leaf place block arms) h =
        let one = weight_leaf place block h.0 in
        let rest = arms_low arms h.1 in
        let both = weight_two (single place) (λ s. times_arms s arms) (λ s. times s (Leaf place block arms)) (λ s. omega arith) in
        omega (arith, one, rest, both)
    leaves_low (Then place first second target) h =
        let one = leaves_low first h.0 in
        let two = leaves_low second h.1 in
        let both = weight_two (λ s. times s first) (λ s. times s second) (λ s. times s (Then place first second target)) (λ s. omega arith) in
        omega (arith, one, two, both)
    leaves_low (Loop place body head) h =
        let rest = leaves_low body h.1 in
        let more = weight_low (λ s. times s body) (λ s. times s (Loop place body head)) (λ s. omega arith) in
        omega (arith, rest, more)
    leaves_low (Dispatch place arms) h = absurd h

    arms_low : (arms : Arms) → AreNested list arms → arms_leaves arms ≤ weight (λ s. times_arms s arms)
    arms_low No_arm h = omega arith
    arms_low (Arm target tree arms) h =
        let one = leaves_low tree h.0 in
        let rest = arms_low arms h.1 in
        let both = weight_two (λ s. times s tree) (λ s. times_arms s arms) (λ s. times_arms s (Arm target tree arms)) (λ s. omega arith) in
        omega (arith, one, rest, both)

  -- a tree whose root alone may be a dispatch
  abbrev IsRoot : Tree → Type 0
  IsRoot Missing = ⊥
  IsRoot (Leaf place block arms) = IsNested list (Leaf place block arms)
  IsRoot (Then place first second target) = IsNested list (Then place first second target)
  IsRoot (Loop place body head) = IsNested list (Loop place body head)
  IsRoot (Dispatch place arms) = AreNested list arms

  root_low : (tree : Tree) → IsRoot tree → ((s : ℕ) → times s tree ≤ 1) → depth_of tree ≤ 2 + 2 * length (blocks_in list)
  root_low tree h once =
      let most = weight_low (λ s. times s tree) (λ s. 1) once in
      let all = all_leaves list in
      by_tree tree h most all
    where
      by_tree : (tree : Tree) → IsRoot tree → weight (λ s. times s tree) ≤ weight (λ s. 1) → weight (λ s. 1) ≡ length (blocks_in list) → depth_of tree ≤ 2 + 2 * length (blocks_in list)
      by_tree Missing h most all = absurd h
      by_tree (Leaf place block arms) h most all =
          let one = leaves_low (Leaf place block arms) h in
          let low = low_tree list (Leaf place block arms) h in
          omega (arith, one, low, most, all)
      by_tree (Then place first second target) h most all =
          let one = leaves_low (Then place first second target) h in
          let low = low_tree list (Then place first second target) h in
          omega (arith, one, low, most, all)
      by_tree (Loop place body head) h most all =
          let one = leaves_low (Loop place body head) h in
          let low = low_tree list (Loop place body head) h in
          omega (arith, one, low, most, all)
      by_tree (Dispatch place arms) h most all =
          let one = arms_low arms h in
          let low = low_arms list arms h in
          let more = weight_low (λ s. times_arms s arms) (λ s. times s (Dispatch place arms)) (λ s. omega arith) in
          omega (arith, one, low, more, most, all)

-- ---- the tree of wired regions

pub get_some : {A : Type 0} (xs : List A) (k : ℕ) → k < length xs → (x : A) × (slice_get xs k ≡ Some x)
get_some [] k h = absurd (omega (arith, h))
get_some (x ∷ xs) zero h = (x, refl)
get_some (x ∷ xs) (suc k) h = get_some xs k (omega (arith, h))

no_loop : (tree : Tree) (arms : Arms) → is_looping (with_arms tree arms) ≡ false
no_loop Missing arms = refl
no_loop (Leaf place block old) arms = refl
no_loop (Then place first second target) arms = refl
no_loop (Loop place body head) arms = refl
no_loop (Dispatch place old) arms = refl

module _ (p : Program) (list : List Region) (w : Wired p list) where
  abbrev PartsNested : (ℕ → Tree) → Region → Type 0
  PartsNested part x = (i s : ℕ) → slice_get (parts x) i ≡ Some s → IsNested list (part s)

  pub single_leaf : (n r k : ℕ) → r < n → slice_get list r ≡ Some (region.Leaf k) → tree_from n list r ≡ Leaf r k No_arm
  single_leaf zero r k low e = absurd (omega (arith, low))
  single_leaf (suc n) r k low e = ap (node (tree_from n list) r) e

  arms_nested : (part : ℕ → Tree) (xs : List (ℕ × ℕ)) → ((i s : ℕ) → slice_get (map (λ arm. arm.1) xs) i ≡ Some s → IsNested list (part s)) → AreNested list (arms_of part xs)
  arms_nested part [] h = tt
  arms_nested part (x ∷ xs) h = (h 0 x.1 refl, arms_nested part xs (λ i s e. h (suc i) s e))

  entered_nested : (part : ℕ → Tree) (xs : List ℕ) → ((i s : ℕ) → slice_get xs i ≡ Some s → IsNested list (part s)) → AreNested list (entered_arms part xs)
  entered_nested part [] h = tt
  entered_nested part (a ∷ xs) h = (h 0 a refl, entered_nested part xs (λ i s e. h (suc i) s e))

  source_nested : (n r first : ℕ) (xs : List (ℕ × ℕ)) → r < suc n → slice_get list r ≡ Some (region.Arms first xs) → PartsNested (tree_from n list) (region.Arms first xs) → IsNested list (with_arms (tree_from n list first) (arms_of (tree_from n list) xs))
  source_nested n r first xs low e rest =
      let part = tree_from n list in
      let source = w.source r first xs e in
      let less = w.later r 0 first (record { region = region.Arms first xs; stands = e; part = refl }) in
      let one = single_leaf n first source.0 (omega (arith, low, less)) source.1 in
      subst (λ t. IsNested list (with_arms t (arms_of part xs))) (sym one) (source.1, arms_nested part xs (λ i s at. rest (suc i) s at))

  -- a loop's body is no loop
  body_plain : (n r body head : ℕ) → body < n → slice_get list r ≡ Some (region.Loop body head) → (y : Region) → slice_get list body ≡ Some y → is_looping (tree_from n list body) ≡ false
  body_plain zero r body head low e y at = absurd (omega (arith, low))
  body_plain (suc n) r body head low e y at =
      ap (λ o. is_looping (node (tree_from n list) body o)) at ∙ by_region y at
    where
      by_region : (y : Region) → slice_get list body ≡ Some y → is_looping (node (tree_from n list) body (Some y)) ≡ false
      by_region (region.Leaf b) at = refl
      by_region (region.Then first second target) at = refl
      by_region (region.Loop inner h) at = absurd (w.one_loop r body head inner h e at)
      by_region (region.Dispatch arms) at = refl
      by_region (region.Arms first xs) at = no_loop (tree_from n list first) (arms_of (tree_from n list) xs)

  -- parts of a region stand before it, so they are no dispatch
  pub part_there : (r i s : ℕ) (x : Region) → slice_get list r ≡ Some x → slice_get (parts x) i ≡ Some s → (s < r) × ((y : Region) × (slice_get list s ≡ Some y))
  part_there r i s x e at =
      let less = w.later r i s (record { region = x; stands = e; part = at }) in
      let here = get_below list r x e in
      (less, get_some list s (omega (arith, less, here)))

  node_nested : (n r : ℕ) (x : Region) → r < suc n → slice_get list r ≡ Some x → ((xs : List ℕ) → x ≡ region.Dispatch xs → ⊥) → PartsNested (tree_from n list) x → IsNested list (node (tree_from n list) r (Some x))
  node_nested n r (region.Leaf k) low e other rest = (e, tt)
  node_nested n r (region.Then first second target) low e other rest = (rest 0 first refl, rest 1 second refl)
  node_nested n r (region.Loop body head) low e other rest =
      let there = part_there r 0 body (region.Loop body head) e refl in
      (body_plain n r body head (omega (arith, there.0, low)) e there.1.0 there.1.1, rest 0 body refl)
  node_nested n r (region.Dispatch xs) low e other rest = absurd (other xs refl)
  node_nested n r (region.Arms first xs) low e other rest = source_nested n r first xs low e rest

  pub before_root : (s r : ℕ) (x y : Region) → s < r → slice_get list r ≡ Some x → slice_get list s ≡ Some y → (xs : List ℕ) → y ≡ region.Dispatch xs → ⊥
  before_root s r x y less here there xs same =
      let root = w.dispatch s xs (there ∙ ap Some same) in
      let below = get_below list r x here in
      let last = w.last in
      omega (arith, root, below, last, less)

  tree_nested : (n r : ℕ) (x : Region) → r < n → slice_get list r ≡ Some x → ((xs : List ℕ) → x ≡ region.Dispatch xs → ⊥) → IsNested list (tree_from n list r)
  tree_nested zero r x low e other = absurd (omega (arith, low))
  tree_nested (suc n) r x low e other =
      subst (λ o. IsNested list (node (tree_from n list) r o)) (sym e) (node_nested n r x low e other (λ i s at. (let there = part_there r i s x e at in tree_nested n s there.1.0 (omega (arith, there.0, low)) there.1.1 (before_root s r x there.1.0 there.0 e there.1.1))))

  root_nested : IsRoot list (root_of list)
  root_nested =
      let last = w.last in
      let r = length list - 1 in
      let x = get_some list r (omega (arith, last)) in
      subst (λ o. IsRoot list (node (tree_from r list) r o)) (sym x.1) (by_region r x.0 x.1)
    where
      other : (x y : Region) → x ≡ y → ((xs : List ℕ) → y ≡ region.Dispatch xs → ⊥) → (xs : List ℕ) → x ≡ region.Dispatch xs → ⊥
      other x y same h xs e = h xs (sym same ∙ e)

      root_of_nested : (tree : Tree) → IsNested list tree → IsRoot list tree
      root_of_nested Missing h = h
      root_of_nested (Leaf place block arms) h = h
      root_of_nested (Then place first second target) h = h
      root_of_nested (Loop place body head) h = h
      root_of_nested (Dispatch place arms) h = absurd h

      rest : (r : ℕ) (x : Region) → slice_get list r ≡ Some x → PartsNested (tree_from r list) x
      rest r x e i s at =
          let there = part_there r i s x e at in
          tree_nested r s there.1.0 (omega (arith, there.0)) there.1.1 (before_root s r x there.1.0 there.0 e there.1.1)

      plain : (r : ℕ) (x : Region) → slice_get list r ≡ Some x → ((xs : List ℕ) → x ≡ region.Dispatch xs → ⊥) → IsRoot list (node (tree_from r list) r (Some x))
      plain r x e h = root_of_nested (node (tree_from r list) r (Some x)) (node_nested r r x (omega arith) e h (rest r x e))

      by_region : (r : ℕ) (x : Region) → slice_get list r ≡ Some x → IsRoot list (node (tree_from r list) r (Some x))
      by_region r (region.Leaf k) e = plain r (region.Leaf k) e (λ xs same. cc)
      by_region r (region.Then first second target) e = plain r (region.Then first second target) e (λ xs same. cc)
      by_region r (region.Loop body head) e = plain r (region.Loop body head) e (λ xs same. cc)
      by_region r (region.Dispatch xs) e = entered_nested (tree_from r list) xs (λ i s at. rest r (region.Dispatch xs) e i s at)
      by_region r (region.Arms first xs) e = plain r (region.Arms first xs) e (λ xs same. cc)

  -- ---- the whole tree

  pub root_depth : depth_of (root_of list) ≤ 2 + 2 * length (blocks_in list)
  root_depth = root_low list (root_of list) root_nested (λ s. root_once p list w s)
