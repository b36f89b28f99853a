-- How much the code of all regions takes: each region stands in the tree once, so the total is that of the list.
use Rattle.std.proofs.Common.{◌≡◌, ℕ, ◌+◌, ◌-◌, ◌<◌, ◌≤◌, List, [], ◌∷◌, length, map, Some, refl, sym, ap, ◌∙◌, arith, inl, inr}
use Rattle.std.specs.Prelude.{slice_get, nat_eq}
use Rattle.std.specs.List.{flat_map}
use Rattle.dxil_form.specs.declared.program.Program.{Program}
use Rattle.dxil_form.specs.declared.region.Region.{Region}
use Rattle.dxil_form.specs.declared.region.Region.TheVariants as region
use Rattle.dxil_form.specs.Branches.{declared_graph}
use Rattle.dxil_form.specs.Graphs.{Reached, Path}
use Rattle.dxil_form.specs.Sound.{Sound}
use Rattle.dxil_form.specs.Wired.{parts, Wired}
use Rattle.spirv_code.specs.Trees.{Tree, Missing, Leaf, Then, Loop, Dispatch, Arms, arms_of, entered_arms, with_arms, node, tree_at, root_of}
use Rattle.spirv_code.proofs.TreeLaws.{tree_node}
use Rattle.frame_facts.proofs.Searches.{get_below}
use Rattle.plan_ready.proofs.Among.{Among}
use Rattle.chosen_plan.proofs.Members.{among_get, flat_among}
use Rattle.module_sizes.specs.Sizes.{Measure, amount}
use Rattle.module_sizes.proofs.Totals.{total, total_flat, total_less, total_both, total_same, total_once, total_within, times, times_less, times_sum, times_both, Apart}
use Rattle.module_sizes.proofs.Apart.{numbers_tell}
use Rattle.module_sizes.proofs.Below.{below, below_next, among_below, below_places, apart_by, flat_apart}
use Rattle.module_sizes.proofs.Rows.{when_most, loop_most, dispatch_most, takes, arms_take}

-- ---- one region

-- the block of a leaf
abbrev pub leaf_of : Region → List ℕ
leaf_of (region.Leaf b) = b ∷ []
leaf_of (region.Then first second target) = []
leaf_of (region.Loop body head) = []
leaf_of (region.Dispatch arms) = []
leaf_of (region.Arms first arms) = []

abbrev is_dispatch : Region → ℕ
is_dispatch (region.Leaf b) = 0
is_dispatch (region.Then first second target) = 0
is_dispatch (region.Loop body head) = 0
is_dispatch (region.Dispatch arms) = 1
is_dispatch (region.Arms first arms) = 0

-- the blocks of all leaves
abbrev pub leaves : List Region → List ℕ
leaves list = flat_map leaf_of list

-- the name of a leaf, or the number of the block for which a region runs
abbrev pub further_most : Measure → Region → ℕ
further_most m (region.Leaf b) = amount m 4
further_most m (region.Then first second target) = amount m 3
further_most m (region.Loop body head) = amount m 3
further_most m (region.Dispatch arms) = 0
further_most m (region.Arms first arms) = 0

-- what a region takes besides its parts and its block
abbrev pub region_most : Measure → ℕ
region_most m = loop_most m + amount m 3

-- what the code of a region takes besides its parts
abbrev own_most : Measure → (ℕ → ℕ) → Region → ℕ
own_most m f (region.Leaf b) = f b
own_most m f (region.Then first second target) = 0
own_most m f (region.Loop body head) = loop_most m
own_most m f (region.Dispatch arms) = dispatch_most m
own_most m f (region.Arms first arms) = 0

module _ (m : Measure) (f : ℕ → ℕ) where
  name_fits : (m : Measure) → amount m 4 ≤ loop_most m + amount m 3
  name_fits Measure.Places = omega arith
  name_fits Measure.Words = omega arith

  own_split : (x : Region) → own_most m f x + further_most m x ≤ total f (leaf_of x) + (region_most m + times (is_dispatch x) (dispatch_most m))
  own_split (region.Leaf b) = let h = name_fits m in omega (arith, h)
  own_split (region.Then first second target) = omega arith
  own_split (region.Loop body head) = omega arith
  own_split (region.Dispatch arms) = omega arith
  own_split (region.Arms first arms) = omega arith

  -- ---- a tree by the trees of its parts

  -- as a part
  abbrev part_takes : (ℕ → Tree) → ℕ → ℕ
  part_takes part s = takes m f (part s) + when_most m

  arms_total : (part : ℕ → Tree) (arms : List (ℕ × ℕ)) → arms_take m f (arms_of part arms) ≡ total (part_takes part) (map (λ arm. arm.1) arms)
  arms_total part [] = refl
  arms_total part (arm ∷ arms) = ap (λ n. takes m f (part arm.1) + when_most m + n) (arms_total part arms)

  entered_total : (part : ℕ → Tree) (arms : List ℕ) → arms_take m f (entered_arms part arms) ≡ total (part_takes part) arms
  entered_total part [] = refl
  entered_total part (a ∷ arms) = ap (λ n. takes m f (part a) + when_most m + n) (entered_total part arms)

  with_fits : (tree : Tree) (arms : Arms) → takes m f (with_arms tree arms) ≤ takes m f tree + arms_take m f arms
  with_fits Missing arms = omega arith
  with_fits (Leaf r b old) arms = omega arith
  with_fits (Then r first second target) arms = omega arith
  with_fits (Loop r body head) arms = omega arith
  with_fits (Dispatch r old) arms = omega arith

  node_fits : (part : ℕ → Tree) (r : ℕ) (x : Region) → takes m f (node part r (Some x)) ≤ own_most m f x + total (part_takes part) (parts x)
  node_fits part r (region.Leaf b) = omega arith
  node_fits part r (region.Then first second target) = omega arith
  node_fits part r (region.Loop body head) = omega arith
  node_fits part r (region.Dispatch arms) = let all = entered_total part arms in omega (arith, all)
  node_fits part r (region.Arms first arms) =
      let whole = with_fits (part first) (arms_of part arms) in
      let all = arms_total part arms in
      omega (arith, whole, all)

  -- ---- the list

  module _ (p : Program) (list : List Region) (sound : Sound p) (wired : Wired p list) where
    abbrev at : ℕ → ℕ
    at s = part_takes (tree_at list) s

    at_fits : (r : ℕ) (x : Region) → slice_get list r ≡ Some x → at r ≤ own_most m f x + when_most m + total at (parts x)
    at_fits r x e =
        let node_is : takes m f (tree_at list r) ≡ takes m f (node (tree_at list) r (Some x)) = ap (takes m f) (tree_node list wired.later r) ∙ ap (λ o. takes m f (node (tree_at list) r o)) e in
        let fits = node_fits (tree_at list) r x in
        omega (arith, node_is, fits)

    parts_apart : Apart (flat_map parts list)
    parts_apart =
        flat_apart parts list (λ i x e. apart_by (parts x) (λ j k s f g. (wired.once i i j k s (record { region = x; stands = e; part = f }) (record { region = x; stands = e; part = g })).1)) (λ i j x y s e f h k. (let a = among_get s (parts x) h in let b = among_get s (parts y) k in (wired.once i j a.0 b.0 s (record { region = x; stands = e; part = a.1 }) (record { region = y; stands = f; part = b.1 })).0))

    -- a part is no root
    part_low : (s : ℕ) → Among s (flat_map parts list) → s < wired.root
    part_low s among =
        let made = flat_among parts list s among in
        let r = among_get made.x list made.among in
        let i = among_get s (parts made.x) made.made in
        let early = wired.later r.0 i.0 s (record { region = made.x; stands = r.1; part = i.1 }) in
        let low = get_below list r.0 made.x r.1 in
        omega (arith, early, low, wired.last)

    one_dispatch : total is_dispatch list ≤ 1
    one_dispatch =
        total_once is_dispatch list one (λ r s x y e f h k. is_root r x e h ∙ sym (is_root s y f k))
      where
        one : (x : Region) → is_dispatch x ≤ 1
        one (region.Leaf b) = omega arith
        one (region.Then first second target) = omega arith
        one (region.Loop body head) = omega arith
        one (region.Dispatch arms) = omega arith
        one (region.Arms first arms) = omega arith

        is_root : (r : ℕ) (x : Region) → slice_get list r ≡ Some x → 1 ≤ is_dispatch x → r ≡ wired.root
        is_root r (region.Leaf b) e h = absurd (omega (arith, h))
        is_root r (region.Then first second target) e h = absurd (omega (arith, h))
        is_root r (region.Loop body head) e h = absurd (omega (arith, h))
        is_root r (region.Dispatch arms) e h = wired.dispatch r arms e
        is_root r (region.Arms first arms) e h = absurd (omega (arith, h))

    dispatches : (xs : List Region) → total (λ x. times (is_dispatch x) (dispatch_most m)) xs ≡ times (total is_dispatch xs) (dispatch_most m)
    dispatches [] = refl
    dispatches (x ∷ xs) =
        ap (λ n. times (is_dispatch x) (dispatch_most m) + n) (dispatches xs) ∙ sym (times_sum (is_dispatch x) (total is_dispatch xs) (dispatch_most m))

    -- all that regions take by themselves
    owns_fit : total (own_most m f) list + total (further_most m) list ≤ total f (leaves list) + (times (length list) (region_most m) + dispatch_most m)
    owns_fit =
        let sum = total_both (own_most m f) (further_most m) list in
        let less = total_less (λ x. own_most m f x + further_most m x) (λ x. total f (leaf_of x) + (region_most m + times (is_dispatch x) (dispatch_most m))) list (λ x among. own_split x) in
        let split = total_both (λ x. total f (leaf_of x)) (λ x. region_most m + times (is_dispatch x) (dispatch_most m)) list in
        let inner = total_both (λ x. region_most m) (λ x. times (is_dispatch x) (dispatch_most m)) list in
        let blocks = total_flat f leaf_of list in
        let same = total_same (region_most m) list in
        let one = dispatches list in
        let few = times_less (total is_dispatch list) 1 (dispatch_most m) one_dispatch in
        omega (arith, sum, less, split, inner, blocks, same, one, few)

    -- the tree of the root
    pub root_fits : takes m f (root_of list) + total (further_most m) list ≤ total f (leaves list) + (times (length list) (region_most m + when_most m) + dispatch_most m)
    root_fits =
        let all = below_places at (λ x. own_most m f x + when_most m + total at (parts x)) list at_fits in
        let split = total_both (λ x. own_most m f x + when_most m) (λ x. total at (parts x)) list in
        let inner = total_both (own_most m f) (λ x. when_most m) list in
        let around = total_same (when_most m) list in
        let flat = total_flat at parts list in
        let within = total_within nat_eq numbers_tell (below wired.root) (flat_map parts list) at parts_apart (λ s among. inr (among_below wired.root s (part_low s among))) in
        let count : total at (below (length list)) ≡ at wired.root + total at (below wired.root) = ap (λ n. total at (below n)) wired.last ∙ below_next at wired.root in
        let last : length list - 1 ≡ wired.root = omega (arith, wired.last) in
        let root : takes m f (root_of list) ≡ takes m f (tree_at list wired.root) = ap (λ r. takes m f (tree_at list r)) last in
        let own = owns_fit in
        let both = times_both (length list) (region_most m) (when_most m) in
        omega (arith, all, split, inner, around, flat, within, count, root, own, both)

-- ---- leaves

module _ (p : Program) (list : List Region) (sound : Sound p) (wired : Wired p list) where
  reached_low : (b : ℕ) → Reached (declared_graph p) b → b < length p.blocks
  reached_low b (before, path) = by_path before path
    where
      by_path : (before : List ℕ) → Path (declared_graph p) 0 before b → b < length p.blocks
      by_path [] e = omega (arith, e, sound.begins)
      by_path (c ∷ before) h = (sound.targets c b h.0).1

  leaf_at : (x : Region) (b : ℕ) → Among b (leaf_of x) → x ≡ region.Leaf b
  leaf_at (region.Leaf c) b (inl e) = ap region.Leaf (sym e)
  leaf_at (region.Leaf c) b (inr none) = absurd none
  leaf_at (region.Then first second target) b h = absurd h
  leaf_at (region.Loop body head) b h = absurd h
  leaf_at (region.Dispatch arms) b h = absurd h
  leaf_at (region.Arms first arms) b h = absurd h

  leaf_apart : (x : Region) → Apart (leaf_of x)
  leaf_apart (region.Leaf b) = (λ h. h, tt)
  leaf_apart (region.Then first second target) = tt
  leaf_apart (region.Loop body head) = tt
  leaf_apart (region.Dispatch arms) = tt
  leaf_apart (region.Arms first arms) = tt

  leaves_apart : Apart (leaves list)
  leaves_apart =
      flat_apart leaf_of list (λ i x e. leaf_apart x) (λ i j x y b e f h k. wired.leaf_once i j b (e ∙ ap Some (leaf_at x b h)) (f ∙ ap Some (leaf_at y b k)))

  -- the block of a leaf is one of the program
  pub leaf_low : (b : ℕ) → Among b (leaves list) → b < length p.blocks
  leaf_low b among =
      let made = flat_among leaf_of list b among in
      let r = among_get made.x list made.among in
      reached_low b (wired.reached r.0 b (r.1 ∙ ap Some (leaf_at made.x b made.made)))

  -- no block is the leaf of two regions
  pub leaves_within : (g : ℕ → ℕ) → total g (leaves list) ≤ total g (below (length p.blocks))
  leaves_within g =
      total_within nat_eq numbers_tell (below (length p.blocks)) (leaves list) g leaves_apart (λ b among. inr (among_below (length p.blocks) b (leaf_low b among)))
