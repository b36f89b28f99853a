-- The regions of the tree of a wired list, by their places: each stands in it once at most.
use Rattle.std.proofs.Common.{◌≡◌, ℕ, zero, suc, ◌+◌, ◌-◌, ◌<◌, ◌≤◌, true, List, [], ◌∷◌, length, Option, Some, None, refl, sym, ap, ◌∙◌, subst, arith}
use Rattle.std.proofs.lemmas.List.Sums.{sum_by-cons}
use Rattle.std.specs.Prelude.{slice_get, map}
use Rattle.std.specs.List.{sum_by}
use Rattle.dxil_form.specs.declared.block.Block.{Block}
use Rattle.dxil_form.specs.declared.block.Term.TheVariants.{Unreachable}
use Rattle.dxil_form.specs.declared.program.Program.{Program}
use Rattle.dxil_form.specs.declared.region.Region.{Region}
use Rattle.dxil_form.specs.declared.region.Region.TheVariants as region
use Rattle.dxil_form.specs.Wired.{parts, Wired}
use Rattle.spirv_code.specs.Plans.{Plan, context_of}
use Rattle.spirv_code.specs.Trees.{Tree, Missing, Leaf, Then, Loop, Dispatch, Arms, No_arm, Arm, arms_of, entered_arms, with_arms, node, tree_from, root_of}
use Rattle.spirv_code.specs.Rows.{block_at}
use Rattle.frame_facts.proofs.Searches.{get_below, eq_same}
use Rattle.frame_facts.proofs.Counting.{bit, single, times, times_arms}
use Rattle.frame_facts.proofs.Wiring.{root_once}
use Rattle.module_nesting.proofs.Counted.{total, total_low, total_two, total_at, total_shift, get_some, single_leaf, part_there}
use Rattle.module_counts.specs.Counts.{switches_of, switches_in, switches_at}
use Rattle.module_counts.proofs.Rows.{repeat, repeat_low, tops, arm_ops}
use Rattle.module_counts.proofs.Lines.{is_other}

-- ---- the tree's regions are those of the list

module _ (list : List Region) where
  abbrev mutual
    pub Placed : Tree → Type 0
    Placed Missing = ⊥
    Placed (Leaf place block arms) = (slice_get list place ≡ Some (region.Leaf block)) × ArePlaced arms
    Placed (Then place first second target) =
        ((one : ℕ) × (two : ℕ) × (slice_get list place ≡ Some (region.Then one two target))) × Placed first × Placed second
    Placed (Loop place body head) = ((inner : ℕ) × (slice_get list place ≡ Some (region.Loop inner head))) × Placed body
    Placed (Dispatch place arms) = ((xs : List ℕ) × (slice_get list place ≡ Some (region.Dispatch xs))) × ArePlaced arms

    pub ArePlaced : Arms → Type 0
    ArePlaced No_arm = Unit {0}
    ArePlaced (Arm target tree arms) = Placed tree × ArePlaced arms

module _ (p : Program) (list : List Region) (w : Wired p list) where
  abbrev PartsPlaced : (ℕ → Tree) → Region → Type 0
  PartsPlaced part x = (i s : ℕ) → slice_get (parts x) i ≡ Some s → Placed list (part s)

  arms_placed : (part : ℕ → Tree) (xs : List (ℕ × ℕ)) → ((i s : ℕ) → slice_get (map (λ arm. arm.1) xs) i ≡ Some s → Placed list (part s)) → ArePlaced list (arms_of part xs)
  arms_placed part [] h = tt
  arms_placed part (x ∷ xs) h = (h 0 x.1 refl, arms_placed part xs (λ i s e. h (suc i) s e))

  entered_placed : (part : ℕ → Tree) (xs : List ℕ) → ((i s : ℕ) → slice_get xs i ≡ Some s → Placed list (part s)) → ArePlaced list (entered_arms part xs)
  entered_placed part [] h = tt
  entered_placed part (a ∷ xs) h = (h 0 a refl, entered_placed part xs (λ i s e. h (suc i) s e))

  node_placed : (n r : ℕ) (x : Region) → r < suc n → slice_get list r ≡ Some x → PartsPlaced (tree_from n list) x → Placed list (node (tree_from n list) r (Some x))
  node_placed n r (region.Leaf k) low e rest = (e, tt)
  node_placed n r (region.Then first second target) low e rest =
      ((first, second, e), rest 0 first refl, rest 1 second refl)
  node_placed n r (region.Loop body head) low e rest = ((body, e), rest 0 body refl)
  node_placed n r (region.Dispatch xs) low e rest = ((xs, e), entered_placed (tree_from n list) xs rest)
  node_placed n r (region.Arms first xs) low e rest =
      let part = tree_from n list in
      let source = w.source r first xs e in
      let less = w.later r 0 first (record { region = region.Arms first xs; stands = e; part = refl }) in
      let one = single_leaf p list w n first source.0 (omega (arith, low, less)) source.1 in
      subst (λ t. Placed list (with_arms t (arms_of part xs))) (sym one) (source.1, arms_placed part xs (λ i s at. rest (suc i) s at))

  tree_placed : (n r : ℕ) (x : Region) → r < n → slice_get list r ≡ Some x → Placed list (tree_from n list r)
  tree_placed zero r x low e = absurd (omega (arith, low))
  tree_placed (suc n) r x low e =
      subst (λ o. Placed list (node (tree_from n list) r o)) (sym e) (node_placed n r x low e (λ i s at. (let there = part_there p list w r i s x e at in tree_placed n s there.1.0 (omega (arith, there.0, low)) there.1.1)))

  pub root_placed : Placed list (root_of list)
  root_placed =
      let last = w.last in
      let x = get_some list (length list - 1) (omega (arith, last)) in
      tree_placed (suc (length list - 1)) (length list - 1) x.0 (omega arith) x.1

-- ---- numbers of regions

repeat_two : (l m n k : ℕ) → l + m ≤ n → repeat l k + repeat m k ≤ repeat n k
repeat_two zero m n k h = repeat_more m n k (omega (arith, h))
  where
    repeat_more : (m n k : ℕ) → m ≤ n → 0 + repeat m k ≤ repeat n k
    repeat_more m n k h =
        let low = repeat_low m n k h in
        omega (arith, low)
repeat_two (suc l) m zero k h = absurd (omega (arith, h))
repeat_two (suc l) m (suc n) k h =
    let rest = repeat_two l m n k (omega (arith, h)) in
    omega (arith, rest)

abbrev block_or : Option Block → Block
block_or None = record { phis = []; instrs = []; term = Unreachable }
block_or (Some block) = block

pub switches_same : (o : Option Block) → switches_of (block_or o).term ≡ switches_in o
switches_same None = refl
switches_same (Some block) = refl

module _ (f : ℕ → ℕ) (quiet : (n : ℕ) → is_other n ≡ true → f n ≡ 0) (p : Program) (list : List Region) (plan : Plan) where
  -- what a region counts for
  abbrev pub value : Region → ℕ
  value (region.Leaf b) = repeat (switches_at p b) (f 251)
  value (region.Then first second target) = 0
  value (region.Loop body head) = f 246
  value (region.Dispatch arms) = f 246 + f 251
  value (region.Arms first arms) = 0

  abbrev pub value_in : Option Region → ℕ
  value_in None = 0
  value_in (Some x) = value x

  -- over all places, as often as it stands there
  abbrev pub weight : (ℕ → ℕ) → ℕ
  weight g = total (λ s. repeat (g s) (value_in (slice_get list s))) (length list)

  weight_two : (g h k : ℕ → ℕ) → ((s : ℕ) → g s + h s ≤ k s) → weight g + weight h ≤ weight k
  weight_two g h k le =
      total_two (λ s. repeat (g s) (value_in (slice_get list s))) (λ s. repeat (h s) (value_in (slice_get list s))) (λ s. repeat (k s) (value_in (slice_get list s))) (length list) (λ s. repeat_two (g s) (h s) (k s) (value_in (slice_get list s)) (le s))

  weight_low : (g h : ℕ → ℕ) → ((s : ℕ) → g s ≤ h s) → weight g ≤ weight h
  weight_low g h le =
      total_low (λ s. repeat (g s) (value_in (slice_get list s))) (λ s. repeat (h s) (value_in (slice_get list s))) (length list) (λ s. repeat_low (g s) (h s) (value_in (slice_get list s)) (le s))

  weight_at : (place : ℕ) (x : Region) → slice_get list place ≡ Some x → value x ≤ weight (single place)
  weight_at place x at =
      let here = total_at (λ s. repeat (single place s) (value_in (slice_get list s))) (length list) place (get_below list place x at) in
      let is : repeat (single place place) (value_in (slice_get list place)) ≡ repeat 1 (value x) = ap (λ o. repeat (single place place) (value_in o)) at ∙ ap (λ b. repeat (bit b) (value x)) (eq_same place) in
      omega (arith, here, is)

  mutual
    tops_low : (tree : Tree) → Placed list tree → tops f quiet (context_of p plan) tree ≤ weight (λ s. times s tree)
    tops_low Missing h = absurd h
    tops_low (Leaf place block arms) h =
        let one = weight_at place (region.Leaf block) h.0 in
        let rest = arms_low arms h.1 in
        let both = weight_two (single place) (λ s. times_arms s arms) (λ s. times s (Leaf place block arms)) (λ s. omega arith) in
        let same : repeat (switches_of (block_at (context_of p plan) block).term) (f 251) ≡ repeat (switches_at p block) (f 251) = ap (λ n. repeat n (f 251)) (switches_same (slice_get p.blocks block)) in
        omega (arith, one, rest, both, same)
    tops_low (Then place first second target) h =
        let one = tops_low first h.1 in
        let two = tops_low second h.2 in
        let both = weight_two (λ s. times s first) (λ s. times s second) (λ s. times s (Then place first second target)) (λ s. omega arith) in
        omega (arith, one, two, both)
    tops_low (Loop place body head) h =
        let one = weight_at place (region.Loop h.0.0 head) h.0.1 in
        let rest = tops_low body h.1 in
        let both = weight_two (single place) (λ s. times s body) (λ s. times s (Loop place body head)) (λ s. omega arith) in
        omega (arith, one, rest, both)
    tops_low (Dispatch place arms) h =
        let one = weight_at place (region.Dispatch h.0.0) h.0.1 in
        let rest = arms_low arms h.1 in
        let both = weight_two (single place) (λ s. times_arms s arms) (λ s. times s (Dispatch place arms)) (λ s. omega arith) in
        omega (arith, one, rest, both)

    arms_low : (arms : Arms) → ArePlaced list arms → arm_ops f quiet (context_of p plan) arms ≤ weight (λ s. times_arms s arms)
    arms_low No_arm h = omega arith
    arms_low (Arm target tree arms) h =
        let one = tops_low tree h.0 in
        let rest = arms_low arms h.1 in
        let both = weight_two (λ s. times s tree) (λ s. times_arms s arms) (λ s. times_arms s (Arm target tree arms)) (λ s. omega arith) in
        omega (arith, one, rest, both)

  pub all_values : (xs : List Region) → total (λ s. repeat 1 (value_in (slice_get xs s))) (length xs) ≡ sum_by value xs
  all_values [] = refl
  all_values (x ∷ xs) =
      let shift = total_shift (λ s. repeat 1 (value_in (slice_get (x ∷ xs) s))) (length xs) in
      let rest = all_values xs in
      let sum = sum_by-cons value x xs in
      omega (arith, shift, rest, sum)

  -- the tree counts for no more than the list
  pub root_value : Wired p list → tops f quiet (context_of p plan) (root_of list) ≤ sum_by value list
  root_value w =
      let low = tops_low (root_of list) (root_placed p list w) in
      let once = weight_low (λ s. times s (root_of list)) (λ s. 1) (λ s. root_once p list w s) in
      let all = all_values list in
      omega (arith, low, once, all)
