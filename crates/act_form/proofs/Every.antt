-- Each block that is reached stands in the order: from the root down, the order of a region has that of each of its parts.
use Rattle.std.proofs.Common.{◌≡◌, ◌⊎◌, inl, inr, ⊎_elim, ℕ, zero, suc, ◌+◌, ◌-◌, ◌≤◌, ◌<◌, Bool, true, false, List, [], ◌∷◌, ◌++◌, length, Some, refl, sym, ap, ◌∙◌, subst, arith}
use Rattle.std.specs.Prelude.{slice_get, map, nat_eq, Contains, ◌||◌}
use Rattle.dxil_form.specs.declared.region.Region.{Region}
use Rattle.dxil_form.specs.declared.region.Region.TheVariants as region
use Rattle.dxil_form.specs.declared.block.Block.{Block}
use Rattle.dxil_form.specs.declared.block.Term.{Term}
use Rattle.dxil_form.specs.Branches.{has, targets, branches, declared_graph}
use Rattle.dxil_form.specs.Graphs.{In, Reached}
use Rattle.dxil_form.specs.Sound.{cases_in}
use Rattle.dxil_form.specs.Wired.{parts}
use Rattle.spirv_code.specs.declared.way.Way.{Way}
use Rattle.spirv_code.specs.declared.way.Way.TheVariants.{Ends, Goes, Chooses, Splits}
use Rattle.spirv_code.specs.Plans.{Context}
use Rattle.spirv_code.specs.Leaves.{next_blocks, way_of}
use Rattle.spirv_code.specs.Trees.{Tree, arms_of, entered_arms, tree_at, root_of}
use Rattle.spirv_code.specs.Rows.{block_at}
use Rattle.line_runs.proofs.Tests.{none_some, some_inj, true_false, nat_eq-eq, nat_eq-refl, if_true, if_false}
use Rattle.frame_facts.proofs.Declares.{get_some}
use Rattle.region_runs.proofs.Ways.{Scene}
use Rattle.region_runs.proofs.Entries.{Is, tree, leaf_tree, then_tree, loop_tree, dispatch_tree, arms_tree, within_root, arm_part, reached_below}
use Rattle.region_runs.proofs.Ancestors.{one_part}
use Rattle.region_runs.proofs.Targets.{has_different, ends_alone, goes_alone, branch_target}
use Rattle.formed_rows.proofs.Rows.{block_or}
use Rattle.act_form.proofs.Orders.{exit_order, order, one_order, arms_order}

-- ---- lists

in_front : (x : ℕ) (a b : List ℕ) → In x a → In x (a ++ b)
in_front x [] b h = absurd h
in_front x (y ∷ a) b h = ⊎_elim (λ e. inl e) (λ h. inr (in_front x a b h)) h

in_back : (x : ℕ) (a b : List ℕ) → In x b → In x (a ++ b)
in_back x [] b h = h
in_back x (y ∷ a) b h = inr (in_back x a b h)

pub in_place : (x : ℕ) (xs : List ℕ) → In x xs → (k : ℕ) × (slice_get xs k ≡ Some x)
in_place x [] h = absurd h
in_place x (y ∷ xs) h =
    ⊎_elim (λ e. (0, ap Some (sym e))) (λ h. (let rest = in_place x xs h in (suc rest.0, rest.1))) h

contains_at : {A : Type 0} (xs : List A) (i : ℕ) (x : A) → slice_get xs i ≡ Some x → Contains xs x
contains_at [] i x at = absurd (none_some at)
contains_at (y ∷ xs) zero x at = (0, omega arith, some_inj at)
contains_at (y ∷ xs) (suc i) x at =
    let (j, less, same) = contains_at xs i x at in
    (suc j, omega (arith, less), same)

-- ---- arms

-- the arm at a place, with the block for which it runs
arm_at : (xs : List (ℕ × ℕ)) (i a : ℕ) → slice_get (map (λ arm. arm.1) xs) i ≡ Some a → (k : ℕ) × (slice_get xs i ≡ Some (k, a))
arm_at [] i a at = absurd (none_some at)
arm_at (x ∷ xs) zero a at = (x.0, ap (λ n. Some (x.0, n)) (some_inj at))
arm_at (x ∷ xs) (suc i) a at = arm_at xs i a at

entered_in : (c : Context) (part : ℕ → Tree) (arms : List ℕ) (i a b : ℕ) → slice_get arms i ≡ Some a → In b (order c (part a)) → In b (arms_order c (entered_arms part arms))
entered_in c part [] i a b at h = absurd (none_some at)
entered_in c part (x ∷ arms) zero a b at h =
    in_front b (order c (part x)) _ (subst (λ n. In b (order c (part n))) (sym (some_inj at)) h)
entered_in c part (x ∷ arms) (suc i) a b at h = in_back b (order c (part x)) _ (entered_in c part arms i a b at h)

arms_in : (c : Context) (part : ℕ → Tree) (xs : List (ℕ × ℕ)) (i a b : ℕ) → slice_get (map (λ arm. arm.1) xs) i ≡ Some a → In b (order c (part a)) → In b (arms_order c (arms_of part xs))
arms_in c part [] i a b at h = absurd (none_some at)
arms_in c part (x ∷ xs) zero a b at h =
    in_front b (order c (part x.1)) _ (subst (λ n. In b (order c (part n))) (sym (some_inj at)) h)
arms_in c part (x ∷ xs) (suc i) a b at h = in_back b (order c (part x.1)) _ (arms_in c part xs i a b at h)

-- the arm that stands for one block
record Taken (c : Context) (part : ℕ → Tree) (xs : List (ℕ × ℕ)) (k : ℕ) : Type 0 where
  place : ℕ
  arm : ℕ
  at : slice_get xs place ≡ Some (k, arm)
  is : one_order c k (arms_of part xs) ≡ order c (part arm)

taken : (c : Context) (part : ℕ → Tree) (xs : List (ℕ × ℕ)) (k i a : ℕ) → slice_get xs i ≡ Some (k, a) → Taken c part xs k
taken c part [] k i a at = absurd (none_some at)
taken c part (x ∷ xs) k i a at = by_test (nat_eq k x.0) refl i at (λ j f. taken c part xs k j a f)
  where
    by_test : (t : Bool) → nat_eq k x.0 ≡ t → (i : ℕ) → slice_get (x ∷ xs) i ≡ Some (k, a) → ((j : ℕ) → slice_get xs j ≡ Some (k, a) → Taken c part xs k) → Taken c part (x ∷ xs) k
    by_test true t i at rest =
        let same : x.0 ≡ k = sym (nat_eq-eq k x.0 t) in
        record { place = 0; arm = x.1; at = ap (λ n. Some (n, x.1)) same; is = if_true (nat_eq k x.0) t _ _ }
    by_test false t zero at rest =
        let same : x.0 ≡ k = ap (λ (y : ℕ × ℕ). y.0) (some_inj at) in
        absurd (true_false (sym (nat_eq-refl k) ∙ ap (nat_eq k) (sym same) ∙ t))
    by_test false t (suc j) at rest =
        let r = rest j at in
        record { place = suc r.place; arm = r.arm; at = r.at; is = if_false (nat_eq k x.0) t _ _ ∙ r.is }

-- ---- the blocks that a block goes to

one_of : (k j : ℕ) → has k (j ∷ []) ≡ true → k ≡ j
one_of k j h = by_test (nat_eq k j) refl h
  where
    by_test : (t : Bool) → nat_eq k j ≡ t → (t || false) ≡ true → k ≡ j
    by_test true e h = nat_eq-eq k j e
    by_test false e h = absurd (true_false (sym h))

no_arms : (way : Way) → exit_order way (λ k. []) [] ≡ []
no_arms Ends = refl
no_arms (Goes k) = refl
no_arms Chooses = refl
no_arms Splits = refl

module _ (e : Scene) where
  abbrev c : Context
  c = e.s.context

  targets_have : (b k : ℕ) → Reached (declared_graph e.s.program) b → branches e.s.program b k ≡ true → has k (next_blocks (block_at c b).term) ≡ true
  targets_have b k reached goes =
      let block = get_some e.s.program.blocks b (reached_below e b reached) in
      let here : slice_get c.blocks b ≡ Some block.0 = ap (λ bs. slice_get bs b) e.has.blocks ∙ block.1 in
      let same : block_at c b ≡ block.0 = ap block_or here in
      let term : Term = (block_at c b).term in
      has_different k (targets term) ∙ ap (λ (x : Block). has k (targets x.term)) same ∙ sym (branch_target e.s.program b k block.0 block.1) ∙ goes

  -- an arm of a leaf stands in the order behind the leaf's block
  exit_in : (q first b : ℕ) (xs : List (ℕ × ℕ)) (i k a x : ℕ) → Is e q (region.Arms first xs) → slice_get xs i ≡ Some (k, a) → slice_get (map (λ arm. arm.1) xs) i ≡ Some a → has k (next_blocks (block_at c b).term) ≡ true → In x (order c (tree e a)) → (way : Way) → way_of (block_at c b).term ≡ way → In x (exit_order way (λ j. one_order c j (arms_of (tree_at e.list) xs)) (arms_order c (arms_of (tree_at e.list) xs)))
  exit_in q first b xs i k a x is at at_part goes h Ends way =
      let none = ends_alone (next_blocks (block_at c b).term) (cases_in (block_at c b).term) way in
      absurd (true_false (sym goes ∙ ap (has k) none))
  exit_in q first b xs i k a x is at at_part goes h (Goes j) way =
      let alone = goes_alone (next_blocks (block_at c b).term) (cases_in (block_at c b).term) j way in
      let same : k ≡ j = one_of k j (sym (ap (has k) alone) ∙ goes) in
      let t = taken c (tree_at e.list) xs k i a at in
      let mine = contains_at xs i (k, a) at in
      let other = contains_at xs t.place (k, t.arm) t.at in
      let p = arm_part e q first k a xs is mine in
      let r = arm_part e q first k t.arm xs is other in
      let one : a ≡ t.arm = one_part e q a p.0 t.arm r.0 k p.1 r.1 (e.wired.arm q first k a xs is mine) (e.wired.arm q first k t.arm xs is other) in
      subst (λ n. In x (one_order c n (arms_of (tree_at e.list) xs))) same (subst (In x) (sym t.is) (subst (λ n. In x (order c (tree e n))) one h))
  exit_in q first b xs i k a x is at at_part goes h Chooses way = arms_in c (tree_at e.list) xs i a x at_part h
  exit_in q first b xs i k a x is at at_part goes h Splits way = arms_in c (tree_at e.list) xs i a x at_part h

  -- ---- from the root down

  abbrev Within : ℕ → Type 0
  Within r = (x : ℕ) → In x (order c (tree e r)) → In x (order c (root_of e.list))

  moved : (x r s : ℕ) → Some r ≡ Some s → In x (order c (tree e s)) → In x (order c (tree e r))
  moved x r s same h = subst (λ n. In x (order c (tree e n))) (sym (some_inj same)) h

  part_within : (q i r : ℕ) (y : Region) → Is e q y → slice_get (parts y) i ≡ Some r → Within q → Within r
  part_within q i r (region.Leaf b) is at within x h = absurd (none_some at)
  part_within q zero r (region.Then first second target) is at within x h =
      within x (subst (λ t. In x (order c t)) (sym (then_tree e q first second target is)) (in_front x (order c (tree e first)) (order c (tree e second)) (moved x first r at h)))
  part_within q (suc zero) r (region.Then first second target) is at within x h =
      within x (subst (λ t. In x (order c t)) (sym (then_tree e q first second target is)) (in_back x (order c (tree e first)) (order c (tree e second)) (moved x second r at h)))
  part_within q (suc (suc i)) r (region.Then first second target) is at within x h = absurd (none_some at)
  part_within q zero r (region.Loop body head) is at within x h =
      within x (subst (λ t. In x (order c t)) (sym (loop_tree e q body head is)) (moved x body r at h))
  part_within q (suc i) r (region.Loop body head) is at within x h = absurd (none_some at)
  part_within q i r (region.Dispatch arms) is at within x h =
      within x (subst (λ t. In x (order c t)) (sym (dispatch_tree e q arms is)) (entered_in c (tree_at e.list) arms i r x at h))
  part_within q zero r (region.Arms first xs) is at within x h =
      let source = e.wired.source q first xs is in
      let alone : In x (source.0 ∷ exit_order (way_of (block_at c source.0).term) (λ k. []) []) = subst (λ t. In x (order c t)) (leaf_tree e first source.0 source.1) (moved x first r at h) in
      within x (subst (λ t. In x (order c t)) (sym (arms_tree e q first source.0 xs is source.1)) (⊎_elim (λ same. inl same) (λ more. absurd (subst (In x) (no_arms (way_of (block_at c source.0).term)) more)) alone))
  part_within q (suc i) r (region.Arms first xs) is at within x h =
      let source = e.wired.source q first xs is in
      let arm = arm_at xs i r at in
      let goes = source.2 arm.0 r (contains_at xs i (arm.0, r) arm.1) in
      let there = targets_have source.0 arm.0 (e.wired.reached first source.0 source.1) goes in
      within x (subst (λ t. In x (order c t)) (sym (arms_tree e q first source.0 xs is source.1)) (inr (exit_in q first source.0 xs i arm.0 r x is arm.1 at there h (way_of (block_at c source.0).term) refl)))

  root_within : Within e.wired.root
  root_within x h =
      let last = e.wired.last in
      let same : e.wired.root ≡ length e.list - 1 = omega (arith, last) in
      subst (λ n. In x (order c (tree e n))) same h

  less_or : (a b : ℕ) → a ≤ b → (a < b) ⊎ (b ≡ a)
  less_or a b le = grind arith

  within : (n r : ℕ) → e.wired.root < r + n → r ≤ e.wired.root → Within r
  within zero r far low = absurd (omega (arith, far, low))
  within (suc n) r far low =
      ⊎_elim (λ less. below less (λ q after_r in_root. within n q (omega (arith, far, after_r)) in_root)) (λ same. subst Within same root_within) (less_or r e.wired.root low)
    where
      below : r < e.wired.root → ((q : ℕ) → r < q → q ≤ e.wired.root → Within q) → Within r
      below less all =
          let named = e.wired.named r less in
          let q : ℕ = named.0 in
          let p = named.2 in
          part_within q named.1 r p.region p.stands p.part (all q (e.wired.later q named.1 r p) (within_root e q p.region p.stands))

  pub every : (b : ℕ) → Reached (declared_graph e.s.program) b → In b (order c (root_of e.list))
  every b reached =
      let leaf = e.wired.leaf b reached in
      within (suc e.wired.root) leaf.0 (omega arith) (within_root e leaf.0 (region.Leaf b) leaf.1) b (subst (λ t. In b (order c t)) (sym (leaf_tree e leaf.0 b leaf.1)) (inl refl))
