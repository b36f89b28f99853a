-- The order in which the blocks of a tree of regions stand in its code.
use Rattle.std.proofs.Common.{◌≡◌, ℕ, zero, suc, ◌+◌, ◌-◌, ◌≤◌, Bool, true, false, List, [], ◌∷◌, ◌++◌, length, Option, Some, None, refl, ap, ◌∙◌, subst, arith}
use Rattle.std.specs.Prelude.{slice_get, nat_eq, if◌then◌else◌}
use Rattle.dxil_form.specs.declared.region.Region.{Region}
use Rattle.dxil_form.specs.declared.region.Region.TheVariants as region
use Rattle.spirv_code.specs.declared.way.Way.{Way}
use Rattle.spirv_code.specs.declared.way.Way.TheVariants.{Ends, Goes, Chooses, Splits}
use Rattle.spirv_code.specs.Plans.{Context}
use Rattle.spirv_code.specs.Leaves.{way_of}
use Rattle.spirv_code.specs.Trees.{Tree, Missing, Leaf, Then, Loop, Dispatch, Arms, No_arm, Arm, arms_of, entered_arms, with_arms, node, tree_from, root_of}
use Rattle.spirv_code.specs.Rows.{block_at}
use Rattle.line_runs.proofs.Tests.{nat_eq-eq, nat_eq-refl}
use Rattle.frame_facts.proofs.Searches.{inj}
use Rattle.frame_facts.proofs.Counting.{bit, single, times, times_arms}

-- ---- leaves

abbrev mutual
  -- each leaf of a tree, by its place and its block
  pub Leaves : (ℕ → ℕ → Type 0) → Tree → Type 0
  Leaves P Missing = Unit {0}
  Leaves P (Leaf r b arms) = P r b × ArmLeaves P arms
  Leaves P (Then r first second target) = Leaves P first × Leaves P second
  Leaves P (Loop r body head) = Leaves P body
  Leaves P (Dispatch r arms) = ArmLeaves P arms

  pub ArmLeaves : (ℕ → ℕ → Type 0) → Arms → Type 0
  ArmLeaves P No_arm = Unit {0}
  ArmLeaves P (Arm target tree arms) = Leaves P tree × ArmLeaves P arms

mutual
  pub leaves_weaker : (P Q : ℕ → ℕ → Type 0) → ((r b : ℕ) → P r b → Q r b) → (tree : Tree) → Leaves P tree → Leaves Q tree
  leaves_weaker P Q f Missing h = tt
  leaves_weaker P Q f (Leaf r b arms) h = (f r b h.0, arms_weaker P Q f arms h.1)
  leaves_weaker P Q f (Then r first second target) h = (leaves_weaker P Q f first h.0, leaves_weaker P Q f second h.1)
  leaves_weaker P Q f (Loop r body head) h = leaves_weaker P Q f body h
  leaves_weaker P Q f (Dispatch r arms) h = arms_weaker P Q f arms h

  arms_weaker : (P Q : ℕ → ℕ → Type 0) → ((r b : ℕ) → P r b → Q r b) → (arms : Arms) → ArmLeaves P arms → ArmLeaves Q arms
  arms_weaker P Q f No_arm h = tt
  arms_weaker P Q f (Arm target tree arms) h = (leaves_weaker P Q f tree h.0, arms_weaker P Q f arms h.1)

-- the leaves of the tree are those of the list
abbrev pub InList : List Region → ℕ → ℕ → Type 0
InList list r b = slice_get list r ≡ Some (region.Leaf b)

arms_leaves : (P : ℕ → ℕ → Type 0) (part : ℕ → Tree) → ((s : ℕ) → Leaves P (part s)) → (arms : List (ℕ × ℕ)) → ArmLeaves P (arms_of part arms)
arms_leaves P part h [] = tt
arms_leaves P part h (arm ∷ arms) = (h arm.1, arms_leaves P part h arms)

entered_leaves : (P : ℕ → ℕ → Type 0) (part : ℕ → Tree) → ((s : ℕ) → Leaves P (part s)) → (arms : List ℕ) → ArmLeaves P (entered_arms part arms)
entered_leaves P part h [] = tt
entered_leaves P part h (a ∷ arms) = (h a, entered_leaves P part h arms)

with_leaves : (P : ℕ → ℕ → Type 0) (tree : Tree) (arms : Arms) → Leaves P tree → ArmLeaves P arms → Leaves P (with_arms tree arms)
with_leaves P Missing arms h k = tt
with_leaves P (Leaf r b old) arms h k = (h.0, k)
with_leaves P (Then r first second target) arms h k = tt
with_leaves P (Loop r body head) arms h k = tt
with_leaves P (Dispatch r old) arms h k = tt

tree_leaves : (list : List Region) (n r : ℕ) → Leaves (InList list) (tree_from n list r)
tree_leaves list zero r = tt
tree_leaves list (suc n) r = by_region (slice_get list r) refl (λ s. tree_leaves list n s)
  where
    by_region : (o : Option Region) → slice_get list r ≡ o → ((s : ℕ) → Leaves (InList list) (tree_from n list s)) → Leaves (InList list) (node (tree_from n list) r o)
    by_region None e h = tt
    by_region (Some (region.Leaf b)) e h = (e, tt)
    by_region (Some (region.Then first second target)) e h = (h first, h second)
    by_region (Some (region.Loop body head)) e h = h body
    by_region (Some (region.Dispatch arms)) e h = entered_leaves (InList list) (tree_from n list) h arms
    by_region (Some (region.Arms first arms)) e h =
        with_leaves (InList list) (tree_from n list first) (arms_of (tree_from n list) arms) (h first) (arms_leaves (InList list) (tree_from n list) h arms)

pub root_leaves : (list : List Region) → Leaves (InList list) (root_of list)
root_leaves list = tree_leaves list (suc (length list - 1)) (length list - 1)

-- ---- the order

-- behind a block: the arm of the one block that it goes to, or all arms
abbrev pub exit_order : Way → (ℕ → List ℕ) → List ℕ → List ℕ
exit_order Ends one all = []
exit_order (Goes k) one all = one k
exit_order Chooses one all = all
exit_order Splits one all = all

abbrev mutual
  pub order : Context → Tree → List ℕ
  order c Missing = []
  order c (Leaf r b arms) = b ∷ exit_order (way_of (block_at c b).term) (λ k. one_order c k arms) (arms_order c arms)
  order c (Then r first second target) = order c first ++ order c second
  order c (Loop r body head) = order c body
  order c (Dispatch r arms) = arms_order c arms

  pub one_order : Context → ℕ → Arms → List ℕ
  one_order c k No_arm = []
  one_order c k (Arm target tree arms) = if nat_eq k target then order c tree else one_order c k arms

  pub arms_order : Context → Arms → List ℕ
  arms_order c No_arm = []
  arms_order c (Arm target tree arms) = order c tree ++ arms_order c arms

-- ---- all blocks of the order are leaves

abbrev Each : (ℕ → Type 0) → List ℕ → Type 0
Each Q [] = Unit {0}
Each Q (x ∷ xs) = Q x × Each Q xs

each_append : (Q : ℕ → Type 0) (xs ys : List ℕ) → Each Q xs → Each Q ys → Each Q (xs ++ ys)
each_append Q [] ys h k = k
each_append Q (x ∷ xs) ys h k = (h.0, each_append Q xs ys h.1 k)

each_at : (Q : ℕ → Type 0) (xs : List ℕ) (k x : ℕ) → Each Q xs → slice_get xs k ≡ Some x → Q x
each_at Q [] k x h e = absurd (cc)
each_at Q (y ∷ xs) zero x h e = subst Q (inj e) h.0
each_at Q (y ∷ xs) (suc k) x h e = each_at Q xs k x h.1 e

exit_each : (Q : ℕ → Type 0) (way : Way) (one : ℕ → List ℕ) (all : List ℕ) → ((k : ℕ) → Each Q (one k)) → Each Q all → Each Q (exit_order way one all)
exit_each Q Ends one all h k = tt
exit_each Q (Goes j) one all h k = h j
exit_each Q Chooses one all h k = k
exit_each Q Splits one all h k = k

mutual
  order_each : (c : Context) (Q : ℕ → Type 0) (tree : Tree) → Leaves (λ r b. Q b) tree → Each Q (order c tree)
  order_each c Q Missing h = tt
  order_each c Q (Leaf r b arms) h =
      (h.0, exit_each Q (way_of (block_at c b).term) (λ k. one_order c k arms) (arms_order c arms) (λ k. one_each c Q k arms h.1) (arms_each c Q arms h.1))
  order_each c Q (Then r first second target) h =
      each_append Q (order c first) (order c second) (order_each c Q first h.0) (order_each c Q second h.1)
  order_each c Q (Loop r body head) h = order_each c Q body h
  order_each c Q (Dispatch r arms) h = arms_each c Q arms h

  one_each : (c : Context) (Q : ℕ → Type 0) (k : ℕ) (arms : Arms) → ArmLeaves (λ r b. Q b) arms → Each Q (one_order c k arms)
  one_each c Q k No_arm h = tt
  one_each c Q k (Arm target tree arms) h = by_test (nat_eq k target) (order_each c Q tree h.0) (one_each c Q k arms h.1)
    where
      by_test : (t : Bool) → Each Q (order c tree) → Each Q (one_order c k arms) → Each Q (if t then order c tree else one_order c k arms)
      by_test true here rest = here
      by_test false here rest = rest

  arms_each : (c : Context) (Q : ℕ → Type 0) (arms : Arms) → ArmLeaves (λ r b. Q b) arms → Each Q (arms_order c arms)
  arms_each c Q No_arm h = tt
  arms_each c Q (Arm target tree arms) h =
      each_append Q (order c tree) (arms_order c arms) (order_each c Q tree h.0) (arms_each c Q arms h.1)

pub order_told : (c : Context) (Q : ℕ → Type 0) (tree : Tree) → Leaves (λ r b. Q b) tree → (k b : ℕ) → slice_get (order c tree) k ≡ Some b → Q b
order_told c Q tree h k b e = each_at Q (order c tree) k b (order_each c Q tree h) e

-- ---- a block stands in the order no more often than its leaf in the tree

abbrev pub seen : ℕ → List ℕ → ℕ
seen b [] = 0
seen b (x ∷ xs) = bit (nat_eq x b) + seen b xs

seen_append : (b : ℕ) (xs ys : List ℕ) → seen b (xs ++ ys) ≡ seen b xs + seen b ys
seen_append b [] ys = let e : seen b ys ≡ 0 + seen b ys = omega arith in e
seen_append b (x ∷ xs) ys =
    let rest = seen_append b xs ys in
    let n : ℕ = bit (nat_eq x b) in
    let e : n + seen b (xs ++ ys) ≡ n + seen b xs + seen b ys = omega (arith, rest) in
    e

seen_one : (b : ℕ) (xs : List ℕ) (k : ℕ) → slice_get xs k ≡ Some b → 1 ≤ seen b xs
seen_one b [] k e = absurd (cc)
seen_one b (x ∷ xs) zero e =
    let here : bit (nat_eq x b) ≡ 1 = ap (λ n. bit (nat_eq n b)) (inj e) ∙ ap bit (nat_eq-refl b) in
    omega (arith, here)
seen_one b (x ∷ xs) (suc k) e =
    let rest = seen_one b xs k e in
    omega (arith, rest)

pub seen_once : (b : ℕ) (xs : List ℕ) → seen b xs ≤ 1 → (j k : ℕ) → slice_get xs j ≡ Some b → slice_get xs k ≡ Some b → j ≡ k
seen_once b [] few j k ej ek = absurd (cc)
seen_once b (x ∷ xs) few zero zero ej ek = refl
seen_once b (x ∷ xs) few zero (suc k) ej ek =
    let here : bit (nat_eq x b) ≡ 1 = ap (λ n. bit (nat_eq n b)) (inj ej) ∙ ap bit (nat_eq-refl b) in
    let there = seen_one b xs k ek in
    absurd (omega (arith, few, here, there))
seen_once b (x ∷ xs) few (suc j) zero ej ek =
    let here : bit (nat_eq x b) ≡ 1 = ap (λ n. bit (nat_eq n b)) (inj ek) ∙ ap bit (nat_eq-refl b) in
    let there = seen_one b xs j ej in
    absurd (omega (arith, few, here, there))
seen_once b (x ∷ xs) few (suc j) (suc k) ej ek =
    let rest : seen b xs ≤ 1 = omega (arith, few) in
    ap suc (seen_once b xs rest j k ej ek)

exit_few : (b : ℕ) (way : Way) (one : ℕ → List ℕ) (all : List ℕ) (most : ℕ) → ((k : ℕ) → seen b (one k) ≤ most) → seen b all ≤ most → seen b (exit_order way one all) ≤ most
exit_few b Ends one all most h k = omega arith
exit_few b (Goes j) one all most h k = h j
exit_few b Chooses one all most h k = k
exit_few b Splits one all most h k = k

-- block b stands at the leaf of place r alone
abbrev pub IsAt : (b r : ℕ) → ℕ → ℕ → Type 0
IsAt b r place block = block ≡ b → place ≡ r

leaf_few : (b r place block : ℕ) → IsAt b r place block → bit (nat_eq block b) ≤ single place r
leaf_few b r place block h = by_test (nat_eq block b) refl
  where
    by_test : (t : Bool) → nat_eq block b ≡ t → bit t ≤ single place r
    by_test true e =
        let same = h (nat_eq-eq block b e) in
        let one : single place r ≡ 1 = ap (λ n. single n r) same ∙ ap bit (nat_eq-refl r) in
        omega (arith, one)
    by_test false e = omega arith

mutual
  pub order_few : (c : Context) (b r : ℕ) (tree : Tree) → Leaves (IsAt b r) tree → seen b (order c tree) ≤ times r tree
  order_few c b r Missing h = omega arith
  order_few c b r (Leaf place block arms) h =
      let here = leaf_few b r place block h.0 in
      let rest = exit_few b (way_of (block_at c block).term) (λ k. one_order c k arms) (arms_order c arms) (times_arms r arms) (λ k. one_few c b r k arms h.1) (arms_few c b r arms h.1) in
      omega (arith, here, rest)
  order_few c b r (Then place first second target) h =
      let both = seen_append b (order c first) (order c second) in
      let one = order_few c b r first h.0 in
      let two = order_few c b r second h.1 in
      omega (arith, both, one, two)
  order_few c b r (Loop place body head) h =
      let rest = order_few c b r body h in
      omega (arith, rest)
  order_few c b r (Dispatch place arms) h =
      let rest = arms_few c b r arms h in
      omega (arith, rest)

  one_few : (c : Context) (b r k : ℕ) (arms : Arms) → ArmLeaves (IsAt b r) arms → seen b (one_order c k arms) ≤ times_arms r arms
  one_few c b r k No_arm h = omega arith
  one_few c b r k (Arm target tree arms) h = by_test (nat_eq k target) (order_few c b r tree h.0) (one_few c b r k arms h.1)
    where
      by_test : (t : Bool) → seen b (order c tree) ≤ times r tree → seen b (one_order c k arms) ≤ times_arms r arms → seen b (if t then order c tree else one_order c k arms) ≤ times r tree + times_arms r arms
      by_test true here rest = omega (arith, here)
      by_test false here rest = omega (arith, rest)

  arms_few : (c : Context) (b r : ℕ) (arms : Arms) → ArmLeaves (IsAt b r) arms → seen b (arms_order c arms) ≤ times_arms r arms
  arms_few c b r No_arm h = omega arith
  arms_few c b r (Arm target tree arms) h =
      let both = seen_append b (order c tree) (arms_order c arms) in
      let one = order_few c b r tree h.0 in
      let two = arms_few c b r arms h.1 in
      omega (arith, both, one, two)
