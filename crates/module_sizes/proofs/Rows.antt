-- How much the code of a region takes, told by its tree: what its leaves take, and what stands around them.
use Rattle.std.proofs.Common.{◌≡◌, ℕ, suc, ◌+◌, ◌≤◌, Bool, true, false, List, [], ◌∷◌, ◌++◌, length, Option, refl, ap, ◌∙◌, arith}
use Rattle.std.specs.Prelude.{nat_eq, if◌then◌else◌}
use Rattle.spv_form.specs.declared.module.Inst.{Inst}
use Rattle.spirv_code.specs.Plans.{Context, chosen_label, header_label, merge_label, passed_label}
use Rattle.spirv_code.specs.Leaves.{followed}
use Rattle.spirv_code.specs.Exits.{label_inst, branch_inst}
use Rattle.spirv_code.specs.Trees.{Tree, Missing, Leaf, Then, Loop, Dispatch, Arms, No_arm, Arm, label_at, place_of, arm_label}
use Rattle.spirv_code.specs.Rows.{when_head, onwards, when_code, arm_code, header_code, footer_code, arm_pairs, dispatch_head, dispatch_tail, block_at, leaf_code, row_code, one_arm, met_arms, wanted_arms}
use Rattle.module_sizes.specs.Sizes.{Measure, amount, size}
use Rattle.module_sizes.proofs.Common.{extra}
use Rattle.module_sizes.proofs.Reading.{size_append}
use Rattle.module_sizes.proofs.Exits.{amount_sum, extra_sum}

-- what stands around an arm that runs where its block is wanted
abbrev pub when_most : Measure → ℕ
when_most m = amount m 3 + amount m 4 + (amount m 2 + (amount m 3 + amount m 1)) + (amount m 1 + amount m 1)

-- around the body of a loop
abbrev pub loop_most : Measure → ℕ
loop_most m = amount m 3 + (amount m 1 + amount m 1) + (amount m 1 + amount m 1) + (amount m 3 + amount m 4) + (amount m 3 + amount m 1)

-- and around the arms of a dispatch
abbrev pub dispatch_most : Measure → ℕ
dispatch_most m = loop_most m + (amount m 3 + amount m 2 + amount m 2 + amount m 1)

abbrev mutual
  -- the most for the code of a tree, where `f` gives that of each block
  pub takes : Measure → (ℕ → ℕ) → Tree → ℕ
  takes m f Missing = 0
  takes m f (Leaf r b arms) = f b + arms_take m f arms
  takes m f (Then r first second target) = takes m f first + (takes m f second + when_most m)
  takes m f (Loop r body head) = takes m f body + loop_most m
  takes m f (Dispatch r arms) = dispatch_most m + arms_take m f arms

  pub arms_take : Measure → (ℕ → ℕ) → Arms → ℕ
  arms_take m f No_arm = 0
  arms_take m f (Arm target tree arms) = takes m f tree + when_most m + arms_take m f arms

-- a leaf takes what its block may take, besides what its arms do
abbrev pub LeafFits : Measure → Context → (ℕ → ℕ) → Type 0
LeafFits m c f =
    (place meet b : ℕ) (labels : ℕ → Option ℕ) (one : ℕ → ℕ → List Inst) (met wanted : ℕ → List Inst) (arms : ℕ) → ((k p : ℕ) → size m (one k p) ≤ amount m 2 + arms) → ((p : ℕ) → size m (met p) ≤ arms) → ((p : ℕ) → size m (wanted p) ≤ arms) → size m (leaf_code c place meet b (block_at c b) labels one met wanted) ≤ f b + arms

extra_none : (m : Measure) → extra m 0 ≡ 0
extra_none Measure.Places = refl
extra_none Measure.Words = refl

-- a pair of a switch is shorter than a test
pair_fits : (m : Measure) → extra m 2 ≤ amount m 3
pair_fits Measure.Places = omega arith
pair_fits Measure.Words = omega arith

head_fits : (m : Measure) (c : Context) (r place : ℕ) (arms : Arms) → size m (dispatch_head c r place arms) ≡ amount m 3 + (amount m 1 + amount m 1) + (amount m 3 + amount m 2 + amount m 2) + extra m (length (arm_pairs arms))
head_fits m c r place arms =
    let long : suc (suc (length (arm_pairs arms))) ≡ 2 + length (arm_pairs arms) = omega arith in
    let one : amount m (suc (suc (length (arm_pairs arms)))) ≡ amount m 2 + extra m (length (arm_pairs arms)) = ap (amount m) long ∙ amount_sum m 2 (length (arm_pairs arms)) in
    let e : amount m 3 + (amount m 1 + (amount m 1 + (amount m 3 + (amount m 2 + (amount m (suc (suc (length (arm_pairs arms)))) + 0))))) ≡ amount m 3 + (amount m 1 + amount m 1) + (amount m 3 + amount m 2 + amount m 2) + extra m (length (arm_pairs arms)) = omega (arith, one) in
    e

module _ (m : Measure) (c : Context) where
  when_fits : (place k : ℕ) (tree : Tree) (most : ℕ) → ((p : ℕ) → size m (row_code c p tree) ≤ most) → size m (when_code c place k tree (λ q. row_code c q tree)) ≤ most + when_most m
  when_fits place k tree most h =
      let front : List Inst = when_head c place k (label_at tree) (place_of tree) in
      let p : ℕ = place + length front in
      let outer = size_append m front (row_code c p tree ++ onwards (passed_label (place_of tree))) in
      let inner = size_append m (row_code c p tree) (onwards (passed_label (place_of tree))) in
      let here = h p in
      omega (arith, outer, inner, here)

  arm_fits : (place meet : ℕ) (tree : Tree) (most : ℕ) → ((p : ℕ) → size m (row_code c p tree) ≤ most) → size m (arm_code place meet tree (λ q. row_code c q tree)) ≤ most + (amount m 1 + amount m 1)
  arm_fits place meet tree most h =
      let front : List Inst = label_inst (label_at tree) ∷ [] in
      let p : ℕ = place + length front in
      let outer = size_append m front (row_code c p tree ++ (branch_inst meet ∷ [])) in
      let inner = size_append m (row_code c p tree) (branch_inst meet ∷ []) in
      let here = h p in
      omega (arith, outer, inner, here)

  -- the arm of one block, or what stands for the other arms
  one_test : (k place : ℕ) (tree : Tree) (arms : Arms) (most rest : ℕ) → ((p : ℕ) → size m (row_code c p tree) ≤ most) → size m (one_arm c k place arms) ≤ amount m 2 + rest → (b : Bool) → size m (if b then followed place (onwards (label_at tree)) (λ p. row_code c p tree) else one_arm c k place arms) ≤ amount m 2 + (most + when_most m + rest)
  one_test k place tree arms most rest h others true =
      let front : List Inst = onwards (label_at tree) in
      let outer = size_append m front (row_code c (place + length front) tree) in
      let here = h (place + length front) in
      omega (arith, outer, here)
  one_test k place tree arms most rest h others false = omega (arith, others)

mutual
  pub row_fits : (m : Measure) (c : Context) (f : ℕ → ℕ) → LeafFits m c f → (tree : Tree) (place : ℕ) → size m (row_code c place tree) ≤ takes m f tree
  row_fits m c f h Missing place = omega arith
  row_fits m c f h (Leaf r b arms) place =
      h place (chosen_label r) b (arm_label arms) (λ k p. one_arm c k p arms) (λ p. met_arms c (chosen_label r) p arms) (λ p. wanted_arms c p arms) (arms_take m f arms) (λ k p. one_fits m c f h arms k p) (λ p. (let x = met_fit m c f h arms (chosen_label r) p in omega (arith, x))) (λ p. wanted_fit m c f h arms p)
  row_fits m c f h (Then r first second target) place =
      let front : List Inst = row_code c place first in
      let p : ℕ = place + length front in
      let outer = size_append m front (when_code c p target second (λ q. row_code c q second)) in
      let one = row_fits m c f h first place in
      let two = when_fits m c p target second (takes m f second) (λ q. row_fits m c f h second q) in
      omega (arith, outer, one, two)
  row_fits m c f h (Loop r body head) place =
      let front : List Inst = header_code r (label_at body) in
      let p : ℕ = place + length front in
      let inner : List Inst = row_code c p body in
      let q : ℕ = p + length inner in
      let foot : List Inst = footer_code c r q head (header_label r) (merge_label r) in
      let outer = size_append m front (inner ++ foot) in
      let middle = size_append m inner foot in
      let one = row_fits m c f h body p in
      omega (arith, outer, middle, one)
  row_fits m c f h (Dispatch r arms) place =
      let front : List Inst = dispatch_head c r place arms in
      let p : ℕ = place + length front in
      let inner : List Inst = met_arms c (chosen_label r) p arms in
      let q : ℕ = p + length inner in
      let tail : List Inst = dispatch_tail c r q in
      let outer = size_append m front (inner ++ tail) in
      let middle = size_append m inner tail in
      let head = head_fits m c r place arms in
      let one = met_fit m c f h arms (chosen_label r) p in
      omega (arith, outer, middle, head, one)

  one_fits : (m : Measure) (c : Context) (f : ℕ → ℕ) → LeafFits m c f → (arms : Arms) (k place : ℕ) → size m (one_arm c k place arms) ≤ amount m 2 + arms_take m f arms
  one_fits m c f h No_arm k place = omega arith
  one_fits m c f h (Arm target tree arms) k place =
      one_test m c k place tree arms (takes m f tree) (arms_take m f arms) (λ p. row_fits m c f h tree p) (one_fits m c f h arms k place) (nat_eq k target)

  -- with the pairs of a switch to the arms
  met_fit : (m : Measure) (c : Context) (f : ℕ → ℕ) → LeafFits m c f → (arms : Arms) (meet place : ℕ) → size m (met_arms c meet place arms) + extra m (length (arm_pairs arms)) ≤ arms_take m f arms
  met_fit m c f h No_arm meet place = let none = extra_none m in omega (arith, none)
  met_fit m c f h (Arm target tree arms) meet place =
      let front : List Inst = arm_code place meet tree (λ q. row_code c q tree) in
      let outer = size_append m front (met_arms c meet (place + length front) arms) in
      let one = arm_fits m c place meet tree (takes m f tree) (λ p. row_fits m c f h tree p) in
      let rest = met_fit m c f h arms meet (place + length front) in
      let long : suc (suc (length (arm_pairs arms))) ≡ 2 + length (arm_pairs arms) = omega arith in
      let two : extra m (suc (suc (length (arm_pairs arms)))) ≡ extra m 2 + extra m (length (arm_pairs arms)) = ap (extra m) long ∙ extra_sum m 2 (length (arm_pairs arms)) in
      let pair = pair_fits m in
      omega (arith, outer, one, rest, two, pair)

  wanted_fit : (m : Measure) (c : Context) (f : ℕ → ℕ) → LeafFits m c f → (arms : Arms) (place : ℕ) → size m (wanted_arms c place arms) ≤ arms_take m f arms
  wanted_fit m c f h No_arm place = omega arith
  wanted_fit m c f h (Arm target tree arms) place =
      let front : List Inst = when_code c place target tree (λ q. row_code c q tree) in
      let outer = size_append m front (wanted_arms c (place + length front) arms) in
      let one = when_fits m c place target tree (takes m f tree) (λ p. row_fits m c f h tree p) in
      let rest = wanted_fit m c f h arms (place + length front) in
      omega (arith, outer, one, rest)
