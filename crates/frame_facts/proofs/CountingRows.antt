-- No label of a region stands more often in the code of a tree than the region stands in the tree.
use Rattle.std.proofs.Common.{◌≡◌, ℕ, ◌+◌, ◌<◌, ◌≤◌, List, length, arith}
use Rattle.std.specs.Prelude.{nat_eq}
use Rattle.dxil_form.specs.declared.block.Block.{Block}
use Rattle.spv_form.specs.declared.module.Inst.{Inst}
use Rattle.spirv_code.specs.Plans.{Context, label, chosen_label, header_label, merge_label}
use Rattle.spirv_code.specs.Leaves.{followed, next_blocks, way_of, block_code, block_env}
use Rattle.spirv_code.specs.Exits.{exit_code}
use Rattle.spirv_code.specs.Trees.{Tree, Missing, Leaf, Then, Loop, Dispatch, Arms, No_arm, Arm, label_at, arm_label}
use Rattle.spirv_code.specs.Rows.{when_code, arm_code, header_code, footer_code, dispatch_head, dispatch_tail, block_at, row_code, one_arm, met_arms, wanted_arms}
use Rattle.frame_facts.specs.Inner.{Owns, OwnsArms}
use Rattle.frame_facts.proofs.Counting.{count, count_followed, labels_few, times_arms, Bounded, block_none, exit_count, one_test, when_count, arm_count}

mutual
  pub row_count : (c : Context) (r0 kind id : ℕ) (few : kind < 8) (is : id ≡ label r0 kind) (low : id < c.first) (M : ℕ → Type 0) (tree : Tree) → Owns M tree → Bounded c r0 kind id few is low tree
  row_count c r0 kind id few is low M Missing h place = absurd h
  row_count c r0 kind id few is low M (Leaf r b arms) h place =
      let block : Block = block_at c b in
      let code : List Inst = block_code c place b block in
      let one : ℕ → ℕ → List Inst = λ k p. one_arm c k p arms in
      let met : ℕ → List Inst = λ p. met_arms c (chosen_label r) p arms in
      let wanted : ℕ → List Inst = λ p. wanted_arms c p arms in
      let outer = count_followed id place code (exit_code c (chosen_label r) block.term (arm_label arms) (next_blocks block.term) one met wanted (block_env c place block) (way_of block.term)) in
      let front = block_none c r0 kind id few is low place b block in
      let end = exit_count c r0 kind id few is low r block.term (arm_label arms) (next_blocks block.term) one met wanted (times_arms r0 arms) (λ k p. one_count c r0 kind id few is low M arms h.1 k p) (λ p. met_count c r0 kind id few is low M arms h.1 (chosen_label r) p) (λ p. wanted_count c r0 kind id few is low M arms h.1 p) (block_env c place block) (way_of block.term) (place + length code) in
      let mine = labels_few r r0 kind id few is in
      omega (arith, outer, front, end, mine)
  row_count c r0 kind id few is low M (Then r first second target) h place =
      let front : List Inst = row_code c place first in
      let p : ℕ = place + length front in
      let outer = count_followed id place front (λ p. when_code c p target second (λ q. row_code c q second)) in
      let one = row_count c r0 kind id few is low M first h.1 place in
      let two = when_count c r0 kind id few is low p target second (row_count c r0 kind id few is low M second h.2) in
      let mine = labels_few r r0 kind id few is in
      omega (arith, outer, one, two, mine)
  row_count c r0 kind id few is low M (Loop r body head) h place =
      let front : List Inst = header_code r (label_at body) in
      let p : ℕ = place + length front in
      let inner : List Inst = row_code c p body in
      let outer = count_followed id place front (λ p. followed p (row_code c p body) (λ q. footer_code c r q head (header_label r) (merge_label r))) in
      let middle = count_followed id p inner (λ q. footer_code c r q head (header_label r) (merge_label r)) in
      let one = row_count c r0 kind id few is low M body h.1 p in
      let mine = labels_few r r0 kind id few is in
      omega (arith, outer, middle, one, mine)
  row_count c r0 kind id few is low M (Dispatch r arms) h place =
      let front : List Inst = dispatch_head c r place arms in
      let p : ℕ = place + length front in
      let inner : List Inst = met_arms c (chosen_label r) p arms in
      let outer = count_followed id place front (λ p. followed p (met_arms c (chosen_label r) p arms) (λ q. dispatch_tail c r q)) in
      let middle = count_followed id p inner (λ q. dispatch_tail c r q) in
      let one = met_count c r0 kind id few is low M arms h.1 (chosen_label r) p in
      let mine = labels_few r r0 kind id few is in
      omega (arith, outer, middle, one, mine)

  one_count : (c : Context) (r0 kind id : ℕ) (few : kind < 8) (is : id ≡ label r0 kind) (low : id < c.first) (M : ℕ → Type 0) (arms : Arms) → OwnsArms M arms → (k place : ℕ) → count id (one_arm c k place arms) ≤ times_arms r0 arms
  one_count c r0 kind id few is low M No_arm h k place = omega arith
  one_count c r0 kind id few is low M (Arm target tree arms) h k place =
      one_test c r0 kind id few is low k place target tree arms (row_count c r0 kind id few is low M tree h.0) (one_count c r0 kind id few is low M arms h.1 k place) (nat_eq k target)

  met_count : (c : Context) (r0 kind id : ℕ) (few : kind < 8) (is : id ≡ label r0 kind) (low : id < c.first) (M : ℕ → Type 0) (arms : Arms) → OwnsArms M arms → (meet place : ℕ) → count id (met_arms c meet place arms) ≤ times_arms r0 arms
  met_count c r0 kind id few is low M No_arm h meet place = omega arith
  met_count c r0 kind id few is low M (Arm target tree arms) h meet place =
      let front : List Inst = arm_code place meet tree (λ q. row_code c q tree) in
      let outer = count_followed id place front (λ p. met_arms c meet p arms) in
      let one = arm_count c r0 kind id few is low place meet tree (row_count c r0 kind id few is low M tree h.0) in
      let rest = met_count c r0 kind id few is low M arms h.1 meet (place + length front) in
      omega (arith, outer, one, rest)

  wanted_count : (c : Context) (r0 kind id : ℕ) (few : kind < 8) (is : id ≡ label r0 kind) (low : id < c.first) (M : ℕ → Type 0) (arms : Arms) → OwnsArms M arms → (place : ℕ) → count id (wanted_arms c place arms) ≤ times_arms r0 arms
  wanted_count c r0 kind id few is low M No_arm h place = omega arith
  wanted_count c r0 kind id few is low M (Arm target tree arms) h place =
      let front : List Inst = when_code c place target tree (λ q. row_code c q tree) in
      let outer = count_followed id place front (λ p. wanted_arms c p arms) in
      let one = when_count c r0 kind id few is low place target tree (row_count c r0 kind id few is low M tree h.0) in
      let rest = wanted_count c r0 kind id few is low M arms h.1 (place + length front) in
      omega (arith, outer, one, rest)
