-- What the code of a tree of regions asks.
use Rattle.std.proofs.Common.{◌≡◌, ℕ, suc, ◌<◌, ◌≤◌, true, None}
use Rattle.dxil_form.specs.declared.block.Block.{Block}
use Rattle.dxil_form.specs.Branches.{has, targets}
use Rattle.spirv_code.specs.declared.key.Slot.TheVariants.{Want, Pick}
use Rattle.spirv_code.specs.declared.way.Way.TheVariants.{Splits}
use Rattle.spirv_code.specs.Plans.{Context}
use Rattle.spirv_code.specs.Leaves.{way_of, most_pairs}
use Rattle.spirv_code.specs.Trees.{Tree, Missing, Leaf, Then, Loop, Dispatch, Arms, No_arm, Arm, arm_label}
use Rattle.spirv_code.specs.Rows.{block_at}
use Rattle.formed_rows.proofs.Pieces.{IsThere}

-- The variable of the block that is wanted is there, where the block goes to one without an arm. So are both variables, where several selections test the value of its switch.
pub record LeafReady (b : ℕ) (c : Context) (block : Block) (arms : Arms) : Type 0 where
  pub loose : (k : ℕ) → has k (targets block.term) ≡ true → arm_label arms k ≡ None → IsThere b c Want
  pub split : way_of block.term ≡ Splits → IsThere b c Want × IsThere b c Pick

abbrev pub arms_in : Arms → ℕ
arms_in No_arm = 0
arms_in (Arm target tree arms) = suc (arms_in arms)

abbrev mutual
  -- the places of the regions are below n
  pub Ready : (b : ℕ) → Context → (n : ℕ) → Tree → Type 0
  Ready b c n Missing = ⊥
  Ready b c n (Leaf r k arms) = (r < n) × LeafReady b c (block_at c k) arms × AreReady b c n arms
  Ready b c n (Then r first second target) =
      (r < n) × IsThere b c Want × Ready b c n first × Ready b c n second
  Ready b c n (Loop r body head) = (r < n) × IsThere b c Want × Ready b c n body
  Ready b c n (Dispatch r arms) =
      (r < n) × IsThere b c Want × (arms_in arms ≤ most_pairs) × AreReady b c n arms

  pub AreReady : (b : ℕ) → Context → (n : ℕ) → Arms → Type 0
  AreReady b c n No_arm = Unit {0}
  AreReady b c n (Arm target tree arms) = Ready b c n tree × AreReady b c n arms
