-- How the regions of a program are lowered. The code of a region stands behind the label at which it begins, and ends in an open block.
use Rattle.std.specs.Prelude.{ℕ, ◌+◌, List, [], ◌∷◌, ◌++◌, Option, Some, None, slice_get, nat_eq, if◌then◌else◌}
use Rattle.dxil_form.specs.declared.block.Block.{Block}
use Rattle.dxil_form.specs.declared.block.Term.TheVariants.{Unreachable}
use Rattle.spv_form.specs.declared.module.Inst.{Inst}
use Rattle.spirv_code.specs.declared.key.Slot.TheVariants.{Want}
use Rattle.spirv_code.specs.Plans.{Context, inst, result, variable, header_label, body_label, continue_label, merge_label, chosen_label, passed_label}
use Rattle.spirv_code.specs.Accesses.{int_inst}
use Rattle.spirv_code.specs.Leaves.{way_of, next_blocks, followed, block_code, block_env}
use Rattle.spirv_code.specs.Exits.{label_inst, branch_inst, selection_inst, want_inst, is_wanted, no_block, exit_code}
use Rattle.spirv_code.specs.Trees.{Tree, Missing, Leaf, Then, Loop, Dispatch, Arms, No_arm, Arm, label_at, place_of, arm_label}

-- ---- a region that runs only where block k is wanted

-- the test, and the label of the region, which has this place
abbrev pub when_head : Context → (place k label region : ℕ) → List Inst
when_head c place k label region =
    is_wanted c place k ++
    (selection_inst (passed_label region) ∷
    inst 250 (result c (place + 1) ∷ label ∷ passed_label region ∷ []) ∷
    label_inst label ∷ [])

-- a branch to a label, and the label
abbrev pub onwards : ℕ → List Inst
onwards label = branch_inst label ∷ label_inst label ∷ []

-- `inner` is the code of the region from a place on
abbrev pub when_code : Context → (place k : ℕ) → Tree → (ℕ → List Inst) → List Inst
when_code c place k tree inner =
    followed place (when_head c place k (label_at tree) (place_of tree)) (λ p. inner p ++ onwards (passed_label (place_of tree)))

-- ---- an arm of a selection, whose ways meet at a label: `inner` is its code from a place on

abbrev pub arm_code : (place meet : ℕ) → Tree → (ℕ → List Inst) → List Inst
arm_code place meet tree inner =
    followed place (label_inst (label_at tree) ∷ []) (λ p. inner p ++ (branch_inst meet ∷ []))

-- ---- a loop

-- at the header: the merge and the branch into the loop
abbrev pub header_code : (region first : ℕ) → List Inst
header_code region first =
    inst 246 (merge_label region ∷ continue_label region ∷ 0 ∷ []) ∷ onwards first

-- behind the body: the continue target, which tests whether block k is wanted, and the merge block
abbrev pub footer_code : Context → (region place k there other : ℕ) → List Inst
footer_code c region place k there other =
    onwards (continue_label region) ++
    (is_wanted c (place + 2) k ++
    (inst 250 (result c (place + 2 + 1) ∷ there ∷ other ∷ []) ∷ label_inst (merge_label region) ∷ []))

-- ---- the selection of a dispatch

-- for each arm the block that enters it, and its label
abbrev pub arm_pairs : Arms → List ℕ
arm_pairs No_arm = []
arm_pairs (Arm target tree arms) = target ∷ label_at tree ∷ arm_pairs arms

abbrev pub select_arm : Context → (region place : ℕ) → Arms → List Inst
select_arm c region place arms =
    int_inst c place 61 (variable c Want ∷ []) ∷
    selection_inst (chosen_label region) ∷
    inst 251 (result c place ∷ chosen_label region ∷ arm_pairs arms) ∷ []

-- all before the arms of a dispatch
abbrev pub dispatch_head : Context → (region place : ℕ) → Arms → List Inst
dispatch_head c region place arms =
    header_code region (body_label region) ++ select_arm c region (place + 3) arms

-- and all behind them
abbrev pub dispatch_tail : Context → (region place : ℕ) → List Inst
dispatch_tail c region place =
    label_inst (chosen_label region) ∷
    footer_code c region (place + 1) (no_block c) (merge_label region) (header_label region)

-- ---- regions

abbrev pub block_at : Context → ℕ → Block
block_at c b = or_none (slice_get c.blocks b)
  where
    or_none : Option Block → Block
    or_none None = record { phis = []; instrs = []; term = Unreachable }
    or_none (Some block) = block

-- the leaf of block b, whose arms have these labels and this code
abbrev pub leaf_code : Context → (place meet b : ℕ) → Block → (labels : ℕ → Option ℕ) → (one : ℕ → ℕ → List Inst) → (met wanted : ℕ → List Inst) → List Inst
leaf_code c place meet b block labels one met wanted =
    followed place (block_code c place b block) (exit_code c meet block.term labels (next_blocks block.term) one met wanted (block_env c place block) (way_of block.term))

abbrev mutual
  -- the code of a region, from behind its label
  pub row_code : Context → ℕ → Tree → List Inst
  row_code c place Missing = []
  row_code c place (Leaf r b arms) =
      leaf_code c place (chosen_label r) b (block_at c b) (arm_label arms) (λ k p. one_arm c k p arms) (λ p. met_arms c (chosen_label r) p arms) (λ p. wanted_arms c p arms)
  row_code c place (Then r first second target) =
      followed place (row_code c place first) (λ p. when_code c p target second (λ q. row_code c q second))
  row_code c place (Loop r body head) =
      followed place (header_code r (label_at body)) (λ p. followed p (row_code c p body) (λ q. footer_code c r q head (header_label r) (merge_label r)))
  row_code c place (Dispatch r arms) =
      followed place (dispatch_head c r place arms) (λ p. followed p (met_arms c (chosen_label r) p arms) (λ q. dispatch_tail c r q))

  -- the arm of block k, or a store that the block is wanted
  pub one_arm : Context → (k place : ℕ) → Arms → List Inst
  one_arm c k place No_arm = want_inst c k ∷ []
  one_arm c k place (Arm target tree arms) =
      if nat_eq k target then followed place (onwards (label_at tree)) (λ p. row_code c p tree)
      else one_arm c k place arms

  -- arms that each end with a branch to the label where all meet
  pub met_arms : Context → (meet place : ℕ) → Arms → List Inst
  met_arms c meet place No_arm = []
  met_arms c meet place (Arm target tree arms) =
      followed place (arm_code place meet tree (λ q. row_code c q tree)) (λ p. met_arms c meet p arms)

  -- arms that each run only where their block is wanted
  pub wanted_arms : Context → ℕ → Arms → List Inst
  wanted_arms c place No_arm = []
  wanted_arms c place (Arm target tree arms) =
      followed place (when_code c place target tree (λ q. row_code c q tree)) (λ p. wanted_arms c p arms)
