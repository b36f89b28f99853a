-- Rows of blocks as instructions (SPIR-V 1.6, sections 2.11 and 3.42.17, "Control-Flow Instructions"). The code of a row stands behind the label of its first block, and its last block is still open: what stands behind the code ends it.
use Rattle.std.specs.Prelude.{◌≡◌, ◌≢◌, ◌⊎◌, ℕ, suc, ◌<◌, ◌==◌, Bool, true, false, List, [], ◌∷◌, ◌++◌, Some, Contains, slice_get, if◌then◌else◌}
use Rattle.spv_form.specs.declared.module.Inst.{Inst}
use Rattle.flow_blocks.specs.Blocks.{operand, every_second}

-- ---- instructions

abbrev pub inst : ℕ → List ℕ → Inst
inst opcode operands = record { opcode = opcode; operands = operands }

abbrev pub label_inst : ℕ → Inst
label_inst label = inst 248 (label ∷ [])

abbrev pub branch_inst : ℕ → Inst
branch_inst label = inst 249 (label ∷ [])

abbrev pub selection_inst : ℕ → Inst
selection_inst meet = inst 247 (meet ∷ 0 ∷ [])

abbrev pub loop_inst : (meet next : ℕ) → Inst
loop_inst meet next = inst 246 (meet ∷ next ∷ 0 ∷ [])

abbrev pub fork_inst : (cond there other : ℕ) → Inst
fork_inst cond there other = inst 250 (cond ∷ there ∷ other ∷ [])

abbrev pub switch_inst : (value default : ℕ) → List ℕ → Inst
switch_inst value default words = inst 251 (value ∷ default ∷ words)

abbrev pub return_inst : Inst
return_inst = inst 253 []

-- none of these is a label, a merge instruction or a terminator: those have opcodes from 246 on
abbrev pub AreInner : List Inst → Type 0
AreInner [] = Unit {0}
AreInner (x ∷ xs) = (x.opcode < 246) × AreInner xs

-- the ids of the labels among instructions, in their order
abbrev pub labels : List Inst → List ℕ
labels [] = []
labels (x ∷ xs) = if x.opcode == 248 then operand x 0 ∷ labels xs else labels xs

-- ---- selections: the arms' labels `ids`, and the label `meet` of the merge block

-- the two ways of a conditional branch part: one of them goes to the merge block, or they go to two arms
pub data Parting (meet : ℕ) (ids : List ℕ) (there other : ℕ) : Type 0 where
  one_arm : Contains ids there → other ≡ meet → Parting meet ids there other
  two_arms : (i j : ℕ) → slice_get ids i ≡ Some there → slice_get ids j ≡ Some other → i ≢ j → Parting meet ids there other

-- a terminator with several ways, and their labels
pub data Forking (meet : ℕ) (ids : List ℕ) : Inst → List ℕ → Type 0 where
  conditional : (cond there other : ℕ) → Parting meet ids there other → Forking meet ids (fork_inst cond there other) (there ∷ other ∷ [])
  switch : (value default : ℕ) (words : List ℕ) → Forking meet ids (switch_inst value default words) (default ∷ every_second words)

-- each way goes to an arm or to the merge block, and some way goes to each arm
pub record AreWays (meet : ℕ) (ids ways : List ℕ) : Type 0 where
  pub each : (id : ℕ) → Contains ways id → (id ≡ meet) ⊎ Contains ids id
  pub all : (id : ℕ) → Contains ids id → Contains ways id

-- the test at a loop's end goes back to its header, or on to its merge block
abbrev pub GoesRound : (header meet there other : ℕ) → Type 0
GoesRound header meet there other =
    ((there ≡ header) × (other ≡ meet)) ⊎ ((there ≡ meet) × (other ≡ header))

-- ---- rows

mutual
  -- code behind a label, with at most `depth` selections and loops one in another, and whether the block of that label is a loop's header
  pub data RowCode : ℕ → Bool → ℕ → List Inst → Type 0 where
    nothing : (depth label : ℕ) → RowCode depth false label []
    more : (depth : ℕ) (loops : Bool) (label : ℕ) (xs ys zs : List Inst) → RowCode depth loops label xs → AreInner ys → zs ≡ xs ++ ys → RowCode depth loops label zs
    onward : (depth : ℕ) (loops again : Bool) (label next : ℕ) (xs ys zs : List Inst) → RowCode depth loops label xs → RowCode depth again next ys → zs ≡ xs ++ (branch_inst next ∷ label_inst next ∷ ys) → RowCode depth loops label zs
    select : (depth : ℕ) (loops : Bool) (label meet : ℕ) (ids ways : List ℕ) (x : Inst) (xs arms zs : List Inst) → RowCode (suc depth) loops label xs → Forking meet ids x ways → AreWays meet ids ways → ArmsCode depth meet ids arms → zs ≡ xs ++ (selection_inst meet ∷ x ∷ (arms ++ (label_inst meet ∷ []))) → RowCode (suc depth) loops label zs
    cycle : (depth : ℕ) (again : Bool) (label meet next first cond there other : ℕ) (body test zs : List Inst) → RowCode depth again first body → AreInner test → GoesRound label meet there other → zs ≡ loop_inst meet next ∷ branch_inst first ∷ label_inst first ∷ (body ++ (branch_inst next ∷ label_inst next ∷ (test ++ (fork_inst cond there other ∷ label_inst meet ∷ [])))) → RowCode (suc depth) true label zs

  -- arms with these labels, one behind the other, each of which branches to the merge block
  pub data ArmsCode : ℕ → ℕ → List ℕ → List Inst → Type 0 where
    no_arm : (depth meet : ℕ) → ArmsCode depth meet [] []
    arm : (depth : ℕ) (loops : Bool) (meet label : ℕ) (ids : List ℕ) (body rest zs : List Inst) → RowCode depth loops label body → ArmsCode depth meet ids rest → zs ≡ label_inst label ∷ (body ++ (branch_inst meet ∷ rest)) → ArmsCode depth meet (label ∷ ids) zs
