-- How a block is left: a selection among its next blocks, or several where a switch has many cases.
--
-- The variable `Want` has the number of the block that is wanted when a region is over, and the number of declared blocks where none is.
use Rattle.std.specs.Prelude.{ℕ, zero, suc, ◌+◌, ◌-◌, ◌*◌, ◌/◌, List, [], ◌∷◌, ◌++◌, length, take, drop, map, Option, Some, None, nat_eq, if◌then◌else◌}
use Rattle.dxil_form.specs.declared.value.Operand.{Operand}
use Rattle.dxil_form.specs.declared.block.Term.{Term}
use Rattle.dxil_form.specs.declared.block.Term.TheVariants.{Ret, Unreachable, Go, If, Switch}
use Rattle.spv_form.specs.declared.module.Inst.{Inst}
use Rattle.spirv_code.specs.declared.key.Slot.TheVariants.{Want, Pick}
use Rattle.spirv_code.specs.declared.way.Way.{Way}
use Rattle.spirv_code.specs.declared.way.Way.TheVariants.{Ends, Goes, Chooses, Splits}
use Rattle.spirv_code.specs.Plans.{Context, inst, result, number, variable}
use Rattle.spirv_code.specs.Reads.{Env, read_code, read_id, store_code}
use Rattle.spirv_code.specs.Accesses.{int_inst, bool_inst}
use Rattle.spirv_code.specs.Leaves.{different, most_pairs, followed}

abbrev pub label_inst : ℕ → Inst
label_inst label = inst 248 (label ∷ [])

abbrev pub branch_inst : ℕ → Inst
branch_inst label = inst 249 (label ∷ [])

-- a selection whose ways meet at the label
abbrev pub selection_inst : ℕ → Inst
selection_inst label = inst 247 (label ∷ 0 ∷ [])

-- ---- the block that is wanted

abbrev pub want_inst : Context → ℕ → Inst
want_inst c k = inst 62 (variable c Want ∷ number c k ∷ [])

-- two instructions, of which the second one tells whether block k is wanted
abbrev pub is_wanted : Context → (place k : ℕ) → List Inst
is_wanted c place k =
    int_inst c place 61 (variable c Want ∷ []) ∷
    bool_inst c (place + 1) 170 (result c place ∷ number c k ∷ []) ∷ []

-- the number for no block
abbrev pub no_block : Context → ℕ
no_block c = length c.blocks

-- ---- blocks that store which block is wanted, three instructions each

abbrev pub setter_code : Context → (place meet k : ℕ) → List Inst
setter_code c place meet k = label_inst (result c place) ∷ want_inst c k ∷ branch_inst meet ∷ []

abbrev pub setters_code : Context → (place meet : ℕ) → List ℕ → List Inst
setters_code c place meet [] = []
setters_code c place meet (k ∷ ks) = setter_code c place meet k ++ setters_code c (place + 3) meet ks

-- the place of a number in a list, or the list's length
abbrev pub place_in : ℕ → List ℕ → ℕ
place_in k [] = 0
place_in k (l ∷ ks) = if nat_eq k l then 0 else suc (place_in k ks)

-- the label of the setter of block k, where the first setter has a label
abbrev pub setter_label : (first : ℕ) → List ℕ → ℕ → ℕ
setter_label first ks k = first + 3 * place_in k ks

-- ---- a selection of several blocks, of which some have an arm: `labels` gives the labels of the arms

-- those of the blocks that have no arm
abbrev pub unarmed : (ℕ → Option ℕ) → List ℕ → List ℕ
unarmed labels [] = []
unarmed labels (k ∷ ks) = keep (labels k) (unarmed labels ks)
  where
    keep : Option ℕ → List ℕ → List ℕ
    keep None rest = k ∷ rest
    keep (Some label) rest = rest

-- the different ones of them, which have a setter each
abbrev pub loose : (ℕ → Option ℕ) → List ℕ → List ℕ
loose labels ks = different (unarmed labels ks)

-- where the branch to block k goes: to its arm, or to its setter
abbrev pub way_label : (ℕ → Option ℕ) → (first : ℕ) → List ℕ → ℕ → ℕ
way_label labels first ks k = or_setter (labels k)
  where
    or_setter : Option ℕ → ℕ
    or_setter None = setter_label first ks k
    or_setter (Some label) = label

-- the pairs of a switch
abbrev pub pairs : (ℕ → ℕ) → List (ℕ × ℕ) → List ℕ
pairs to [] = []
pairs to (arm ∷ arms) = arm.0 ∷ to arm.1 ∷ pairs to arms

abbrev pub switch_inst : (ℕ → ℕ) → (id other : ℕ) → List (ℕ × ℕ) → Inst
switch_inst to id other cases = inst 251 (id ∷ other ∷ pairs to cases)

abbrev pub exit_branch : (ℕ → ℕ) → ℕ → Term → List Inst
exit_branch to id Ret = []
exit_branch to id Unreachable = []
exit_branch to id (Go k) = []
exit_branch to id (If cond there other) = inst 250 (id ∷ to there ∷ to other ∷ []) ∷ []
exit_branch to id (Switch value default cases) = switch_inst to id (to default) cases ∷ []

-- the selection by a value, which has this id; `first` is the label of the first setter
abbrev pub choose_head : (meet id : ℕ) → Term → (ℕ → Option ℕ) → (first : ℕ) → List ℕ → List Inst
choose_head meet id term labels first ks =
    selection_inst meet ∷ exit_branch (way_label labels first ks) id term

-- and the setters of the blocks without an arm
abbrev pub choose_code : Context → (place meet id : ℕ) → Term → (ℕ → Option ℕ) → List ℕ → List Inst
choose_code c place meet id term labels ks =
    followed place (choose_head meet id term labels (result c (place + 2)) ks) (λ p. setters_code c p meet ks)

-- ---- a switch of many cases: chunk after chunk, a selection whose ways store which block is wanted

-- where the ways of a chunk meet
abbrev pub chunk_meet : Context → ℕ → List ℕ → ℕ
chunk_meet c place ks = result c (place + (3 + 3 * length ks))

-- the selection by some cases
abbrev pub chunk_head : Context → ℕ → List (ℕ × ℕ) → List ℕ → List Inst
chunk_head c place cases ks =
    int_inst c place 61 (variable c Pick ∷ []) ∷
    selection_inst (chunk_meet c place ks) ∷
    switch_inst (setter_label (result c (place + 3)) ks) (result c place) (chunk_meet c place ks) cases ∷ []

abbrev pub chunk_code : Context → ℕ → List (ℕ × ℕ) → List ℕ → List Inst
chunk_code c place cases ks =
    chunk_head c place cases ks ++
    (setters_code c (place + 3) (chunk_meet c place ks) ks ++ (label_inst (chunk_meet c place ks) ∷ []))

-- the blocks that cases go to
abbrev pub case_targets : List (ℕ × ℕ) → List ℕ
case_targets cases = different (map (λ arm. arm.1) cases)

-- the cases of n chunks
abbrev pub chunks_code : Context → ℕ → (n : ℕ) → List (ℕ × ℕ) → List Inst
chunks_code c place zero cases = []
chunks_code c place (suc n) cases =
    followed place (chunk_code c place (take most_pairs cases) (case_targets (take most_pairs cases))) (λ p. chunks_code c p n (drop most_pairs cases))

abbrev pub chunk_count : ℕ → ℕ
chunk_count cases = (cases + (most_pairs - 1)) / most_pairs

-- the value to pick by, and the default, which is wanted unless a case is the value
abbrev pub split_head : Context → (id default : ℕ) → List Inst
split_head c id default = inst 62 (variable c Pick ∷ id ∷ []) ∷ want_inst c default ∷ []

abbrev pub split_code : Context → ℕ → ℕ → Term → List Inst
split_code c place id Ret = []
split_code c place id Unreachable = []
split_code c place id (Go k) = []
split_code c place id (If cond there other) = []
split_code c place id (Switch value default cases) =
    split_head c id default ++ chunks_code c (place + 2) (chunk_count (length cases)) cases

-- ---- how a leaf is left

-- what a terminator tests
abbrev pub tested : Term → Option Operand
tested Ret = None
tested Unreachable = None
tested (Go k) = None
tested (If cond there other) = Some cond
tested (Switch value default cases) = Some value

abbrev pub tested_code : Context → Env → ℕ → Option Operand → List Inst
tested_code c env place None = []
tested_code c env place (Some a) = read_code c env place a

abbrev pub tested_id : Context → Env → ℕ → Option Operand → ℕ
tested_id c env place None = 0
tested_id c env place (Some a) = read_id c env place a

-- `one`, `met` and `wanted` are the code of the arms from a place on: of the arm of one block, of arms that a selection has chosen from, and of arms that run where their block is wanted
abbrev pub exit_code : Context → (meet : ℕ) → Term → (labels : ℕ → Option ℕ) → List ℕ → (one : ℕ → ℕ → List Inst) → (met wanted : ℕ → List Inst) → Env → Way → ℕ → List Inst
exit_code c meet term labels ks one met wanted env Ends place = store_code (c.slot Want) (number c (no_block c))
exit_code c meet term labels ks one met wanted env (Goes k) place = one k place
exit_code c meet term labels ks one met wanted env Chooses place =
    followed place (tested_code c env place (tested term)) (λ p. followed p (choose_code c p meet (tested_id c env place (tested term)) term labels (loose labels ks)) (λ q. met q ++ (label_inst meet ∷ [])))
exit_code c meet term labels ks one met wanted env Splits place =
    followed place (tested_code c env place (tested term)) (λ p. followed p (split_code c p (tested_id c env place (tested term)) term) wanted)
