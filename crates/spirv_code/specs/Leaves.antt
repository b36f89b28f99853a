-- How a block is lowered up to its branch: the phis, the instructions, and what the next blocks' phis take. And which blocks its terminator may go to.
use Rattle.std.specs.Prelude.{ℕ, ◌+◌, List, [], ◌∷◌, ◌++◌, length, Option, Some, None, slice_get, nat_eq, nat_lt, if◌then◌else◌}
use Rattle.dxil_form.specs.declared.value.Ty.{Ty}
use Rattle.dxil_form.specs.declared.value.Operand.{Operand}
use Rattle.dxil_form.specs.declared.value.Operand.TheVariants as operand
use Rattle.dxil_form.specs.declared.block.Entry.{Entry}
use Rattle.dxil_form.specs.declared.block.Phi.{Phi}
use Rattle.dxil_form.specs.declared.block.Block.{Block}
use Rattle.dxil_form.specs.declared.block.Term.{Term}
use Rattle.dxil_form.specs.Branches.{has, targets}
use Rattle.dxil_form.specs.Sound.{cases_in}
use Rattle.spv_form.specs.declared.module.Inst.{Inst}
use Rattle.spirv_code.specs.declared.way.Way.{Way}
use Rattle.spirv_code.specs.declared.way.Way.TheVariants.{Ends, Goes, Chooses, Splits}
use Rattle.spirv_code.specs.Plans.{Context, inst, result, type_id, kept, coming, variable}
use Rattle.spirv_code.specs.Reads.{Env, no_register, with_id, read_size, read_code, read_id}
use Rattle.spirv_code.specs.Lines.{lines_code, lines_env}

-- ---- the phis: what the block before left for each goes to its own variable

abbrev pub phi_code : Context → ℕ → Phi → List Inst
phi_code c place phi =
    inst 61 (type_id c phi.ty ∷ result c place ∷ variable c (coming phi.to phi.ty) ∷ []) ∷
    inst 62 (variable c (kept phi.to phi.ty) ∷ result c place ∷ []) ∷ []

abbrev pub group_code : Context → ℕ → List Phi → List Inst
group_code c place [] = []
group_code c place (phi ∷ phis) = phi_code c place phi ++ group_code c (place + 2) phis

abbrev pub group_env : Context → Env → ℕ → List Phi → Env
group_env c env place [] = env
group_env c env place (phi ∷ phis) =
    group_env c (with_id phi.to (result c place) env) (place + 2) phis

-- ---- the next blocks' phis: the entry of this block is left in the variable that the block's head reads

-- the first entry of block `from`
abbrev pub entry_operand : ℕ → Ty → List Entry → Operand
entry_operand from t [] = operand.Undef t
entry_operand from t (e ∷ es) = if nat_eq e.from from then e.value else entry_operand from t es

abbrev pub leave_code : Context → Env → ℕ → Phi → Operand → List Inst
leave_code c env place phi a =
    read_code c env place a ++ (inst 62 (variable c (coming phi.to phi.ty) ∷ read_id c env place a ∷ []) ∷ [])

abbrev pub edge_code : Context → Env → (place from : ℕ) → List Phi → List Inst
edge_code c env place from [] = []
edge_code c env place from (phi ∷ phis) =
    leave_code c env place phi (entry_operand from phi.ty phi.entries) ++ edge_code c env (place + (read_size c env (entry_operand from phi.ty phi.entries) + 1)) from phis

abbrev pub phis_of : Option Block → List Phi
phis_of None = []
phis_of (Some block) = block.phis

abbrev pub edges_code : Context → Env → (place from : ℕ) → List ℕ → List Inst
edges_code c env place from [] = []
edges_code c env place from (k ∷ ks) =
    edge_code c env place from (phis_of (slice_get c.blocks k)) ++ edges_code c env (place + length (edge_code c env place from (phis_of (slice_get c.blocks k)))) from ks

-- ---- where a terminator goes

-- the different numbers of a list, each where it stands first
abbrev pub add_new : List ℕ → List ℕ → List ℕ
add_new seen [] = seen
add_new seen (k ∷ ks) = add_new (if has k seen then seen else seen ++ k ∷ []) ks

abbrev pub different : List ℕ → List ℕ
different ks = add_new [] ks

-- the different blocks that a terminator may go to
abbrev pub next_blocks : Term → List ℕ
next_blocks term = different (targets term)

-- the pairs that one switch instruction takes
abbrev pub most_pairs : ℕ
most_pairs = 16383

-- how a block is left that may go to these different blocks, by so many cases
abbrev pub way_to : List ℕ → (cases : ℕ) → Way
way_to [] cases = Ends
way_to (k ∷ []) cases = Goes k
way_to (k ∷ l ∷ ks) cases = if nat_lt most_pairs cases then Splits else Chooses

abbrev pub way_of : Term → Way
way_of term = way_to (next_blocks term) (cases_in term)

-- ---- the block behind its label, up to its branch

-- what stands at a place, and what follows it there
abbrev pub followed : ℕ → List Inst → (ℕ → List Inst) → List Inst
followed place front rest = front ++ rest (place + length front)

-- the registers that are known behind the lines
abbrev pub block_env : Context → ℕ → Block → Env
block_env c place block =
    lines_env c (group_env c no_register place block.phis) (place + length (group_code c place block.phis)) block.instrs

-- the phis and the lines
abbrev pub inner_code : Context → ℕ → Block → List Inst
inner_code c place block =
    followed place (group_code c place block.phis) (λ p. lines_code c (group_env c no_register place block.phis) p block.instrs)

-- the block has this number
abbrev pub block_code : Context → (place from : ℕ) → Block → List Inst
block_code c place from block =
    followed place (inner_code c place block) (λ p. edges_code c (block_env c place block) p from (next_blocks block.term))
