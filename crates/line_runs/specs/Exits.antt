-- How a leaf of the regions is left in the module: from the end of its code the module's machine comes to the site of the block that the terminator goes to.
use Rattle.std.specs.Prelude.{◌≡◌, ◌⊎◌, ℕ, ◌+◌, ◌*◌, ◌≤◌, ◌<◌, if◌then◌else◌, List, [], ◌∷◌, length, Option, Some, None, slice_get}
use Rattle.dxil_form.specs.declared.block.Block.{Block}
use Rattle.dxil_form.specs.declared.block.Term.{Term}
use Rattle.dxil_form.specs.declared.block.Term.TheVariants.{If, Switch}
use Rattle.dxil_meaning.specs.Steps.{Leads}
use Rattle.dxil_meaning.specs.Source.{case_of}
use Rattle.spirv_meaning.specs.Names.{begun_at}
use Rattle.spirv_meaning.specs.Target.{Value, Word, Truth, State, value_of}
use Rattle.spirv_code.specs.declared.key.Slot.TheVariants.{Want, Pick}
use Rattle.spirv_code.specs.declared.way.Way.{Way}
use Rattle.spirv_code.specs.declared.way.Way.TheVariants.{Ends, Goes, Chooses, Splits}
use Rattle.spirv_code.specs.Plans.{inst}
use Rattle.spirv_code.specs.Reads.{Env}
use Rattle.spirv_code.specs.Leaves.{way_of, block_code, block_env}
use Rattle.spirv_code.specs.Exits.{label_inst, tested, tested_code, tested_id}
use Rattle.line_runs.specs.Held.{Setting, Has, machine}

-- ---- ways to a place

-- the variables in which regions pass on which block is wanted
abbrev pub IsPasser : Setting → ℕ → Type 0
IsPasser s id = (s.context.slot Want ≡ Some id) ⊎ (s.context.slot Pick ≡ Some id)

-- all other variables of the function are as before
abbrev pub Keeps : Setting → State → State → Type 0
Keeps s t t' = (id : ℕ) → (IsPasser s id → ⊥) → t'.locals id ≡ t.locals id

-- In quiet steps, which begin no block, to a place where no result is known. The steps and the place that they start from are at most twice the module's length together: no way goes back more than once.
pub record Arrives (s : Setting) (i : ℕ) (t : State) (place : ℕ) : Type 0 where
  pub n : ℕ
  pub few : n + t.at ≤ 2 * length s.made.insts
  pub t' : State
  pub leads : Leads (machine s) i n t [] t'
  pub at : t'.at ≡ place
  pub results : (id : ℕ) → t'.results id ≡ None
  pub keeps : Keeps s t t'

-- a label stands at the place, and where it is passed block k begins and no other
pub record IsSite (s : Setting) (k place : ℕ) : Type 0 where
  pub label : (id : ℕ) × (slice_get s.made.insts place ≡ Some (label_inst id))
  pub begins : begun_at s.made place ≡ k ∷ []

-- to the site of block k
abbrev pub ArrivesAt : Setting → ℕ → State → ℕ → Type 0
ArrivesAt s i t k = (place : ℕ) × IsSite s k place × Arrives s i t place

-- to the return
pub record Returns (s : Setting) (i : ℕ) (t : State) : Type 0 where
  pub n : ℕ
  pub few : n + t.at ≤ 2 * length s.made.insts
  pub t' : State
  pub leads : Leads (machine s) i n t [] t'
  pub is : slice_get s.made.insts t'.at ≡ Some (inst 253 [])

-- ---- the end of a leaf

-- the block that a terminator goes to where what it tests has this value
abbrev pub goes_to : Term → Value → Option ℕ
goes_to (If cond there other) (Truth b) = Some (if b then there else other)
goes_to (Switch value default cases) (Word n) = Some (case_of n cases default)
goes_to _ _ = None

-- What is tested is read at the place, and from behind the read the way goes to the site of the block that is chosen by the value.
pub record Tests (s : Setting) (i : ℕ) (term : Term) (env : Env) (place : ℕ) : Type 0 where
  pub has : Has s.made place (tested_code s.context env place (tested term))
  pub chosen : (t : State) (v : Value) (k : ℕ) → t.at ≡ place + length (tested_code s.context env place (tested term)) → value_of s.made t (tested_id s.context env place (tested term)) ≡ Some v → goes_to term v ≡ Some k → ArrivesAt s i t k

-- from the place behind a block's code, by the way in which it is left
abbrev pub LeavesBy : Setting → ℕ → Term → Env → ℕ → Way → Type 0
LeavesBy s i term env place Ends = (t : State) → t.at ≡ place → Returns s i t
LeavesBy s i term env place (Goes k) = (t : State) → t.at ≡ place → ArrivesAt s i t k
LeavesBy s i term env place Chooses = Tests s i term env place
LeavesBy s i term env place Splits = Tests s i term env place

-- Only variables of the function stand between the two places.
abbrev pub Variables : Setting → (from to : ℕ) → Type 0
Variables s from to =
    (n : ℕ) → from < n → n < to → (operands : List ℕ) × (slice_get s.made.insts n ≡ Some (inst 59 operands))

-- The code of block b stands behind its site, and is left for the sites of the blocks that its terminator goes to. The variables of the function stand between a site and the code where the site is the first label of the function.
pub record LeafStands (s : Setting) (i b : ℕ) (block : Block) (site : ℕ) : Type 0 where
  pub is_site : IsSite s b site
  pub start : ℕ
  pub ahead : site < start
  pub between : Variables s site start
  pub code : Has s.made start (block_code s.context start b block)
  pub leaves : LeavesBy s i block.term (block_env s.context start block) (start + length (block_code s.context start b block)) (way_of block.term)
