-- Pointers into memory that may not be written.
use Rattle.std.specs.Prelude.{ℕ, ◌≡◌, ◌<◌, ◌==◌, ◌&&◌, ◌||◌, List, Bool, true, false, Option, Some, None, slice_get, if◌then◌else◌}
use Rattle.spv_form.specs.declared.module.Inst.{Inst}
use Rattle.spv_form.specs.Shapes.{is_from}
use Rattle.spv_ids.specs.Roles.{operand, defines}
use Rattle.spv_ids.specs.Ids.{definer}
use Rattle.spv_ids.specs.Places.{is_before, is_there}
use Rattle.decoration_rules.specs.Decorations.{marks_of}

-- the id is first defined at place i, by x
pub record IsDefinedAt (insts : List Inst) (id i : ℕ) (x : Inst) : Type 0 where
  pub definer_is : definer insts id ≡ Some i
  pub there : slice_get insts i ≡ Some x

-- The id is a variable that is NonWritable, or is made by access chains from one.
pub data IsReadOnly (insts : List Inst) : ℕ → Type 0 where
  variable : (v i : ℕ) (x : Inst) → IsDefinedAt insts v i x → x.opcode ≡ 59 → (marks_of insts v).non_writable ≡ true → IsReadOnly insts v
  -- AccessChain: type, result, base. The base is defined before it.
  chain : (q i j : ℕ) (x : Inst) → IsDefinedAt insts q i x → x.opcode ≡ 65 → definer insts (operand x 2) ≡ Some j → j < i → IsReadOnly insts (operand x 2) → IsReadOnly insts q

-- The pointer that an instruction writes through: a Store's first operand, an atomic's behind type and result.
abbrev pub written_by : Inst → Option ℕ
written_by x =
    if x.opcode == 62 then Some (operand x 0)
    else if x.opcode == 229 || x.opcode == 230 || is_from 234 242 x.opcode then Some (operand x 2)
    else None

-- ---- a set of the ids that are read-only

pub record IsSetOf (has : ℕ → Bool) (insts : List Inst) : Type 0 where
  pub only : (id : ℕ) → has id ≡ true → IsReadOnly insts id
  pub all : (id : ℕ) → IsReadOnly insts id → has id ≡ true

-- the set has those that are defined at the first so many places
pub record IsSetUpTo (has : ℕ → Bool) (insts : List Inst) (at : ℕ) : Type 0 where
  pub only : (id : ℕ) → has id ≡ true → IsReadOnly insts id
  pub earlier : (id : ℕ) → has id ≡ true → (j : ℕ) × (definer insts id ≡ Some j) × (j < at)
  pub all : (id j : ℕ) → IsReadOnly insts id → definer insts id ≡ Some j → j < at → has id ≡ true

-- the instruction at a place makes its result read-only, by the set of those before it
abbrev pub makes : List Inst → (ℕ → Bool) → ℕ → Inst → ℕ → Bool
makes insts has at x id =
    if x.opcode == 59 then (marks_of insts id).non_writable
    else if x.opcode == 65 then is_before at (definer insts (operand x 2)) && has (operand x 2)
    else false

-- the instruction at a place makes the id read-only, and is the first that defines it
abbrev pub adds : List Inst → (ℕ → Bool) → ℕ → Inst → ℕ → Bool
adds insts has at x id = is_there at (definer insts id) && makes insts has at x id

pub record IsNext (old new : ℕ → Bool) (insts : List Inst) (at : ℕ) (x : Inst) : Type 0 where
  pub next : (id : ℕ) → new id ≡ ((defines id x && adds insts old at x id) || old id)
