-- How the value of an operand is had, and how a result is kept.
use Rattle.std.specs.Prelude.{ℕ, ◌+◌, Bool, List, [], ◌∷◌, ◌++◌, Option, Some, None, nat_eq, if◌then◌else◌, ◌&&◌}
use Rattle.dxil_form.specs.declared.value.Ty.{Ty}
use Rattle.dxil_form.specs.declared.value.Reg.{Reg}
use Rattle.dxil_form.specs.declared.value.Operand.{Operand}
use Rattle.dxil_form.specs.declared.value.Operand.TheVariants as operand
use Rattle.spv_form.specs.declared.module.Inst.{Inst}
use Rattle.spirv_code.specs.declared.key.Global.TheVariants.{Truth}
use Rattle.spirv_code.specs.Plans.{Context, inst, result, number, type_id, zero_id, kept}

-- the registers that were set since the label of the open block, with the ids of their values
abbrev pub Env : Type 0
Env = Reg → Option ℕ

-- at a label
unfoldable pub no_register : Env
no_register reg = None

abbrev pub same_reg : Reg → Reg → Bool
same_reg a b = nat_eq a.value b.value && nat_eq a.part b.part

unfoldable pub with_id : Reg → ℕ → Env → Env
with_id to id env reg = if same_reg to reg then Some id else env reg

-- ---- a read: the id of a register that was set since the label, else a load of its variable. A constant has its id already

abbrev pub reg_size : (env slot : Option ℕ) → ℕ
reg_size (Some id) slot = 0
reg_size None (Some variable) = 1
reg_size None None = 0

abbrev pub reg_code : Context → ℕ → Ty → (env slot : Option ℕ) → List Inst
reg_code c place t (Some id) slot = []
reg_code c place t None (Some variable) =
    inst 61 (type_id c t ∷ result c place ∷ variable ∷ []) ∷ []
reg_code c place t None None = []

abbrev pub reg_id : Context → ℕ → Ty → (env slot : Option ℕ) → ℕ
reg_id c place t (Some id) slot = id
reg_id c place t None (Some variable) = result c place
reg_id c place t None None = zero_id c t

-- how many instructions a read takes, whatever its place
abbrev pub read_size : Context → Env → Operand → ℕ
read_size c env (operand.Reg reg t) = reg_size (env reg) (c.slot (kept reg t))
read_size c env (operand.Int n) = 0
read_size c env (operand.Bool b) = 0
read_size c env (operand.Undef t) = 0

abbrev pub read_code : Context → Env → ℕ → Operand → List Inst
read_code c env place (operand.Reg reg t) = reg_code c place t (env reg) (c.slot (kept reg t))
read_code c env place (operand.Int n) = []
read_code c env place (operand.Bool b) = []
read_code c env place (operand.Undef t) = []

abbrev pub read_id : Context → Env → ℕ → Operand → ℕ
read_id c env place (operand.Reg reg t) = reg_id c place t (env reg) (c.slot (kept reg t))
read_id c env place (operand.Int n) = number c n
read_id c env place (operand.Bool b) = c.key (Truth b)
read_id c env place (operand.Undef t) = zero_id c t

-- ---- reads in a row

abbrev pub two_size : Context → Env → Operand → Operand → ℕ
two_size c env a b = read_size c env a + read_size c env b

abbrev pub two_code : Context → Env → ℕ → Operand → Operand → List Inst
two_code c env place a b =
    read_code c env place a ++ read_code c env (place + read_size c env a) b

abbrev pub second_id : Context → Env → ℕ → Operand → Operand → ℕ
second_id c env place a b = read_id c env (place + read_size c env a) b

abbrev pub three_size : Context → Env → Operand → Operand → Operand → ℕ
three_size c env x a b = read_size c env x + two_size c env a b

abbrev pub three_code : Context → Env → ℕ → Operand → Operand → Operand → List Inst
three_code c env place x a b =
    read_code c env place x ++ two_code c env (place + read_size c env x) a b

-- ---- a store to a variable that may be there

abbrev pub store_code : Option ℕ → ℕ → List Inst
store_code None id = []
store_code (Some variable) id = inst 62 (variable ∷ id ∷ []) ∷ []

abbrev pub store_size : Option ℕ → ℕ
store_size None = 0
store_size (Some variable) = 1

-- a register that has a variable is stored there
abbrev pub keep_code : Context → Reg → Ty → ℕ → List Inst
keep_code c reg t id = store_code (c.slot (kept reg t)) id

abbrev pub keep_size : Context → Reg → Ty → ℕ
keep_size c reg t = store_size (c.slot (kept reg t))
