-- What the lists of a plan have to hold for what the module declares.
use Rattle.std.specs.Prelude.{◌≡◌, ℕ, suc, true, List, [], ◌∷◌, take, length, Some, slice_get}
use Rattle.dxil_form.specs.declared.value.Ty.{Ty}
use Rattle.dxil_form.specs.declared.value.Reg.{Reg}
use Rattle.dxil_form.specs.declared.program.Program.{Program}
use Rattle.dxil_form.specs.declared.region.Region.{Region}
use Rattle.dxil_form.specs.Registers.{Spot, Sets}
use Rattle.spirv_code.specs.declared.key.Storage.TheVariants as storage
use Rattle.spirv_code.specs.declared.key.Global.{Global}
use Rattle.spirv_code.specs.declared.key.Global.TheVariants.{Plain, Pointer, Number, Truth, Input, Buffer, Shared}
use Rattle.spirv_code.specs.declared.key.Slot.{Slot}
use Rattle.spirv_code.specs.Keys.{has_key}
use Rattle.spirv_code.specs.Plans.{Plan, kept}
use Rattle.spirv_code.specs.Frame.{needs, slot_sort, slot_start}

-- all of these are declared
abbrev pub AreKeys : List Global → List Global → Type 0
AreKeys table [] = Unit {0}
AreKeys table (g ∷ gs) = (has_key table g ≡ true) × AreKeys table gs

-- how many groupshared arrays there are among the keys
abbrev pub arrays_in : List Global → ℕ
arrays_in [] = 0
arrays_in (Shared a ∷ table) = suc (arrays_in table)
arrays_in (Plain s ∷ table) = arrays_in table
arrays_in (Pointer s to ∷ table) = arrays_in table
arrays_in (Number n ∷ table) = arrays_in table
arrays_in (Truth b ∷ table) = arrays_in table
arrays_in (Input b ∷ table) = arrays_in table
arrays_in (Buffer r ∷ table) = arrays_in table

pub record Serves (p : Program) (list : List Region) (plan : Plan) : Type 0 where
  pub regions : plan.regions ≡ length list
  -- what a declaration names is declared
  pub closed : (g : Global) → has_key plan.table g ≡ true → AreKeys plan.table (needs p g)
  -- groupshared arrays are declared in their order
  pub arrays : (k a : ℕ) → slice_get plan.table k ≡ Some (Shared a) → arrays_in (take k plan.table) ≡ a
  -- so are the type and the first value of each variable of the function
  pub variables : (k : ℕ) (s : Slot) → slice_get plan.slots k ≡ Some s → AreKeys plan.table (Pointer storage.Function (slot_sort s) ∷ slot_start s ∷ [])
  -- a register that has a variable is set somewhere, with the variable's type
  pub set : (k : ℕ) (reg : Reg) (t : Ty) → slice_get plan.slots k ≡ Some (kept reg t) → (b : ℕ) × (spot : Spot) × Sets p b spot reg t
