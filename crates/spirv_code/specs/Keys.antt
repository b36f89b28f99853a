-- When two names of what a module declares are the same, and where a name stands in a list of names.
use Rattle.std.specs.Prelude.{ℕ, suc, Bool, true, false, not, List, [], ◌∷◌, ◌++◌, Option, Some, None, nat_eq, if◌then◌else◌, ◌&&◌, ◌||◌}
use Rattle.spirv_code.specs.declared.key.Sort.{Sort}
use Rattle.spirv_code.specs.declared.key.Sort.TheVariants as sort
use Rattle.spirv_code.specs.declared.key.Storage.{Storage}
use Rattle.spirv_code.specs.declared.key.Storage.TheVariants as storage
use Rattle.spirv_code.specs.declared.key.BuiltIn.{BuiltIn}
use Rattle.spirv_code.specs.declared.key.BuiltIn.TheVariants as builtin
use Rattle.spirv_code.specs.declared.key.Global.{Global}
use Rattle.spirv_code.specs.declared.key.Global.TheVariants.{Plain, Pointer, Number, Truth, Input, Buffer, Shared}
use Rattle.spirv_code.specs.declared.key.Slot.{Slot}
use Rattle.spirv_code.specs.declared.key.Slot.TheVariants.{Next, Kept, Want, Pick}

abbrev pub same_truth : Bool → Bool → Bool
same_truth true b = b
same_truth false b = not b

abbrev pub same_sort : Sort → Sort → Bool
same_sort sort.Int sort.Int = true
same_sort sort.Bool sort.Bool = true
same_sort sort.Triple sort.Triple = true
same_sort sort.Row sort.Row = true
same_sort (sort.Words a) (sort.Words b) = nat_eq a b
same_sort (sort.Block a) (sort.Block b) = nat_eq a b
same_sort (sort.Array a) (sort.Array b) = nat_eq a b
same_sort _ _ = false

-- the number of a storage class
abbrev pub storage_class : Storage → ℕ
storage_class storage.Input = 1
storage_class storage.Uniform = 2
storage_class storage.Workgroup = 4
storage_class storage.Function = 7
storage_class storage.StorageBuffer = 12

abbrev pub same_storage : Storage → Storage → Bool
same_storage storage.Input storage.Input = true
same_storage storage.Uniform storage.Uniform = true
same_storage storage.Workgroup storage.Workgroup = true
same_storage storage.Function storage.Function = true
same_storage storage.StorageBuffer storage.StorageBuffer = true
same_storage _ _ = false

-- the number of a built-in
abbrev pub built_in_number : BuiltIn → ℕ
built_in_number builtin.WorkgroupId = 26
built_in_number builtin.LocalInvocationId = 27
built_in_number builtin.GlobalInvocationId = 28
built_in_number builtin.LocalInvocationIndex = 29

abbrev pub same_built_in : BuiltIn → BuiltIn → Bool
same_built_in builtin.WorkgroupId builtin.WorkgroupId = true
same_built_in builtin.LocalInvocationId builtin.LocalInvocationId = true
same_built_in builtin.GlobalInvocationId builtin.GlobalInvocationId = true
same_built_in builtin.LocalInvocationIndex builtin.LocalInvocationIndex = true
same_built_in _ _ = false

abbrev pub same_global : Global → Global → Bool
same_global (Plain a) (Plain b) = same_sort a b
same_global (Pointer s a) (Pointer t b) = same_storage s t && same_sort a b
same_global (Number a) (Number b) = nat_eq a b
same_global (Truth a) (Truth b) = same_truth a b
same_global (Input a) (Input b) = same_built_in a b
same_global (Buffer a) (Buffer b) = nat_eq a b
same_global (Shared a) (Shared b) = nat_eq a b
same_global _ _ = false

abbrev pub same_slot : Slot → Slot → Bool
same_slot (Next v p t) (Next w q u) = nat_eq v w && (nat_eq p q && same_truth t u)
same_slot (Kept v p t) (Kept w q u) = nat_eq v w && (nat_eq p q && same_truth t u)
same_slot Want Want = true
same_slot Pick Pick = true
same_slot _ _ = false

-- the place of a key in a table, or the table's length
abbrev pub index_of : List Global → Global → ℕ
index_of [] g = 0
index_of (h ∷ table) g = if same_global g h then 0 else suc (index_of table g)

abbrev pub has_key : List Global → Global → Bool
has_key [] g = false
has_key (h ∷ table) g = same_global g h || has_key table g

-- the table with a key, which goes last if it is new
abbrev pub add_key : List Global → Global → List Global
add_key table g = if has_key table g then table else table ++ g ∷ []

-- the place of a variable in the list of variables, counted from n; none where it is not there
abbrev pub place_from : ℕ → List Slot → Slot → Option ℕ
place_from n [] s = None
place_from n (r ∷ slots) s = if same_slot s r then Some n else place_from (suc n) slots s
