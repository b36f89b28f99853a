-- The whole module, as a function of the program, its regions, the bindings of its resources, a version and a plan.
use Rattle.std.specs.Prelude.{ℕ, zero, suc, ◌+◌, Bool, true, false, List, [], ◌∷◌, ◌++◌, length, Option, Some, None, slice_get, slice_index, nat_eq, if◌then◌else◌, ◌&&◌}
use Rattle.dxil_form.specs.declared.program.Class.{Class}
use Rattle.dxil_form.specs.declared.program.Class.TheVariants.{Srv, Uav, Cbv}
use Rattle.dxil_form.specs.declared.program.Kind.{Kind}
use Rattle.dxil_form.specs.declared.program.Kind.TheVariants.{Raw, Structured, Constant}
use Rattle.dxil_form.specs.declared.program.Resource.{Resource}
use Rattle.dxil_form.specs.declared.program.Program.{Program}
use Rattle.dxil_form.specs.declared.region.Region.{Region}
use Rattle.dxil_form.specs.declared.region.Region.TheVariants as region
use Rattle.spv_form.specs.declared.module.Inst.{Inst}
use Rattle.spv_form.specs.declared.module.Module.{Module}
use Rattle.spv_form.specs.declared.module.Version.{Version}
use Rattle.spv_form.specs.declared.module.Version.TheVariants.{V16}
use Rattle.spirv_meaning.specs.Names.{block_name}
use Rattle.spirv_meaning.specs.Bindings.{Bindings}
use Rattle.spirv_code.specs.declared.key.Sort.{Sort}
use Rattle.spirv_code.specs.declared.key.Sort.TheVariants as sort
use Rattle.spirv_code.specs.declared.key.Storage.{Storage}
use Rattle.spirv_code.specs.declared.key.Storage.TheVariants as storage
use Rattle.spirv_code.specs.declared.key.BuiltIn.{BuiltIn}
use Rattle.spirv_code.specs.declared.key.BuiltIn.TheVariants as builtin
use Rattle.spirv_code.specs.declared.key.Global.{Global}
use Rattle.spirv_code.specs.declared.key.Global.TheVariants.{Plain, Pointer, Number, Truth, Input, Buffer, Shared}
use Rattle.spirv_code.specs.declared.key.Slot.{Slot}
use Rattle.spirv_code.specs.declared.key.Slot.TheVariants.{Next, Kept, Want, Pick}
use Rattle.spirv_code.specs.Keys.{storage_class, built_in_number}
use Rattle.spirv_code.specs.Plans.{Plan, inst, site_label, first_label, slots_from, table_from, results_from, global_id, rows_of, context_of}
use Rattle.spirv_code.specs.Trees.{Tree, label_at, begins_plainly, place_of, root_of}
use Rattle.spirv_code.specs.Leaves.{followed}
use Rattle.spirv_code.specs.Exits.{label_inst}
use Rattle.spirv_code.specs.Rows.{onwards, row_code}

-- ---- what a key names

-- a constant buffer
abbrev pub has_rows : Option Resource → Bool
has_rows None = false
has_rows (Some resource) = is_constant resource.kind
  where
    is_constant : Kind → Bool
    is_constant Raw = false
    is_constant (Structured stride) = false
    is_constant (Constant rows) = true

abbrev pub rowed : Program → ℕ → Bool
rowed p r = has_rows (slice_get p.resources r)

-- where a buffer lies: a constant buffer in Uniform memory, and every other one in StorageBuffer
abbrev pub buffer_storage : Bool → Storage
buffer_storage true = storage.Uniform
buffer_storage false = storage.StorageBuffer

-- the type that an input has
abbrev pub input_sort : BuiltIn → Sort
input_sort builtin.WorkgroupId = sort.Triple
input_sort builtin.LocalInvocationId = sort.Triple
input_sort builtin.GlobalInvocationId = sort.Triple
input_sort builtin.LocalInvocationIndex = sort.Int

abbrev pub words_needs : Program → Bool → ℕ → List Global
words_needs p true r = Plain sort.Row ∷ Number (rows_of (slice_get p.resources r)) ∷ []
words_needs p false r = Plain sort.Int ∷ []

-- what the declaration of a key names. The arrays of a program are declared in their order, so that each has its number
abbrev pub needs : Program → Global → List Global
needs p (Plain sort.Int) = []
needs p (Plain sort.Bool) = []
needs p (Plain sort.Triple) = Plain sort.Int ∷ []
needs p (Plain sort.Row) = Plain sort.Int ∷ []
needs p (Plain (sort.Words r)) = words_needs p (rowed p r) r
needs p (Plain (sort.Block r)) = Plain (sort.Words r) ∷ []
needs p (Plain (sort.Array a)) = Plain sort.Int ∷ Number (slice_index p.shared a) ∷ []
needs p (Pointer s to) = Plain to ∷ []
needs p (Number n) = Plain sort.Int ∷ []
needs p (Truth b) = Plain sort.Bool ∷ []
needs p (Input b) = Pointer storage.Input (input_sort b) ∷ []
needs p (Buffer r) = Pointer (buffer_storage (rowed p r)) (sort.Block r) ∷ []
needs p (Shared zero) = Pointer storage.Workgroup (sort.Array zero) ∷ []
needs p (Shared (suc a)) = Pointer storage.Workgroup (sort.Array (suc a)) ∷ Shared a ∷ []

-- ---- declarations

abbrev pub words_declaration : Program → (Global → ℕ) → ℕ → Bool → ℕ → Inst
words_declaration p ids id true r = inst 28 (id ∷ ids (Plain sort.Row) ∷ ids (Number (rows_of (slice_get p.resources r))) ∷ [])
words_declaration p ids id false r = inst 29 (id ∷ ids (Plain sort.Int) ∷ [])

-- the declaration of a key under its id
abbrev pub declaration : Program → (Global → ℕ) → ℕ → Global → Inst
declaration p ids id (Plain sort.Int) = inst 21 (id ∷ 32 ∷ 0 ∷ [])
declaration p ids id (Plain sort.Bool) = inst 20 (id ∷ [])
declaration p ids id (Plain sort.Triple) = inst 23 (id ∷ ids (Plain sort.Int) ∷ 3 ∷ [])
declaration p ids id (Plain sort.Row) = inst 23 (id ∷ ids (Plain sort.Int) ∷ 4 ∷ [])
declaration p ids id (Plain (sort.Words r)) = words_declaration p ids id (rowed p r) r
declaration p ids id (Plain (sort.Block r)) = inst 30 (id ∷ ids (Plain (sort.Words r)) ∷ [])
declaration p ids id (Plain (sort.Array a)) =
    inst 28 (id ∷ ids (Plain sort.Int) ∷ ids (Number (slice_index p.shared a)) ∷ [])
declaration p ids id (Pointer s to) = inst 32 (id ∷ storage_class s ∷ ids (Plain to) ∷ [])
declaration p ids id (Number n) = inst 43 (ids (Plain sort.Int) ∷ id ∷ n ∷ [])
declaration p ids id (Truth true) = inst 41 (ids (Plain sort.Bool) ∷ id ∷ [])
declaration p ids id (Truth false) = inst 42 (ids (Plain sort.Bool) ∷ id ∷ [])
declaration p ids id (Input b) = inst 59 (ids (Pointer storage.Input (input_sort b)) ∷ id ∷ 1 ∷ [])
declaration p ids id (Buffer r) =
    inst 59 (ids (Pointer (buffer_storage (rowed p r)) (sort.Block r)) ∷ id ∷ storage_class (buffer_storage (rowed p r)) ∷ [])
declaration p ids id (Shared a) = inst 59 (ids (Pointer storage.Workgroup (sort.Array a)) ∷ id ∷ 4 ∷ [])

abbrev pub declarations : Program → (Global → ℕ) → ℕ → List Global → List Inst
declarations p ids n [] = []
declarations p ids n (g ∷ table) = declaration p ids n g ∷ declarations p ids (suc n) table

-- ---- decorations

abbrev pub stride_of : Bool → ℕ
stride_of true = 16
stride_of false = 4

abbrev pub read_only : ℕ → Class → List Inst
read_only id Srv = inst 71 (id ∷ 24 ∷ []) ∷ []
read_only id Uav = []
read_only id Cbv = []

abbrev pub read_only_of : ℕ → Option Resource → List Inst
read_only_of id None = []
read_only_of id (Some resource) = read_only id resource.class

abbrev pub set_of : Option (ℕ × ℕ) → ℕ
set_of None = 0
set_of (Some pair) = pair.0

abbrev pub binding_of : Option (ℕ × ℕ) → ℕ
binding_of None = 0
binding_of (Some pair) = pair.1

-- ArrayStride; Block and Offset; DescriptorSet, Binding and NonWritable; BuiltIn (SPIR-V 1.6, section 3.20)
abbrev pub decorations_of : Program → Bindings → ℕ → Global → List Inst
decorations_of p at id (Plain (sort.Words r)) = inst 71 (id ∷ 6 ∷ stride_of (rowed p r) ∷ []) ∷ []
decorations_of p at id (Plain (sort.Block r)) = inst 71 (id ∷ 2 ∷ []) ∷ inst 72 (id ∷ 0 ∷ 35 ∷ 0 ∷ []) ∷ []
decorations_of p at id (Buffer r) =
    inst 71 (id ∷ 34 ∷ set_of (slice_get at r) ∷ []) ∷
    inst 71 (id ∷ 33 ∷ binding_of (slice_get at r) ∷ []) ∷ read_only_of id (slice_get p.resources r)
decorations_of p at id (Input b) = inst 71 (id ∷ 11 ∷ built_in_number b ∷ []) ∷ []
decorations_of p at id _ = []

abbrev pub decorations : Program → Bindings → ℕ → List Global → List Inst
decorations p at n [] = []
decorations p at n (g ∷ table) = decorations_of p at n g ++ decorations p at (suc n) table

-- ---- names: the site of each block has the block's name

abbrev pub name_of : ℕ → Region → List Inst
name_of r (region.Leaf b) = inst 5 (site_label r ∷ block_name b) ∷ []
name_of r _ = []

abbrev pub names : ℕ → List Region → List Inst
names r [] = []
names r (x ∷ list) = name_of r x ++ names (suc r) list

-- ---- the interface: at version 1.6 all variables outside the function, and at 1.3 the inputs

abbrev pub is_listed : Version → Global → Bool
is_listed v (Input b) = true
is_listed V16 (Buffer r) = true
is_listed V16 (Shared a) = true
is_listed v _ = false

abbrev pub interface : Version → ℕ → List Global → List ℕ
interface v n [] = []
interface v n (g ∷ table) = if is_listed v g then n ∷ interface v (suc n) table else interface v (suc n) table

-- ---- variables of the function, each with its first value

abbrev pub slot_sort : Slot → Sort
slot_sort (Next value part truth) = if truth then sort.Bool else sort.Int
slot_sort (Kept value part truth) = if truth then sort.Bool else sort.Int
slot_sort Want = sort.Int
slot_sort Pick = sort.Int

-- zero or false
abbrev pub slot_start : Slot → Global
slot_start (Next value part truth) = if truth then Truth false else Number 0
slot_start (Kept value part truth) = if truth then Truth false else Number 0
slot_start Want = Number 0
slot_start Pick = Number 0

abbrev pub slot_variable : (Global → ℕ) → ℕ → Slot → Inst
slot_variable ids id s =
    inst 59 (ids (Pointer storage.Function (slot_sort s)) ∷ id ∷ 7 ∷ ids (slot_start s) ∷ [])

abbrev pub slot_variables : (Global → ℕ) → ℕ → List Slot → List Inst
slot_variables ids n [] = []
slot_variables ids n (s ∷ slots) = slot_variable ids n s ∷ slot_variables ids (suc n) slots

-- ---- the module

-- GLCompute, `main` and the interface
abbrev pub entry_point : Version → Plan → Inst
entry_point v plan =
    inst 15 (5 ∷ 1 ∷ 0x6E69_616D ∷ 0 ∷ interface v (table_from plan) plan.table)

-- Shader; Logical and GLSL450; the entry point; LocalSize
abbrev pub head : Program → Version → Plan → List Inst
head p v plan =
    inst 17 (1 ∷ []) ∷ inst 14 (0 ∷ 1 ∷ []) ∷
    entry_point v plan ∷ inst 16 (1 ∷ 17 ∷ p.local) ∷ []

-- the label of the function's first block: the leaf at which the tree begins, or a block that branches to the tree
abbrev pub opening_label : Tree → ℕ
opening_label tree = if begins_plainly tree then label_at tree else first_label (place_of tree)

abbrev pub opening : Plan → Tree → List Inst
opening plan tree =
    inst 54 (2 ∷ 1 ∷ 0 ∷ 3 ∷ []) ∷ label_inst (opening_label tree) ∷ slot_variables (global_id plan) (slots_from plan) plan.slots

-- the type void, and that of the function
abbrev pub function_types : List Inst
function_types = inst 19 (2 ∷ []) ∷ inst 33 (3 ∷ 2 ∷ []) ∷ []

-- all before the code of the regions
abbrev pub frame : Program → List Region → Bindings → Version → Plan → List Inst
frame p list at v plan =
    head p v plan ++ (names 0 list ++ (decorations p at (table_from plan) plan.table ++
    (function_types ++ (declarations p (global_id plan) (table_from plan) plan.table ++ opening plan (root_of list)))))

abbrev pub body_code : Program → Plan → Tree → ℕ → List Inst
body_code p plan tree place =
    if begins_plainly tree then row_code (context_of p plan) place tree
    else followed place (onwards (label_at tree)) (λ q. row_code (context_of p plan) q tree)

-- the return and the end of the function
abbrev pub closing : List Inst
closing = inst 253 [] ∷ inst 56 [] ∷ []

abbrev pub insts_of : Program → List Region → Bindings → Version → Plan → List Inst
insts_of p list at v plan =
    frame p list at v plan ++ (body_code p plan (root_of list) (length (frame p list at v plan)) ++ closing)

-- one region, and nothing is declared but the function: there is no result, and the one label is 4
abbrev pub is_bare : Plan → Bool
is_bare plan = nat_eq plan.regions 1 && nat_eq (length plan.slots + length plan.table) 0

abbrev pub bound_of : Plan → (count : ℕ) → ℕ
bound_of plan count = if is_bare plan then 5 else results_from plan + count

-- the module of a program
abbrev pub module_of : Program → List Region → Bindings → Version → Plan → Module
module_of p list at v plan =
    record { version = v; bound = bound_of plan (length (insts_of p list at v plan)); insts = insts_of p list at v plan }
