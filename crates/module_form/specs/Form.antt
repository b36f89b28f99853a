-- What the words of a program's module look like, by the instructions that stand in it.
use Rattle.std.specs.Prelude.{◌≡◌, ◌⊎◌, ℕ, suc, Bool, false, not, List, [], ◌∷◌, ◌++◌, Some, slice_get, nat_eq, if◌then◌else◌}
use Rattle.dxil_form.specs.declared.program.Program.{Program}
use Rattle.dxil_form.specs.declared.region.Region.{Region}
use Rattle.dxil_form.specs.declared.region.Region.TheVariants as region
use Rattle.dxil_form.specs.Wired.{Wired}
use Rattle.spv_form.specs.declared.module.Inst.{Inst}
use Rattle.spv_form.specs.declared.module.Module.{Module}
use Rattle.spv_form.specs.declared.module.Version.{Version}
use Rattle.spv_form.specs.declared.module.Version.TheVariants.{V13, V16}
use Rattle.spirv_meaning.specs.Names.{block_name}
use Rattle.spirv_meaning.specs.Bindings.{Bindings}
use Rattle.spirv_meaning.specs.Target.{Word, Truth, fixed}
use Rattle.spirv_code.specs.Plans.{Plan, site_label}
use Rattle.spirv_code.specs.Frame.{module_of}
use Rattle.spirv_code.specs.Needed.{table_of}
use Rattle.spirv_code.specs.Further.{wants}
use Rattle.frame_facts.specs.Serves.{Serves}

-- ---- what stands in a list of instructions

-- what each instruction gives, in their order
abbrev pub gather : {A : Type 0} → (Inst → List A) → List Inst → List A
gather f [] = []
gather f (i ∷ is) = f i ++ gather f is

abbrev pub with_opcode : ℕ → Inst → List (List ℕ)
with_opcode opcode i = if nat_eq i.opcode opcode then i.operands ∷ [] else []

-- the operands of the instructions of an opcode, in word order
abbrev pub those : ℕ → List Inst → List (List ℕ)
those opcode insts = gather (with_opcode opcode) insts

-- the variables that an entry point lists: at version 1.6 all those outside the function, and at 1.3 the inputs
abbrev pub is_in_interface : Version → (class : ℕ) → Bool
is_in_interface V16 class = not (nat_eq class 7)
is_in_interface V13 class = nat_eq class 1

-- the id of an OpVariable that the entry point lists, from its type, its id and its storage class
abbrev pub interface_id : Version → List ℕ → List ℕ
interface_id v (type ∷ id ∷ class ∷ rest) = if is_in_interface v class then id ∷ [] else []
interface_id v _ = []

abbrev pub listed : Version → Inst → List ℕ
listed v i = if nat_eq i.opcode 59 then interface_id v i.operands else []

-- the names of the sites of blocks, by the leaves of the regions
abbrev pub site_names : ℕ → List Region → List (List ℕ)
site_names r [] = []
site_names r (region.Leaf b ∷ list) = (site_label r ∷ block_name b) ∷ site_names (suc r) list
site_names r (region.Then first second target ∷ list) = site_names (suc r) list
site_names r (region.Loop body head ∷ list) = site_names (suc r) list
site_names r (region.Dispatch arms ∷ list) = site_names (suc r) list
site_names r (region.Arms first arms ∷ list) = site_names (suc r) list

-- ---- the form

-- Opcodes and operands are those of SPIR-V 1.6: Capability 17, MemoryModel 14, EntryPoint 15, ExecutionMode 16, Name 5, TypeInt 21, Function 54, FunctionEnd 56, Variable 59, Return 253.
pub record HasForm (p : Program) (list : List Region) (v : Version) (m : Module) : Type 0 where
  pub version : m.version ≡ v
  -- Shader; Logical and GLSL450; GLCompute, the function, `main` and the interface; LocalSize
  pub capability : those 17 m.insts ≡ (1 ∷ []) ∷ []
  pub memory_model : those 14 m.insts ≡ (0 ∷ 1 ∷ []) ∷ []
  pub entry_point : those 15 m.insts ≡ (5 ∷ 1 ∷ 0x6E69_616D ∷ 0 ∷ gather (listed v) m.insts) ∷ []
  pub local_size : those 16 m.insts ≡ (1 ∷ 17 ∷ p.local) ∷ []
  -- one function, which returns at one place
  pub function : those 54 m.insts ≡ (2 ∷ 1 ∷ 0 ∷ 3 ∷ []) ∷ []
  pub function_end : those 56 m.insts ≡ [] ∷ []
  pub returns : those 253 m.insts ≡ [] ∷ []
  -- one integer type at most, of 32 bits and without sign
  pub integers : (those 21 m.insts ≡ []) ⊎ ((id : ℕ) × (those 21 m.insts ≡ (id ∷ 32 ∷ 0 ∷ []) ∷ []))
  -- the sites of blocks have names, and nothing else has one
  pub names : those 5 m.insts ≡ site_names 0 list
  -- each variable of the function begins with zero or false
  pub locals : (j : ℕ) (i : Inst) → slice_get m.insts j ≡ Some i → i.opcode ≡ 59 → slice_get i.operands 2 ≡ Some 7 → (id : ℕ) × (slice_get i.operands 3 ≡ Some id) × ((fixed m id ≡ Some (Word 0)) ⊎ (fixed m id ≡ Some (Truth false)))

-- The module of every program has this form.
abbrev pub ModulesHaveForm : Type 0
ModulesHaveForm =
    (p : Program) (list : List Region) (at : Bindings) (v : Version) (plan : Plan) → Wired p list → Serves p list plan → plan.table ≡ table_of p list (wants p list) plan.slots → HasForm p list v (module_of p list at v plan)
