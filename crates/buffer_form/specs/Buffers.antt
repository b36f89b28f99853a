-- What the words of a program's module look like where buffers and groupshared arrays are declared.
--
-- Opcodes, storage classes and decorations are those of SPIR-V 1.6: TypeInt 21, TypeVector 23, TypeArray 28, TypeRuntimeArray 29, TypeStruct 30, TypePointer 32, Constant 43, Variable 59, Decorate 71, MemberDecorate 72; Uniform 2, Workgroup 4, StorageBuffer 12; Block 2, ArrayStride 6, NonWritable 24, Binding 33, DescriptorSet 34, Offset 35.
use Rattle.std.specs.Prelude.{◌≡◌, ◌⊎◌, ℕ, ◌<◌, List, [], ◌∷◌, drop, length, Some, slice_get, slice_index, nat_eq, ◌&&◌, if◌then◌else◌}
use Rattle.dxil_form.specs.declared.program.Class.{Class}
use Rattle.dxil_form.specs.declared.program.Class.TheVariants.{Srv, Uav, Cbv}
use Rattle.dxil_form.specs.declared.program.Kind.{Kind}
use Rattle.dxil_form.specs.declared.program.Kind.TheVariants.{Raw, Structured, Constant}
use Rattle.dxil_form.specs.declared.program.Resource.{Resource}
use Rattle.dxil_form.specs.declared.program.Program.{Program}
use Rattle.dxil_form.specs.declared.region.Region.{Region}
use Rattle.dxil_form.specs.Sound.{Sound}
use Rattle.dxil_form.specs.Wired.{Wired}
use Rattle.spv_form.specs.declared.module.Inst.{Inst}
use Rattle.spv_form.specs.declared.module.Module.{Module}
use Rattle.spv_form.specs.declared.module.Version.{Version}
use Rattle.spirv_meaning.specs.Names.{is_some_at}
use Rattle.spirv_meaning.specs.Bindings.{Bindings, AreApart}
use Rattle.spirv_code.specs.Plans.{Plan, inst}
use Rattle.spirv_code.specs.Frame.{module_of}
use Rattle.spirv_code.specs.Needed.{table_of}
use Rattle.spirv_code.specs.Further.{wants}
use Rattle.frame_facts.specs.Serves.{Serves}
use Rattle.module_form.specs.Form.{gather}

-- ---- what stands in a module

abbrev pub Stands : Module → Inst → Type 0
Stands m i = (j : ℕ) × (slice_get m.insts j ≡ Some i)

-- the decorations of an id, in word order: of each the number and what follows it
abbrev pub decorates : ℕ → Inst → List (List ℕ)
decorates id i =
    if nat_eq i.opcode 71 && is_some_at (slice_get i.operands 0) id then drop 1 i.operands ∷ [] else []

abbrev pub decorations_on : Module → ℕ → List (List ℕ)
decorations_on m id = gather (decorates id) m.insts

-- the operands of the variables of a storage class, in word order
abbrev pub of_class : ℕ → Inst → List (List ℕ)
of_class class i =
    if nat_eq i.opcode 59 && is_some_at (slice_get i.operands 2) class then i.operands ∷ [] else []

-- ---- types

-- a Block whose one member, at offset 0, is an array of this stride
pub record IsBlock (m : Module) (block array stride : ℕ) : Type 0 where
  pub structure : Stands m (inst 30 (block ∷ array ∷ []))
  pub block_is : decorations_on m block ≡ (2 ∷ []) ∷ []
  pub offset : Stands m (inst 72 (block ∷ 0 ∷ 35 ∷ 0 ∷ []))
  pub stride_is : decorations_on m array ≡ (6 ∷ stride ∷ []) ∷ []

-- a pointer to a Block of a runtime array of integers, in StorageBuffer
pub record OverWords (m : Module) (type : ℕ) : Type 0 where
  pub block : ℕ
  pub array : ℕ
  pub int : ℕ
  pub pointer : Stands m (inst 32 (type ∷ 12 ∷ block ∷ []))
  pub is_block : IsBlock m block array 4
  pub words : Stands m (inst 29 (array ∷ int ∷ []))
  pub integer : Stands m (inst 21 (int ∷ 32 ∷ 0 ∷ []))

-- a pointer to a Block of an array of so many vectors of four integers, in Uniform
pub record OverRows (m : Module) (type rows : ℕ) : Type 0 where
  pub block : ℕ
  pub array : ℕ
  pub row : ℕ
  pub count : ℕ
  pub int : ℕ
  pub pointer : Stands m (inst 32 (type ∷ 2 ∷ block ∷ []))
  pub is_block : IsBlock m block array 16
  pub words : Stands m (inst 28 (array ∷ row ∷ count ∷ []))
  pub vector : Stands m (inst 23 (row ∷ int ∷ 4 ∷ []))
  pub counts : Stands m (inst 43 (int ∷ count ∷ rows ∷ []))
  pub integer : Stands m (inst 21 (int ∷ 32 ∷ 0 ∷ []))

-- a pointer to an array of so many integers, in Workgroup
pub record OverShared (m : Module) (type size : ℕ) : Type 0 where
  pub array : ℕ
  pub count : ℕ
  pub int : ℕ
  pub pointer : Stands m (inst 32 (type ∷ 4 ∷ array ∷ []))
  pub words : Stands m (inst 28 (array ∷ int ∷ count ∷ []))
  pub counts : Stands m (inst 43 (int ∷ count ∷ size ∷ []))
  pub integer : Stands m (inst 21 (int ∷ 32 ∷ 0 ∷ []))

-- ---- variables

-- the storage class and the type of a buffer's variable
abbrev pub IsOver : Module → (type class : ℕ) → Kind → Type 0
IsOver m type class Raw = (class ≡ 12) × OverWords m type
IsOver m type class (Structured stride) = (class ≡ 12) × OverWords m type
IsOver m type class (Constant rows) = (class ≡ 2) × OverRows m type rows

abbrev pub non_writable : Class → List (List ℕ)
non_writable Srv = (24 ∷ []) ∷ []
non_writable Uav = []
non_writable Cbv = []

-- The variable is that of resource r: it is over the resource's kind, and has its set and its binding. It is NonWritable exactly where the class is that of a buffer that is read only (Srv).
pub record IsBufferOf (p : Program) (at : Bindings) (m : Module) (r type id class : ℕ) : Type 0 where
  pub resource : Resource
  pub pair : ℕ × ℕ
  pub is : slice_get p.resources r ≡ Some resource
  pub bound : slice_get at r ≡ Some pair
  pub over : IsOver m type class resource.kind
  pub decorated : decorations_on m id ≡ (34 ∷ pair.0 ∷ []) ∷ (33 ∷ pair.1 ∷ []) ∷ non_writable resource.class

pub record HasBuffers (p : Program) (at : Bindings) (m : Module) : Type 0 where
  -- each variable in StorageBuffer or Uniform is that of a resource
  pub buffers : (type id class : ℕ) (rest : List ℕ) → Stands m (inst 59 (type ∷ id ∷ class ∷ rest)) → (class ≡ 12) ⊎ (class ≡ 2) → (rest ≡ []) × ((r : ℕ) × IsBufferOf p at m r type id class)
  -- the k-th variable in Workgroup is groupshared array k, with its length
  pub shared : (k : ℕ) (operands : List ℕ) → slice_get (gather (of_class 4) m.insts) k ≡ Some operands → (type : ℕ) × (id : ℕ) × (operands ≡ type ∷ id ∷ 4 ∷ []) × (k < length p.shared) × OverShared m type (slice_index p.shared k)

-- The module of every sound program has such variables.
abbrev pub ModulesHaveBuffers : Type 0
ModulesHaveBuffers =
    (p : Program) (list : List Region) (at : Bindings) (v : Version) (plan : Plan) → Sound p → Wired p list → Serves p list plan → plan.table ≡ table_of p list (wants p list) plan.slots → AreApart p at → HasBuffers p at (module_of p list at v plan)
