-- What a module states of a compute shader, and the first refusal of its layers: the types, the records, the metadata, and the facts of the shader.
use Rattle.std.specs.Prelude.{ℕ, ◌≡◌, List, length, Result, Ok, Err}
use Rattle.bitstream_spelling.specs.declared.item.Item.{Item}
use Rattle.dx_base.specs.declared.fault.Fault.{Fault}
use Rattle.dx_base.specs.declared.fault.Fault.TheVariants.{Refused, Limit, OutOfMemory}
use Rattle.dx_base.specs.declared.fault.Rule.TheVariants.{Y, N}
use Rattle.dx_base.specs.First.{IsFirst, IsSound}
use Rattle.llvm_types.specs.Types.{types_of}
use Rattle.llvm_types.specs.Rules.{Broken as BreaksTypes}
use Rattle.llvm_values.specs.Values.{values_of}
use Rattle.llvm_bodies.specs.Reading.{fault_of}
use Rattle.llvm_records.specs.Reading.{AreRecords, Broken as BreaksRecords}
use Rattle.llvm_nodes.specs.Metadata.{IsMeta}
use Rattle.llvm_nodes.specs.Rules.{Broken as BreaksMetadataOf}
use Rattle.llvm_nodes.specs.declared.item.Meta.{Meta}
use Rattle.llvm_facts.specs.Module.{Module}
use Rattle.llvm_facts.specs.Rules.{module_of, entry_of, IsFirstByNumber, Broken as BreaksFactsOf}
use Rattle.llvm_facts.specs.Facts.{AreFacts}
use Rattle.llvm_facts.specs.declared.facts.Facts.{Facts}
use Rattle.llvm_shader.specs.declared.read.Shader.{Shader}

module _ (is : List Item) (fs : List ℕ) where
  -- N1 to N4, over the types and values of the module
  abbrev pub BreaksMetadata : ℕ → ℕ → Type 0
  BreaksMetadata rule bit = BreaksMetadataOf is fs (length (types_of is fs)) (length (values_of is fs (types_of is fs))) rule bit

  -- the lists by number of the module with this metadata, as the facts name them
  abbrev pub module_with : Meta → Module
  module_with meta = module_of meta (types_of is fs) (values_of is fs (types_of is fs))

  -- N5 to N9
  abbrev pub BreaksFacts : Meta → ℕ → ℕ → Type 0
  BreaksFacts meta rule bit = BreaksFactsOf (module_with meta) meta rule bit

  -- the shader is what the items state
  pub record IsShader (shader : Shader) : Type 0 where
    pub types : shader.types.list ≡ types_of is fs
    pub records : AreRecords is fs shader.records
    pub meta : Meta
    pub is_meta : IsMeta meta is fs
    pub facts : AreFacts shader.facts (module_with meta) (entry_of (module_with meta) meta)

  -- no layer is broken, and no limit is passed
  pub record AreSound : Type 0 where
    pub types : IsSound (BreaksTypes is fs)
    pub records : IsSound (BreaksRecords is fs)
    pub metadata : IsSound BreaksMetadata
    pub facts : (meta : Meta) → IsMeta meta is fs → IsSound (BreaksFacts meta)

  -- The first refusal: each layer is asked only where nothing before it is broken. Of the types, the records and the metadata the least bit counts, and
  -- there the least number; of the facts the least number, and there the least bit.
  pub data IsFirstRefusal : Fault → Type 0 where
    of_types : (rule bit : ℕ) → IsFirst (BreaksTypes is fs) rule bit → IsFirstRefusal (Refused (Y rule) bit)
    of_records : (rule bit : ℕ) → IsSound (BreaksTypes is fs) → IsFirst (BreaksRecords is fs) rule bit → IsFirstRefusal (fault_of rule bit)
    of_metadata : (rule bit : ℕ) → IsSound (BreaksTypes is fs) → IsSound (BreaksRecords is fs) → IsFirst BreaksMetadata rule bit → IsFirstRefusal (Refused (N rule) bit)
    of_facts : (meta : Meta) (rule bit : ℕ) → IsSound (BreaksTypes is fs) → IsSound (BreaksRecords is fs) → IsSound BreaksMetadata → IsMeta meta is fs → IsFirstByNumber (BreaksFacts meta) rule bit
        → IsFirstRefusal (Refused (N rule) bit)

  -- The shader where no layer is broken; else the first refusal, or want of memory.
  abbrev pub ShaderAnswer : Result Shader Fault → Type 0
  ShaderAnswer (Ok shader) = IsShader shader × AreSound
  ShaderAnswer (Err (Refused rule bit)) = IsFirstRefusal (Refused rule bit)
  ShaderAnswer (Err (Limit which bit)) = IsFirstRefusal (Limit which bit)
  ShaderAnswer (Err OutOfMemory) = Unit {0}

  -- ---- of the parts

  -- the facts are those of the metadata
  pub record HasFacts (facts : Facts) : Type 0 where
    pub meta : Meta
    pub is_meta : IsMeta meta is fs
    pub are_facts : AreFacts facts (module_with meta) (entry_of (module_with meta) meta)

  -- The facts where no layer is broken, types and records being sound; else the first refusal, or want of memory.
  abbrev pub FactsStand : Result Facts Fault → Type 0
  FactsStand (Ok facts) = HasFacts facts × AreSound
  FactsStand (Err (Refused rule bit)) = IsFirstRefusal (Refused rule bit)
  FactsStand (Err (Limit which bit)) = IsFirstRefusal (Limit which bit)
  FactsStand (Err OutOfMemory) = Unit {0}
