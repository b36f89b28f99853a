-- The rules of the facts, N5 to N9: which of them is broken, at which bit. Where several are, the one of least number counts, and of one rule the least bit.
use Rattle.std.specs.Prelude.{ℕ, ◌≡◌, ◌<◌, ◌≤◌, List, [], unwrap_or}
use Rattle.llvm_nodes.specs.declared.item.Meta.{Meta}
use Rattle.llvm_types.specs.declared.kind.LlvmType.{LlvmType}
use Rattle.llvm_values.specs.declared.global.Global.{Global}
use Rattle.llvm_facts.specs.declared.roots.Root.TheVariants.{ShaderModel, EntryPoints}
use Rattle.llvm_facts.specs.Module.{Module}
use Rattle.llvm_facts.specs.Values.{node_by, bit_of}
use Rattle.llvm_facts.specs.Roots.{IsRootFault, entry_id}
use Rattle.llvm_facts.specs.Entry.{IsThreadsFault, IsCountsFault}
use Rattle.llvm_facts.specs.Rows.{IsListFault}

abbrev pub module_of : Meta → List LlvmType → List Global → Module
module_of meta types values = record { items = meta.list; bits = meta.bits; types = types; values = values }

-- the fields of the entry node, none where there is no such node, and its bit
abbrev pub entry_of : Module → Meta → List ℕ
entry_of m meta = unwrap_or (node_by m (entry_id meta.named)) []

abbrev pub entry_bit : Module → Meta → ℕ
entry_bit m meta = bit_of m (entry_id meta.named)

pub data Broken (m : Module) (meta : Meta) (rule at : ℕ) : Type 0 where
  -- N5: `dx.shaderModel` is missing, stands twice, or is not one node of the text `cs`, 6 and a number up to 2.
  shader_model : rule ≡ 5 → IsRootFault m ShaderModel meta.named meta.end at → Broken m meta rule at
  -- N6: `dx.entryPoints` is missing, stands twice, or is not one node of at least five fields whose first is a function with a body and of type `void ()`.
  entry_points : rule ≡ 6 → IsRootFault m EntryPoints meta.named meta.end at → Broken m meta rule at
  -- N7: the fifth field of the entry node does not tell three thread counts.
  no_threads : rule ≡ 7 → IsThreadsFault m (entry_of m meta) (entry_bit m meta) at → Broken m meta rule at
  -- N8: the thread counts are out of bounds.
  outside : rule ≡ 8 → IsCountsFault m (entry_of m meta) at → Broken m meta rule at
  -- N9: the fourth field of the entry node or a row of its first three lists is at fault.
  rows : rule ≡ 9 → IsListFault m (entry_of m meta) (entry_bit m meta) at → Broken m meta rule at

-- of the broken rules the one of least number, and of its bits the least
pub record IsFirstByNumber (Broken : ℕ → ℕ → Type 0) (rule bit : ℕ) : Type 0 where
  pub broken : Broken rule bit
  pub least : (at : ℕ) → Broken rule at → bit ≤ at
  pub none : (other at : ℕ) → other < rule → Broken other at → ⊥
