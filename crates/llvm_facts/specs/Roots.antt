-- The two named nodes that a compute shader has (LLVM bitcode of DXIL, "Metadata"): `dx.shaderModel` and `dx.entryPoints`.
use Rattle.std.specs.Prelude.{ℕ, ◌≡◌, ◌==◌, ◌&&◌, ◌||◌, ◌⊎◌, List, length, get_or, Bool, false, not, nat_eq, nat_le, codes, Option, Some, None, is_some, find}
use Rattle.std.specs.List.{list_any}
use Rattle.std.specs.Cmp.Lexicographic.{pointwise}
use Rattle.llvm_nodes.specs.declared.item.Named.{Named}
use Rattle.llvm_facts.specs.declared.lookup.Whole.{Whole}
use Rattle.llvm_facts.specs.declared.roots.Root.{Root}
use Rattle.llvm_facts.specs.declared.roots.Root.TheVariants.{ShaderModel, EntryPoints}
use Rattle.llvm_facts.specs.Module.{Module}
use Rattle.llvm_facts.specs.Faults.{IsFault}
use Rattle.llvm_facts.specs.Values.{node_by, text_at, constant_at, body_at}

abbrev pub name_of : Root → List ℕ
name_of ShaderModel = codes "dx.shaderModel"
name_of EntryPoints = codes "dx.entryPoints"

abbrev pub is_text : List ℕ → Option (List ℕ) → Bool
is_text wanted None = false
is_text wanted (Some text) = pointwise nat_eq text wanted

abbrev pub is_number : ℕ → Option Whole → Bool
is_number wanted None = false
is_number wanted (Some constant) = constant.number == wanted

abbrev pub is_at_most : ℕ → Option Whole → Bool
is_at_most most None = false
is_at_most most (Some constant) = nat_le constant.number most

-- the text `cs`, 6 and a number up to 2
abbrev pub names_model : Module → Option (List ℕ) → Bool
names_model m None = false
names_model m (Some fields) =
    length fields == 3
    && is_text (codes "cs") (text_at m (get_or fields 0 0))
    && is_number 6 (constant_at m (get_or fields 1 0))
    && is_at_most 2 (constant_at m (get_or fields 2 0))

-- at least five fields, the first of them a function with a body and of the type `void ()`
abbrev pub names_entry : Module → Option (List ℕ) → Bool
names_entry m None = false
names_entry m (Some fields) = nat_le 5 (length fields) && is_some (body_at m (get_or fields 0 0))

abbrev pub names_root : Module → Root → Option (List ℕ) → Bool
names_root m ShaderModel fields = names_model m fields
names_root m EntryPoints fields = names_entry m fields

-- it has one node, and that is of its form
abbrev pub is_formed : Module → Root → List ℕ → Bool
is_formed m root nodes = length nodes == 1 && names_root m root (node_by m (get_or nodes 0 0))

abbrev pub has_name : Root → Named → Bool
has_name root named = pointwise nat_eq named.name (name_of root)

-- A named node of the name is at fault behind another one of it, or where it is not of its form.
abbrev pub is_at_fault : Module → Root → List Named → Named → Bool
is_at_fault m root before named = has_name root named && (list_any (has_name root) before || not (is_formed m root named.nodes))

abbrev pub bit_of_named : Named → ℕ
bit_of_named named = named.bit

-- The named node is missing, which is told at the module's end, or one of its name is at fault.
abbrev pub IsRootFault : Module → Root → List Named → ℕ → ℕ → Type 0
IsRootFault m root named end at =
    ((list_any (has_name root) named ≡ false) × (at ≡ end)) ⊎ IsFault bit_of_named (is_at_fault m root) named at

-- the number of the first node of the first named node `dx.entryPoints`
abbrev pub first_node : Option Named → ℕ
first_node None = 0
first_node (Some named) = get_or named.nodes 0 0

abbrev pub entry_id : List Named → ℕ
entry_id named = first_node (find (has_name EntryPoints) named)
