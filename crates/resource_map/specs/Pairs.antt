-- Bindings of resources, as sets and bindings by place.
use Rattle.std.specs.Prelude.{◌≡◌, ℕ, List, Some, slice_get}
use Rattle.resource_map.specs.declared.bindings.Binding.{Binding}

-- the set and the binding alone
abbrev pub pair_of : Binding → ℕ × ℕ
pair_of binding = (binding.set, binding.binding)

-- the binding at each place is that of the resource at this place
abbrev pub IsNumbered : List Binding → Type 0
IsNumbered bindings =
    (k : ℕ) (binding : Binding) → slice_get bindings k ≡ Some binding → binding.resource ≡ k
