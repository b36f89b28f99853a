-- Where the ids of a module are defined. Where an id is defined twice, its first definition counts.
use Rattle.std.specs.Prelude.{ℕ, List, slice_get, Option, ◌≡◌, position, option_and_then}
use Rattle.std.specs.Option.{option_map, option_to_list}
use Rattle.key_places.specs.Places.{first_place, AreInOrder}
use Rattle.spv_form.specs.declared.module.Inst.{Inst}
use Rattle.spv_ids.specs.Roles.{defines, result_of}

-- the place of the first instruction that defines the id, and that instruction
abbrev pub definer : List Inst → ℕ → Option ℕ
definer insts id = position (defines id) insts

unfoldable pub definition : List Inst → ℕ → Option Inst
definition insts id = option_and_then (slice_get insts) (definer insts id)

-- the id that an instruction at this place defines, with the place
abbrev pub defined_at : ℕ → Inst → List (ℕ × ℕ)
defined_at at x = option_to_list (option_map (λ id. (id, at)) (result_of x))

-- pairs of an id and a place, in order, that have each id first where it is defined
pub record AreDefinitions (insts : List Inst) (pairs : List (ℕ × ℕ)) : Type 0 where
  pub ordered : AreInOrder pairs
  pub first : (id : ℕ) → first_place pairs id ≡ definer insts id
