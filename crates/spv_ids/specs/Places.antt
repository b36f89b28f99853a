-- Where instructions stand among those of a module.
use Rattle.std.specs.Prelude.{ℕ, ◌==◌, nat_lt, List, take, Option, Bool, false, count_by}
use Rattle.std.specs.Option.{option_map_or}
use Rattle.std.specs.List.{list_any}
use Rattle.spv_form.specs.declared.module.Inst.{Inst}

abbrev pub is_op : ℕ → Inst → Bool
is_op op x = x.opcode == op

-- there is a place, and it is before this one
abbrev pub is_before : ℕ → Option ℕ → Bool
is_before at place = option_map_or (λ j. nat_lt j at) place false

-- the place is this one
abbrev pub is_there : ℕ → Option ℕ → Bool
is_there at place = option_map_or (λ j. j == at) place false

-- an instruction that passes the test stands before this place
abbrev pub stands_before : (Inst → Bool) → List Inst → ℕ → Bool
stands_before test insts at = list_any test (take at insts)

-- How many labels stand before this place. An instruction that is no label stands in the block of the last of them, and in none where it is 0.
unfoldable pub block_of : List Inst → ℕ → ℕ
block_of insts at = count_by (is_op 248) (take at insts)
