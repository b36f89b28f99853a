-- V3 and V4: definitions and uses of ids.
use Rattle.std.specs.Prelude.{ℕ, ◌≡◌, ◌<◌, ◌==◌, ◌||◌, ◌&&◌, nat_le, nat_lt, not, List, length, get_or, slice_get, Bool, true, false}
use Rattle.std.specs.Option.{option_map_or}
use Rattle.spv_form.specs.declared.module.Inst.{Inst}
use Rattle.spv_ids.specs.Roles.{operand, result_of, defines, Uses}
use Rattle.spv_ids.specs.Ids.{definer}
use Rattle.spv_ids.specs.Places.{stands_before, block_of}

-- V3: an instruction before the place defines the result of this one.
unfoldable pub is_defined_again : List Inst → ℕ → Inst → Bool
is_defined_again insts at x = option_map_or (λ id. stands_before (defines id) insts at) (result_of x) false

-- Name, EntryPoint, ExecutionMode, Decorate and MemberDecorate may use an id early.
abbrev pub is_excused : ℕ → Bool
is_excused op = op == 5 || op == 15 || op == 16 || op == 71 || op == 72

-- Variable: type, result, storage class
abbrev pub is_function_variable : Inst → Bool
is_function_variable x = x.opcode == 59 && operand x 2 == 7

-- The result of the instruction x at `place` may not be used at `at`, unless it is a label: it stands there or later, or it is no Function variable and
-- stands in another block.
unfoldable pub is_out_of_reach : List Inst → ℕ → ℕ → Inst → Bool
is_out_of_reach insts at place x = not (x.opcode == 248)
    && (nat_le at place || (not (is_function_variable x) && (nat_lt 0 (block_of insts place) && not (block_of insts place == block_of insts at))))

-- The instruction x at `at` may not use the id: it is not defined, or its first definition is out of reach.
unfoldable pub is_misused : List Inst → ℕ → Inst → ℕ → Bool
is_misused insts at x id = option_map_or (λ place. not (is_excused x.opcode) && option_map_or (is_out_of_reach insts at place) (slice_get insts place) false) (definer insts id) true

-- V4: the instruction uses such an id.
pub record Misuses (insts : List Inst) (at : ℕ) (x : Inst) : Type 0 where
  pub id : ℕ
  pub uses : Uses x id
  pub misused : is_misused insts at x id ≡ true

-- ---- a table of the blocks

pub record AreBlocks (insts : List Inst) (before : List ℕ) : Type 0 where
  pub length_is : length before ≡ length insts
  pub are : (k : ℕ) → k < length before → get_or before k 0 ≡ block_of insts k
