-- V1: the order of a module's instructions.
use Rattle.std.specs.Prelude.{ℕ, ◌≡◌, ◌==◌, ◌||◌, nat_le, List, take, slice_get, Bool, Option, Some, None, option_and_then, if◌then◌else◌}
use Rattle.std.specs.List.{fold}
use Rattle.spv_form.specs.declared.module.Inst.{Inst}
use Rattle.spv_ids.specs.Roles.{operand}
use Rattle.order_rules.specs.declared.order.Phase.{Phase}
use Rattle.order_rules.specs.declared.order.Phase.TheVariants.{Global, Function, Block, Closed}

-- The part of the order before the function that an instruction belongs to: Capability, MemoryModel, EntryPoint, ExecutionMode, Name, decorations, and
-- types with constants and global variables. A variable of class Function belongs to none.
unfoldable pub part : Inst → Option ℕ
part x =
    if x.opcode == 17 then Some 0 else
    if x.opcode == 14 then Some 1 else
    if x.opcode == 15 then Some 2 else
    if x.opcode == 16 then Some 3 else
    if x.opcode == 5 then Some 4 else
    -- Decorate, MemberDecorate
    if x.opcode == 71 || x.opcode == 72 then Some 5 else
    -- TypeVoid, TypeBool, TypeInt, TypeVector
    if x.opcode == 19 || x.opcode == 20 || x.opcode == 21 || x.opcode == 23 then Some 6 else
    -- TypeArray, TypeRuntimeArray, TypeStruct, TypePointer, TypeFunction
    if x.opcode == 28 || x.opcode == 29 || x.opcode == 30 || x.opcode == 32 || x.opcode == 33 then Some 6 else
    -- ConstantTrue, ConstantFalse, Constant
    if x.opcode == 41 || x.opcode == 42 || x.opcode == 43 then Some 6 else
    -- Variable: type, result, storage class
    if x.opcode == 59 then (if operand x 2 == 7 then None else Some 6) else
    None

-- Branch, BranchConditional, Switch, Return
abbrev pub is_terminator : ℕ → Bool
is_terminator op = op == 249 || op == 250 || op == 251 || op == 253

-- before the function, in a part: no earlier part may follow
abbrev pub follow_global : ℕ → Inst → Option ℕ → Option Phase
follow_global k x None = if x.opcode == 54 then Some Function else None
follow_global k x (Some n) = if nat_le k n then Some (Global n) else None

-- in a block: no part of before the function, and no Function, FunctionEnd or Label
abbrev pub follow_block : Inst → Option ℕ → Option Phase
follow_block x None =
    if is_terminator x.opcode then Some Function else
    if x.opcode == 54 || x.opcode == 56 || x.opcode == 248 then None else
    Some Block
follow_block x (Some n) = None

-- where an instruction leads; None where it can't follow
abbrev pub follow : Phase → Inst → Option Phase
follow (Global k) x = follow_global k x (part x)
-- between the blocks of the function
follow Function x = if x.opcode == 248 then Some Block else if x.opcode == 56 then Some Closed else None
follow Block x = follow_block x (part x)
follow Closed x = None

-- where some instructions lead; None where one of them can't follow those before it
abbrev pub phase_behind : List Inst → Option Phase
phase_behind insts = fold (λ o x. option_and_then (λ p. follow p x) o) (Some (Global 0)) insts

-- the instruction at a place is the first that can't follow those before it
pub record OutOfOrder (insts : List Inst) (at : ℕ) : Type 0 where
  pub inst : Inst
  pub phase : Phase
  pub there : slice_get insts at ≡ Some inst
  pub reached : phase_behind (take at insts) ≡ Some phase
  pub stuck : follow phase inst ≡ None

-- it is the one place of which this holds; None where it holds of none
pub record IsThePlace (Holds : ℕ → Type 0) (place : Option ℕ) : Type 0 where
  pub holds : (at : ℕ) → place ≡ Some at → Holds at
  pub only : (at : ℕ) → Holds at → place ≡ Some at
