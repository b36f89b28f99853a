-- V6: operands and result types fit.
use Rattle.std.specs.Prelude.{ℕ, ◌==◌, ◌&&◌, ◌||◌, nat_le, nat_lt, List, [], ◌∷◌, drop, Bool, true, false, length, if◌then◌else◌}
use Rattle.std.specs.List.{list_all}
use Rattle.std.specs.Option.{option_map_or}
use Rattle.spv_form.specs.declared.module.Inst.{Inst}
use Rattle.spv_form.specs.Shapes.{is_from}
use Rattle.spv_ids.specs.Roles.{operand}
use Rattle.type_rules.specs.Types.{is_defined_as, is_int, is_bool}
use Rattle.type_rules.specs.Values.{value_type, has_type, is_int_value, is_bool_value, is_constant, is_label, pointer_type, pointer_of, points_to, points_to_int, points_to_runtime_array, leads}
use Rattle.type_rules.specs.declared.group.Group.{Group}
use Rattle.type_rules.specs.declared.group.Group.TheVariants.{Arithmetic, Bits, Compare, Logic, Not, Select, Truth, Number, Function, Variable, Load, Store, Chain, Length, Extract, Atomic, Exchange, ControlBarrier, MemoryBarrier, LoopMerge, Target, Conditional, Switch, Other}

unfoldable pub group_of : ℕ → Group
group_of op =
    -- IAdd, ISub, IMul
    if op == 128 || op == 130 || op == 132 then Arithmetic else
    -- UDiv, SDiv, UMod, SRem
    if op == 134 || op == 135 || op == 137 || op == 138 then Arithmetic else
    -- ShiftRightLogical, ShiftRightArithmetic, ShiftLeftLogical, BitwiseOr, BitwiseXor, BitwiseAnd
    if is_from 194 199 op then Arithmetic else
    -- BitReverse, BitCount
    if op == 204 || op == 205 then Bits else
    -- IEqual, INotEqual, UGreaterThan, SGreaterThan, UGreaterThanEqual, SGreaterThanEqual, ULessThan, SLessThan, ULessThanEqual, SLessThanEqual
    if is_from 170 179 op then Compare else
    -- LogicalEqual, LogicalNotEqual, LogicalOr, LogicalAnd
    if is_from 164 167 op then Logic else
    if op == 168 then Not else
    if op == 169 then Select else
    -- ConstantTrue, ConstantFalse
    if op == 41 || op == 42 then Truth else
    -- Constant
    if op == 43 then Number else
    if op == 54 then Function else
    if op == 59 then Variable else
    if op == 61 then Load else
    if op == 62 then Store else
    -- AccessChain
    if op == 65 then Chain else
    -- ArrayLength
    if op == 68 then Length else
    -- CompositeExtract
    if op == 81 then Extract else
    -- AtomicExchange, and atomic IAdd, ISub, SMin, UMin, SMax, UMax, And, Or, Xor
    if op == 229 || is_from 234 242 op then Atomic else
    -- AtomicCompareExchange
    if op == 230 then Exchange else
    if op == 224 then ControlBarrier else
    if op == 225 then MemoryBarrier else
    if op == 246 then LoopMerge else
    -- SelectionMerge, Branch
    if op == 247 || op == 249 then Target else
    -- BranchConditional
    if op == 250 then Conditional else
    if op == 251 then Switch else
    Other

-- type, result, then two integers
unfoldable pub both_ints : List Inst → Inst → Bool
both_ints insts x = is_int_value insts (operand x 2) && is_int_value insts (operand x 3)

unfoldable pub both_bools : List Inst → Inst → Bool
both_bools insts x = is_bool_value insts (operand x 2) && is_bool_value insts (operand x 3)

-- Select: type, result, condition, and two arms of its type
unfoldable pub select_fits : List Inst → Inst → Bool
select_fits insts x = is_bool_value insts (operand x 2) && (has_type insts (operand x 0) (operand x 3) && has_type insts (operand x 0) (operand x 4))

-- Function: type, result, control, and a function type with that result
unfoldable pub function_fits : List Inst → Inst → Bool
function_fits insts x = is_defined_as insts (operand x 3) (λ f. f.opcode == 33 && operand f 1 == operand x 0)

-- Variable: type, result, storage class, and perhaps an initializer. The type is a pointer of that class, and the initializer is of its pointee.
unfoldable pub variable_fits : List Inst → Inst → Bool
variable_fits insts x = option_map_or (λ p. operand p 1 == operand x 2 && (nat_le (length x.operands) 3 || has_type insts (operand p 2) (operand x 3))) (pointer_type insts (operand x 0)) false

-- Store: a pointer, and a value of its pointee
unfoldable pub store_fits : List Inst → Inst → Bool
store_fits insts x = option_map_or (λ t. points_to insts t (operand x 0)) (value_type insts (operand x 1)) false

-- the indices of an access chain lead from the one pointer's pointee to the other's
unfoldable pub leads_to : List Inst → Inst → Inst → Inst → Bool
leads_to insts x base pointer = option_map_or (λ t. t == operand pointer 2) (leads insts (operand base 2) (drop 3 x.operands)) false

-- AccessChain: type, result, base and indices. Type and base are pointers of one class, and the indices lead from the base's pointee to the type's.
unfoldable pub chain_fits : List Inst → Inst → Bool
chain_fits insts x = nat_le 3 (length x.operands) && option_map_or (λ pointer. option_map_or (λ base.
    operand pointer 1 == operand base 1 && leads_to insts x base pointer) (pointer_of insts (operand x 2)) false) (pointer_type insts (operand x 0)) false

-- ArrayLength: type, result, pointer and number. The type is the integer, the pointer is to a structure of one runtime array, and the number is that of its member, 0.
unfoldable pub length_fits : List Inst → Inst → Bool
length_fits insts x = is_int insts (operand x 0) && (points_to_runtime_array insts (operand x 2) && operand x 3 == 0)

-- CompositeExtract: type, result, vector and number. The type is the integer that the vector has, and the number is below its count.
unfoldable pub extract_fits : List Inst → Inst → Bool
extract_fits insts x = is_int insts (operand x 0) && option_map_or (λ t. is_defined_as insts t (λ v.
    v.opcode == 23 && (operand v 1 == operand x 0 && nat_lt (operand x 3) (operand v 2)))) (value_type insts (operand x 2)) false

-- atomics: type, result, pointer, scope, semantics
unfoldable pub atomic_fits : List Inst → Inst → Bool
atomic_fits insts x = is_int insts (operand x 0) && (points_to_int insts (operand x 2) && (is_constant insts (operand x 3) && is_constant insts (operand x 4)))

-- AtomicCompareExchange: behind them the other semantics, value and comparator
unfoldable pub exchange_fits : List Inst → Inst → Bool
exchange_fits insts x = is_constant insts (operand x 5) && (is_int_value insts (operand x 6) && is_int_value insts (operand x 7))

-- the second words of pairs
abbrev pub seconds : List ℕ → List ℕ
seconds [] = []
seconds (n ∷ []) = []
seconds (n ∷ l ∷ ps) = l ∷ seconds ps

-- Switch: selector, default, and pairs of a number and a label
unfoldable pub switch_fits : List Inst → Inst → Bool
switch_fits insts x = is_int_value insts (operand x 0) && list_all (is_label insts) (seconds x.operands)

abbrev pub fits_as : List Inst → Inst → Group → Bool
fits_as insts x Arithmetic = is_int insts (operand x 0) && both_ints insts x
fits_as insts x Bits = is_int insts (operand x 0) && is_int_value insts (operand x 2)
fits_as insts x Compare = is_bool insts (operand x 0) && both_ints insts x
fits_as insts x Logic = is_bool insts (operand x 0) && both_bools insts x
fits_as insts x Not = is_bool insts (operand x 0) && is_bool_value insts (operand x 2)
fits_as insts x Select = select_fits insts x
fits_as insts x Truth = is_bool insts (operand x 0)
fits_as insts x Number = is_int insts (operand x 0)
fits_as insts x Function = function_fits insts x
fits_as insts x Variable = variable_fits insts x
-- Load: type, result, pointer to the type
fits_as insts x Load = points_to insts (operand x 0) (operand x 2)
fits_as insts x Store = store_fits insts x
fits_as insts x Chain = chain_fits insts x
fits_as insts x Length = length_fits insts x
fits_as insts x Extract = extract_fits insts x
fits_as insts x Atomic = atomic_fits insts x && is_int_value insts (operand x 5)
fits_as insts x Exchange = atomic_fits insts x && exchange_fits insts x
-- scopes, semantics
fits_as insts x ControlBarrier = is_constant insts (operand x 0) && (is_constant insts (operand x 1) && is_constant insts (operand x 2))
fits_as insts x MemoryBarrier = is_constant insts (operand x 0) && is_constant insts (operand x 1)
fits_as insts x LoopMerge = is_label insts (operand x 0) && is_label insts (operand x 1)
fits_as insts x Target = is_label insts (operand x 0)
fits_as insts x Conditional = is_bool_value insts (operand x 0) && (is_label insts (operand x 1) && is_label insts (operand x 2))
fits_as insts x Switch = switch_fits insts x
fits_as insts x Other = true

unfoldable pub fits : List Inst → Inst → Bool
fits insts x = fits_as insts x (group_of x.opcode)
