-- The operands of each opcode that a module may have (SPIR-V 1.6, section 3).
use Rattle.std.specs.Prelude.{ℕ, ◌==◌, ◌||◌, ◌&&◌, nat_le, Bool, true, false, Option, Some, None, option_map, if◌then◌else◌}
use Rattle.spv_form.specs.declared.shape.Shape.{Shape}
use Rattle.spv_form.specs.declared.shape.Shape.TheVariants.{Plain, Text, Pairs}

abbrev pub is_from : ℕ → ℕ → ℕ → Bool
is_from first last op = nat_le first op && nat_le op last

-- with no result: how many operands, and the bits of those that are numbers
abbrev pub plain : ℕ → ℕ → Shape
plain count numbers = Plain false false count count numbers

-- with a result
abbrev pub made : ℕ → ℕ → Shape
made count numbers = Plain false true count count numbers

-- with a type and a result
abbrev pub typed : ℕ → ℕ → Shape
typed count numbers = Plain true true count count numbers

abbrev pub without_result : ℕ → Option Shape
without_result op =
    -- Name: id, string
    if op == 5 then Some (Text 1 false 0) else
    -- MemoryModel: 2 numbers
    if op == 14 then Some (plain 2 3) else
    -- EntryPoint: number, id, string, ids
    if op == 15 then Some (Text 2 true 1) else
    -- ExecutionMode: id, 4 numbers
    if op == 16 then Some (plain 5 30) else
    -- Capability: number
    if op == 17 then Some (plain 1 1) else
    -- FunctionEnd
    if op == 56 then Some (plain 0 0) else
    -- Store: 2 ids
    if op == 62 then Some (plain 2 0) else
    -- Decorate: id, 1 or 2 numbers
    if op == 71 then Some (Plain false false 2 3 6) else
    -- MemberDecorate: id, 3 numbers
    if op == 72 then Some (plain 4 14) else
    -- ControlBarrier: 3 ids
    if op == 224 then Some (plain 3 0) else
    -- MemoryBarrier: 2 ids
    if op == 225 then Some (plain 2 0) else
    -- LoopMerge: 2 ids, number
    if op == 246 then Some (plain 3 4) else
    -- SelectionMerge: id, number
    if op == 247 then Some (plain 2 2) else
    -- Branch: id
    if op == 249 then Some (plain 1 0) else
    -- BranchConditional: 3 ids
    if op == 250 then Some (plain 3 0) else
    -- Switch: 2 ids, pairs of number and id
    if op == 251 then Some Pairs else
    -- Return
    if op == 253 then Some (plain 0 0) else None

abbrev pub with_result : ℕ → Option Shape
with_result op =
    -- TypeVoid, TypeBool
    if op == 19 || op == 20 then Some (made 0 0) else
    -- TypeInt: 2 numbers
    if op == 21 then Some (made 2 3) else
    -- TypeVector: id, number
    if op == 23 then Some (made 2 2) else
    -- TypeArray: 2 ids
    if op == 28 then Some (made 2 0) else
    -- TypeRuntimeArray: id
    if op == 29 then Some (made 1 0) else
    -- TypeStruct, TypeFunction: ids
    if op == 30 || op == 33 then Some (Plain false true 0 65535 0) else
    -- TypePointer: number, id
    if op == 32 then Some (made 2 1) else
    -- Label
    if op == 248 then Some (made 0 0) else None

-- how many ids stand behind type and result
abbrev pub id_count : ℕ → Option ℕ
id_count op =
    -- Load, LogicalNot, BitReverse, BitCount
    if op == 61 || op == 168 || op == 204 || op == 205 then Some 1 else
    -- IAdd, ISub, IMul
    if op == 128 || op == 130 || op == 132 then Some 2 else
    -- UDiv, SDiv, UMod, SRem
    if op == 134 || op == 135 || op == 137 || op == 138 then Some 2 else
    -- LogicalEqual, LogicalNotEqual, LogicalOr, LogicalAnd
    if is_from 164 167 op then Some 2 else
    -- IEqual, INotEqual, UGreaterThan, SGreaterThan, UGreaterThanEqual, SGreaterThanEqual, ULessThan, SLessThan, ULessThanEqual, SLessThanEqual
    if is_from 170 179 op then Some 2 else
    -- ShiftRightLogical, ShiftRightArithmetic, ShiftLeftLogical, BitwiseOr, BitwiseXor, BitwiseAnd
    if is_from 194 199 op then Some 2 else
    -- Select
    if op == 169 then Some 3 else
    -- AtomicExchange, and atomic IAdd, ISub, SMin, UMin, SMax, UMax, And, Or, Xor: pointer, scope, semantics, value
    if op == 229 || is_from 234 242 op then Some 4 else
    -- AtomicCompareExchange: pointer, scope, 2 semantics, value, comparator
    if op == 230 then Some 6 else None

abbrev pub with_type : ℕ → Option Shape
with_type op =
    -- ConstantTrue, ConstantFalse
    if op == 41 || op == 42 then Some (typed 0 0) else
    -- Constant: number
    if op == 43 then Some (typed 1 1) else
    -- Function: number, id
    if op == 54 then Some (typed 2 1) else
    -- Variable: number, optional id
    if op == 59 then Some (Plain true true 1 2 1) else
    -- AccessChain: ids
    if op == 65 then Some (Plain true true 0 65535 0) else
    -- ArrayLength, CompositeExtract: id, number
    if op == 68 || op == 81 then Some (typed 2 2) else
    option_map (λ count. typed count 0) (id_count op)

abbrev pub or_else : Option Shape → Option Shape → Option Shape
or_else (Some s) other = Some s
or_else None other = other

unfoldable pub shape_of : ℕ → Option Shape
shape_of op = or_else (or_else (without_result op) (with_result op)) (with_type op)
