-- The calls of DXIL operations (DXIL.rst, "Operations"): of which operation a line is a call, what it takes, and what it gives.
use Rattle.std.specs.Prelude.{ℕ, ◌+◌, ◌==◌, ◌&&◌, List, [], ◌∷◌, get_or, slice_get, codes, nat_eq, Bool, if◌then◌else◌, Option, Some, None, option_map, find}
use Rattle.std.specs.List.{starts_with}
use Rattle.dxil_form.specs.Operations.{code_of}
use Rattle.dxil_form.specs.declared.op.OpKind.{OpKind}
use Rattle.dxil_form.specs.declared.op.OpKind.TheVariants.{Bfrev, Countbits, IMax, IMin, UMax, UMin, IMad, UMad, CreateHandle, CBufferLoad, BufferLoad, BufferStore, AtomicBinOp, AtomicCompareExchange, Barrier, ThreadId, GroupId, ThreadIdInGroup, FlatId, RawLoad, RawStore}
use Rattle.llvm_bodies.specs.declared.line.Line.{Line}
use Rattle.llvm_values.specs.declared.global.Global.{Global}
use Rattle.llvm_values.specs.declared.global.Global.TheVariants.{Function}
use Rattle.profile_lines.specs.Pool.{Pool, stated, constant_given}
use Rattle.profile_lines.specs.declared.call.Argument.{Argument}
use Rattle.profile_lines.specs.declared.call.Argument.TheVariants.{Handle, Number, Constant}
use Rattle.profile_lines.specs.declared.call.Outcome.{Outcome}
use Rattle.profile_lines.specs.declared.call.Outcome.TheVariants as gives

-- ---- the places of a line

-- the number at an operand place
abbrev pub operand : Line → ℕ → ℕ
operand line place = get_or line.numbers place 0

-- the type number that the record carries at an operand place
abbrev pub carried : Line → ℕ → Option ℕ
carried line place = option_map (λ p. p.1) (find (λ p. p.0 == place) line.types)

-- the other fields
abbrev pub plain : Line → ℕ → ℕ
plain line place = get_or line.plain place 0

-- a call names its callee first, and then its arguments; the first of them is the opcode
abbrev pub argument : Line → ℕ → Option ℕ
argument line n = slice_get line.numbers (n + 1)

-- ---- operations

abbrev pub operations : List OpKind
operations =
    Bfrev ∷ Countbits ∷ IMax ∷ IMin ∷ UMax ∷ UMin ∷ IMad ∷ UMad ∷ CreateHandle ∷ CBufferLoad ∷ BufferLoad ∷ BufferStore ∷ AtomicBinOp ∷ AtomicCompareExchange
    ∷ Barrier ∷ ThreadId ∷ GroupId ∷ ThreadIdInGroup ∷ FlatId ∷ RawLoad ∷ RawStore ∷ []

-- the operation with an opcode
abbrev pub operation_of : Option ℕ → Option OpKind
operation_of None = None
operation_of (Some code) = find (λ op. code_of op == code) operations

abbrev pub name_of : Option Global → List ℕ
name_of (Some (Function ty body name bit)) = name
name_of other = []

-- the callee's name begins with `dx.op.`
abbrev pub is_named : Pool → Line → Bool
is_named x line = starts_with nat_eq (name_of (stated x (operand line 0))) (codes "dx.op.")

-- the opcode of a call: its first argument, which is an `i32` constant
abbrev pub opcode : Pool → Line → Option ℕ
opcode x line = constant_given x 32 (argument line 0)

-- The operation that a line calls: it is a CALL, its callee's name begins with `dx.op.`, and its opcode is listed.
unfoldable pub operation : Pool → Line → Option OpKind
operation x line = if line.code == 34 && is_named x line then operation_of (opcode x line) else None

-- What an operation takes behind its opcode: handles, `i32` values, and constants of so many bits.
abbrev pub arguments : OpKind → List Argument
arguments Bfrev = Number ∷ []
arguments Countbits = Number ∷ []
arguments IMax = Number ∷ Number ∷ []
arguments IMin = Number ∷ Number ∷ []
arguments UMax = Number ∷ Number ∷ []
arguments UMin = Number ∷ Number ∷ []
arguments IMad = Number ∷ Number ∷ Number ∷ []
arguments UMad = Number ∷ Number ∷ Number ∷ []
-- class, id of the row, index, non-uniform
arguments CreateHandle = Constant 8 ∷ Constant 32 ∷ Constant 32 ∷ Constant 1 ∷ []
-- row
arguments CBufferLoad = Handle ∷ Number ∷ []
-- two coordinates
arguments BufferLoad = Handle ∷ Number ∷ Number ∷ []
-- two coordinates, four values, mask
arguments BufferStore = Handle ∷ Number ∷ Number ∷ Number ∷ Number ∷ Number ∷ Number ∷ Constant 8 ∷ []
-- kind, two coordinates, an unread one, value
arguments AtomicBinOp = Handle ∷ Constant 32 ∷ Number ∷ Number ∷ Number ∷ Number ∷ []
-- two coordinates, an unread one, compare, value
arguments AtomicCompareExchange = Handle ∷ Number ∷ Number ∷ Number ∷ Number ∷ Number ∷ []
-- mode
arguments Barrier = Constant 32 ∷ []
-- component
arguments ThreadId = Constant 32 ∷ []
arguments GroupId = Constant 32 ∷ []
arguments ThreadIdInGroup = Constant 32 ∷ []
arguments FlatId = []
-- two coordinates, mask, alignment
arguments RawLoad = Handle ∷ Number ∷ Number ∷ Constant 8 ∷ Constant 32 ∷ []
-- two coordinates, four values, mask, alignment
arguments RawStore = Handle ∷ Number ∷ Number ∷ Number ∷ Number ∷ Number ∷ Number ∷ Constant 8 ∷ Constant 32 ∷ []

abbrev pub outcome : OpKind → Outcome
outcome Bfrev = gives.Number
outcome Countbits = gives.Number
outcome IMax = gives.Number
outcome IMin = gives.Number
outcome UMax = gives.Number
outcome UMin = gives.Number
outcome IMad = gives.Number
outcome UMad = gives.Number
outcome CreateHandle = gives.Handle
outcome CBufferLoad = gives.Parts
outcome BufferLoad = gives.Parts
outcome BufferStore = gives.Nothing
outcome AtomicBinOp = gives.Number
outcome AtomicCompareExchange = gives.Number
outcome Barrier = gives.Nothing
outcome ThreadId = gives.Number
outcome GroupId = gives.Number
outcome ThreadIdInGroup = gives.Number
outcome FlatId = gives.Number
outcome RawLoad = gives.Parts
outcome RawStore = gives.Nothing
