-- The rules of the profile, P1 to P22, and the limit of resources: sentences of a line of the entry body and of the lines before it. Where several hold, the one of
-- least bit counts, and at one bit the one of least number. The limit has the number 23.
use Rattle.std.specs.Prelude.{ℕ, ◌+◌, ◌*◌, ◌/◌, ◌%◌, ◌^◌, ◌==◌, ◌&&◌, ◌||◌, List, [], ◌∷◌, ◌++◌, length, slice_get, Bool, true, false, not, nat_lt, nat_le, if◌then◌else◌, Option, Some, None, is_some}
use Rattle.std.specs.List.{list_any}
use Rattle.dx_base.specs.First.{IsBroken}
use Rattle.dx_base.specs.Sentences.{Stated}
use Rattle.dxil_form.specs.declared.op.OpKind.{OpKind}
use Rattle.dxil_form.specs.declared.op.OpKind.TheVariants.{CreateHandle, CBufferLoad, BufferLoad, BufferStore, AtomicBinOp, AtomicCompareExchange, Barrier, ThreadId, GroupId, ThreadIdInGroup, RawLoad, RawStore}
use Rattle.dxil_form.specs.declared.program.Class.{Class}
use Rattle.dxil_form.specs.declared.program.Class.TheVariants.{Srv, Uav, Cbv}
use Rattle.llvm_bodies.specs.declared.line.Line.{Line}
use Rattle.llvm_facts.specs.declared.facts.Row.{Row}
use Rattle.profile_lines.specs.Pool.{Pool, constant, constant_given}
use Rattle.profile_lines.specs.Calls.{operand, carried, plain, argument, arguments, is_named, opcode, operation}
use Rattle.profile_lines.specs.declared.call.Argument.{Argument}
use Rattle.profile_lines.specs.declared.call.Argument.TheVariants.{Constant}
use Rattle.profile_lines.specs.declared.known.ValueKind.TheVariants.{Int, Bool as BoolKind}
use Rattle.profile_tables.specs.EntryBody.{EntryBody, kind_at, setter}
use Rattle.profile_tables.specs.Kinds.{is_kind, is_plain}
use Rattle.profile_tables.specs.Places.{place_named, words_named}
use Rattle.profile_tables.specs.Resources.{row_named, row_at, handle_row, rows_named, class_number}
use Rattle.profile_tables.specs.Parts.{entries_of, cases_of, has_target, is_predecessor}
use Rattle.profile_tables.specs.Operands.{operand_of, is_same}
use Rattle.profile_tables.specs.declared.place.Place.{Place}
use Rattle.profile_rules.specs.Asked.{are_values, do_types_suit, are_asked, is_of_kind, kind_stated, phi_kind, fits}

-- ---- P1 to P9

-- P1: an operand's number is not below the body's values, or a type that the record carries for it has another kind, or its kind is not the one that its place asks.
abbrev pub p1 : EntryBody → Line → Bool
p1 x line = not (are_values x line) || not (do_types_suit x line) || not (are_asked x line)

-- P2: a BINOP's opcode is above 12, or below 10 on i1.
abbrev pub p2 : EntryBody → Line → Bool
p2 x line = line.code == 2 && (nat_lt 12 (plain line 0) || (nat_lt (plain line 0) 10 && is_of_kind x line 0 BoolKind))

-- P3: a CAST is neither trunc, 0, from i32 to i1 nor zext, 1, or sext, 2, from i1 to i32.
abbrev pub narrows : EntryBody → Line → Bool
narrows x line = plain line 0 == 0 && is_of_kind x line 0 Int && is_kind (kind_stated x (carried line 1)) BoolKind

abbrev pub widens : EntryBody → Line → Bool
widens x line = (plain line 0 == 1 || plain line 0 == 2) && is_of_kind x line 0 BoolKind && is_kind (kind_stated x (carried line 1)) Int

abbrev pub p3 : EntryBody → Line → Bool
p3 x line = line.code == 3 && not (narrows x line || widens x line)

-- P4: a predicate is not 32 to 41 on i32 or 32 or 33 on i1.
abbrev pub p4 : EntryBody → Line → Bool
p4 x line = line.code == 28 && (nat_lt (plain line 0) 32 || nat_lt 41 (plain line 0) || (nat_lt 33 (plain line 0) && is_of_kind x line 0 BoolKind))

-- P5: a PHI's type is neither i32 nor i1, its entries do not name exactly the predecessors, or two entries of one block differ as operands.
abbrev pub differ : EntryBody → (ℕ × ℕ) → (ℕ × ℕ) → Bool
differ x a b = a.1 == b.1 && not (is_same (operand_of x a.0) (operand_of x b.0))

abbrev pub is_entry : Line → ℕ → Bool
is_entry line block = list_any (λ e. e.1 == block) (entries_of line)

-- an entry names a block that is no predecessor
abbrev pub has_stranger : EntryBody → Line → Bool
has_stranger x line = list_any (λ e. not (is_predecessor x line.block e.1)) (entries_of line)

-- a line ends a predecessor that no entry names
abbrev pub lacks : Line → Line → Bool
lacks phi line = has_target phi.block line && not (is_entry phi line.block)

abbrev pub lacks_entry : EntryBody → Line → Bool
lacks_entry x line = list_any (lacks line) x.lines

abbrev pub are_at_odds : EntryBody → Line → Bool
are_at_odds x line = list_any (λ e. list_any (differ x e) (entries_of line)) (entries_of line)

abbrev pub p5 : EntryBody → Line → Bool
p5 x line = line.code == 16 && (not (is_plain (phi_kind x line)) || has_stranger x line || lacks_entry x line || are_at_odds x line)

-- P6: a RET has a value.
abbrev pub p6 : Line → Bool
p6 line = line.code == 10 && nat_lt 0 (length line.numbers)

-- P7: a SWITCH's type is not i32, a case is no i32 constant, or two cases are equal.
abbrev pub is_number : ℕ → Option ℕ → Bool
is_number n None = false
is_number n (Some m) = m == n

abbrev pub is_case : Pool → Option ℕ → ℕ × ℕ → Bool
is_case x None c = false
is_case x (Some n) c = is_number n (constant x 32 c.0)

abbrev pub have_equals : Pool → List (ℕ × ℕ) → Bool
have_equals x [] = false
have_equals x (c ∷ cs) = list_any (is_case x (constant x 32 c.0)) cs || have_equals x cs

abbrev pub p7 : EntryBody → Line → Bool
p7 x line = line.code == 12
    && (not (is_kind (kind_stated x (carried line 0)) Int) || list_any (λ c. not (is_some (constant x.pool 32 c.0))) (cases_of line) || have_equals x.pool (cases_of line))

-- P8: a target is block 0.
abbrev pub p8 : Line → Bool
p8 line = has_target 0 line

-- P9: the record is ALLOCA.
abbrev pub p9 : Line → Bool
p9 line = line.code == 19

-- ---- P10 to P12

-- P10: a place names a variable that is at fault, or a GEP is at fault.
abbrev pub is_unsound : Option Place → Bool
is_unsound None = false
is_unsound (Some place) = not place.sound

abbrev pub p10 : EntryBody → Line → Bool
p10 x line = is_unsound (place_named x line)

-- P11: the groupshared arrays named up to here pass 32,768 bytes, of which a word has four.
abbrev pub p11 : EntryBody → List Line → Line → Bool
p11 x before line = nat_lt 32768 (4 * words_named x (before ++ line ∷ []))

-- P12: a LOAD's type is not i32, or an ATOMICRMW's operation is 4 or above 10.
abbrev pub is_unlisted : ℕ → Bool
is_unlisted op = op == 4 || nat_lt 10 op

abbrev pub gives_word : EntryBody → Option ℕ → Bool
gives_word x None = false
gives_word x (Some v) = is_kind (kind_at x v) Int

abbrev pub p12 : EntryBody → Line → Bool
p12 x line = (line.code == 20 && not (gives_word x line.value)) || (line.code == 38 && is_unlisted (plain line 0))

-- ---- P13 to P17

abbrev pub is_call : Line → Bool
is_call line = line.code == 34

-- P13: the callee's name does not begin with `dx.op.`.
abbrev pub p13 : EntryBody → Line → Bool
p13 x line = is_call line && not (is_named x.pool line)

-- P14: the first argument is no i32 constant.
abbrev pub p14 : EntryBody → Line → Bool
p14 x line = is_call line && not (is_some (opcode x.pool line))

-- P15: the opcode is not in the table.
abbrev pub p15 : EntryBody → Line → Bool
p15 x line = is_call line && not (is_some (operation x.pool line))

-- P16: the number of arguments or the result type does not fit.
abbrev pub is_misfit : Pool → Line → Option OpKind → Bool
is_misfit x line None = false
is_misfit x line (Some op) = not (fits x line op)

abbrev pub p16 : EntryBody → Line → Bool
p16 x line = is_call line && is_misfit x.pool line (operation x.pool line)

-- P17: a constant argument is no constant, or out of its range.
abbrev pub is_given : Pool → Line → ℕ → Argument → Bool
is_given x line place (Constant width) = is_some (constant_given x width (slice_get line.numbers place))
is_given x line place other = true

abbrev pub are_given : Pool → Line → ℕ → List Argument → Bool
are_given x line place [] = true
are_given x line place (a ∷ rest) = is_given x line place a && are_given x line (place + 1) rest

-- a constant argument, by its place behind the opcode, is in this range
abbrev pub is_within : ℕ → ℕ → Option ℕ → Bool
is_within least most None = false
is_within least most (Some n) = nat_le least n && nat_le n most

abbrev pub is_in : Pool → Line → ℕ → ℕ → ℕ → ℕ → Bool
is_in x line n width least most = is_within least most (constant_given x width (argument line n))

-- class 0 to 2, non-uniform 0; mask 1 to 15; atomic kind 0 to 8; barrier mode 1 to 15; component 0 to 2
abbrev pub are_in_range : Pool → Line → OpKind → Bool
are_in_range x line CreateHandle = is_in x line 1 8 0 2 && is_in x line 4 1 0 0
are_in_range x line BufferStore = is_in x line 8 8 1 15
are_in_range x line AtomicBinOp = is_in x line 2 32 0 8
are_in_range x line Barrier = is_in x line 1 32 1 15
are_in_range x line ThreadId = is_in x line 1 32 0 2
are_in_range x line GroupId = is_in x line 1 32 0 2
are_in_range x line ThreadIdInGroup = is_in x line 1 32 0 2
are_in_range x line RawLoad = is_in x line 4 8 1 15
are_in_range x line RawStore = is_in x line 8 8 1 15
are_in_range x line other = true

abbrev pub has_bad_constant : Pool → Line → Option OpKind → Bool
has_bad_constant x line None = false
has_bad_constant x line (Some op) = not (are_given x line 2 (arguments op)) || not (are_in_range x line op)

abbrev pub p17 : EntryBody → Line → Bool
p17 x line = has_bad_constant x.pool line (operation x.pool line)

-- ---- P18 to P22

abbrev pub is_handle : Option OpKind → Bool
is_handle (Some CreateHandle) = true
is_handle other = false

-- P18: no row has that class and id.
abbrev pub p18 : EntryBody → Line → Bool
p18 x line = is_handle (operation x.pool line) && not (is_some (row_named x line))

-- P19: the row is at fault.
abbrev pub is_buffer : Class → Bool
is_buffer Srv = true
is_buffer Uav = true
is_buffer Cbv = false

abbrev pub is_stride : ℕ → Bool
is_stride n = not (n == 0) && nat_le n 2048 && n % 4 == 0

-- Its range size is 1, its lower bound is at most 2^30, and it is not ordered. The kind of an SRV or UAV is 11, raw, or 12, structured; the stride of a structured one
-- is 4 to 2,048 and a multiple of 4. A constant buffer has 1 to 65,536 bytes.
abbrev pub is_laid_out : Row → Bool
is_laid_out row = if is_buffer row.class then (row.kind == 11 || (row.kind == 12 && is_stride row.size)) else (not (row.size == 0) && nat_le row.size 65536)

abbrev pub is_sound_row : Row → Bool
is_sound_row row = row.range == 1 && nat_le row.lower (2 ^ 30) && not row.ordered && is_laid_out row

abbrev pub is_faulty : Option Row → Bool
is_faulty None = false
is_faulty (Some row) = not (is_sound_row row)

abbrev pub p19 : EntryBody → Line → Bool
p19 x line = is_faulty (row_at x (row_named x line))

-- P20: another row that an earlier record names has the same class, space and lower bound.
abbrev pub is_same_place : Row → Option Row → Bool
is_same_place a None = false
is_same_place a (Some b) = class_number a.class == class_number b.class && a.space == b.space && a.lower == b.lower

abbrev pub is_other_row : EntryBody → ℕ → Row → Option ℕ → Bool
is_other_row x r a None = false
is_other_row x r a (Some s) = not (r == s) && is_same_place a (slice_get x.rows s)

abbrev pub meets : EntryBody → List Line → ℕ → Option Row → Bool
meets x before r None = false
meets x before r (Some row) = list_any (λ line. is_other_row x r row (row_named x line)) before

abbrev pub is_met : EntryBody → List Line → Option ℕ → Bool
is_met x before None = false
is_met x before (Some r) = meets x before r (slice_get x.rows r)

abbrev pub p20 : EntryBody → List Line → Line → Bool
p20 x before line = is_met x before (row_named x line)

-- P21: the handle is not the result of a CreateHandle, or names no row of a class that fits: CBV for 59, SRV or UAV for 68 and 139, UAV for 69, 78, 79 and 140.
abbrev pub is_cbv : Option Row → Bool
is_cbv None = false
is_cbv (Some row) = class_number row.class == 2

abbrev pub is_loadable : Option Row → Bool
is_loadable None = false
is_loadable (Some row) = is_buffer row.class

abbrev pub is_writable : Option Row → Bool
is_writable None = false
is_writable (Some row) = class_number row.class == 1

abbrev pub suits_row : Option OpKind → Option Row → Bool
suits_row (Some CBufferLoad) row = is_cbv row
suits_row (Some BufferLoad) row = is_loadable row
suits_row (Some RawLoad) row = is_loadable row
suits_row (Some BufferStore) row = is_writable row
suits_row (Some AtomicBinOp) row = is_writable row
suits_row (Some AtomicCompareExchange) row = is_writable row
suits_row (Some RawStore) row = is_writable row
suits_row other row = true

abbrev pub p21 : EntryBody → Line → Bool
p21 x line = not (suits_row (operation x.pool line) (row_at x (handle_row x line)))

-- P22: an EXTRACTVAL has not one index, or takes from a load another part than 0 to 3 or than its mask allows, or from a CMPXCHG another part than 0 and 1.
abbrev pub has_bit : ℕ → ℕ → Bool
has_bit mask part = mask / 2 ^ part % 2 == 1

abbrev pub allows : Option ℕ → ℕ → Bool
allows None part = true
allows (Some mask) part = has_bit mask part

abbrev pub gives_part : Pool → Line → ℕ → Option OpKind → Bool
gives_part x line part (Some CBufferLoad) = nat_le part 3
gives_part x line part (Some BufferLoad) = nat_le part 3
gives_part x line part (Some RawLoad) = nat_le part 3 && allows (constant_given x 8 (argument line 4)) part
gives_part x line part other = true

abbrev pub has_part : EntryBody → ℕ → Option Line → Bool
has_part x part None = true
has_part x part (Some line) = if line.code == 46 then nat_le part 1 else gives_part x.pool line part (operation x.pool line)

abbrev pub p22 : EntryBody → Line → Bool
p22 x line = line.code == 26 && (not (length line.plain == 1) || not (has_part x (plain line 0) (setter x (operand line 0))))

-- The limit: different rows that handles name are at most 1,024.
abbrev pub many_resources : EntryBody → List Line → Line → Bool
many_resources x before line = nat_lt 1024 (rows_named x (before ++ line ∷ []))

-- ---- the layer

abbrev pub sentences : EntryBody → List Line → Line → List Bool
sentences x before line =
    p1 x line ∷ p2 x line ∷ p3 x line ∷ p4 x line ∷ p5 x line ∷ p6 line ∷ p7 x line ∷ p8 line ∷ p9 line
    ∷ p10 x line ∷ p11 x before line ∷ p12 x line ∷ p13 x line ∷ p14 x line ∷ p15 x line ∷ p16 x line ∷ p17 x line
    ∷ p18 x line ∷ p19 x line ∷ p20 x before line ∷ p21 x line ∷ p22 x line ∷ many_resources x before line ∷ []

abbrev pub bit_of_line : Line → ℕ
bit_of_line line = line.bit

-- a rule is broken at a bit
abbrev pub Broken : EntryBody → ℕ → ℕ → Type 0
Broken x rule bit = IsBroken bit_of_line (Stated (sentences x)) x.lines rule bit
