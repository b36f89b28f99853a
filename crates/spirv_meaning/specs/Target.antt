-- What a SPIR-V module does: the machine of one invocation, over the decoded instructions.
--
-- Source: SPIR-V 1.6, by the name of each instruction, decoration, storage class, built-in and scope. A form that is not listed here is a wrong step.
use Rattle.std.specs.Prelude.{ℕ, zero, suc, ◌+◌, ◌*◌, ◌/◌, ◌%◌, Bool, true, false, ◌&&◌, ◌||◌, not, List, [], ◌∷◌, ◌++◌, drop, Option, Some, None, nat_eq, nat_lt, nat_le, if◌then◌else◌, slice_get, slice_index, bit_and, bit_or, bit_xor, option_map, option_and_then}
use Rattle.dxil_form.specs.declared.instr.AtomicOp.{AtomicOp}
use Rattle.dxil_form.specs.declared.instr.AtomicOp.TheVariants as atomic
use Rattle.dxil_form.specs.declared.instr.Scope.{Scope}
use Rattle.dxil_form.specs.declared.instr.Scope.TheVariants.{Nobody, Group, Device}
use Rattle.spv_form.specs.declared.module.Inst.{Inst}
use Rattle.spv_form.specs.declared.module.Module.{Module}
use Rattle.dxil_meaning.specs.Arithmetic.{word_add, word_sub, word_mul, word_shl, word_shr, word_sar, word_sdiv, word_srem, signed_lt, word_reverse, word_count, is_overflowing, unless}
use Rattle.dxil_meaning.specs.Source.{Launch, coordinate, product}
use Rattle.dxil_meaning.specs.Launches as launch
use Rattle.dxil_meaning.specs.Launches.{Step, Wrong, Quiet, Acts, Machine, Place, End}
use Rattle.spirv_meaning.specs.Names.{is_some_at, label_of, begun_at}
use Rattle.spirv_meaning.specs.Bindings.{Bindings, resource_at}

-- ---- values

-- a pointer is the variable that it goes to and the indices on the way
pub data Value : Type 0 where
  Word : ℕ → Value
  Truth : Bool → Value
  Vector : List ℕ → Value
  Pointer : (variable : ℕ) → (indices : List ℕ) → Value

abbrev pub as_word : Option Value → Option ℕ
as_word (Some (Word n)) = Some n
as_word _ = None

abbrev pub as_truth : Option Value → Option Bool
as_truth (Some (Truth b)) = Some b
as_truth _ = None

-- ---- what the instructions before the function declare

-- where an instruction's result stands among its operands; none where it has none, or is not told here
abbrev pub result_of : Inst → Option ℕ
result_of inst =
    if nat_le inst.opcode 33 && nat_le 19 inst.opcode || nat_eq inst.opcode 248 then slice_get inst.operands 0
    else (if nat_eq inst.opcode 41 || nat_eq inst.opcode 42 || nat_eq inst.opcode 43 || nat_eq inst.opcode 59 then slice_get inst.operands 1 else None)

-- the instruction that declares an id: the first one, should there be several
abbrev pub declared : List Inst → ℕ → Option Inst
declared [] id = None
declared (i ∷ is) id = if is_some_at (result_of i) id then Some i else declared is id

-- the operand of the declaration of an id, where that has this opcode
abbrev pub operand_in : Option Inst → ℕ → ℕ → Option ℕ
operand_in None opcode place = None
operand_in (Some i) opcode place = if nat_eq i.opcode opcode then slice_get i.operands place else None

abbrev pub declared_operand : Module → ℕ → ℕ → ℕ → Option ℕ
declared_operand m opcode place id = operand_in (declared m.insts id) opcode place

-- the value of a constant or a variable
abbrev pub fixed_value : Option Inst → ℕ → Option Value
fixed_value None id = None
fixed_value (Some i) id =
    if nat_eq i.opcode 43 then option_map Word (slice_get i.operands 2)
    else
    (if nat_eq i.opcode 41 then Some (Truth true)
    else (if nat_eq i.opcode 42 then Some (Truth false) else (if nat_eq i.opcode 59 then Some (Pointer id []) else None)))

-- the storage class of a variable
abbrev pub storage : Module → ℕ → Option ℕ
storage m variable = declared_operand m 59 2 variable

-- the type that a variable's pointer goes to
abbrev pub pointee : Module → ℕ → Option ℕ
pointee m variable = option_and_then (declared_operand m 32 2) (declared_operand m 59 0 variable)

-- the integer type
abbrev pub is_integer : Module → ℕ → Bool
is_integer m type = is_some_at (declared_operand m 21 1 type) 32

-- the value is of an integer type or of the type of truth values, as this type says
abbrev pub has_type : Module → Option ℕ → Value → Bool
has_type m (Some type) (Word n) = is_integer m type
has_type m (Some type) (Truth b) = is_some_at (declared_operand m 20 0 type) type
has_type m _ v = false

-- a decoration of an id: its number
abbrev pub decoration : List Inst → ℕ → ℕ → Option ℕ
decoration [] id kind = None
decoration (i ∷ is) id kind =
    if nat_eq i.opcode 71 && is_some_at (slice_get i.operands 0) id && is_some_at (slice_get i.operands 1) kind
    then slice_get i.operands 2 else decoration is id kind

-- ---- which memory a variable stands for

-- the resource that a buffer variable stands for: the one that has its DescriptorSet and its Binding
abbrev pub buffer_of : Module → Bindings → ℕ → Option ℕ
buffer_of m at variable = at_both (decoration m.insts variable 34) (decoration m.insts variable 33)
  where
    at_both : Option ℕ → Option ℕ → Option ℕ
    at_both (Some set) (Some binding) = resource_at at set binding 0
    at_both _ _ = None

-- the number of a Workgroup variable in word order
abbrev pub shared_number : List Inst → ℕ → ℕ → Option ℕ
shared_number [] variable n = None
shared_number (i ∷ is) variable n =
    if nat_eq i.opcode 59 && is_some_at (slice_get i.operands 2) 4
    then (if is_some_at (slice_get i.operands 1) variable then Some n else shared_number is variable (suc n))
    else shared_number is variable n

-- the element type of the one array of a buffer's structure
abbrev pub element : Module → ℕ → Option ℕ
element m variable = option_and_then array_of (option_and_then (declared_operand m 30 1) (pointee m variable))
  where
    first_of_two : Option ℕ → Option ℕ → Option ℕ
    first_of_two (Some a) other = Some a
    first_of_two None other = other

    array_of : ℕ → Option ℕ
    array_of type = first_of_two (declared_operand m 29 1 type) (declared_operand m 28 1 type)

-- a buffer over 4-vectors
abbrev pub over_vectors : Module → ℕ → Bool
over_vectors m variable = is_some_at (option_and_then (declared_operand m 23 2) (element m variable)) 4

-- ---- accesses

-- the word, where there are more words
abbrev pub if_below : ℕ → ℕ → Option ℕ
if_below word size = if nat_lt word size then Some word else None

-- the word of a chain through member 0: word i of integers, and in a constant buffer row r and component c are word 4 * r + c
abbrev pub buffer_word : (vectors : Bool) → List ℕ → Option ℕ
buffer_word false (zero ∷ i ∷ []) = Some i
buffer_word true (zero ∷ r ∷ c ∷ []) = if nat_lt c 4 then Some (4 * r + c) else None
buffer_word _ _ = None

-- the word of a chain in a Workgroup variable: its index, and 0 without one
abbrev pub shared_word : List ℕ → Option ℕ
shared_word [] = Some 0
shared_word (i ∷ []) = Some i
shared_word _ = None

-- how many words a Workgroup variable has: as many as its array's length, a constant, says, and one where it is no array
abbrev pub shared_size : Module → ℕ → ℕ
shared_size m variable = size_in (option_and_then (declared_operand m 28 2) (pointee m variable))
  where
    size_in : Option ℕ → ℕ
    size_in None = 1
    size_in (Some id) = value_in (declared_operand m 43 2 id)
      where
        value_in : Option ℕ → ℕ
        value_in None = 0
        value_in (Some n) = n

-- the place that a pointer names, where it names a word in range
abbrev pub in_buffer : Launch → Option ℕ → Option ℕ → Option Place
in_buffer l (Some r) (Some word) = option_map (launch.Buffer r) (if_below word (slice_index l.sizes r))
in_buffer l _ _ = None

abbrev pub buffer_place : Module → Bindings → Launch → ℕ → Bool → List ℕ → Option Place
buffer_place m at l variable vectors indices = in_buffer l (buffer_of m at variable) (buffer_word vectors indices)

abbrev pub place_of : Module → Bindings → Launch → ℕ → List ℕ → Option Place
place_of m at l variable indices =
    if is_some_at (storage m variable) 12 then (if over_vectors m variable then None else buffer_place m at l variable false indices)
    else
    (if is_some_at (storage m variable) 2 then buffer_place m at l variable (over_vectors m variable) indices
    else
    (if is_some_at (storage m variable) 4 then in_shared (shared_number m.insts variable 0) (shared_word indices)
    else None))
  where
    in_shared : Option ℕ → Option ℕ → Option Place
    in_shared (Some k) (Some word) = option_map (launch.Shared k) (if_below word (shared_size m variable))
    in_shared _ _ = None

-- ---- states

-- the instruction that comes next, the results of this pass through the block, and the Function variables
pub record State : Type 0 where
  pub at : ℕ
  pub results : ℕ → Option Value
  pub locals : ℕ → Option Value

-- what is declared before the function
abbrev pub fixed : Module → ℕ → Option Value
fixed m id = fixed_value (declared m.insts id) id

-- the value of an id: what is declared before the function, or a result of this pass
abbrev pub or_result : Option Value → Option Value → Option Value
or_result (Some v) result = Some v
or_result None result = result

abbrev pub value_of : Module → State → ℕ → Option Value
value_of m s id = or_result (fixed m id) (s.results id)

abbrev pub word_of : Module → State → ℕ → Option ℕ
word_of m s id = as_word (value_of m s id)

abbrev pub with_value : {A : Type 0} → ℕ → A → (ℕ → A) → ℕ → A
with_value id v f x = if nat_eq x id then v else f x

abbrev pub next : State → State
next s = record { at = suc s.at; results = s.results; locals = s.locals }

-- an instruction gives its result, unless it is undefined
abbrev pub gives : ℕ → Option Value → State → Step State
gives id None s = Wrong
gives id (Some v) s =
    Quiet [] (record { at = suc s.at; results = with_value id (Some v) s.results; locals = s.locals })

abbrev pub given : {A : Type 0} → Option A → (A → Step State) → Step State
given None go = Wrong
given (Some a) go = go a

-- the place of a label among the instructions
abbrev pub label_at : List Inst → ℕ → ℕ → Option ℕ
label_at [] label n = None
label_at (i ∷ is) label n =
    if is_some_at (label_of i) label then Some n else label_at is label (suc n)

-- a branch drops the results of the block that it leaves
abbrev pub branch : Module → ℕ → State → Step State
branch m label s =
    given (label_at m.insts label 0) λ at. Quiet [] (record { at = at; results = λ id. None; locals = s.locals })

-- ---- instructions

-- an instruction on two words, on two words with a truth as its result, and on two truths; other operands give nothing
abbrev pub on_words : (ℕ → ℕ → Option ℕ) → Option Value → Option Value → Option Value
on_words f (Some (Word x)) (Some (Word y)) = option_map Word (f x y)
on_words f _ _ = None

abbrev pub on_tests : (ℕ → ℕ → Bool) → Option Value → Option Value → Option Value
on_tests f (Some (Word x)) (Some (Word y)) = Some (Truth (f x y))
on_tests f _ _ = None

abbrev pub on_truths : (Bool → Bool → Bool) → Option Value → Option Value → Option Value
on_truths f (Some (Truth x)) (Some (Truth y)) = Some (Truth (f x y))
on_truths f _ _ = None

-- what each instruction with two operands gives, in this order: IAdd, ISub, IMul, UDiv, SDiv, UMod, SRem;
-- LogicalEqual, LogicalNotEqual, LogicalOr, LogicalAnd;
-- IEqual, INotEqual, UGreaterThan, SGreaterThan, UGreaterThanEqual, SGreaterThanEqual, ULessThan, SLessThan, ULessThanEqual, SLessThanEqual;
-- ShiftRightLogical, ShiftRightArithmetic, ShiftLeftLogical, BitwiseOr, BitwiseXor, BitwiseAnd
abbrev pub two_table : List (ℕ × (Option Value → Option Value → Option Value))
two_table =
    (128, on_words (λ x y. Some (word_add x y))) ∷
    (130, on_words (λ x y. Some (word_sub x y))) ∷
    (132, on_words (λ x y. Some (word_mul x y))) ∷
    (134, on_words (λ x y. unless (nat_eq y 0) (x / y))) ∷
    (135, on_words (λ x y. unless (nat_eq y 0 || is_overflowing x y) (word_sdiv x y))) ∷
    (137, on_words (λ x y. unless (nat_eq y 0) (x % y))) ∷
    (138, on_words (λ x y. unless (nat_eq y 0 || is_overflowing x y) (word_srem x y))) ∷
    (164, on_truths (λ x y. if x then y else not y)) ∷
    (165, on_truths (λ x y. if x then not y else y)) ∷
    (166, on_truths (λ x y. x || y)) ∷
    (167, on_truths (λ x y. x && y)) ∷
    (170, on_tests nat_eq) ∷
    (171, on_tests (λ x y. not (nat_eq x y))) ∷
    (172, on_tests (λ x y. nat_lt y x)) ∷
    (173, on_tests (λ x y. signed_lt y x)) ∷
    (174, on_tests (λ x y. nat_le y x)) ∷
    (175, on_tests (λ x y. not (signed_lt x y))) ∷
    (176, on_tests nat_lt) ∷
    (177, on_tests signed_lt) ∷
    (178, on_tests nat_le) ∷
    (179, on_tests (λ x y. not (signed_lt y x))) ∷
    (194, on_words (λ x y. unless (nat_le 32 y) (word_shr x y))) ∷
    (195, on_words (λ x y. unless (nat_le 32 y) (word_sar x y))) ∷
    (196, on_words (λ x y. unless (nat_le 32 y) (word_shl x y))) ∷
    (197, on_words (λ x y. Some (bit_or x y))) ∷
    (198, on_words (λ x y. Some (bit_xor x y))) ∷
    (199, on_words (λ x y. Some (bit_and x y))) ∷ []

-- the first row of the key
abbrev pub lookup : {A : Type 0} → ℕ → List (ℕ × A) → Option A
lookup key [] = None
lookup key (row ∷ rows) = if nat_eq row.0 key then Some row.1 else lookup key rows

-- AtomicExchange, AtomicIAdd, AtomicISub, AtomicSMin, AtomicUMin, AtomicSMax, AtomicUMax, AtomicAnd, AtomicOr, AtomicXor
abbrev pub atomic_table : List (ℕ × AtomicOp)
atomic_table =
    (229, atomic.Exchange) ∷ (234, atomic.Add) ∷ (235, atomic.Sub) ∷ (236, atomic.SMin) ∷ (237, atomic.UMin) ∷
    (238, atomic.SMax) ∷ (239, atomic.UMax) ∷ (240, atomic.And) ∷ (241, atomic.Or) ∷ (242, atomic.Xor) ∷ []

-- the thread counts that the module states: the numbers of its execution mode LocalSize
abbrev pub local_size : List Inst → List ℕ
local_size [] = []
local_size (i ∷ is) =
    if nat_eq i.opcode 16 && is_some_at (slice_get i.operands 1) 17 then drop 2 i.operands else local_size is

-- the three components
abbrev pub three : (ℕ → ℕ) → List ℕ
three f = f 0 ∷ f 1 ∷ f 2 ∷ []

-- what an Input variable holds, by its built-in: WorkgroupId, LocalInvocationId, GlobalInvocationId, LocalInvocationIndex
abbrev pub builtin_table : Launch → List ℕ → ℕ → List (ℕ × Value)
builtin_table l local i =
    (26, Vector (three (λ c. coordinate l.groups c (i / product local)))) ∷
    (27, Vector (three (λ c. coordinate local c (i % product local)))) ∷
    (28, Vector (three (λ c. coordinate l.groups c (i / product local) * slice_index local c + coordinate local c (i % product local)))) ∷
    (29, Word (i % product local)) ∷ []

-- the whole of it, or the component that a chain names
abbrev pub component : Value → List ℕ → Option Value
component v [] = Some v
component (Vector xs) (c ∷ []) = option_map Word (slice_get xs c)
component _ _ = None

abbrev pub input_value : Module → Launch → ℕ → ℕ → List ℕ → Option Value
input_value m l i variable indices =
    option_and_then (λ v. component v indices) (option_and_then (λ kind. lookup kind (builtin_table l (local_size m.insts) i)) (decoration m.insts variable 11))

abbrev pub is_class : Module → ℕ → ℕ → Bool
is_class m variable class = is_some_at (storage m variable) class

-- a Function variable as a whole; it has no parts
abbrev pub local_value : State → ℕ → List ℕ → Option Value
local_value s variable [] = s.locals variable
local_value s variable (i ∷ is) = None

-- a load: of a Function variable or an input it is quiet, of other memory it is an event
abbrev pub load_step : Module → Bindings → Launch → ℕ → ℕ → ℕ → Option Value → State → Step State
load_step m at l i type id (Some (Pointer variable indices)) s =
    if is_class m variable 7 then gives id (local_value s variable indices) s
    else
    (if is_class m variable 1 then gives id (input_value m l i variable indices) s
    else
    (if is_integer m type
    then
    given (place_of m at l variable indices) (λ place. Acts (launch.Load place) (λ v. record { at = suc s.at; results = with_value id (Some (Word v)) s.results; locals = s.locals }))
    else Wrong))
load_step m at l i type id _ s = Wrong

-- a Function variable takes a value of the type that its pointer goes to
abbrev pub local_store : Module → ℕ → List ℕ → Value → State → Step State
local_store m variable [] v s =
    if has_type m (pointee m variable) v
    then Quiet [] (record { at = suc s.at; results = s.results; locals = with_value variable (Some v) s.locals })
    else Wrong
local_store m variable (i ∷ is) v s = Wrong

-- a store: to a Function variable it is quiet, to other memory it is an event
abbrev pub store_step : Module → Bindings → Launch → Option Value → Option Value → State → Step State
store_step m at l (Some (Pointer variable indices)) (Some v) s =
    if is_class m variable 7 then local_store m variable indices v s
    else
    given (place_of m at l variable indices) λ place.
    given (as_word (Some v)) λ x. Acts (launch.Store place x) (λ answer. next s)
store_step m at l _ _ s = Wrong

-- the scope that an atomic has: Device on a buffer, Workgroup on Workgroup memory, and semantics 0
abbrev pub fits_scope : Place → Option ℕ → Bool
fits_scope (launch.Buffer r word) scope = is_some_at scope 1
fits_scope (launch.Shared a word) scope = is_some_at scope 2

-- the place that a pointer names
abbrev pub pointer_place : Module → Bindings → Launch → Option Value → Option Place
pointer_place m at l (Some (Pointer variable indices)) = place_of m at l variable indices
pointer_place m at l _ = None

-- an atomic is an event, and its result is the word that was there
abbrev pub atomic_step : Module → Bindings → Launch → AtomicOp → ℕ → (pointer scope semantics value : Option Value) → State → Step State
atomic_step m at l op id pointer scope semantics value s =
    given (pointer_place m at l pointer) λ place.
    given (as_word value) λ v.
    if fits_scope place (as_word scope) && is_some_at (as_word semantics) 0
    then Acts (launch.Atomic place op v) (λ old. record { at = suc s.at; results = with_value id (Some (Word old)) s.results; locals = s.locals })
    else Wrong

-- AtomicCompareExchange: both semantics are 0
abbrev pub swap_step : Module → Bindings → Launch → ℕ → (pointer scope equal unequal value compare : Option Value) → State → Step State
swap_step m at l id pointer scope equal unequal value compare s =
    given (pointer_place m at l pointer) λ place.
    given (as_word value) λ v.
    given (as_word compare) λ c.
    if fits_scope place (as_word scope) && is_some_at (as_word equal) 0 && is_some_at (as_word unequal) 0
    then Acts (launch.Swap place c v) (λ old. record { at = suc s.at; results = with_value id (Some (Word old)) s.results; locals = s.locals })
    else Wrong

-- a barrier of a memory scope and semantics: nobody's, or the device's or the group's with 8, and 0x40 for `uav` and 0x100 for `shared`
abbrev pub barrier_step : Bool → Option ℕ → Option ℕ → State → Step State
barrier_step sync (Some scope) (Some semantics) s =
    if nat_eq semantics 0 && nat_eq scope 2 then fence Nobody false false
    else
    (if (nat_eq scope 1 || nat_eq scope 2) && (nat_eq semantics 72 || nat_eq semantics 264 || nat_eq semantics 328)
    then fence (if nat_eq scope 1 then Device else Group) (not (nat_eq semantics 264)) (not (nat_eq semantics 72))
    else Wrong)
  where
    fence : Scope → Bool → Bool → Step State
    fence who uav shared = Acts (launch.Barrier sync who uav shared) (λ answer. next s)
barrier_step sync _ _ s = Wrong

-- the label of the pair whose number this is, or the default
abbrev pub case_of : ℕ → List ℕ → ℕ → ℕ
case_of v [] default = default
case_of v (x ∷ []) default = default
case_of v (x ∷ label ∷ rest) default = if nat_eq x v then label else case_of v rest default

abbrev pub both_words : Option ℕ → Option (List ℕ) → Option (List ℕ)
both_words (Some n) (Some ns) = Some (n ∷ ns)
both_words _ _ = None

abbrev pub words_at : Module → State → List ℕ → Option (List ℕ)
words_at m s [] = Some []
words_at m s (id ∷ ids) = both_words (word_of m s id) (words_at m s ids)

-- a chain appends its indices to those of its base
abbrev pub chain : Option Value → Option (List ℕ) → Option Value
chain (Some (Pointer variable indices)) (Some more) = Some (Pointer variable (indices ++ more))
chain _ _ = None

-- the number of words of a StorageBuffer variable over integers
abbrev pub length_of : Module → Bindings → Launch → Option Value → Option Value
length_of m at l (Some (Pointer variable [])) =
    if is_some_at (storage m variable) 12 && not (over_vectors m variable)
    then option_map (λ r. Word (slice_index l.sizes r)) (buffer_of m at variable)
    else None
length_of m at l _ = None

abbrev pub extracted : Option Value → ℕ → Option Value
extracted (Some (Vector xs)) c = option_map Word (slice_get xs c)
extracted _ c = None

abbrev pub not_value : Option Value → Option Value
not_value (Some (Truth b)) = Some (Truth (not b))
not_value _ = None

abbrev pub one_word : (ℕ → ℕ) → Option Value → Option Value
one_word f (Some (Word x)) = Some (Word (f x))
one_word f _ = None

-- both arms have values, and of one kind
abbrev pub selected : Option Value → Option Value → Option Value → Option Value
selected (Some (Truth c)) (Some (Word x)) (Some (Word y)) = Some (Word (if c then x else y))
selected (Some (Truth c)) (Some (Truth x)) (Some (Truth y)) = Some (Truth (if c then x else y))
selected _ a b = None

-- the kinds of instruction that a function holds
pub data Kind : Type 0 where
  Passes : Kind
  Label_begins : Kind
  Loads : Kind
  Stores : Kind
  Chains : Kind
  Lengths : Kind
  Extracts : Kind
  Chooses : Kind
  One_operand : (Option Value → Option Value) → Kind
  Two_operands : (Option Value → Option Value → Option Value) → Kind
  Atomics : AtomicOp → Kind
  Swaps : Kind
  Fences : (sync : Bool) → Kind
  Branches : Kind
  Branches_if : Kind
  Switches : Kind
  Returns : Kind

-- Function, Variable, LoopMerge, SelectionMerge, Label, Load, Store; AccessChain, ArrayLength, CompositeExtract, Select, LogicalNot;
-- BitReverse, BitCount, AtomicCompareExchange; ControlBarrier, MemoryBarrier, Branch, BranchConditional, Switch; Return
abbrev pub kind_table : List (ℕ × Kind)
kind_table =
    (54, Passes) ∷ (59, Passes) ∷ (246, Passes) ∷ (247, Passes) ∷ (248, Label_begins) ∷ (61, Loads) ∷ (62, Stores) ∷
    (65, Chains) ∷ (68, Lengths) ∷ (81, Extracts) ∷ (169, Chooses) ∷ (168, One_operand not_value) ∷
    (204, One_operand (one_word word_reverse)) ∷ (205, One_operand (one_word word_count)) ∷ (230, Swaps) ∷
    (224, Fences true) ∷ (225, Fences false) ∷ (249, Branches) ∷ (250, Branches_if) ∷ (251, Switches) ∷
    (253, Returns) ∷ []

abbrev pub kind_of : ℕ → Option Kind
kind_of opcode = or_two (lookup opcode kind_table) (lookup opcode two_table) (lookup opcode atomic_table)
  where
    or_two : Option Kind → Option (Option Value → Option Value → Option Value) → Option AtomicOp → Option Kind
    or_two (Some kind) f op = Some kind
    or_two None (Some f) op = Some (Two_operands f)
    or_two None None (Some op) = Some (Atomics op)
    or_two None None None = None

-- one instruction of a kind with these operands. A form that is not listed is undefined
abbrev pub act : Module → Bindings → Launch → ℕ → Kind → List ℕ → State → Step State
act m at l i Passes operands s = Quiet [] (next s)
act m at l i Label_begins (label ∷ []) s = Quiet (begun_at m s.at) (next s)
act m at l i Loads (type ∷ id ∷ pointer ∷ []) s = load_step m at l i type id (value_of m s pointer) s
act m at l i Stores (pointer ∷ v ∷ []) s = store_step m at l (value_of m s pointer) (value_of m s v) s
act m at l i Chains (type ∷ id ∷ base ∷ indices) s = gives id (chain (value_of m s base) (words_at m s indices)) s
act m at l i Lengths (type ∷ id ∷ base ∷ zero ∷ []) s = gives id (length_of m at l (value_of m s base)) s
act m at l i Extracts (type ∷ id ∷ a ∷ c ∷ []) s = gives id (extracted (value_of m s a) c) s
act m at l i Chooses (type ∷ id ∷ c ∷ a ∷ b ∷ []) s =
    gives id (selected (value_of m s c) (value_of m s a) (value_of m s b)) s
act m at l i (One_operand f) (type ∷ id ∷ a ∷ []) s = gives id (f (value_of m s a)) s
act m at l i (Two_operands f) (type ∷ id ∷ a ∷ b ∷ []) s = gives id (f (value_of m s a) (value_of m s b)) s
act m at l i (Atomics op) (type ∷ id ∷ pointer ∷ scope ∷ semantics ∷ v ∷ []) s =
    atomic_step m at l op id (value_of m s pointer) (value_of m s scope) (value_of m s semantics) (value_of m s v) s
act m at l i Swaps (type ∷ id ∷ pointer ∷ scope ∷ equal ∷ unequal ∷ v ∷ c ∷ []) s =
    swap_step m at l id (value_of m s pointer) (value_of m s scope) (value_of m s equal) (value_of m s unequal) (value_of m s v) (value_of m s c) s
act m at l i (Fences true) (execution ∷ scope ∷ semantics ∷ []) s =
    if is_some_at (word_of m s execution) 2 then barrier_step true (word_of m s scope) (word_of m s semantics) s else Wrong
act m at l i (Fences false) (scope ∷ semantics ∷ []) s = barrier_step false (word_of m s scope) (word_of m s semantics) s
act m at l i Branches (label ∷ []) s = branch m label s
act m at l i Branches_if (c ∷ there ∷ other ∷ []) s =
    given (as_truth (value_of m s c)) λ b. branch m (if b then there else other) s
act m at l i Switches (v ∷ default ∷ cases) s = given (word_of m s v) λ x. branch m (case_of x cases default) s
act m at l i Returns [] s = Acts End (λ answer. s)
act m at l i _ operands s = Wrong

abbrev pub inst_step : Module → Bindings → Launch → ℕ → Option Inst → State → Step State
inst_step m at l i None s = Wrong
inst_step m at l i (Some inst) s = given (kind_of inst.opcode) λ kind. act m at l i kind inst.operands s

-- the place of the first instruction of this opcode
abbrev pub first_of : ℕ → List Inst → ℕ
first_of opcode [] = 0
first_of opcode (i ∷ is) = if nat_eq i.opcode opcode then 0 else suc (first_of opcode is)

-- what a Function variable starts with
abbrev pub initial : Module → ℕ → Option Value
initial m variable = option_and_then (λ id. fixed_value (declared m.insts id) id) (declared_operand m 59 3 variable)

-- the machine of a module in a launch, for resources of these sets and bindings; the program that it is to be compared with is no part of it
abbrev pub target : Module → Bindings → Launch → Machine State
target m at l =
    record {
      start = record { at = first_of 54 m.insts; results = λ id. None; locals = initial m };
      first = [];
      step = λ i s. inst_step m at l i (slice_get m.insts s.at) s;
    }
