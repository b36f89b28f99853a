-- How one part of an access is lowered: a test whether its word is in range, the event in a block of its own, and behind it a block that both ways reach.
--
-- Where the word is out of range a load, an atomic and a swap give zero and false, and a store does nothing.
use Rattle.std.specs.Prelude.{ℕ, ◌+◌, ◌-◌, ◌*◌, ◌/◌, Bool, true, false, List, [], ◌∷◌, ◌++◌, nat_eq, nat_lt, if◌then◌else◌}
use Rattle.dxil_form.specs.declared.value.Ty.TheVariants as ty
use Rattle.dxil_form.specs.declared.value.Reg.{Reg}
use Rattle.dxil_form.specs.declared.value.Operand.{Operand}
use Rattle.dxil_form.specs.declared.instr.AtomicOp.{AtomicOp}
use Rattle.dxil_form.specs.declared.instr.AtomicOp.TheVariants.{Add, Sub, And, Or, Xor, SMin, SMax, UMin, UMax, Exchange}
use Rattle.dxil_form.specs.declared.instr.Addr.{Addr}
use Rattle.dxil_form.specs.declared.instr.Addr.TheVariants.{Byte, Element, Row, Index}
use Rattle.dxil_form.specs.declared.instr.Target.{Target}
use Rattle.dxil_form.specs.declared.instr.Target.TheVariants as target
use Rattle.spv_form.specs.declared.module.Inst.{Inst}
use Rattle.spirv_code.specs.declared.key.Sort.TheVariants as sort
use Rattle.spirv_code.specs.declared.key.Storage.TheVariants as storage
use Rattle.spirv_code.specs.declared.key.Global.TheVariants as global
use Rattle.spirv_code.specs.declared.event.Event.{Event}
use Rattle.spirv_code.specs.declared.event.Event.TheVariants.{Load, Store, Atomic, Swap}
use Rattle.spirv_code.specs.Plans.{Context, inst, result, number, zero_id, int_id, bool_id}
use Rattle.spirv_code.specs.Reads.{Env, no_register, with_id, read_size, read_code, read_id, keep_size, keep_code, two_size, two_code, second_id}

-- an instruction with a result that is a number or a truth value
abbrev pub int_inst : Context → ℕ → ℕ → List ℕ → Inst
int_inst c place opcode operands = inst opcode (int_id c ∷ result c place ∷ operands)

abbrev pub bool_inst : Context → ℕ → ℕ → List ℕ → Inst
bool_inst c place opcode operands = inst opcode (bool_id c ∷ result c place ∷ operands)

-- ---- the word of part 0, as the product and the shifts of the address give it; the index where there is nothing to compute

abbrev pub base_size : Context → Env → Addr → ℕ
base_size c env (Byte at) = read_size c env at + 1
base_size c env (Element index at stride) = read_size c env at + 1 + read_size c env index + 2
base_size c env (Row index) = read_size c env index
base_size c env (Index index) = read_size c env index

abbrev pub shift_inst : Context → (place id : ℕ) → Inst
shift_inst c place id = int_inst c place 194 (id ∷ number c 2 ∷ [])

abbrev pub base_code : Context → Env → ℕ → Addr → List Inst
base_code c env place (Byte at) =
    read_code c env place at ++ (shift_inst c (place + read_size c env at) (read_id c env place at) ∷ [])
base_code c env place (Element index at stride) =
    read_code c env place at ++
    (shift_inst c (place + read_size c env at) (read_id c env place at) ∷
    (read_code c env (place + (read_size c env at + 1)) index ++
    (int_inst c (place + (read_size c env at + 1 + read_size c env index)) 132 (read_id c env (place + (read_size c env at + 1)) index ∷ number c (stride / 4) ∷ []) ∷
    int_inst c (place + (read_size c env at + 1 + read_size c env index + 1)) 128 (result c (place + (read_size c env at + 1 + read_size c env index)) ∷ result c (place + read_size c env at) ∷ []) ∷ [])))
base_code c env place (Row index) = read_code c env place index
base_code c env place (Index index) = read_code c env place index

abbrev pub base_id : Context → Env → ℕ → Addr → ℕ
base_id c env place (Byte at) = result c (place + read_size c env at)
base_id c env place (Element index at stride) =
    result c (place + (read_size c env at + 1 + read_size c env index + 1))
base_id c env place (Row index) = read_id c env place index
base_id c env place (Index index) = read_id c env place index

-- ---- the word of a part: it is added to that of part 0 where words are counted

abbrev pub counts_words : Addr → Bool
counts_words (Byte at) = true
counts_words (Element index at stride) = true
counts_words (Row index) = false
counts_words (Index index) = false

-- there is something to add
abbrev pub adds : Addr → ℕ → Bool
adds addr part = if nat_eq part 0 then false else counts_words addr

abbrev pub word_size : Context → Env → Addr → ℕ → ℕ
word_size c env addr part = base_size c env addr + (if adds addr part then 1 else 0)

abbrev pub word_code : Context → Env → ℕ → Addr → ℕ → List Inst
word_code c env place addr part =
    base_code c env place addr ++
    (if adds addr part then int_inst c (place + base_size c env addr) 128 (base_id c env place addr ∷ number c part ∷ []) ∷ [] else [])

abbrev pub word_id : Context → Env → ℕ → Addr → ℕ → ℕ
word_id c env place addr part =
    if adds addr part then result c (place + base_size c env addr) else base_id c env place addr

-- ---- the pointer to the word

abbrev pub pointer_id : Context → Addr → ℕ
pointer_id c (Byte at) = c.key (global.Pointer storage.StorageBuffer sort.Int)
pointer_id c (Element index at stride) = c.key (global.Pointer storage.StorageBuffer sort.Int)
pointer_id c (Row index) = c.key (global.Pointer storage.Uniform sort.Int)
pointer_id c (Index index) = c.key (global.Pointer storage.Workgroup sort.Int)

abbrev pub target_id : Context → Target → ℕ
target_id c (target.Buffer r) = c.key (global.Buffer r)
target_id c (target.Shared a) = c.key (global.Shared a)

-- the indices of the chain: member 0 of a buffer's structure, and the word, or the row and its component
abbrev pub chain_indices : Context → Addr → (word part : ℕ) → List ℕ
chain_indices c (Byte at) word part = number c 0 ∷ word ∷ []
chain_indices c (Element index at stride) word part = number c 0 ∷ word ∷ []
chain_indices c (Row index) word part = number c 0 ∷ word ∷ number c part ∷ []
chain_indices c (Index index) word part = word ∷ []

abbrev pub chain_size : Context → Env → Addr → ℕ → ℕ
chain_size c env addr part = word_size c env addr part + 1

abbrev pub chain_id : Context → Env → ℕ → Addr → ℕ → ℕ
chain_id c env place addr part = result c (place + word_size c env addr part)

abbrev pub chain_code : Context → Env → ℕ → Target → Addr → ℕ → List Inst
chain_code c env place t addr part =
    word_code c env place addr part ++
    (inst 65 (pointer_id c addr ∷ chain_id c env place addr part ∷ target_id c t ∷ chain_indices c addr (word_id c env place addr part) part) ∷ [])

-- ---- the test

abbrev pub length_inst : Context → ℕ → Target → Inst
length_inst c place t = int_inst c place 68 (target_id c t ∷ 0 ∷ [])

-- how many instructions stand before the last one, which gives the truth
abbrev pub test_last : Context → Env → Addr → ℕ → ℕ
test_last c env (Byte at) part = read_size c env at + (if nat_eq part 0 then 2 else 5)
test_last c env (Element index at stride) part = read_size c env at + 3 + read_size c env index + 1
test_last c env (Row index) part = read_size c env index
test_last c env (Index index) part = read_size c env index

abbrev pub test_size : Context → Env → Addr → ℕ → ℕ
test_size c env addr part = test_last c env addr part + 1

abbrev pub test_id : Context → Env → ℕ → Addr → ℕ → ℕ
test_id c env place addr part = result c (place + test_last c env addr part)

-- Behind the shifted offset, which is the word of part 0 and stands at `place`: it is below the length, and so is its sum with the part. Where the first holds the sum does not wrap.
abbrev pub byte_tests : Context → ℕ → Target → ℕ → List Inst
byte_tests c place t part =
    if nat_eq part 0
    then
    length_inst c (place + 1) t ∷
    bool_inst c (place + 2) 176 (result c place ∷ result c (place + 1) ∷ []) ∷ []
    else
    (int_inst c (place + 1) 128 (result c place ∷ number c part ∷ []) ∷
    length_inst c (place + 2) t ∷
    bool_inst c (place + 3) 176 (result c place ∷ result c (place + 2) ∷ []) ∷
    bool_inst c (place + 4) 176 (result c (place + 1) ∷ result c (place + 2) ∷ []) ∷
    bool_inst c (place + 5) 167 (result c (place + 3) ∷ result c (place + 4) ∷ []) ∷ [])

-- the index is below a number
abbrev pub index_test : Context → Env → ℕ → Operand → ℕ → List Inst
index_test c env place index limit =
    read_code c env place index ++
    (bool_inst c (place + read_size c env index) 176 (read_id c env place index ∷ number c limit ∷ []) ∷ [])

-- an element has room for the part, and its index is below the number of whole elements
abbrev pub test_code : Context → Env → ℕ → Target → Addr → ℕ → List Inst
test_code c env place t (Byte at) part =
    read_code c env place at ++
    (shift_inst c (place + read_size c env at) (read_id c env place at) ∷ byte_tests c (place + read_size c env at) t part)
test_code c env place t (Element index at stride) part =
    read_code c env place at ++
    (bool_inst c (place + read_size c env at) 178 (read_id c env place at ∷ number c (stride - (4 + 4 * part)) ∷ []) ∷
    length_inst c (place + (read_size c env at + 1)) t ∷
    int_inst c (place + (read_size c env at + 2)) 134 (result c (place + (read_size c env at + 1)) ∷ number c (stride / 4) ∷ []) ∷
    (read_code c env (place + (read_size c env at + 3)) index ++
    (bool_inst c (place + (read_size c env at + 3 + read_size c env index)) 176 (read_id c env (place + (read_size c env at + 3)) index ∷ result c (place + (read_size c env at + 2)) ∷ []) ∷
    bool_inst c (place + (read_size c env at + 3 + read_size c env index + 1)) 167 (result c (place + read_size c env at) ∷ result c (place + (read_size c env at + 3 + read_size c env index)) ∷ []) ∷ [])))
test_code c env place t (Row index) part = index_test c env place index (c.limit t)
test_code c env place t (Index index) part = index_test c env place index (c.limit t)

-- the part has no room in the element, wherever that is
abbrev pub is_never : Addr → ℕ → Bool
is_never (Byte at) part = false
is_never (Element index at stride) part = nat_lt stride (4 + 4 * part)
is_never (Row index) part = false
is_never (Index index) part = false

-- ---- the event

abbrev pub atomic_opcode : AtomicOp → ℕ
atomic_opcode Add = 234
atomic_opcode Sub = 235
atomic_opcode And = 240
atomic_opcode Or = 241
atomic_opcode Xor = 242
atomic_opcode SMin = 236
atomic_opcode SMax = 238
atomic_opcode UMin = 237
atomic_opcode UMax = 239
atomic_opcode Exchange = 229

-- the scope of an atomic: the device for a buffer, the group for a groupshared array
abbrev pub scope_of : Target → ℕ
scope_of (target.Buffer r) = 1
scope_of (target.Shared a) = 2

-- how many instructions read the operands of the event, behind the pointer
abbrev pub event_reads : Context → Env → Event → ℕ
event_reads c env (Load to) = 0
event_reads c env (Store value) = read_size c env value
event_reads c env (Atomic to op value) = read_size c env value
event_reads c env (Swap old same compare value) = two_size c env value compare

-- how many instructions the event takes, behind its pointer and its operands
abbrev pub event_tail : Context → Event → ℕ
event_tail c (Load to) = 1 + keep_size c to ty.Int
event_tail c (Store value) = 1
event_tail c (Atomic to op value) = 1 + keep_size c to ty.Int
event_tail c (Swap old same compare value) =
    1 + keep_size c old ty.Int + (1 + keep_size c same ty.Bool)

abbrev pub event_size : Context → Env → Addr → ℕ → Event → ℕ
event_size c env addr part event = chain_size c env addr part + event_reads c env event + event_tail c event

-- whether the word that was there, which has this id, is the one that it was compared with
abbrev pub same_code : Context → (place old compare : ℕ) → Reg → List Inst
same_code c place old compare same =
    bool_inst c place 170 (old ∷ compare ∷ []) ∷ keep_code c same ty.Bool (result c place)

abbrev pub swap_code : Context → (place pointer : ℕ) → Target → (old same : Reg) → (value compare : ℕ) → List Inst
swap_code c place pointer t old same value compare =
    int_inst c place 230 (pointer ∷ number c (scope_of t) ∷ number c 0 ∷ number c 0 ∷ value ∷ compare ∷ []) ∷
    (keep_code c old ty.Int (result c place) ++ same_code c (place + (1 + keep_size c old ty.Int)) (result c place) compare same)

-- behind the pointer, which has this id
abbrev pub event_code : Context → Env → (place pointer : ℕ) → Target → Event → List Inst
event_code c env place pointer t (Load to) =
    int_inst c place 61 (pointer ∷ []) ∷ keep_code c to ty.Int (result c place)
event_code c env place pointer t (Store value) =
    read_code c env place value ++ (inst 62 (pointer ∷ read_id c env place value ∷ []) ∷ [])
event_code c env place pointer t (Atomic to op value) =
    read_code c env place value ++
    (int_inst c (place + read_size c env value) (atomic_opcode op) (pointer ∷ number c (scope_of t) ∷ number c 0 ∷ read_id c env place value ∷ []) ∷
    keep_code c to ty.Int (result c (place + read_size c env value)))
event_code c env place pointer t (Swap old same compare value) =
    two_code c env place value compare ++ swap_code c (place + two_size c env value compare) pointer t old same (read_id c env place value) (second_id c env place value compare)

-- ---- where the word is out of range

abbrev pub zeros_code : Context → Event → List Inst
zeros_code c (Load to) = keep_code c to ty.Int (zero_id c ty.Int)
zeros_code c (Store value) = []
zeros_code c (Atomic to op value) = keep_code c to ty.Int (zero_id c ty.Int)
zeros_code c (Swap old same compare value) =
    keep_code c old ty.Int (zero_id c ty.Int) ++ keep_code c same ty.Bool (zero_id c ty.Bool)

abbrev pub zeros_size : Context → Event → ℕ
zeros_size c (Load to) = keep_size c to ty.Int
zeros_size c (Store value) = 0
zeros_size c (Atomic to op value) = keep_size c to ty.Int
zeros_size c (Swap old same compare value) = keep_size c old ty.Int + keep_size c same ty.Bool

abbrev pub zeros_env : Context → Event → Env → Env
zeros_env c (Load to) env = with_id to (zero_id c ty.Int) env
zeros_env c (Store value) env = env
zeros_env c (Atomic to op value) env = with_id to (zero_id c ty.Int) env
zeros_env c (Swap old same compare value) env =
    with_id same (zero_id c ty.Bool) (with_id old (zero_id c ty.Int) env)

-- the block for it, which a store has not
abbrev pub zeros_block : (label meet : ℕ) → List Inst → List Inst
zeros_block label meet zeros =
    inst 248 (label ∷ []) ∷ (zeros ++ (inst 249 (meet ∷ []) ∷ []))

abbrev pub other_code : Context → (label meet : ℕ) → Event → List Inst
other_code c label meet (Load to) = zeros_block label meet (zeros_code c (Load to))
other_code c label meet (Store value) = []
other_code c label meet (Atomic to op value) = zeros_block label meet (zeros_code c (Atomic to op value))
other_code c label meet (Swap old same compare value) =
    zeros_block label meet (zeros_code c (Swap old same compare value))

abbrev pub other_size : Context → Event → ℕ
other_size c (Load to) = zeros_size c (Load to) + 2
other_size c (Store value) = 0
other_size c (Atomic to op value) = zeros_size c (Atomic to op value) + 2
other_size c (Swap old same compare value) = zeros_size c (Swap old same compare value) + 2

-- ---- the selection, behind the test: its two instructions, the block of the access, the other block, and the label where they meet. Of a store the other way leads there at once

-- how many instructions stand before the other block
abbrev pub other_at : Context → Env → Addr → ℕ → Event → ℕ
other_at c env addr part event = 3 + event_size c env addr part event + 1

abbrev pub meet_at : Context → Env → Addr → ℕ → Event → ℕ
meet_at c env addr part event = other_at c env addr part event + other_size c event

-- behind the label of the event's block, up to where all meet
abbrev pub guarded_code : Context → Env → ℕ → Target → Addr → ℕ → Event → (outside meet : ℕ) → List Inst
guarded_code c env place t addr part event outside meet =
    chain_code c env place t addr part ++
    (event_code c env (place + chain_size c env addr part) (chain_id c env place addr part) t event ++
    (inst 249 (meet ∷ []) ∷ (other_code c outside meet event ++ (inst 248 (meet ∷ []) ∷ []))))

abbrev pub guard_code : Context → Env → (place test : ℕ) → Target → Addr → ℕ → Event → List Inst
guard_code c env place test t addr part event =
    inst 247 (result c (place + meet_at c env addr part event) ∷ 0 ∷ []) ∷
    inst 250 (test ∷ result c (place + 2) ∷ result c (place + other_at c env addr part event) ∷ []) ∷
    inst 248 (result c (place + 2) ∷ []) ∷
    guarded_code c env (place + 3) t addr part event (result c (place + other_at c env addr part event)) (result c (place + meet_at c env addr part event))

-- ---- a part of an access: no register is known in the block of the event

abbrev pub part_code : Context → Env → ℕ → Target → Addr → ℕ → Event → List Inst
part_code c env place t addr part event =
    if is_never addr part then zeros_code c event
    else
    (test_code c env place t addr part ++ guard_code c no_register (place + test_size c env addr part) (test_id c env place addr part) t addr part event)

abbrev pub part_env : Context → Env → Addr → ℕ → Event → Env
part_env c env addr part event =
    if is_never addr part then zeros_env c event env else no_register
