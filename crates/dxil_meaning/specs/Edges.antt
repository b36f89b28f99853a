-- Accesses at the edges of their memory, and what the small programs that make them do by the definitions. The steps that an entry may take are exactly those that its longest way needs.
use Rattle.std.specs.Prelude.{◌≡◌, ℕ, ◌^◌, List, [], ◌∷◌}
use Rattle.dxil_form.specs.declared.value.Ty.TheVariants as ty
use Rattle.dxil_form.specs.declared.value.Operand.{Operand}
use Rattle.dxil_form.specs.declared.value.Operand.TheVariants as operand
use Rattle.dxil_form.specs.declared.instr.Target.TheVariants as target
use Rattle.dxil_form.specs.declared.instr.Addr.{Addr}
use Rattle.dxil_form.specs.declared.instr.Addr.TheVariants.{Byte, Element, Row, Index}
use Rattle.dxil_form.specs.declared.instr.CastOp.TheVariants.{Zext}
use Rattle.dxil_form.specs.declared.instr.AtomicOp.TheVariants as atomic
use Rattle.dxil_form.specs.declared.instr.Instr.{Instr}
use Rattle.dxil_form.specs.declared.instr.Instr.TheVariants.{Cast, Size, Load, Store, Atomic, Swap}
use Rattle.dxil_form.specs.declared.program.Class.TheVariants.{Uav, Cbv}
use Rattle.dxil_form.specs.declared.program.Kind.TheVariants.{Raw, Structured, Constant}
use Rattle.dxil_form.specs.declared.program.Program.{Program}
use Rattle.dxil_meaning.specs.Source.{Launch}
use Rattle.dxil_meaning.specs.Rows.{Told, is_undefined, is_busy, is_complete, told, run_of, program_of, launch_of, filled, reg, number, undef, straight, store_at, load_at, stores, loads, ends}

abbrev pub at_byte : ℕ → Addr
at_byte byte = Byte (operand.Int byte)

-- part c of value 10
abbrev pub part : ℕ → Operand
part c = operand.Reg (record { value = 10; part = c }) ty.Int

-- a raw buffer for writing, a constant buffer of two rows, which are 32 bytes, and a groupshared array of 4 words
abbrev pub over_three : List Instr → Program
over_three instrs =
    record {
      local = 1 ∷ 1 ∷ 1 ∷ [];
      resources = record { class = Uav; id = 0; space = 0; lower = 0; kind = Raw } ∷ record { class = Cbv; id = 0; space = 0; lower = 0; kind = Constant 2 } ∷ [];
      shared = 4 ∷ [];
      blocks = straight instrs;
    }

-- four words in the buffer, and more in the constant buffer than it declares
abbrev pub three_sizes : Launch
three_sizes = record { groups = 1 ∷ 1 ∷ 1 ∷ []; sizes = 4 ∷ 12 ∷ [] }

-- how these instructions go within so many steps an entry, in memory that is filled with 7
abbrev pub goes : List Instr → ℕ → List ℕ → Told
goes instrs n schedule = told (run_of (over_three instrs) three_sizes (filled 7) n schedule)

-- byte 12 of 4 words is the last word
abbrev pub LastWordIsLoaded : Type 0
LastWordIsLoaded =
    told (run_of (load_at 12) (launch_of 4) (filled 7) 1 (0 ∷ 0 ∷ [])) ≡ is_complete (loads 3 7 ∷ ends ∷ [])

-- at byte 16 a load gives 0, which is then stored, and makes no event
abbrev pub LoadPastTheEndIsZero : Type 0
LoadPastTheEndIsZero =
    goes (Load 10 1 (target.Buffer 0) (at_byte 16) ∷ store_at 0 (part 0) ∷ []) 2 (0 ∷ 0 ∷ []) ≡ is_complete (stores 0 0 ∷ ends ∷ [])

-- an offset that is no multiple of 4 is undefined, past the end too
abbrev pub OffsetPastTheEndIsUndefined : Type 0
OffsetPastTheEndIsUndefined = goes (Load 10 1 (target.Buffer 0) (at_byte 18) ∷ []) 2 (0 ∷ []) ≡ is_undefined

-- a store of four parts at byte 8 of 4 words
abbrev pub four_parts : Operand → List Instr
four_parts w =
    Store 15 (target.Buffer 0) (at_byte 8) (operand.Int 1) (operand.Int 2) (operand.Int 3) w ∷ []

-- two parts are in range; the two that are dropped are a step each, before the end
abbrev pub TwoPartsAreStored : Type 0
TwoPartsAreStored =
    goes (four_parts (operand.Int 4)) 3 (0 ∷ 0 ∷ 0 ∷ []) ≡ is_complete (stores 2 1 ∷ stores 3 2 ∷ ends ∷ [])

abbrev pub DroppedPartsAreSteps : Type 0
DroppedPartsAreSteps = goes (four_parts (operand.Int 4)) 2 (0 ∷ 0 ∷ 0 ∷ []) ≡ is_busy

-- the value of a part that would be dropped is read all the same, before the first part
abbrev pub DroppedValueIsRead : Type 0
DroppedValueIsRead = goes (four_parts undef) 3 (0 ∷ []) ≡ is_undefined

-- element 0 of a structured buffer of stride 8 has two words: the parts 2 and 3 are 0
abbrev pub element_0 : Addr
element_0 = Element (operand.Int 0) (operand.Int 0) 8

abbrev pub PartsPastTheElementAreZero : Type 0
PartsPastTheElementAreZero =
    told (run_of (program_of (Structured 8) 1 (straight (Load 10 15 (target.Buffer 0) element_0 ∷ Store 3 (target.Buffer 0) element_0 (part 2) (part 3) undef undef ∷ []))) (launch_of 4) (filled 7) 3 (0 ∷ 0 ∷ 0 ∷ 0 ∷ 0 ∷ [])) ≡ is_complete (loads 0 7 ∷ loads 1 7 ∷ stores 0 0 ∷ stores 1 0 ∷ ends ∷ [])

-- element 2 ^ 30 of stride 16 is out of range, though 2 ^ 34 is 0 in 32 bits
abbrev pub FarElementIsZero : Type 0
FarElementIsZero =
    told (run_of (program_of (Structured 16) 1 (straight (Load 10 1 (target.Buffer 0) (Element (operand.Int (2 ^ 30)) (operand.Int 0) 16) ∷ Store 1 (target.Buffer 0) (Element (operand.Int 0) (operand.Int 0) 16) (part 0) undef undef undef ∷ []))) (launch_of 16) (filled 7) 2 (0 ∷ 0 ∷ [])) ≡ is_complete (stores 0 0 ∷ ends ∷ [])

-- of 15 words with a stride of 16 bytes only three elements are whole
abbrev pub PartOfAnElementIsZero : Type 0
PartOfAnElementIsZero =
    told (run_of (program_of (Structured 16) 1 (straight (Load 10 1 (target.Buffer 0) (Element (operand.Int 3) (operand.Int 0) 16) ∷ Store 1 (target.Buffer 0) (Element (operand.Int 0) (operand.Int 0) 16) (part 0) undef undef undef ∷ []))) (launch_of 15) (filled 7) 2 (0 ∷ 0 ∷ [])) ≡ is_complete (stores 0 0 ∷ ends ∷ [])

-- row 2 of two rows is four zeros, though the buffer has more words
abbrev pub RowPastTheEndIsZero : Type 0
RowPastTheEndIsZero =
    goes (Load 10 15 (target.Buffer 1) (Row (operand.Int 2)) ∷ Store 15 (target.Buffer 0) (at_byte 0) (part 0) (part 1) (part 2) (part 3) ∷ []) 5 (0 ∷ 0 ∷ 0 ∷ 0 ∷ 0 ∷ []) ≡ is_complete (stores 0 0 ∷ stores 1 0 ∷ stores 2 0 ∷ stores 3 0 ∷ ends ∷ [])

-- an atomic at byte 16 of 4 words gives 0, and reads its value
abbrev pub AtomicPastTheEndIsZero : Type 0
AtomicPastTheEndIsZero =
    goes (Atomic (reg 10) atomic.Add (target.Buffer 0) (at_byte 16) (operand.Int 5) ∷ store_at 0 (part 0) ∷ []) 2 (0 ∷ 0 ∷ []) ≡ is_complete (stores 0 0 ∷ ends ∷ [])

abbrev pub AtomicValueIsRead : Type 0
AtomicValueIsRead =
    goes (Atomic (reg 10) atomic.Add (target.Buffer 0) (at_byte 16) undef ∷ []) 2 (0 ∷ []) ≡ is_undefined

-- a swap at index 4 of 4 words that compares with 0 gives 0 and false
abbrev pub SwapPastTheEndFails : Type 0
SwapPastTheEndFails =
    goes (Swap 10 (target.Shared 0) (Index (operand.Int 4)) (operand.Int 0) (operand.Int 5) ∷ Cast (reg 11) Zext (operand.Reg (record { value = 10; part = 1 }) ty.Bool) ∷ Store 3 (target.Buffer 0) (at_byte 0) (part 0) (number 11) undef undef ∷ []) 3 (0 ∷ 0 ∷ 0 ∷ []) ≡ is_complete (stores 0 0 ∷ stores 1 0 ∷ ends ∷ [])

-- the buffer has four words
abbrev pub SizeIsInWords : Type 0
SizeIsInWords =
    goes (Size (reg 10) 0 ∷ store_at 0 (part 0) ∷ []) 2 (0 ∷ 0 ∷ []) ≡ is_complete (stores 0 4 ∷ ends ∷ [])
