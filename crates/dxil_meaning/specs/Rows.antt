-- Small programs, and what their launches do by the definitions.
use Rattle.std.specs.Prelude.{◌≡◌, ℕ, ◌^◌, ◌-◌, List, [], ◌∷◌, Option, Some, None, true, false}
use Rattle.dxil_form.specs.declared.value.Ty.TheVariants as ty
use Rattle.dxil_form.specs.declared.value.Reg.{Reg}
use Rattle.dxil_form.specs.declared.value.Operand.{Operand}
use Rattle.dxil_form.specs.declared.value.Operand.TheVariants as operand
use Rattle.dxil_form.specs.declared.instr.Target.TheVariants as target
use Rattle.dxil_form.specs.declared.instr.Addr.TheVariants.{Byte, Element}
use Rattle.dxil_form.specs.declared.instr.BinOp.TheVariants as bin
use Rattle.dxil_form.specs.declared.instr.CmpOp.TheVariants.{Eq, ULt}
use Rattle.dxil_form.specs.declared.instr.IdOp.TheVariants.{Flat, InGroup, Group, Thread}
use Rattle.dxil_form.specs.declared.instr.AtomicOp.{AtomicOp}
use Rattle.dxil_form.specs.declared.instr.AtomicOp.TheVariants.{SMin, UMin}
use Rattle.dxil_form.specs.declared.instr.Scope.TheVariants.{Nobody}
use Rattle.dxil_form.specs.declared.instr.Instr.{Instr}
use Rattle.dxil_form.specs.declared.instr.Instr.TheVariants.{Bin, Cmp, Id, Load, Store, Atomic, Barrier}
use Rattle.dxil_form.specs.declared.block.Phi.{Phi}
use Rattle.dxil_form.specs.declared.block.Term.TheVariants.{Ret, Go, If}
use Rattle.dxil_form.specs.declared.block.Block.{Block}
use Rattle.dxil_form.specs.declared.program.Class.TheVariants.{Uav}
use Rattle.dxil_form.specs.declared.program.Kind.{Kind}
use Rattle.dxil_form.specs.declared.program.Kind.TheVariants.{Raw, Structured}
use Rattle.dxil_form.specs.declared.program.Program.{Program}
use Rattle.dxil_meaning.specs.Arithmetic.{word_add, word_sub, word_mul, word_shl, word_shr, word_sar, word_sdiv, word_srem, signed_lt, signed_max, signed_min, is_overflowing}
use Rattle.dxil_meaning.specs.Launches as launch
use Rattle.dxil_meaning.specs.Launches.{Memory, Event, Outcome, Undefined, Busy, Complete, Ran, run, at_first, Site}
use Rattle.dxil_meaning.specs.Source.{Launch, source, shape_of, State, id_of}

-- ---- how a run is told

-- a run of a program: within n steps an entry, by this schedule
abbrev pub run_of : Program → Launch → Memory → ℕ → List ℕ → Outcome (Ran State)
run_of p l memory n schedule = run (source p l) (shape_of p l) n schedule (at_first (source p l) memory)

-- how a run ended, and the events of its entries where it is complete
pub data Told : Type 0 where
  is_undefined : Told
  is_busy : Told
  is_complete : List (Option Event) → Told

abbrev pub told : {S : Type 0} → Outcome (Ran S) → Told
told Undefined = is_undefined
told Busy = is_busy
told (Complete ran) = is_complete ran.events

abbrev pub event : launch.Ask → ℕ → Option Event
event ask answer = Some (record { asked = ask; answer = answer; site = None })

-- the n-th barrier of a pass through a block
abbrev pub event_at : launch.Ask → ℕ → ℕ → Option Event
event_at ask block n = Some (record { asked = ask; answer = 0; site = Some (record { block = block; nth = n }) })

abbrev pub stores : ℕ → ℕ → Option Event
stores word value = event (launch.Store (launch.Buffer 0 word) value) 0

abbrev pub loads : ℕ → ℕ → Option Event
loads word value = event (launch.Load (launch.Buffer 0 word)) value

abbrev pub ends : Option Event
ends = event launch.End 0

-- one buffer for writing, and groups of so many invocations
abbrev pub program_of : Kind → ℕ → List Block → Program
program_of kind size blocks =
    record {
      local = size ∷ 1 ∷ 1 ∷ [];
      resources = record { class = Uav; id = 0; space = 0; lower = 0; kind = kind } ∷ [];
      shared = [];
      blocks = blocks;
    }

-- one group, and so many words in the buffer
abbrev pub launch_of : ℕ → Launch
launch_of words = record { groups = 1 ∷ 1 ∷ 1 ∷ []; sizes = words ∷ [] }

-- each word of memory is this one
abbrev pub filled : ℕ → Memory
filled value = record { buffers = λ r word. value; shared = λ group a word. value }

abbrev pub reg : ℕ → Reg
reg value = record { value = value; part = 0 }

abbrev pub number : ℕ → Operand
number value = operand.Reg (reg value) ty.Int

abbrev pub undef : Operand
undef = operand.Undef ty.Int

-- one block of instructions, which returns
abbrev pub straight : List Instr → List Block
straight instrs = record { phis = []; instrs = instrs; term = Ret } ∷ []

-- stores of one word at a byte
abbrev pub store_at : ℕ → Operand → Instr
store_at byte value = Store 1 (target.Buffer 0) (Byte (operand.Int byte)) value undef undef undef

-- ---- the swap of two phis

abbrev pub phi_of : ℕ → Operand → Operand → Phi
phi_of to first again =
    record {
      to = reg to;
      ty = ty.Int;
      entries = record { from = 0; value = first } ∷ record { from = 1; value = again } ∷ [];
    }

-- Block 1 has the phis a (10), b (11) and i (12), and j (13) is i + 1. It runs again while j is below 3, and a and b are swapped each time. Block 2 stores them.
unfoldable pub phi_swap : Program
phi_swap =
    program_of Raw 1 (record { phis = []; instrs = []; term = Go 1 } ∷ record { phis = phi_of 10 (operand.Int 1) (number 11) ∷ phi_of 11 (operand.Int 2) (number 10) ∷ phi_of 12 (operand.Int 0) (number 13) ∷ []; instrs = Bin (reg 13) bin.Add ty.Int (number 12) (operand.Int 1) ∷ Cmp (reg 14) ULt ty.Int (number 13) (operand.Int 3) ∷ []; term = If (operand.Reg (reg 14) ty.Bool) 1 2 } ∷ record { phis = []; instrs = store_at 0 (number 10) ∷ store_at 4 (number 11) ∷ []; term = Ret } ∷ [])

-- the first entry takes 14 steps to its store, and each later one takes one step; a fourth entry changes nothing
abbrev pub PhiSwapStores : Type 0
PhiSwapStores =
    told (run_of phi_swap (launch_of 2) (filled 0) 14 (0 ∷ 0 ∷ 0 ∷ 0 ∷ [])) ≡ is_complete (stores 0 1 ∷ stores 1 2 ∷ ends ∷ None ∷ [])

-- within 13 steps it reaches no event
abbrev pub PhiSwapIsBusy : Type 0
PhiSwapIsBusy = told (run_of phi_swap (launch_of 2) (filled 0) 13 (0 ∷ [])) ≡ is_busy

-- ---- arithmetic and thread numbers

-- a word that is negative with a sign
abbrev pub minus : ℕ → ℕ
minus n = 2 ^ 32 - n

pub record Arithmetic : Type 0 where
  pub add_wraps : word_add (2 ^ 32 - 1) 2 ≡ 1
  pub sub_wraps : word_sub 0 1 ≡ minus 1
  pub mul_wraps : word_mul (2 ^ 31) 2 ≡ 0
  pub shift_left : word_shl 3 31 ≡ 2 ^ 31
  pub shift_right : word_shr (2 ^ 31) 31 ≡ 1
  pub shift_with_sign : word_sar (minus 7) 1 ≡ minus 4
  pub quotient : word_sdiv (minus 7) 2 ≡ minus 3
  pub remainder : word_srem (minus 7) 2 ≡ minus 1
  pub remainder_by_negative : word_srem 7 (minus 2) ≡ 1
  pub below : signed_lt (minus 1) 0 ≡ true
  pub maximum : signed_max (minus 1) 1 ≡ 1
  pub minimum : signed_min (minus 1) 1 ≡ minus 1
  pub overflows : is_overflowing (2 ^ 31) (minus 1) ≡ true

-- groups of 4, 2 and 1 invocations, in a launch of 3, 5 and 1 groups
abbrev pub boxes : Program
boxes = record { local = 4 ∷ 2 ∷ 1 ∷ []; resources = []; shared = []; blocks = [] }

abbrev pub many : Launch
many = record { groups = 3 ∷ 5 ∷ 1 ∷ []; sizes = [] }

-- invocation 61 is number 5 of group 7: in its group it stands at 1, 1, 0, and its group stands at 1, 2, 0
pub record ThreadNumbers : Type 0 where
  pub flat : id_of boxes many 61 Flat 0 ≡ 5
  pub in_group : id_of boxes many 61 InGroup 0 ∷ id_of boxes many 61 InGroup 1 ∷ id_of boxes many 61 InGroup 2 ∷ [] ≡ 1 ∷ 1 ∷ 0 ∷ []
  pub group : id_of boxes many 61 Group 0 ∷ id_of boxes many 61 Group 1 ∷ id_of boxes many 61 Group 2 ∷ [] ≡ 1 ∷ 2 ∷ 0 ∷ []
  pub thread : id_of boxes many 61 Thread 0 ∷ id_of boxes many 61 Thread 1 ∷ id_of boxes many 61 Thread 2 ∷ [] ≡ 5 ∷ 5 ∷ 0 ∷ []

-- ---- accesses

-- a load of part 0 at a byte of a raw buffer of 4 words
abbrev pub load_at : ℕ → Program
load_at byte =
    program_of Raw 1 (straight (Load 10 1 (target.Buffer 0) (Byte (operand.Int byte)) ∷ []))

-- the values outside the mask are undef, and unread
abbrev pub MaskedStoreIsOne : Type 0
MaskedStoreIsOne =
    told (run_of (program_of Raw 1 (straight (store_at 8 (operand.Int 7) ∷ []))) (launch_of 4) (filled 0) 1 (0 ∷ 0 ∷ [])) ≡ is_complete (stores 2 7 ∷ ends ∷ [])

-- element 3 of a structured buffer of stride 16 and 16 words, at an offset
abbrev pub element_at : ℕ → Program
element_at offset =
    program_of (Structured 16) 1 (straight (Load 10 1 (target.Buffer 0) (Element (operand.Int 3) (operand.Int offset) 16) ∷ []))

abbrev pub ElementIsAtWord14 : Type 0
ElementIsAtWord14 =
    told (run_of (element_at 8) (launch_of 16) (filled 5) 1 (0 ∷ 0 ∷ [])) ≡ is_complete (loads 14 5 ∷ ends ∷ [])

abbrev pub OffsetBetweenWordsIsUndefined : Type 0
OffsetBetweenWordsIsUndefined = told (run_of (element_at 14) (launch_of 16) (filled 5) 1 (0 ∷ [])) ≡ is_undefined

-- an atomic on word 0, and then a load of it
abbrev pub atomic_then_load : AtomicOp → ℕ → Program
atomic_then_load op value =
    program_of Raw 1 (straight (Atomic (reg 10) op (target.Buffer 0) (Byte (operand.Int 0)) (operand.Int value) ∷ Load 11 1 (target.Buffer 0) (Byte (operand.Int 0)) ∷ []))

abbrev pub atomic_event : AtomicOp → ℕ → ℕ → Option Event
atomic_event op value old = event (launch.Atomic (launch.Buffer 0 0) op value) old

-- of 9 and 3 the minimum is 3; of 9 and the last word the unsigned minimum is 9, and the signed one is the last word, which is -1
abbrev pub AtomicMinimum : Type 0
AtomicMinimum =
    told (run_of (atomic_then_load UMin 3) (launch_of 1) (filled 9) 1 (0 ∷ 0 ∷ [])) ≡ is_complete (atomic_event UMin 3 9 ∷ loads 0 3 ∷ [])

abbrev pub UnsignedMinimum : Type 0
UnsignedMinimum =
    told (run_of (atomic_then_load UMin (2 ^ 32 - 1)) (launch_of 1) (filled 9) 1 (0 ∷ 0 ∷ [])) ≡ is_complete (atomic_event UMin (2 ^ 32 - 1) 9 ∷ loads 0 9 ∷ [])

abbrev pub SignedMinimum : Type 0
SignedMinimum =
    told (run_of (atomic_then_load SMin (2 ^ 32 - 1)) (launch_of 1) (filled 9) 1 (0 ∷ 0 ∷ [])) ≡ is_complete (atomic_event SMin (2 ^ 32 - 1) 9 ∷ loads 0 (2 ^ 32 - 1) ∷ [])

-- ---- barriers, in groups of two invocations

abbrev pub sync : Instr
sync = Barrier true Nobody false false

abbrev pub sync_event : ℕ → Option Event
sync_event block = event_at (launch.Barrier true Nobody false false) block 0

-- both invocations make a barrier and return
abbrev pub meeting : Program
meeting = program_of Raw 2 (straight (sync ∷ []))

-- the entry that names the waiting invocation changes nothing; after the second barrier both go on
abbrev pub GroupIsReleased : Type 0
GroupIsReleased =
    told (run_of meeting (launch_of 0) (filled 0) 1 (0 ∷ 0 ∷ 1 ∷ 0 ∷ 1 ∷ [])) ≡ is_complete (sync_event 0 ∷ None ∷ sync_event 0 ∷ ends ∷ ends ∷ [])

-- invocation 0 makes a barrier in block 1, and invocation 1 returns in block 2
unfoldable pub parting : Program
parting =
    program_of Raw 2 (record { phis = []; instrs = Id (reg 10) Flat 0 ∷ Cmp (reg 11) Eq ty.Int (number 10) (operand.Int 0) ∷ []; term = If (operand.Reg (reg 11) ty.Bool) 1 2 } ∷ record { phis = []; instrs = sync ∷ []; term = Ret } ∷ record { phis = []; instrs = []; term = Ret } ∷ [])

-- an end is undefined while another invocation of the group waits
abbrev pub EndWhileWaitingIsUndefined : Type 0
EndWhileWaitingIsUndefined = told (run_of parting (launch_of 0) (filled 0) 4 (0 ∷ 1 ∷ [])) ≡ is_undefined

-- a barrier is undefined where another invocation of the group has ended
abbrev pub MissedBarrierIsUndefined : Type 0
MissedBarrierIsUndefined = told (run_of parting (launch_of 0) (filled 0) 4 (1 ∷ 0 ∷ [])) ≡ is_undefined

-- the first entry that is busy or undefined decides
abbrev pub FewStepsAreBusy : Type 0
FewStepsAreBusy = told (run_of parting (launch_of 0) (filled 0) 3 (0 ∷ 1 ∷ [])) ≡ is_busy

-- invocation 0 makes its barrier in block 1, and invocation 1 in block 2
unfoldable pub two_sites : Program
two_sites =
    program_of Raw 2 (record { phis = []; instrs = Id (reg 10) Flat 0 ∷ Cmp (reg 11) Eq ty.Int (number 10) (operand.Int 0) ∷ []; term = If (operand.Reg (reg 11) ty.Bool) 1 2 } ∷ record { phis = []; instrs = sync ∷ []; term = Ret } ∷ record { phis = []; instrs = sync ∷ []; term = Ret } ∷ [])

abbrev pub BarrierAtAnotherSiteIsUndefined : Type 0
BarrierAtAnotherSiteIsUndefined = told (run_of two_sites (launch_of 0) (filled 0) 4 (0 ∷ 1 ∷ [])) ≡ is_undefined
