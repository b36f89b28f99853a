-- How many accesses, atomics, barriers and operations of some kinds the words of a program's module have at most.
--
-- Opcodes are those of SPIR-V 1.6: Load 61, Store 62, SDiv 135, UMod 137, SRem 138, BitReverse 204, BitCount 205, ControlBarrier 224, MemoryBarrier 225, AtomicExchange 229, AtomicCompareExchange 230, other atomics 234 to 242. No other instruction on memory stands in a module that is formed (`IsFormed`).
use Rattle.std.specs.Prelude.{ℕ, ◌≤◌, Bool, not, ◌&&◌, ◌||◌, nat_eq, nat_le, List, length, Option, Some, None, slice_get, count_by}
use Rattle.std.specs.List.{sum_by}
use Rattle.dxil_form.specs.declared.instr.BinOp.{BinOp}
use Rattle.dxil_form.specs.declared.instr.BinOp.TheVariants as bin
use Rattle.dxil_form.specs.declared.instr.OneOp.{OneOp}
use Rattle.dxil_form.specs.declared.instr.OneOp.TheVariants as one
use Rattle.dxil_form.specs.declared.instr.Instr.{Instr}
use Rattle.dxil_form.specs.declared.instr.Instr.TheVariants as instr
use Rattle.dxil_form.specs.declared.block.Block.{Block}
use Rattle.dxil_form.specs.declared.program.Program.{Program}
use Rattle.dxil_form.specs.Registers.{parts_of}
use Rattle.spv_form.specs.declared.module.Inst.{Inst}
use Rattle.spv_form.specs.declared.module.Module.{Module}
use Rattle.region_leaves.specs.Leaves.{AreReachable}
use Rattle.act_form.specs.Acts.{is_own, HasActs}

-- what is counted, each kind for itself
pub data Kind : Type 0 where
  Loads : Kind
  Stores : Kind
  Atomics : Kind
  Swaps : Kind
  Barriers : Kind
  -- signed quotients, unsigned and signed remainders
  Quotients : Kind
  Remainders : Kind
  Signed_remainders : Kind
  -- reversed bits, and counted ones
  Reversals : Kind
  Bit_counts : Kind

-- ---- in the words

-- The pointer is no variable of the invocation's own, which is one in Function or an input. Each pointer into StorageBuffer, Uniform or Workgroup memory is such a pointer; others are counted with them.
abbrev pub is_outward : Module → Option ℕ → Bool
is_outward m pointer = not (is_own m pointer)

-- the instruction is of the kind
abbrev pub is_of : Module → Kind → Inst → Bool
is_of m Loads i = nat_eq i.opcode 61 && is_outward m (slice_get i.operands 2)
is_of m Stores i = nat_eq i.opcode 62 && is_outward m (slice_get i.operands 0)
is_of m Atomics i = nat_eq i.opcode 229 || nat_le 234 i.opcode && nat_le i.opcode 242
is_of m Swaps i = nat_eq i.opcode 230
is_of m Barriers i = nat_eq i.opcode 224 || nat_eq i.opcode 225
is_of m Quotients i = nat_eq i.opcode 135
is_of m Remainders i = nat_eq i.opcode 137
is_of m Signed_remainders i = nat_eq i.opcode 138
is_of m Reversals i = nat_eq i.opcode 204
is_of m Bit_counts i = nat_eq i.opcode 205

abbrev pub how_many : Module → Kind → ℕ
how_many m kind = count_by (is_of m kind) m.insts

-- ---- in the program

-- how many of the kind a binary operation is
abbrev pub of_binary : Kind → BinOp → ℕ
of_binary Quotients bin.SDiv = 1
of_binary Remainders bin.URem = 1
of_binary Signed_remainders bin.SRem = 1
of_binary _ _ = 0

abbrev pub of_bits : Kind → OneOp → ℕ
of_bits Reversals one.Bfrev = 1
of_bits Bit_counts one.Countbits = 1
of_bits _ _ = 0

-- how many of the kind a line has: a load and a store one for each part of its mask
abbrev pub of_line : Kind → Instr → ℕ
of_line Loads (instr.Load to mask target addr) = length (parts_of mask)
of_line Stores (instr.Store mask target addr x y z w) = length (parts_of mask)
of_line Atomics (instr.Atomic to op target addr value) = 1
of_line Swaps (instr.Swap to target addr compare value) = 1
of_line Barriers (instr.Barrier sync scope uav shared) = 1
of_line kind (instr.Bin to op ty a b) = of_binary kind op
of_line kind (instr.One to op a) = of_bits kind op
of_line _ _ = 0

abbrev pub of_block : Kind → Option Block → ℕ
of_block kind None = 0
of_block kind (Some block) = sum_by (of_line kind) block.instrs

-- of a block by its number
abbrev pub at_block : Program → Kind → ℕ → ℕ
at_block p kind b = of_block kind (slice_get p.blocks b)

-- ---- the law

-- Of each kind, the words have no more than the reachable blocks.
pub record HasFewActs (p : Program) (m : Module) : Type 0 where
  pub few : (blocks : List ℕ) (kind : Kind) → AreReachable p blocks → how_many m kind ≤ sum_by (at_block p kind) blocks

-- A module that does what the reachable blocks do, each block once, has no more.
abbrev pub FewActs : Type 0
FewActs = (p : Program) (m : Module) → HasActs p m → HasFewActs p m
