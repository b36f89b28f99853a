-- The words have no more acts of a kind than the reachable blocks.
use Rattle.std.proofs.Common.{◌≡◌, ℕ, ◌*◌, ◌≤◌, Bool, true, false, List, [], ◌∷◌, length, Option, Some, None, refl, ap, arith}
use Rattle.std.proofs.lemmas.List.Sums.{sum_by-cons}
use Rattle.std.specs.Prelude.{if◌then◌else◌, slice_get}
use Rattle.std.specs.List.{flat_map, sum_by}
use Rattle.dxil_form.specs.declared.value.Ty.{Ty}
use Rattle.dxil_form.specs.declared.value.Reg.{Reg}
use Rattle.dxil_form.specs.declared.value.Operand.{Operand}
use Rattle.dxil_form.specs.declared.instr.AtomicOp.{AtomicOp}
use Rattle.dxil_form.specs.declared.instr.Target.{Target}
use Rattle.dxil_form.specs.declared.instr.Scope.{Scope}
use Rattle.dxil_form.specs.declared.instr.BinOp.{BinOp}
use Rattle.dxil_form.specs.declared.instr.BinOp.TheVariants as bin
use Rattle.dxil_form.specs.declared.instr.OneOp.{OneOp}
use Rattle.dxil_form.specs.declared.instr.OneOp.TheVariants as one
use Rattle.dxil_form.specs.declared.instr.Addr.{Addr}
use Rattle.dxil_form.specs.declared.instr.Instr.{Instr}
use Rattle.dxil_form.specs.declared.instr.Instr.TheVariants as instr
use Rattle.dxil_form.specs.declared.block.Block.{Block}
use Rattle.dxil_form.specs.declared.program.Program.{Program}
use Rattle.dxil_form.specs.Registers.{parts_of}
use Rattle.spirv_meaning.specs.Target.{Value}
use Rattle.spirv_code.specs.Accesses.{atomic_opcode}
use Rattle.region_leaves.specs.Leaves.{AreReachable}
use Rattle.act_form.specs.Acts as acts
use Rattle.act_form.specs.Acts.{Act, has_room, with_room, bin_acts, one_acts, line_acts, acts_at, block_acts, atomic_scope, word}
use Rattle.act_counts.specs.Laws.{Kind, Loads, Stores, Atomics, Swaps, Barriers, Quotients, Remainders, Signed_remainders, Reversals, Bit_counts, of_binary, of_bits, of_line, of_block, at_block, how_many, FewActs}
use Rattle.act_counts.proofs.Hits.{computed, hit, hits, hits_append, insts_hits}
use Rattle.act_counts.proofs.Parts.{sum_part, contains_at}

-- ---- parts

room_hit : (kind : Kind) (act : Act) (t : Bool) → hits kind (if t then act ∷ [] else []) ≤ hit kind act
room_hit kind act true = omega arith
room_hit kind act false = omega arith

parts_hit : (kind : Kind) (act : Act) (addr : Addr) (parts : List ℕ) → hits kind (flat_map (with_room act addr) parts) ≤ hit kind act * length parts
parts_hit kind act addr [] = omega arith
parts_hit kind act addr (c ∷ parts) =
    let here = room_hit kind act (has_room addr c) in
    let both = hits_append kind (with_room act addr c) (flat_map (with_room act addr) parts) in
    let rest = parts_hit kind act addr parts in
    omega (arith, here, both, rest)

-- ---- lines

load_hits : (kind : Kind) (to mask : ℕ) (t : Target) (addr : Addr) → hits kind (line_acts (instr.Load to mask t addr)) ≤ of_line kind (instr.Load to mask t addr)
load_hits Loads to mask t addr =
    let parts = parts_hit Loads acts.Loads addr (parts_of mask) in
    omega (arith, parts)
load_hits kind to mask t addr =
    let parts = parts_hit kind acts.Loads addr (parts_of mask) in
    omega (arith, parts)

store_hits : (kind : Kind) (mask : ℕ) (t : Target) (addr : Addr) (x y z w : Operand) → hits kind (line_acts (instr.Store mask t addr x y z w)) ≤ of_line kind (instr.Store mask t addr x y z w)
store_hits Stores mask t addr x y z w =
    let parts = parts_hit Stores acts.Stores addr (parts_of mask) in
    omega (arith, parts)
store_hits kind mask t addr x y z w =
    let parts = parts_hit kind acts.Stores addr (parts_of mask) in
    omega (arith, parts)

update_hit : (kind : Kind) (to : Reg) (op : AtomicOp) (t : Target) (addr : Addr) (value : Operand) (opcode : ℕ) (a b : Option Value) → hit kind (acts.Updates opcode a b) ≤ of_line kind (instr.Atomic to op t addr value)
update_hit Atomics to op t addr value opcode a b = omega arith
update_hit kind to op t addr value opcode a b = omega arith

swap_hit : (kind : Kind) (to : ℕ) (t : Target) (addr : Addr) (compare value : Operand) (a b c : Option Value) → hit kind (acts.Swaps a b c) ≤ of_line kind (instr.Swap to t addr compare value)
swap_hit Swaps to t addr compare value a b c = omega arith
swap_hit kind to t addr compare value a b c = omega arith

barrier_hits : (kind : Kind) (sync : Bool) (x : Scope) (uav shared : Bool) → hits kind (line_acts (instr.Barrier sync x uav shared)) ≤ of_line kind (instr.Barrier sync x uav shared)
barrier_hits Barriers true x uav shared = omega arith
barrier_hits Barriers false x uav shared = omega arith
barrier_hits kind true x uav shared = omega arith
barrier_hits kind false x uav shared = omega arith

-- ---- operations

operation_hit : (kind : Kind) (n : ℕ) → hits kind (acts.Computes n ∷ []) ≡ computed kind n
operation_hit Loads n = refl
operation_hit kind n = omega arith

quotient_most : (kind : Kind) → computed kind 135 ≤ of_binary kind bin.SDiv
quotient_most Quotients = omega arith
quotient_most kind = omega arith

remainder_most : (kind : Kind) → computed kind 137 ≤ of_binary kind bin.URem
remainder_most Remainders = omega arith
remainder_most kind = omega arith

signed_most : (kind : Kind) → computed kind 138 ≤ of_binary kind bin.SRem
signed_most Signed_remainders = omega arith
signed_most kind = omega arith

reversal_most : (kind : Kind) → computed kind 204 ≤ of_bits kind one.Bfrev
reversal_most Reversals = omega arith
reversal_most kind = omega arith

count_most : (kind : Kind) → computed kind 205 ≤ of_bits kind one.Countbits
count_most Bit_counts = omega arith
count_most kind = omega arith

binary_hits : (kind : Kind) (op : BinOp) → hits kind (bin_acts op) ≤ of_binary kind op
binary_hits kind bin.SDiv = omega (arith, operation_hit kind 135, quotient_most kind)
binary_hits kind bin.URem = omega (arith, operation_hit kind 137, remainder_most kind)
binary_hits kind bin.SRem = omega (arith, operation_hit kind 138, signed_most kind)
binary_hits kind _ = omega arith

bits_hits : (kind : Kind) (op : OneOp) → hits kind (one_acts op) ≤ of_bits kind op
bits_hits kind one.Bfrev = omega (arith, operation_hit kind 204, reversal_most kind)
bits_hits kind one.Countbits = omega (arith, operation_hit kind 205, count_most kind)

binary_line : (kind : Kind) (to : Reg) (op : BinOp) (t : Ty) (a b : Operand) → of_line kind (instr.Bin to op t a b) ≡ of_binary kind op
binary_line Loads to op t a b = refl
binary_line kind to op t a b = refl

bits_line : (kind : Kind) (to : Reg) (op : OneOp) (a : Operand) → of_line kind (instr.One to op a) ≡ of_bits kind op
bits_line Loads to op a = refl
bits_line kind to op a = refl

-- ---- blocks

line_hits : (kind : Kind) (line : Instr) → hits kind (line_acts line) ≤ of_line kind line
line_hits kind (instr.Load to mask t addr) = load_hits kind to mask t addr
line_hits kind (instr.Store mask t addr x y z w) = store_hits kind mask t addr x y z w
line_hits kind (instr.Atomic to op t addr value) =
    let here = room_hit kind (acts.Updates (atomic_opcode op) (word (atomic_scope t)) (word 0)) (has_room addr 0) in
    let one = update_hit kind to op t addr value (atomic_opcode op) (word (atomic_scope t)) (word 0) in
    omega (arith, here, one)
line_hits kind (instr.Swap to t addr compare value) =
    let here = room_hit kind (acts.Swaps (word (atomic_scope t)) (word 0) (word 0)) (has_room addr 0) in
    let one = swap_hit kind to t addr compare value (word (atomic_scope t)) (word 0) (word 0) in
    omega (arith, here, one)
line_hits kind (instr.Barrier sync x uav shared) = barrier_hits kind sync x uav shared
line_hits kind (instr.Bin to op t a b) =
    omega (arith, binary_hits kind op, binary_line kind to op t a b)
line_hits kind (instr.One to op a) = omega (arith, bits_hits kind op, bits_line kind to op a)
line_hits kind _ = omega arith

lines_hits : (kind : Kind) (lines : List Instr) → hits kind (flat_map line_acts lines) ≤ sum_by (of_line kind) lines
lines_hits kind [] = omega arith
lines_hits kind (line ∷ lines) =
    let sum = sum_by-cons (of_line kind) line lines in
    let both = hits_append kind (line_acts line) (flat_map line_acts lines) in
    let here = line_hits kind line in
    let rest = lines_hits kind lines in
    omega (arith, sum, both, here, rest)

block_hits : (kind : Kind) (o : Option Block) → hits kind (acts_at o) ≤ of_block kind o
block_hits kind None = omega arith
block_hits kind (Some block) = lines_hits kind block.instrs

order_hits : (p : Program) (kind : Kind) (order : List ℕ) → hits kind (flat_map (block_acts p) order) ≤ sum_by (at_block p kind) order
order_hits p kind [] = omega arith
order_hits p kind (b ∷ order) =
    let sum = sum_by-cons (at_block p kind) b order in
    let both = hits_append kind (block_acts p b) (flat_map (block_acts p) order) in
    let here = block_hits kind (slice_get p.blocks b) in
    let rest = order_hits p kind order in
    omega (arith, sum, both, here, rest)

-- ---- the law

pub few_acts : FewActs
few_acts p m has = record { few = few }
  where
    few : (blocks : List ℕ) (kind : Kind) → AreReachable p blocks → how_many m kind ≤ sum_by (at_block p kind) blocks
    few blocks kind reachable =
        let words = insts_hits m kind m.insts in
        let same = ap (hits kind) has.acts in
        let most = order_hits p kind has.order in
        let part = sum_part (at_block p kind) has.order blocks has.once (λ k b e. (let there = reachable.all b (has.reached k b e) in (there.0, contains_at blocks b there.0 there.1 there.2))) in
        omega (arith, words, same, most, part)
