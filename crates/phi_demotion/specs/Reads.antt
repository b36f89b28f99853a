-- Which registers a program reads where its own block need not have set them, in the order of reading.
use Rattle.std.specs.Prelude.{ℕ, ◌+◌, Bool, ◌||◌, if◌then◌else◌, List, [], ◌∷◌, ◌++◌, length, map, fold}
use Rattle.std.specs.List.{flat_map, list_any}
use Rattle.std.specs.declared.cmp.Ordering.{Ordering}
use Rattle.std.specs.Ordering.{nat_cmp, ordering_then}
use Rattle.std.specs.BTreeMap.{is_at}
use Rattle.dxil_form.specs.declared.value.Ty.{Ty}
use Rattle.dxil_form.specs.declared.value.Reg.{Reg}
use Rattle.dxil_form.specs.declared.value.Operand.{Operand}
use Rattle.dxil_form.specs.declared.value.Operand.TheVariants as operand
use Rattle.dxil_form.specs.declared.instr.Instr.{Instr}
use Rattle.dxil_form.specs.declared.block.Entry.{Entry}
use Rattle.dxil_form.specs.declared.block.Phi.{Phi}
use Rattle.dxil_form.specs.declared.block.Block.{Block}
use Rattle.dxil_form.specs.Registers.{Typed, reads, set_by, term_operands}
use Rattle.phi_demotion.specs.declared.slots.PhiSlot.{PhiSlot}
use Rattle.phi_demotion.specs.declared.slots.CrossSlot.{CrossSlot}

-- a register as two numbers, and the order of these
abbrev pub key_of : Reg → ℕ × ℕ
key_of reg = (reg.value, reg.part)

abbrev pub key_cmp : ℕ × ℕ → ℕ × ℕ → Ordering
key_cmp p q = ordering_then (nat_cmp p.0 q.0) (nat_cmp p.1 q.1)

abbrev pub is_key : ℕ × ℕ → ℕ × ℕ → Bool
is_key p q = is_at (key_cmp p) q

-- whether one of these registers is the one with the numbers q
abbrev pub has_key : List (Typed Reg) → ℕ × ℕ → Bool
has_key regs q = list_any (λ r. is_key (key_of r.item) q) regs

-- the register that an operand names, unless the test holds of it
abbrev pub unset : (ℕ × ℕ → Bool) → Operand → List (Reg × Ty)
unset has (operand.Reg reg ty) = if has (key_of reg) then [] else (reg, ty) ∷ []
unset has (operand.Int n) = []
unset has (operand.Bool b) = []
unset has (operand.Undef ty) = []

-- the register that an operand names
abbrev pub named : Operand → List (Reg × Ty)
named (operand.Reg reg ty) = (reg, ty) ∷ []
named (operand.Int n) = []
named (operand.Bool b) = []
named (operand.Undef ty) = []

abbrev pub entry_reads : List Entry → List (Reg × Ty)
entry_reads entries = flat_map (λ e. named e.value) entries

abbrev pub phi_reads : List Phi → List (Reg × Ty)
phi_reads phis = flat_map (λ phi. entry_reads phi.entries) phis

-- what the instructions read that neither these registers are nor an earlier one of them sets
abbrev pub line_reads : List (Typed Reg) → List Instr → List (Reg × Ty)
line_reads done [] = []
line_reads done (i ∷ is) =
    flat_map (unset (has_key done)) (reads i) ++ line_reads (done ++ set_by i) is

abbrev pub settled : List Instr → List (Typed Reg)
settled instrs = flat_map set_by instrs

abbrev pub end_reads : Block → List (Reg × Ty)
end_reads block =
    flat_map (unset (has_key (settled block.instrs))) (map (λ a. a.item) (term_operands block.term))

abbrev pub block_reads : Block → List (Reg × Ty)
block_reads block = phi_reads block.phis ++ line_reads [] block.instrs ++ end_reads block

abbrev pub program_reads : List Block → List (Reg × Ty)
program_reads blocks = flat_map block_reads blocks

-- whether one of these phis has the register with the numbers q
abbrev pub is_phi : List PhiSlot → ℕ × ℕ → Bool
is_phi slots q = list_any (λ s. is_key (key_of s.reg) q) slots

-- one more register, unless it is a phi's or has a slot already
abbrev pub with_read : (ℕ × ℕ → Bool) → ℕ → List CrossSlot → Reg × Ty → List CrossSlot
with_read is_phi first slots read =
    if is_phi (key_of read.0) || list_any (λ s. is_key (key_of s.reg) (key_of read.0)) slots
    then slots
    else slots ++ (record { reg = read.0; ty = read.1; slot = first + length slots }) ∷ []

abbrev pub slots_of_reads : (ℕ × ℕ → Bool) → ℕ → List (Reg × Ty) → List CrossSlot
slots_of_reads is_phi first reads = fold (with_read is_phi first) [] reads
