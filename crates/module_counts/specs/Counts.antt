-- How many instructions of an opcode a module has, and how many switches a block may have.
use Rattle.std.specs.Prelude.{ℕ, ◌+◌, ◌/◌, ◌==◌, max, List, length, count_by, Option, Some, None, slice_get}
use Rattle.dxil_form.specs.declared.block.Block.{Block}
use Rattle.dxil_form.specs.declared.block.Term.{Term}
use Rattle.dxil_form.specs.declared.block.Term.TheVariants.{Ret, Unreachable, Go, If, Switch}
use Rattle.dxil_form.specs.declared.program.Program.{Program}
use Rattle.spv_form.specs.declared.module.Inst.{Inst}

-- how many instructions have the opcode
abbrev pub how_many : ℕ → List Inst → ℕ
how_many opcode insts = count_by (λ x. x.opcode == opcode) insts

-- one for each begun 16,383 cases of a switch, and one for a switch without cases
abbrev pub switches_of : Term → ℕ
switches_of Ret = 0
switches_of Unreachable = 0
switches_of (Go k) = 0
switches_of (If cond there other) = 0
switches_of (Switch value default cases) = max 1 ((length cases + 16382) / 16383)

abbrev pub switches_in : Option Block → ℕ
switches_in None = 0
switches_in (Some block) = switches_of block.term

-- of a block by its number
abbrev pub switches_at : Program → ℕ → ℕ
switches_at p b = switches_in (slice_get p.blocks b)
