-- The code of the regions of a program is formed as its opcodes say, below a bound of the ids.
use Rattle.std.specs.Prelude.{ℕ, ◌+◌, ◌<◌, List, length, All}
use Rattle.dxil_form.specs.declared.program.Program.{Program}
use Rattle.dxil_form.specs.declared.region.Region.{Region}
use Rattle.dxil_form.specs.Sound.{Sound}
use Rattle.dxil_form.specs.Wired.{Wired}
use Rattle.spv_form.specs.Formed.{IsFormedInst}
use Rattle.spirv_code.specs.Plans.{Plan, table_from, context_of}
use Rattle.spirv_code.specs.Trees.{root_of}
use Rattle.spirv_code.specs.Rows.{row_code}
use Rattle.formed_lines.specs.Formed.{Upto}
use Rattle.chosen_plan.specs.IsPlan.{IsPlan}

-- there is room for what is declared: the labels of regions, the variables of the function, and the table
abbrev pub Room : ℕ → Plan → Type 0
Room bound plan = table_from plan + length plan.table < bound

-- Where the regions of a sound program are wired and the plan has what they ask, each instruction of their code has the operands that its opcode takes, and its ids are below the bound, where there is room for what is declared and for the results of the code.
abbrev pub RowsAreFormed : Type 0
RowsAreFormed =
    (p : Program) (list : List Region) (plan : Plan) (bound place : ℕ) → Sound p → Wired p list → IsPlan p list plan → Room bound plan → Upto bound (context_of p plan) (place + length (row_code (context_of p plan) place (root_of list))) → All (IsFormedInst bound) (row_code (context_of p plan) place (root_of list))
