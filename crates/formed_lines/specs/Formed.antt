-- The lines of a block are formed as their opcodes say, below a bound of the ids.
use Rattle.std.specs.Prelude.{ℕ, ◌≡◌, ◌+◌, ◌<◌, List, length, Some, All}
use Rattle.dxil_form.specs.declared.value.Reg.{Reg}
use Rattle.dxil_form.specs.declared.instr.Instr.{Instr}
use Rattle.spv_form.specs.Formed.{IsIdBelow, IsFormedInst}
use Rattle.spirv_code.specs.declared.key.Global.{Global}
use Rattle.spirv_code.specs.declared.key.Slot.{Slot}
use Rattle.spirv_code.specs.Plans.{Context, result}
use Rattle.spirv_code.specs.Reads.{Env}
use Rattle.spirv_code.specs.Lines.{lines_code, lines_env}

-- what is declared has an id
abbrev pub KeysBelow : ℕ → Context → Type 0
KeysBelow bound c = (g : Global) → IsIdBelow bound (c.key g)

-- and each variable of the function that is there
abbrev pub SlotsBelow : ℕ → Context → Type 0
SlotsBelow bound c = (s : Slot) (id : ℕ) → c.slot s ≡ Some id → IsIdBelow bound id

-- the results and labels at the places below this one are ids
abbrev pub Upto : ℕ → Context → ℕ → Type 0
Upto bound c place = (k : ℕ) → k < place → IsIdBelow bound (result c k)

-- each register that is known has an id
abbrev pub KnownBelow : ℕ → Env → Type 0
KnownBelow bound env = (reg : Reg) (id : ℕ) → env reg ≡ Some id → IsIdBelow bound id

-- Each instruction of the code of lines has the operands that its opcode takes, its ids are below the bound where those that it names and those at its own places are, and so is what is known behind it.
abbrev pub LinesAreFormed : Type 0
LinesAreFormed =
    (bound : ℕ) (c : Context) (env : Env) (place : ℕ) (lines : List Instr) → KeysBelow bound c → SlotsBelow bound c → KnownBelow bound env → Upto bound c (place + length (lines_code c env place lines)) → All (IsFormedInst bound) (lines_code c env place lines) × KnownBelow bound (lines_env c env place lines)
