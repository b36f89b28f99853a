-- What the code that leaves a block asks of its module.
use Rattle.std.specs.Prelude.{◌≡◌, ℕ, List, Some, slice_get}
use Rattle.spv_form.specs.declared.module.Inst.{Inst}
use Rattle.spirv_code.specs.declared.key.Slot.TheVariants.{Want}
use Rattle.spirv_code.specs.declared.key.Global.TheVariants.{Number}
use Rattle.spirv_code.specs.Exits.{label_inst}
use Rattle.line_runs.specs.Held.{Setting, Uses}
use Rattle.leaf_runs.specs.BlockReady.{HasVariable}

-- the label stands somewhere
abbrev pub Stands : List Inst → ℕ → Type 0
Stands insts id = (place : ℕ) × (slice_get insts place ≡ Some (label_inst id))

-- there is a variable for the block that is wanted, and block k has its number
abbrev pub CanWant : Setting → ℕ → Type 0
CanWant s k = HasVariable s Want × Uses s (Number k)
