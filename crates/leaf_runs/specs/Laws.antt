-- A program and a module do the same, where the module has the code of each block that is reached, and leaves it as the block's terminator says.
use Rattle.std.specs.Prelude.{◌≡◌, ℕ, List, Some, slice_get}
use Rattle.dxil_form.specs.declared.block.Block.{Block}
use Rattle.dxil_form.specs.declared.program.Program.{Program}
use Rattle.dxil_form.specs.Branches.{declared_graph}
use Rattle.dxil_form.specs.Graphs.{Reached}
use Rattle.dxil_form.specs.Sound.{Sound}
use Rattle.spv_form.specs.declared.module.Module.{Module}
use Rattle.dxil_meaning.specs.Fits.{Fits}
use Rattle.dxil_meaning.specs.Source.{Launch, source}
use Rattle.dxil_meaning.specs.Source as source_machine
use Rattle.dxil_meaning.specs.Steps.{Starting}
use Rattle.spirv_meaning.specs.Bindings.{Bindings}
use Rattle.spirv_meaning.specs.Target.{Value, State, initial}
use Rattle.spirv_meaning.specs.Same.{Same, source_steps, target_steps}
use Rattle.spirv_code.specs.declared.key.Global.{Global}
use Rattle.spirv_code.specs.declared.key.Slot.{Slot}
use Rattle.spirv_code.specs.Plans.{Context}
use Rattle.line_runs.specs.Held.{Setting, IsOf, machine}
use Rattle.line_runs.specs.Declared.{Declares, held_type}
use Rattle.line_runs.specs.Exits.{ArrivesAt, LeafStands}
use Rattle.block_runs.specs.Laws.{Match}
use Rattle.leaf_runs.specs.BlockReady.{BlockReady}
use Rattle.leaf_runs.specs.Between.{Between}

-- the blocks that are reached have their code in the module, and the code of each asks no more than there is, wherever it stands
pub record BlocksStand (s : Setting) : Type 0 where
  pub blocks : s.context.blocks ≡ s.program.blocks
  pub leaves : (i b : ℕ) (block : Block) → Reached (declared_graph s.program) b → slice_get s.program.blocks b ≡ Some block → (site : ℕ) × LeafStands s i b block site
  pub ready : (b : ℕ) (block : Block) (place : ℕ) → Reached (declared_graph s.program) b → slice_get s.program.blocks b ≡ Some block → BlockReady s b block place

-- each variable of the function begins with a value of its type, and the module's machine comes from its first instruction to the site of block 0
pub record BeginsAt (s : Setting) : Type 0 where
  pub variables : (slot : Slot) (id : ℕ) → s.context.slot slot ≡ Some id → (w : Value) × (initial s.made id ≡ Some w) × IsOf (held_type slot) w
  pub arrives : (i : ℕ) → ArrivesAt s i (machine s).start 0

-- all states at the beginning of a block, or between two events of it, match
abbrev pub LeavesMatch : Type 0
LeavesMatch =
    (s : Setting) → Declares s → Sound s.program → Fits s.program s.launch → BlocksStand s → (i : ℕ) (x : source_machine.State) (t : State) → Between s i x t → Match s (Between s) (source_steps s.program) (target_steps s.made) i x t

-- and the machines come to such states from where they start
abbrev pub StartsMatch : Type 0
StartsMatch =
    (s : Setting) → Declares s → Sound s.program → BlocksStand s → BeginsAt s → (i : ℕ) → Starting source_machine.State State (source s.program s.launch) (machine s) (Between s) (source_steps s.program) (target_steps s.made) i

-- a program and its module in a launch
abbrev pub setting_of : Program → Module → Bindings → Context → List Global → Launch → Setting
setting_of p m at c table l =
    record { program = p; made = m; bindings = at; launch = l; context = c; table = table }

-- so they do the same
abbrev pub SameByLeaves : Type 0
SameByLeaves =
    (p : Program) (m : Module) (at : Bindings) (c : Context) (table : List Global) → Sound p → ((l : Launch) → Declares (setting_of p m at c table l)) → ((l : Launch) → Fits p l → BlocksStand (setting_of p m at c table l)) → ((l : Launch) → Fits p l → BeginsAt (setting_of p m at c table l)) → Same p at m
