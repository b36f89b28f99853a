-- The plans of programs have what the code of each block asks.
use Rattle.std.specs.Prelude.{◌≡◌, ℕ, Bool, true, List, Some, slice_get}
use Rattle.dxil_form.specs.declared.value.Ty.{Ty}
use Rattle.dxil_form.specs.declared.value.Reg.{Reg}
use Rattle.dxil_form.specs.declared.block.Phi.{Phi}
use Rattle.dxil_form.specs.declared.block.Block.{Block}
use Rattle.dxil_form.specs.declared.program.Program.{Program}
use Rattle.dxil_form.specs.declared.region.Region.{Region}
use Rattle.dxil_form.specs.Branches.{declared_graph}
use Rattle.dxil_form.specs.Graphs.{Reached}
use Rattle.dxil_form.specs.Registers.{Spot, Sets, IsCrossing}
use Rattle.dxil_form.specs.Sound.{Sound, PhiAt}
use Rattle.dxil_form.specs.Wired.{Wired}
use Rattle.spv_form.specs.declared.module.Module.{Module}
use Rattle.dxil_meaning.specs.Source.{Launch}
use Rattle.spirv_meaning.specs.Bindings.{Bindings}
use Rattle.spirv_code.specs.declared.key.Slot.{Slot}
use Rattle.spirv_code.specs.Plans.{Plan, context_of, kept, coming}
use Rattle.spirv_code.specs.Needed.{table_of}
use Rattle.spirv_code.specs.Further.{further_slots, has_slot}
use Rattle.leaf_runs.specs.BlockReady.{BlockReady}
use Rattle.leaf_runs.specs.Laws.{setting_of}

-- the list has both variables of each phi, one of each register that crosses, of the type with which it is set, and those that range tests ask for
pub record HasVariables (p : Program) (slots : List Slot) : Type 0 where
  pub next : (b n : ℕ) (phi : Phi) → PhiAt p b n phi → has_slot slots (coming phi.to phi.ty) ≡ true
  pub own : (b n : ℕ) (phi : Phi) → PhiAt p b n phi → has_slot slots (kept phi.to phi.ty) ≡ true
  pub crossing : (b : ℕ) (spot : Spot) (reg : Reg) (type : Ty) → IsCrossing p reg → Sets p b spot reg type → has_slot slots (kept reg type) ≡ true
  pub further : (slot : Slot) → has_slot (further_slots p.blocks) slot ≡ true → has_slot slots slot ≡ true

-- Let a plan of a program have these variables, and the table of what the program's code names. Then each block that is reached is ready, wherever its code stands, in each module with the ids of the plan.
abbrev pub PlansAreReady : Type 0
PlansAreReady =
    (p : Program) (list : List Region) (wants : Bool) (plan : Plan) → Sound p → Wired p list → HasVariables p plan.slots → plan.table ≡ table_of p list wants plan.slots → (m : Module) (at : Bindings) (l : Launch) (b : ℕ) (block : Block) (place : ℕ) → Reached (declared_graph p) b → slice_get p.blocks b ≡ Some block → BlockReady (setting_of p m at (context_of p plan) plan.table l) b block place
