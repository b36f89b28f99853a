-- The plan that is made of a program's slots has what its module owes.
use Rattle.std.specs.Prelude.{◌≡◌, ℕ, true, List, Some, length, slice_get}
use Rattle.dxil_form.specs.declared.program.Program.{Program}
use Rattle.dxil_form.specs.declared.region.Region.{Region}
use Rattle.dxil_form.specs.declared.region.Region.TheVariants as region
use Rattle.dxil_form.specs.Branches.{branches}
use Rattle.dxil_form.specs.Sound.{Sound}
use Rattle.dxil_form.specs.Wired.{Wired}
use Rattle.phi_demotion.specs.declared.slots.Slots.{Slots}
use Rattle.phi_demotion.specs.Slots.{AreSlots}
use Rattle.spirv_code.specs.declared.key.Global.TheVariants.{Number}
use Rattle.spirv_code.specs.declared.key.Slot.TheVariants.{Want, Pick}
use Rattle.spirv_code.specs.Keys.{has_key}
use Rattle.spirv_code.specs.Plans.{Plan, slot_id}
use Rattle.spirv_code.specs.Needed.{table_of}
use Rattle.spirv_code.specs.Further.{picks, wants}
use Rattle.frame_facts.specs.Serves.{Serves}
use Rattle.plan_ready.specs.Planned.{HasVariables}
use Rattle.chosen_plan.specs.Chosen.{plan_for}

pub record IsPlan (p : Program) (list : List Region) (plan : Plan) : Type 0 where
  -- what is declared is in order, and serves the blocks
  pub serves : Serves p list plan
  pub variables : HasVariables p plan.slots
  pub table : plan.table ≡ table_of p list (wants p list) plan.slots
  -- the variables of the regions are there where a block is ever wanted, and where a value is tested in parts
  pub want : wants p list ≡ true → (id : ℕ) × (slot_id plan Want ≡ Some id)
  pub wanted : (id : ℕ) → slot_id plan Want ≡ Some id → wants p list ≡ true
  pub pick : picks p list ≡ true → (id : ℕ) × (slot_id plan Pick ≡ Some id)
  -- the numbers of the blocks that may be wanted, and the number for no block
  pub no_number : wants p list ≡ true → has_key plan.table (Number (length p.blocks)) ≡ true
  pub next_numbers : wants p list ≡ true → (r b k : ℕ) → slice_get list r ≡ Some (region.Leaf b) → branches p b k ≡ true → has_key plan.table (Number k) ≡ true
  pub then_numbers : (r first second target : ℕ) → slice_get list r ≡ Some (region.Then first second target) → has_key plan.table (Number target) ≡ true
  pub loop_numbers : (r body head : ℕ) → slice_get list r ≡ Some (region.Loop body head) → has_key plan.table (Number head) ≡ true

-- The slots of each sound program, and regions that are wired, make such a plan.
abbrev pub PlansAreChosen : Type 0
PlansAreChosen =
    (p : Program) (list : List Region) (slots : Slots) → Sound p → Wired p list → AreSlots p slots → IsPlan p list (plan_for p list slots)
