-- How many variables the function of a program's module has, where the branches of the program are a tree.
use Rattle.std.specs.Prelude.{◌≡◌, ℕ, ◌+◌, ◌*◌, ◌≤◌, true, List, length, count_by, Some, slice_get}
use Rattle.dxil_form.specs.declared.value.Reg.{Reg}
use Rattle.dxil_form.specs.declared.block.Block.{Block}
use Rattle.dxil_form.specs.declared.program.Program.{Program}
use Rattle.dxil_form.specs.declared.region.Region.{Region}
use Rattle.dxil_form.specs.Graphs.{Graph, Reached}
use Rattle.dxil_form.specs.Branches.{IsBranchGraph, declared_graph}
use Rattle.dxil_form.specs.Sound.{Sound, cases_in}
use Rattle.spv_form.specs.declared.module.Module.{Module}
use Rattle.spv_form.specs.declared.module.Version.{Version}
use Rattle.id_rules.specs.Uses.{is_function_variable}
use Rattle.region_leaves.specs.Leaves.{AreReachable}
use Rattle.program_regions.specs.Chosen.{AreRegions}
use Rattle.spirv_meaning.specs.Bindings.{Bindings}
use Rattle.spirv_code.specs.Frame.{module_of}
use Rattle.phi_demotion.specs.declared.slots.Slots.{Slots}
use Rattle.phi_demotion.specs.Slots.{AreSlots}
use Rattle.chosen_plan.specs.Chosen.{plan_for}
use Rattle.variable_counts.specs.Held.{AreHeld, phi_count}

-- At most 400 blocks are reachable, each has at most one edge of the branch graph into it, and no switch of one has more than 16,383 cases.
pub record IsBranchTree (p : Program) (blocks : List ℕ) (g : Graph) : Type 0 where
  pub reachable : AreReachable p blocks
  pub few : length blocks ≤ 400
  pub graph : IsBranchGraph p g
  pub single : (a b k : ℕ) → g.edge a k ≡ true → g.edge b k ≡ true → a ≡ b
  pub cases : (b : ℕ) (block : Block) → Reached (declared_graph p) b → slice_get p.blocks b ≡ Some block → cases_in block.term ≤ 16383

-- Two Function variables for each phi at most, and one for each register of a list.
pub record HasFewVariables (p : Program) (m : Module) : Type 0 where
  pub few : (blocks : List ℕ) (g : Graph) → IsBranchTree p blocks g → (registers : List Reg) × AreHeld p registers × (count_by is_function_variable m.insts ≤ 2 * phi_count p + length registers)

-- In the module of each sound program, with the regions and the variables that are chosen for it.
abbrev pub FewVariables : Type 0
FewVariables =
    (p : Program) (list : List Region) (slots : Slots) (at : Bindings) (v : Version) → Sound p → AreRegions p list → AreSlots p slots → HasFewVariables p (module_of p list at v (plan_for p list slots))
