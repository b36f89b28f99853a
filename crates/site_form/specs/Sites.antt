-- Where the sites of blocks stand in the words of a program's module, and what has a name there.
--
-- Opcodes are those of SPIR-V 1.6: Name 5, Label 248.
use Rattle.std.specs.Prelude.{◌≡◌, ℕ, List, [], ◌∷◌, Some, slice_get}
use Rattle.dxil_form.specs.declared.program.Program.{Program}
use Rattle.dxil_form.specs.declared.region.Region.{Region}
use Rattle.dxil_form.specs.Branches.{declared_graph}
use Rattle.dxil_form.specs.Graphs.{Reached}
use Rattle.dxil_form.specs.Sound.{Sound}
use Rattle.dxil_form.specs.Wired.{Wired}
use Rattle.spv_form.specs.declared.module.Module.{Module}
use Rattle.spv_form.specs.declared.module.Version.{Version}
use Rattle.spirv_meaning.specs.Names.{block_name, site, begun_at}
use Rattle.spirv_meaning.specs.Bindings.{Bindings, AreApart}
use Rattle.phi_demotion.specs.declared.slots.Slots.{Slots}
use Rattle.phi_demotion.specs.Slots.{AreSlots}
use Rattle.spirv_code.specs.Plans.{inst}
use Rattle.spirv_code.specs.Frame.{module_of}
use Rattle.chosen_plan.specs.Chosen.{plan_for}

-- The operands of an OpName: the label at the site of a block that is reached, and the block's name.
pub record NamesSite (p : Program) (m : Module) (operands : List ℕ) : Type 0 where
  pub block : ℕ
  pub place : ℕ
  pub label : ℕ
  pub reached : Reached (declared_graph p) block
  pub site_is : site m block ≡ Some place
  pub stands : slice_get m.insts place ≡ Some (inst 248 (label ∷ []))
  pub is : operands ≡ label ∷ block_name block

pub record HasSites (p : Program) (m : Module) : Type 0 where
  -- each block that is reached has one site, and begins there alone
  pub sites : (b : ℕ) → Reached (declared_graph p) b → (place : ℕ) × (site m b ≡ Some place) × (begun_at m place ≡ b ∷ [])
  -- no other number has a site
  pub others : (k place : ℕ) → site m k ≡ Some place → Reached (declared_graph p) k
  -- the labels of sites have names, and nothing else has one
  pub names : (j : ℕ) (operands : List ℕ) → slice_get m.insts j ≡ Some (inst 5 operands) → NamesSite p m operands

-- The module of every sound program has such sites.
abbrev pub ModulesHaveSites : Type 0
ModulesHaveSites =
    (p : Program) (list : List Region) (slots : Slots) (at : Bindings) (v : Version) → Sound p → Wired p list → AreSlots p slots → AreApart p at → HasSites p (module_of p list at v (plan_for p list slots))
