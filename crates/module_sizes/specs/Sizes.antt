-- How many ids and words a module has.
use Rattle.std.specs.Prelude.{ℕ, suc, ◌+◌, ◌^◌, ◌<◌, ◌≤◌, List, [], ◌∷◌, length}
use Rattle.dxil_form.specs.declared.program.Program.{Program}
use Rattle.dxil_form.specs.declared.region.Region.{Region}
use Rattle.dxil_form.specs.Sound.{Sound}
use Rattle.dxil_form.specs.Wired.{Wired}
use Rattle.spv_form.specs.declared.module.Inst.{Inst}
use Rattle.spv_form.specs.declared.module.Module.{Module}
use Rattle.spv_form.specs.declared.module.Version.{Version}
use Rattle.spirv_meaning.specs.Bindings.{Bindings}
use Rattle.phi_demotion.specs.declared.slots.Slots.{Slots}
use Rattle.phi_demotion.specs.Slots.{AreSlots}
use Rattle.spirv_code.specs.Frame.{module_of}
use Rattle.chosen_plan.specs.Chosen.{plan_for}

-- what is counted: instructions, each of which has a place, or words
pub data Measure : Type 0 where
  Places : Measure
  Words : Measure

-- of an instruction with n operands; one word has its opcode and its length (SPIR-V 1.6, section 2.3)
abbrev pub amount : Measure → (n : ℕ) → ℕ
amount Places n = 1
amount Words n = suc n

abbrev pub size : Measure → List Inst → ℕ
size m [] = 0
size m (i ∷ is) = amount m (length i.operands) + size m is

-- five words of the header, and those of the instructions
abbrev pub words_of : Module → ℕ
words_of m = 5 + size Words m.insts

-- ids are below 2 ^ 22, and words fewer than 2 ^ 24
pub record IsSmall (m : Module) : Type 0 where
  pub ids : m.bound ≤ 4194303
  pub words : words_of m < 2 ^ 24

-- the module of each sound program, over regions that are wired, with the variables that its registers need
abbrev pub ModulesAreSmall : Type 0
ModulesAreSmall =
    (p : Program) (list : List Region) (at : Bindings) (v : Version) (slots : Slots) → Sound p → Wired p list → AreSlots p slots → IsSmall (module_of p list at v (plan_for p list slots))
