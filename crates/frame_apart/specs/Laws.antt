-- The rule V7 of a module, in the words of that rule.
use Rattle.std.specs.Prelude.{◌≡◌, ℕ, List, Some, slice_get}
use Rattle.dxil_form.specs.declared.program.Program.{Program}
use Rattle.dxil_form.specs.declared.region.Region.{Region}
use Rattle.dxil_form.specs.Sound.{Sound}
use Rattle.dxil_form.specs.Wired.{Wired}
use Rattle.spv_form.specs.declared.module.Inst.{Inst}
use Rattle.spv_form.specs.declared.module.Version.{Version}
use Rattle.id_rules.specs.Again.{IsDeclaredAgain}
use Rattle.spirv_meaning.specs.Bindings.{Bindings}
use Rattle.spirv_code.specs.Plans.{Plan}
use Rattle.spirv_code.specs.Frame.{module_of}
use Rattle.chosen_plan.specs.IsPlan.{IsPlan}

-- V7: no type stands behind one of the same opcode and with the same operands, arrays and structures aside
abbrev pub KeepsTypesApart : List Inst → Type 0
KeepsTypesApart insts = (at : ℕ) (x : Inst) → slice_get insts at ≡ Some x → IsDeclaredAgain insts at x → ⊥

-- In the module of each sound program, with regions that are wired, by a plan that has what they ask, with any bindings and at each version.
abbrev pub ModulesKeepTypesApart : Type 0
ModulesKeepTypesApart =
    (p : Program) (list : List Region) (at : Bindings) (v : Version) (plan : Plan) → Sound p → Wired p list → IsPlan p list plan → KeepsTypesApart (module_of p list at v plan).insts
