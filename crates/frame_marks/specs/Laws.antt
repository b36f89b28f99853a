-- The rule V8 of the variables of a module, in the words of that rule.
use Rattle.std.specs.Prelude.{◌≡◌, ℕ, true, List, Some, slice_get}
use Rattle.dxil_form.specs.declared.program.Program.{Program}
use Rattle.dxil_form.specs.declared.region.Region.{Region}
use Rattle.dxil_form.specs.Sound.{Sound}
use Rattle.dxil_form.specs.Wired.{Wired}
use Rattle.spv_form.specs.declared.module.Inst.{Inst}
use Rattle.spv_form.specs.declared.module.Version.{Version}
use Rattle.decoration_rules.specs.Variables.{is_sound}
use Rattle.spirv_meaning.specs.Bindings.{Bindings, AreApart}
use Rattle.spirv_code.specs.Plans.{Plan}
use Rattle.spirv_code.specs.Frame.{module_of}
use Rattle.chosen_plan.specs.IsPlan.{IsPlan}

-- V8: a buffer variable has a set and a binding, of which no other one has both, and is a Block of an array with a stride; an Input variable has a built-in
abbrev pub KeepsMarks : List Inst → Type 0
KeepsMarks insts = (at : ℕ) (x : Inst) → slice_get insts at ≡ Some x → is_sound insts x ≡ true

-- In the module of each sound program, with regions that are wired, by a plan that has what they ask, at each version, where no two resources have one set and binding.
abbrev pub ModulesKeepMarks : Type 0
ModulesKeepMarks =
    (p : Program) (list : List Region) (at : Bindings) (v : Version) (plan : Plan) → Sound p → Wired p list → IsPlan p list plan → AreApart p at → KeepsMarks (module_of p list at v plan).insts
