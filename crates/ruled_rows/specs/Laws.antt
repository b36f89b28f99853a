-- The code of the regions of a module keeps the rules of the ids.
use Rattle.std.specs.Prelude.{◌≡◌, ℕ, ◌<◌, ◌≤◌, List, length, Some, slice_get}
use Rattle.dxil_form.specs.declared.program.Program.{Program}
use Rattle.dxil_form.specs.declared.region.Region.{Region}
use Rattle.dxil_form.specs.Sound.{Sound}
use Rattle.dxil_form.specs.Wired.{Wired}
use Rattle.spv_form.specs.declared.module.Inst.{Inst}
use Rattle.spv_form.specs.declared.module.Version.{Version}
use Rattle.spirv_meaning.specs.Bindings.{Bindings}
use Rattle.spirv_code.specs.Plans.{Plan}
use Rattle.spirv_code.specs.Frame.{frame, module_of}
use Rattle.chosen_plan.specs.IsPlan.{IsPlan}
use Rattle.ruled_lines.specs.Kept.{KeepsRules}

-- In the module of each sound program, with regions that are wired, by any plan that has what they ask, with any bindings and at each version: each instruction behind the frame uses ids that are in reach, has operands that fit, and writes no memory that is read only.
abbrev pub RowsKeepRules : Type 0
RowsKeepRules =
    (p : Program) (list : List Region) (at : Bindings) (v : Version) (plan : Plan) → Sound p → Wired p list → IsPlan p list plan → (place : ℕ) (x : Inst) → length (frame p list at v plan) ≤ place → slice_get (module_of p list at v plan).insts place ≡ Some x → KeepsRules (module_of p list at v plan).insts place x

-- So where each instruction of the frame does, each instruction of the module does.
abbrev pub ModulesKeepIds : Type 0
ModulesKeepIds =
    (p : Program) (list : List Region) (at : Bindings) (v : Version) (plan : Plan) → Sound p → Wired p list → IsPlan p list plan → ((place : ℕ) (x : Inst) → place < length (frame p list at v plan) → slice_get (module_of p list at v plan).insts place ≡ Some x → KeepsRules (module_of p list at v plan).insts place x) → (place : ℕ) (x : Inst) → slice_get (module_of p list at v plan).insts place ≡ Some x → KeepsRules (module_of p list at v plan).insts place x
