-- The rules V5, V9 and V10 of a module, in the words of those rules.
use Rattle.std.specs.Prelude.{◌≡◌, ℕ, true, false, List, Some, slice_get}
use Rattle.dxil_form.specs.declared.program.Program.{Program}
use Rattle.dxil_form.specs.declared.region.Region.{Region}
use Rattle.dxil_form.specs.Wired.{Wired}
use Rattle.spv_form.specs.declared.module.Inst.{Inst}
use Rattle.spv_form.specs.declared.module.Version.{Version}
use Rattle.type_rules.specs.Types.{is_listed}
use Rattle.module_rules.specs.Entry.{is_wrong_interface, is_wrong_entry}
use Rattle.spirv_meaning.specs.Bindings.{Bindings}
use Rattle.spirv_code.specs.Plans.{Plan}
use Rattle.spirv_code.specs.Frame.{module_of}
use Rattle.frame_facts.specs.Serves.{Serves}

pub record KeepsFrame (version : Version) (insts : List Inst) : Type 0 where
  -- V5: each type is one that is listed
  pub types : (at : ℕ) (x : Inst) → slice_get insts at ≡ Some x → is_listed insts x ≡ true
  -- V9: the entry point lists each variable of the version once, and at 1.3 no other id
  pub interfaces : (at : ℕ) (x : Inst) → slice_get insts at ≡ Some x → is_wrong_interface version insts x ≡ false
  -- V10: and its function is the module's, of type `void ()`
  pub entries : (at : ℕ) (x : Inst) → slice_get insts at ≡ Some x → is_wrong_entry insts x ≡ false

-- In the module of each program, with regions that are wired, by a plan that serves them, with any bindings and at each version.
abbrev pub ModulesKeepFrames : Type 0
ModulesKeepFrames =
    (p : Program) (list : List Region) (at : Bindings) (v : Version) (plan : Plan) → Wired p list → Serves p list plan → KeepsFrame v (module_of p list at v plan).insts
