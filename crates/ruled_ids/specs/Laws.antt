-- Each id of a module is defined once.
use Rattle.std.specs.Prelude.{◌≡◌, ℕ, false, List, length, Some, slice_get}
use Rattle.dxil_form.specs.declared.program.Program.{Program}
use Rattle.dxil_form.specs.declared.region.Region.{Region}
use Rattle.dxil_form.specs.Wired.{Wired}
use Rattle.spv_form.specs.declared.module.Inst.{Inst}
use Rattle.spv_form.specs.declared.module.Version.{Version}
use Rattle.spv_ids.specs.Roles.{result_of}
use Rattle.spv_ids.specs.Ids.{definer}
use Rattle.id_rules.specs.Uses.{is_defined_again}
use Rattle.spirv_meaning.specs.Bindings.{Bindings}
use Rattle.spirv_code.specs.Plans.{Plan}
use Rattle.spirv_code.specs.Frame.{module_of}

-- no two instructions define one id
pub record DefineOnce (insts : List Inst) : Type 0 where
  pub once : (j k id : ℕ) (x y : Inst) → slice_get insts j ≡ Some x → slice_get insts k ≡ Some y → result_of x ≡ Some id → result_of y ≡ Some id → j ≡ k
  -- so no result is defined before, and the place at which an id is defined is that of its instruction
  pub not_again : (at : ℕ) (x : Inst) → slice_get insts at ≡ Some x → is_defined_again insts at x ≡ false
  pub definer_is : (at id : ℕ) (x : Inst) → slice_get insts at ≡ Some x → result_of x ≡ Some id → definer insts id ≡ Some at

-- In the module of each program, with regions that are wired, by any plan for them and at each version.
abbrev pub ModulesDefineOnce : Type 0
ModulesDefineOnce =
    (p : Program) (list : List Region) (at : Bindings) (v : Version) (plan : Plan) → Wired p list → plan.regions ≡ length list → DefineOnce (module_of p list at v plan).insts
