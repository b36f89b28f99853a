-- How many merge instructions of a module wait for their merge labels.
use Rattle.std.specs.Prelude.{◌≡◌, ℕ, ◌≤◌, List, length, take}
use Rattle.dxil_form.specs.declared.program.Program.{Program}
use Rattle.dxil_form.specs.declared.region.Region.{Region}
use Rattle.spv_form.specs.declared.module.Version.{Version}
use Rattle.order_rules.specs.Merges.{waiting}
use Rattle.program_regions.specs.Chosen.{AreRegions}
use Rattle.spirv_meaning.specs.Bindings.{Bindings}
use Rattle.spirv_code.specs.Plans.{Plan}
use Rattle.spirv_code.specs.Frame.{module_of}

-- Of each program, by the regions that it is written by, at each version, with any bindings and by any plan that counts these regions: among the first so many instructions of the module never more than 1,023 merge instructions stand whose merge label does not. So rule V14 is not broken.
abbrev pub ModulesStayShallow : Type 0
ModulesStayShallow =
    (p : Program) (list : List Region) (at : Bindings) (v : Version) (plan : Plan) → AreRegions p list → plan.regions ≡ length list → (j : ℕ) → waiting (take j (module_of p list at v plan).insts) ≤ 1023
