-- The laws of a module's parts, put together.
use Rattle.std.proofs.Common.{List, refl}
use Rattle.dxil_form.specs.declared.program.Program.{Program}
use Rattle.dxil_form.specs.declared.region.Region.{Region}
use Rattle.dxil_form.specs.Sound.{Sound}
use Rattle.spv_form.specs.declared.module.Module.{Module}
use Rattle.spv_form.specs.declared.module.Version.{Version}
use Rattle.spirv_meaning.specs.Bindings.{Bindings, AreApart}
use Rattle.phi_demotion.specs.declared.slots.Slots.{Slots}
use Rattle.phi_demotion.specs.Slots.{AreSlots}
use Rattle.program_regions.specs.Chosen.{AreRegions}
use Rattle.spirv_code.specs.Plans.{Plan}
use Rattle.spirv_code.specs.Frame.{module_of}
use Rattle.chosen_plan.specs.Chosen.{plan_for}
use Rattle.chosen_plan.specs.IsPlan.{IsPlan}
use Rattle.chosen_plan.proofs.Whole.{plans_are_chosen}
use Rattle.module_sizes.proofs.Whole.{modules_are_small}
use Rattle.ruled_ids.proofs.Whole.{modules_define_once}
use Rattle.ruled_heads.proofs.Whole.{frames_keep_rules}
use Rattle.ruled_rows.proofs.Whole.{modules_keep_ids}
use Rattle.frame_order.proofs.Whole.{modules_keep_order}
use Rattle.frame_rules.proofs.Whole.{modules_keep_frames}
use Rattle.frame_apart.proofs.Whole.{modules_keep_types_apart}
use Rattle.frame_marks.proofs.Whole.{modules_keep_marks}
use Rattle.module_structure.proofs.Function.{keeps_structure}
use Rattle.module_nesting.proofs.Whole.{stays_shallow}
use Rattle.module_counts.proofs.Whole.{few_switches, no_ring_no_loop}
use Rattle.module_loops.proofs.Whole.{as_many}
use Rattle.site_loops.proofs.Whole.{stand_in_loops}
use Rattle.head_sites.proofs.Whole.{meet_heads}
use Rattle.module_laws.specs.Rules.{KeepsRules}
use Rattle.module_laws.specs.Laws.{ModulesKeepRules, ModulesHaveLoops}
use Rattle.module_laws.proofs.Each.{KeepsEach, rules_kept}

module _ (p : Program) (list : List Region) (slots : Slots) (at : Bindings) (v : Version) (sound : Sound p) (regions : AreRegions p list) (are : AreSlots p slots) (apart : AreApart p at) where
  abbrev plan : Plan
  plan = plan_for p list slots

  abbrev made : Module
  made = module_of p list at v plan

  chosen : IsPlan p list plan
  chosen = plans_are_chosen p list slots sound regions.wired are

  each : KeepsEach made
  each = record {
    ordered = modules_keep_order p list at v plan sound regions.wired;
    once = modules_define_once p list at v plan regions.wired refl;
    ids = modules_keep_ids p list at v plan sound regions.wired chosen (frames_keep_rules p list at v plan sound regions.wired chosen);
    framed = modules_keep_frames p list at v plan regions.wired chosen.serves;
    apart = modules_keep_types_apart p list at v plan sound regions.wired chosen;
    marked = modules_keep_marks p list at v plan sound regions.wired chosen apart;
    small = modules_are_small p list at v slots sound regions.wired are;
    shallow = stays_shallow p list at v plan regions refl;
  }

  keeps : KeepsRules made
  keeps = record {
    rules = rules_kept made each;
    structure = keeps_structure p list at v plan regions.wired refl;
  }

pub modules_keep_rules : ModulesKeepRules
modules_keep_rules p list slots at v sound regions are apart = keeps p list slots at v sound regions are apart

pub modules_have_loops : ModulesHaveLoops
modules_have_loops p list at v plan sound regions same = record {
  heads = λ blocks g s. as_many p list at v plan blocks g sound regions same s;
  none = λ blocks g s none. no_ring_no_loop p list at v plan blocks g regions same s.reachable s.few s.graph s.uncrossed none;
  switches = λ blocks g s. few_switches p list at v plan blocks g regions same s.reachable s.few s.graph s.uncrossed;
  sites = λ blocks g s b r. stand_in_loops p list at v plan blocks g b sound regions same s r;
  headers = λ blocks g s q by continue_target at_q. meet_heads p list at v plan blocks g q by continue_target sound regions same s at_q;
}
