-- What holds of the module of a program holds of the module that is written for it.
use Rattle.std.proofs.Common.{◌≡◌, List, map, length, sym, ap, subst, ◌∙◌, arith}
use Rattle.std.specs.Prelude.{Result, IfOk}
use Rattle.std.proofs.lemmas.Result.{IfOk-weaker}
use Rattle.dxil_form.specs.declared.program.Program.{Program}
use Rattle.dxil_form.specs.declared.region.Region.{Region}
use Rattle.dxil_form.specs.Sound.{Sound}
use Rattle.dxil_form.specs.Wired.{Wired}
use Rattle.resource_map.specs.declared.bindings.Binding.{Binding}
use Rattle.resource_map.specs.Pairs.{pair_of}
use Rattle.spv_form.specs.declared.module.Module.{Module}
use Rattle.spv_form.specs.declared.module.Version.{Version}
use Rattle.phi_demotion.specs.declared.slots.Slots.{Slots}
use Rattle.phi_demotion.specs.Slots.{AreSlots}
use Rattle.spirv_code.specs.Plans.{Plan}
use Rattle.spirv_code.specs.Frame.{module_of}
use Rattle.spirv_table.specs.declared.tables.Tables.{Tables}
use Rattle.spirv_table.specs.Tables.{AreFew, plan_of}
use Rattle.chosen_plan.specs.Chosen.{plan_for}
use Rattle.module_sizes.proofs.Whole.{few_declared}

-- the module over regions and bindings
abbrev pub made : Program → Slots → Version → List Region → List Binding → Module
made p slots v list bindings = module_of p list (map pair_of bindings) v (plan_for p list slots)

pub holds_of : {E : Type 0} (r : Result Module E) (p : Program) (slots : Slots) (v : Version) (plan : Plan) (xs list : List Region) (bs bindings : List Binding) (P : Module → Type 0) → IfOk r (λ m. m ≡ module_of p xs (map pair_of bs) v plan) → plan ≡ plan_for p xs slots → xs ≡ list → bs ≡ bindings → P (made p slots v list bindings) → IfOk r P
holds_of r p slots v plan xs list bs bindings P written planned list_is bindings_are holds =
    let same = ap (module_of p xs (map pair_of bs) v) planned ∙ ap (λ rs. made p slots v rs bs) list_is ∙ ap (made p slots v list) bindings_are in
    IfOk-weaker r (λ m. m ≡ module_of p xs (map pair_of bs) v plan) P (λ m e. subst P (sym (e ∙ same)) holds) written

-- the tables of a sound program's module are few
pub tables_few : (p : Program) (slots : Slots) (list : List Region) (t : Tables) → Sound p → Wired p list → AreSlots p slots → plan_of t ≡ plan_for p list slots → AreFew t
tables_few p slots list t sound w are planned =
    let few = few_declared p list slots sound w are in
    let regions : t.regions ≡ length list = ap (λ (plan : Plan). plan.regions) planned in
    let variables : length t.slots.keys ≡ length (plan_for p list slots).slots = ap (λ (plan : Plan). length plan.slots) planned in
    let keys : length t.table.keys ≡ length (plan_for p list slots).table = ap (λ (plan : Plan). length plan.table) planned in
    record {
      regions = omega (arith, regions, w.few, sound.counts.blocks);
      slots = omega (arith, variables, few);
      table = omega (arith, keys, few);
    }
