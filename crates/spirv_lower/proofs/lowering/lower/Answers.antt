use Rattle.std.proofs.Common.{◌≡◌, map, refl, sym, ap, subst, ◌∙◌}
use Rattle.dx_base.specs.First.{IsSound}
use Rattle.resource_map.specs.Pairs.{pair_of}
use Rattle.spv_form.specs.Formed.{IsFormed}
use Rattle.spirv_meaning.specs.Same.{Same}
use Rattle.chosen_plan.specs.Chosen.{plan_for}
use Rattle.module_sizes.specs.Sizes.{IsSmall}
use Rattle.module_form.specs.Form.{HasForm}
use Rattle.buffer_form.specs.Buffers.{HasBuffers}
use Rattle.site_form.specs.Sites.{HasSites}
use Rattle.act_form.specs.Acts.{HasActs}
use Rattle.act_counts.specs.Laws.{HasFewActs}
use Rattle.flow_rules.specs.Rules.{Broken}
use Rattle.flow_blocks.specs.Numbered.{blocks_of}
use Rattle.program_regions.specs.Chosen.{AreRegions}
use Rattle.variable_counts.specs.Laws.{HasFewVariables}
use Rattle.module_laws.specs.Rules.{KeepsRules}
use Rattle.module_laws.specs.Loops.{HasLoops}
use Rattle.spirv_lower.specs.Counted.{AreCounted}
use Rattle.spirv_lower.proofs.Counts.{counted}
use Rattle.spirv_lower.proofs.Written.{made, holds_of, tables_few}
use Rattle.spirv_lower.proofs.lowering.lower.Goals as goal

pub find_tables-requires : goal.find_tables-requires
find_tables-requires c =
    subst (AreCounted c.args.p.now) (sym c.as_slice-list.ensures) (counted c.args.p.now c.args.regions.now.list c.requires.sound c.requires.wired)

pub write_by-requires-clause-counted : goal.write_by-requires-clause-counted
write_by-requires-clause-counted c =
    subst (AreCounted c.args.p.now) (sym c.as_slice-list.ensures) (counted c.args.p.now c.args.regions.now.list c.requires.sound c.requires.wired)

pub write_by-requires-clause-few : goal.write_by-requires-clause-few
write_by-requires-clause-few c =
    let p = c.args.p.now in
    let slots = c.args.slots.now in
    tables_few p slots c.args.regions.now.list c.in_ok-tables.tables c.requires.sound c.requires.wired c.requires.slots (c.in_ok-tables.ensures ∙ ap (λ rs. plan_for p rs slots) c.as_slice-list.ensures)

pub returns-clause-module : goal.returns-clause-module
returns-clause-module c =
    let p = c.args.p.now in
    let slots = c.args.slots.now in
    let v = c.args.version in
    let all = made p slots v c.args.regions.now.list c.args.bindings.now in
    holds_of c.write_by.result p slots v _ _ _ _ _ (λ m. m ≡ all) c.write_by.ensures c.in_ok-tables.ensures c.as_slice-list.ensures c.as_slice.ensures refl

pub returns-clause-same : goal.returns-clause-same
returns-clause-same c =
    let p = c.args.p.now in
    let list = c.args.regions.now.list in
    let slots = c.args.slots.now in
    let at = map pair_of c.args.bindings.now in
    let v = c.args.version in
    let law = c.modules_are_same.ensures p list slots at v c.requires.sound c.requires.wired c.requires.slots c.requires.bindings in
    holds_of c.write_by.result p slots v _ _ _ _ _ (Same p at) c.write_by.ensures c.in_ok-tables.ensures c.as_slice-list.ensures c.as_slice.ensures law

pub returns-clause-formed : goal.returns-clause-formed
returns-clause-formed c =
    let p = c.args.p.now in
    let list = c.args.regions.now.list in
    let slots = c.args.slots.now in
    let at = map pair_of c.args.bindings.now in
    let v = c.args.version in
    let law = c.modules_are_formed.ensures p list slots at v c.requires.sound c.requires.wired c.requires.slots in
    holds_of c.write_by.result p slots v _ _ _ _ _ IsFormed c.write_by.ensures c.in_ok-tables.ensures c.as_slice-list.ensures c.as_slice.ensures law

pub returns-clause-small : goal.returns-clause-small
returns-clause-small c =
    let p = c.args.p.now in
    let list = c.args.regions.now.list in
    let slots = c.args.slots.now in
    let at = map pair_of c.args.bindings.now in
    let v = c.args.version in
    let law = c.modules_are_small.ensures p list at v slots c.requires.sound c.requires.wired c.requires.slots in
    holds_of c.write_by.result p slots v _ _ _ _ _ IsSmall c.write_by.ensures c.in_ok-tables.ensures c.as_slice-list.ensures c.as_slice.ensures law

pub returns-clause-form : goal.returns-clause-form
returns-clause-form c =
    let p = c.args.p.now in
    let list = c.args.regions.now.list in
    let slots = c.args.slots.now in
    let at = map pair_of c.args.bindings.now in
    let v = c.args.version in
    let plan = c.plans_are_chosen.ensures p list slots c.requires.sound c.requires.wired c.requires.slots in
    let law = c.module_has_form.ensures p list at v _ c.requires.wired plan.serves plan.table in
    holds_of c.write_by.result p slots v _ _ _ _ _ (HasForm p list v) c.write_by.ensures c.in_ok-tables.ensures c.as_slice-list.ensures c.as_slice.ensures law

pub returns-clause-buffers : goal.returns-clause-buffers
returns-clause-buffers c =
    let p = c.args.p.now in
    let list = c.args.regions.now.list in
    let slots = c.args.slots.now in
    let at = map pair_of c.args.bindings.now in
    let v = c.args.version in
    let plan = c.plans_are_chosen.ensures p list slots c.requires.sound c.requires.wired c.requires.slots in
    let law = c.module_has_buffers.ensures p list at v _ c.requires.sound c.requires.wired plan.serves plan.table c.requires.bindings in
    holds_of c.write_by.result p slots v _ _ _ _ _ (HasBuffers p at) c.write_by.ensures c.in_ok-tables.ensures c.as_slice-list.ensures c.as_slice.ensures law

pub returns-clause-sites : goal.returns-clause-sites
returns-clause-sites c =
    let p = c.args.p.now in
    let list = c.args.regions.now.list in
    let slots = c.args.slots.now in
    let at = map pair_of c.args.bindings.now in
    let v = c.args.version in
    let law = c.module_has_sites.ensures p list slots at v c.requires.sound c.requires.wired c.requires.slots c.requires.bindings in
    holds_of c.write_by.result p slots v _ _ _ _ _ (HasSites p) c.write_by.ensures c.in_ok-tables.ensures c.as_slice-list.ensures c.as_slice.ensures law

pub returns-clause-acts : goal.returns-clause-acts
returns-clause-acts c =
    let p = c.args.p.now in
    let list = c.args.regions.now.list in
    let slots = c.args.slots.now in
    let at = map pair_of c.args.bindings.now in
    let v = c.args.version in
    let law = c.module_has_acts.ensures p list slots at v c.requires.sound c.requires.wired c.requires.slots c.requires.bindings in
    holds_of c.write_by.result p slots v _ _ _ _ _ (HasActs p) c.write_by.ensures c.in_ok-tables.ensures c.as_slice-list.ensures c.as_slice.ensures law

pub returns-clause-counts : goal.returns-clause-counts
returns-clause-counts c =
    let p = c.args.p.now in
    let list = c.args.regions.now.list in
    let slots = c.args.slots.now in
    let at = map pair_of c.args.bindings.now in
    let v = c.args.version in
    let acts = c.module_has_acts.ensures p list slots at v c.requires.sound c.requires.wired c.requires.slots c.requires.bindings in
    let law = c.modules_have_few_acts.ensures p _ acts in
    holds_of c.write_by.result p slots v _ _ _ _ _ (HasFewActs p) c.write_by.ensures c.in_ok-tables.ensures c.as_slice-list.ensures c.as_slice.ensures law

pub returns-clause-few_variables : goal.returns-clause-few_variables
returns-clause-few_variables c =
    let p = c.args.p.now in
    let list = c.args.regions.now.list in
    let slots = c.args.slots.now in
    let at = map pair_of c.args.bindings.now in
    let v = c.args.version in
    holds_of c.write_by.result p slots v _ _ _ _ _ (λ m. AreRegions p list → HasFewVariables p m) c.write_by.ensures c.in_ok-tables.ensures c.as_slice-list.ensures c.as_slice.ensures (λ regions. c.modules_have_few_variables.ensures p list slots at v c.requires.sound regions c.requires.slots)

pub returns-clause-structure : goal.returns-clause-structure
returns-clause-structure c =
    let p = c.args.p.now in
    let list = c.args.regions.now.list in
    let slots = c.args.slots.now in
    let at = map pair_of c.args.bindings.now in
    let v = c.args.version in
    let law = c.modules_keep_structure.ensures p list at v (plan_for p list slots) c.requires.wired refl in
    holds_of c.write_by.result p slots v _ _ _ _ _ (λ m. IsSound (Broken (blocks_of m.insts))) c.write_by.ensures c.in_ok-tables.ensures c.as_slice-list.ensures c.as_slice.ensures law

pub returns-clause-rules : goal.returns-clause-rules
returns-clause-rules c =
    let p = c.args.p.now in
    let list = c.args.regions.now.list in
    let slots = c.args.slots.now in
    let at = map pair_of c.args.bindings.now in
    let v = c.args.version in
    holds_of c.write_by.result p slots v _ _ _ _ _ (λ m. AreRegions p list → KeepsRules m) c.write_by.ensures c.in_ok-tables.ensures c.as_slice-list.ensures c.as_slice.ensures (λ regions. c.modules_keep_rules.ensures p list slots at v c.requires.sound regions c.requires.slots c.requires.bindings)

pub returns-clause-loops : goal.returns-clause-loops
returns-clause-loops c =
    let p = c.args.p.now in
    let list = c.args.regions.now.list in
    let slots = c.args.slots.now in
    let at = map pair_of c.args.bindings.now in
    let v = c.args.version in
    holds_of c.write_by.result p slots v _ _ _ _ _ (λ m. AreRegions p list → HasLoops p m) c.write_by.ensures c.in_ok-tables.ensures c.as_slice-list.ensures c.as_slice.ensures (λ regions. c.modules_have_loops.ensures p list at v (plan_for p list slots) c.requires.sound regions refl)
