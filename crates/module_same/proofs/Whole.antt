-- The module of a program stands by the program's plan, and so does the same.
use Rattle.std.proofs.Common.{◌≡◌, ℕ, ◌+◌, ◌<◌, ◌^◌, Bool, true, false, List, [], ◌∷◌, length, Some, refl, sym, ap, ◌∙◌, subst, arith}
use Rattle.std.specs.Prelude.{slice_get, option_and_then}
use Rattle.dxil_form.specs.declared.program.Program.{Program}
use Rattle.dxil_form.specs.declared.region.Region.{Region}
use Rattle.dxil_form.specs.declared.region.Region.TheVariants as region
use Rattle.dxil_form.specs.Branches.{declared_graph}
use Rattle.dxil_form.specs.Graphs.{Path, Reached}
use Rattle.dxil_form.specs.Sound.{Sound}
use Rattle.dxil_form.specs.Wired.{Wired}
use Rattle.spv_form.specs.declared.module.Inst.{Inst}
use Rattle.spv_form.specs.declared.module.Version.{Version}
use Rattle.dxil_meaning.specs.Source.{Launch}
use Rattle.spirv_meaning.specs.Bindings.{Bindings, AreApart}
use Rattle.spirv_meaning.specs.Target.{declared, fixed_value, operand_in, first_of}
use Rattle.spirv_code.specs.declared.key.Slot.{Slot}
use Rattle.spirv_code.specs.declared.key.Slot.TheVariants.{Next, Kept, Want, Pick}
use Rattle.spirv_code.specs.Plans.{Plan, inst, slots_from, global_id}
use Rattle.spirv_code.specs.Trees.{label_at, begins_plainly, place_of, root_of}
use Rattle.spirv_code.specs.Exits.{label_inst}
use Rattle.spirv_code.specs.Frame.{slot_start, slot_variable, declaration, insts_of, module_of}
use Rattle.line_runs.specs.Held.{Has}
use Rattle.line_runs.specs.Exits.{Variables}
use Rattle.line_runs.specs.Declared.{held_type}
use Rattle.frame_facts.specs.Facts.{setting_of, Labels}
use Rattle.frame_facts.specs.Inner.{Owns}
use Rattle.frame_facts.proofs.Searches.{get_below}
use Rattle.frame_facts.proofs.Tables.{slot_stands}
use Rattle.frame_facts.proofs.Spread.{declared_slot, declared_global}
use Rattle.frame_facts.proofs.Declares.{declares}
use Rattle.frame_facts.proofs.Regions.{once, others, sites}
use Rattle.frame_facts.proofs.Wiring.{root_owned}
use Rattle.region_runs.specs.Standing.{HasRegions}
use Rattle.module_runs.specs.Stands.{Opens, with_root, before_root, zero_value, BeginsWithZeros, ModuleStands}
use Rattle.module_runs.proofs.Whole.{same_by_plan}
use Rattle.chosen_plan.specs.Chosen.{plan_for}
use Rattle.chosen_plan.specs.IsPlan.{IsPlan}
use Rattle.chosen_plan.proofs.Whole.{plans_are_chosen}
use Rattle.module_same.specs.Laws.{ModulesAreSame}
use Rattle.module_same.proofs.Places.{function, body_at, row, body_behind, first_is, function_at, first_label_at, variables_at, row_plain, returns_plain, branch_at, root_at, row_other, returns_other, opening_plain, opening_other}

-- a block that is reached is one of the program
reached_below : (p : Program) → Sound p → (b : ℕ) → Reached (declared_graph p) b → b < length p.blocks
reached_below p sound b reached = by_path reached.0 b reached.1
  where
    by_path : (before : List ℕ) (b : ℕ) → Path (declared_graph p) 0 before b → b < length p.blocks
    by_path [] b e = omega (arith, e, sound.begins)
    by_path (c ∷ before) b path = (sound.targets c b path.0).1

module _ (p : Program) (list : List Region) (at : Bindings) (v : Version) (plan : Plan) (sound : Sound p) (wired : Wired p list) (is_plan : IsPlan p list plan) (apart : AreApart p at) where
  owned : Owns (λ r. r < length list) (root_of list)
  owned = root_owned p list wired

  labels : Labels p list at v plan
  labels =
      let few = λ (r b : ℕ) (leaf : slice_get list r ≡ Some (region.Leaf b)). few_blocks b (wired.reached r b leaf) in
      record {
        once = once p list at v plan wired is_plan.serves.regions;
        sites = sites p list at v plan wired is_plan.serves.regions few;
        others = others p list at v plan wired is_plan.serves.regions;
      }
    where
      few_blocks : (b : ℕ) → Reached (declared_graph p) b → b < 2 ^ 32
      few_blocks b reached =
          let below = reached_below p sound b reached in
          omega (arith, below, sound.counts.blocks)

  -- ---- the regions

  -- where the code of the regions stands, and how the function comes to it
  record Stands_at (l : Launch) : Type 0 where
    head : ℕ
    place : ℕ
    regions : HasRegions (setting_of p list at v plan l) list head place
    opens : Opens (setting_of p list at v plan l) list head

  regions_at : (l : Launch) (head place : ℕ) → slice_get (insts_of p list at v plan) head ≡ Some (label_inst (label_at (root_of list))) → head < place → Variables (setting_of p list at v plan l) head place → Has (module_of p list at v plan) place (row p list at v plan place) → slice_get (insts_of p list at v plan) (place + length (row p list at v plan place)) ≡ Some (inst 253 []) → HasRegions (setting_of p list at v plan l) list head place
  regions_at l head place begins ahead between code returns =
      record {
        blocks = refl;
        begins = begins;
        ahead = ahead;
        between = between;
        code = code;
        returns = returns;
        once = labels.once;
        sites = labels.sites;
        others = labels.others;
        want = is_plan.want;
        wanted = is_plan.wanted;
        pick = is_plan.pick;
        no_number = is_plan.no_number;
        next_numbers = is_plan.next_numbers;
        then_numbers = is_plan.then_numbers;
        loop_numbers = is_plan.loop_numbers;
      }

  stands_at : (l : Launch) → Stands_at l
  stands_at l = by_test (begins_plainly (root_of list)) refl
    where
      first : first_of 54 (insts_of p list at v plan) ≡ function p list at v plan
      first = first_is p list at v plan

      function_there : slice_get (insts_of p list at v plan) (first_of 54 (insts_of p list at v plan)) ≡ Some (inst 54 (2 ∷ 1 ∷ 0 ∷ 3 ∷ []))
      function_there = ap (slice_get (insts_of p list at v plan)) first ∙ function_at p list at v plan

      ahead : function p list at v plan + 1 < body_at p list at v plan
      ahead = let e = body_behind p list at v plan in omega (arith, e)

      by_test : (b : Bool) → begins_plainly (root_of list) ≡ b → Stands_at l
      by_test true e =
          let head : ℕ = function p list at v plan + 1 in
          let begins = first_label_at p list at v plan ∙ ap (λ id. Some (label_inst id)) (opening_plain p list at v plan e) in
          record {
            head = head;
            place = body_at p list at v plan;
            regions = regions_at l head (body_at p list at v plan) begins ahead (variables_at p list at v plan) (row_plain p list at v plan e) (returns_plain p list at v plan e);
            opens = with_root (2 ∷ 1 ∷ 0 ∷ 3 ∷ []) function_there (ap (λ k. k + 1) (sym first));
          }
      by_test false e =
          let last : ℕ = body_at p list at v plan in
          let label = first_label_at p list at v plan ∙ ap (λ id. Some (label_inst id)) (opening_other p list at v plan e) in
          let none : Variables (setting_of p list at v plan l) (last + 1) (last + 2) = λ k from to. absurd (omega (arith, from, to)) in
          let label_there = ap (λ k. slice_get (insts_of p list at v plan) (k + 1)) first ∙ label in
          let behind : first_of 54 (insts_of p list at v plan) + 1 < last = omega (arith, ahead, first) in
          record {
            head = last + 1;
            place = last + 2;
            regions = regions_at l (last + 1) (last + 2) (root_at p list at v plan e) (omega arith) none (row_other p list at v plan e) (returns_other p list at v plan e);
            opens = before_root (2 ∷ 1 ∷ 0 ∷ 3 ∷ []) (place_of (root_of list)) last function_there label_there behind (λ k from to. variables_at p list at v plan k (omega (arith, from, first)) to) (branch_at p list at v plan e) refl;
          }

  -- ---- the variables

  start_is : (s : Slot) → fixed_value (Some (declaration p (global_id plan) (global_id plan (slot_start s)) (slot_start s))) (global_id plan (slot_start s)) ≡ Some (zero_value (held_type s))
  start_is (Next value part true) = refl
  start_is (Next value part false) = refl
  start_is (Kept value part true) = refl
  start_is (Kept value part false) = refl
  start_is Want = refl
  start_is Pick = refl

  zeros : (l : Launch) → BeginsWithZeros (setting_of p list at v plan l)
  zeros l s id is =
      let there = slot_stands (slots_from plan) plan.slots s id is in
      let insts : List Inst = insts_of p list at v plan in
      let owns : Owns (λ r. r < plan.regions) (root_of list) = subst (λ n. Owns (λ r. r < n) (root_of list)) (sym is_plan.serves.regions) owned in
      let variable : declared insts id ≡ Some (slot_variable (global_id plan) id s) = subst (λ k. declared insts k ≡ Some (slot_variable (global_id plan) k s)) (sym there.is) (declared_slot p list at v plan owns there.k s (get_below plan.slots there.k s there.here) there.here) in
      let start = declared_global p list at v plan (slot_start s) (is_plan.serves.variables there.k s there.here).1.0 in
      ap (λ o. option_and_then (λ k. fixed_value (declared insts k) k) (operand_in o 59 3)) variable ∙ ap (λ o. fixed_value o (global_id plan (slot_start s))) start ∙ start_is s

  pub module_stands : (l : Launch) → ModuleStands (setting_of p list at v plan l) list
  module_stands l =
      let there = stands_at l in
      record {
        declares = declares p list at v plan l is_plan.serves apart owned;
        head = there.head;
        place = there.place;
        regions = there.regions;
        opens = there.opens;
        zeros = zeros l;
      }

pub modules_are_same : ModulesAreSame
modules_are_same p list slots at v sound wired are apart =
    let plan = plan_for p list slots in
    let is_plan = plans_are_chosen p list slots sound wired are in
    same_by_plan p list plan (module_of p list at v plan) at sound wired is_plan.variables is_plan.table (λ l. module_stands p list at v plan sound wired is_plan apart l)
