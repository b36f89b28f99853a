-- The modules of sound programs have few ids and few words.
use Rattle.std.proofs.Common.{◌≡◌, ℕ, suc, ◌+◌, ◌^◌, ◌<◌, ◌≤◌, Bool, true, false, List, [], ◌∷◌, ◌++◌, length, Option, Some, None, length-append, refl, arith}
use Rattle.std.specs.Prelude.{slice_get, if◌then◌else◌}
use Rattle.dxil_form.specs.declared.block.Block.{Block}
use Rattle.dxil_form.specs.declared.program.Program.{Program}
use Rattle.dxil_form.specs.declared.region.Region.{Region}
use Rattle.dxil_form.specs.declared.region.Region.TheVariants as region
use Rattle.dxil_form.specs.Sound.{Sound, lines_of, cases_of, entries_of}
use Rattle.dxil_form.specs.Wired.{Wired}
use Rattle.spv_form.specs.declared.module.Inst.{Inst}
use Rattle.spv_form.specs.declared.module.Version.{Version}
use Rattle.spv_form.specs.declared.module.Version.TheVariants.{V16}
use Rattle.spirv_meaning.specs.Bindings.{Bindings}
use Rattle.phi_demotion.specs.declared.slots.Slots.{Slots}
use Rattle.phi_demotion.specs.Slots.{AreSlots}
use Rattle.spirv_code.specs.declared.key.Global.TheVariants.{Number}
use Rattle.spirv_code.specs.declared.key.Slot.{Slot}
use Rattle.spirv_code.specs.declared.key.Slot.TheVariants.{Next, Kept, Want, Pick}
use Rattle.spirv_code.specs.Plans.{Plan, slots_from, results_from}
use Rattle.spirv_code.specs.Trees.{root_of}
use Rattle.spirv_code.specs.Frame.{frame, body_code, closing, insts_of, is_bare, bound_of}
use Rattle.spirv_code.specs.Further.{wants}
use Rattle.spirv_code.specs.Needed.{slot_keys, slots_keys, want_keys, block_keys, block_keys_at, region_keys, regions_keys}
use Rattle.frame_facts.proofs.Results.{frame_long}
use Rattle.chosen_plan.specs.Chosen.{plan_for}
use Rattle.module_sizes.specs.Sizes.{Measure, amount, size, ModulesAreSmall}
use Rattle.module_sizes.proofs.Totals.{total, times, times_is}
use Rattle.module_sizes.proofs.Common.{AreSmall, are_small, most_number, named, named_common, named_number, small_so}
use Rattle.module_sizes.proofs.Reading.{keys, keys_append}
use Rattle.module_sizes.proofs.Lines.{line_most}
use Rattle.module_sizes.proofs.Rows.{when_most, dispatch_most}
use Rattle.module_sizes.proofs.Regions.{region_most, leaves, root_fits}
use Rattle.module_sizes.proofs.Counted.{block_or, shared_few}
use Rattle.module_sizes.proofs.Budgets.{limits, code_most, named_at, leaf_fits, blocks_fit}
use Rattle.module_sizes.proofs.Variables.{variables_fit}
use Rattle.module_sizes.proofs.Table.{common_most, table_fits}
use Rattle.module_sizes.proofs.Framed.{number_most, names_fit, frame_most, module_fits}

places_count : (insts : List Inst) → size Measure.Places insts ≡ length insts
places_count [] = refl
places_count (i ∷ insts) = let rest = places_count insts in let e : 1 + size Measure.Places insts ≡ suc (length insts) = omega (arith, rest) in e

module _ (p : Program) (m : Measure) (sound : Sound p) where
  abbrev small : AreSmall p
  small = are_small p sound

  -- ---- what the table is asked for

  slot_named : (s : Slot) → keys p m small (slot_keys s) ≡ 0
  slot_named (Next value part true) = refl
  slot_named (Next value part false) = refl
  slot_named (Kept value part true) = refl
  slot_named (Kept value part false) = refl
  slot_named Want = refl
  slot_named Pick = refl

  slots_named : (slots : List Slot) → keys p m small (slots_keys slots) ≡ 0
  slots_named [] = refl
  slots_named (s ∷ slots) =
      let both = keys_append p m small (slot_keys s) (slots_keys slots) in
      let here = slot_named s in
      let rest = slots_named slots in
      let e : keys p m small (slots_keys (s ∷ slots)) ≡ 0 = omega (arith, both, here, rest) in
      e

  want_named : (b : Bool) → keys p m small (want_keys p b) ≡ 0
  want_named false = refl
  want_named true =
      let number = named_common p m small (Number (length p.blocks)) (small_so (length p.blocks) (omega (arith, sound.counts.blocks))) in
      let e : 0 + (0 + (named p m (Number (length p.blocks)) + 0)) ≡ 0 = omega (arith, number) in
      e

  module _ (list : List Region) (plan : Plan) where
    abbrev wanted : Bool
    wanted = wants p list

    region_named : (x : Region) (rest : List Region) → keys p m small (region_keys p wanted x) + total (named_at p m sound plan wanted) (leaves rest) ≤ total (named_at p m sound plan wanted) (leaves (x ∷ rest)) + number_most m x
    region_named (region.Leaf b) rest = by_block (slice_get p.blocks b) refl
      where
        by_block : (o : Option Block) → slice_get p.blocks b ≡ o → keys p m small (block_keys_at p wanted o) + total (named_at p m sound plan wanted) (leaves rest) ≤ keys p m small (block_keys p wanted (block_or o)) + total (named_at p m sound plan wanted) (leaves rest) + 0
        by_block None e = omega arith
        by_block (Some block) e = omega arith
    region_named (region.Then first second target) rest = let h = named_number p m small target in omega (arith, h)
    region_named (region.Loop body head) rest = let h = named_number p m small head in omega (arith, h)
    region_named (region.Dispatch arms) rest = omega arith
    region_named (region.Arms first arms) rest = omega arith

    regions_named : (xs : List Region) → keys p m small (regions_keys p wanted xs) ≤ total (named_at p m sound plan wanted) (leaves xs) + total (number_most m) xs
    regions_named [] = omega arith
    regions_named (x ∷ xs) =
        let both = keys_append p m small (region_keys p wanted x) (regions_keys p wanted xs) in
        let here = region_named x xs in
        let rest = regions_named xs in
        omega (arith, both, here, rest)

  -- ---- all

  pub module_takes : (list : List Region) (at : Bindings) (v : Version) (slots : Slots) → Wired p list → AreSlots p slots → size m (insts_of p list at v (plan_for p list slots)) + times (length p.blocks) (line_most m) ≤ frame_most m + (times (length list) (region_most m + when_most m) + dispatch_most m) + limits m p.blocks + common_most p m (suc most_number) + (amount m 4 + amount m 4)
  module_takes list at v slots wired are =
      let plan : Plan = plan_for p list slots in
      let w : Bool = wants p list in
      let f : ℕ → ℕ = code_most p m sound plan w in
      let whole = module_fits p m list at v plan f (leaf_fits p m sound plan w) sound.local.three in
      let name = names_fit m 0 list in
      let root = root_fits m f p list sound wired in
      let table = table_fits p m (slots_keys plan.slots ++ (want_keys p w ++ regions_keys p w list)) in
      let one = keys_append p m small (slots_keys plan.slots) (want_keys p w ++ regions_keys p w list) in
      let two = keys_append p m small (want_keys p w) (regions_keys p w list) in
      let three = slots_named plan.slots in
      let four = want_named w in
      let five = regions_named list plan list in
      let kept = variables_fit p sound slots are m list in
      let blocks = blocks_fit p m sound plan w list wired in
      omega (arith, whole, name, root, table, one, two, three, four, five, kept, blocks)

module _ (p : Program) (list : List Region) (at : Bindings) (v : Version) (slots : Slots) (sound : Sound p) (wired : Wired p list) (are : AreSlots p slots) where
  abbrev plan_of : Plan
  plan_of = plan_for p list slots

  few_ids : slots_from plan_of + length (insts_of p list at v plan_of) ≤ 4194303
  few_ids =
      let takes = module_takes p Measure.Places sound list at v slots wired are in
      let count = places_count (insts_of p list at v plan_of) in
      let blocks = times_is (length p.blocks) 100 in
      let regions = times_is (length list) 17 in
      let lines = times_is (lines_of p.blocks) 100 in
      let ends = times_is (length p.blocks) 10 in
      let cases = times_is (cases_of p.blocks) 4 in
      let entries = times_is (entries_of p.blocks) 2 in
      let arrays = shared_few p sound in
      omega (arith, takes, count, blocks, regions, lines, ends, cases, entries, arrays, wired.few, sound.counts)

  few_words : 5 + size Measure.Words (insts_of p list at v plan_of) < 2 ^ 24
  few_words =
      let takes = module_takes p Measure.Words sound list at v slots wired are in
      let blocks = times_is (length p.blocks) 396 in
      let regions = times_is (length list) 53 in
      let lines = times_is (lines_of p.blocks) 396 in
      let ends = times_is (length p.blocks) 27 in
      let cases = times_is (cases_of p.blocks) 10 in
      let entries = times_is (entries_of p.blocks) 7 in
      let arrays = shared_few p sound in
      omega (arith, takes, blocks, regions, lines, ends, cases, entries, arrays, wired.few, sound.counts)

  bound_low : bound_of plan_of (length (insts_of p list at v plan_of)) ≤ 4194303
  bound_low = by_test (is_bare plan_of)
    where
      by_test : (b : Bool) → (if b then 5 else results_from plan_of + length (insts_of p list at v plan_of)) ≤ 4194303
      by_test true = omega arith
      by_test false = few_ids

-- what such a module declares outside its code is few too
pub few_declared : (p : Program) (list : List Region) (slots : Slots) → Sound p → Wired p list → AreSlots p slots → length (plan_for p list slots).slots + length (plan_for p list slots).table ≤ 4194303
few_declared p list slots sound wired are =
    let plan : Plan = plan_for p list slots in
    let ids = few_ids p list [] V16 slots sound wired are in
    let front = frame_long p list [] V16 plan in
    let whole = length-append (frame p list [] V16 plan) (body_code p plan (root_of list) (length (frame p list [] V16 plan)) ++ closing) in
    omega (arith, ids, front, whole)

pub modules_are_small : ModulesAreSmall
modules_are_small p list at v slots sound wired are =
    record { ids = bound_low p list at v slots sound wired are; words = few_words p list at v slots sound wired are }
