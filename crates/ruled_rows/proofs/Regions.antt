-- The pieces of regions keep the rules.
use Rattle.std.proofs.Common.{◌≡◌, ℕ, ◌+◌, ◌≤◌, List, [], ◌∷◌, ◌++◌, length, refl, arith}
use Rattle.dxil_form.specs.declared.value.Ty.TheVariants as ty
use Rattle.spv_form.specs.declared.module.Inst.{Inst}
use Rattle.spirv_code.specs.declared.key.Slot.TheVariants.{Want}
use Rattle.spirv_code.specs.Plans.{Context, inst, result, variable, int_id, bool_id, header_label, body_label, continue_label, merge_label, chosen_label, passed_label}
use Rattle.spirv_code.specs.Exits.{label_inst, branch_inst, selection_inst, is_wanted, no_block}
use Rattle.spirv_code.specs.Trees.{Tree, Arms, label_at, place_of}
use Rattle.spirv_code.specs.Rows.{when_head, onwards, when_code, arm_code, header_code, footer_code, arm_pairs, select_arm, dispatch_head, dispatch_tail}
use Rattle.line_runs.specs.Held.{Setting, Has}
use Rattle.line_runs.proofs.Pieces.{has_front, has_back}
use Rattle.access_runs.proofs.Stepping.{has_at}
use Rattle.ruled_lines.specs.Kept.{AreKept, StandsAhead}
use Rattle.ruled_lines.proofs.Readings.{block_next, value_later}
use Rattle.ruled_lines.proofs.Going.{kept_append, kept_behind}
use Rattle.ruled_lines.proofs.Straight.{step}
use Rattle.ruled_lines.proofs.Jumps.{label_rules, branch_rules, merge_rules, fork_rules}
use Rattle.ruled_blocks.proofs.Phis.{load_shape, sort_used, load_slot}
use Rattle.ruled_exits.specs.Exits.{Stands}
use Rattle.ruled_exits.proofs.Wants.{wanted_gives}
use Rattle.ruled_exits.proofs.Switches.{PairsStand, switch_rules}
use Rattle.ruled_exits.proofs.Loops.{loop_rules}
use Rattle.ruled_rows.proofs.Pieces.{Keeps, onwards_kept}
use Rattle.ruled_rows.proofs.Readiness.{CanTest}

module _ (s : Setting) (low : ℕ) (ahead : StandsAhead s low) where
  abbrev insts : List Inst
  insts = s.made.insts

  abbrev c : Context
  c = s.context

  -- ---- a region that runs only where its block is wanted

  pub when_kept : (place k : ℕ) (tree : Tree) (inner : ℕ → List Inst) → low ≤ place → CanTest s k → ((p : ℕ) → low ≤ p → Stands insts (label_at tree) → Keeps s p (inner p)) → Keeps s place (when_code c place k tree inner)
  when_kept place k tree inner later can rest has =
      let first : ℕ = label_at tree in
      let passed : ℕ = passed_label (place_of tree) in
      let front : List Inst = when_head c place k first (place_of tree) in
      let out : List Inst = onwards passed in
      let split : List Inst = selection_inst passed ∷ inst 250 (result c (place + 1) ∷ first ∷ passed ∷ []) ∷ label_inst first ∷ [] in
      let p : ℕ = place + length front in
      let q : ℕ = p + length (inner p) in
      let back = has_back s.made place front (inner p ++ out) has in
      let ends = has_back s.made p (inner p) out back in
      let there : Stands insts passed = (q + 1, ends.1.0) in
      let w = wanted_gives s low ahead place k split can.can can.bool later (has_front s.made place front (inner p ++ out) has) in
      let here : Stands insts first = (place + 2 + 1 + 1, w.has.1.1.0) in
      let value = value_later insts (place + 2) (place + 2 + 1) (result c (place + 1)) (bool_id c) (omega arith) (block_next insts (place + 2) (selection_inst passed) w.has.0 refl) w.value in
      let kept_split : AreKept insts (place + 2) split = (merge_rules s low ahead (place + 2) there.0 passed there.1, (fork_rules s low ahead (place + 2 + 1) (result c (place + 1)) here.0 first there.0 passed can.bool value here.1 there.1, (label_rules insts (place + 2 + 1 + 1) first, tt))) in
      kept_append insts place front (inner p ++ out) (w.kept kept_split) (kept_append insts p (inner p) out (rest p (omega (arith, later)) here (has_front s.made p (inner p) out back)) (onwards_kept s low ahead q passed ends))

  -- ---- an arm of a selection

  pub arm_kept : (place meet : ℕ) (tree : Tree) (inner : ℕ → List Inst) → low ≤ place → Stands insts meet → ((p : ℕ) → low ≤ p → Stands insts (label_at tree) → Keeps s p (inner p)) → Keeps s place (arm_code place meet tree inner)
  arm_kept place meet tree inner later there rest has =
      let front : List Inst = label_inst (label_at tree) ∷ [] in
      let out : List Inst = branch_inst meet ∷ [] in
      let p : ℕ = place + length front in
      let q : ℕ = p + length (inner p) in
      let back = has_back s.made place front (inner p ++ out) has in
      kept_append insts place front (inner p ++ out) (label_rules insts place (label_at tree), tt) (kept_append insts p (inner p) out (rest p (omega (arith, later)) (place, has.0) (has_front s.made p (inner p) out back)) (branch_rules s low ahead q there.0 meet there.1, tt))

  -- ---- a loop

  pub header_kept : (r first place : ℕ) → Stands insts (merge_label r) → Stands insts (continue_label r) → Keeps s place (header_code r first)
  header_kept r first place merge next has =
      (loop_rules s low ahead place (merge_label r) (continue_label r) merge next, onwards_kept s low ahead (place + 1) first has.1)

  -- the labels behind the body of a loop
  pub continue_stands : (r place k there other : ℕ) → Has s.made place (footer_code c r place k there other) → Stands insts (continue_label r)
  continue_stands r place k there other has = (place + 1, has.1.0)

  pub merge_stands : (r place k there other : ℕ) → Has s.made place (footer_code c r place k there other) → Stands insts (merge_label r)
  merge_stands r place k there other has = (place + 1 + 1 + 1 + 1 + 1, has.1.1.1.1.1.0)

  pub footer_kept : (r place k there other : ℕ) → low ≤ place → CanTest s k → Stands insts there → Stands insts other → Keeps s place (footer_code c r place k there other)
  footer_kept r place k there other later can one two has =
      let front : List Inst = onwards (continue_label r) in
      let tail : List Inst = inst 250 (result c (place + 2 + 1) ∷ there ∷ other ∷ []) ∷ label_inst (merge_label r) ∷ [] in
      let back : List Inst = is_wanted c (place + 2) k ++ tail in
      let e : place + length front ≡ place + 2 = omega arith in
      let w = wanted_gives s low ahead (place + 2) k tail can.can can.bool (omega (arith, later)) (has_at s.made (place + length front) (place + 2) back e (has_back s.made place front back has)) in
      let kept_tail : AreKept insts (place + 2 + 2) tail = (fork_rules s low ahead (place + 2 + 2) (result c (place + 2 + 1)) one.0 there two.0 other can.bool w.value one.1 two.1, (label_rules insts (place + 2 + 2 + 1) (merge_label r), tt)) in
      kept_behind insts place (place + 2) front back e (onwards_kept s low ahead place (continue_label r) (has_front s.made place front back has)) (w.kept kept_tail)

  -- ---- the selection of a dispatch

  select_kept : (r place : ℕ) (arms : Arms) → low ≤ place → CanTest s (no_block c) → Stands insts (chosen_label r) → PairsStand insts (arm_pairs arms) → Keeps s place (select_arm c r place arms)
  select_kept r place arms later can there stand has =
      let meet : ℕ = chosen_label r in
      let want = can.can.0 in
      let tail : List Inst = selection_inst meet ∷ inst 251 (result c place ∷ meet ∷ arm_pairs arms) ∷ [] in
      let x = step s low ahead place (place + 1) 61 (int_id c) (variable c Want ∷ []) 1 1 0 tail refl load_shape refl (load_slot s low ahead place (result c place) Want ty.Int want refl later) has in
      let value = value_later insts (place + 1) (place + 1 + 1) (result c place) (int_id c) (omega arith) (block_next insts (place + 1) (selection_inst meet) x.has.0 refl) x.value in
      (x.kept, (merge_rules s low ahead (place + 1) there.0 meet there.1, (switch_rules s low ahead (place + 1 + 1) (result c place) meet (arm_pairs arms) (sort_used s low ahead Want want) value there stand, tt)))

  pub dispatch_head_kept : (r place : ℕ) (arms : Arms) → low ≤ place → CanTest s (no_block c) → Stands insts (merge_label r) → Stands insts (continue_label r) → Stands insts (chosen_label r) → PairsStand insts (arm_pairs arms) → Keeps s place (dispatch_head c r place arms)
  dispatch_head_kept r place arms later can merge next there stand has =
      let front : List Inst = header_code r (body_label r) in
      let back : List Inst = select_arm c r (place + 3) arms in
      let e : place + length front ≡ place + 3 = omega arith in
      let selects = has_at s.made (place + length front) (place + 3) back e (has_back s.made place front back has) in
      kept_behind insts place (place + 3) front back e (header_kept r (body_label r) place merge next (has_front s.made place front back has)) (select_kept r (place + 3) arms (omega (arith, later)) can there stand selects)

  pub dispatch_tail_kept : (r place : ℕ) → low ≤ place → CanTest s (no_block c) → Stands insts (header_label r) → Stands insts (merge_label r) → Keeps s place (dispatch_tail c r place)
  dispatch_tail_kept r place later can head merge has =
      (label_rules insts place (chosen_label r), footer_kept r (place + 1) (no_block c) (merge_label r) (header_label r) (omega (arith, later)) can merge head has.1)
