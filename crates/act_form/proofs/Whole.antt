-- The module of a program does what the blocks that are reached do, and nothing else.
use Rattle.std.proofs.Common.{◌≡◌, ℕ, ◌+◌, ◌<◌, ◌≤◌, Bool, true, false, List, [], ◌∷◌, length, Option, Some, None, refl, sym, ap, ◌∙◌, subst, arith, append-nil}
use Rattle.std.specs.Prelude.{slice_get, nat_eq, ◌||◌}
use Rattle.dxil_form.specs.declared.block.Block.{Block}
use Rattle.dxil_form.specs.declared.program.Program.{Program}
use Rattle.dxil_form.specs.declared.region.Region.{Region}
use Rattle.dxil_form.specs.Branches.{declared_graph}
use Rattle.dxil_form.specs.Graphs.{Path, Reached}
use Rattle.dxil_form.specs.Sound.{Sound}
use Rattle.dxil_form.specs.Wired.{Wired}
use Rattle.spv_form.specs.declared.module.Inst.{Inst}
use Rattle.spv_form.specs.declared.module.Module.{Module}
use Rattle.spv_form.specs.declared.module.Version.{Version}
use Rattle.spirv_meaning.specs.Bindings.{Bindings, AreApart}
use Rattle.spirv_meaning.specs.Names.{is_some_at}
use Rattle.spirv_meaning.specs.Target.{Pointer, declared, fixed_value, operand_in}
use Rattle.spirv_code.specs.declared.key.Global.TheVariants.{Number, Input}
use Rattle.spirv_code.specs.declared.key.Slot.{Slot}
use Rattle.spirv_code.specs.Plans.{Plan, inst, slots_from, table_from, results_from, global_id, context_of}
use Rattle.spirv_code.specs.Trees.{root_of, label_at, begins_plainly}
use Rattle.spirv_code.specs.Leaves.{block_code}
use Rattle.spirv_code.specs.Rows.{onwards, row_code, block_at}
use Rattle.spirv_code.specs.Frame.{names, frame, slot_variable, module_of}
use Rattle.spirv_code.specs.Further.{wants}
use Rattle.line_runs.specs.Held.{Setting}
use Rattle.leaf_runs.specs.Laws.{setting_of}
use Rattle.frame_facts.specs.Inner.{Owns}
use Rattle.frame_facts.proofs.Searches.{each_weaker, eq_told, get_below, if_so, if_not}
use Rattle.frame_facts.proofs.Tables.{slot_stands}
use Rattle.frame_facts.proofs.Spread.{body, decs, decls, variables, names_each, declared_global, declared_slot, fixed_beyond}
use Rattle.frame_facts.proofs.Results.{frame_long}
use Rattle.frame_facts.proofs.Declares.{get_some}
use Rattle.frame_facts.proofs.Wiring.{root_owned, root_once}
use Rattle.plan_ready.proofs.Whole.{plans_are_ready}
use Rattle.chosen_plan.specs.Chosen.{plan_for}
use Rattle.chosen_plan.specs.IsPlan.{IsPlan}
use Rattle.chosen_plan.proofs.Whole.{plans_are_chosen}
use Rattle.module_form.specs.Form.{gather}
use Rattle.module_form.proofs.Gathered.{gather_none, is_decoration, decorations_each, is_declaration, declarations_each, slots_each, gather_spread}
use Rattle.formed_rows.proofs.Rows.{block_or}
use Rattle.formed_rows.proofs.Wiring.{root_ready}
use Rattle.module_formed.proofs.Bound.{full, room}
use Rattle.site_form.proofs.Whole.{scene}
use Rattle.act_form.specs.Acts.{acts_in, acts_at, HasActs, ModulesHaveActs}
use Rattle.act_form.proofs.Pieces.{Knows, is_inward, is_silent, no_operation, silent_by, silent_none, acts}
use Rattle.act_form.proofs.Blocks.{block_gives}
use Rattle.act_form.proofs.Every.{in_place, every}
use Rattle.act_form.proofs.Orders.{leaves_weaker, InList, root_leaves, order, order_told, seen_once, IsAt, order_few}
use Rattle.act_form.proofs.Rows.{LeafGives, done, row_gives}

-- ---- what stands before the body

decoration_silent : (n : ℕ) → is_decoration n ≡ true → is_silent n ≡ true
decoration_silent n e = silent_by n (inward n e) (no_operation is_decoration n e refl refl refl refl refl)
  where
    inward : (n : ℕ) → is_decoration n ≡ true → is_inward n ≡ true
    inward n e = grind arith

declaration_silent : (n : ℕ) → is_declaration n ≡ true → is_silent n ≡ true
declaration_silent n e = silent_by n (inward n e) (no_operation is_declaration n e refl refl refl refl refl)
  where
    inward : (n : ℕ) → is_declaration n ≡ true → is_inward n ≡ true
    inward n e = grind arith

-- ---- storage classes

-- an id without a value is no variable
no_variable : (o : Option Inst) (id : ℕ) → fixed_value o id ≡ None → (is_some_at (operand_in o 59 2) 7 || is_some_at (operand_in o 59 2) 1) ≡ false
no_variable None id e = refl
no_variable (Some i) id e = by_test (nat_eq i.opcode 59) refl
  where
    by_test : (t : Bool) → nat_eq i.opcode 59 ≡ t → (is_some_at (operand_in (Some i) 59 2) 7 || is_some_at (operand_in (Some i) 59 2) 1) ≡ false
    by_test false f = ap (λ o. is_some_at o 7 || is_some_at o 1) (if_not (nat_eq i.opcode 59) f (slice_get i.operands 2) None)
    by_test true f =
        let opcode : i.opcode ≡ 59 = eq_told i.opcode 59 f in
        let value : fixed_value (Some i) id ≡ Some (Pointer id []) = ap (λ n. fixed_value (Some (inst n i.operands)) id) opcode in
        absurd (let clash : None ≡ Some (Pointer id []) = sym e ∙ value in cc clash)

module _ (p : Program) (list : List Region) (at : Bindings) (v : Version) (plan : Plan) (sound : Sound p) (wired : Wired p list) (is_plan : IsPlan p list plan) (apart : AreApart p at) where
  abbrev m : Module
  m = module_of p list at v plan

  abbrev low : ℕ
  low = length (frame p list at v plan)

  abbrev s : Setting
  s = setting_of p m at (context_of p plan) plan.table (record { groups = []; sizes = [] })

  owned : Owns (λ r. r < plan.regions) (root_of list)
  owned = subst (λ n. Owns (λ r. r < n) (root_of list)) (sym is_plan.serves.regions) (root_owned p list wired)

  knows : Knows s low
  knows =
      record {
        numbers = λ n uses. ap (λ o. fixed_value o (global_id plan (Number n))) (declared_global p list at v plan (Number n) uses);
        inputs = λ b uses. ap (λ o. is_some_at (operand_in o 59 2) 7 || is_some_at (operand_in o 59 2) 1) (declared_global p list at v plan (Input b) uses);
        locals = locals;
        results = λ place there. (let long = frame_long p list at v plan in no_variable (declared m.insts (results_from plan + place)) (results_from plan + place) (fixed_beyond p list at v plan owned (results_from plan + place) (omega (arith, there, long))));
      }
    where
      locals : (slot : Slot) (id : ℕ) → (context_of p plan).slot slot ≡ Some id → (is_some_at (operand_in (declared m.insts id) 59 2) 7 || is_some_at (operand_in (declared m.insts id) 59 2) 1) ≡ true
      locals slot id e =
          let there = slot_stands (slots_from plan) plan.slots slot id e in
          let variable : declared m.insts id ≡ Some (slot_variable (global_id plan) id slot) = subst (λ k. declared m.insts k ≡ Some (slot_variable (global_id plan) k slot)) (sym there.is) (declared_slot p list at v plan owned there.k slot (get_below plan.slots there.k slot there.here) there.here) in
          ap (λ o. is_some_at (operand_in o 59 2) 7 || is_some_at (operand_in o 59 2) 1) variable

  -- ---- blocks

  below : (b : ℕ) → Reached (declared_graph p) b → b < length p.blocks
  below b (before, path) = by_path before path
    where
      by_path : (before : List ℕ) → Path (declared_graph p) 0 before b → b < length p.blocks
      by_path [] path = let begins = sound.begins in omega (arith, begins, path)
      by_path (c ∷ before) path = (sound.targets c b path.0).1

  leaf_gives : (r b : ℕ) → InList list r b → LeafGives s low r b
  leaf_gives r b leaf place there =
      let reached = wired.reached r b leaf in
      let block = get_some p.blocks b (below b reached) in
      let ready = plans_are_ready p list (wants p list) plan sound wired is_plan.variables is_plan.table m at (record { groups = []; sizes = [] }) b block.0 place reached block.1 in
      let same : block_at (context_of p plan) b ≡ block.0 = ap block_or block.1 in
      let code = ap (λ (x : Block). acts s (block_code (context_of p plan) place b x)) same in
      code ∙ block_gives s low knows b place block.0 there ready ∙ ap acts_at (sym block.1)

  abbrev tree_order : List ℕ
  tree_order = order (context_of p plan) (root_of list)

  row_does : (place : ℕ) → low ≤ place → acts s (row_code (context_of p plan) place (root_of list)) ≡ done s tree_order
  row_does place there =
      row_gives s low knows (full p list at v plan) (length list) (root_of list) place (root_ready p list plan (full p list at v plan) is_plan (room p list at v plan) sound wired) (leaves_weaker (InList list) (LeafGives s low) leaf_gives (root_of list) (root_leaves list)) there

  body_does : acts s (body p list at v plan) ≡ done s tree_order
  body_does = by_test (begins_plainly (root_of list)) refl
    where
      by_test : (t : Bool) → begins_plainly (root_of list) ≡ t → acts s (body p list at v plan) ≡ done s tree_order
      by_test true e = ap (acts s) (if_so (begins_plainly (root_of list)) e _ _) ∙ row_does low (omega arith)
      by_test false e =
          ap (acts s) (if_not (begins_plainly (root_of list)) e _ _) ∙ row_does (low + length (onwards (label_at (root_of list)))) (omega arith)

  whole : gather (acts_in m) m.insts ≡ done s tree_order
  whole =
      gather_spread p list at v plan (acts_in m) [] [] [] [] (done s tree_order) no_names no_decs no_decls no_variables body_does ∙ append-nil (done s tree_order)
    where
      no_names : gather (acts_in m) (names 0 list) ≡ []
      no_names = gather_none (acts_in m) (names 0 list) (names_each p list at v plan 0 list (λ i. acts_in m i ≡ []) (λ operands. refl))

      no_decs : gather (acts_in m) (decs p list at v plan) ≡ []
      no_decs =
          gather_none (acts_in m) (decs p list at v plan) (each_weaker (λ i. is_decoration i.opcode ≡ true) (λ i. acts_in m i ≡ []) (λ i t. silent_none m i.opcode i.operands (decoration_silent i.opcode t)) (decs p list at v plan) (decorations_each p at (table_from plan) plan.table))

      no_decls : gather (acts_in m) (decls p list at v plan) ≡ []
      no_decls =
          gather_none (acts_in m) (decls p list at v plan) (each_weaker (λ i. is_declaration i.opcode ≡ true) (λ i. acts_in m i ≡ []) (λ i t. silent_none m i.opcode i.operands (declaration_silent i.opcode t)) (decls p list at v plan) (declarations_each p (global_id plan) (table_from plan) plan.table))

      no_variables : gather (acts_in m) (variables p list at v plan) ≡ []
      no_variables =
          gather_none (acts_in m) (variables p list at v plan) (slots_each (global_id plan) (slots_from plan) plan.slots (λ i. acts_in m i ≡ []) (λ operands. refl))

  -- ---- the order

  order_reached : (k b : ℕ) → slice_get tree_order k ≡ Some b → Reached (declared_graph p) b
  order_reached k b e =
      order_told (context_of p plan) (Reached (declared_graph p)) (root_of list) (leaves_weaker (InList list) (λ r b. Reached (declared_graph p) b) (λ r b leaf. wired.reached r b leaf) (root_of list) (root_leaves list)) k b e

  order_every : (b : ℕ) → Reached (declared_graph p) b → (k : ℕ) × (slice_get tree_order k ≡ Some b)
  order_every b reached = in_place b tree_order (every (scene p list at v plan sound wired is_plan apart) b reached)

  order_once : (j k b : ℕ) → slice_get tree_order j ≡ Some b → slice_get tree_order k ≡ Some b → j ≡ k
  order_once j k b ej ek =
      let leaf = wired.leaf b (order_reached j b ej) in
      let alone : (place block : ℕ) → InList list place block → IsAt b leaf.0 place block = λ place block here same. wired.leaf_once place leaf.0 b (subst (InList list place) same here) leaf.1 in
      let few = order_few (context_of p plan) b leaf.0 (root_of list) (leaves_weaker (InList list) (IsAt b leaf.0) alone (root_of list) (root_leaves list)) in
      let one = root_once p list wired leaf.0 in
      seen_once b tree_order (omega (arith, few, one)) j k ej ek

  pub has_acts : HasActs p m
  has_acts = record { order = tree_order; every = order_every; reached = order_reached; once = order_once; acts = whole }

pub modules_have_acts : ModulesHaveActs
modules_have_acts p list slots at v sound wired are apart =
    has_acts p list at v (plan_for p list slots) sound wired (plans_are_chosen p list slots sound wired are) apart
