-- What stands before the code of the regions of a module keeps the rules of the ids.
use Rattle.std.proofs.Common.{◌≡◌, ⊎_elim, ℕ, zero, suc, ◌+◌, ◌<◌, true, false, List, [], ◌∷◌, ◌++◌, length, take, Some, refl, sym, ap, ◌∙◌, subst, arith}
use Rattle.std.specs.Prelude.{slice_get, nat_eq, ◌&&◌}
use Rattle.std.specs.Option.{option_map_or}
use Rattle.dxil_form.specs.declared.program.Program.{Program}
use Rattle.dxil_form.specs.declared.region.Region.{Region}
use Rattle.dxil_form.specs.Sound.{Sound}
use Rattle.dxil_form.specs.Wired.{Wired}
use Rattle.spv_form.specs.declared.module.Inst.{Inst}
use Rattle.spv_form.specs.declared.module.Version.{Version}
use Rattle.spv_form.specs.declared.shape.Shape.TheVariants.{Plain as PlainShape}
use Rattle.spv_form.specs.Shapes.{shape_of}
use Rattle.spv_ids.specs.Roles.{operand, result_of}
use Rattle.spv_ids.specs.Ids.{definition}
use Rattle.id_rules.specs.Uses.{is_misused}
use Rattle.type_rules.specs.Fits.{group_of, fits, function_fits}
use Rattle.spirv_meaning.specs.Bindings.{Bindings}
use Rattle.spirv_code.specs.declared.key.Storage.TheVariants as storage
use Rattle.spirv_code.specs.declared.key.Global.{Global}
use Rattle.spirv_code.specs.declared.key.Global.TheVariants.{Pointer}
use Rattle.spirv_code.specs.Keys.{has_key, index_of}
use Rattle.spirv_code.specs.Plans.{Plan, inst, slots_from, table_from, global_id}
use Rattle.spirv_code.specs.Trees.{root_of}
use Rattle.spirv_code.specs.Needed.{slots_keys, want_keys, regions_keys}
use Rattle.spirv_code.specs.Further.{wants}
use Rattle.spirv_code.specs.Frame.{needs, declaration, slot_sort, slot_start, head, names, function_types, opening_label, frame, insts_of}
use Rattle.line_runs.specs.Held.{Setting}
use Rattle.line_runs.proofs.Tests.{none_some, true_false}
use Rattle.frame_facts.specs.Serves.{AreKeys}
use Rattle.frame_facts.specs.Facts.{setting_of}
use Rattle.frame_facts.proofs.Searches.{Each, each_at, inj, get_past, get_front, get_below}
use Rattle.frame_facts.proofs.Tables.{key_stands}
use Rattle.frame_facts.proofs.Tabled.{global_self}
use Rattle.frame_facts.proofs.Labels.{get_either}
use Rattle.frame_facts.proofs.Declares.{get_some}
use Rattle.frame_facts.proofs.Spread.{ending, decs, decls, variables, from_function}
use Rattle.buffer_form.proofs.Standing.{has_at}
use Rattle.chosen_plan.specs.IsPlan.{IsPlan}
use Rattle.ruled_ids.specs.Laws.{DefineOnce}
use Rattle.ruled_ids.proofs.Declared.{void_is, function_type_is, function_is, declaration_is, declarations_at, slots_at}
use Rattle.ruled_lines.specs.Kept.{KeepsRules, StandsAhead}
use Rattle.ruled_lines.proofs.Values.{definition_is, reached, ahead_reach}
use Rattle.ruled_lines.proofs.Jumps.{label_rules}
use Rattle.ruled_frame.proofs.Early.{early, insts_are, early_block, frame_size, key_stands_at, declaration_at, slot_at}
use Rattle.ruled_frame.proofs.Whole.{modules_stand_ahead}
use Rattle.ruled_heads.specs.Laws.{FramesKeepRules}
use Rattle.ruled_heads.proofs.Table.{early_key, Told, table_told}
use Rattle.ruled_heads.proofs.Reach.{no_misuse, other_kept}
use Rattle.ruled_heads.proofs.Declared.{AreReached, key_kept, slot_kept}
use Rattle.ruled_heads.proofs.Heads.{IsDefined, Kept, defined, capability_kept, model_kept, mode_kept, entry_kept, name_kept, table_marked}
use Rattle.ruled_heads.proofs.Sites.{named}

-- a type of the function with that result
fits_function : (insts : List Inst) → definition insts 3 ≡ Some (inst 33 (3 ∷ 2 ∷ [])) → fits insts (inst 54 (2 ∷ 1 ∷ 0 ∷ 3 ∷ [])) ≡ true
unfolding fits group_of function_fits
fits_function insts is = ap (λ o. option_map_or (λ (f : Inst). nat_eq f.opcode 33 && nat_eq (operand f 1) 2) o false) is

module _ (p : Program) (list : List Region) (at : Bindings) (v : Version) (plan : Plan) (sound : Sound p) (wired : Wired p list) (is_plan : IsPlan p list plan) where
  abbrev all : List Inst
  all = insts_of p list at v plan

  -- in a launch, of which nothing here depends
  abbrev s : Setting
  s = setting_of p list at v plan (record { groups = []; sizes = [] })

  abbrev low : ℕ
  low = length (frame p list at v plan)

  ahead : StandsAhead s low
  ahead = modules_stand_ahead p list at v plan (record { groups = []; sizes = [] }) wired is_plan.serves

  once : DefineOnce all
  once = ahead.once

  abbrev front : List Inst
  front = early p list at v plan

  abbrev rest : List Inst
  rest = from_function p list at v plan

  in_front : (place : ℕ) (x : Inst) → slice_get front place ≡ Some x → slice_get all place ≡ Some x
  in_front place x e = ap (λ xs. slice_get xs place) (insts_are p list at v plan) ∙ get_front front rest place x e

  -- what is defined in front of the function is in reach behind it
  front_reached : (place id : ℕ) (x : Inst) → slice_get front place ≡ Some x → result_of x ≡ Some id → (here : ℕ) → place < here → (y : Inst) → is_misused all here y id ≡ false
  front_reached place id x e is here before y =
      reached all once here y place id x (in_front place x e) is (ahead_reach all here place x before (early_block p list at v plan place x e))

  -- ---- where the types stand

  abbrev types : List Inst
  types = function_types ++ decls p list at v plan

  abbrev place_of : ℕ → ℕ
  place_of k = length (head p v plan) + (length (names 0 list) + (length (decs p list at v plan) + k))

  type_there : (k : ℕ) (x : Inst) → slice_get types k ≡ Some x → slice_get front (place_of k) ≡ Some x
  type_there k x e =
      let marked = decs p list at v plan ++ types in
      let m : ℕ = length (decs p list at v plan) + k in
      get_past (head p v plan) (names 0 list ++ marked) (length (names 0 list) + m) ∙ get_past (names 0 list) marked m ∙ get_past (decs p list at v plan) types k ∙ e

  key_there : (g : Global) → has_key plan.table g ≡ true → slice_get front (place_of (suc (suc (index_of plan.table g)))) ≡ Some (declaration p (global_id plan) (global_id plan g) g)
  key_there g h =
      type_there (suc (suc (index_of plan.table g))) (declaration p (global_id plan) (global_id plan g) g) (declaration_at p (global_id plan) (table_from plan) plan.table (index_of plan.table g) g (key_stands plan.table g h))

  -- keys that stand before a place
  key_reached : (g : Global) → has_key plan.table g ≡ true → (here : ℕ) → place_of (suc (suc (index_of plan.table g))) < here → (y : Inst) → is_misused all here y (global_id plan g) ≡ false
  key_reached g h here before y =
      front_reached (place_of (suc (suc (index_of plan.table g)))) (global_id plan g) (declaration p (global_id plan) (global_id plan g) g) (key_there g h) (declaration_is p (global_id plan) (global_id plan g) g) here before y

  void_reached : (here : ℕ) → place_of 0 < here → (y : Inst) → is_misused all here y 2 ≡ false
  void_reached here before y =
      front_reached (place_of 0) 2 (inst 19 (2 ∷ [])) (type_there 0 (inst 19 (2 ∷ [])) refl) void_is here before y

  type_reached : (here : ℕ) → place_of 1 < here → (y : Inst) → is_misused all here y 3 ≡ false
  type_reached here before y =
      front_reached (place_of 1) 3 (inst 33 (3 ∷ 2 ∷ [])) (type_there 1 (inst 33 (3 ∷ 2 ∷ [])) refl) function_type_is here before y

  -- ---- the types of the function, and the table

  void_kept : (here : ℕ) → KeepsRules all here (inst 19 (2 ∷ []))
  unfolding shape_of group_of
  void_kept here = other_kept all here 19 (2 ∷ []) (PlainShape false true 0 0 0) refl refl refl ((λ is no. absurd (no refl)), tt)

  type_kept : (here : ℕ) → place_of 0 < here → KeepsRules all here (inst 33 (3 ∷ 2 ∷ []))
  unfolding shape_of group_of
  type_kept here before =
      other_kept all here 33 (3 ∷ 2 ∷ []) (PlainShape false true 0 65535 0) refl refl refl ((λ is no. absurd (no refl)), ((λ is no. void_reached here before _), tt))

  told : Told p plan.table
  told =
      subst (Told p) (sym is_plan.table) (table_told p (slots_keys plan.slots ++ (want_keys p (wants p list) ++ regions_keys p (wants p list) list)))

  -- what stands among the first keys is in reach behind them
  are_reached : (here k : ℕ) (gs : List Global) → here ≡ place_of (suc (suc k)) → AreKeys (take k plan.table) gs → AreReached s low ahead here gs
  are_reached here k [] is h = tt
  are_reached here k (g ∷ gs) is h =
      let there = early_key plan.table k g h.0 in
      let less : index_of plan.table g < k = there.1 in
      (key_reached g there.0 here (omega (arith, less, is)), are_reached here k gs is h.1)

  declared : (here k : ℕ) (x : Inst) → here ≡ place_of (suc (suc k)) → slice_get (decls p list at v plan) k ≡ Some x → KeepsRules all here x
  declared here k x is e =
      let some = get_some plan.table k (declarations_at p (global_id plan) (table_from plan) plan.table k x e).1 in
      let same = inj (sym (declaration_at p (global_id plan) (table_from plan) plan.table k some.0 some.1) ∙ e) in
      subst (KeepsRules all here) same (key_kept s low ahead here (table_from plan + k) some.0 (has_at plan.table k some.0 (global_self some.0) some.1) (are_reached here k (needs p some.0) is (told k some.0 some.1)))

  typed : (here k : ℕ) (x : Inst) → here ≡ place_of k → slice_get types k ≡ Some x → KeepsRules all here x
  typed here zero x is e = subst (KeepsRules all here) (inj e) (void_kept here)
  typed here (suc zero) x is e = subst (KeepsRules all here) (inj e) (type_kept here (omega (arith, is)))
  typed here (suc (suc k)) x is e = declared here k x is e

  -- ---- what may name an id that is defined anywhere

  function_there : slice_get all (length front + 0) ≡ Some (inst 54 (2 ∷ 1 ∷ 0 ∷ 3 ∷ []))
  function_there = ap (λ xs. slice_get xs (length front + 0)) (insts_are p list at v plan) ∙ get_past front rest 0

  function_defined : IsDefined all 1
  function_defined = defined all once (length front + 0) 1 (inst 54 (2 ∷ 1 ∷ 0 ∷ 3 ∷ [])) function_there function_is

  key_defined : (k : ℕ) (g : Global) → slice_get plan.table k ≡ Some g → IsDefined all (table_from plan + k)
  key_defined k g e =
      let there = key_stands_at p list at v plan k g e in
      defined all once there.0 (table_from plan + k) (declaration p (global_id plan) (table_from plan + k) g) there.1 (declaration_is p (global_id plan) (table_from plan + k) g)

  head_kept : Each (Kept all) (head p v plan)
  head_kept =
      (capability_kept all, (model_kept all, (entry_kept all v plan function_defined key_defined, (mode_kept all p.local sound.local.three function_defined, tt))))

  label_defined : (place id : ℕ) → slice_get all place ≡ Some (inst 248 (id ∷ [])) → IsDefined all id
  unfolding result_of shape_of
  label_defined place id e = defined all once place id (inst 248 (id ∷ [])) e refl

  name_rules : (here k : ℕ) (x : Inst) → slice_get (names 0 list) k ≡ Some x → KeepsRules all here x
  name_rules here k x e =
      let n = named p list v plan sound wired is_plan at k x e in
      subst (KeepsRules all here) (sym n.is) (name_kept all n.label n.block (label_defined n.place n.label n.stands) here)

  -- ---- all in front of the function

  marked : (here k : ℕ) (x : Inst) → here ≡ length (head p v plan) + (length (names 0 list) + k) → slice_get (decs p list at v plan ++ types) k ≡ Some x → KeepsRules all here x
  marked here k x is e = ⊎_elim (λ f. each_at (Kept all) (decs p list at v plan) k x (table_marked all p at (table_from plan) plan.table key_defined) f here) (λ r. typed here r.0 x (let more = r.1 in omega (arith, is, more)) r.2) (get_either (decs p list at v plan) types k x e)

  behind_head : (here k : ℕ) (x : Inst) → here ≡ length (head p v plan) + k → slice_get (names 0 list ++ (decs p list at v plan ++ types)) k ≡ Some x → KeepsRules all here x
  behind_head here k x is e = ⊎_elim (λ f. name_rules here k x f) (λ r. marked here r.0 x (let more = r.1 in omega (arith, is, more)) r.2) (get_either (names 0 list) (decs p list at v plan ++ types) k x e)

  front_kept : (here : ℕ) (x : Inst) → slice_get front here ≡ Some x → KeepsRules all here x
  front_kept here x e = ⊎_elim (λ f. each_at (Kept all) (head p v plan) here x head_kept f here) (λ r. behind_head here r.0 x r.1 r.2) (get_either (head p v plan) (names 0 list ++ (decs p list at v plan ++ types)) here x e)

  -- ---- the function, its first label and its variables

  type_defined : definition all 3 ≡ Some (inst 33 (3 ∷ 2 ∷ []))
  type_defined =
      definition_is all once (place_of 1) 3 (inst 33 (3 ∷ 2 ∷ [])) (in_front (place_of 1) (inst 33 (3 ∷ 2 ∷ [])) (type_there 1 (inst 33 (3 ∷ 2 ∷ [])) refl)) function_type_is

  function_kept : (here : ℕ) → length front ≡ here → KeepsRules all here (inst 54 (2 ∷ 1 ∷ 0 ∷ 3 ∷ []))
  unfolding shape_of
  function_kept here is =
      let first = get_below front (place_of 0) (inst 19 (2 ∷ [])) (type_there 0 (inst 19 (2 ∷ [])) refl) in
      let second = get_below front (place_of 1) (inst 33 (3 ∷ 2 ∷ [])) (type_there 1 (inst 33 (3 ∷ 2 ∷ [])) refl) in
      record {
        in_reach = no_misuse all here (inst 54 (2 ∷ 1 ∷ 0 ∷ 3 ∷ [])) (PlainShape true true 2 2 1) refl ((λ at_0 no. void_reached here (omega (arith, first, is)) _), ((λ at_1 no. absurd (no refl)), ((λ at_2 no. absurd (true_false (sym at_2))), ((λ at_3 no. type_reached here (omega (arith, second, is)) _), tt))));
        fitting = fits_function all type_defined;
        writable = λ pointer e read_only. none_some e;
      }

  -- a key is in reach behind the table
  behind_table : (g : Global) → has_key plan.table g ≡ true → (here : ℕ) → length front < here → (y : Inst) → is_misused all here y (global_id plan g) ≡ false
  behind_table g h here behind y =
      let less = get_below front (place_of (suc (suc (index_of plan.table g)))) (declaration p (global_id plan) (global_id plan g) g) (key_there g h) in
      key_reached g h here (omega (arith, less, behind)) y

  slot_rules : (here k : ℕ) (x : Inst) → length front < here → slice_get (variables p list at v plan) k ≡ Some x → KeepsRules all here x
  slot_rules here k x behind e =
      let some = get_some plan.slots k (slots_at (global_id plan) (slots_from plan) plan.slots k x e).1 in
      let same = inj (sym (slot_at (global_id plan) (slots_from plan) plan.slots k some.0 some.1) ∙ e) in
      let pointer : Global = Pointer storage.Function (slot_sort some.0) in
      let named_keys = is_plan.serves.variables k some.0 some.1 in
      subst (KeepsRules all here) same (slot_kept s low ahead here (slots_from plan + k) some.0 named_keys.0 named_keys.1.0 (behind_table pointer named_keys.0 here behind) (behind_table (slot_start some.0) named_keys.1.0 here behind))

  opened : (here k : ℕ) (x : Inst) → here ≡ length front + k → slice_get rest k ≡ Some x → here < low → KeepsRules all here x
  opened here zero x is e below =
      let same : length front ≡ here = omega (arith, is) in
      subst (KeepsRules all here) (inj e) (function_kept here same)
  opened here (suc zero) x is e below =
      subst (KeepsRules all here) (inj e) (label_rules all here (opening_label (root_of list)))
  opened here (suc (suc k)) x is e below = ⊎_elim (λ f. slot_rules here k x (omega (arith, is)) f) (λ r. absurd (let more = r.1 in let size = frame_size p list at v plan in omega (arith, is, below, more, size))) (get_either (variables p list at v plan) (ending p list at v plan) k x e)

  pub frame_kept : (here : ℕ) (x : Inst) → here < low → slice_get all here ≡ Some x → KeepsRules all here x
  frame_kept here x below e = ⊎_elim (λ f. front_kept here x f) (λ r. opened here r.0 x r.1 r.2 below) (get_either front rest here x (ap (λ xs. slice_get xs here) (sym (insts_are p list at v plan)) ∙ e))

pub frames_keep_rules : FramesKeepRules
frames_keep_rules p list at v plan sound wired is_plan here x below e = frame_kept p list at v plan sound wired is_plan here x below e
