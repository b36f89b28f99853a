-- What stands before the function of a module, and its variables.
use Rattle.std.proofs.Common.{◌≡◌, ℕ, zero, suc, ◌+◌, ◌<◌, true, false, List, [], ◌∷◌, ◌++◌, length, length-append, take, Some, refl, sym, ap, ◌∙◌, arith, append_assoc}
use Rattle.std.proofs.lemmas.List.{take-append-le}
use Rattle.std.specs.Prelude.{slice_get, count_by, fold, cond}
use Rattle.dxil_form.specs.declared.program.Program.{Program}
use Rattle.dxil_form.specs.declared.region.Region.{Region}
use Rattle.spv_form.specs.declared.module.Inst.{Inst}
use Rattle.spv_form.specs.declared.module.Version.{Version}
use Rattle.spv_ids.specs.Places.{is_op, block_of}
use Rattle.spirv_meaning.specs.Bindings.{Bindings}
use Rattle.spirv_code.specs.declared.key.Global.{Global}
use Rattle.spirv_code.specs.declared.key.Slot.{Slot}
use Rattle.spirv_code.specs.Keys.{has_key, index_of}
use Rattle.spirv_code.specs.Plans.{Plan, slots_from, table_from, global_id, slot_id}
use Rattle.spirv_code.specs.Trees.{root_of}
use Rattle.spirv_code.specs.Frame.{declaration, declarations, slot_variable, slot_variables, head, names, function_types, opening, frame, insts_of}
use Rattle.frame_facts.proofs.Searches.{Each, each_append, each_weaker, get_past, get_front, get_below, inj}
use Rattle.frame_facts.proofs.Tables.{key_stands, slot_stands}
use Rattle.frame_facts.proofs.Spread.{ending, decs, decls, variables, from_function, is_spread, names_each}
use Rattle.module_form.proofs.Gathered.{apart_by, is_decoration, decorations_each, is_declaration, declarations_each}

-- ---- lists

pub declaration_at : (p : Program) (ids : Global → ℕ) (n : ℕ) (table : List Global) (k : ℕ) (g : Global) → slice_get table k ≡ Some g → slice_get (declarations p ids n table) k ≡ Some (declaration p ids (n + k) g)
declaration_at p ids n [] k g e = absurd (cc)
declaration_at p ids n (x ∷ table) zero g e =
    let same : n ≡ n + 0 = omega arith in
    ap (λ y. Some (declaration p ids n y)) (inj e) ∙ ap (λ id. Some (declaration p ids id g)) same
declaration_at p ids n (x ∷ table) (suc k) g e =
    let same : suc n + k ≡ n + suc k = omega arith in
    declaration_at p ids (suc n) table k g e ∙ ap (λ id. Some (declaration p ids id g)) same

pub slot_at : (ids : Global → ℕ) (n : ℕ) (slots : List Slot) (k : ℕ) (s : Slot) → slice_get slots k ≡ Some s → slice_get (slot_variables ids n slots) k ≡ Some (slot_variable ids (n + k) s)
slot_at ids n [] k s e = absurd (cc)
slot_at ids n (x ∷ slots) zero s e =
    let same : n ≡ n + 0 = omega arith in
    ap (λ y. Some (slot_variable ids n y)) (inj e) ∙ ap (λ id. Some (slot_variable ids id s)) same
slot_at ids n (x ∷ slots) (suc k) s e =
    let same : suc n + k ≡ n + suc k = omega arith in
    slot_at ids (suc n) slots k s e ∙ ap (λ id. Some (slot_variable ids id s)) same

abbrev NoLabel : Inst → Type 0
NoLabel x = is_op 248 x ≡ false

none_counted : (xs : List Inst) (k a : ℕ) → Each NoLabel xs → fold (λ n x. n + cond (is_op 248 x) 1 0) a (take k xs) ≡ a
none_counted xs zero a h = refl
none_counted [] (suc k) a h = refl
none_counted (x ∷ xs) (suc k) a h =
    let same : a + 0 ≡ a = omega arith in
    ap (λ b. fold (λ n x. n + cond (is_op 248 x) 1 0) (a + cond b 1 0) (take k xs)) h.0 ∙ none_counted xs k (a + 0) h.1 ∙ same

-- ---- what stands before the function

module _ (p : Program) (list : List Region) (at : Bindings) (v : Version) (plan : Plan) where
  abbrev pub early : List Inst
  early =
      head p v plan ++ (names 0 list ++ (decs p list at v plan ++ (function_types ++ decls p list at v plan)))

  early_with : (rest : List Inst) → early ++ rest ≡ head p v plan ++ (names 0 list ++ (decs p list at v plan ++ (function_types ++ (decls p list at v plan ++ rest))))
  early_with rest =
      let types : List Inst = function_types ++ decls p list at v plan in
      let one = append_assoc (names 0 list) (decs p list at v plan ++ types) rest in
      let two = append_assoc (decs p list at v plan) types rest in
      ap (λ xs. head p v plan ++ xs) (one ∙ ap (λ xs. names 0 list ++ xs) two)

  pub insts_are : insts_of p list at v plan ≡ early ++ from_function p list at v plan
  insts_are = is_spread p list at v plan ∙ sym (early_with (from_function p list at v plan))

  pub frame_size : length (frame p list at v plan) ≡ length early + suc (suc (length (variables p list at v plan)))
  frame_size =
      sym (ap (λ xs. length xs) (early_with (opening plan (root_of list)))) ∙ length-append early (opening plan (root_of list))

  no_label : Each NoLabel early
  no_label =
      let marked = each_weaker (λ i. is_decoration i.opcode ≡ true) NoLabel (λ i e. apart_by is_decoration i.opcode 248 e refl) (decs p list at v plan) (decorations_each p at (table_from plan) plan.table) in
      let declared = each_weaker (λ i. is_declaration i.opcode ≡ true) NoLabel (λ i e. apart_by is_declaration i.opcode 248 e refl) (decls p list at v plan) (declarations_each p (global_id plan) (table_from plan) plan.table) in
      (refl, (refl, (refl, (refl, each_append NoLabel (names 0 list) _ (names_each p list at v plan 0 list NoLabel (λ operands. refl)) (each_append NoLabel (decs p list at v plan) _ marked (refl, (refl, declared)))))))

  -- what stands there is in no block
  pub early_block : (place : ℕ) (i : Inst) → slice_get early place ≡ Some i → block_of (insts_of p list at v plan) place ≡ 0
  unfolding block_of
  early_block place i e =
      let low : place < length early = get_below early place i e in
      ap (λ xs. count_by (is_op 248) (take place xs)) insts_are ∙ ap (count_by (is_op 248)) (take-append-le place early (from_function p list at v plan) (omega (arith, low))) ∙ none_counted early place 0 no_label

  -- ---- keys

  key_early : (k : ℕ) (g : Global) → slice_get plan.table k ≡ Some g → (place : ℕ) × (slice_get early place ≡ Some (declaration p (global_id plan) (table_from plan + k) g))
  key_early k g e =
      let own = declaration_at p (global_id plan) (table_from plan) plan.table k g e in
      let m : ℕ = suc (suc k) in
      let types : List Inst = function_types ++ decls p list at v plan in
      let marked : List Inst = decs p list at v plan ++ types in
      let n : ℕ = length (names 0 list) + (length (decs p list at v plan) + m) in
      (length (head p v plan) + n, get_past (head p v plan) (names 0 list ++ marked) n ∙ get_past (names 0 list) marked (length (decs p list at v plan) + m) ∙ get_past (decs p list at v plan) types m ∙ own)

  pub key_stands_at : (k : ℕ) (g : Global) → slice_get plan.table k ≡ Some g → (place : ℕ) × (slice_get (insts_of p list at v plan) place ≡ Some (declaration p (global_id plan) (table_from plan + k) g))
  key_stands_at k g e =
      let there = key_early k g e in
      (there.0, ap (λ xs. slice_get xs there.0) insts_are ∙ get_front early (from_function p list at v plan) there.0 (declaration p (global_id plan) (table_from plan + k) g) there.1)

  pub key_ahead : (g : Global) → has_key plan.table g ≡ true → (place : ℕ) × (slice_get (insts_of p list at v plan) place ≡ Some (declaration p (global_id plan) (global_id plan g) g)) × (place < length (frame p list at v plan)) × (block_of (insts_of p list at v plan) place ≡ 0)
  key_ahead g h =
      let i : Inst = declaration p (global_id plan) (global_id plan g) g in
      let k = key_early (index_of plan.table g) g (key_stands plan.table g h) in
      let low : k.0 < length early = get_below early k.0 i k.1 in
      (k.0, ap (λ xs. slice_get xs k.0) insts_are ∙ get_front early (from_function p list at v plan) k.0 i k.1, omega (arith, low, frame_size), early_block k.0 i k.1)

  -- ---- variables of the function

  pub slot_ahead : (slot : Slot) (id : ℕ) → slot_id plan slot ≡ Some id → (k : ℕ) × (slice_get plan.slots k ≡ Some slot) × ((place : ℕ) × (slice_get (insts_of p list at v plan) place ≡ Some (slot_variable (global_id plan) id slot)) × (place < length (frame p list at v plan)))
  slot_ahead slot id e =
      let s = slot_stands (slots_from plan) plan.slots slot id e in
      let i : Inst = slot_variable (global_id plan) (slots_from plan + s.k) slot in
      let own = slot_at (global_id plan) (slots_from plan) plan.slots s.k slot s.here in
      let low : s.k < length (variables p list at v plan) = get_below (variables p list at v plan) s.k i own in
      let n : ℕ = suc (suc s.k) in
      let there = ap (λ xs. slice_get xs (length early + n)) insts_are ∙ get_past early (from_function p list at v plan) n ∙ get_front (variables p list at v plan) (ending p list at v plan) s.k i own in
      (s.k, s.here, (length early + n, there ∙ ap (λ m. Some (slot_variable (global_id plan) m slot)) (sym s.is), omega (arith, low, frame_size)))
