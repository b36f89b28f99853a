-- The module of a program has its form.
use Rattle.std.proofs.Common.{◌≡◌, ◌⊎◌, ℕ, suc, ◌≤◌, ◌<◌, Bool, true, false, List, [], ◌∷◌, ◌++◌, Some, refl, sym, ap, ◌∙◌, subst, arith, inl, inr, append-nil}
use Rattle.std.specs.Prelude.{slice_get, nat_eq, if◌then◌else◌}
use Rattle.dxil_form.specs.declared.program.Program.{Program}
use Rattle.dxil_form.specs.declared.region.Region.{Region}
use Rattle.dxil_form.specs.declared.region.Region.TheVariants as region
use Rattle.dxil_form.specs.Wired.{Wired}
use Rattle.spv_form.specs.declared.module.Inst.{Inst}
use Rattle.spv_form.specs.declared.module.Module.{Module}
use Rattle.spv_form.specs.declared.module.Version.{Version}
use Rattle.spv_form.specs.declared.module.Version.TheVariants.{V13, V16}
use Rattle.spirv_meaning.specs.Names.{block_name}
use Rattle.spirv_meaning.specs.Bindings.{Bindings}
use Rattle.spirv_meaning.specs.Target.{Word, Truth, fixed, fixed_value}
use Rattle.spirv_code.specs.declared.key.Sort.TheVariants as sort
use Rattle.spirv_code.specs.declared.key.Global.{Global}
use Rattle.spirv_code.specs.declared.key.Global.TheVariants.{Plain, Pointer, Number, Truth as TruthKey, Input, Buffer, Shared}
use Rattle.spirv_code.specs.declared.key.Slot.{Slot}
use Rattle.spirv_code.specs.declared.key.Slot.TheVariants.{Next, Kept, Want, Pick}
use Rattle.spirv_code.specs.Keys.{has_key, storage_class}
use Rattle.spirv_code.specs.Plans.{Plan, inst, site_label, slots_from, table_from, global_id}
use Rattle.spirv_code.specs.Exits.{label_inst}
use Rattle.spirv_code.specs.Trees.{root_of}
use Rattle.spirv_code.specs.Frame.{opening_label, rowed, buffer_storage, words_declaration, declaration, declarations, head, names, interface, is_listed, slot_start, slot_variable, slot_variables, closing, module_of}
use Rattle.spirv_code.specs.Needed.{table_of, slots_keys, want_keys, regions_keys}
use Rattle.spirv_code.specs.Further.{wants}
use Rattle.line_runs.proofs.Tests.{some_inj}
use Rattle.frame_facts.specs.Inner.{Owns}
use Rattle.frame_facts.specs.Serves.{Serves}
use Rattle.frame_facts.proofs.Searches.{Each, each_append, each_weaker, each_at, IsNot}
use Rattle.frame_facts.proofs.Spread.{ids, body, ending, decs, decls, variables, from_types, from_names, from_function, spread, is_spread, names_each, declared_global}
use Rattle.frame_facts.proofs.Wiring.{root_owned}
use Rattle.module_form.specs.Form.{gather, with_opcode, those, interface_id, listed, site_names, HasForm, ModulesHaveForm}
use Rattle.module_form.proofs.Gathered.{gather_none, apart_by, with_none, is_decoration, decorations_each, is_declaration, declarations_each, slots_each, is_inner, gather_spread, body_each}
use Rattle.module_form.proofs.Integers.{ints, add_all_one, one_or_none}

-- ---- the entry point's interface

listed_words : (v : Version) (p : Program) (ids : Global → ℕ) (id r : ℕ) (b : Bool) → listed v (words_declaration p ids id b r) ≡ []
listed_words v p ids id r true = refl
listed_words v p ids id r false = refl

-- what a key adds to the interface
abbrev entry_id : Version → ℕ → Global → List ℕ
entry_id v n g = if is_listed v g then n ∷ [] else []

listed_one : (v : Version) (p : Program) (ids : Global → ℕ) (n : ℕ) (g : Global) → listed v (declaration p ids n g) ≡ entry_id v n g
listed_one V13 p ids n (Plain sort.Int) = refl
listed_one V13 p ids n (Plain sort.Bool) = refl
listed_one V13 p ids n (Plain sort.Triple) = refl
listed_one V13 p ids n (Plain sort.Row) = refl
listed_one V13 p ids n (Plain (sort.Words r)) = listed_words V13 p ids n r (rowed p r)
listed_one V13 p ids n (Plain (sort.Block r)) = refl
listed_one V13 p ids n (Plain (sort.Array a)) = refl
listed_one V13 p ids n (Pointer s to) = refl
listed_one V13 p ids n (Number x) = refl
listed_one V13 p ids n (TruthKey true) = refl
listed_one V13 p ids n (TruthKey false) = refl
listed_one V13 p ids n (Input b) = refl
listed_one V13 p ids n (Buffer r) = by_rows (rowed p r)
  where
    by_rows : (b : Bool) → listed V13 (inst 59 (ids (Pointer (buffer_storage b) (sort.Block r)) ∷ n ∷ storage_class (buffer_storage b) ∷ [])) ≡ []
    by_rows true = refl
    by_rows false = refl
listed_one V13 p ids n (Shared a) = refl
listed_one V16 p ids n (Plain sort.Int) = refl
listed_one V16 p ids n (Plain sort.Bool) = refl
listed_one V16 p ids n (Plain sort.Triple) = refl
listed_one V16 p ids n (Plain sort.Row) = refl
listed_one V16 p ids n (Plain (sort.Words r)) = listed_words V16 p ids n r (rowed p r)
listed_one V16 p ids n (Plain (sort.Block r)) = refl
listed_one V16 p ids n (Plain (sort.Array a)) = refl
listed_one V16 p ids n (Pointer s to) = refl
listed_one V16 p ids n (Number x) = refl
listed_one V16 p ids n (TruthKey true) = refl
listed_one V16 p ids n (TruthKey false) = refl
listed_one V16 p ids n (Input b) = refl
listed_one V16 p ids n (Buffer r) = by_rows (rowed p r)
  where
    by_rows : (b : Bool) → listed V16 (inst 59 (ids (Pointer (buffer_storage b) (sort.Block r)) ∷ n ∷ storage_class (buffer_storage b) ∷ [])) ≡ n ∷ []
    by_rows true = refl
    by_rows false = refl
listed_one V16 p ids n (Shared a) = refl

interface_more : (v : Version) (n : ℕ) (g : Global) (table : List Global) → interface v n (g ∷ table) ≡ entry_id v n g ++ interface v (suc n) table
interface_more v n g table = by_test (is_listed v g)
  where
    by_test : (b : Bool) → (if b then n ∷ interface v (suc n) table else interface v (suc n) table) ≡ (if b then n ∷ [] else []) ++ interface v (suc n) table
    by_test true = refl
    by_test false = refl

listed_table : (v : Version) (p : Program) (ids : Global → ℕ) (n : ℕ) (table : List Global) → gather (listed v) (declarations p ids n table) ≡ interface v n table
listed_table v p ids n [] = refl
listed_table v p ids n (g ∷ table) =
    ap (λ xs. xs ++ gather (listed v) (declarations p ids (suc n) table)) (listed_one v p ids n g) ∙ ap (λ xs. entry_id v n g ++ xs) (listed_table v p ids (suc n) table) ∙ sym (interface_more v n g table)

-- what is no variable is not listed
listed_none : (v : Version) (i : Inst) → IsNot 59 i → listed v i ≡ []
listed_none v i e = ap (λ b. if b then interface_id v i.operands else []) e

-- nor is a variable of the function
listed_local : (v : Version) (ids : Global → ℕ) (n : ℕ) (s : Slot) → listed v (slot_variable ids n s) ≡ []
listed_local V13 ids n s = refl
listed_local V16 ids n s = refl

listed_locals : (v : Version) (ids : Global → ℕ) (n : ℕ) (slots : List Slot) → gather (listed v) (slot_variables ids n slots) ≡ []
listed_locals v ids n [] = refl
listed_locals v ids n (s ∷ slots) =
    ap (λ xs. xs ++ gather (listed v) (slot_variables ids (suc n) slots)) (listed_local v ids n s) ∙ listed_locals v ids (suc n) slots

-- ---- names

names_are : (n : ℕ) (list : List Region) → gather (with_opcode 5) (names n list) ≡ site_names n list
names_are n [] = refl
names_are n (region.Leaf b ∷ list) = ap (λ xs. (site_label n ∷ block_name b) ∷ xs) (names_are (suc n) list)
names_are n (region.Then first second target ∷ list) = names_are (suc n) list
names_are n (region.Loop inner entry ∷ list) = names_are (suc n) list
names_are n (region.Dispatch arms ∷ list) = names_are (suc n) list
names_are n (region.Arms first arms ∷ list) = names_are (suc n) list

-- ---- the whole

module _ (p : Program) (list : List Region) (at : Bindings) (v : Version) (plan : Plan) (w : Wired p list) (serves : Serves p list plan) where
  abbrev m : Module
  m = module_of p list at v plan

  owned : Owns (λ r. r < plan.regions) (root_of list)
  owned = subst (λ n. Owns (λ r. r < n) (root_of list)) (sym serves.regions) (root_owned p list w)

  -- nothing of the opcode stands in a piece
  decs_none : (opcode : ℕ) → is_decoration opcode ≡ false → gather (with_opcode opcode) (decs p list at v plan) ≡ []
  decs_none opcode other =
      gather_none (with_opcode opcode) (decs p list at v plan) (each_weaker (λ i. is_decoration i.opcode ≡ true) (λ i. with_opcode opcode i ≡ []) (λ i t. with_none opcode i (apart_by is_decoration i.opcode opcode t other)) (decs p list at v plan) (decorations_each p at (table_from plan) plan.table))

  decls_none : (opcode : ℕ) → is_declaration opcode ≡ false → gather (with_opcode opcode) (decls p list at v plan) ≡ []
  decls_none opcode other =
      gather_none (with_opcode opcode) (decls p list at v plan) (each_weaker (λ i. is_declaration i.opcode ≡ true) (λ i. with_opcode opcode i ≡ []) (λ i t. with_none opcode i (apart_by is_declaration i.opcode opcode t other)) (decls p list at v plan) (declarations_each p (global_id plan) (table_from plan) plan.table))

  body_none : (opcode : ℕ) → is_inner opcode ≡ false → gather (with_opcode opcode) (body p list at v plan) ≡ []
  body_none opcode other =
      gather_none (with_opcode opcode) (body p list at v plan) (each_weaker (λ i. is_inner i.opcode ≡ true) (λ i. with_opcode opcode i ≡ []) (λ i t. with_none opcode i (apart_by is_inner i.opcode opcode t other)) (body p list at v plan) (body_each p list at v plan owned))

  names_none : (opcode : ℕ) → nat_eq 5 opcode ≡ false → gather (with_opcode opcode) (names 0 list) ≡ []
  names_none opcode other =
      gather_none (with_opcode opcode) (names 0 list) (names_each p list at v plan 0 list (λ i. with_opcode opcode i ≡ []) (λ operands. with_none opcode (inst 5 operands) other))

  locals_none : (opcode : ℕ) → nat_eq 59 opcode ≡ false → gather (with_opcode opcode) (variables p list at v plan) ≡ []
  locals_none opcode other =
      gather_none (with_opcode opcode) (variables p list at v plan) (slots_each (global_id plan) (slots_from plan) plan.slots (λ i. with_opcode opcode i ≡ []) (λ operands. with_none opcode (inst 59 operands) other))

  -- what stands only in the first instructions, at the function and at its end
  outside : (opcode : ℕ) → nat_eq 5 opcode ≡ false → is_decoration opcode ≡ false → is_declaration opcode ≡ false → nat_eq 59 opcode ≡ false → is_inner opcode ≡ false → those opcode m.insts ≡ gather (with_opcode opcode) (head p v plan) ++ ([] ++ ([] ++ (with_opcode opcode (inst 19 (2 ∷ [])) ++ (with_opcode opcode (inst 33 (3 ∷ 2 ∷ [])) ++ ([] ++ (with_opcode opcode (inst 54 (2 ∷ 1 ∷ 0 ∷ 3 ∷ [])) ++ (with_opcode opcode (label_inst (opening_label (root_of list))) ++ ([] ++ ([] ++ gather (with_opcode opcode) closing)))))))))
  outside opcode a b c d f =
      gather_spread p list at v plan (with_opcode opcode) [] [] [] [] [] (names_none opcode a) (decs_none opcode b) (decls_none opcode c) (locals_none opcode d) (body_none opcode f)

  interface_is : gather (listed v) m.insts ≡ interface v (table_from plan) plan.table
  interface_is =
      gather_spread p list at v plan (listed v) [] [] (interface v (table_from plan) plan.table) [] [] no_names no_decs (listed_table v p (global_id plan) (table_from plan) plan.table) (listed_locals v (global_id plan) (slots_from plan) plan.slots) no_body ∙ append-nil (interface v (table_from plan) plan.table)
    where
      no_names : gather (listed v) (names 0 list) ≡ []
      no_names = gather_none (listed v) (names 0 list) (names_each p list at v plan 0 list (λ i. listed v i ≡ []) (λ operands. refl))

      no_decs : gather (listed v) (decs p list at v plan) ≡ []
      no_decs =
          gather_none (listed v) (decs p list at v plan) (each_weaker (λ i. is_decoration i.opcode ≡ true) (λ i. listed v i ≡ []) (λ i t. listed_none v i (apart_by is_decoration i.opcode 59 t refl)) (decs p list at v plan) (decorations_each p at (table_from plan) plan.table))

      no_body : gather (listed v) (body p list at v plan) ≡ []
      no_body =
          gather_none (listed v) (body p list at v plan) (each_weaker (λ i. is_inner i.opcode ≡ true) (λ i. listed v i ≡ []) (λ i t. listed_none v i (apart_by is_inner i.opcode 59 t refl)) (body p list at v plan) (body_each p list at v plan owned))

  names_of : those 5 m.insts ≡ site_names 0 list
  names_of =
      gather_spread p list at v plan (with_opcode 5) (site_names 0 list) [] [] [] [] (names_are 0 list) (decs_none 5 refl) (decls_none 5 refl) (locals_none 5 refl) (body_none 5 refl) ∙ append-nil (site_names 0 list)

  module _ (table : plan.table ≡ table_of p list (wants p list) plan.slots) where
    few_ints : ints plan.table ≤ 1
    few_ints =
        subst (λ t. ints t ≤ 1) (sym table) (add_all_one p [] (slots_keys plan.slots ++ (want_keys p (wants p list) ++ regions_keys p (wants p list) list)) (omega arith))

    integers_are : (those 21 m.insts ≡ []) ⊎ ((id : ℕ) × (those 21 m.insts ≡ (id ∷ 32 ∷ 0 ∷ []) ∷ []))
    integers_are = by_table (one_or_none p (global_id plan) (table_from plan) plan.table few_ints)
      where
        by_table : (gather (with_opcode 21) (decls p list at v plan) ≡ []) ⊎ ((id : ℕ) × (gather (with_opcode 21) (decls p list at v plan) ≡ (id ∷ 32 ∷ 0 ∷ []) ∷ [])) → (those 21 m.insts ≡ []) ⊎ ((id : ℕ) × (those 21 m.insts ≡ (id ∷ 32 ∷ 0 ∷ []) ∷ []))
        by_table (inl none) =
            inl (gather_spread p list at v plan (with_opcode 21) [] [] [] [] [] (names_none 21 refl) (decs_none 21 refl) none (locals_none 21 refl) (body_none 21 refl))
        by_table (inr one) =
            inr (one.0, gather_spread p list at v plan (with_opcode 21) [] [] ((one.0 ∷ 32 ∷ 0 ∷ []) ∷ []) [] [] (names_none 21 refl) (decs_none 21 refl) one.1 (locals_none 21 refl) (body_none 21 refl))

    -- ---- variables of the function

    abbrev Begins : Inst → Type 0
    Begins i =
        i.opcode ≡ 59 → slice_get i.operands 2 ≡ Some 7 → (id : ℕ) × (slice_get i.operands 3 ≡ Some id) × ((fixed m id ≡ Some (Word 0)) ⊎ (fixed m id ≡ Some (Truth false)))

    -- an instruction that is no variable
    no_variable : (test : ℕ → Bool) (i : Inst) → test i.opcode ≡ true → test 59 ≡ false → Begins i
    no_variable test i passes fails is class =
        let clash : true ≡ false = sym passes ∙ ap test is ∙ fails in
        absurd (cc clash)

    false_is : has_key plan.table (TruthKey false) ≡ true → fixed m (global_id plan (TruthKey false)) ≡ Some (Truth false)
    false_is h = ap (λ o. fixed_value o (global_id plan (TruthKey false))) (declared_global p list at v plan (TruthKey false) h)

    zero_is : has_key plan.table (Number 0) ≡ true → fixed m (global_id plan (Number 0)) ≡ Some (Word 0)
    zero_is h = ap (λ o. fixed_value o (global_id plan (Number 0))) (declared_global p list at v plan (Number 0) h)

    starts : (s : Slot) → has_key plan.table (slot_start s) ≡ true → (fixed m (global_id plan (slot_start s)) ≡ Some (Word 0)) ⊎ (fixed m (global_id plan (slot_start s)) ≡ Some (Truth false))
    starts (Next value part true) h = inr (false_is h)
    starts (Next value part false) h = inl (zero_is h)
    starts (Kept value part true) h = inr (false_is h)
    starts (Kept value part false) h = inl (zero_is h)
    starts Want h = inl (zero_is h)
    starts Pick h = inl (zero_is h)

    slots_begin : (n : ℕ) (slots : List Slot) → ((k : ℕ) (s : Slot) → slice_get slots k ≡ Some s → has_key plan.table (slot_start s) ≡ true) → Each Begins (slot_variables (global_id plan) n slots)
    slots_begin n [] h = tt
    slots_begin n (s ∷ slots) h =
        (λ is class. (global_id plan (slot_start s), refl, starts s (h 0 s refl)), slots_begin (suc n) slots (λ k x e. h (suc k) x e))

    -- a declared variable is of another storage class
    not_local : (x : ℕ) → nat_eq x 7 ≡ false → Some x ≡ Some 7 → ⊥
    not_local x other same =
        let one : x ≡ 7 = some_inj same in
        let clash : true ≡ false = sym (ap (λ n. nat_eq n 7) one) ∙ other in
        absurd (cc clash)

    declaration_begins : (n : ℕ) (g : Global) → Begins (declaration p (global_id plan) n g)
    declaration_begins n (Plain sort.Int) is class = absurd (omega (arith, is))
    declaration_begins n (Plain sort.Bool) is class = absurd (omega (arith, is))
    declaration_begins n (Plain sort.Triple) is class = absurd (omega (arith, is))
    declaration_begins n (Plain sort.Row) is class = absurd (omega (arith, is))
    declaration_begins n (Plain (sort.Words r)) is class = absurd (by_rows (rowed p r) is)
      where
        by_rows : (b : Bool) → (words_declaration p (global_id plan) n b r).opcode ≡ 59 → ⊥
        by_rows true e = omega (arith, e)
        by_rows false e = omega (arith, e)
    declaration_begins n (Plain (sort.Block r)) is class = absurd (omega (arith, is))
    declaration_begins n (Plain (sort.Array a)) is class = absurd (omega (arith, is))
    declaration_begins n (Pointer s to) is class = absurd (omega (arith, is))
    declaration_begins n (Number x) is class = absurd (omega (arith, is))
    declaration_begins n (TruthKey true) is class = absurd (omega (arith, is))
    declaration_begins n (TruthKey false) is class = absurd (omega (arith, is))
    declaration_begins n (Input b) is class = absurd (not_local 1 refl class)
    declaration_begins n (Buffer r) is class = absurd (by_rows (rowed p r) class)
      where
        by_rows : (b : Bool) → Some (storage_class (buffer_storage b)) ≡ Some 7 → ⊥
        by_rows true e = not_local 2 refl e
        by_rows false e = not_local 12 refl e
    declaration_begins n (Shared a) is class = absurd (not_local 4 refl class)

    declarations_begin : (n : ℕ) (table : List Global) → Each Begins (declarations p (global_id plan) n table)
    declarations_begin n [] = tt
    declarations_begin n (g ∷ table) = (declaration_begins n g, declarations_begin (suc n) table)

    -- an instruction with an opcode of its own
    other_opcode : (opcode : ℕ) (operands : List ℕ) → nat_eq opcode 59 ≡ false → Begins (inst opcode operands)
    other_opcode opcode operands other is class =
        let clash : true ≡ false = sym (ap (λ n. nat_eq n 59) is) ∙ other in
        absurd (cc clash)

    all_begin : Each Begins (spread p list at v plan)
    all_begin =
        each_append Begins (head p v plan) (from_names p list at v plan) (other_opcode 17 (1 ∷ []) refl, (other_opcode 14 (0 ∷ 1 ∷ []) refl, (other_opcode 15 (5 ∷ 1 ∷ 0x6E69_616D ∷ 0 ∷ interface v (table_from plan) plan.table) refl, (other_opcode 16 (1 ∷ 17 ∷ p.local) refl, tt)))) (each_append Begins (names 0 list) (decs p list at v plan ++ from_types p list at v plan) (names_each p list at v plan 0 list Begins (λ operands. other_opcode 5 operands refl)) (each_append Begins (decs p list at v plan) (from_types p list at v plan) decs_begin (other_opcode 19 (2 ∷ []) refl, (other_opcode 33 (3 ∷ 2 ∷ []) refl, each_append Begins (decls p list at v plan) (from_function p list at v plan) (declarations_begin (table_from plan) plan.table) (other_opcode 54 (2 ∷ 1 ∷ 0 ∷ 3 ∷ []) refl, (other_opcode 248 (opening_label (root_of list) ∷ []) refl, each_append Begins (variables p list at v plan) (ending p list at v plan) locals_begin (each_append Begins (body p list at v plan) closing body_begins (other_opcode 253 [] refl, (other_opcode 56 [] refl, tt)))))))))
      where
        decs_begin : Each Begins (decs p list at v plan)
        decs_begin =
            each_weaker (λ i. is_decoration i.opcode ≡ true) Begins (λ i t. no_variable is_decoration i t refl) (decs p list at v plan) (decorations_each p at (table_from plan) plan.table)

        body_begins : Each Begins (body p list at v plan)
        body_begins =
            each_weaker (λ i. is_inner i.opcode ≡ true) Begins (λ i t. no_variable is_inner i t refl) (body p list at v plan) (body_each p list at v plan owned)

        locals_begin : Each Begins (variables p list at v plan)
        locals_begin = slots_begin (slots_from plan) plan.slots (λ k s e. (serves.variables k s e).1.0)

    form : HasForm p list v m
    form =
        record {
          version = refl;
          capability = outside 17 refl refl refl refl refl;
          memory_model = outside 14 refl refl refl refl refl;
          entry_point = outside 15 refl refl refl refl refl ∙ ap (λ xs. (5 ∷ 1 ∷ 0x6E69_616D ∷ 0 ∷ xs) ∷ []) (sym interface_is);
          local_size = outside 16 refl refl refl refl refl;
          function = outside 54 refl refl refl refl refl;
          function_end = outside 56 refl refl refl refl refl;
          returns = outside 253 refl refl refl refl refl;
          integers = integers_are;
          names = names_of;
          locals = λ j i stands. each_at Begins m.insts j i (subst (Each Begins) (sym (is_spread p list at v plan)) all_begin) stands;
        }

pub modules_have_form : ModulesHaveForm
modules_have_form p list at v plan w serves table = form p list at v plan w serves table
