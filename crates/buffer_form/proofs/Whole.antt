-- The variables of buffers and of groupshared arrays, wherever they stand in a module.
use Rattle.std.proofs.Common.{◌≡◌, ◌⊎◌, ⊎_elim, ℕ, zero, suc, ◌+◌, ◌<◌, Bool, true, false, List, [], ◌∷◌, ◌++◌, length, take, drop, get_or, Some, refl, sym, ap, ◌∙◌, subst, arith, append-nil}
use Rattle.std.specs.Prelude.{slice_get, slice_index, nat_eq, ◌&&◌}
use Rattle.dxil_form.specs.declared.program.Program.{Program}
use Rattle.dxil_form.specs.declared.region.Region.{Region}
use Rattle.dxil_form.specs.Wired.{Wired}
use Rattle.spv_form.specs.declared.module.Inst.{Inst}
use Rattle.spv_form.specs.declared.module.Version.{Version}
use Rattle.spirv_meaning.specs.Bindings.{Bindings, AreApart}
use Rattle.spirv_meaning.specs.Names.{is_some_at}
use Rattle.spirv_code.specs.declared.key.Sort.TheVariants as sort
use Rattle.spirv_code.specs.declared.key.Storage.TheVariants as storage
use Rattle.spirv_code.specs.declared.key.Global.{Global}
use Rattle.spirv_code.specs.declared.key.Global.TheVariants.{Plain, Pointer, Number, Truth, Input, Buffer, Shared}
use Rattle.spirv_code.specs.declared.key.Slot.{Slot}
use Rattle.spirv_code.specs.Keys.{storage_class}
use Rattle.spirv_code.specs.Plans.{Plan, inst, slots_from, table_from, global_id}
use Rattle.spirv_code.specs.Trees.{root_of}
use Rattle.spirv_code.specs.Frame.{rowed, buffer_storage, words_declaration, declaration, declarations, head, names, slot_variables, closing}
use Rattle.spirv_code.specs.Further.{wants}
use Rattle.frame_facts.specs.Inner.{Owns}
use Rattle.frame_facts.specs.Serves.{Serves, arrays_in}
use Rattle.frame_facts.proofs.Searches.{Each, each_append, each_weaker, each_at, if_not, eq_same, inj}
use Rattle.frame_facts.proofs.Spread.{body, ending, decs, decls, variables, from_types, from_names, from_function, spread, is_spread, names_each}
use Rattle.frame_facts.proofs.Wiring.{root_owned}
use Rattle.module_form.specs.Form.{gather}
use Rattle.module_form.proofs.Gathered.{gather_none, apart_by, is_decoration, decorations_each, is_inner, gather_spread, body_each}
use Rattle.buffer_form.specs.Buffers.{Stands, of_class, IsBufferOf, OverShared, ModulesHaveBuffers}
use Rattle.buffer_form.proofs.Fitting.{KeysFit, fit_at, table_fits}
use Rattle.buffer_form.proofs.Standing.{has_at}
use Rattle.buffer_form.proofs.Types.{made, ids, buffer_at, over_shared}

-- ---- groupshared arrays, in their order

not_of : (class : ℕ) (i : Inst) → nat_eq i.opcode 59 ≡ false → of_class class i ≡ []
not_of class i e = if_not _ (ap (λ b. b && is_some_at (slice_get i.operands 2) class) e) _ _

locals_not : (ids : Global → ℕ) (n : ℕ) (slots : List Slot) → gather (of_class 4) (slot_variables ids n slots) ≡ []
locals_not ids n [] = refl
locals_not ids n (s ∷ slots) = locals_not ids (suc n) slots

-- where the k-th of them stands in a table
record ArrayAt (p : Program) (ids : Global → ℕ) (n : ℕ) (table : List Global) (j : ℕ) (operands : List ℕ) : Type 0 where
  k : ℕ
  array : ℕ
  here : slice_get table k ≡ Some (Shared array)
  count : arrays_in (take k table) ≡ j
  is : operands ≡ (declaration p ids (n + k) (Shared array)).operands

module _ (p : Program) (ids : Global → ℕ) where
  abbrev arrays : ℕ → List Global → List (List ℕ)
  arrays n table = gather (of_class 4) (declarations p ids n table)

  abbrev Found : ℕ → List Global → Type 0
  Found n table =
      (j : ℕ) (operands : List ℕ) → slice_get (arrays n table) j ≡ Some operands → ArrayAt p ids n table j operands

  -- behind a key that is no array
  further : (n : ℕ) (g : Global) (table : List Global) → of_class 4 (declaration p ids n g) ≡ [] → ((k : ℕ) → arrays_in (take (suc k) (g ∷ table)) ≡ arrays_in (take k table)) → Found (suc n) table → Found n (g ∷ table)
  further n g table none same found j operands e =
      let rest = found j operands (ap (λ xs. slice_get (xs ++ arrays (suc n) table) j) (sym none) ∙ e) in
      let place : suc n + rest.k ≡ n + suc rest.k = omega arith in
      record {
        k = suc rest.k;
        array = rest.array;
        here = rest.here;
        count = same rest.k ∙ rest.count;
        is = rest.is ∙ ap (λ id. (declaration p ids id (Shared rest.array)).operands) place;
      }

  behind : (n a : ℕ) (table : List Global) → Found (suc n) table → Found n (Shared a ∷ table)
  behind n a table found zero operands e =
      let same : n ≡ n + 0 = omega arith in
      record { k = 0; array = a; here = refl; count = refl; is = sym (inj e) ∙ ap (λ id. (declaration p ids id (Shared a)).operands) same }
  behind n a table found (suc j) operands e =
      let rest = found j operands e in
      let place : suc n + rest.k ≡ n + suc rest.k = omega arith in
      record {
        k = suc rest.k;
        array = rest.array;
        here = rest.here;
        count = ap suc rest.count;
        is = rest.is ∙ ap (λ id. (declaration p ids id (Shared rest.array)).operands) place;
      }

  words_not : (n r : ℕ) (b : Bool) → of_class 4 (words_declaration p ids n b r) ≡ []
  words_not n r true = refl
  words_not n r false = refl

  buffer_not : (n r : ℕ) (b : Bool) → of_class 4 (inst 59 (ids (Pointer (buffer_storage b) (sort.Block r)) ∷ n ∷ storage_class (buffer_storage b) ∷ [])) ≡ []
  buffer_not n r true = refl
  buffer_not n r false = refl

  found_arrays : (n : ℕ) (table : List Global) → Found n table
  found_arrays n [] = λ j operands e. absurd (cc)
  found_arrays n (Shared a ∷ table) = behind n a table (found_arrays (suc n) table)
  found_arrays n (Plain sort.Int ∷ table) = further n (Plain sort.Int) table refl (λ k. refl) (found_arrays (suc n) table)
  found_arrays n (Plain sort.Bool ∷ table) = further n (Plain sort.Bool) table refl (λ k. refl) (found_arrays (suc n) table)
  found_arrays n (Plain sort.Triple ∷ table) = further n (Plain sort.Triple) table refl (λ k. refl) (found_arrays (suc n) table)
  found_arrays n (Plain sort.Row ∷ table) = further n (Plain sort.Row) table refl (λ k. refl) (found_arrays (suc n) table)
  found_arrays n (Plain (sort.Words r) ∷ table) = further n (Plain (sort.Words r)) table (words_not n r (rowed p r)) (λ k. refl) (found_arrays (suc n) table)
  found_arrays n (Plain (sort.Block r) ∷ table) = further n (Plain (sort.Block r)) table refl (λ k. refl) (found_arrays (suc n) table)
  found_arrays n (Plain (sort.Array a) ∷ table) = further n (Plain (sort.Array a)) table refl (λ k. refl) (found_arrays (suc n) table)
  found_arrays n (Pointer s to ∷ table) = further n (Pointer s to) table refl (λ k. refl) (found_arrays (suc n) table)
  found_arrays n (Number x ∷ table) = further n (Number x) table refl (λ k. refl) (found_arrays (suc n) table)
  found_arrays n (Truth true ∷ table) = further n (Truth true) table refl (λ k. refl) (found_arrays (suc n) table)
  found_arrays n (Truth false ∷ table) = further n (Truth false) table refl (λ k. refl) (found_arrays (suc n) table)
  found_arrays n (Input b ∷ table) = further n (Input b) table refl (λ k. refl) (found_arrays (suc n) table)
  found_arrays n (Buffer r ∷ table) = further n (Buffer r) table (buffer_not n r (rowed p r)) (λ k. refl) (found_arrays (suc n) table)

  -- what each declaration of a table has, by its place
  table_each : (P : Inst → Type 0) (n : ℕ) (table : List Global) → ((k : ℕ) (g : Global) → slice_get table k ≡ Some g → P (declaration p ids (n + k) g)) → Each P (declarations p ids n table)
  table_each P n [] h = tt
  table_each P n (g ∷ table) h =
      let same : n + 0 ≡ n = omega arith in
      (subst (λ id. P (declaration p ids id g)) same (h 0 g refl), table_each P (suc n) table (λ k x e. let place : n + suc k ≡ suc n + k = omega arith in subst (λ id. P (declaration p ids id x)) place (h (suc k) x e)))

-- ---- the module

module _ (p : Program) (list : List Region) (at : Bindings) (v : Version) (plan : Plan) (w : Wired p list) (serves : Serves p list plan) (fits : KeysFit p plan.table) (apart : AreApart p at) where
  owned : Owns (λ r. r < plan.regions) (root_of list)
  owned = subst (λ n. Owns (λ r. r < n) (root_of list)) (sym serves.regions) (root_owned p list w)

  -- ---- the variables of buffers

  abbrev IsBufferHere : Inst → Type 0
  IsBufferHere i =
      (k : ℕ) × (r : ℕ) × (slice_get plan.table k ≡ Some (Buffer r)) × (i ≡ declaration p (global_id plan) (table_from plan + k) (Buffer r))

  -- a variable of a buffer's storage class is that of a buffer of the table
  abbrev Told : Inst → Type 0
  Told i =
      (type id class : ℕ) (rest : List ℕ) → i ≡ inst 59 (type ∷ id ∷ class ∷ rest) → (class ≡ 12) ⊎ (class ≡ 2) → IsBufferHere i

  other_opcode : (i : Inst) → nat_eq i.opcode 59 ≡ false → Told i
  other_opcode i other type id class rest e which =
      let clash : true ≡ false = sym (ap (λ x. nat_eq x.opcode 59) e) ∙ other in
      absurd (cc clash)

  other_class : (i : Inst) (class : ℕ) → slice_get i.operands 2 ≡ Some class → nat_eq class 12 ≡ false → nat_eq class 2 ≡ false → Told i
  other_class i own is no_words no_rows type id class rest e which =
      let same : own ≡ class = inj (sym is ∙ ap (λ x. slice_get x.operands 2) e) in
      absurd (⊎_elim (λ f. let clash : true ≡ false = ap (λ n. nat_eq n 12) (sym (same ∙ f)) ∙ no_words in cc clash) (λ f. let clash : true ≡ false = ap (λ n. nat_eq n 2) (sym (same ∙ f)) ∙ no_rows in cc clash) which)

  words_told : (n r : ℕ) (b : Bool) → Told (words_declaration p (global_id plan) n b r)
  words_told n r true = other_opcode _ refl
  words_told n r false = other_opcode _ refl

  key_told : (k : ℕ) (g : Global) → slice_get plan.table k ≡ Some g → Told (declaration p (global_id plan) (table_from plan + k) g)
  key_told k (Plain sort.Int) e = other_opcode _ refl
  key_told k (Plain sort.Bool) e = other_opcode _ refl
  key_told k (Plain sort.Triple) e = other_opcode _ refl
  key_told k (Plain sort.Row) e = other_opcode _ refl
  key_told k (Plain (sort.Words r)) e = words_told (table_from plan + k) r (rowed p r)
  key_told k (Plain (sort.Block r)) e = other_opcode _ refl
  key_told k (Plain (sort.Array a)) e = other_opcode _ refl
  key_told k (Pointer s to) e = other_opcode _ refl
  key_told k (Number n) e = other_opcode _ refl
  key_told k (Truth true) e = other_opcode _ refl
  key_told k (Truth false) e = other_opcode _ refl
  key_told k (Input b) e = other_class _ 1 refl refl refl
  key_told k (Shared a) e = other_class _ 4 refl refl refl
  key_told k (Buffer r) e = λ type id class rest is which. (k, r, e, refl)

  locals_told : (n : ℕ) (slots : List Slot) → Each Told (slot_variables (global_id plan) n slots)
  locals_told n [] = tt
  locals_told n (s ∷ slots) = (other_class _ 7 refl refl refl, locals_told (suc n) slots)

  all_told : Each Told (spread p list at v plan)
  all_told =
      each_append Told (head p v plan) (from_names p list at v plan) (other_opcode _ refl, (other_opcode _ refl, (other_opcode _ refl, (other_opcode _ refl, tt)))) (each_append Told (names 0 list) (decs p list at v plan ++ from_types p list at v plan) (names_each p list at v plan 0 list Told (λ operands. other_opcode _ refl)) (each_append Told (decs p list at v plan) (from_types p list at v plan) decs_told (other_opcode _ refl, (other_opcode _ refl, each_append Told (decls p list at v plan) (from_function p list at v plan) (table_each p (global_id plan) Told (table_from plan) plan.table key_told) (other_opcode _ refl, (other_opcode _ refl, each_append Told (variables p list at v plan) (ending p list at v plan) (locals_told (slots_from plan) plan.slots) (each_append Told (body p list at v plan) closing body_told (other_opcode _ refl, (other_opcode _ refl, tt)))))))))
    where
      decs_told : Each Told (decs p list at v plan)
      decs_told =
          each_weaker (λ i. is_decoration i.opcode ≡ true) Told (λ i t. other_opcode i (apart_by is_decoration i.opcode 59 t refl)) (decs p list at v plan) (decorations_each p at (table_from plan) plan.table)

      body_told : Each Told (body p list at v plan)
      body_told =
          each_weaker (λ i. is_inner i.opcode ≡ true) Told (λ i t. other_opcode i (apart_by is_inner i.opcode 59 t refl)) (body p list at v plan) (body_each p list at v plan owned)

  buffers : (type id class : ℕ) (rest : List ℕ) → Stands (made p list at v plan serves owned) (inst 59 (type ∷ id ∷ class ∷ rest)) → (class ≡ 12) ⊎ (class ≡ 2) → (rest ≡ []) × ((r : ℕ) × IsBufferOf p at (made p list at v plan serves owned) r type id class)
  buffers type id class rest there which =
      let here = each_at Told (made p list at v plan serves owned).insts there.0 (inst 59 (type ∷ id ∷ class ∷ rest)) (subst (Each Told) (sym (is_spread p list at v plan)) all_told) there.1 type id class rest refl which in
      let k : ℕ = here.0 in
      let r : ℕ = here.1 in
      let is = buffer_at p list at v plan serves owned fits apart k r here.2 in
      let type_is : type ≡ global_id plan (Pointer (buffer_storage (rowed p r)) (sort.Block r)) = ap (λ i. get_or i.operands 0 0) here.3 in
      let id_is : id ≡ table_from plan + k = ap (λ i. get_or i.operands 1 0) here.3 in
      let class_is : class ≡ storage_class (buffer_storage (rowed p r)) = ap (λ i. get_or i.operands 2 0) here.3 in
      let typed = subst (λ t. IsBufferOf p at (made p list at v plan serves owned) r t (table_from plan + k) (storage_class (buffer_storage (rowed p r)))) (sym type_is) is in
      let named = subst (λ n. IsBufferOf p at (made p list at v plan serves owned) r type n (storage_class (buffer_storage (rowed p r)))) (sym id_is) typed in
      (ap (λ i. drop 3 i.operands) here.3, (r, subst (λ n. IsBufferOf p at (made p list at v plan serves owned) r type id n) (sym class_is) named))

  -- ---- groupshared arrays

  shared_are : gather (of_class 4) (made p list at v plan serves owned).insts ≡ gather (of_class 4) (decls p list at v plan)
  shared_are =
      gather_spread p list at v plan (of_class 4) [] [] (gather (of_class 4) (decls p list at v plan)) [] [] no_names no_decs refl (locals_not (global_id plan) (slots_from plan) plan.slots) no_body ∙ append-nil (gather (of_class 4) (decls p list at v plan))
    where
      no_names : gather (of_class 4) (names 0 list) ≡ []
      no_names = gather_none (of_class 4) (names 0 list) (names_each p list at v plan 0 list (λ i. of_class 4 i ≡ []) (λ operands. refl))

      no_decs : gather (of_class 4) (decs p list at v plan) ≡ []
      no_decs =
          gather_none (of_class 4) (decs p list at v plan) (each_weaker (λ i. is_decoration i.opcode ≡ true) (λ i. of_class 4 i ≡ []) (λ i t. not_of 4 i (apart_by is_decoration i.opcode 59 t refl)) (decs p list at v plan) (decorations_each p at (table_from plan) plan.table))

      no_body : gather (of_class 4) (body p list at v plan) ≡ []
      no_body =
          gather_none (of_class 4) (body p list at v plan) (each_weaker (λ i. is_inner i.opcode ≡ true) (λ i. of_class 4 i ≡ []) (λ i t. not_of 4 i (apart_by is_inner i.opcode 59 t refl)) (body p list at v plan) (body_each p list at v plan owned))

  shared : (k : ℕ) (operands : List ℕ) → slice_get (gather (of_class 4) (made p list at v plan serves owned).insts) k ≡ Some operands → (type : ℕ) × (id : ℕ) × (operands ≡ type ∷ id ∷ 4 ∷ []) × (k < length p.shared) × OverShared (made p list at v plan serves owned) type (slice_index p.shared k)
  shared k operands e =
      let found = found_arrays p (global_id plan) (table_from plan) plan.table k operands (ap (λ xs. slice_get xs k) (sym shared_are) ∙ e) in
      let a : ℕ = found.array in
      let type : ℕ = global_id plan (Pointer storage.Workgroup (sort.Array a)) in
      let same : a ≡ k = sym (serves.arrays found.k a found.here) ∙ found.count in
      let below : a < length p.shared = fit_at p plan.table found.k (Shared a) fits found.here in
      let over = over_shared p list at v plan serves owned a (has_at plan.table found.k (Shared a) (eq_same a) found.here) in
      (type, table_from plan + found.k, found.is, subst (λ n. n < length p.shared) same below, subst (λ n. OverShared (made p list at v plan serves owned) type (slice_index p.shared n)) same over)

pub modules_have_buffers : ModulesHaveBuffers
modules_have_buffers p list at v plan sound w serves table apart =
    let fits = subst (KeysFit p) (sym table) (table_fits p sound list (wants p list) plan.slots) in
    record { buffers = buffers p list at v plan w serves fits apart; shared = shared p list at v plan w serves fits apart }
