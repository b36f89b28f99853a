-- What the decorations of a module say of its keys.
use Rattle.std.proofs.Common.{◌≡◌, ℕ, zero, suc, ◌+◌, ◌<◌, Bool, true, false, List, [], ◌∷◌, ◌++◌, Option, Some, None, refl, sym, ap, ◌∙◌, arith}
use Rattle.std.specs.Prelude.{slice_get, ◌==◌, ◌&&◌, option_and_then, if◌then◌else◌}
use Rattle.std.specs.Option.{option_map_or}
use Rattle.std.specs.List.{list_any}
use Rattle.dxil_form.specs.declared.program.Class.{Class}
use Rattle.dxil_form.specs.declared.program.Class.TheVariants.{Srv, Uav, Cbv}
use Rattle.dxil_form.specs.declared.program.Resource.{Resource}
use Rattle.dxil_form.specs.declared.program.Program.{Program}
use Rattle.dxil_form.specs.declared.region.Region.{Region}
use Rattle.dxil_form.specs.Wired.{Wired}
use Rattle.spv_form.specs.declared.module.Inst.{Inst}
use Rattle.spv_form.specs.declared.module.Version.{Version}
use Rattle.spv_ids.specs.Roles.{operand}
use Rattle.type_rules.specs.Types.{is_defined_as}
use Rattle.type_rules.specs.Values.{pointer_type}
use Rattle.decoration_rules.specs.Decorations.{is_decoration, is_numbered, is_stride, is_built_in, is_first_offset, number_of, marks_of}
use Rattle.decoration_rules.specs.Variables.{is_buffer, both, seat_of, is_block_of_array}
use Rattle.spirv_meaning.specs.Bindings.{Bindings}
use Rattle.spirv_code.specs.declared.key.BuiltIn.{BuiltIn}
use Rattle.spirv_code.specs.declared.key.BuiltIn.TheVariants as builtin
use Rattle.spirv_code.specs.declared.key.Sort.TheVariants as sort
use Rattle.spirv_code.specs.declared.key.Global.{Global}
use Rattle.spirv_code.specs.declared.key.Global.TheVariants.{Plain, Pointer, Input, Buffer}
use Rattle.spirv_code.specs.Keys.{storage_class, built_in_number, has_key}
use Rattle.spirv_code.specs.Plans.{Plan, inst, table_from, global_id}
use Rattle.spirv_code.specs.Trees.{root_of}
use Rattle.spirv_code.specs.Frame.{rowed, buffer_storage, stride_of, set_of, binding_of, read_only_of, decorations_of, declaration, insts_of}
use Rattle.frame_facts.specs.Serves.{Serves}
use Rattle.frame_facts.specs.Inner.{Owns}
use Rattle.frame_facts.proofs.Searches.{inj, eq_same}
use Rattle.module_form.specs.Form.{gather}
use Rattle.buffer_form.specs.Buffers.{decorates, decorations_on, non_writable}
use Rattle.buffer_form.proofs.Standing.{m, decorates_own, read_only_decorates, decoration_stands, decorated_at}
use Rattle.frame_rules.proofs.Defined.{defined_as, key_defined}
use Rattle.frame_marks.proofs.Finding.{any_passes, found_number, gathered, numbered}

-- ---- an id's own decorations

own_number : (id kind s : ℕ) → is_numbered id kind (inst 71 (id ∷ kind ∷ s ∷ [])) ≡ true
unfolding is_numbered is_decoration
own_number id kind s =
    ap (λ b. (b && (kind == kind)) && true) (eq_same id) ∙ ap (λ b. b && true) (eq_same kind)

own_block : (id : ℕ) → is_decoration id 2 (inst 71 (id ∷ 2 ∷ [])) ≡ true
unfolding is_decoration
own_block id = ap (λ b. b && true) (eq_same id)

own_offset : (id : ℕ) → is_first_offset id (inst 72 (id ∷ 0 ∷ 35 ∷ 0 ∷ [])) ≡ true
unfolding is_first_offset
own_offset id = ap (λ b. b && true) (eq_same id)

own_stride : (id : ℕ) (b : Bool) → is_stride id (inst 71 (id ∷ 6 ∷ stride_of b ∷ [])) ≡ true
unfolding is_stride
own_stride id true = ap (λ b. b && true) (own_number id 6 16)
own_stride id false = ap (λ b. b && true) (own_number id 6 4)

own_built_in : (id : ℕ) (b : BuiltIn) → is_built_in id (inst 71 (id ∷ 11 ∷ built_in_number b ∷ [])) ≡ true
unfolding is_built_in
own_built_in id builtin.WorkgroupId = ap (λ b. b && true) (own_number id 11 26)
own_built_in id builtin.LocalInvocationId = ap (λ b. b && true) (own_number id 11 27)
own_built_in id builtin.GlobalInvocationId = ap (λ b. b && true) (own_number id 11 28)
own_built_in id builtin.LocalInvocationIndex = ap (λ b. b && true) (own_number id 11 29)

-- ---- lists of words

heads : (a b : ℕ) (xs ys : List ℕ) → (a ∷ xs) ≡ (b ∷ ys) → a ≡ b
heads a b xs ys e = cc

seconds : (a b c d : ℕ) (xs ys : List ℕ) → (a ∷ c ∷ xs) ≡ (b ∷ d ∷ ys) → c ≡ d
seconds a b c d xs ys e = cc

one_alone : (a b c : ℕ) (xs : List ℕ) → (a ∷ []) ≡ (b ∷ c ∷ xs) → ⊥
one_alone a b c xs e = cc

all_marks : (class : Class) (k : ℕ) (d : List ℕ) → slice_get (non_writable class) k ≡ Some d → d ≡ 24 ∷ []
all_marks Srv zero d e = sym (inj e)
all_marks Srv (suc k) d e = absurd (cc)
all_marks Uav k d e = absurd (cc)
all_marks Cbv k d e = absurd (cc)

-- ---- the module

module _ (p : Program) (list : List Region) (at : Bindings) (v : Version) (plan : Plan) (w : Wired p list) (serves : Serves p list plan) where
  abbrev pub all : List Inst
  all = insts_of p list at v plan

  abbrev ids : Global → ℕ
  ids = global_id plan

  abbrev Has : Global → Type 0
  Has g = has_key plan.table g ≡ true

  -- a decoration of a key stands in the module, so a test that it passes is passed
  stands_any : (g : Global) (i : ℕ → Inst) (test : Inst → Bool) → Has g → ((id : ℕ) → (j : ℕ) × (slice_get (decorations_of p at id g) j ≡ Some (i id))) → test (i (ids g)) ≡ true → list_any test all ≡ true
  stands_any g i test has there passes =
      let s = decoration_stands p list at v plan g i has there in any_passes test all s.0 (i (ids g)) s.1 passes

  -- ---- inputs

  pub input_marked : (b : BuiltIn) → Has (Input b) → (marks_of all (ids (Input b))).built_in ≡ true
  unfolding marks_of
  input_marked b has =
      stands_any (Input b) (λ id. inst 71 (id ∷ 11 ∷ built_in_number b ∷ [])) (is_built_in (ids (Input b))) has (λ id. (0, refl)) (own_built_in (ids (Input b)) b)

  -- ---- the Block of a buffer

  block_passes : (r : ℕ) → Has (Plain (sort.Block r)) → Has (Plain (sort.Words r)) → ((marks_of all (ids (Plain (sort.Block r)))).block && ((marks_of all (ids (Plain (sort.Block r)))).first_offset && (marks_of all (ids (Plain (sort.Words r)))).stride)) ≡ true
  unfolding marks_of
  block_passes r has words =
      let block : ℕ = ids (Plain (sort.Block r)) in
      let array : ℕ = ids (Plain (sort.Words r)) in
      let one = stands_any (Plain (sort.Block r)) (λ id. inst 71 (id ∷ 2 ∷ [])) (is_decoration block 2) has (λ id. (0, refl)) (own_block block) in
      let two = stands_any (Plain (sort.Block r)) (λ id. inst 72 (id ∷ 0 ∷ 35 ∷ 0 ∷ [])) (is_first_offset block) has (λ id. (1, refl)) (own_offset block) in
      let three = stands_any (Plain (sort.Words r)) (λ id. inst 71 (id ∷ 6 ∷ stride_of (rowed p r) ∷ [])) (is_stride array) words (λ id. (0, refl)) (own_stride array (rowed p r)) in
      ap (λ b. b && (list_any (is_first_offset block) all && list_any (is_stride array) all)) one ∙ ap (λ b. b && list_any (is_stride array) all) two ∙ three

  pub block_is : (r : ℕ) → Has (Buffer r) → is_block_of_array all (ids (Pointer (buffer_storage (rowed p r)) (sort.Block r))) ≡ true
  unfolding is_block_of_array pointer_type
  block_is r has =
      let pointer : Global = Pointer (buffer_storage (rowed p r)) (sort.Block r) in
      let block : Global = Plain (sort.Block r) in
      let pointed : Has pointer = (serves.closed (Buffer r) has).0 in
      let blocked : Has block = (serves.closed pointer pointed).0 in
      let words : Has (Plain (sort.Words r)) = (serves.closed block blocked).0 in
      ap (λ o. option_map_or (λ q. is_defined_as all (operand q 2) (λ s. s.opcode == 30 && ((marks_of all (operand q 2)).block && ((marks_of all (operand q 2)).first_offset && (marks_of all (operand s 1)).stride)))) (option_and_then (λ x. if x.opcode == 32 then Some x else None) o) false) (key_defined p list at v plan w serves pointer pointed) ∙ defined_as all (ids block) (declaration p ids (ids block) block) (λ s. s.opcode == 30 && ((marks_of all (ids block)).block && ((marks_of all (ids block)).first_offset && (marks_of all (operand s 1)).stride))) (key_defined p list at v plan w serves block blocked) (block_passes r blocked words)

  -- ---- the set and the binding of a buffer

  module _ (owned : Owns (λ r. r < plan.regions) (root_of list)) (k r : ℕ) (stands : slice_get plan.table k ≡ Some (Buffer r)) (has : Has (Buffer r)) (own_id : ids (Buffer r) ≡ table_from plan + k) where
    abbrev id : ℕ
    id = table_from plan + k

    abbrev set : ℕ
    set = set_of (slice_get at r)

    abbrev binding : ℕ
    binding = binding_of (slice_get at r)

    abbrev rest : List (List ℕ)
    rest = gather (decorates id) (read_only_of id (slice_get p.resources r))

    decorations_are : decorations_on (m p list at v plan) id ≡ (34 ∷ set ∷ []) ∷ (33 ∷ binding ∷ []) ∷ rest
    decorations_are =
        decorated_at p list at v plan owned k (Buffer r) stands ∙ ap (λ xs. xs ++ (decorates id (inst 71 (id ∷ 33 ∷ binding ∷ [])) ++ rest)) (decorates_own id (34 ∷ set ∷ [])) ∙ ap (λ xs. (34 ∷ set ∷ []) ∷ (xs ++ rest)) (decorates_own id (33 ∷ binding ∷ []))

    rest_marks : (i : ℕ) (d : List ℕ) → slice_get rest i ≡ Some d → d ≡ 24 ∷ []
    rest_marks i d e = by_resource (slice_get p.resources r) e
      where
        by_resource : (o : Option Resource) → slice_get (gather (decorates id) (read_only_of id o)) i ≡ Some d → d ≡ 24 ∷ []
        by_resource None f = absurd (cc)
        by_resource (Some resource) f = all_marks resource.class i d (ap (λ xs. slice_get xs i) (sym (read_only_decorates id resource.class)) ∙ f)

    set_told : (i number : ℕ) (more : List ℕ) → slice_get ((34 ∷ set ∷ []) ∷ (33 ∷ binding ∷ []) ∷ rest) i ≡ Some (34 ∷ number ∷ more) → number ≡ set
    set_told zero number more e = sym (seconds _ _ _ _ _ _ (inj e))
    set_told (suc zero) number more e = absurd (let clash : 33 ≡ 34 = heads _ _ _ _ (inj e) in omega (arith, clash))
    set_told (suc (suc i)) number more e = absurd (one_alone _ _ _ _ (sym (rest_marks i _ e)))

    binding_told : (i number : ℕ) (more : List ℕ) → slice_get ((34 ∷ set ∷ []) ∷ (33 ∷ binding ∷ []) ∷ rest) i ≡ Some (33 ∷ number ∷ more) → number ≡ binding
    binding_told zero number more e = absurd (let clash : 34 ≡ 33 = heads _ _ _ _ (inj e) in omega (arith, clash))
    binding_told (suc zero) number more e = sym (seconds _ _ _ _ _ _ (inj e))
    binding_told (suc (suc i)) number more e = absurd (one_alone _ _ _ _ (sym (rest_marks i _ e)))

    -- a decoration with a number is one of these
    among : (kind j : ℕ) (y : Inst) → slice_get all j ≡ Some y → is_numbered id kind y ≡ true → (i : ℕ) × (more : List ℕ) × (slice_get ((34 ∷ set ∷ []) ∷ (33 ∷ binding ∷ []) ∷ rest) i ≡ Some (kind ∷ operand y 2 ∷ more))
    among kind j y e t =
        let n = numbered id kind y t in
        let (i, f) = gathered (decorates id) all j y (kind ∷ n.number ∷ n.more) e n.is in
        (i, n.more, ap (λ xs. slice_get xs i) (sym decorations_are) ∙ f ∙ ap (λ c. Some (kind ∷ c ∷ n.more)) (sym n.number_is))

    set_is : number_of all id 34 ≡ Some set
    unfolding number_of
    set_is =
        let s = decoration_stands p list at v plan (Buffer r) (λ id. inst 71 (id ∷ 34 ∷ set ∷ [])) has (λ id. (0, refl)) in
        found_number (is_numbered id 34) all set (λ j y e t. let (i, more, f) = among 34 j y e t in set_told i (operand y 2) more f) s.0 (inst 71 (id ∷ 34 ∷ set ∷ [])) (s.1 ∙ ap (λ n. Some (inst 71 (n ∷ 34 ∷ set ∷ []))) own_id) (own_number id 34 set)

    binding_is : number_of all id 33 ≡ Some binding
    unfolding number_of
    binding_is =
        let s = decoration_stands p list at v plan (Buffer r) (λ id. inst 71 (id ∷ 33 ∷ binding ∷ [])) has (λ id. (1, refl)) in
        found_number (is_numbered id 33) all binding (λ j y e t. let (i, more, f) = among 33 j y e t in binding_told i (operand y 2) more f) s.0 (inst 71 (id ∷ 33 ∷ binding ∷ [])) (s.1 ∙ ap (λ n. Some (inst 71 (n ∷ 33 ∷ binding ∷ []))) own_id) (own_number id 33 binding)

    pub seat_is : seat_of all (declaration p ids id (Buffer r)) ≡ Some (set, binding)
    unfolding seat_of is_buffer marks_of
    seat_is = by_rows (rowed p r)
      where
        by_rows : (b : Bool) → seat_of all (inst 59 (ids (Pointer (buffer_storage b) (sort.Block r)) ∷ id ∷ storage_class (buffer_storage b) ∷ [])) ≡ Some (set, binding)
        by_rows true = ap (λ o. both o (number_of all id 33)) set_is ∙ ap (both (Some set)) binding_is
        by_rows false = ap (λ o. both o (number_of all id 33)) set_is ∙ ap (both (Some set)) binding_is
