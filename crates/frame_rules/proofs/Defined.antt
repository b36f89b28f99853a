-- What the ids of the types void and of the function, and those of the table, are defined as.
use Rattle.std.proofs.Common.{◌≡◌, ℕ, zero, suc, ◌+◌, Bool, true, false, List, [], ◌∷◌, ◌++◌, length, Some, refl, ap, ◌∙◌, arith}
use Rattle.std.specs.Prelude.{slice_get, option_and_then}
use Rattle.std.specs.Option.{option_map_or}
use Rattle.dxil_form.specs.declared.program.Program.{Program}
use Rattle.dxil_form.specs.declared.region.Region.{Region}
use Rattle.dxil_form.specs.Wired.{Wired}
use Rattle.spv_form.specs.declared.module.Inst.{Inst}
use Rattle.spv_form.specs.declared.module.Version.{Version}
use Rattle.spv_ids.specs.Roles.{result_of}
use Rattle.spv_ids.specs.Ids.{definition}
use Rattle.type_rules.specs.Types.{is_defined_as}
use Rattle.spirv_meaning.specs.Bindings.{Bindings}
use Rattle.spirv_code.specs.declared.key.Global.{Global}
use Rattle.spirv_code.specs.Keys.{index_of, has_key}
use Rattle.spirv_code.specs.Plans.{Plan, inst, table_from, global_id}
use Rattle.spirv_code.specs.Frame.{head, names, declaration, declarations, insts_of}
use Rattle.frame_facts.specs.Serves.{Serves}
use Rattle.frame_facts.proofs.Searches.{inj, get_past, get_front}
use Rattle.frame_facts.proofs.Tables.{key_stands}
use Rattle.frame_facts.proofs.Spread.{decs, decls, from_function, from_types, is_spread}
use Rattle.ruled_ids.proofs.Declared.{declaration_is, void_is, function_type_is}
use Rattle.ruled_ids.proofs.Whole.{define_once}

declaration_at : (p : Program) (ids : Global → ℕ) (n : ℕ) (table : List Global) (k : ℕ) (g : Global) → slice_get table k ≡ Some g → slice_get (declarations p ids n table) k ≡ Some (declaration p ids (n + k) g)
declaration_at p ids n [] k g e = absurd (cc)
declaration_at p ids n (x ∷ table) zero g e =
    let same : n ≡ n + 0 = omega arith in
    ap (λ y. Some (declaration p ids n y)) (inj e) ∙ ap (λ id. Some (declaration p ids id g)) same
declaration_at p ids n (x ∷ table) (suc k) g e =
    let same : suc n + k ≡ n + suc k = omega arith in
    declaration_at p ids (suc n) table k g e ∙ ap (λ id. Some (declaration p ids id g)) same

-- an id that is defined as an instruction that passes the test
pub defined_as : (insts : List Inst) (id : ℕ) (x : Inst) (test : Inst → Bool) → definition insts id ≡ Some x → test x ≡ true → is_defined_as insts id test ≡ true
defined_as insts id x test is passes = ap (λ o. option_map_or test o false) is ∙ passes

module _ (p : Program) (list : List Region) (at : Bindings) (v : Version) (plan : Plan) (w : Wired p list) (serves : Serves p list plan) where
  abbrev pub insts : List Inst
  insts = insts_of p list at v plan

  defined : (j id : ℕ) (x : Inst) → slice_get insts j ≡ Some x → result_of x ≡ Some id → definition insts id ≡ Some x
  unfolding definition
  defined j id x there is =
      ap (λ o. option_and_then (slice_get insts) o) ((define_once p list at v plan w serves.regions).definer_is j id x there is) ∙ there

  -- where the types begin
  abbrev before : List Inst
  before = head p v plan ++ (names 0 list ++ decs p list at v plan)

  type_at : (k : ℕ) (x : Inst) → slice_get (from_types p list at v plan) k ≡ Some x → slice_get insts (length (head p v plan) + (length (names 0 list) + (length (decs p list at v plan) + k))) ≡ Some x
  type_at k x e =
      let types = from_types p list at v plan in
      let behind = decs p list at v plan ++ types in
      ap (λ xs. slice_get xs (length (head p v plan) + (length (names 0 list) + (length (decs p list at v plan) + k)))) (is_spread p list at v plan) ∙ get_past (head p v plan) (names 0 list ++ behind) (length (names 0 list) + (length (decs p list at v plan) + k)) ∙ get_past (names 0 list) behind (length (decs p list at v plan) + k) ∙ get_past (decs p list at v plan) types k ∙ e

  pub void_defined : definition insts 2 ≡ Some (inst 19 (2 ∷ []))
  void_defined = defined _ 2 (inst 19 (2 ∷ [])) (type_at 0 (inst 19 (2 ∷ [])) refl) void_is

  pub function_defined : definition insts 3 ≡ Some (inst 33 (3 ∷ 2 ∷ []))
  function_defined = defined _ 3 (inst 33 (3 ∷ 2 ∷ [])) (type_at 1 (inst 33 (3 ∷ 2 ∷ [])) refl) function_type_is

  -- the key at a place of the table
  pub place_defined : (k : ℕ) (g : Global) → slice_get plan.table k ≡ Some g → definition insts (table_from plan + k) ≡ Some (declaration p (global_id plan) (table_from plan + k) g)
  place_defined k g e =
      let x : Inst = declaration p (global_id plan) (table_from plan + k) g in
      let own = declaration_at p (global_id plan) (table_from plan) plan.table k g e in
      let there = get_front (decls p list at v plan) (from_function p list at v plan) k x own in
      defined _ (table_from plan + k) x (type_at (suc (suc k)) x there) (declaration_is p (global_id plan) (table_from plan + k) g)

  pub key_defined : (g : Global) → has_key plan.table g ≡ true → definition insts (global_id plan g) ≡ Some (declaration p (global_id plan) (global_id plan g) g)
  key_defined g has = place_defined (index_of plan.table g) g (key_stands plan.table g has)
