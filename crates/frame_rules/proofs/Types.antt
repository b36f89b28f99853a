-- The types of a table are listed ones.
use Rattle.std.proofs.Common.{◌≡◌, ℕ, Bool, true, false, List, [], ◌∷◌, Some, refl, ap, ◌∙◌}
use Rattle.std.specs.Prelude.{slice_get, ◌==◌, ◌&&◌, ◌||◌}
use Rattle.dxil_form.specs.declared.program.Program.{Program}
use Rattle.dxil_form.specs.declared.region.Region.{Region}
use Rattle.dxil_form.specs.Wired.{Wired}
use Rattle.spv_form.specs.declared.module.Inst.{Inst}
use Rattle.spv_form.specs.declared.module.Version.{Version}
use Rattle.spv_ids.specs.Ids.{definition}
use Rattle.type_rules.specs.Types.{is_void, is_int, is_vector, is_element, is_array, is_type, is_listed}
use Rattle.spirv_meaning.specs.Bindings.{Bindings}
use Rattle.spirv_code.specs.declared.key.Sort.{Sort}
use Rattle.spirv_code.specs.declared.key.Sort.TheVariants as sort
use Rattle.spirv_code.specs.declared.key.Global.{Global}
use Rattle.spirv_code.specs.declared.key.Global.TheVariants.{Plain, Pointer, Number, Truth, Input, Buffer, Shared}
use Rattle.spirv_code.specs.Keys.{has_key}
use Rattle.spirv_code.specs.Plans.{Plan, inst, global_id}
use Rattle.spirv_code.specs.Frame.{rowed, words_needs, words_declaration, declaration}
use Rattle.frame_facts.specs.Serves.{Serves, AreKeys}
use Rattle.frame_facts.proofs.Tabled.{global_self}
use Rattle.buffer_form.proofs.Standing.{has_at}
use Rattle.frame_rules.proofs.Defined.{defined_as, insts, void_defined, key_defined}

or_second : (a b : Bool) → b ≡ true → (a || b) ≡ true
or_second true b e = refl
or_second false b e = e

module _ (p : Program) (list : List Region) (at : Bindings) (v : Version) (plan : Plan) (w : Wired p list) (serves : Serves p list plan) where
  abbrev all : List Inst
  all = insts p list at v plan w serves

  abbrev ids : Global → ℕ
  ids = global_id plan

  abbrev Has : Global → Type 0
  Has g = has_key plan.table g ≡ true

  defined : (g : Global) → Has g → definition all (ids g) ≡ Some (declaration p ids (ids g) g)
  defined g has = key_defined p list at v plan w serves g has

  pub void_is : is_void all 2 ≡ true
  unfolding is_void
  void_is = defined_as all 2 (inst 19 (2 ∷ [])) (λ x. x.opcode == 19) (void_defined p list at v plan w serves) refl

  int_is : Has (Plain sort.Int) → is_int all (ids (Plain sort.Int)) ≡ true
  unfolding is_int
  int_is has = defined_as all (ids (Plain sort.Int)) _ _ (defined (Plain sort.Int) has) refl

  row_is : Has (Plain sort.Row) → Has (Plain sort.Int) → is_vector all 4 (ids (Plain sort.Row)) ≡ true
  unfolding is_vector
  row_is has int = defined_as all (ids (Plain sort.Row)) _ _ (defined (Plain sort.Row) has) (int_is int)

  int_element : Has (Plain sort.Int) → is_element all (ids (Plain sort.Int)) ≡ true
  unfolding is_element
  int_element has = ap (λ b. b || is_vector all 4 (ids (Plain sort.Int))) (int_is has)

  row_element : Has (Plain sort.Row) → Has (Plain sort.Int) → is_element all (ids (Plain sort.Row)) ≡ true
  unfolding is_element
  row_element has int = or_second (is_int all (ids (Plain sort.Row))) (is_vector all 4 (ids (Plain sort.Row))) (row_is has int)

  -- ---- the words of a buffer

  words_listed : (b : Bool) (r id : ℕ) → AreKeys plan.table (words_needs p b r) → is_listed all (words_declaration p ids id b r) ≡ true
  unfolding is_listed
  words_listed true r id keys = row_element keys.0 (serves.closed (Plain sort.Row) keys.0).0
  words_listed false r id keys = int_element keys.0

  words_array : (r : ℕ) → Has (Plain (sort.Words r)) → is_array all (ids (Plain (sort.Words r))) ≡ true
  unfolding is_array
  words_array r has = by_rows (rowed p r) (defined (Plain (sort.Words r)) has) (serves.closed (Plain (sort.Words r)) has)
    where
      by_rows : (b : Bool) → definition all (ids (Plain (sort.Words r))) ≡ Some (words_declaration p ids (ids (Plain (sort.Words r))) b r) → AreKeys plan.table (words_needs p b r) → is_array all (ids (Plain (sort.Words r))) ≡ true
      by_rows true is keys = defined_as all (ids (Plain (sort.Words r))) _ _ is (row_element keys.0 (serves.closed (Plain sort.Row) keys.0).0)
      by_rows false is keys = defined_as all (ids (Plain (sort.Words r))) _ _ is (int_element keys.0)

  words_type : (r : ℕ) → Has (Plain (sort.Words r)) → is_type all (ids (Plain (sort.Words r))) ≡ true
  unfolding is_type
  words_type r has = by_rows (rowed p r) (defined (Plain (sort.Words r)) has)
    where
      by_rows : (b : Bool) → definition all (ids (Plain (sort.Words r))) ≡ Some (words_declaration p ids (ids (Plain (sort.Words r))) b r) → is_type all (ids (Plain (sort.Words r))) ≡ true
      by_rows true is = defined_as all (ids (Plain (sort.Words r))) _ _ is refl
      by_rows false is = defined_as all (ids (Plain (sort.Words r))) _ _ is refl

  -- ---- what a pointer is to

  sort_type : (s : Sort) → Has (Plain s) → is_type all (ids (Plain s)) ≡ true
  unfolding is_type
  sort_type sort.Int has = defined_as all (ids (Plain sort.Int)) _ _ (defined (Plain sort.Int) has) refl
  sort_type sort.Bool has = defined_as all (ids (Plain sort.Bool)) _ _ (defined (Plain sort.Bool) has) refl
  sort_type sort.Triple has = defined_as all (ids (Plain sort.Triple)) _ _ (defined (Plain sort.Triple) has) refl
  sort_type sort.Row has = defined_as all (ids (Plain sort.Row)) _ _ (defined (Plain sort.Row) has) refl
  sort_type (sort.Words r) has = words_type r has
  sort_type (sort.Block r) has = defined_as all (ids (Plain (sort.Block r))) _ _ (defined (Plain (sort.Block r)) has) refl
  sort_type (sort.Array a) has = defined_as all (ids (Plain (sort.Array a))) _ _ (defined (Plain (sort.Array a)) has) refl

  -- ---- each key

  vector_listed : (id n : ℕ) → (n == 3 || n == 4) ≡ true → Has (Plain sort.Int) → is_listed all (inst 23 (id ∷ ids (Plain sort.Int) ∷ n ∷ [])) ≡ true
  unfolding is_listed
  vector_listed id n few int = ap (λ b. b && (n == 3 || n == 4)) (int_is int) ∙ few

  listed_key : (id : ℕ) (g : Global) → Has g → is_listed all (declaration p ids id g) ≡ true
  unfolding is_listed
  listed_key id (Plain sort.Int) has = refl
  listed_key id (Plain sort.Bool) has = refl
  listed_key id (Plain sort.Triple) has = vector_listed id 3 refl (serves.closed (Plain sort.Triple) has).0
  listed_key id (Plain sort.Row) has = vector_listed id 4 refl (serves.closed (Plain sort.Row) has).0
  listed_key id (Plain (sort.Words r)) has = words_listed (rowed p r) r id (serves.closed (Plain (sort.Words r)) has)
  listed_key id (Plain (sort.Block r)) has = words_array r (serves.closed (Plain (sort.Block r)) has).0
  listed_key id (Plain (sort.Array a)) has = int_element (serves.closed (Plain (sort.Array a)) has).0
  listed_key id (Pointer s to) has = sort_type to (serves.closed (Pointer s to) has).0
  listed_key id (Number n) has = refl
  listed_key id (Truth true) has = refl
  listed_key id (Truth false) has = refl
  listed_key id (Input b) has = refl
  listed_key id (Buffer r) has = refl
  listed_key id (Shared a) has = refl

  -- at each place of the table
  pub listed_at : (k id : ℕ) (g : Global) → slice_get plan.table k ≡ Some g → is_listed all (declaration p ids id g) ≡ true
  listed_at k id g e = listed_key id g (has_at plan.table k g (global_self g) e)

  pub function_listed : is_listed all (inst 33 (3 ∷ 2 ∷ [])) ≡ true
  unfolding is_listed
  function_listed = void_is
