-- The types and the decorations of buffers and of groupshared arrays, where a table has them.
use Rattle.std.proofs.Common.{◌≡◌, ℕ, zero, suc, ◌+◌, ◌<◌, Bool, true, false, List, [], ◌∷◌, ◌++◌, length, Some, refl, ap, ◌∙◌, subst, arith}
use Rattle.std.specs.Prelude.{slice_get, slice_index}
use Rattle.dxil_form.specs.declared.program.Kind.{Kind}
use Rattle.dxil_form.specs.declared.program.Kind.TheVariants as kind
use Rattle.dxil_form.specs.declared.program.Resource.{Resource}
use Rattle.dxil_form.specs.declared.program.Program.{Program}
use Rattle.dxil_form.specs.declared.region.Region.{Region}
use Rattle.spv_form.specs.declared.module.Module.{Module}
use Rattle.spv_form.specs.declared.module.Version.{Version}
use Rattle.spirv_meaning.specs.Bindings.{Bindings, AreApart}
use Rattle.spirv_code.specs.declared.key.Sort.TheVariants as sort
use Rattle.spirv_code.specs.declared.key.Storage.TheVariants as storage
use Rattle.spirv_code.specs.declared.key.Global.{Global}
use Rattle.spirv_code.specs.declared.key.Global.TheVariants.{Plain, Pointer, Number, Buffer, Shared}
use Rattle.spirv_code.specs.Keys.{storage_class, index_of, has_key}
use Rattle.spirv_code.specs.Plans.{Plan, inst, rows_of, table_from, global_id}
use Rattle.spirv_code.specs.Trees.{root_of}
use Rattle.spirv_code.specs.Frame.{has_rows, rowed, buffer_storage, words_needs, declaration, words_declaration, stride_of, set_of, binding_of, read_only_of, decorations_of}
use Rattle.frame_facts.specs.Inner.{Owns}
use Rattle.frame_facts.specs.Serves.{Serves, AreKeys}
use Rattle.frame_facts.proofs.Searches.{eq_same, get_below}
use Rattle.frame_facts.proofs.Tables.{key_stands}
use Rattle.frame_facts.proofs.Declares.{get_some}
use Rattle.module_form.specs.Form.{gather}
use Rattle.buffer_form.specs.Buffers.{Stands, decorates, decorations_on, IsBlock, OverWords, OverRows, OverShared, IsOver, non_writable, IsBufferOf}
use Rattle.buffer_form.proofs.Fitting.{KeysFit, fit_at}
use Rattle.buffer_form.proofs.Standing.{m, declared_stands, decoration_stands, decorated_at, decorates_own, read_only_decorates, has_at}

module _ (p : Program) (list : List Region) (at : Bindings) (v : Version) (plan : Plan) (serves : Serves p list plan) (owned : Owns (λ r. r < plan.regions) (root_of list)) where
  abbrev pub made : Module
  made = m p list at v plan

  abbrev pub ids : Global → ℕ
  ids = global_id plan

  stands : (g : Global) → has_key plan.table g ≡ true → Stands made (declaration p ids (ids g) g)
  stands g h = declared_stands p list at v plan g h

  decorated : (g : Global) → has_key plan.table g ≡ true → decorations_on made (ids g) ≡ gather (decorates (ids g)) (decorations_of p at (ids g) g)
  decorated g h = decorated_at p list at v plan owned (index_of plan.table g) g (key_stands plan.table g h)

  -- ---- buffers

  abbrev pointer_of : ℕ → Global
  pointer_of r = Pointer (buffer_storage (rowed p r)) (sort.Block r)

  -- what a buffer's declaration names, one behind another
  record BufferKeys (r : ℕ) : Type 0 where
    pointer : has_key plan.table (pointer_of r) ≡ true
    block : has_key plan.table (Plain (sort.Block r)) ≡ true
    words : has_key plan.table (Plain (sort.Words r)) ≡ true
    element : AreKeys plan.table (words_needs p (rowed p r) r)

  keys_of : (r : ℕ) → has_key plan.table (Buffer r) ≡ true → BufferKeys r
  keys_of r h =
      let pointer = (serves.closed (Buffer r) h).0 in
      let block = (serves.closed (pointer_of r) pointer).0 in
      let words = (serves.closed (Plain (sort.Block r)) block).0 in
      record { pointer = pointer; block = block; words = words; element = serves.closed (Plain (sort.Words r)) words }

  block_of : (r : ℕ) → BufferKeys r → IsBlock made (ids (Plain (sort.Block r))) (ids (Plain (sort.Words r))) (stride_of (rowed p r))
  block_of r k =
      record {
        structure = stands (Plain (sort.Block r)) k.block;
        block_is = decorated (Plain (sort.Block r)) k.block ∙ ap (λ xs. xs ++ []) (decorates_own (ids (Plain (sort.Block r))) (2 ∷ []));
        offset = decoration_stands p list at v plan (Plain (sort.Block r)) (λ id. inst 72 (id ∷ 0 ∷ 35 ∷ 0 ∷ [])) k.block (λ id. (1, refl));
        stride_is = decorated (Plain (sort.Words r)) k.words ∙ ap (λ xs. xs ++ []) (decorates_own (ids (Plain (sort.Words r))) (6 ∷ stride_of (rowed p r) ∷ []));
      }

  over_words : (r : ℕ) → BufferKeys r → rowed p r ≡ false → OverWords made (ids (pointer_of r))
  over_words r k e =
      let block : ℕ = ids (Plain (sort.Block r)) in
      let array : ℕ = ids (Plain (sort.Words r)) in
      let type : ℕ = ids (pointer_of r) in
      let element = subst (λ b. AreKeys plan.table (words_needs p b r)) e k.element in
      record {
        block = block;
        array = array;
        int = ids (Plain sort.Int);
        pointer = subst (λ b. Stands made (inst 32 (type ∷ storage_class (buffer_storage b) ∷ block ∷ []))) e (stands (pointer_of r) k.pointer);
        is_block = subst (λ b. IsBlock made block array (stride_of b)) e (block_of r k);
        words = subst (λ b. Stands made (words_declaration p ids array b r)) e (stands (Plain (sort.Words r)) k.words);
        integer = stands (Plain sort.Int) element.0;
      }

  over_rows : (r : ℕ) → BufferKeys r → rowed p r ≡ true → OverRows made (ids (pointer_of r)) (rows_of (slice_get p.resources r))
  over_rows r k e =
      let block : ℕ = ids (Plain (sort.Block r)) in
      let array : ℕ = ids (Plain (sort.Words r)) in
      let type : ℕ = ids (pointer_of r) in
      let rows : ℕ = rows_of (slice_get p.resources r) in
      let element = subst (λ b. AreKeys plan.table (words_needs p b r)) e k.element in
      let int = (serves.closed (Plain sort.Row) element.0).0 in
      record {
        block = block;
        array = array;
        row = ids (Plain sort.Row);
        count = ids (Number rows);
        int = ids (Plain sort.Int);
        pointer = subst (λ b. Stands made (inst 32 (type ∷ storage_class (buffer_storage b) ∷ block ∷ []))) e (stands (pointer_of r) k.pointer);
        is_block = subst (λ b. IsBlock made block array (stride_of b)) e (block_of r k);
        words = subst (λ b. Stands made (words_declaration p ids array b r)) e (stands (Plain (sort.Words r)) k.words);
        vector = stands (Plain sort.Row) element.0;
        counts = stands (Number rows) element.1.0;
        integer = stands (Plain sort.Int) int;
      }

  over_kind : (r : ℕ) (resource : Resource) → BufferKeys r → slice_get p.resources r ≡ Some resource → IsOver made (ids (pointer_of r)) (storage_class (buffer_storage (rowed p r))) resource.kind
  over_kind r resource k is = by_kind resource.kind refl
    where
      rowed_is : (x : Kind) → resource.kind ≡ x → rowed p r ≡ has_rows (Some (record resource { kind = x }))
      rowed_is x e = ap has_rows is ∙ ap (λ y. has_rows (Some (record resource { kind = y }))) e

      rows_are : (x : Kind) → resource.kind ≡ x → rows_of (slice_get p.resources r) ≡ rows_of (Some (record resource { kind = x }))
      rows_are x e = ap rows_of is ∙ ap (λ y. rows_of (Some (record resource { kind = y }))) e

      class_is : (b : Bool) → rowed p r ≡ b → storage_class (buffer_storage (rowed p r)) ≡ storage_class (buffer_storage b)
      class_is b e = ap (λ x. storage_class (buffer_storage x)) e

      by_kind : (x : Kind) → resource.kind ≡ x → IsOver made (ids (pointer_of r)) (storage_class (buffer_storage (rowed p r))) x
      by_kind kind.Raw e = (class_is false (rowed_is kind.Raw e), over_words r k (rowed_is kind.Raw e))
      by_kind (kind.Structured stride) e =
          (class_is false (rowed_is (kind.Structured stride) e), over_words r k (rowed_is (kind.Structured stride) e))
      by_kind (kind.Constant rows) e =
          let rowed_here = rowed_is (kind.Constant rows) e in
          (class_is true rowed_here, subst (OverRows made (ids (pointer_of r))) (rows_are (kind.Constant rows) e) (over_rows r k rowed_here))

  -- the buffer at a place of the table
  pub buffer_at : KeysFit p plan.table → AreApart p at → (k r : ℕ) → slice_get plan.table k ≡ Some (Buffer r) → IsBufferOf p at made r (ids (Pointer (buffer_storage (rowed p r)) (sort.Block r))) (table_from plan + k) (storage_class (buffer_storage (rowed p r)))
  buffer_at fits apart k r e =
      let id : ℕ = table_from plan + k in
      let has = has_at plan.table k (Buffer r) (eq_same r) e in
      let resource = fit_at p plan.table k (Buffer r) fits e in
      let below : r < length at = omega (arith, get_below p.resources r resource.0 resource.1, apart.one_each) in
      let pair = get_some at r below in
      let set : ℕ = set_of (slice_get at r) in
      let binding : ℕ = binding_of (slice_get at r) in
      let behind : List (List ℕ) = gather (decorates id) (read_only_of id (slice_get p.resources r)) in
      let two = ap (λ xs. xs ++ (decorates id (inst 71 (id ∷ 33 ∷ binding ∷ [])) ++ behind)) (decorates_own id (34 ∷ set ∷ [])) ∙ ap (λ xs. (34 ∷ set ∷ []) ∷ (xs ++ behind)) (decorates_own id (33 ∷ binding ∷ [])) in
      let last : behind ≡ non_writable resource.0.class = ap (λ o. gather (decorates id) (read_only_of id o)) resource.1 ∙ read_only_decorates id resource.0.class in
      let bound = ap (λ o. (34 ∷ set_of o ∷ []) ∷ (33 ∷ binding_of o ∷ []) ∷ behind) pair.1 in
      record {
        resource = resource.0;
        pair = pair.0;
        is = resource.1;
        bound = pair.1;
        over = over_kind r resource.0 (keys_of r has) resource.1;
        decorated = decorated_at p list at v plan owned k (Buffer r) e ∙ two ∙ bound ∙ ap (λ xs. (34 ∷ pair.0.0 ∷ []) ∷ (33 ∷ pair.0.1 ∷ []) ∷ xs) last;
      }

  -- ---- groupshared arrays

  array_pointer : (a : ℕ) → has_key plan.table (Shared a) ≡ true → has_key plan.table (Pointer storage.Workgroup (sort.Array a)) ≡ true
  array_pointer zero h = (serves.closed (Shared zero) h).0
  array_pointer (suc a) h = (serves.closed (Shared (suc a)) h).0

  pub over_shared : (a : ℕ) → has_key plan.table (Shared a) ≡ true → OverShared made (ids (Pointer storage.Workgroup (sort.Array a))) (slice_index p.shared a)
  over_shared a h =
      let pointer = array_pointer a h in
      let array = (serves.closed (Pointer storage.Workgroup (sort.Array a)) pointer).0 in
      let named = serves.closed (Plain (sort.Array a)) array in
      record {
        array = ids (Plain (sort.Array a));
        count = ids (Number (slice_index p.shared a));
        int = ids (Plain sort.Int);
        pointer = stands (Pointer storage.Workgroup (sort.Array a)) pointer;
        words = stands (Plain (sort.Array a)) array;
        counts = stands (Number (slice_index p.shared a)) named.1.0;
        integer = stands (Plain sort.Int) named.0;
      }
