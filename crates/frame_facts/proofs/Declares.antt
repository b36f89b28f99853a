-- What the module of a program declares.
use Rattle.std.proofs.Common.{◌≡◌, ⊎_elim, ℕ, zero, suc, ◌+◌, ◌<◌, Bool, true, false, List, [], ◌∷◌, ◌++◌, length, take, Some, None, refl, sym, ap, ◌∙◌, subst, arith, ne_eqb}
use Rattle.std.specs.Prelude.{slice_get, slice_index, nat_eq, if◌then◌else◌, ◌&&◌}
use Rattle.dxil_form.specs.declared.value.Ty.TheVariants as ty
use Rattle.dxil_form.specs.declared.program.Kind.{Kind}
use Rattle.dxil_form.specs.declared.program.Kind.TheVariants as kind
use Rattle.dxil_form.specs.declared.program.Resource.{Resource}
use Rattle.dxil_form.specs.declared.program.Program.{Program}
use Rattle.dxil_form.specs.declared.region.Region.{Region}
use Rattle.dxil_form.specs.declared.region.Region.TheVariants as region
use Rattle.spv_form.specs.declared.module.Inst.{Inst}
use Rattle.spv_form.specs.declared.module.Module.{Module}
use Rattle.spv_form.specs.declared.module.Version.{Version}
use Rattle.dxil_meaning.specs.Source.{Launch}
use Rattle.spirv_meaning.specs.Names.{is_some_at, label_of, begun_at, named_by, same_words, block_name}
use Rattle.spirv_meaning.specs.Bindings.{Bindings, AreApart}
use Rattle.spirv_meaning.specs.Target as spv
use Rattle.spirv_meaning.specs.Target.{Value, Pointer, Word, declared, operand_in, declared_operand, fixed, fixed_value, storage, is_class, pointee, is_integer, has_type, decoration, buffer_of, over_vectors, shared_number, shared_size, local_size, label_at}
use Rattle.spirv_code.specs.declared.key.Sort.TheVariants as sort
use Rattle.spirv_code.specs.declared.key.Storage.TheVariants as store
use Rattle.spirv_code.specs.declared.key.BuiltIn.{BuiltIn}
use Rattle.spirv_code.specs.declared.key.Global.{Global}
use Rattle.spirv_code.specs.declared.key.Global.TheVariants as global
use Rattle.spirv_code.specs.declared.key.Slot.{Slot}
use Rattle.spirv_code.specs.declared.key.Slot.TheVariants.{Next, Kept, Want, Pick}
use Rattle.spirv_code.specs.Keys.{index_of, has_key, storage_class}
use Rattle.spirv_code.specs.Plans.{Plan, inst, result, kept, site_label, slots_from, table_from, global_id, context_of}
use Rattle.spirv_code.specs.Trees.{root_of}
use Rattle.spirv_code.specs.Frame as frame
use Rattle.spirv_code.specs.Frame.{rowed, buffer_storage, declaration, decorations, decorations_of, set_of, binding_of, insts_of, module_of, slot_sort, slot_start, slot_variable, names}
use Rattle.line_runs.specs.Held.{Setting, IsOf}
use Rattle.line_runs.specs.Declared.{Declares, IsLocal, IsInput, IsBuffer, IsArray, has_rows, buffer_class, held_type, type_of}
use Rattle.frame_facts.specs.Inner.{Owns}
use Rattle.frame_facts.specs.Serves.{Serves, AreKeys, arrays_in}
use Rattle.frame_facts.specs.Facts.{setting_of}
use Rattle.frame_facts.proofs.Searches.{Each, each_weaker, if_not, if_so, eq_same, inj, IsNot, LabelsNot, Elsewhere, decoration_skip, get_below}
use Rattle.frame_facts.proofs.Tables.{key_stands, slot_stands}
use Rattle.frame_facts.proofs.Declarations.{IsRemark, decorations_remarks, decorated, set_found, binding_found, resource_first, array_number}
use Rattle.frame_facts.proofs.InnerRows.{IsLabelOf}
use Rattle.frame_facts.proofs.Spread.{is_spread, decs, from_types, from_function, names_each, declared_global, declared_slot, label_below}
use Rattle.frame_facts.proofs.Labels.{label_first, labelled, Labelled, unlabelled, at_own, in_region, naming, IsName}
use Rattle.frame_facts.proofs.Sites.{HasSite, begins_none}
use Rattle.frame_facts.proofs.Results.{fixed_result}

-- a search for groupshared arrays passes over what is no variable
shared_skip : (variable n : ℕ) (a b : List Inst) → Each (IsNot 59) a → shared_number (a ++ b) variable n ≡ shared_number b variable n
shared_skip variable n [] b h = refl
shared_skip variable n (i ∷ a) b h =
    if_not _ (ap (λ x. x && is_some_at (slice_get i.operands 2) 4) h.0) _ _ ∙ shared_skip variable n a b h.1

-- a constant buffer has rows
rows_are : (resource : Resource) → frame.has_rows (Some resource) ≡ has_rows resource.kind
rows_are resource = by_kind resource.kind
  where
    by_kind : (k : Kind) → frame.has_rows (Some (record resource { kind = k })) ≡ has_rows k
    by_kind kind.Raw = refl
    by_kind (kind.Structured stride) = refl
    by_kind (kind.Constant rows) = refl

class_is : (k : Kind) → storage_class (buffer_storage (has_rows k)) ≡ buffer_class k
class_is kind.Raw = refl
class_is (kind.Structured stride) = refl
class_is (kind.Constant rows) = refl

pub get_some : {A : Type 0} (xs : List A) (k : ℕ) → k < length xs → (x : A) × (slice_get xs k ≡ Some x)
get_some [] k h = absurd (omega (arith, h))
get_some (x ∷ xs) zero h = (x, refl)
get_some (x ∷ xs) (suc k) h = get_some xs k (omega (arith, h))

truth_fixed : (b : Bool) (p : Program) (ids : Global → ℕ) (id : ℕ) → fixed_value (Some (declaration p ids id (global.Truth b))) id ≡ Some (spv.Truth b)
truth_fixed true p ids id = refl
truth_fixed false p ids id = refl

module _ (p : Program) (list : List Region) (at : Bindings) (v : Version) (plan : Plan) (l : Launch) (serves : Serves p list plan) (apart : AreApart p at) (mine : Owns (λ r. r < length list) (root_of list)) where
  abbrev s : Setting
  s = setting_of p list at v plan l

  abbrev m : Module
  m = module_of p list at v plan

  abbrev ids : Global → ℕ
  ids = global_id plan

  abbrev Mine : ℕ → Type 0
  Mine r = r < plan.regions

  owned : Owns Mine (root_of list)
  owned = subst (λ n. Owns (λ r. r < n) (root_of list)) (sym serves.regions) mine

  declared_of : (g : Global) → has_key plan.table g ≡ true → declared m.insts (ids g) ≡ Some (declaration p ids (ids g) g)
  declared_of g h = declared_global p list at v plan g h

  fixed_by : (g : Global) → has_key plan.table g ≡ true → fixed m (ids g) ≡ fixed_value (Some (declaration p ids (ids g) g)) (ids g)
  fixed_by g h = ap (λ o. fixed_value o (ids g)) (declared_of g h)

  -- ---- decorations

  decoration_from : (g : Global) (number : ℕ) → has_key plan.table g ≡ true → (rest : List Inst) × (decoration m.insts (ids g) number ≡ decoration (decorations_of p at (ids g) g ++ rest) (ids g) number)
  decoration_from g number h =
      let id : ℕ = ids g in
      let found = decorated p at (table_from plan) plan.table (index_of plan.table g) g number (from_types p list at v plan) (key_stands plan.table g h) in
      let front = ap (λ xs. decoration xs id number) (is_spread p list at v plan) in
      let past = decoration_skip id number (names 0 list) (decs p list at v plan ++ from_types p list at v plan) (names_each p list at v plan 0 list (Elsewhere id) (λ operands. refl)) in
      (found.0, front ∙ past ∙ found.1)

  -- ---- buffers

  words_key : (r : ℕ) → has_key plan.table (global.Buffer r) ≡ true → has_key plan.table (global.Plain (sort.Words r)) ≡ true
  words_key r h =
      let pointer = (serves.closed (global.Buffer r) h).0 in
      let block = (serves.closed (global.Pointer (buffer_storage (rowed p r)) (sort.Block r)) pointer).0 in
      (serves.closed (global.Plain (sort.Block r)) block).0

  element_is : (r : ℕ) → has_key plan.table (global.Buffer r) ≡ true → (b : Bool) → rowed p r ≡ b → over_vectors m (ids (global.Buffer r)) ≡ b
  element_is r h b e =
      let pointer = (serves.closed (global.Buffer r) h).0 in
      let block = (serves.closed (global.Pointer (buffer_storage (rowed p r)) (sort.Block r)) pointer).0 in
      let words = (serves.closed (global.Plain (sort.Block r)) block).0 in
      by_rows b (subst (λ b. AreKeys plan.table (frame.words_needs p b r)) e (serves.closed (global.Plain (sort.Words r)) words)) (declared_of (global.Plain (sort.Words r)) words ∙ ap (λ b. Some (frame.words_declaration p ids (ids (global.Plain (sort.Words r))) b r)) e) pointer block
    where
      by_rows : (b : Bool) → AreKeys plan.table (frame.words_needs p b r) → declared m.insts (ids (global.Plain (sort.Words r))) ≡ Some (frame.words_declaration p ids (ids (global.Plain (sort.Words r))) b r) → has_key plan.table (global.Pointer (buffer_storage (rowed p r)) (sort.Block r)) ≡ true → has_key plan.table (global.Plain (sort.Block r)) ≡ true → over_vectors m (ids (global.Buffer r)) ≡ b
      by_rows false keys words pointer block =
          rw (declared_of (global.Buffer r) h, declared_of (global.Pointer (buffer_storage (rowed p r)) (sort.Block r)) pointer, declared_of (global.Plain (sort.Block r)) block, words, declared_of (global.Plain sort.Int) keys.0) refl
      by_rows true keys words pointer block =
          rw (declared_of (global.Buffer r) h, declared_of (global.Pointer (buffer_storage (rowed p r)) (sort.Block r)) pointer, declared_of (global.Plain (sort.Block r)) block, words, declared_of (global.Plain sort.Row) keys.0) refl

  buffer_is : (r : ℕ) (resource : Resource) → has_key plan.table (global.Buffer r) ≡ true → slice_get p.resources r ≡ Some resource → IsBuffer s r resource (ids (global.Buffer r))
  buffer_is r resource h is =
      let id : ℕ = ids (global.Buffer r) in
      let below : r < length at = omega (arith, get_below p.resources r resource is, apart.one_each) in
      let pair = get_some at r below in
      let rows : rowed p r ≡ has_rows resource.kind = ap frame.has_rows is ∙ rows_are resource in
      let set = decoration_from (global.Buffer r) 34 h in
      let binding = decoration_from (global.Buffer r) 33 h in
      let set_is : decoration m.insts id 34 ≡ Some pair.0.0 = set.1 ∙ set_found p at id r set.0 ∙ ap (λ o. Some (set_of o)) pair.1 in
      let binding_is : decoration m.insts id 33 ≡ Some pair.0.1 = binding.1 ∙ binding_found p at id r binding.0 ∙ ap (λ o. Some (binding_of o)) pair.1 in
      let same : 0 + r ≡ r = omega arith in
      let class : is_class m id (storage_class (buffer_storage (rowed p r))) ≡ true = ap (λ o. is_some_at (operand_in o 59 2) (storage_class (buffer_storage (rowed p r)))) (declared_of (global.Buffer r) h) ∙ eq_same (storage_class (buffer_storage (rowed p r))) in
      record {
        variable = record { pointer = fixed_by (global.Buffer r) h; class_is = subst (λ n. is_class m id n ≡ true) (ap (λ b. storage_class (buffer_storage b)) rows ∙ class_is resource.kind) class };
        rows = element_is r h (has_rows resource.kind) rows;
        stands_for = rw (set_is, binding_is) (resource_first at 0 r pair.0 apart.apart pair.1 ∙ ap Some same);
      }

  -- ---- groupshared arrays

  array_pointer : (a : ℕ) → has_key plan.table (global.Shared a) ≡ true → has_key plan.table (global.Pointer store.Workgroup (sort.Array a)) ≡ true
  array_pointer zero h = (serves.closed (global.Shared zero) h).0
  array_pointer (suc a) h = (serves.closed (global.Shared (suc a)) h).0

  array_is : (a : ℕ) → has_key plan.table (global.Shared a) ≡ true → IsArray s a (ids (global.Shared a))
  array_is a h =
      let id : ℕ = ids (global.Shared a) in
      let pointer = array_pointer a h in
      let array = (serves.closed (global.Pointer store.Workgroup (sort.Array a)) pointer).0 in
      let count = (serves.closed (global.Plain (sort.Array a)) array).1.0 in
      let place : ℕ = index_of plan.table (global.Shared a) in
      let stands = key_stands plan.table (global.Shared a) h in
      let numbered = array_number p ids (table_from plan) plan.table place a (from_function p list at v plan) 0 stands in
      let front = ap (λ xs. shared_number xs id 0) (is_spread p list at v plan) in
      let past = shared_skip id 0 (names 0 list) (decs p list at v plan ++ from_types p list at v plan) (names_each p list at v plan 0 list (IsNot 59) (λ operands. refl)) in
      let decorations_past = shared_skip id 0 (decs p list at v plan) (from_types p list at v plan) (each_weaker IsRemark (IsNot 59) (λ i h. h.no_variable) (decs p list at v plan) (decorations_remarks p at (table_from plan) plan.table)) in
      let counted = serves.arrays place a stands in
      let sum : 0 + arrays_in (take place plan.table) ≡ a = omega (arith, counted) in
      record {
        variable = record { pointer = fixed_by (global.Shared a) h; class_is = ap (λ o. is_some_at (operand_in o 59 2) 4) (declared_of (global.Shared a) h) };
        number = front ∙ past ∙ decorations_past ∙ numbered ∙ ap Some sum;
        size = rw (declared_of (global.Shared a) h, declared_of (global.Pointer store.Workgroup (sort.Array a)) pointer, declared_of (global.Plain (sort.Array a)) array, declared_of (global.Number (slice_index p.shared a)) count) refl;
      }

  -- ---- inputs

  input_is : (b : BuiltIn) → has_key plan.table (global.Input b) ≡ true → IsInput s b (ids (global.Input b))
  input_is b h =
      let id : ℕ = ids (global.Input b) in
      let found = decoration_from (global.Input b) 11 h in
      record {
        variable = record { pointer = fixed_by (global.Input b) h; class_is = ap (λ o. is_some_at (operand_in o 59 2) 1) (declared_of (global.Input b) h) };
        holds = found.1 ∙ if_so _ (ap (λ x. x && true) (eq_same id)) _ _;
      }

  -- ---- variables of the function

  takes_int : (id : ℕ) (w : Value) → pointee m id ≡ Some (ids (global.Plain sort.Int)) → has_key plan.table (global.Plain sort.Int) ≡ true → IsOf ty.Int w → has_type m (pointee m id) w ≡ true
  takes_int id (Word n) e h of =
      ap (λ o. has_type m o (Word n)) e ∙ ap (λ o. is_some_at (operand_in o 21 1) 32) (declared_of (global.Plain sort.Int) h)
  takes_int id (spv.Truth b) e h of = absurd of
  takes_int id (spv.Vector xs) e h of = absurd of
  takes_int id (Pointer x indices) e h of = absurd of

  takes_bool : (id : ℕ) (w : Value) → pointee m id ≡ Some (ids (global.Plain sort.Bool)) → has_key plan.table (global.Plain sort.Bool) ≡ true → IsOf ty.Bool w → has_type m (pointee m id) w ≡ true
  takes_bool id (Word n) e h of = absurd of
  takes_bool id (spv.Truth b) e h of =
      let type : ℕ = ids (global.Plain sort.Bool) in
      ap (λ o. has_type m o (spv.Truth b)) e ∙ ap (λ o. is_some_at (operand_in o 20 0) type) (declared_of (global.Plain sort.Bool) h) ∙ eq_same type
  takes_bool id (spv.Vector xs) e h of = absurd of
  takes_bool id (Pointer x indices) e h of = absurd of

  local_is : (slot : Slot) (id : ℕ) → (context_of p plan).slot slot ≡ Some id → IsLocal s slot id
  local_is slot id e =
      let there = slot_stands (slots_from plan) plan.slots slot id e in
      let few = get_below plan.slots there.k slot there.here in
      let keys = serves.variables there.k slot there.here in
      let is : declared m.insts id ≡ Some (slot_variable ids id slot) = subst (λ n. declared m.insts n ≡ Some (slot_variable ids n slot)) (sym there.is) (declared_slot p list at v plan owned there.k slot few there.here) in
      let sort_key = (serves.closed (global.Pointer store.Function (slot_sort slot)) keys.0).0 in
      let points : pointee m id ≡ Some (ids (global.Plain (slot_sort slot))) = rw (is, declared_of (global.Pointer store.Function (slot_sort slot)) keys.0) refl in
      record {
        variable = record { pointer = ap (λ o. fixed_value o id) is; class_is = ap (λ o. is_some_at (operand_in o 59 2) 7) is };
        takes = by_slot slot points sort_key;
      }
    where
      by_truth : (b : Bool) → pointee m id ≡ Some (ids (global.Plain (if b then sort.Bool else sort.Int))) → has_key plan.table (global.Plain (if b then sort.Bool else sort.Int)) ≡ true → (w : Value) → IsOf (type_of b) w → has_type m (pointee m id) w ≡ true
      by_truth true e h w of = takes_bool id w e h of
      by_truth false e h w of = takes_int id w e h of

      by_slot : (slot : Slot) → pointee m id ≡ Some (ids (global.Plain (slot_sort slot))) → has_key plan.table (global.Plain (slot_sort slot)) ≡ true → (w : Value) → IsOf (held_type slot) w → has_type m (pointee m id) w ≡ true
      by_slot (Next value part truth) e h w of = by_truth truth e h w of
      by_slot (Kept value part truth) e h w of = by_truth truth e h w of
      by_slot Want e h w of = takes_int id w e h of
      by_slot Pick e h w of = takes_int id w e h of

  -- ---- labels inside a leaf

  inner_found : (place : ℕ) → slice_get m.insts place ≡ Some (inst 248 (result (context_of p plan) place ∷ [])) → label_at m.insts (result (context_of p plan) place) 0 ≡ Some place
  inner_found place e =
      let same : 0 + place ≡ place = omega arith in
      label_first m.insts (result (context_of p plan) place) place 0 e before ∙ ap Some same
    where
      no_clash : (j : ℕ) → j < place → nat_eq (result (context_of p plan) j) (result (context_of p plan) place) ≡ false
      no_clash j less = ne_eqb (result (context_of p plan) j) (result (context_of p plan) place) (λ e. omega (arith, less, e))

      region_clash : (id : ℕ) → IsLabelOf Mine id → nat_eq id (result (context_of p plan) place) ≡ false
      region_clash id h =
          let low = label_below p list at v plan id h in
          ne_eqb id (result (context_of p plan) place) (λ e. omega (arith, low, e))

      by_label : (j : ℕ) (i : Inst) → j < place → Labelled (context_of p plan) Mine j i → LabelsNot (result (context_of p plan) place) i
      by_label j i less (unlabelled none) = ap (λ o. is_some_at o (result (context_of p plan) place)) none
      by_label j i less (at_own is) = ap (λ o. is_some_at o (result (context_of p plan) place)) is ∙ no_clash j less
      by_label j i less (in_region id h is) = ap (λ i. is_some_at (label_of i) (result (context_of p plan) place)) is ∙ region_clash id h

      before : (j : ℕ) (i : Inst) → j < place → slice_get m.insts j ≡ Some i → LabelsNot (result (context_of p plan) place) i
      before j i less at_j = by_label j i less (labelled p list at v plan Mine owned j i at_j)

  -- a label that is named is the site of a leaf
  site_named : (k place : ℕ) → (h : HasSite m k place) → (r : ℕ) × (h.id ≡ site_label r) × (r < plan.regions)
  site_named k place h =
      ⊎_elim (λ other. absurd (clash other)) (λ name. (name.place, is_site name, few name)) (naming p list at v plan Mine owned h.place h.name h.named)
    where
      clash : nat_eq h.name.opcode 5 ≡ false → ⊥
      clash e =
          let none : named_by (block_name k) h.name ≡ None = if_not (nat_eq h.name.opcode 5) e _ _ in
          absurd (cc)

      few : (name : IsName list h.name) → name.place < plan.regions
      few name = subst (λ n. name.place < n) (sym serves.regions) (get_below list name.place (region.Leaf name.block) name.leaf)

      is_site : (name : IsName list h.name) → h.id ≡ site_label name.place
      is_site name = by_words (same_words (block_name name.block) (block_name k)) (sym (ap (named_by (block_name k)) name.is) ∙ h.names_it)
        where
          by_words : (b : Bool) → (if b then Some (site_label name.place) else None) ≡ Some h.id → h.id ≡ site_label name.place
          by_words true e = sym (inj e)
          by_words false e = absurd (cc)

  inner_begins : (place : ℕ) → slice_get m.insts place ≡ Some (inst 248 (result (context_of p plan) place ∷ [])) → begun_at m place ≡ []
  inner_begins place e =
      begins_none m place (λ k h. clash h (site_named k place h))
    where
      clash : {k : ℕ} → (h : HasSite m k place) → (r : ℕ) × (h.id ≡ site_label r) × (r < plan.regions) → ⊥
      clash h x =
          let same : label_of h.label_there ≡ Some (result (context_of p plan) place) = ap label_of (inj (sym h.stands ∙ e)) in
          let id : h.id ≡ result (context_of p plan) place = inj (sym h.label_is ∙ same) in
          omega (arith, id, x.1, x.2)

  pub declares : Declares s
  declares =
      record {
        numbers = λ number uses. fixed_by (global.Number number) uses;
        truths = λ b uses. fixed_by (global.Truth b) uses ∙ truth_fixed b p ids (ids (global.Truth b));
        integers = λ uses. ap (λ o. is_some_at (operand_in o 21 1) 32) (declared_of (global.Plain sort.Int) uses);
        inputs = λ b uses. input_is b uses;
        buffers = λ r resource uses is. buffer_is r resource uses is;
        arrays = λ a uses. array_is a uses;
        local = refl;
        results = λ place has. fixed_result p list at v plan owned place has.i has.kind has.here has.known has.gives;
        inner = λ place e. (inner_found place e, inner_begins place e);
        locals = λ slot id e. local_is slot id e;
        apart = λ a b id ea eb.
            let there = slot_stands (slots_from plan) plan.slots a id ea in
            let other = slot_stands (slots_from plan) plan.slots b id eb in
            let same : there.k ≡ other.k = omega (arith, there.is, other.is) in
            inj (sym there.here ∙ ap (slice_get plan.slots) same ∙ other.here);
        set = λ reg type id e.
            let there = slot_stands (slots_from plan) plan.slots (kept reg type) id e in
            serves.set there.k reg type there.here;
      }
