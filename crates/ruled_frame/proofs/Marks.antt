-- NonWritable is on the variables of buffers that are read only, and on nothing else.
use Rattle.std.proofs.Common.{◌≡◌, ℕ, suc, ◌+◌, ◌<◌, true, false, List, [], ◌∷◌, Option, Some, None, refl, sym, ap, ◌∙◌, subst, arith}
use Rattle.std.specs.Prelude.{slice_get, nat_eq, ◌&&◌}
use Rattle.dxil_form.specs.declared.program.Class.{Class}
use Rattle.dxil_form.specs.declared.program.Class.TheVariants.{Srv, Uav, Cbv}
use Rattle.dxil_form.specs.declared.program.Resource.{Resource}
use Rattle.dxil_form.specs.declared.program.Program.{Program}
use Rattle.dxil_form.specs.declared.region.Region.{Region}
use Rattle.spv_form.specs.declared.module.Inst.{Inst}
use Rattle.spv_form.specs.declared.module.Version.{Version}
use Rattle.spv_ids.specs.Roles.{operand}
use Rattle.decoration_rules.specs.Decorations.{is_decoration, marks_of}
use Rattle.dxil_meaning.specs.Source.{Launch}
use Rattle.spirv_meaning.specs.Bindings.{Bindings}
use Rattle.spirv_code.specs.declared.key.Sort.TheVariants as sort
use Rattle.spirv_code.specs.declared.key.Global.{Global}
use Rattle.spirv_code.specs.declared.key.Global.TheVariants.{Plain, Pointer, Number, Truth, Input, Buffer, Shared}
use Rattle.spirv_code.specs.Keys.{has_key, index_of}
use Rattle.spirv_code.specs.Plans.{Plan, table_from, slots_from, global_id}
use Rattle.spirv_code.specs.Trees.{root_of}
use Rattle.spirv_code.specs.Frame.{names, declaration, decorations, decorations_of, read_only, read_only_of, closing, insts_of}
use Rattle.frame_facts.specs.Inner.{Owns}
use Rattle.frame_facts.specs.Facts.{setting_of}
use Rattle.frame_facts.proofs.Searches.{Each, each_append, each_weaker, each_at, eq_told, both_so, inj}
use Rattle.frame_facts.proofs.Tables.{key_stands}
use Rattle.frame_facts.proofs.Spread.{body, ending, decs, decls, variables, from_function, from_types, is_spread, spread, names_each}
use Rattle.module_form.proofs.Gathered.{apart_by, is_declaration, declarations_each, slots_each, is_inner, body_each}
use Rattle.line_runs.proofs.Tests.{true_false}
use Rattle.ruled_ids.proofs.Lists.{some_passes}
use Rattle.ruled_lines.specs.Kept.{IsReadBuffer}
use Rattle.ruled_frame.proofs.Early.{key_stands_at}

module _ (p : Program) (list : List Region) (at : Bindings) (v : Version) (plan : Plan) (l : Launch) where
  abbrev Reads : ℕ → Type 0
  Reads id = IsReadBuffer (setting_of p list at v plan l) id

  -- where the instruction says so of the id, it is that of such a variable
  abbrev Tells : ℕ → Inst → Type 0
  Tells id x = is_decoration id 24 x ≡ true → Reads id

  abbrev Other : Inst → Type 0
  Other x = nat_eq x.opcode 71 ≡ false

  other_tells : (id : ℕ) (x : Inst) → Other x → Tells id x
  unfolding is_decoration
  other_tells id x e mark =
      absurd (true_false (sym (both_so (nat_eq x.opcode 71) (nat_eq (operand x 0) id && nat_eq (operand x 1) 24) mark).0 ∙ e))

  others_tell : (id : ℕ) (xs : List Inst) → Each Other xs → Each (Tells id) xs
  others_tell id xs h = each_weaker Other (Tells id) (other_tells id) xs h

  -- ---- decorations

  -- of another kind
  kind_tells : (id n kind : ℕ) (rest : List ℕ) → nat_eq kind 24 ≡ false → Tells id (record { opcode = 71; operands = n ∷ kind ∷ rest })
  unfolding is_decoration
  kind_tells id n kind rest e mark =
      absurd (true_false (sym (both_so (nat_eq n id) (nat_eq kind 24) mark).1 ∙ e))

  target_of : (id n : ℕ) → is_decoration id 24 (record { opcode = 71; operands = n ∷ 24 ∷ [] }) ≡ true → n ≡ id
  unfolding is_decoration
  target_of id n mark = eq_told n id (both_so (nat_eq n id) true mark).0

  -- a key at its place in the table: its id is that of no other
  record Own (id n : ℕ) (g : Global) : Type 0 where
    stands : n ≡ id → (place : ℕ) × (slice_get (insts_of p list at v plan) place ≡ Some (declaration p (global_id plan) id g))
    only : n ≡ id → (h : Global) → has_key plan.table h ≡ true → global_id plan h ≡ id → h ≡ g

  own_key : (id n k : ℕ) (g : Global) → n ≡ table_from plan + k → slice_get plan.table k ≡ Some g → Own id n g
  own_key id n k g place is =
      record {
        stands = λ same. subst (λ m. (place : ℕ) × (slice_get (insts_of p list at v plan) place ≡ Some (declaration p (global_id plan) m g))) (sym place ∙ same) (key_stands_at p list at v plan k g is);
        only = λ same h declared of. inj (sym (key_stands plan.table h declared) ∙ ap (slice_get plan.table) (found (index_of plan.table h) of same) ∙ is);
      }
    where
      found : (j : ℕ) → table_from plan + j ≡ id → n ≡ id → j ≡ k
      found j of same = omega (arith, of, same, place)

  read_tells : (id n r : ℕ) → Own id n (Buffer r) → (o : Option Resource) → slice_get p.resources r ≡ o → Each (Tells id) (read_only_of n o)
  read_tells id n r own None is = tt
  read_tells id n r own (Some resource) is = by_class resource.class refl
    where
      by_class : (class : Class) → resource.class ≡ class → Each (Tells id) (read_only n class)
      by_class Srv e =
          (λ mark. record { r = r; resource = resource; is = is; class = e; stands = own.stands (target_of id n mark); only = own.only (target_of id n mark) }, tt)
      by_class Uav e = tt
      by_class Cbv e = tt

  key_tells : (id n : ℕ) (g : Global) → Own id n g → Each (Tells id) (decorations_of p at n g)
  key_tells id n (Plain sort.Int) own = tt
  key_tells id n (Plain sort.Bool) own = tt
  key_tells id n (Plain sort.Triple) own = tt
  key_tells id n (Plain sort.Row) own = tt
  key_tells id n (Plain (sort.Words r)) own = (kind_tells id n 6 _ refl, tt)
  key_tells id n (Plain (sort.Block r)) own = (kind_tells id n 2 [] refl, (other_tells id _ refl, tt))
  key_tells id n (Plain (sort.Array a)) own = tt
  key_tells id n (Pointer st to) own = tt
  key_tells id n (Number k) own = tt
  key_tells id n (Truth b) own = tt
  key_tells id n (Input b) own = (kind_tells id n 11 _ refl, tt)
  key_tells id n (Buffer r) own =
      (kind_tells id n 34 _ refl, (kind_tells id n 33 _ refl, read_tells id n r own (slice_get p.resources r) refl))
  key_tells id n (Shared a) own = tt

  table_tells : (id n k : ℕ) (table : List Global) → n ≡ table_from plan + k → ((j : ℕ) → slice_get plan.table (k + j) ≡ slice_get table j) → Each (Tells id) (decorations p at n table)
  table_tells id n k [] place rest = tt
  table_tells id n k (g ∷ table) place rest =
      each_append (Tells id) (decorations_of p at n g) (decorations p at (suc n) table) (key_tells id n g (own_key id n k g place here)) (table_tells id (suc n) (suc k) table (omega (arith, place)) behind)
    where
      here : slice_get plan.table k ≡ Some g
      here =
          let e : k ≡ k + 0 = omega arith in
          ap (slice_get plan.table) e ∙ rest 0

      behind : (j : ℕ) → slice_get plan.table (suc k + j) ≡ slice_get table j
      behind j =
          let e : suc k + j ≡ k + suc j = omega arith in
          ap (slice_get plan.table) e ∙ rest (suc j)

  -- ---- the module

  all_tell : Owns (λ r. r < plan.regions) (root_of list) → (id : ℕ) → Each (Tells id) (spread p list at v plan)
  all_tell owned id =
      let T : Inst → Type 0 = Tells id in
      let inner = each_weaker (λ i. is_inner i.opcode ≡ true) T (λ i e. other_tells id i (apart_by is_inner i.opcode 71 e refl)) (body p list at v plan) (body_each p list at v plan owned) in
      let last = each_append T (body p list at v plan) closing inner (other_tells id _ refl, (other_tells id _ refl, tt)) in
      let slots = each_append T (variables p list at v plan) (ending p list at v plan) (slots_each (global_id plan) (slots_from plan) plan.slots T (λ operands. other_tells id _ refl)) last in
      let declared = each_weaker (λ i. is_declaration i.opcode ≡ true) T (λ i e. other_tells id i (apart_by is_declaration i.opcode 71 e refl)) (decls p list at v plan) (declarations_each p (global_id plan) (table_from plan) plan.table) in
      let types = each_append T (decls p list at v plan) (from_function p list at v plan) declared (other_tells id _ refl, (other_tells id _ refl, slots)) in
      let marked = each_append T (decs p list at v plan) (from_types p list at v plan) (table_tells id (table_from plan) 0 plan.table (omega arith) (λ j. ap (slice_get plan.table) (none_more j))) (other_tells id _ refl, (other_tells id _ refl, types)) in
      let named = each_append T (names 0 list) _ (names_each p list at v plan 0 list T (λ operands. other_tells id _ refl)) marked in
      (other_tells id _ refl, (other_tells id _ refl, (other_tells id _ refl, (other_tells id _ refl, named))))
    where
      none_more : (j : ℕ) → 0 + j ≡ j
      none_more j = omega arith

  pub marks : Owns (λ r. r < plan.regions) (root_of list) → (id : ℕ) → (marks_of (insts_of p list at v plan) id).non_writable ≡ true → Reads id
  unfolding marks_of
  marks owned id mark =
      let some = some_passes (is_decoration id 24) (insts_of p list at v plan) mark in
      each_at (Tells id) (spread p list at v plan) some.0 some.1.0 (all_tell owned id) (ap (λ xs. slice_get xs some.0) (sym (is_spread p list at v plan)) ∙ some.1.1) some.1.2
