-- No type stands twice.
use Rattle.std.proofs.Common.{◌≡◌, ◌⊎◌, ⊎_elim, ℕ, zero, suc, ◌+◌, ◌<◌, true, false, List, [], ◌∷◌, ◌++◌, length, Some, refl, sym, ap, ◌∙◌, subst, arith}
use Rattle.std.specs.Prelude.{slice_get, drop}
use Rattle.line_runs.proofs.Tests.{true_false}
use Rattle.dxil_form.specs.declared.program.Program.{Program}
use Rattle.dxil_form.specs.declared.region.Region.{Region}
use Rattle.dxil_form.specs.Sound.{Sound}
use Rattle.dxil_form.specs.Wired.{Wired}
use Rattle.spv_form.specs.declared.module.Inst.{Inst}
use Rattle.spv_form.specs.declared.module.Version.{Version}
use Rattle.id_rules.specs.Again.{is_single, IsDeclaredAgain}
use Rattle.spirv_meaning.specs.Bindings.{Bindings}
use Rattle.spirv_code.specs.declared.key.Global.{Global}
use Rattle.spirv_code.specs.declared.key.Slot.{Slot}
use Rattle.spirv_code.specs.Keys.{has_key}
use Rattle.spirv_code.specs.Plans.{Plan, inst, slots_from, table_from, global_id}
use Rattle.spirv_code.specs.Trees.{root_of}
use Rattle.spirv_code.specs.Further.{wants}
use Rattle.spirv_code.specs.Needed.{slots_keys, want_keys, regions_keys}
use Rattle.spirv_code.specs.Frame.{head, names, declaration, declarations, slot_variables, closing, insts_of}
use Rattle.frame_facts.specs.Inner.{Owns}
use Rattle.frame_facts.proofs.Searches.{Each, each_append, each_weaker, each_at, inj}
use Rattle.frame_facts.proofs.Tabled.{global_self}
use Rattle.frame_facts.proofs.Labels.{get_either}
use Rattle.frame_facts.proofs.Spread.{body, ending, decs, decls, variables, from_function, from_types, from_names, is_spread, names_each}
use Rattle.frame_facts.proofs.Wiring.{root_owned}
use Rattle.module_form.proofs.Gathered.{is_inner, is_decoration, decorations_each, body_each}
use Rattle.buffer_form.proofs.Standing.{has_at}
use Rattle.module_formed.proofs.Counting.{Distinct, distinct_all}
use Rattle.chosen_plan.specs.IsPlan.{IsPlan}
use Rattle.frame_apart.specs.Laws.{ModulesKeepTypesApart}
use Rattle.frame_apart.proofs.Same.{is_frame, no_frame, same_key}

-- ---- a key stands once in a table

pub distinct_place : (table : List Global) (i j : ℕ) (g : Global) → Distinct table → slice_get table i ≡ Some g → slice_get table j ≡ Some g → i ≡ j
distinct_place [] i j g d e f = absurd (cc)
distinct_place (x ∷ table) zero zero g d e f = refl
distinct_place (x ∷ table) zero (suc j) g d e f =
    absurd (true_false (sym (has_at table j x (global_self x) (f ∙ sym e)) ∙ d.0))
distinct_place (x ∷ table) (suc i) zero g d e f =
    absurd (true_false (sym (has_at table i x (global_self x) (e ∙ sym f)) ∙ d.0))
distinct_place (x ∷ table) (suc i) (suc j) g d e f = ap suc (distinct_place table i j g d.1 e f)

-- what is declared at a place of the table
pub record Declared (p : Program) (key : Global → ℕ) (n i : ℕ) (table : List Global) (x : Inst) : Type 0 where
  pub g : Global
  pub at : slice_get table i ≡ Some g
  pub is : x ≡ declaration p key (n + i) g

pub declared_back : (p : Program) (key : Global → ℕ) (n : ℕ) (table : List Global) (i : ℕ) (x : Inst) → slice_get (declarations p key n table) i ≡ Some x → Declared p key n i table x
declared_back p key n [] i x e = absurd (cc)
declared_back p key n (g ∷ table) zero x e =
    let same : n ≡ n + 0 = omega arith in
    record { g = g; at = refl; is = sym (inj e) ∙ ap (λ id. declaration p key id g) same }
declared_back p key n (g ∷ table) (suc i) x e =
    let rest = declared_back p key (suc n) table i x e in
    let same : suc n + i ≡ n + suc i = omega arith in
    record { g = rest.g; at = rest.at; is = rest.is ∙ ap (λ id. declaration p key id rest.g) same }

-- ---- what is no such type

abbrev NoType : Inst → Type 0
NoType x = is_single x.opcode ≡ false

decoration_no_type : (n : ℕ) → is_decoration n ≡ true → is_single n ≡ false
decoration_no_type n e = grind arith

inner_no_type : (n : ℕ) → is_inner n ≡ true → is_single n ≡ false
inner_no_type n e = grind arith

-- ---- the module

module _ (p : Program) (list : List Region) (at : Bindings) (v : Version) (plan : Plan) (sound : Sound p) (w : Wired p list) (is_plan : IsPlan p list plan) where
  abbrev whole : List Inst
  whole = insts_of p list at v plan

  distinct : Distinct plan.table
  distinct =
      subst Distinct (sym is_plan.table) (distinct_all p [] (slots_keys plan.slots ++ (want_keys p (wants p list) ++ regions_keys p (wants p list) list)) tt)

  owned : Owns (λ r. r < plan.regions) (root_of list)
  owned = subst (λ n. Owns (λ r. r < n) (root_of list)) (sym is_plan.serves.regions) (root_owned p list w)

  locals_plain : (n : ℕ) (slots : List Slot) → Each NoType (slot_variables (global_id plan) n slots)
  locals_plain n [] = tt
  locals_plain n (s ∷ slots) = (refl, locals_plain (suc n) slots)

  ending_plain : Each NoType (ending p list at v plan)
  ending_plain =
      each_append NoType (body p list at v plan) closing (each_weaker (λ x. is_inner x.opcode ≡ true) NoType (λ x e. inner_no_type x.opcode e) (body p list at v plan) (body_each p list at v plan owned)) (refl, (refl, tt))

  function_plain : Each NoType (from_function p list at v plan)
  function_plain =
      (refl, (refl, each_append NoType (variables p list at v plan) (ending p list at v plan) (locals_plain (slots_from plan) plan.slots) ending_plain))

  head_plain : Each NoType (head p v plan)
  head_plain = (refl, (refl, (refl, (refl, tt))))

  names_plain : Each NoType (names 0 list)
  names_plain = names_each p list at v plan 0 list NoType (λ operands. refl)

  decs_plain : Each NoType (decs p list at v plan)
  decs_plain =
      each_weaker (λ x. is_decoration x.opcode ≡ true) NoType (λ x e. decoration_no_type x.opcode e) (decs p list at v plan) (decorations_each p at (table_from plan) plan.table)

  abbrev types : List Inst
  types = inst 19 (2 ∷ []) ∷ inst 33 (3 ∷ 2 ∷ []) ∷ decls p list at v plan

  -- where the types begin
  abbrev start : ℕ
  start = length (head p v plan) + (length (names 0 list) + length (decs p list at v plan))

  -- a type stands among the types
  record Typed (j : ℕ) (x : Inst) : Type 0 where
    k : ℕ
    place : j ≡ start + k
    there : slice_get types k ≡ Some x

  from_types_at : (k : ℕ) (x : Inst) → slice_get (from_types p list at v plan) k ≡ Some x → is_single x.opcode ≡ true → slice_get types k ≡ Some x
  from_types_at zero x e single = e
  from_types_at (suc zero) x e single = e
  from_types_at (suc (suc k)) x e single =
      ⊎_elim (λ f. f) (λ r. absurd (true_false (sym single ∙ each_at NoType (from_function p list at v plan) r.0 x function_plain r.2))) (get_either (decls p list at v plan) (from_function p list at v plan) k x e)

  typed : (j : ℕ) (x : Inst) → slice_get whole j ≡ Some x → is_single x.opcode ≡ true → Typed j x
  typed j x e single =
      ⊎_elim (λ f. never (each_at NoType (head p v plan) j x head_plain f)) (λ r. ⊎_elim (λ f. never (each_at NoType (names 0 list) r.0 x names_plain f)) (λ q. ⊎_elim (λ f. never (each_at NoType (decs p list at v plan) q.0 x decs_plain f)) (λ t. by_place t.0 (let a = r.1 in let b = q.1 in let c = t.1 in omega (arith, a, b, c)) t.2) (get_either (decs p list at v plan) (from_types p list at v plan) q.0 x q.2)) (get_either (names 0 list) (decs p list at v plan ++ from_types p list at v plan) r.0 x r.2)) (get_either (head p v plan) (from_names p list at v plan) j x (ap (λ xs. slice_get xs j) (sym (is_spread p list at v plan)) ∙ e))
    where
      never : NoType x → Typed j x
      never none = absurd (true_false (sym single ∙ none))

      by_place : (k : ℕ) → j ≡ start + k → slice_get (from_types p list at v plan) k ≡ Some x → Typed j x
      by_place k place f = record { k = k; place = place; there = from_types_at k x f single }

  -- ---- two types of the same words are one

  keys_apart : (i j : ℕ) (x y : Inst) → slice_get (decls p list at v plan) i ≡ Some x → slice_get (decls p list at v plan) j ≡ Some y → is_single x.opcode ≡ true → y.opcode ≡ x.opcode → drop 1 y.operands ≡ drop 1 x.operands → i ≡ j
  keys_apart i j x y e f single o d =
      let a = declared_back p (global_id plan) (table_from plan) plan.table i x e in
      let b = declared_back p (global_id plan) (table_from plan) plan.table j y f in
      let has : has_key plan.table a.g ≡ true = has_at plan.table i a.g (global_self a.g) a.at in
      let also : has_key plan.table b.g ≡ true = has_at plan.table j b.g (global_self b.g) b.at in
      let one = sym (ap (λ (z : Inst). is_single z.opcode) a.is) ∙ single in
      let opcodes = sym (ap (λ (z : Inst). z.opcode) b.is) ∙ o ∙ ap (λ (z : Inst). z.opcode) a.is in
      let operands = sym (ap (λ (z : Inst). drop 1 z.operands) b.is) ∙ d ∙ ap (λ (z : Inst). drop 1 z.operands) a.is in
      let same = same_key p list plan is_plan.serves (table_from plan + i) (table_from plan + j) a.g b.g has also one opcodes operands in
      distinct_place plan.table i j a.g distinct a.at (b.at ∙ ap Some same)

  key_no_frame : (i : ℕ) (x : Inst) → slice_get (decls p list at v plan) i ≡ Some x → is_frame x.opcode ≡ true → ⊥
  key_no_frame i x e f =
      let a = declared_back p (global_id plan) (table_from plan) plan.table i x e in
      no_frame p (global_id plan) (table_from plan + i) a.g (sym (ap (λ (z : Inst). is_frame z.opcode) a.is) ∙ f)

  types_apart : (k l : ℕ) (x y : Inst) → slice_get types k ≡ Some x → slice_get types l ≡ Some y → is_single x.opcode ≡ true → y.opcode ≡ x.opcode → drop 1 y.operands ≡ drop 1 x.operands → k ≡ l
  types_apart zero zero x y e f single o d = refl
  types_apart zero (suc zero) x y e f single o d =
      absurd (let clash : 33 ≡ 19 = ap (λ (z : Inst). z.opcode) (inj f) ∙ o ∙ sym (ap (λ (z : Inst). z.opcode) (inj e)) in omega (arith, clash))
  types_apart zero (suc (suc j)) x y e f single o d =
      absurd (key_no_frame j y f (ap is_frame o ∙ sym (ap (λ (z : Inst). is_frame z.opcode) (inj e))))
  types_apart (suc zero) zero x y e f single o d =
      absurd (let clash : 19 ≡ 33 = ap (λ (z : Inst). z.opcode) (inj f) ∙ o ∙ sym (ap (λ (z : Inst). z.opcode) (inj e)) in omega (arith, clash))
  types_apart (suc zero) (suc zero) x y e f single o d = refl
  types_apart (suc zero) (suc (suc j)) x y e f single o d =
      absurd (key_no_frame j y f (ap is_frame o ∙ sym (ap (λ (z : Inst). is_frame z.opcode) (inj e))))
  types_apart (suc (suc i)) zero x y e f single o d =
      absurd (key_no_frame i x e (ap is_frame (sym o) ∙ sym (ap (λ (z : Inst). is_frame z.opcode) (inj f))))
  types_apart (suc (suc i)) (suc zero) x y e f single o d =
      absurd (key_no_frame i x e (ap is_frame (sym o) ∙ sym (ap (λ (z : Inst). is_frame z.opcode) (inj f))))
  types_apart (suc (suc i)) (suc (suc j)) x y e f single o d = ap (λ n. suc (suc n)) (keys_apart i j x y e f single o d)

  never_again : (j : ℕ) (x : Inst) → slice_get whole j ≡ Some x → IsDeclaredAgain whole j x → ⊥
  never_again j x e again =
      let other = again.other in
      let same_opcode : other.opcode ≡ x.opcode = again.same_opcode in
      let here = typed j x e again.single in
      let there = typed again.place other again.there (ap is_single same_opcode ∙ again.single) in
      let one = types_apart here.k there.k x other here.there there.there again.single same_opcode again.same_operands in
      let low : again.place < j = again.before in
      let a = here.place in
      let b = there.place in
      omega (arith, one, low, a, b)

pub modules_keep_types_apart : ModulesKeepTypesApart
modules_keep_types_apart p list at v plan sound w is_plan = never_again p list at v plan sound w is_plan
