-- What is known of an id by the one instruction that defines it.
use Rattle.std.proofs.Common.{◌≡◌, ◌≢◌, ℕ, zero, suc, ◌<◌, Bool, true, false, List, [], ◌∷◌, length, get_or, Some, refl, sym, ap, ◌∙◌, subst, arith, ⊎_elim}
use Rattle.std.specs.Prelude.{slice_get, nat_eq, nat_le, nat_lt, not, ◌&&◌, ◌||◌, option_and_then}
use Rattle.std.specs.Option.{option_map_or}
use Rattle.spv_form.specs.declared.module.Inst.{Inst}
use Rattle.spv_form.specs.declared.shape.Shape.{Shape}
use Rattle.spv_form.specs.declared.shape.Shape.TheVariants.{Plain}
use Rattle.spv_form.specs.Shapes.{shape_of}
use Rattle.spv_ids.specs.Roles.{result_place, result_of, type_of}
use Rattle.spv_ids.specs.Ids.{definition}
use Rattle.spv_ids.specs.Places.{block_of}
use Rattle.id_rules.specs.Uses.{is_excused, is_function_variable, is_out_of_reach, is_misused, Misuses}
use Rattle.type_rules.specs.Types.{is_int, is_bool}
use Rattle.type_rules.specs.Values.{value_type, has_type, is_int_value, is_bool_value, is_label}
use Rattle.spirv_code.specs.Plans.{inst}
use Rattle.line_runs.proofs.Tests.{some_inj, true_false}
use Rattle.ruled_ids.specs.Laws.{DefineOnce}
use Rattle.ruled_lines.specs.Kept.{IsValueAt}

and_false : (t : Bool) → (t && false) ≡ false
and_false true = refl
and_false false = refl

-- ---- reach

-- what is declared ahead of all labels, or is a variable of the function, is in reach behind it
pub ahead_reach : (insts : List Inst) (at place : ℕ) (x : Inst) → place < at → block_of insts place ≡ 0 → is_out_of_reach insts at place x ≡ false
unfolding is_out_of_reach
ahead_reach insts at place x before outside =
    ap (λ t. not (nat_eq x.opcode 248) && (t || (not (is_function_variable x) && (nat_lt 0 (block_of insts place) && not (nat_eq (block_of insts place) (block_of insts at)))))) (not_le at place before) ∙ ap (λ n. not (nat_eq x.opcode 248) && (not (is_function_variable x) && (nat_lt 0 n && not (nat_eq n (block_of insts at))))) outside ∙ ap (λ t. not (nat_eq x.opcode 248) && t) (and_false (not (is_function_variable x))) ∙ and_false (not (nat_eq x.opcode 248))
  where
    not_le : (a b : ℕ) → b < a → nat_le a b ≡ false
    not_le a b h = grind arith

-- what stands before in the same block is in reach
pub same_reach : (insts : List Inst) (at place : ℕ) (x : Inst) → place < at → block_of insts place ≡ block_of insts at → is_out_of_reach insts at place x ≡ false
unfolding is_out_of_reach
same_reach insts at place x before one =
    ap (λ t. not (nat_eq x.opcode 248) && (t || (not (is_function_variable x) && (nat_lt 0 (block_of insts place) && not (nat_eq (block_of insts place) (block_of insts at)))))) (not_le at place before) ∙ ap (λ n. not (nat_eq x.opcode 248) && (not (is_function_variable x) && (nat_lt 0 (block_of insts place) && not (nat_eq n (block_of insts at))))) one ∙ ap (λ t. not (nat_eq x.opcode 248) && (not (is_function_variable x) && (nat_lt 0 (block_of insts place) && not t))) (same (block_of insts at)) ∙ ap (λ t. not (nat_eq x.opcode 248) && (not (is_function_variable x) && t)) (and_false (nat_lt 0 (block_of insts place))) ∙ ap (λ t. not (nat_eq x.opcode 248) && t) (and_false (not (is_function_variable x))) ∙ and_false (not (nat_eq x.opcode 248))
  where
    not_le : (a b : ℕ) → b < a → nat_le a b ≡ false
    not_le a b h = grind arith

    same : (n : ℕ) → nat_eq n n ≡ true
    same n = grind arith

pub value_reach : (insts : List Inst) (at id type : ℕ) → (v : IsValueAt insts at id type) → is_out_of_reach insts at v.place v.by ≡ false
value_reach insts at id type v =
    ⊎_elim (λ outside. ahead_reach insts at v.place v.by v.before outside) (λ one. same_reach insts at v.place v.by v.before one) v.near

module _ (insts : List Inst) (once : DefineOnce insts) where
  pub definition_is : (place id : ℕ) (x : Inst) → slice_get insts place ≡ Some x → result_of x ≡ Some id → definition insts id ≡ Some x
  unfolding definition
  definition_is place id x there is =
      ap (option_and_then (slice_get insts)) (once.definer_is place id x there is) ∙ there

  -- what is in reach is not misused
  pub reached : (at : ℕ) (y : Inst) (place id : ℕ) (x : Inst) → slice_get insts place ≡ Some x → result_of x ≡ Some id → is_out_of_reach insts at place x ≡ false → is_misused insts at y id ≡ false
  unfolding is_misused
  reached at y place id x there is reach =
      ap (λ o. option_map_or (λ j. not (is_excused y.opcode) && option_map_or (is_out_of_reach insts at j) (slice_get insts j) false) o true) (once.definer_is place id x there is) ∙ ap (λ o. not (is_excused y.opcode) && option_map_or (is_out_of_reach insts at place) o false) there ∙ ap (λ t. not (is_excused y.opcode) && t) reach ∙ and_false (not (is_excused y.opcode))

  -- a label is so from everywhere
  pub label_reached : (at : ℕ) (y : Inst) (place id : ℕ) → slice_get insts place ≡ Some (inst 248 (id ∷ [])) → is_misused insts at y id ≡ false
  unfolding is_out_of_reach result_of shape_of
  label_reached at y place id there = reached at y place id (inst 248 (id ∷ [])) there refl refl

  pub value_reached : (at : ℕ) (y : Inst) (id type : ℕ) → IsValueAt insts at id type → is_misused insts at y id ≡ false
  value_reached at y id type v = reached at y v.place id v.by v.there v.defines (value_reach insts at id type v)

  pub value_type_is : (at id type : ℕ) → IsValueAt insts at id type → value_type insts id ≡ Some type
  unfolding value_type
  value_type_is at id type v =
      ap (option_and_then type_of) (definition_is v.place id v.by v.there v.defines) ∙ v.typed

  pub value_is_int : (at id type : ℕ) → IsValueAt insts at id type → is_int insts type ≡ true → is_int_value insts id ≡ true
  unfolding is_int_value
  value_is_int at id type v int = ap (λ o. option_map_or (is_int insts) o false) (value_type_is at id type v) ∙ int

  pub value_is_bool : (at id type : ℕ) → IsValueAt insts at id type → is_bool insts type ≡ true → is_bool_value insts id ≡ true
  unfolding is_bool_value
  value_is_bool at id type v bool = ap (λ o. option_map_or (is_bool insts) o false) (value_type_is at id type v) ∙ bool

  pub value_has_type : (at id type : ℕ) → IsValueAt insts at id type → has_type insts type id ≡ true
  unfolding has_type
  value_has_type at id type v = ap (λ o. option_map_or (λ u. nat_eq u type) o false) (value_type_is at id type v) ∙ same type
    where
      same : (n : ℕ) → nat_eq n n ≡ true
      same n = grind arith

  pub label_is_there : (place id : ℕ) → slice_get insts place ≡ Some (inst 248 (id ∷ [])) → is_label insts id ≡ true
  unfolding is_label result_of shape_of
  label_is_there place id there =
      ap (λ o. option_map_or (λ (x : Inst). nat_eq x.opcode 248) o false) (definition_is place id (inst 248 (id ∷ [])) there refl)

  -- ---- uses

  -- these ids may be used there
  abbrev pub AreInReach : (at : ℕ) → Inst → List ℕ → Type 0
  AreInReach at y [] = Unit {0}
  AreInReach at y (id ∷ ids) = (is_misused insts at y id ≡ false) × AreInReach at y ids

  id_in_reach : (at : ℕ) (y : Inst) (ids : List ℕ) (k : ℕ) → AreInReach at y ids → k < length ids → is_misused insts at y (get_or ids k 0) ≡ false
  id_in_reach at y [] k h low = absurd (omega (arith, low))
  id_in_reach at y (id ∷ ids) zero h low = h.0
  id_in_reach at y (id ∷ ids) (suc k) h low = id_in_reach at y ids k h.1 (omega (arith, low))

  some_shape : (x : Inst) (s t : Shape) → shape_of x.opcode ≡ Some s → shape_of x.opcode ≡ Some t → s ≡ t
  some_shape x s t e f = some_inj (sym e ∙ f)

  -- of an instruction with a type and a result, of which the other operands are ids
  pub typed_reach : (at opcode type id : ℕ) (ids : List ℕ) (least most : ℕ) → shape_of opcode ≡ Some (Plain true true least most 0) → is_misused insts at (inst opcode (type ∷ id ∷ ids)) type ≡ false → AreInReach at (inst opcode (type ∷ id ∷ ids)) ids → Misuses insts at (inst opcode (type ∷ id ∷ ids)) → ⊥
  typed_reach at opcode type id ids least most shape type_ok ok m =
      let same : m.uses.shape ≡ Plain true true least most 0 = some_shape (inst opcode (type ∷ id ∷ ids)) m.uses.shape (Plain true true least most 0) m.uses.listed shape in
      true_false (sym m.misused ∙ ap (is_misused insts at (inst opcode (type ∷ id ∷ ids))) (sym m.uses.id_is) ∙ by_place m.uses.at m.uses.within (subst (λ s. result_place s ≢ Some m.uses.at) same m.uses.is_used))
    where
      by_place : (k : ℕ) → k < length (type ∷ id ∷ ids) → Some 1 ≢ Some k → is_misused insts at (inst opcode (type ∷ id ∷ ids)) (get_or (type ∷ id ∷ ids) k 0) ≡ false
      by_place zero low other = type_ok
      by_place (suc zero) low other = absurd (other refl)
      by_place (suc (suc k)) low other =
          id_in_reach at (inst opcode (type ∷ id ∷ ids)) ids k ok (omega (arith, low))

  -- of an instruction without a result, of which all operands are ids
  pub bare_reach : (at opcode : ℕ) (ids : List ℕ) (least most : ℕ) → shape_of opcode ≡ Some (Plain false false least most 0) → AreInReach at (inst opcode ids) ids → Misuses insts at (inst opcode ids) → ⊥
  bare_reach at opcode ids least most shape ok m =
      true_false (sym m.misused ∙ ap (is_misused insts at (inst opcode ids)) (sym m.uses.id_is) ∙ id_in_reach at (inst opcode ids) ids m.uses.at ok m.uses.within)
