-- What is known of what is declared ahead of the code.
use Rattle.std.proofs.Common.{◌≡◌, ℕ, ◌<◌, ◌≤◌, Bool, true, false, List, [], ◌∷◌, Some, None, refl, ap, ◌∙◌, arith, inl}
use Rattle.std.specs.Prelude.{nat_eq, nat_le, ◌&&◌, ◌||◌, option_and_then, if◌then◌else◌}
use Rattle.std.specs.Option.{option_map_or}
use Rattle.spv_form.specs.declared.module.Inst.{Inst}
use Rattle.spv_form.specs.Shapes.{shape_of}
use Rattle.spv_ids.specs.Roles.{operand, result_of, type_of}
use Rattle.spv_ids.specs.Ids.{definition}
use Rattle.id_rules.specs.Uses.{is_out_of_reach, is_misused}
use Rattle.type_rules.specs.Types.{is_int, is_bool}
use Rattle.type_rules.specs.Values.{is_constant, pointer_type, pointer_of, points_to, value_type}
use Rattle.spirv_code.specs.declared.key.Sort.TheVariants as sort
use Rattle.spirv_code.specs.declared.key.Storage.TheVariants as storage
use Rattle.spirv_code.specs.declared.key.Global.{Global}
use Rattle.spirv_code.specs.declared.key.Global.TheVariants.{Plain, Pointer, Number, Truth}
use Rattle.spirv_code.specs.declared.key.Slot.{Slot}
use Rattle.spirv_code.specs.Plans.{Context, inst, number, int_id, bool_id}
use Rattle.spirv_code.specs.Frame.{declaration, slot_sort, slot_start, slot_variable}
use Rattle.line_runs.specs.Held.{Setting, Uses}
use Rattle.ruled_ids.proofs.Seats.{made}
use Rattle.ruled_ids.proofs.Declared.{declaration_is}
use Rattle.ruled_lines.specs.Kept.{IsValueAt, StandsAhead}
use Rattle.ruled_lines.proofs.Values.{definition_is, reached, ahead_reach}

number_type : (t id n : ℕ) → type_of (inst 43 (t ∷ id ∷ n ∷ [])) ≡ Some t
unfolding type_of shape_of
number_type t id n = refl

true_type : (t id : ℕ) → type_of (inst 41 (t ∷ id ∷ [])) ≡ Some t
unfolding type_of shape_of
true_type t id = refl

false_type : (t id : ℕ) → type_of (inst 42 (t ∷ id ∷ [])) ≡ Some t
unfolding type_of shape_of
false_type t id = refl

pub variable_is : (t id class start : ℕ) → result_of (inst 59 (t ∷ id ∷ class ∷ start ∷ [])) ≡ Some id
unfolding shape_of
variable_is t id class start = made 59 t id (class ∷ start ∷ []) 1 2 1 refl

variable_type : (t id class start : ℕ) → type_of (inst 59 (t ∷ id ∷ class ∷ start ∷ [])) ≡ Some t
unfolding type_of shape_of
variable_type t id class start = refl

-- a variable of the function is in reach everywhere behind it
local_reach : (insts : List Inst) (at place t id start : ℕ) → place < at → is_out_of_reach insts at place (inst 59 (t ∷ id ∷ 7 ∷ start ∷ [])) ≡ false
unfolding is_out_of_reach
local_reach insts at place t id start before = ap (λ b. true && (b || false)) (not_le at place before)
  where
    not_le : (a b : ℕ) → b < a → nat_le a b ≡ false
    not_le a b h = grind arith

module _ (s : Setting) (low : ℕ) (ahead : StandsAhead s low) where
  abbrev insts : List Inst
  insts = s.made.insts

  abbrev c : Context
  c = s.context

  -- ---- keys

  pub key_is : (g : Global) → Uses s g → definition insts (c.key g) ≡ Some (declaration s.program c.key (c.key g) g)
  key_is g uses =
      let there = ahead.keys g uses in
      definition_is insts ahead.once there.0 (c.key g) (declaration s.program c.key (c.key g) g) there.1 (declaration_is s.program c.key (c.key g) g)

  pub key_reached : (at : ℕ) (y : Inst) (g : Global) → Uses s g → low ≤ at → is_misused insts at y (c.key g) ≡ false
  key_reached at y g uses behind =
      let there = ahead.keys g uses in
      let before : there.0 < low = there.2 in
      reached insts ahead.once at y there.0 (c.key g) (declaration s.program c.key (c.key g) g) there.1 (declaration_is s.program c.key (c.key g) g) (ahead_reach insts at there.0 (declaration s.program c.key (c.key g) g) (omega (arith, before, behind)) there.3)

  pub int_is : Uses s (Plain sort.Int) → is_int insts (int_id c) ≡ true
  unfolding is_int
  int_is uses =
      ap (λ o. option_map_or (λ (x : Inst). nat_eq x.opcode 21 && (nat_eq (operand x 1) 32 && nat_eq (operand x 2) 0)) o false) (key_is (Plain sort.Int) uses)

  pub bool_is : Uses s (Plain sort.Bool) → is_bool insts (bool_id c) ≡ true
  unfolding is_bool
  bool_is uses = ap (λ o. option_map_or (λ (x : Inst). nat_eq x.opcode 20) o false) (key_is (Plain sort.Bool) uses)

  -- what a number's declaration names
  pub number_int : (n : ℕ) → Uses s (Number n) → Uses s (Plain sort.Int)
  number_int n uses = (ahead.closed (Number n) uses).0

  pub number_value : (at n : ℕ) → Uses s (Number n) → low ≤ at → IsValueAt insts at (number c n) (int_id c)
  number_value at n uses behind =
      let there = ahead.keys (Number n) uses in
      let before : there.0 < low = there.2 in
      let x : Inst = declaration s.program c.key (c.key (Number n)) (Number n) in
      record { place = there.0; by = x; there = there.1; defines = declaration_is s.program c.key (c.key (Number n)) (Number n); typed = number_type (int_id c) (number c n) n; before = omega (arith, before, behind); near = inl there.3 }

  pub truth_value : (at : ℕ) (b : Bool) → Uses s (Truth b) → low ≤ at → IsValueAt insts at (c.key (Truth b)) (bool_id c)
  truth_value at b uses behind =
      let there = ahead.keys (Truth b) uses in
      let before : there.0 < low = there.2 in
      let x : Inst = declaration s.program c.key (c.key (Truth b)) (Truth b) in
      record { place = there.0; by = x; there = there.1; defines = declaration_is s.program c.key (c.key (Truth b)) (Truth b); typed = by_truth b; before = omega (arith, before, behind); near = inl there.3 }
    where
      by_truth : (b : Bool) → type_of (declaration s.program c.key (c.key (Truth b)) (Truth b)) ≡ Some (bool_id c)
      by_truth true = true_type (bool_id c) (c.key (Truth true))
      by_truth false = false_type (bool_id c) (c.key (Truth false))

  pub constant_is : (n : ℕ) → Uses s (Number n) → is_constant insts (number c n) ≡ true
  unfolding is_constant
  constant_is n uses =
      ap (λ o. option_map_or (λ (x : Inst). nat_eq x.opcode 43 && is_int insts (operand x 0)) o false) (key_is (Number n) uses) ∙ int_is (number_int n uses)

  -- ---- variables of the function

  -- the pointer type of a variable
  pub local_pointer : (slot : Slot) (id : ℕ) → c.slot slot ≡ Some id → pointer_of insts id ≡ Some (inst 32 (c.key (Pointer storage.Function (slot_sort slot)) ∷ 7 ∷ c.key (Plain (slot_sort slot)) ∷ []))
  unfolding pointer_of value_type pointer_type
  local_pointer slot id e =
      let there = ahead.slots slot id e in
      let x : Inst = slot_variable c.key id slot in
      let type : ℕ = c.key (Pointer storage.Function (slot_sort slot)) in
      let is = definition_is insts ahead.once there.0 id x there.1 (variable_is type id 7 (c.key (slot_start slot))) in
      ap (λ o. option_and_then (pointer_type insts) (option_and_then type_of o)) is ∙ ap (option_and_then (pointer_type insts)) (variable_type type id 7 (c.key (slot_start slot))) ∙ ap (option_and_then (λ (x : Inst). if nat_eq x.opcode 32 then Some x else None)) (key_is (Pointer storage.Function (slot_sort slot)) there.3.0)

  pub local_reached : (at : ℕ) (y : Inst) (slot : Slot) (id : ℕ) → c.slot slot ≡ Some id → low ≤ at → is_misused insts at y id ≡ false
  local_reached at y slot id e behind =
      let there = ahead.slots slot id e in
      let before : there.0 < low = there.2 in
      let type : ℕ = c.key (Pointer storage.Function (slot_sort slot)) in
      reached insts ahead.once at y there.0 id (slot_variable c.key id slot) there.1 (variable_is type id 7 (c.key (slot_start slot))) (local_reach insts at there.0 type id (c.key (slot_start slot)) (omega (arith, before, behind)))

  -- the variable points to its type
  pub local_points : (slot : Slot) (id : ℕ) → c.slot slot ≡ Some id → points_to insts (c.key (Plain (slot_sort slot))) id ≡ true
  unfolding points_to
  local_points slot id e =
      let type : ℕ = c.key (Plain (slot_sort slot)) in
      ap (λ o. option_map_or (λ (x : Inst). nat_eq (operand x 2) type) o false) (local_pointer slot id e) ∙ same type
    where
      same : (n : ℕ) → nat_eq n n ≡ true
      same n = grind arith
