-- What is known of the variables outside the function: pointers to their types.
use Rattle.std.proofs.Common.{◌≡◌, ℕ, true, false, List, [], ◌∷◌, length, Some, None, refl, ap, ◌∙◌, arith}
use Rattle.std.specs.Prelude.{nat_eq, ◌&&◌, option_and_then, if◌then◌else◌}
use Rattle.std.specs.Option.{option_map_or}
use Rattle.spv_form.specs.declared.module.Inst.{Inst}
use Rattle.spv_form.specs.Shapes.{shape_of}
use Rattle.spv_ids.specs.Roles.{operand, type_of}
use Rattle.type_rules.specs.Values.{value_type, pointer_type, pointer_of, points_to, is_runtime_array, holds_runtime_array, points_to_runtime_array}
use Rattle.spirv_code.specs.declared.key.Sort.{Sort}
use Rattle.spirv_code.specs.declared.key.Sort.TheVariants as sort
use Rattle.spirv_code.specs.declared.key.Storage.{Storage}
use Rattle.spirv_code.specs.declared.key.Storage.TheVariants as storage
use Rattle.spirv_code.specs.declared.key.BuiltIn.{BuiltIn}
use Rattle.spirv_code.specs.declared.key.Global.{Global}
use Rattle.spirv_code.specs.declared.key.Global.TheVariants.{Plain, Pointer, Input, Buffer, Shared}
use Rattle.spirv_code.specs.Keys.{storage_class}
use Rattle.spirv_code.specs.Plans.{Context, inst}
use Rattle.spirv_code.specs.Frame.{rowed, buffer_storage, input_sort, declaration, words_declaration}
use Rattle.line_runs.specs.Held.{Setting, Uses}
use Rattle.ruled_lines.specs.Kept.{StandsAhead}
use Rattle.ruled_lines.proofs.Facts.{key_is}

global_type : (t id class : ℕ) → type_of (inst 59 (t ∷ id ∷ class ∷ [])) ≡ Some t
unfolding type_of shape_of
global_type t id class = refl

eq_self : (n : ℕ) → nat_eq n n ≡ true
eq_self n = grind arith

module _ (s : Setting) (low : ℕ) (ahead : StandsAhead s low) where
  abbrev insts : List Inst
  insts = s.made.insts

  abbrev c : Context
  c = s.context

  -- the pointer type of a variable outside the function
  global_pointer : (g : Global) (st : Storage) (so : Sort) (class : ℕ) → Uses s g → declaration s.program c.key (c.key g) g ≡ inst 59 (c.key (Pointer st so) ∷ c.key g ∷ class ∷ []) → Uses s (Pointer st so) → pointer_of insts (c.key g) ≡ Some (inst 32 (c.key (Pointer st so) ∷ storage_class st ∷ c.key (Plain so) ∷ []))
  unfolding pointer_of value_type pointer_type
  global_pointer g st so class uses is pointer =
      ap (λ o. option_and_then (pointer_type insts) (option_and_then type_of o)) (key_is s low ahead g uses ∙ ap (λ (x : Inst). Some x) is) ∙ ap (option_and_then (pointer_type insts)) (global_type (c.key (Pointer st so)) (c.key g) class) ∙ ap (option_and_then (λ (x : Inst). if nat_eq x.opcode 32 then Some x else None)) (key_is s low ahead (Pointer st so) pointer)

  -- ---- inputs

  pub input_used : (b : BuiltIn) → Uses s (Input b) → Uses s (Pointer storage.Input (input_sort b))
  input_used b uses = (ahead.closed (Input b) uses).0

  pub input_sort_used : (b : BuiltIn) → Uses s (Input b) → Uses s (Plain (input_sort b))
  input_sort_used b uses = (ahead.closed (Pointer storage.Input (input_sort b)) (input_used b uses)).0

  pub input_points : (b : BuiltIn) → Uses s (Input b) → points_to insts (c.key (Plain (input_sort b))) (c.key (Input b)) ≡ true
  unfolding points_to
  input_points b uses =
      ap (λ o. option_map_or (λ (x : Inst). nat_eq (operand x 2) (c.key (Plain (input_sort b)))) o false) (global_pointer (Input b) storage.Input (input_sort b) 1 uses refl (input_used b uses)) ∙ eq_self (c.key (Plain (input_sort b)))

  -- ---- buffers

  pub buffer_pointer : (r : ℕ) → Uses s (Buffer r) → pointer_of insts (c.key (Buffer r)) ≡ Some (inst 32 (c.key (Pointer (buffer_storage (rowed s.program r)) (sort.Block r)) ∷ storage_class (buffer_storage (rowed s.program r)) ∷ c.key (Plain (sort.Block r)) ∷ []))
  buffer_pointer r uses =
      global_pointer (Buffer r) (buffer_storage (rowed s.program r)) (sort.Block r) (storage_class (buffer_storage (rowed s.program r))) uses refl (ahead.closed (Buffer r) uses).0

  pub block_used : (r : ℕ) → Uses s (Buffer r) → Uses s (Plain (sort.Block r))
  block_used r uses =
      (ahead.closed (Pointer (buffer_storage (rowed s.program r)) (sort.Block r)) (ahead.closed (Buffer r) uses).0).0

  pub words_used : (r : ℕ) → Uses s (Buffer r) → Uses s (Plain (sort.Words r))
  words_used r uses = (ahead.closed (Plain (sort.Block r)) (block_used r uses)).0

  -- the words of a buffer without rows
  runtime : (r : ℕ) → rowed s.program r ≡ false → Uses s (Buffer r) → is_runtime_array insts (c.key (Plain (sort.Words r))) ≡ true
  unfolding is_runtime_array
  runtime r plain uses =
      ap (λ o. option_map_or (λ (x : Inst). nat_eq x.opcode 29) o false) (key_is s low ahead (Plain (sort.Words r)) (words_used r uses)) ∙ ap (λ t. nat_eq (words_declaration s.program c.key (c.key (Plain (sort.Words r))) t r).opcode 29) plain

  holds : (r : ℕ) → rowed s.program r ≡ false → Uses s (Buffer r) → holds_runtime_array insts (c.key (Plain (sort.Block r))) ≡ true
  unfolding holds_runtime_array
  holds r plain uses =
      ap (λ o. option_map_or (λ (x : Inst). nat_eq x.opcode 30 && (nat_eq (length x.operands) 2 && is_runtime_array insts (operand x 1))) o false) (key_is s low ahead (Plain (sort.Block r)) (block_used r uses)) ∙ runtime r plain uses

  pub buffer_runtime : (r : ℕ) → rowed s.program r ≡ false → Uses s (Buffer r) → points_to_runtime_array insts (c.key (Buffer r)) ≡ true
  unfolding points_to_runtime_array
  buffer_runtime r plain uses =
      ap (λ o. option_map_or (λ (x : Inst). holds_runtime_array insts (operand x 2)) o false) (buffer_pointer r uses) ∙ holds r plain uses

  -- ---- groupshared arrays

  pub shared_pointer : (a : ℕ) → Uses s (Shared a) → Uses s (Pointer storage.Workgroup (sort.Array a)) → pointer_of insts (c.key (Shared a)) ≡ Some (inst 32 (c.key (Pointer storage.Workgroup (sort.Array a)) ∷ storage_class storage.Workgroup ∷ c.key (Plain (sort.Array a)) ∷ []))
  shared_pointer a uses pointer = global_pointer (Shared a) storage.Workgroup (sort.Array a) 4 uses refl pointer
