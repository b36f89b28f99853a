-- The declaration of a key keeps the rules where all that it names is in reach, and so does a variable of the function.
use Rattle.std.proofs.Common.{◌≡◌, ℕ, zero, suc, Bool, true, false, List, [], ◌∷◌, Some, None, refl, sym, ap, ◌∙◌, arith}
use Rattle.std.specs.Prelude.{nat_eq, nat_le, ◌&&◌, ◌||◌, option_and_then, if◌then◌else◌}
use Rattle.std.specs.Option.{option_map_or}
use Rattle.spv_form.specs.declared.module.Inst.{Inst}
use Rattle.spv_form.specs.declared.shape.Shape.TheVariants.{Plain as PlainShape}
use Rattle.spv_form.specs.Shapes.{shape_of}
use Rattle.spv_ids.specs.Roles.{operand}
use Rattle.id_rules.specs.Uses.{is_misused}
use Rattle.type_rules.specs.Types.{is_int, is_bool}
use Rattle.type_rules.specs.Values.{has_type, pointer_type}
use Rattle.type_rules.specs.Fits.{group_of, fits, variable_fits}
use Rattle.spirv_code.specs.declared.key.Sort.{Sort}
use Rattle.spirv_code.specs.declared.key.Sort.TheVariants as sort
use Rattle.spirv_code.specs.declared.key.Storage.{Storage}
use Rattle.spirv_code.specs.declared.key.Storage.TheVariants as storage
use Rattle.spirv_code.specs.declared.key.Global.{Global}
use Rattle.spirv_code.specs.declared.key.Global.TheVariants.{Plain, Pointer, Number, Truth, Input, Buffer, Shared}
use Rattle.spirv_code.specs.declared.key.Slot.{Slot}
use Rattle.spirv_code.specs.declared.key.Slot.TheVariants.{Next, Kept, Want, Pick}
use Rattle.spirv_code.specs.Keys.{storage_class}
use Rattle.spirv_code.specs.Plans.{Context, inst, int_id, bool_id}
use Rattle.spirv_code.specs.Frame.{rowed, buffer_storage, input_sort, words_needs, needs, words_declaration, declaration, slot_sort, slot_start, slot_variable}
use Rattle.line_runs.specs.Held.{Setting, Uses}
use Rattle.line_runs.proofs.Tests.{none_some, true_false, nat_eq-refl}
use Rattle.ruled_lines.specs.Kept.{KeepsRules, StandsAhead}
use Rattle.ruled_lines.proofs.Values.{value_has_type}
use Rattle.ruled_lines.proofs.Facts.{key_is, int_is, bool_is, number_value, truth_value}
use Rattle.ruled_lines.proofs.Operations.{both}
use Rattle.ruled_heads.proofs.Reach.{no_misuse, other_kept}

-- a pointer of that class
fits_variable : (insts : List Inst) (type id class of to : ℕ) → pointer_type insts type ≡ Some (inst 32 (of ∷ class ∷ to ∷ [])) → fits insts (inst 59 (type ∷ id ∷ class ∷ [])) ≡ true
unfolding fits group_of variable_fits
fits_variable insts type id class of to is =
    ap (λ o. option_map_or (λ (p : Inst). nat_eq (operand p 1) class && (nat_le 3 3 || has_type insts (operand p 2) 0)) o false) is ∙ both (nat_eq class class) true (nat_eq-refl class) refl

-- and a value of its pointee
fits_started : (insts : List Inst) (type id class start of to : ℕ) → pointer_type insts type ≡ Some (inst 32 (of ∷ class ∷ to ∷ [])) → has_type insts to start ≡ true → fits insts (inst 59 (type ∷ id ∷ class ∷ start ∷ [])) ≡ true
unfolding fits group_of variable_fits
fits_started insts type id class start of to is value =
    ap (λ o. option_map_or (λ (p : Inst). nat_eq (operand p 1) class && (nat_le 4 3 || has_type insts (operand p 2) start)) o false) is ∙ both (nat_eq class class) (has_type insts to start) (nat_eq-refl class) value

module _ (s : Setting) (low : ℕ) (ahead : StandsAhead s low) (at : ℕ) where
  abbrev insts : List Inst
  insts = s.made.insts

  abbrev c : Context
  c = s.context

  -- a key whose id may be used there
  abbrev pub Reached : Global → Type 0
  Reached g = (y : Inst) → is_misused insts at y (c.key g) ≡ false

  abbrev pub AreReached : List Global → Type 0
  AreReached [] = Unit {0}
  AreReached (g ∷ gs) = Reached g × AreReached gs

  -- ---- types

  int_kept : (n : ℕ) → KeepsRules insts at (inst 21 (n ∷ 32 ∷ 0 ∷ []))
  unfolding shape_of group_of
  int_kept n =
      other_kept insts at 21 (n ∷ 32 ∷ 0 ∷ []) (PlainShape false true 2 2 3) refl refl refl ((λ is no. absurd (no refl)), ((λ is no. absurd (true_false (sym is))), ((λ is no. absurd (true_false (sym is))), tt)))

  bool_kept : (n : ℕ) → KeepsRules insts at (inst 20 (n ∷ []))
  unfolding shape_of group_of
  bool_kept n = other_kept insts at 20 (n ∷ []) (PlainShape false true 0 0 0) refl refl refl ((λ is no. absurd (no refl)), tt)

  vector_kept : (n m : ℕ) → Reached (Plain sort.Int) → KeepsRules insts at (inst 23 (n ∷ c.key (Plain sort.Int) ∷ m ∷ []))
  unfolding shape_of group_of
  vector_kept n m int =
      other_kept insts at 23 (n ∷ c.key (Plain sort.Int) ∷ m ∷ []) (PlainShape false true 2 2 2) refl refl refl ((λ is no. absurd (no refl)), ((λ is no. int _), ((λ is no. absurd (true_false (sym is))), tt)))

  array_kept : (n : ℕ) (element count : Global) → Reached element → Reached count → KeepsRules insts at (inst 28 (n ∷ c.key element ∷ c.key count ∷ []))
  unfolding shape_of group_of
  array_kept n element count e k =
      other_kept insts at 28 (n ∷ c.key element ∷ c.key count ∷ []) (PlainShape false true 2 2 0) refl refl refl ((λ is no. absurd (no refl)), ((λ is no. e _), ((λ is no. k _), tt)))

  runtime_kept : (n : ℕ) (element : Global) → Reached element → KeepsRules insts at (inst 29 (n ∷ c.key element ∷ []))
  unfolding shape_of group_of
  runtime_kept n element e =
      other_kept insts at 29 (n ∷ c.key element ∷ []) (PlainShape false true 1 1 0) refl refl refl ((λ is no. absurd (no refl)), ((λ is no. e _), tt))

  block_kept : (n : ℕ) (words : Global) → Reached words → KeepsRules insts at (inst 30 (n ∷ c.key words ∷ []))
  unfolding shape_of group_of
  block_kept n words w =
      other_kept insts at 30 (n ∷ c.key words ∷ []) (PlainShape false true 0 65535 0) refl refl refl ((λ is no. absurd (no refl)), ((λ is no. w _), tt))

  pointer_kept : (n class : ℕ) (to : Global) → Reached to → KeepsRules insts at (inst 32 (n ∷ class ∷ c.key to ∷ []))
  unfolding shape_of group_of
  pointer_kept n class to r =
      other_kept insts at 32 (n ∷ class ∷ c.key to ∷ []) (PlainShape false true 2 2 1) refl refl refl ((λ is no. absurd (no refl)), ((λ is no. absurd (true_false (sym is))), ((λ is no. r _), tt)))

  words_kept : (n r : ℕ) (b : Bool) → AreReached (words_needs s.program b r) → KeepsRules insts at (words_declaration s.program c.key n b r)
  words_kept n r true h = array_kept n _ _ h.0 h.1.0
  words_kept n r false h = runtime_kept n _ h.0

  sort_kept : (n : ℕ) (so : Sort) → AreReached (needs s.program (Plain so)) → KeepsRules insts at (declaration s.program c.key n (Plain so))
  sort_kept n sort.Int h = int_kept n
  sort_kept n sort.Bool h = bool_kept n
  sort_kept n sort.Triple h = vector_kept n 3 h.0
  sort_kept n sort.Row h = vector_kept n 4 h.0
  sort_kept n (sort.Words r) h = words_kept n r (rowed s.program r) h
  sort_kept n (sort.Block r) h = block_kept n (Plain (sort.Words r)) h.0
  sort_kept n (sort.Array a) h = array_kept n _ _ h.0 h.1.0

  -- ---- constants

  fits_number : (n m : ℕ) → is_int insts (int_id c) ≡ true → fits insts (inst 43 (int_id c ∷ n ∷ m ∷ [])) ≡ true
  unfolding fits group_of
  fits_number n m int = int

  number_kept : (n m : ℕ) → Uses s (Plain sort.Int) → Reached (Plain sort.Int) → KeepsRules insts at (inst 43 (int_id c ∷ n ∷ m ∷ []))
  unfolding shape_of
  number_kept n m uses int =
      record {
        in_reach = no_misuse insts at (inst 43 (int_id c ∷ n ∷ m ∷ [])) (PlainShape true true 1 1 1) refl ((λ is no. int _), ((λ is no. absurd (no refl)), ((λ is no. absurd (true_false (sym is))), tt)));
        fitting = fits_number n m (int_is s low ahead uses);
        writable = λ pointer e read_only. none_some e;
      }

  fits_true : (n : ℕ) → is_bool insts (bool_id c) ≡ true → fits insts (inst 41 (bool_id c ∷ n ∷ [])) ≡ true
  unfolding fits group_of
  fits_true n bool = bool

  fits_false : (n : ℕ) → is_bool insts (bool_id c) ≡ true → fits insts (inst 42 (bool_id c ∷ n ∷ [])) ≡ true
  unfolding fits group_of
  fits_false n bool = bool

  truth_kept : (n : ℕ) (b : Bool) → Uses s (Plain sort.Bool) → Reached (Plain sort.Bool) → KeepsRules insts at (declaration s.program c.key n (Truth b))
  unfolding shape_of
  truth_kept n true uses bool =
      record {
        in_reach = no_misuse insts at (inst 41 (bool_id c ∷ n ∷ [])) (PlainShape true true 0 0 0) refl ((λ is no. bool _), ((λ is no. absurd (no refl)), tt));
        fitting = fits_true n (bool_is s low ahead uses);
        writable = λ pointer e read_only. none_some e;
      }
  truth_kept n false uses bool =
      record {
        in_reach = no_misuse insts at (inst 42 (bool_id c ∷ n ∷ [])) (PlainShape true true 0 0 0) refl ((λ is no. bool _), ((λ is no. absurd (no refl)), tt));
        fitting = fits_false n (bool_is s low ahead uses);
        writable = λ pointer e read_only. none_some e;
      }

  -- ---- variables

  pointer_is : (st : Storage) (so : Sort) → Uses s (Pointer st so) → pointer_type insts (c.key (Pointer st so)) ≡ Some (inst 32 (c.key (Pointer st so) ∷ storage_class st ∷ c.key (Plain so) ∷ []))
  unfolding pointer_type
  pointer_is st so uses =
      ap (option_and_then (λ (x : Inst). if nat_eq x.opcode 32 then Some x else None)) (key_is s low ahead (Pointer st so) uses)

  variable_kept : (n : ℕ) (st : Storage) (so : Sort) → Uses s (Pointer st so) → Reached (Pointer st so) → KeepsRules insts at (inst 59 (c.key (Pointer st so) ∷ n ∷ storage_class st ∷ []))
  unfolding shape_of
  variable_kept n st so uses reached =
      let type : ℕ = c.key (Pointer st so) in
      record {
        in_reach = no_misuse insts at (inst 59 (type ∷ n ∷ storage_class st ∷ [])) (PlainShape true true 1 2 1) refl ((λ is no. reached _), ((λ is no. absurd (no refl)), ((λ is no. absurd (true_false (sym is))), tt)));
        fitting = fits_variable insts type n (storage_class st) type (c.key (Plain so)) (pointer_is st so uses);
        writable = λ pointer e read_only. none_some e;
      }

  shared_kept : (n a : ℕ) → Uses s (Shared a) → AreReached (needs s.program (Shared a)) → KeepsRules insts at (declaration s.program c.key n (Shared a))
  shared_kept n zero uses h = variable_kept n storage.Workgroup (sort.Array 0) (ahead.closed (Shared 0) uses).0 h.0
  shared_kept n (suc a) uses h = variable_kept n storage.Workgroup (sort.Array (suc a)) (ahead.closed (Shared (suc a)) uses).0 h.0

  -- ---- keys

  pub key_kept : (n : ℕ) (g : Global) → Uses s g → AreReached (needs s.program g) → KeepsRules insts at (declaration s.program c.key n g)
  key_kept n (Plain so) uses h = sort_kept n so h
  key_kept n (Pointer st so) uses h = pointer_kept n (storage_class st) (Plain so) h.0
  key_kept n (Number m) uses h = number_kept n m (ahead.closed (Number m) uses).0 h.0
  key_kept n (Truth b) uses h = truth_kept n b (ahead.closed (Truth b) uses).0 h.0
  key_kept n (Input b) uses h = variable_kept n storage.Input (input_sort b) (ahead.closed (Input b) uses).0 h.0
  key_kept n (Buffer r) uses h = variable_kept n (buffer_storage (rowed s.program r)) (sort.Block r) (ahead.closed (Buffer r) uses).0 h.0
  key_kept n (Shared a) uses h = shared_kept n a uses h

  -- ---- variables of the function

  -- zero and false have their types
  zero_typed : Uses s (Number 0) → has_type insts (int_id c) (c.key (Number 0)) ≡ true
  zero_typed uses = value_has_type insts ahead.once low (c.key (Number 0)) (int_id c) (number_value s low ahead low 0 uses (omega arith))

  false_typed : Uses s (Truth false) → has_type insts (bool_id c) (c.key (Truth false)) ≡ true
  false_typed uses = value_has_type insts ahead.once low (c.key (Truth false)) (bool_id c) (truth_value s low ahead low false uses (omega arith))

  start_typed : (slot : Slot) → Uses s (slot_start slot) → has_type insts (c.key (Plain (slot_sort slot))) (c.key (slot_start slot)) ≡ true
  start_typed (Next value part true) uses = false_typed uses
  start_typed (Next value part false) uses = zero_typed uses
  start_typed (Kept value part true) uses = false_typed uses
  start_typed (Kept value part false) uses = zero_typed uses
  start_typed Want uses = zero_typed uses
  start_typed Pick uses = zero_typed uses

  pub slot_kept : (n : ℕ) (slot : Slot) → Uses s (Pointer storage.Function (slot_sort slot)) → Uses s (slot_start slot) → Reached (Pointer storage.Function (slot_sort slot)) → Reached (slot_start slot) → KeepsRules insts at (slot_variable c.key n slot)
  unfolding shape_of
  slot_kept n slot uses starts reached start_reached =
      let type : ℕ = c.key (Pointer storage.Function (slot_sort slot)) in
      let start : ℕ = c.key (slot_start slot) in
      record {
        in_reach = no_misuse insts at (inst 59 (type ∷ n ∷ 7 ∷ start ∷ [])) (PlainShape true true 1 2 1) refl ((λ is no. reached _), ((λ is no. absurd (no refl)), ((λ is no. absurd (true_false (sym is))), ((λ is no. start_reached _), tt))));
        fitting = fits_started insts type n 7 start type (c.key (Plain (slot_sort slot))) (pointer_is storage.Function (slot_sort slot) uses) (start_typed slot starts);
        writable = λ pointer e read_only. none_some e;
      }
