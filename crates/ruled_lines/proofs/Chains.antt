-- The pointer to a word of a buffer or of a groupshared array keeps the rules: its indices lead to an integer.
use Rattle.std.proofs.Common.{◌≡◌, ℕ, suc, ◌≤◌, true, false, List, [], ◌∷◌, length, Some, None, refl, ap, ◌∙◌, arith}
use Rattle.std.specs.Prelude.{slice_get, slice_index, nat_eq, nat_le, ◌&&◌, option_and_then, if◌then◌else◌}
use Rattle.std.specs.Option.{option_map_or}
use Rattle.spv_form.specs.declared.module.Inst.{Inst}
use Rattle.spv_ids.specs.Roles.{operand}
use Rattle.spv_ids.specs.Ids.{definition}
use Rattle.type_rules.specs.Types.{is_int}
use Rattle.type_rules.specs.Values.{is_zero, is_int_value, behind, leads, pointer_type, pointer_of}
use Rattle.type_rules.specs.Fits.{group_of, fits, chain_fits, leads_to}
use Rattle.spirv_code.specs.declared.key.Sort.TheVariants as sort
use Rattle.spirv_code.specs.declared.key.Global.TheVariants.{Plain, Number, Buffer}
use Rattle.spirv_code.specs.Plans.{Context, inst, number, int_id, rows_of}
use Rattle.spirv_code.specs.Frame.{rowed, words_declaration}
use Rattle.line_runs.specs.Held.{Setting, Uses}
use Rattle.ruled_lines.specs.Kept.{IsValueAt, StandsAhead}
use Rattle.ruled_lines.proofs.Values.{value_is_int}
use Rattle.ruled_lines.proofs.Facts.{key_is, int_is, number_int, number_value}
use Rattle.ruled_lines.proofs.Globals.{block_used, words_used}
use Rattle.ruled_lines.proofs.Operations.{both}

eq_self : (n : ℕ) → nat_eq n n ≡ true
eq_self n = grind arith

-- what stands behind an index
behind_by : (insts : List Inst) (t v : ℕ) (x : Inst) → definition insts t ≡ Some x → behind insts t v ≡ (if nat_eq x.opcode 30 then (if is_zero insts v then Some (operand x 1) else None) else (if nat_eq x.opcode 23 then (if is_int_value insts v then Some (operand x 1) else None) else (if nat_eq x.opcode 28 then (if is_int_value insts v then Some (operand x 1) else None) else (if nat_eq x.opcode 29 then (if is_int_value insts v then Some (operand x 1) else None) else None))))
unfolding behind
behind_by insts t v x e =
    ap (option_and_then (λ (y : Inst). if nat_eq y.opcode 30 then (if is_zero insts v then Some (operand y 1) else None) else (if nat_eq y.opcode 23 then (if is_int_value insts v then Some (operand y 1) else None) else (if nat_eq y.opcode 28 then (if is_int_value insts v then Some (operand y 1) else None) else (if nat_eq y.opcode 29 then (if is_int_value insts v then Some (operand y 1) else None) else None))))) e

-- the type and the base are pointers of one class, and the indices lead from the one to the other
pub fits_chain : (insts : List Inst) (type id base class to from to_type : ℕ) (indices : List ℕ) → pointer_type insts type ≡ Some (inst 32 (type ∷ class ∷ to ∷ [])) → pointer_of insts base ≡ Some (inst 32 (from ∷ class ∷ to_type ∷ [])) → leads insts to_type indices ≡ Some to → fits insts (inst 65 (type ∷ id ∷ base ∷ indices)) ≡ true
unfolding fits group_of chain_fits leads_to
fits_chain insts type id base class to from to_type indices is_type is_base led =
    ap (λ o. nat_le 3 (length (type ∷ id ∷ base ∷ indices)) && option_map_or (λ (p : Inst). option_map_or (λ (q : Inst). nat_eq (operand p 1) (operand q 1) && option_map_or (λ t. nat_eq t (operand p 2)) (leads insts (operand q 2) indices) false) (pointer_of insts base) false) o false) is_type ∙ ap (λ o. nat_le 3 (length (type ∷ id ∷ base ∷ indices)) && option_map_or (λ (q : Inst). nat_eq class (operand q 1) && option_map_or (λ t. nat_eq t to) (leads insts (operand q 2) indices) false) o false) is_base ∙ ap (λ o. nat_le 3 (length (type ∷ id ∷ base ∷ indices)) && (nat_eq class class && option_map_or (λ t. nat_eq t to) o false)) led ∙ both (nat_le 3 (length (type ∷ id ∷ base ∷ indices))) (nat_eq class class && nat_eq to to) (three (length indices)) (both (nat_eq class class) (nat_eq to to) (eq_self class) (eq_self to))
  where
    three : (n : ℕ) → nat_le 3 (suc (suc (suc n))) ≡ true
    three n = grind arith

module _ (s : Setting) (low : ℕ) (ahead : StandsAhead s low) where
  abbrev insts : List Inst
  insts = s.made.insts

  abbrev c : Context
  c = s.context

  zero_is : Uses s (Number 0) → is_zero insts (number c 0) ≡ true
  unfolding is_zero
  zero_is uses =
      ap (λ o. option_map_or (λ (x : Inst). nat_eq x.opcode 43 && (is_int insts (operand x 0) && nat_eq (operand x 2) 0)) o false) (key_is s low ahead (Number 0) uses) ∙ both (is_int insts (int_id c)) (nat_eq 0 0) (int_is s low ahead (number_int s low ahead 0 uses)) refl

  -- from a buffer's structure to its words
  into_block : (r : ℕ) → Uses s (Buffer r) → Uses s (Number 0) → behind insts (c.key (Plain (sort.Block r))) (number c 0) ≡ Some (c.key (Plain (sort.Words r)))
  into_block r uses none =
      behind_by insts (c.key (Plain (sort.Block r))) (number c 0) (inst 30 (c.key (Plain (sort.Block r)) ∷ c.key (Plain (sort.Words r)) ∷ [])) (key_is s low ahead (Plain (sort.Block r)) (block_used s low ahead r uses)) ∙ ap (λ t. if t then Some (c.key (Plain (sort.Words r))) else None) (zero_is none)

  -- from words to an integer, by an index
  into_words : (r at w : ℕ) → rowed s.program r ≡ false → Uses s (Buffer r) → Uses s (Plain sort.Int) → IsValueAt insts at w (int_id c) → behind insts (c.key (Plain (sort.Words r))) w ≡ Some (int_id c)
  into_words r at w plain uses int value =
      behind_by insts (c.key (Plain (sort.Words r))) w (inst 29 (c.key (Plain (sort.Words r)) ∷ int_id c ∷ [])) (key_is s low ahead (Plain (sort.Words r)) (words_used s low ahead r uses) ∙ ap (λ t. Some (words_declaration s.program c.key (c.key (Plain (sort.Words r))) t r)) plain) ∙ ap (λ t. if t then Some (int_id c) else None) (value_is_int insts ahead.once at w (int_id c) value (int_is s low ahead int))

  -- the indices of a word of a raw or structured buffer
  pub words_lead : (r at w : ℕ) → rowed s.program r ≡ false → Uses s (Buffer r) → Uses s (Number 0) → IsValueAt insts at w (int_id c) → leads insts (c.key (Plain (sort.Block r))) (number c 0 ∷ w ∷ []) ≡ Some (int_id c)
  words_lead r at w plain uses none value =
      ap (option_and_then (λ u. leads insts u (w ∷ []))) (into_block r uses none) ∙ ap (option_and_then (λ u. leads insts u [])) (into_words r at w plain uses (number_int s low ahead 0 none) value)

  -- from rows to a row, and from it to a component
  into_rows : (r at w : ℕ) → rowed s.program r ≡ true → Uses s (Buffer r) → Uses s (Plain sort.Int) → IsValueAt insts at w (int_id c) → behind insts (c.key (Plain (sort.Words r))) w ≡ Some (c.key (Plain sort.Row))
  into_rows r at w rows uses int value =
      behind_by insts (c.key (Plain (sort.Words r))) w (inst 28 (c.key (Plain (sort.Words r)) ∷ c.key (Plain sort.Row) ∷ number c (rows_of (slice_get s.program.resources r)) ∷ [])) (key_is s low ahead (Plain (sort.Words r)) (words_used s low ahead r uses) ∙ ap (λ t. Some (words_declaration s.program c.key (c.key (Plain (sort.Words r))) t r)) rows) ∙ ap (λ t. if t then Some (c.key (Plain sort.Row)) else None) (value_is_int insts ahead.once at w (int_id c) value (int_is s low ahead int))

  into_row : (at w : ℕ) → Uses s (Plain sort.Row) → Uses s (Plain sort.Int) → IsValueAt insts at w (int_id c) → behind insts (c.key (Plain sort.Row)) w ≡ Some (int_id c)
  into_row at w row int value =
      behind_by insts (c.key (Plain sort.Row)) w (inst 23 (c.key (Plain sort.Row) ∷ int_id c ∷ 4 ∷ [])) (key_is s low ahead (Plain sort.Row) row) ∙ ap (λ t. if t then Some (int_id c) else None) (value_is_int insts ahead.once at w (int_id c) value (int_is s low ahead int))

  pub rows_lead : (r at w part : ℕ) → low ≤ at → rowed s.program r ≡ true → Uses s (Buffer r) → Uses s (Plain sort.Row) → Uses s (Number 0) → Uses s (Number part) → IsValueAt insts at w (int_id c) → leads insts (c.key (Plain (sort.Block r))) (number c 0 ∷ w ∷ number c part ∷ []) ≡ Some (int_id c)
  rows_lead r at w part later rows uses row none component value =
      let int = number_int s low ahead 0 none in
      ap (option_and_then (λ u. leads insts u (w ∷ number c part ∷ []))) (into_block r uses none) ∙ ap (option_and_then (λ u. leads insts u (number c part ∷ []))) (into_rows r at w rows uses int value) ∙ ap (option_and_then (λ u. leads insts u [])) (into_row at (number c part) row int (number_value s low ahead at part component later))

  -- from a groupshared array to an integer
  pub array_leads : (a at w : ℕ) → Uses s (Plain (sort.Array a)) → Uses s (Plain sort.Int) → IsValueAt insts at w (int_id c) → leads insts (c.key (Plain (sort.Array a))) (w ∷ []) ≡ Some (int_id c)
  array_leads a at w array int value =
      ap (option_and_then (λ u. leads insts u [])) (behind_by insts (c.key (Plain (sort.Array a))) w (inst 28 (c.key (Plain (sort.Array a)) ∷ int_id c ∷ number c (slice_index s.program.shared a) ∷ [])) (key_is s low ahead (Plain (sort.Array a)) array) ∙ ap (λ t. if t then Some (int_id c) else None) (value_is_int insts ahead.once at w (int_id c) value (int_is s low ahead int)))
