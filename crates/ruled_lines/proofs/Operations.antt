-- Operations on values keep the rules, and give values.
use Rattle.std.proofs.Common.{◌≡◌, ℕ, ◌+◌, ◌≤◌, Bool, true, false, List, [], ◌∷◌, Some, None, sym, ap, ◌∙◌, arith, inr}
use Rattle.std.specs.Prelude.{slice_get, nat_eq, ◌&&◌, option_and_then, if◌then◌else◌}
use Rattle.spv_form.specs.declared.module.Inst.{Inst}
use Rattle.spv_form.specs.declared.shape.Shape.TheVariants.{Plain}
use Rattle.spv_form.specs.Shapes.{shape_of}
use Rattle.spv_ids.specs.Roles.{is_typed, type_of}
use Rattle.type_rules.specs.Types.{is_int, is_bool}
use Rattle.type_rules.specs.Values.{is_int_value, is_bool_value}
use Rattle.type_rules.specs.Fits.{group_of, fits_as, fits, both_ints, both_bools}
use Rattle.type_rules.specs.declared.group.Group.TheVariants.{Arithmetic, Compare, Logic}
use Rattle.decoration_rules.specs.ReadOnly.{written_by}
use Rattle.spirv_code.specs.declared.key.Sort.TheVariants as sort
use Rattle.spirv_code.specs.declared.key.Global.TheVariants.{Plain as PlainKey}
use Rattle.spirv_code.specs.Plans.{Context, inst, int_id, bool_id}
use Rattle.line_runs.specs.Held.{Setting, Uses}
use Rattle.line_runs.proofs.Tests.{none_some}
use Rattle.ruled_ids.proofs.Seats.{made}
use Rattle.ruled_lines.specs.Kept.{KeepsRules, IsValueAt, StandsAhead}
use Rattle.ruled_lines.proofs.Values.{value_reached, value_is_int, value_is_bool, typed_reach}
use Rattle.ruled_lines.proofs.Facts.{key_reached, int_is, bool_is}
use Rattle.ruled_lines.proofs.Readings.{block_next}

pub both : (a b : Bool) → a ≡ true → b ≡ true → (a && b) ≡ true
both a b e f = ap (λ x. x && b) e ∙ f

typed_as : (opcode type id : ℕ) (rest : List ℕ) (least most numbers : ℕ) → shape_of opcode ≡ Some (Plain true true least most numbers) → type_of (inst opcode (type ∷ id ∷ rest)) ≡ Some type
unfolding type_of
typed_as opcode type id rest least most numbers e =
    ap (λ s. option_and_then (λ t. if is_typed t then slice_get (type ∷ id ∷ rest) 0 else None) s) e

fits_arithmetic : (insts : List Inst) (opcode type id a b : ℕ) → group_of opcode ≡ Arithmetic → is_int insts type ≡ true → is_int_value insts a ≡ true → is_int_value insts b ≡ true → fits insts (inst opcode (type ∷ id ∷ a ∷ b ∷ [])) ≡ true
unfolding fits both_ints
fits_arithmetic insts opcode type id a b group int ha hb =
    ap (fits_as insts (inst opcode (type ∷ id ∷ a ∷ b ∷ []))) group ∙ both (is_int insts type) (is_int_value insts a && is_int_value insts b) int (both (is_int_value insts a) (is_int_value insts b) ha hb)

fits_compare : (insts : List Inst) (opcode type id a b : ℕ) → group_of opcode ≡ Compare → is_bool insts type ≡ true → is_int_value insts a ≡ true → is_int_value insts b ≡ true → fits insts (inst opcode (type ∷ id ∷ a ∷ b ∷ [])) ≡ true
unfolding fits both_ints
fits_compare insts opcode type id a b group bool ha hb =
    ap (fits_as insts (inst opcode (type ∷ id ∷ a ∷ b ∷ []))) group ∙ both (is_bool insts type) (is_int_value insts a && is_int_value insts b) bool (both (is_int_value insts a) (is_int_value insts b) ha hb)

fits_logic : (insts : List Inst) (opcode type id a b : ℕ) → group_of opcode ≡ Logic → is_bool insts type ≡ true → is_bool_value insts a ≡ true → is_bool_value insts b ≡ true → fits insts (inst opcode (type ∷ id ∷ a ∷ b ∷ [])) ≡ true
unfolding fits both_bools
fits_logic insts opcode type id a b group bool ha hb =
    ap (fits_as insts (inst opcode (type ∷ id ∷ a ∷ b ∷ []))) group ∙ both (is_bool insts type) (is_bool_value insts a && is_bool_value insts b) bool (both (is_bool_value insts a) (is_bool_value insts b) ha hb)

-- nothing is written
abbrev pub WritesNothing : ℕ → Type 0
WritesNothing opcode = (operands : List ℕ) → written_by (inst opcode operands) ≡ None

module _ (s : Setting) (low : ℕ) (ahead : StandsAhead s low) where
  abbrev insts : List Inst
  insts = s.made.insts

  abbrev c : Context
  c = s.context

  -- what an instruction gives is a value behind it
  pub made_value : (place opcode type id : ℕ) (rest : List ℕ) (least most numbers : ℕ) → slice_get insts place ≡ Some (inst opcode (type ∷ id ∷ rest)) → shape_of opcode ≡ Some (Plain true true least most numbers) → nat_eq opcode 248 ≡ false → IsValueAt insts (place + 1) id type
  made_value place opcode type id rest least most numbers there shape other =
      record {
        place = place;
        by = inst opcode (type ∷ id ∷ rest);
        there = there;
        defines = made opcode type id rest least most numbers shape;
        typed = typed_as opcode type id rest least most numbers shape;
        before = omega arith;
        near = inr (block_next insts place (inst opcode (type ∷ id ∷ rest)) there other);
      }

  -- two numbers give a number
  pub arithmetic_kept : (at opcode id a b : ℕ) → group_of opcode ≡ Arithmetic → shape_of opcode ≡ Some (Plain true true 2 2 0) → WritesNothing opcode → Uses s (PlainKey sort.Int) → low ≤ at → IsValueAt insts at a (int_id c) → IsValueAt insts at b (int_id c) → KeepsRules insts at (inst opcode (int_id c ∷ id ∷ a ∷ b ∷ []))
  arithmetic_kept at opcode id a b group shape quiet uses behind va vb =
      let x : Inst = inst opcode (int_id c ∷ id ∷ a ∷ b ∷ []) in
      let int = int_is s low ahead uses in
      record {
        in_reach = typed_reach insts ahead.once at opcode (int_id c) id (a ∷ b ∷ []) 2 2 shape (key_reached s low ahead at x (PlainKey sort.Int) uses behind) (value_reached insts ahead.once at x a (int_id c) va, (value_reached insts ahead.once at x b (int_id c) vb, tt));
        fitting = fits_arithmetic insts opcode (int_id c) id a b group int (value_is_int insts ahead.once at a (int_id c) va int) (value_is_int insts ahead.once at b (int_id c) vb int);
        writable = λ pointer e read_only. none_some (sym (quiet (int_id c ∷ id ∷ a ∷ b ∷ [])) ∙ e);
      }

  -- two numbers give a truth value
  pub compare_kept : (at opcode id a b : ℕ) → group_of opcode ≡ Compare → shape_of opcode ≡ Some (Plain true true 2 2 0) → WritesNothing opcode → Uses s (PlainKey sort.Int) → Uses s (PlainKey sort.Bool) → low ≤ at → IsValueAt insts at a (int_id c) → IsValueAt insts at b (int_id c) → KeepsRules insts at (inst opcode (bool_id c ∷ id ∷ a ∷ b ∷ []))
  compare_kept at opcode id a b group shape quiet uses truths behind va vb =
      let x : Inst = inst opcode (bool_id c ∷ id ∷ a ∷ b ∷ []) in
      let int = int_is s low ahead uses in
      record {
        in_reach = typed_reach insts ahead.once at opcode (bool_id c) id (a ∷ b ∷ []) 2 2 shape (key_reached s low ahead at x (PlainKey sort.Bool) truths behind) (value_reached insts ahead.once at x a (int_id c) va, (value_reached insts ahead.once at x b (int_id c) vb, tt));
        fitting = fits_compare insts opcode (bool_id c) id a b group (bool_is s low ahead truths) (value_is_int insts ahead.once at a (int_id c) va int) (value_is_int insts ahead.once at b (int_id c) vb int);
        writable = λ pointer e read_only. none_some (sym (quiet (bool_id c ∷ id ∷ a ∷ b ∷ [])) ∙ e);
      }

  -- two truth values give one
  pub logic_kept : (at opcode id a b : ℕ) → group_of opcode ≡ Logic → shape_of opcode ≡ Some (Plain true true 2 2 0) → WritesNothing opcode → Uses s (PlainKey sort.Bool) → low ≤ at → IsValueAt insts at a (bool_id c) → IsValueAt insts at b (bool_id c) → KeepsRules insts at (inst opcode (bool_id c ∷ id ∷ a ∷ b ∷ []))
  logic_kept at opcode id a b group shape quiet truths behind va vb =
      let x : Inst = inst opcode (bool_id c ∷ id ∷ a ∷ b ∷ []) in
      let bool = bool_is s low ahead truths in
      record {
        in_reach = typed_reach insts ahead.once at opcode (bool_id c) id (a ∷ b ∷ []) 2 2 shape (key_reached s low ahead at x (PlainKey sort.Bool) truths behind) (value_reached insts ahead.once at x a (bool_id c) va, (value_reached insts ahead.once at x b (bool_id c) vb, tt));
        fitting = fits_logic insts opcode (bool_id c) id a b group bool (value_is_bool insts ahead.once at a (bool_id c) va bool) (value_is_bool insts ahead.once at b (bool_id c) vb bool);
        writable = λ pointer e read_only. none_some (sym (quiet (bool_id c ∷ id ∷ a ∷ b ∷ [])) ∙ e);
      }
