-- Selects and operations on one number keep the rules, and so do the lines that are made of them.
use Rattle.std.proofs.Common.{◌≡◌, ℕ, ◌+◌, ◌≤◌, true, false, List, [], ◌∷◌, ◌++◌, Some, refl, sym, ap, ◌∙◌, subst, arith}
use Rattle.std.specs.Prelude.{nat_eq, ◌&&◌}
use Rattle.dxil_form.specs.declared.value.Ty.{Ty}
use Rattle.dxil_form.specs.declared.value.Ty.TheVariants as ty
use Rattle.dxil_form.specs.declared.value.Reg.{Reg}
use Rattle.dxil_form.specs.declared.value.Operand.{Operand}
use Rattle.dxil_form.specs.declared.value.Operand.TheVariants as operand
use Rattle.dxil_form.specs.declared.instr.OneOp.{OneOp}
use Rattle.dxil_form.specs.declared.instr.OneOp.TheVariants as one
use Rattle.dxil_form.specs.Sound.{HasType}
use Rattle.spv_form.specs.declared.module.Inst.{Inst}
use Rattle.spv_form.specs.declared.shape.Shape.TheVariants.{Plain}
use Rattle.spv_form.specs.Shapes.{shape_of}
use Rattle.spv_ids.specs.Places.{block_of}
use Rattle.type_rules.specs.Types.{is_int}
use Rattle.type_rules.specs.Values.{is_int_value, is_bool_value, has_type}
use Rattle.type_rules.specs.Fits.{group_of, fits_as, fits, select_fits}
use Rattle.type_rules.specs.declared.group.Group.TheVariants.{Bits}
use Rattle.spirv_code.specs.declared.key.Sort.TheVariants as sort
use Rattle.spirv_code.specs.declared.key.Global.TheVariants.{Plain as PlainKey, Truth}
use Rattle.spirv_code.specs.Plans.{Context, inst, result, int_id, bool_id, type_id, sort_of}
use Rattle.spirv_code.specs.Reads.{Env, with_id, read_size, read_code, read_id, two_size, two_code, second_id, three_size, three_code}
use Rattle.spirv_code.specs.Needed.{operand_keys, two_keys, three_keys}
use Rattle.spirv_code.specs.Lines.{one_opcode, value_code, select_code, one_code}
use Rattle.line_runs.specs.Held.{Setting, Has, Uses}
use Rattle.line_runs.specs.Ready.{Ready, IsSet}
use Rattle.line_runs.proofs.Tests.{none_some}
use Rattle.line_runs.proofs.Pieces.{has_front, has_back}
use Rattle.line_runs.proofs.Reading.{read_length, three_length}
use Rattle.formed_lines.proofs.Opcodes.{one_shape, select_shape}
use Rattle.ruled_lines.specs.Kept.{KeepsRules, AreKept, IsValueAt, KnownAt, AreUsed, StandsAhead}
use Rattle.ruled_lines.proofs.Values.{value_reached, value_is_int, value_is_bool, value_has_type, typed_reach}
use Rattle.ruled_lines.proofs.Facts.{key_reached, int_is, bool_is}
use Rattle.ruled_lines.proofs.Readings.{value_later, known_later, read_at}
use Rattle.ruled_lines.proofs.Operations.{WritesNothing, both}
use Rattle.ruled_lines.proofs.Going.{Goes, kept_behind, ends_with, two_at}
use Rattle.ruled_lines.proofs.Lines.{front_used, back_used}

one_group : (op : OneOp) → group_of (one_opcode op) ≡ Bits
unfolding group_of
one_group one.Bfrev = refl
one_group one.Countbits = refl

one_quiet : (op : OneOp) → WritesNothing (one_opcode op)
one_quiet one.Bfrev operands = refl
one_quiet one.Countbits operands = refl

one_other : (op : OneOp) → nat_eq (one_opcode op) 248 ≡ false
one_other one.Bfrev = refl
one_other one.Countbits = refl

fits_bits : (insts : List Inst) (opcode type id a : ℕ) → group_of opcode ≡ Bits → is_int insts type ≡ true → is_int_value insts a ≡ true → fits insts (inst opcode (type ∷ id ∷ a ∷ [])) ≡ true
unfolding fits
fits_bits insts opcode type id a group int ha =
    ap (fits_as insts (inst opcode (type ∷ id ∷ a ∷ []))) group ∙ both (is_int insts type) (is_int_value insts a) int ha

fits_select : (insts : List Inst) (type id x a b : ℕ) → is_bool_value insts x ≡ true → has_type insts type a ≡ true → has_type insts type b ≡ true → fits insts (inst 169 (type ∷ id ∷ x ∷ a ∷ b ∷ [])) ≡ true
unfolding fits group_of select_fits
fits_select insts type id x a b hx ha hb =
    both (is_bool_value insts x) (has_type insts type a && has_type insts type b) hx (both (has_type insts type a) (has_type insts type b) ha hb)

module _ (s : Setting) (low : ℕ) (ahead : StandsAhead s low) where
  abbrev insts : List Inst
  insts = s.made.insts

  abbrev c : Context
  c = s.context

  -- the type of a truth value that is read is declared
  pub bool_used : (a : Operand) → HasType s.program a ty.Bool → AreUsed s (operand_keys a) → Uses s (PlainKey sort.Bool)
  bool_used (operand.Reg reg ty.Bool) typed used = used (PlainKey sort.Bool) (0, omega arith, refl) tt
  bool_used (operand.Reg reg ty.Int) typed used = absurd (let clash : ty.Int ≡ ty.Bool = typed.0 in cc clash)
  bool_used (operand.Bool b) typed used = (ahead.closed (Truth b) (used (Truth b) (0, omega arith, refl) tt)).0
  bool_used (operand.Int n) typed used = absurd (let clash : ty.Int ≡ ty.Bool = typed in cc clash)
  bool_used (operand.Undef ty.Bool) typed used =
      (ahead.closed (Truth false) (used (Truth false) (0, omega arith, refl) tt)).0
  bool_used (operand.Undef ty.Int) typed used = absurd (let clash : ty.Int ≡ ty.Bool = typed in cc clash)

  pub bits_kept : (at opcode id a : ℕ) → group_of opcode ≡ Bits → shape_of opcode ≡ Some (Plain true true 1 1 0) → WritesNothing opcode → Uses s (PlainKey sort.Int) → low ≤ at → IsValueAt insts at a (int_id c) → KeepsRules insts at (inst opcode (int_id c ∷ id ∷ a ∷ []))
  bits_kept at opcode id a group shape quiet uses behind va =
      let x : Inst = inst opcode (int_id c ∷ id ∷ a ∷ []) in
      let int = int_is s low ahead uses in
      record {
        in_reach = typed_reach insts ahead.once at opcode (int_id c) id (a ∷ []) 1 1 shape (key_reached s low ahead at x (PlainKey sort.Int) uses behind) (value_reached insts ahead.once at x a (int_id c) va, tt);
        fitting = fits_bits insts opcode (int_id c) id a group int (value_is_int insts ahead.once at a (int_id c) va int);
        writable = λ pointer e read_only. none_some (sym (quiet (int_id c ∷ id ∷ a ∷ [])) ∙ e);
      }

  pub select_kept : (at id x a b : ℕ) (t : Ty) → Uses s (PlainKey (sort_of t)) → Uses s (PlainKey sort.Bool) → low ≤ at → IsValueAt insts at x (bool_id c) → IsValueAt insts at a (type_id c t) → IsValueAt insts at b (type_id c t) → KeepsRules insts at (inst 169 (type_id c t ∷ id ∷ x ∷ a ∷ b ∷ []))
  select_kept at id x a b t uses truths behind vx va vb =
      let y : Inst = inst 169 (type_id c t ∷ id ∷ x ∷ a ∷ b ∷ []) in
      record {
        in_reach = typed_reach insts ahead.once at 169 (type_id c t) id (x ∷ a ∷ b ∷ []) 3 3 select_shape (key_reached s low ahead at y (PlainKey (sort_of t)) uses behind) (value_reached insts ahead.once at y x (bool_id c) vx, (value_reached insts ahead.once at y a (type_id c t) va, (value_reached insts ahead.once at y b (type_id c t) vb, tt)));
        fitting = fits_select insts (type_id c t) id x a b (value_is_bool insts ahead.once at x (bool_id c) vx (bool_is s low ahead truths)) (value_has_type insts ahead.once at a (type_id c t) va) (value_has_type insts ahead.once at b (type_id c t) vb);
        writable = λ pointer e read_only. none_some e;
      }

  -- ---- three reads

  pub record Three_at (env : Env) (place : ℕ) (x a b : Operand) (u t : Ty) : Type 0 where
    pub kept : AreKept insts place (three_code c env place x a b)
    pub first : IsValueAt insts (place + three_size c env x a b) (read_id c env place x) (type_id c u)
    pub second : IsValueAt insts (place + three_size c env x a b) (read_id c env (place + read_size c env x) a) (type_id c t)
    pub third : IsValueAt insts (place + three_size c env x a b) (second_id c env (place + read_size c env x) a b) (type_id c t)
    pub block : block_of insts place ≡ block_of insts (place + three_size c env x a b)

  pub three_at : (env : Env) (place : ℕ) (x a b : Operand) (u t : Ty) → low ≤ place → Ready s env x u → Ready s env a t → Ready s env b t → AreUsed s (operand_keys x) → AreUsed s (two_keys a b) → KnownAt s env place → Has s.made place (three_code c env place x a b) → Three_at env place x a b u t
  three_at env place x a b u t behind rx ra rb ux uab known has =
      let p : ℕ = place + read_size c env x in
      let front = read_code c env place x in
      let back = two_code c env p a b in
      let size = read_length c env place x in
      let has_p = subst (λ n. Has s.made (place + n) back) size (has_back s.made place front back has) in
      let one = read_at s low ahead env place x u behind rx ux known (has_front s.made place front back has) in
      let two = two_at s low ahead env p a b t t (omega (arith, behind)) ra rb (front_used s (operand_keys a) (operand_keys b) uab) (back_used s (operand_keys a) (operand_keys b) uab) (known_later s env place p (omega arith) one.block known) has_p in
      let end_is : p + two_size c env a b ≡ place + three_size c env x a b = omega arith in
      record {
        kept = kept_behind insts place p front back (ap (λ n. place + n) size) one.kept two.kept;
        first = value_later insts p (place + three_size c env x a b) (read_id c env place x) (type_id c u) (omega arith) (two.block ∙ ap (block_of insts) end_is) one.value;
        second = subst (λ n. IsValueAt insts n (read_id c env p a) (type_id c t)) end_is two.first;
        third = subst (λ n. IsValueAt insts n (second_id c env p a b) (type_id c t)) end_is two.second;
        block = one.block ∙ two.block ∙ ap (block_of insts) end_is;
      }

  -- ---- lines

  pub one_goes : (env : Env) (place : ℕ) (to : Reg) (op : OneOp) (a : Operand) → low ≤ place → AreUsed s (PlainKey sort.Int ∷ operand_keys a) → Ready s env a ty.Int → IsSet s to ty.Int → KnownAt s env place → Has s.made place (one_code c env place to op a) → Goes s place (one_code c env place to op a) (with_id to (result c (place + read_size c env a)) env)
  one_goes env place to op a behind used ra set known has =
      let q : ℕ = place + read_size c env a in
      let front = read_code c env place a in
      let operands : List ℕ = read_id c env place a ∷ [] in
      let back = value_code c q to ty.Int (one_opcode op) operands in
      let size = read_length c env place a in
      let read = read_at s low ahead env place a ty.Int behind ra (back_used s (PlainKey sort.Int ∷ []) (operand_keys a) used) known (has_front s.made place front back has) in
      let has_q = subst (λ n. Has s.made (place + n) back) size (has_back s.made place front back has) in
      let rules = bits_kept q (one_opcode op) (result c q) (read_id c env place a) (one_group op) (one_shape op) (one_quiet op) (used (PlainKey sort.Int) (0, omega arith, refl) tt) (omega (arith, behind)) read.value in
      ends_with s low ahead env place q to ty.Int (one_opcode op) operands 1 1 0 front (ap (λ n. place + n) size) read.kept read.block has_q rules (one_shape op) (one_other op) set known behind

  pub select_goes : (env : Env) (place : ℕ) (to : Reg) (t : Ty) (x a b : Operand) → low ≤ place → AreUsed s (three_keys t x a b) → Ready s env x ty.Bool → Ready s env a t → Ready s env b t → IsSet s to t → KnownAt s env place → Has s.made place (select_code c env place to t x a b) → Goes s place (select_code c env place to t x a b) (with_id to (result c (place + three_size c env x a b)) env)
  select_goes env place to t x a b behind used rx ra rb set known has =
      let q : ℕ = place + three_size c env x a b in
      let front = three_code c env place x a b in
      let operands : List ℕ = read_id c env place x ∷ read_id c env (place + read_size c env x) a ∷ second_id c env (place + read_size c env x) a b ∷ [] in
      let back = value_code c q to t 169 operands in
      let size = three_length c env place x a b in
      let keys = back_used s (PlainKey (sort_of t) ∷ []) (operand_keys x ++ two_keys a b) used in
      let x_keys = front_used s (operand_keys x) (two_keys a b) keys in
      let reads = three_at env place x a b ty.Bool t behind rx ra rb x_keys (back_used s (operand_keys x) (two_keys a b) keys) known (has_front s.made place front back has) in
      let has_q = subst (λ n. Has s.made (place + n) back) size (has_back s.made place front back has) in
      let rules = select_kept q (result c q) (read_id c env place x) (read_id c env (place + read_size c env x) a) (second_id c env (place + read_size c env x) a b) t (used (PlainKey (sort_of t)) (0, omega arith, refl) tt) (bool_used x rx.typed x_keys) (omega (arith, behind)) reads.first reads.second reads.third in
      ends_with s low ahead env place q to t 169 operands 3 3 0 front (ap (λ n. place + n) size) reads.kept reads.block has_q rules select_shape refl set known behind
