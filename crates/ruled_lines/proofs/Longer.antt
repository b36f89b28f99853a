-- Lines of two operations keep the rules: casts, extremes, and products with a sum.
use Rattle.std.proofs.Common.{◌≡◌, ℕ, ◌+◌, ◌≤◌, true, false, List, [], ◌∷◌, ◌++◌, length, length-append, Some, refl, ap, ◌∙◌, subst, arith, append_assoc}
use Rattle.std.specs.Prelude.{slice_get, nat_eq}
use Rattle.dxil_form.specs.declared.value.Ty.{Ty}
use Rattle.dxil_form.specs.declared.value.Ty.TheVariants as ty
use Rattle.dxil_form.specs.declared.value.Reg.{Reg}
use Rattle.dxil_form.specs.declared.value.Operand.{Operand}
use Rattle.dxil_form.specs.declared.instr.CastOp.{CastOp}
use Rattle.dxil_form.specs.declared.instr.CastOp.TheVariants as cast
use Rattle.dxil_form.specs.declared.instr.TwoOp.{TwoOp}
use Rattle.dxil_form.specs.declared.instr.TwoOp.TheVariants as two
use Rattle.dxil_form.specs.Registers.{cast_to, cast_from}
use Rattle.spv_form.specs.declared.module.Inst.{Inst}
use Rattle.spv_form.specs.declared.shape.Shape.TheVariants.{Plain}
use Rattle.spv_form.specs.Shapes.{shape_of}
use Rattle.spv_ids.specs.Places.{block_of}
use Rattle.type_rules.specs.Fits.{group_of}
use Rattle.type_rules.specs.declared.group.Group.TheVariants.{Arithmetic, Compare}
use Rattle.spirv_code.specs.declared.key.Sort.TheVariants as sort
use Rattle.spirv_code.specs.declared.key.Global.{Global}
use Rattle.spirv_code.specs.declared.key.Global.TheVariants.{Plain as PlainKey, Number}
use Rattle.spirv_code.specs.Plans.{Context, inst, result, number, int_id, bool_id, type_id}
use Rattle.spirv_code.specs.Reads.{Env, with_id, read_size, read_code, read_id, two_size, two_code, second_id, three_size, three_code}
use Rattle.spirv_code.specs.Needed.{operand_keys, two_keys, three_keys, typed_keys, cast_keys}
use Rattle.spirv_code.specs.Lines.{two_opcode, value_code, cast_before, cast_code, extreme_code, mad_code}
use Rattle.line_runs.specs.Held.{Setting, Has, Uses}
use Rattle.line_runs.specs.Ready.{Ready, IsSet, CastNeeds}
use Rattle.line_runs.proofs.Pieces.{has_front, has_back}
use Rattle.line_runs.proofs.Reading.{read_length, two_length, three_length}
use Rattle.formed_lines.proofs.Opcodes.{extreme_shape, and_shape, differ_shape, add_shape, mul_shape, select_shape}
use Rattle.ruled_lines.specs.Kept.{KeepsRules, AreKept, IsValueAt, KnownAt, AreUsed, StandsAhead}
use Rattle.ruled_lines.proofs.Facts.{number_value}
use Rattle.ruled_lines.proofs.Readings.{block_next, value_later, read_at}
use Rattle.ruled_lines.proofs.Operations.{WritesNothing, made_value, arithmetic_kept, compare_kept}
use Rattle.ruled_lines.proofs.Going.{Goes, kept_behind, ends_with, two_at}
use Rattle.ruled_lines.proofs.Lines.{front_used, back_used}
use Rattle.ruled_lines.proofs.Choices.{bool_used, select_kept, three_at}

and_group : group_of 199 ≡ Arithmetic
unfolding group_of
and_group = refl

add_group : group_of 128 ≡ Arithmetic
unfolding group_of
add_group = refl

mul_group : group_of 132 ≡ Arithmetic
unfolding group_of
mul_group = refl

differ_group : group_of 171 ≡ Compare
unfolding group_of
differ_group = refl

two_group : (op : TwoOp) → group_of (two_opcode op) ≡ Compare
unfolding group_of
two_group two.IMax = refl
two_group two.IMin = refl
two_group two.UMax = refl
two_group two.UMin = refl

two_quiet : (op : TwoOp) → WritesNothing (two_opcode op)
two_quiet two.IMax operands = refl
two_quiet two.IMin operands = refl
two_quiet two.UMax operands = refl
two_quiet two.UMin operands = refl

two_other : (op : TwoOp) → nat_eq (two_opcode op) 248 ≡ false
two_other two.IMax = refl
two_other two.IMin = refl
two_other two.UMax = refl
two_other two.UMin = refl

module _ (s : Setting) (low : ℕ) (ahead : StandsAhead s low) where
  abbrev insts : List Inst
  insts = s.made.insts

  abbrev c : Context
  c = s.context

  -- code, one instruction, and behind it an operation whose result a register takes
  ends_after : (env : Env) (place p q : ℕ) (to : Reg) (t : Ty) (opcode : ℕ) (operands : List ℕ) (least most numbers : ℕ) (front : List Inst) (middle : Inst) → place + length front ≡ p → p + 1 ≡ q → AreKept insts place front → block_of insts place ≡ block_of insts p → slice_get insts p ≡ Some middle → nat_eq middle.opcode 248 ≡ false → KeepsRules insts p middle → Has s.made q (value_code c q to t opcode operands) → KeepsRules insts q (inst opcode (type_id c t ∷ result c q ∷ operands)) → shape_of opcode ≡ Some (Plain true true least most numbers) → nat_eq opcode 248 ≡ false → IsSet s to t → KnownAt s env place → low ≤ place → Goes s place (front ++ (middle ∷ value_code c q to t opcode operands)) (with_id to (result c q) env)
  ends_after env place p q to t opcode operands least most numbers front middle at next kept_front one there no_label middle_rules has rules shape other set known behind =
      let front' : List Inst = front ++ (middle ∷ []) in
      let long = length-append front (middle ∷ []) in
      let at' : place + length front' ≡ q = omega (arith, long, at, next) in
      let kept' = kept_behind insts place p front (middle ∷ []) at kept_front (middle_rules, tt) in
      let one' = one ∙ block_next insts p middle there no_label ∙ ap (block_of insts) next in
      subst (λ code. Goes s place code (with_id to (result c q) env)) (append_assoc front (middle ∷ []) (value_code c q to t opcode operands)) (ends_with s low ahead env place q to t opcode operands least most numbers front' at' kept' one' has rules shape other set known behind)

  -- ---- casts

  -- the keys that a cast names come first
  cast_int : (op : CastOp) (rest : List Global) → AreUsed s (cast_keys op ++ rest) → Uses s (PlainKey sort.Int)
  cast_int cast.Trunc rest used = used (PlainKey sort.Int) (0, omega arith, refl) tt
  cast_int cast.Zext rest used = used (PlainKey sort.Int) (0, omega arith, refl) tt
  cast_int cast.Sext rest used = used (PlainKey sort.Int) (0, omega arith, refl) tt

  -- a number that a truth value chooses
  chosen : (env : Env) (place : ℕ) (to : Reg) (a : Operand) (n : ℕ) → low ≤ place → Uses s (PlainKey sort.Int) → AreUsed s (operand_keys a) → Ready s env a ty.Bool → Uses s (Number n) → Uses s (Number 0) → IsSet s to ty.Int → KnownAt s env place → Has s.made place (read_code c env place a ++ value_code c (place + read_size c env a) to ty.Int 169 (read_id c env place a ∷ number c n ∷ number c 0 ∷ [])) → Goes s place (read_code c env place a ++ value_code c (place + read_size c env a) to ty.Int 169 (read_id c env place a ∷ number c n ∷ number c 0 ∷ [])) (with_id to (result c (place + (read_size c env a + 0))) env)
  chosen env place to a n behind int used ra one none set known has =
      let q : ℕ = place + read_size c env a in
      let front = read_code c env place a in
      let operands : List ℕ = read_id c env place a ∷ number c n ∷ number c 0 ∷ [] in
      let back = value_code c q to ty.Int 169 operands in
      let size = read_length c env place a in
      let read = read_at s low ahead env place a ty.Bool behind ra used known (has_front s.made place front back has) in
      let has_q = subst (λ m. Has s.made (place + m) back) size (has_back s.made place front back has) in
      let rules = select_kept s low ahead q (result c q) (read_id c env place a) (number c n) (number c 0) ty.Int int (bool_used s low ahead a ra.typed used) (omega (arith, behind)) read.value (number_value s low ahead q n one (omega (arith, behind))) (number_value s low ahead q 0 none (omega (arith, behind))) in
      let end_is : q ≡ place + (read_size c env a + 0) = omega arith in
      subst (λ m. Goes s place (front ++ back) (with_id to (result c m) env)) end_is (ends_with s low ahead env place q to ty.Int 169 operands 3 3 0 front (ap (λ m. place + m) size) read.kept read.block has_q rules select_shape refl set known behind)

  pub cast_goes : (env : Env) (place : ℕ) (to : Reg) (op : CastOp) (a : Operand) → low ≤ place → AreUsed s (cast_keys op ++ operand_keys a) → Ready s env a (cast_from op) → CastNeeds s op → IsSet s to (cast_to op) → KnownAt s env place → Has s.made place (cast_code c env place to op a) → Goes s place (cast_code c env place to op a) (with_id to (result c (place + (read_size c env a + cast_before op))) env)
  cast_goes env place to cast.Trunc a behind used ra needs set known has =
      let p : ℕ = place + read_size c env a in
      let q : ℕ = p + 1 in
      let front = read_code c env place a in
      let size = read_length c env place a in
      let int = cast_int cast.Trunc (operand_keys a) used in
      let bool = used (PlainKey sort.Bool) (1, omega arith, refl) tt in
      let middle : Inst = inst 199 (int_id c ∷ result c p ∷ read_id c env place a ∷ number c 1 ∷ []) in
      let operands : List ℕ = result c p ∷ number c 0 ∷ [] in
      let back : List Inst = middle ∷ value_code c q to ty.Bool 171 operands in
      let read = read_at s low ahead env place a ty.Int behind ra (back_used s (cast_keys cast.Trunc) (operand_keys a) used) known (has_front s.made place front back has) in
      let has_p = subst (λ n. Has s.made (place + n) back) size (has_back s.made place front back has) in
      let middle_rules = arithmetic_kept s low ahead p 199 (result c p) (read_id c env place a) (number c 1) and_group and_shape (λ operands. refl) int (omega (arith, behind)) read.value (number_value s low ahead p 1 needs.0 (omega (arith, behind))) in
      let value = made_value s low ahead p 199 (int_id c) (result c p) (read_id c env place a ∷ number c 1 ∷ []) 2 2 0 has_p.0 and_shape refl in
      let rules = compare_kept s low ahead q 171 (result c q) (result c p) (number c 0) differ_group differ_shape (λ operands. refl) int bool (omega (arith, behind)) value (number_value s low ahead q 0 needs.1 (omega (arith, behind))) in
      let end_is : q ≡ place + (read_size c env a + 1) = omega arith in
      subst (λ n. Goes s place (front ++ back) (with_id to (result c n) env)) end_is (ends_after env place p q to ty.Bool 171 operands 2 2 0 front middle (ap (λ n. place + n) size) refl read.kept read.block has_p.0 refl middle_rules has_p.1 rules differ_shape refl set known behind)
  cast_goes env place to cast.Zext a behind used ra needs set known has = chosen env place to a 1 behind (cast_int cast.Zext (operand_keys a) used) (back_used s (cast_keys cast.Zext) (operand_keys a) used) ra needs.0 needs.1 set known has
  cast_goes env place to cast.Sext a behind used ra needs set known has = chosen env place to a 0xFFFF_FFFF behind (cast_int cast.Sext (operand_keys a) used) (back_used s (cast_keys cast.Sext) (operand_keys a) used) ra needs.0 needs.1 set known has

  -- ---- extremes

  pub extreme_goes : (env : Env) (place : ℕ) (to : Reg) (op : TwoOp) (a b : Operand) → low ≤ place → AreUsed s (PlainKey sort.Int ∷ typed_keys ty.Bool a b) → Ready s env a ty.Int → Ready s env b ty.Int → IsSet s to ty.Int → KnownAt s env place → Has s.made place (extreme_code c env place to op a b) → Goes s place (extreme_code c env place to op a b) (with_id to (result c (place + (two_size c env a b + 1))) env)
  extreme_goes env place to op a b behind used ra rb set known has =
      let p : ℕ = place + two_size c env a b in
      let q : ℕ = place + (two_size c env a b + 1) in
      let next : p + 1 ≡ q = omega arith in
      let front = two_code c env place a b in
      let size = two_length c env place a b in
      let int = used (PlainKey sort.Int) (0, omega arith, refl) tt in
      let bool = used (PlainKey sort.Bool) (1, omega arith, refl) tt in
      let keys = back_used s (PlainKey sort.Int ∷ PlainKey sort.Bool ∷ []) (two_keys a b) used in
      let first : ℕ = read_id c env place a in
      let second : ℕ = second_id c env place a b in
      let middle : Inst = inst (two_opcode op) (bool_id c ∷ result c p ∷ first ∷ second ∷ []) in
      let operands : List ℕ = result c p ∷ second ∷ first ∷ [] in
      let tail : List Inst = value_code c q to ty.Int 169 operands in
      let reads = two_at s low ahead env place a b ty.Int ty.Int behind ra rb (front_used s (operand_keys a) (operand_keys b) keys) (back_used s (operand_keys a) (operand_keys b) keys) known (has_front s.made place front (middle ∷ tail) has) in
      let has_p = subst (λ n. Has s.made (place + n) (middle ∷ tail)) size (has_back s.made place front (middle ∷ tail) has) in
      let has_q = subst (λ n. Has s.made n tail) next has_p.1 in
      let middle_rules = compare_kept s low ahead p (two_opcode op) (result c p) first second (two_group op) (extreme_shape op) (two_quiet op) int bool (omega (arith, behind)) reads.first reads.second in
      let stays = block_next insts p middle has_p.0 (two_other op) in
      let value = made_value s low ahead p (two_opcode op) (bool_id c) (result c p) (first ∷ second ∷ []) 2 2 0 has_p.0 (extreme_shape op) (two_other op) in
      let at_q : (id type : ℕ) → IsValueAt insts (p + 1) id type → IsValueAt insts q id type = λ id type v. subst (λ n. IsValueAt insts n id type) next v in
      let on : (id : ℕ) → IsValueAt insts p id (int_id c) → IsValueAt insts q id (int_id c) = λ id v. at_q id (int_id c) (value_later insts p (p + 1) id (int_id c) (omega arith) stays v) in
      let rules = select_kept s low ahead q (result c q) (result c p) second first ty.Int int bool (omega (arith, behind)) (at_q (result c p) (bool_id c) value) (on second reads.second) (on first reads.first) in
      ends_after env place p q to ty.Int 169 operands 3 3 0 front middle (ap (λ n. place + n) size) next reads.kept reads.block has_p.0 (two_other op) middle_rules has_q rules select_shape refl set known behind

  -- ---- a product and a sum

  pub mad_goes : (env : Env) (place : ℕ) (to : Reg) (x a b : Operand) → low ≤ place → AreUsed s (three_keys ty.Int x a b) → Ready s env x ty.Int → Ready s env a ty.Int → Ready s env b ty.Int → IsSet s to ty.Int → KnownAt s env place → Has s.made place (mad_code c env place to x a b) → Goes s place (mad_code c env place to x a b) (with_id to (result c (place + (three_size c env x a b + 1))) env)
  mad_goes env place to x a b behind used rx ra rb set known has =
      let p : ℕ = place + three_size c env x a b in
      let q : ℕ = place + (three_size c env x a b + 1) in
      let next : p + 1 ≡ q = omega arith in
      let front = three_code c env place x a b in
      let size = three_length c env place x a b in
      let int = used (PlainKey sort.Int) (0, omega arith, refl) tt in
      let keys = back_used s (PlainKey sort.Int ∷ []) (operand_keys x ++ two_keys a b) used in
      let one : ℕ = read_id c env place x in
      let two : ℕ = read_id c env (place + read_size c env x) a in
      let three : ℕ = second_id c env (place + read_size c env x) a b in
      let middle : Inst = inst 132 (int_id c ∷ result c p ∷ one ∷ two ∷ []) in
      let operands : List ℕ = result c p ∷ three ∷ [] in
      let tail : List Inst = value_code c q to ty.Int 128 operands in
      let reads = three_at s low ahead env place x a b ty.Int ty.Int behind rx ra rb (front_used s (operand_keys x) (two_keys a b) keys) (back_used s (operand_keys x) (two_keys a b) keys) known (has_front s.made place front (middle ∷ tail) has) in
      let has_p = subst (λ n. Has s.made (place + n) (middle ∷ tail)) size (has_back s.made place front (middle ∷ tail) has) in
      let has_q = subst (λ n. Has s.made n tail) next has_p.1 in
      let middle_rules = arithmetic_kept s low ahead p 132 (result c p) one two mul_group mul_shape (λ operands. refl) int (omega (arith, behind)) reads.first reads.second in
      let stays = block_next insts p middle has_p.0 refl in
      let value = subst (λ n. IsValueAt insts n (result c p) (int_id c)) next (made_value s low ahead p 132 (int_id c) (result c p) (one ∷ two ∷ []) 2 2 0 has_p.0 mul_shape refl) in
      let third = subst (λ n. IsValueAt insts n three (int_id c)) next (value_later insts p (p + 1) three (int_id c) (omega arith) stays reads.third) in
      let rules = arithmetic_kept s low ahead q 128 (result c q) (result c p) three add_group add_shape (λ operands. refl) int (omega (arith, behind)) value third in
      ends_after env place p q to ty.Int 128 operands 2 2 0 front middle (ap (λ n. place + n) size) next reads.kept reads.block has_p.0 refl middle_rules has_q rules add_shape refl set known behind
