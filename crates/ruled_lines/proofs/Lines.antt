-- Lines without an event keep the rules.
use Rattle.std.proofs.Common.{◌≡◌, ℕ, ◌+◌, ◌≤◌, false, List, [], ◌∷◌, ◌++◌, refl, sym, ap, subst, arith, inl, inr}
use Rattle.std.specs.Prelude.{nat_eq}
use Rattle.std.proofs.lemmas.List.Elements.{Contains-append_left, Contains-append_right}
use Rattle.dxil_form.specs.declared.value.Ty.{Ty}
use Rattle.dxil_form.specs.declared.value.Ty.TheVariants as ty
use Rattle.dxil_form.specs.declared.value.Reg.{Reg}
use Rattle.dxil_form.specs.declared.value.Operand.{Operand}
use Rattle.dxil_form.specs.declared.value.Operand.TheVariants as operand
use Rattle.dxil_form.specs.declared.instr.BinOp.{BinOp}
use Rattle.dxil_form.specs.declared.instr.BinOp.TheVariants as bin
use Rattle.dxil_form.specs.declared.instr.CmpOp.{CmpOp}
use Rattle.dxil_form.specs.declared.instr.CmpOp.TheVariants as cmp
use Rattle.dxil_form.specs.Sound.{HasType, BinFits, CmpFits}
use Rattle.spv_form.specs.declared.module.Inst.{Inst}
use Rattle.type_rules.specs.Fits.{group_of}
use Rattle.type_rules.specs.declared.group.Group.TheVariants.{Arithmetic, Compare, Logic}
use Rattle.spirv_code.specs.declared.key.Sort.TheVariants as sort
use Rattle.spirv_code.specs.declared.key.Global.{Global}
use Rattle.spirv_code.specs.declared.key.Global.TheVariants.{Plain, Number}
use Rattle.spirv_code.specs.Plans.{Context, inst, result, type_id, sort_of}
use Rattle.spirv_code.specs.Reads.{Env, with_id, read_id, two_size, two_code, second_id}
use Rattle.spirv_code.specs.Needed.{operand_keys, two_keys, typed_keys}
use Rattle.spirv_code.specs.Lines.{bin_opcode, cmp_opcode, value_code, bin_code}
use Rattle.line_runs.specs.Held.{Setting, Has, Uses}
use Rattle.line_runs.specs.Ready.{Ready, IsSet}
use Rattle.line_runs.proofs.Pieces.{has_front, has_back}
use Rattle.line_runs.proofs.Reading.{two_length}
use Rattle.formed_lines.proofs.Opcodes.{bin_shape, cmp_shape}
use Rattle.ruled_lines.specs.Kept.{KeepsRules, IsValueAt, KnownAt, AreUsed, StandsAhead}
use Rattle.ruled_lines.proofs.Facts.{number_int}
use Rattle.ruled_lines.proofs.Operations.{WritesNothing, arithmetic_kept, compare_kept, logic_kept}
use Rattle.ruled_lines.proofs.Going.{Goes, ends_with, two_at}

-- ---- opcodes

int_group : (op : BinOp) → group_of (bin_opcode op ty.Int) ≡ Arithmetic
unfolding group_of
int_group bin.Add = refl
int_group bin.Sub = refl
int_group bin.Mul = refl
int_group bin.UDiv = refl
int_group bin.SDiv = refl
int_group bin.URem = refl
int_group bin.SRem = refl
int_group bin.Shl = refl
int_group bin.LShr = refl
int_group bin.AShr = refl
int_group bin.And = refl
int_group bin.Or = refl
int_group bin.Xor = refl

and_group : group_of 167 ≡ Logic
unfolding group_of
and_group = refl

or_group : group_of 166 ≡ Logic
unfolding group_of
or_group = refl

xor_group : group_of 165 ≡ Logic
unfolding group_of
xor_group = refl

bin_quiet : (op : BinOp) (t : Ty) → WritesNothing (bin_opcode op t)
bin_quiet bin.Add t operands = refl
bin_quiet bin.Sub t operands = refl
bin_quiet bin.Mul t operands = refl
bin_quiet bin.UDiv t operands = refl
bin_quiet bin.SDiv t operands = refl
bin_quiet bin.URem t operands = refl
bin_quiet bin.SRem t operands = refl
bin_quiet bin.Shl t operands = refl
bin_quiet bin.LShr t operands = refl
bin_quiet bin.AShr t operands = refl
bin_quiet bin.And ty.Int operands = refl
bin_quiet bin.And ty.Bool operands = refl
bin_quiet bin.Or ty.Int operands = refl
bin_quiet bin.Or ty.Bool operands = refl
bin_quiet bin.Xor ty.Int operands = refl
bin_quiet bin.Xor ty.Bool operands = refl

bin_other : (op : BinOp) (t : Ty) → nat_eq (bin_opcode op t) 248 ≡ false
bin_other bin.Add t = refl
bin_other bin.Sub t = refl
bin_other bin.Mul t = refl
bin_other bin.UDiv t = refl
bin_other bin.SDiv t = refl
bin_other bin.URem t = refl
bin_other bin.SRem t = refl
bin_other bin.Shl t = refl
bin_other bin.LShr t = refl
bin_other bin.AShr t = refl
bin_other bin.And ty.Int = refl
bin_other bin.And ty.Bool = refl
bin_other bin.Or ty.Int = refl
bin_other bin.Or ty.Bool = refl
bin_other bin.Xor ty.Int = refl
bin_other bin.Xor ty.Bool = refl

-- ---- compares

cmp_group : (op : CmpOp) → group_of (cmp_opcode op ty.Int) ≡ Compare
unfolding group_of
cmp_group cmp.Eq = refl
cmp_group cmp.Ne = refl
cmp_group cmp.UGt = refl
cmp_group cmp.UGe = refl
cmp_group cmp.ULt = refl
cmp_group cmp.ULe = refl
cmp_group cmp.SGt = refl
cmp_group cmp.SGe = refl
cmp_group cmp.SLt = refl
cmp_group cmp.SLe = refl

equal_group : group_of 164 ≡ Logic
unfolding group_of
equal_group = refl

cmp_quiet : (op : CmpOp) (t : Ty) → WritesNothing (cmp_opcode op t)
cmp_quiet cmp.Eq ty.Int operands = refl
cmp_quiet cmp.Eq ty.Bool operands = refl
cmp_quiet cmp.Ne ty.Int operands = refl
cmp_quiet cmp.Ne ty.Bool operands = refl
cmp_quiet cmp.UGt t operands = refl
cmp_quiet cmp.UGe t operands = refl
cmp_quiet cmp.ULt t operands = refl
cmp_quiet cmp.ULe t operands = refl
cmp_quiet cmp.SGt t operands = refl
cmp_quiet cmp.SGe t operands = refl
cmp_quiet cmp.SLt t operands = refl
cmp_quiet cmp.SLe t operands = refl

cmp_other : (op : CmpOp) (t : Ty) → nat_eq (cmp_opcode op t) 248 ≡ false
cmp_other cmp.Eq ty.Int = refl
cmp_other cmp.Eq ty.Bool = refl
cmp_other cmp.Ne ty.Int = refl
cmp_other cmp.Ne ty.Bool = refl
cmp_other cmp.UGt t = refl
cmp_other cmp.UGe t = refl
cmp_other cmp.ULt t = refl
cmp_other cmp.ULe t = refl
cmp_other cmp.SGt t = refl
cmp_other cmp.SGe t = refl
cmp_other cmp.SLt t = refl
cmp_other cmp.SLe t = refl

-- ---- keys

-- of the keys of two operands
pub front_used : (s : Setting) (a b : List Global) → AreUsed s (a ++ b) → AreUsed s a
front_used s a b used g h = used g (Contains-append_left a b g h)

pub back_used : (s : Setting) (a b : List Global) → AreUsed s (a ++ b) → AreUsed s b
back_used s a b used g h = used g (Contains-append_right a b g h)

module _ (s : Setting) (low : ℕ) (ahead : StandsAhead s low) where
  abbrev insts : List Inst
  insts = s.made.insts

  abbrev c : Context
  c = s.context

  bin_rules : (at id a b : ℕ) (op : BinOp) (t : Ty) → BinFits op t → AreUsed s (Plain (sort_of t) ∷ []) → low ≤ at → IsValueAt insts at a (type_id c t) → IsValueAt insts at b (type_id c t) → KeepsRules insts at (inst (bin_opcode op t) (type_id c t ∷ id ∷ a ∷ b ∷ []))
  bin_rules at id a b op ty.Int fit used behind va vb =
      arithmetic_kept s low ahead at (bin_opcode op ty.Int) id a b (int_group op) (bin_shape op ty.Int) (bin_quiet op ty.Int) (used _ (0, omega arith, refl) tt) behind va vb
  bin_rules at id a b op ty.Bool (inl is) used behind va vb =
      subst (λ o. KeepsRules insts at (inst (bin_opcode o ty.Bool) (type_id c ty.Bool ∷ id ∷ a ∷ b ∷ []))) (sym is) (logic_kept s low ahead at 167 id a b and_group (bin_shape bin.And ty.Bool) (bin_quiet bin.And ty.Bool) (used _ (0, omega arith, refl) tt) behind va vb)
  bin_rules at id a b op ty.Bool (inr (inl is)) used behind va vb =
      subst (λ o. KeepsRules insts at (inst (bin_opcode o ty.Bool) (type_id c ty.Bool ∷ id ∷ a ∷ b ∷ []))) (sym is) (logic_kept s low ahead at 166 id a b or_group (bin_shape bin.Or ty.Bool) (bin_quiet bin.Or ty.Bool) (used _ (0, omega arith, refl) tt) behind va vb)
  bin_rules at id a b op ty.Bool (inr (inr is)) used behind va vb =
      subst (λ o. KeepsRules insts at (inst (bin_opcode o ty.Bool) (type_id c ty.Bool ∷ id ∷ a ∷ b ∷ []))) (sym is) (logic_kept s low ahead at 165 id a b xor_group (bin_shape bin.Xor ty.Bool) (bin_quiet bin.Xor ty.Bool) (used _ (0, omega arith, refl) tt) behind va vb)

  pub bin_goes : (env : Env) (place : ℕ) (to : Reg) (op : BinOp) (t : Ty) (a b : Operand) → low ≤ place → BinFits op t → AreUsed s (typed_keys t a b) → Ready s env a t → Ready s env b t → IsSet s to t → KnownAt s env place → Has s.made place (bin_code c env place to t (bin_opcode op t) a b) → Goes s place (bin_code c env place to t (bin_opcode op t) a b) (with_id to (result c (place + two_size c env a b)) env)
  bin_goes env place to op t a b behind fit used ra rb set known has =
      let q : ℕ = place + two_size c env a b in
      let front = two_code c env place a b in
      let operands : List ℕ = read_id c env place a ∷ second_id c env place a b ∷ [] in
      let back = value_code c q to t (bin_opcode op t) operands in
      let size = two_length c env place a b in
      let keys = back_used s (Plain (sort_of t) ∷ []) (two_keys a b) used in
      let reads = two_at s low ahead env place a b t t behind ra rb (front_used s (operand_keys a) (operand_keys b) keys) (back_used s (operand_keys a) (operand_keys b) keys) known (has_front s.made place front back has) in
      let has_back_q = subst (λ n. Has s.made (place + n) back) size (has_back s.made place front back has) in
      let rules = bin_rules q (result c q) (read_id c env place a) (second_id c env place a b) op t fit (front_used s (Plain (sort_of t) ∷ []) (two_keys a b) used) (omega (arith, behind)) reads.first reads.second in
      ends_with s low ahead env place q to t (bin_opcode op t) operands 2 2 0 front (ap (λ n. place + n) size) reads.kept reads.block has_back_q rules (bin_shape op t) (bin_other op t) set known behind

  -- the type of a number that is read is declared
  pub int_used : (a : Operand) → HasType s.program a ty.Int → AreUsed s (operand_keys a) → Uses s (Plain sort.Int)
  int_used (operand.Reg reg ty.Int) typed used = used (Plain sort.Int) (0, omega arith, refl) tt
  int_used (operand.Reg reg ty.Bool) typed used = absurd (let clash : ty.Bool ≡ ty.Int = typed.0 in cc clash)
  int_used (operand.Int n) typed used = number_int s low ahead n (used (Number n) (0, omega arith, refl) tt)
  int_used (operand.Bool b) typed used = absurd (let clash : ty.Bool ≡ ty.Int = typed in cc clash)
  int_used (operand.Undef ty.Int) typed used = number_int s low ahead 0 (used (Number 0) (0, omega arith, refl) tt)
  int_used (operand.Undef ty.Bool) typed used = absurd (let clash : ty.Bool ≡ ty.Int = typed in cc clash)

  cmp_rules : (at id a b : ℕ) (op : CmpOp) (t : Ty) → CmpFits op t → Uses s (Plain sort.Bool) → (t ≡ ty.Int → Uses s (Plain sort.Int)) → low ≤ at → IsValueAt insts at a (type_id c t) → IsValueAt insts at b (type_id c t) → KeepsRules insts at (inst (cmp_opcode op t) (type_id c ty.Bool ∷ id ∷ a ∷ b ∷ []))
  cmp_rules at id a b op ty.Int fit truths ints behind va vb =
      compare_kept s low ahead at (cmp_opcode op ty.Int) id a b (cmp_group op) (cmp_shape op ty.Int) (cmp_quiet op ty.Int) (ints refl) truths behind va vb
  cmp_rules at id a b op ty.Bool (inl is) truths ints behind va vb =
      subst (λ o. KeepsRules insts at (inst (cmp_opcode o ty.Bool) (type_id c ty.Bool ∷ id ∷ a ∷ b ∷ []))) (sym is) (logic_kept s low ahead at 164 id a b equal_group (cmp_shape cmp.Eq ty.Bool) (cmp_quiet cmp.Eq ty.Bool) truths behind va vb)
  cmp_rules at id a b op ty.Bool (inr is) truths ints behind va vb =
      subst (λ o. KeepsRules insts at (inst (cmp_opcode o ty.Bool) (type_id c ty.Bool ∷ id ∷ a ∷ b ∷ []))) (sym is) (logic_kept s low ahead at 165 id a b xor_group (cmp_shape cmp.Ne ty.Bool) (cmp_quiet cmp.Ne ty.Bool) truths behind va vb)

  pub cmp_goes : (env : Env) (place : ℕ) (to : Reg) (op : CmpOp) (t : Ty) (a b : Operand) → low ≤ place → CmpFits op t → AreUsed s (typed_keys ty.Bool a b) → Ready s env a t → Ready s env b t → IsSet s to ty.Bool → KnownAt s env place → Has s.made place (bin_code c env place to ty.Bool (cmp_opcode op t) a b) → Goes s place (bin_code c env place to ty.Bool (cmp_opcode op t) a b) (with_id to (result c (place + two_size c env a b)) env)
  cmp_goes env place to op t a b behind fit used ra rb set known has =
      let q : ℕ = place + two_size c env a b in
      let front = two_code c env place a b in
      let operands : List ℕ = read_id c env place a ∷ second_id c env place a b ∷ [] in
      let back = value_code c q to ty.Bool (cmp_opcode op t) operands in
      let size = two_length c env place a b in
      let keys = back_used s (Plain sort.Bool ∷ []) (two_keys a b) used in
      let first_keys = front_used s (operand_keys a) (operand_keys b) keys in
      let reads = two_at s low ahead env place a b t t behind ra rb first_keys (back_used s (operand_keys a) (operand_keys b) keys) known (has_front s.made place front back has) in
      let has_back_q = subst (λ n. Has s.made (place + n) back) size (has_back s.made place front back has) in
      let ints : t ≡ ty.Int → Uses s (Plain sort.Int) = λ is. int_used a (subst (HasType s.program a) is ra.typed) first_keys in
      let rules = cmp_rules q (result c q) (read_id c env place a) (second_id c env place a b) op t fit (used (Plain sort.Bool) (0, omega arith, refl) tt) ints (omega (arith, behind)) reads.first reads.second in
      ends_with s low ahead env place q to ty.Bool (cmp_opcode op t) operands 2 2 0 front (ap (λ n. place + n) size) reads.kept reads.block has_back_q rules (cmp_shape op t) (cmp_other op t) set known behind
