-- One instruction behind another in code without labels: it keeps the rules, gives a value, and the values before it stay.
use Rattle.std.proofs.Common.{◌≡◌, ℕ, ◌+◌, ◌≤◌, true, false, List, [], ◌∷◌, ◌++◌, length, Some, refl, sym, ap, ◌∙◌, subst, arith}
use Rattle.std.specs.Prelude.{nat_eq}
use Rattle.dxil_form.specs.declared.value.Ty.{Ty}
use Rattle.dxil_form.specs.declared.value.Operand.{Operand}
use Rattle.dxil_form.specs.declared.instr.Target.TheVariants as target
use Rattle.spv_form.specs.declared.module.Inst.{Inst}
use Rattle.spv_form.specs.declared.shape.Shape.TheVariants.{Plain}
use Rattle.spv_form.specs.Shapes.{shape_of}
use Rattle.spv_ids.specs.Places.{block_of}
use Rattle.type_rules.specs.Fits.{group_of}
use Rattle.type_rules.specs.declared.group.Group.TheVariants.{Arithmetic, Compare, Logic}
use Rattle.spirv_code.specs.declared.key.Sort.TheVariants as sort
use Rattle.spirv_code.specs.declared.key.Global.TheVariants.{Plain as PlainKey, Buffer}
use Rattle.spirv_code.specs.Plans.{Context, inst, result, int_id, bool_id, type_id}
use Rattle.spirv_code.specs.Reads.{Env, read_size, read_code, read_id}
use Rattle.spirv_code.specs.Needed.{operand_keys}
use Rattle.spirv_code.specs.Accesses.{int_inst, bool_inst, length_inst}
use Rattle.spirv_code.specs.Frame.{rowed}
use Rattle.line_runs.specs.Held.{Setting, Has, Uses}
use Rattle.line_runs.specs.Ready.{Ready}
use Rattle.line_runs.proofs.Pieces.{has_front, has_back}
use Rattle.line_runs.proofs.Reading.{read_length}
use Rattle.formed_lines.proofs.Opcodes.{add_shape, mul_shape, divide_shape, shift_shape, equal_shape, below_shape, at_most_shape, both_shape}
use Rattle.ruled_lines.specs.Kept.{KeepsRules, AreKept, IsValueAt, KnownAt, AreUsed, StandsAhead}
use Rattle.ruled_lines.proofs.Readings.{block_next, value_later, known_later, read_at}
use Rattle.ruled_lines.proofs.Operations.{WritesNothing, made_value, arithmetic_kept, compare_kept, logic_kept}
use Rattle.ruled_lines.proofs.Going.{kept_at}
use Rattle.ruled_lines.proofs.Named.{size_kept}

-- ---- opcodes of two operands

pub record IsArithmetic (opcode : ℕ) : Type 0 where
  pub group : group_of opcode ≡ Arithmetic
  pub shape : shape_of opcode ≡ Some (Plain true true 2 2 0)
  pub quiet : WritesNothing opcode
  pub other : nat_eq opcode 248 ≡ false

pub record IsCompare (opcode : ℕ) : Type 0 where
  pub group : group_of opcode ≡ Compare
  pub shape : shape_of opcode ≡ Some (Plain true true 2 2 0)
  pub quiet : WritesNothing opcode
  pub other : nat_eq opcode 248 ≡ false

pub adding : IsArithmetic 128
unfolding group_of
adding = record { group = refl; shape = add_shape; quiet = λ operands. refl; other = refl }

pub multiplying : IsArithmetic 132
unfolding group_of
multiplying = record { group = refl; shape = mul_shape; quiet = λ operands. refl; other = refl }

pub dividing : IsArithmetic 134
unfolding group_of
dividing = record { group = refl; shape = divide_shape; quiet = λ operands. refl; other = refl }

pub shifting : IsArithmetic 194
unfolding group_of
shifting = record { group = refl; shape = shift_shape; quiet = λ operands. refl; other = refl }

pub equal : IsCompare 170
unfolding group_of
equal = record { group = refl; shape = equal_shape; quiet = λ operands. refl; other = refl }

pub below : IsCompare 176
unfolding group_of
below = record { group = refl; shape = below_shape; quiet = λ operands. refl; other = refl }

pub at_most : IsCompare 178
unfolding group_of
at_most = record { group = refl; shape = at_most_shape; quiet = λ operands. refl; other = refl }

both_group : group_of 167 ≡ Logic
unfolding group_of
both_group = refl

-- an instruction in front of code that keeps the rules
pub cons_kept : (insts : List Inst) (at next : ℕ) (y : Inst) (rest : List Inst) → at + 1 ≡ next → KeepsRules insts at y → AreKept insts next rest → AreKept insts at (y ∷ rest)
cons_kept insts at next y rest e h k = (h, kept_at insts rest next (at + 1) (sym e) k)

module _ (s : Setting) (low : ℕ) (ahead : StandsAhead s low) where
  abbrev insts : List Inst
  insts = s.made.insts

  abbrev c : Context
  c = s.context

  -- behind one instruction
  pub record Step (at next : ℕ) (y : Inst) (id type : ℕ) (rest : List Inst) : Type 0 where
    pub kept : KeepsRules insts at y
    pub value : IsValueAt insts next id type
    pub on : (other t : ℕ) → IsValueAt insts at other t → IsValueAt insts next other t
    pub block : block_of insts at ≡ block_of insts next
    pub has : Has s.made next rest

  pub step : (at next opcode type : ℕ) (operands : List ℕ) (least most numbers : ℕ) (rest : List Inst) → at + 1 ≡ next → shape_of opcode ≡ Some (Plain true true least most numbers) → nat_eq opcode 248 ≡ false → KeepsRules insts at (inst opcode (type ∷ result c at ∷ operands)) → Has s.made at (inst opcode (type ∷ result c at ∷ operands) ∷ rest) → Step at next (inst opcode (type ∷ result c at ∷ operands)) (result c at) type rest
  step at next opcode type operands least most numbers rest e shape other keeps has =
      let stays = block_next insts at (inst opcode (type ∷ result c at ∷ operands)) has.0 other in
      record {
        kept = keeps;
        value = subst (λ n. IsValueAt insts n (result c at) type) e (made_value s low ahead at opcode type (result c at) operands least most numbers has.0 shape other);
        on = λ id t v. subst (λ n. IsValueAt insts n id t) e (value_later insts at (at + 1) id t (omega arith) stays v);
        block = stays ∙ ap (block_of insts) e;
        has = subst (λ n. Has s.made n rest) e has.1;
      }

  pub number_step : (at next opcode a b : ℕ) (rest : List Inst) → at + 1 ≡ next → IsArithmetic opcode → Uses s (PlainKey sort.Int) → low ≤ at → IsValueAt insts at a (int_id c) → IsValueAt insts at b (int_id c) → Has s.made at (int_inst c at opcode (a ∷ b ∷ []) ∷ rest) → Step at next (int_inst c at opcode (a ∷ b ∷ [])) (result c at) (int_id c) rest
  number_step at next opcode a b rest e op int behind va vb has =
      step at next opcode (int_id c) (a ∷ b ∷ []) 2 2 0 rest e op.shape op.other (arithmetic_kept s low ahead at opcode (result c at) a b op.group op.shape op.quiet int behind va vb) has

  pub truth_step : (at next opcode a b : ℕ) (rest : List Inst) → at + 1 ≡ next → IsCompare opcode → Uses s (PlainKey sort.Int) → Uses s (PlainKey sort.Bool) → low ≤ at → IsValueAt insts at a (int_id c) → IsValueAt insts at b (int_id c) → Has s.made at (bool_inst c at opcode (a ∷ b ∷ []) ∷ rest) → Step at next (bool_inst c at opcode (a ∷ b ∷ [])) (result c at) (bool_id c) rest
  truth_step at next opcode a b rest e op int bool behind va vb has =
      step at next opcode (bool_id c) (a ∷ b ∷ []) 2 2 0 rest e op.shape op.other (compare_kept s low ahead at opcode (result c at) a b op.group op.shape op.quiet int bool behind va vb) has

  pub both_step : (at next a b : ℕ) (rest : List Inst) → at + 1 ≡ next → Uses s (PlainKey sort.Bool) → low ≤ at → IsValueAt insts at a (bool_id c) → IsValueAt insts at b (bool_id c) → Has s.made at (bool_inst c at 167 (a ∷ b ∷ []) ∷ rest) → Step at next (bool_inst c at 167 (a ∷ b ∷ [])) (result c at) (bool_id c) rest
  both_step at next a b rest e bool behind va vb has =
      step at next 167 (bool_id c) (a ∷ b ∷ []) 2 2 0 rest e both_shape refl (logic_kept s low ahead at 167 (result c at) a b both_group both_shape (λ operands. refl) bool behind va vb) has

  -- the length of a buffer without rows
  pub size_step : (at next r : ℕ) (rest : List Inst) → at + 1 ≡ next → rowed s.program r ≡ false → Uses s (Buffer r) → Uses s (PlainKey sort.Int) → low ≤ at → Has s.made at (length_inst c at (target.Buffer r) ∷ rest) → Step at next (length_inst c at (target.Buffer r)) (result c at) (int_id c) rest
  unfolding shape_of
  size_step at next r rest e plain uses int behind has =
      step at next 68 (int_id c) (c.key (Buffer r) ∷ 0 ∷ []) 2 2 2 rest e refl refl (size_kept s low ahead at (result c at) r uses int plain behind) has

  -- behind a read
  pub record ReadStep (env : Env) (place q : ℕ) (a : Operand) (t : Ty) (rest : List Inst) : Type 0 where
    pub kept : AreKept insts place (read_code c env place a)
    pub size : place + length (read_code c env place a) ≡ q
    pub value : IsValueAt insts q (read_id c env place a) (type_id c t)
    pub on : (other u : ℕ) → IsValueAt insts place other u → IsValueAt insts q other u
    pub known : KnownAt s env q
    pub block : block_of insts place ≡ block_of insts q
    pub has : Has s.made q rest

  pub read_step : (env : Env) (place q : ℕ) (a : Operand) (t : Ty) (rest : List Inst) → place + read_size c env a ≡ q → low ≤ place → Ready s env a t → AreUsed s (operand_keys a) → KnownAt s env place → Has s.made place (read_code c env place a ++ rest) → ReadStep env place q a t rest
  read_step env place q a t rest e behind ready used known has =
      let front = read_code c env place a in
      let size : place + length front ≡ q = ap (λ n. place + n) (read_length c env place a) ∙ e in
      let more : place ≤ q = omega (arith, e) in
      let r = read_at s low ahead env place a t behind ready used known (has_front s.made place front rest has) in
      let block = r.block ∙ ap (block_of insts) e in
      record {
        kept = r.kept;
        size = size;
        value = subst (λ n. IsValueAt insts n (read_id c env place a) (type_id c t)) e r.value;
        on = λ id u v. value_later insts place q id u more block v;
        known = known_later s env place q more block known;
        block = block;
        has = subst (λ n. Has s.made n rest) size (has_back s.made place front rest has);
      }
