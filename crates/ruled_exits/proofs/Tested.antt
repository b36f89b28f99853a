-- What a terminator tests is a value of its type behind the code that reads it.
use Rattle.std.proofs.Common.{◌≡◌, ◌⊎◌, ℕ, ◌+◌, ◌≤◌, false, List, ◌++◌, length, refl, sym, ap, ◌∙◌, subst, arith, ⊎_elim}
use Rattle.dxil_form.specs.declared.value.Ty.{Ty}
use Rattle.dxil_form.specs.declared.value.Ty.TheVariants as ty
use Rattle.dxil_form.specs.declared.value.Operand.{Operand}
use Rattle.dxil_form.specs.declared.value.Operand.TheVariants as operand
use Rattle.dxil_form.specs.declared.block.Term.{Term}
use Rattle.dxil_form.specs.declared.block.Term.TheVariants.{Ret, Unreachable, Go, If, Switch}
use Rattle.spv_form.specs.declared.module.Inst.{Inst}
use Rattle.spirv_code.specs.declared.key.Sort.TheVariants as sort
use Rattle.spirv_code.specs.declared.key.Global.TheVariants.{Plain as PlainKey, Number, Truth}
use Rattle.spirv_code.specs.declared.way.Way.{Way}
use Rattle.spirv_code.specs.declared.way.Way.TheVariants.{Chooses, Splits}
use Rattle.spirv_code.specs.Plans.{Context, sort_of, zero_of, int_id, bool_id}
use Rattle.spirv_code.specs.Reads.{Env, read_size, read_code, read_id}
use Rattle.spirv_code.specs.Leaves.{way_of}
use Rattle.spirv_code.specs.Exits.{tested, tested_code, tested_id}
use Rattle.spirv_code.specs.Needed.{operand_keys, tested_keys}
use Rattle.line_runs.specs.Held.{Setting, Has, Uses}
use Rattle.line_runs.specs.Ready.{Ready}
use Rattle.line_runs.proofs.Reading.{read_length}
use Rattle.leaf_runs.specs.BlockReady.{TestedReady, WayReady}
use Rattle.ruled_lines.specs.Kept.{AreKept, IsValueAt, KnownAt, AreUsed, StandsAhead}
use Rattle.ruled_lines.proofs.Straight.{read_step}

-- what a terminator tests is a value of its type, which is declared
abbrev pub TestedValue : Setting → (at id : ℕ) → Term → Type 0
TestedValue s at id Ret = ⊥
TestedValue s at id Unreachable = ⊥
TestedValue s at id (Go k) = ⊥
TestedValue s at id (If cond there other) =
    IsValueAt s.made.insts at id (bool_id s.context) × Uses s (PlainKey sort.Bool)
TestedValue s at id (Switch value default cases) =
    IsValueAt s.made.insts at id (int_id s.context) × Uses s (PlainKey sort.Int)

-- ---- only a branch or a switch tests

abbrev Tests : Term → Type 0
Tests Ret = ⊥
Tests Unreachable = ⊥
Tests (Go k) = ⊥
Tests (If cond there other) = Unit {0}
Tests (Switch value default cases) = Unit {0}

choice_tests : (term : Term) → way_of term ≡ Chooses → Tests term
choice_tests Ret e = absurd (cc e)
choice_tests Unreachable e = absurd (cc e)
choice_tests (Go k) e = absurd (cc e)
choice_tests (If cond there other) e = tt
choice_tests (Switch value default cases) e = tt

split_tests : (term : Term) → way_of term ≡ Splits → Tests term
split_tests Ret e = absurd (cc e)
split_tests Unreachable e = absurd (cc e)
split_tests (Go k) e = absurd (cc e)
split_tests (If cond there other) e = tt
split_tests (Switch value default cases) e = tt

module _ (s : Setting) (low : ℕ) (ahead : StandsAhead s low) where
  abbrev insts : List Inst
  insts = s.made.insts

  abbrev c : Context
  c = s.context

  -- the type of a constant is declared
  zero_type : (t : Ty) → Uses s (zero_of t) → Uses s (PlainKey (sort_of t))
  zero_type ty.Int uses = (ahead.closed (Number 0) uses).0
  zero_type ty.Bool uses = (ahead.closed (Truth false) uses).0

  -- so is that of what is read
  type_used : (env : Env) (a : Operand) (t : Ty) → Ready s env a t → AreUsed s (operand_keys a) → Uses s (PlainKey (sort_of t))
  type_used env (operand.Reg reg u) t ready used =
      subst (λ v. Uses s (PlainKey (sort_of v))) ready.typed.0 (used (PlainKey (sort_of u)) (0, omega arith, refl) tt)
  type_used env (operand.Int n) t ready used =
      subst (λ v. Uses s (PlainKey (sort_of v))) ready.typed ((ahead.closed (Number n) ready.needs).0)
  type_used env (operand.Bool b) t ready used =
      subst (λ v. Uses s (PlainKey (sort_of v))) ready.typed ((ahead.closed (Truth b) ready.needs).0)
  type_used env (operand.Undef u) t ready used =
      subst (λ v. Uses s (PlainKey (sort_of v))) ready.typed (zero_type u ready.needs)

  -- behind the code that reads what is tested
  pub record TestedStep (env : Env) (place : ℕ) (term : Term) (rest : List Inst) : Type 0 where
    pub kept : AreKept insts place (tested_code c env place (tested term))
    pub value : TestedValue s (place + length (tested_code c env place (tested term))) (tested_id c env place (tested term)) term
    pub has : Has s.made (place + length (tested_code c env place (tested term))) rest

  -- it is read as a value of its type
  record ValueStep (env : Env) (place : ℕ) (a : Operand) (t : Ty) (rest : List Inst) : Type 0 where
    kept : AreKept insts place (read_code c env place a)
    value : IsValueAt insts (place + length (read_code c env place a)) (read_id c env place a) (c.key (PlainKey (sort_of t)))
    uses : Uses s (PlainKey (sort_of t))
    has : Has s.made (place + length (read_code c env place a)) rest

  value_step : (env : Env) (place : ℕ) (a : Operand) (t : Ty) (rest : List Inst) → low ≤ place → Ready s env a t → AreUsed s (operand_keys a) → KnownAt s env place → Has s.made place (read_code c env place a ++ rest) → ValueStep env place a t rest
  value_step env place a t rest behind ready used known has =
      let size : place + read_size c env a ≡ place + length (read_code c env place a) = ap (λ n. place + n) (sym (read_length c env place a)) in
      let r = read_step s low ahead env place (place + length (read_code c env place a)) a t rest size behind ready used known has in
      record { kept = r.kept; value = r.value; uses = type_used env a t ready used; has = r.has }

  tested_step : (term : Term) (env : Env) (place : ℕ) (rest : List Inst) → Tests term → low ≤ place → TestedReady s env term → AreUsed s (tested_keys (tested term)) → KnownAt s env place → Has s.made place (tested_code c env place (tested term) ++ rest) → TestedStep env place term rest
  tested_step Ret env place rest tests behind ready used known has = absurd tests
  tested_step Unreachable env place rest tests behind ready used known has = absurd tests
  tested_step (Go k) env place rest tests behind ready used known has = absurd tests
  tested_step (If cond there other) env place rest tests behind ready used known has =
      let r = value_step env place cond ty.Bool rest behind ready used known has in
      record { kept = r.kept; value = (r.value, r.uses); has = r.has }
  tested_step (Switch value default cases) env place rest tests behind ready used known has =
      let r = value_step env place value ty.Int rest behind ready used known has in
      record { kept = r.kept; value = (r.value, r.uses); has = r.has }

  pub tested_kept : (term : Term) (env : Env) (place : ℕ) (rest : List Inst) (way : Way) → way_of term ≡ way → (way ≡ Chooses) ⊎ (way ≡ Splits) → low ≤ place → WayReady s env term way → AreUsed s (tested_keys (tested term)) → KnownAt s env place → Has s.made place (tested_code c env place (tested term) ++ rest) → TestedStep env place term rest
  tested_kept term env place rest way is which behind ready used known has = ⊎_elim choice split which
    where
      choice : way ≡ Chooses → TestedStep env place term rest
      choice e =
          tested_step term env place rest (choice_tests term (is ∙ e)) behind (subst (WayReady s env term) e ready) used known has

      split : way ≡ Splits → TestedStep env place term rest
      split e =
          tested_step term env place rest (split_tests term (is ∙ e)) behind (subst (WayReady s env term) e ready) used known has
