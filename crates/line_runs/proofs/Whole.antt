-- Each line without an event: it is undefined, or its code does what it does.
use Rattle.std.proofs.Common.{◌≡◌, ℕ, ◌+◌, Bool, true, false, List, Option, Some, None, refl, ap, ◌∙◌, subst, arith, inl, inr}
use Rattle.std.specs.Prelude.{◌⊎◌, option_map, option_and_then, slice_index, if◌then◌else◌}
use Rattle.dxil_form.specs.declared.value.Ty.TheVariants as ty
use Rattle.dxil_form.specs.declared.value.Reg.{Reg}
use Rattle.dxil_form.specs.declared.value.Operand.{Operand}
use Rattle.dxil_form.specs.declared.instr.Instr.{Instr}
use Rattle.dxil_form.specs.declared.instr.Instr.TheVariants.{Bin, Cmp, Cast, Select, Copy, One, Two, Mad, Id, Size, Load, Store, Atomic, Swap, Barrier, Nothing}
use Rattle.spv_form.specs.declared.module.Inst.{Inst}
use Rattle.dxil_meaning.specs.Arithmetic.{word_add, word_mul}
use Rattle.dxil_meaning.specs.Launches.{Wrong}
use Rattle.dxil_meaning.proofs.Simulation.{leads_none}
use Rattle.dxil_meaning.specs.Source.{Registers, at_line, sets, instr_step, bin_value, cmp_value, number_of, as_number, as_truth, chosen, on_both, one_op, two_op, id_of}
use Rattle.dxil_meaning.specs.Source as source
use Rattle.spirv_meaning.specs.Target.{State}
use Rattle.spirv_code.specs.Reads.{Env}
use Rattle.spirv_code.specs.Lines.{line_code, line_env}
use Rattle.line_runs.specs.Held.{Setting, Held, Has, machine}
use Rattle.line_runs.specs.Declared.{Declares}
use Rattle.line_runs.proofs.Tests.{none_some, some_inj, with_at}
use Rattle.line_runs.specs.Ready.{LineReady}
use Rattle.line_runs.specs.Done.{Done, QuietDone}
use Rattle.line_runs.proofs.Values.{bin_does, cmp_does}
use Rattle.line_runs.proofs.Lines.{bin_line, select_line, copy_line, one_line}
use Rattle.line_runs.proofs.Combined.{cast_line, extreme_line, mad_line, id_line, size_line}

-- a line that sets a register to a value, unless that is undefined
by_value : (s : Setting) (i k : ℕ) (code : List Inst) (env : Env) (place : ℕ) (t : State) (x : source.State) (to : Reg) (o : Option source.Value) → ((v : source.Value) → o ≡ Some v → Done s i code env place (with_at to (Some v) x.regs) t) → (sets k to o x ≡ Wrong) ⊎ QuietDone s i k code env place t x (sets k to o x)
by_value s i k code env place t x to None line = inl refl
by_value s i k code env place t x to (Some v) line =
    inr (record { regs = with_at to (Some v) x.regs; is = refl; done = line v refl })

-- ---- what the operands of a defined line are

and_then_some : {A B : Type 0} (f : A → Option B) (o : Option A) (b : B) → option_and_then f o ≡ Some b → (a : A) × (o ≡ Some a) × (f a ≡ Some b)
and_then_some f (Some a) b e = (a, refl, e)
and_then_some f None b e = absurd (none_some e)

pub map_some : {A B : Type 0} (f : A → B) (o : Option A) (b : B) → option_map f o ≡ Some b → (a : A) × (o ≡ Some a) × (f a ≡ b)
map_some f (Some a) b e = (a, refl, some_inj e)
map_some f None b e = absurd (none_some e)

pub both_some : {A B C : Type 0} (f : A → B → Option C) (o : Option A) (p : Option B) (c : C) → on_both f o p ≡ Some c → (a : A) × (b : B) × (o ≡ Some a) × (p ≡ Some b) × (f a b ≡ Some c)
both_some f (Some a) (Some b) c e = (a, b, refl, refl, e)
both_some f (Some a) None c e = absurd (none_some e)
both_some f None p c e = absurd (none_some e)

pub number_some : (o : Option source.Value) (n : ℕ) → as_number o ≡ Some n → o ≡ Some (source.Number n)
number_some (Some (source.Number m)) n e = ap (λ k. Some (source.Number k)) (some_inj e)
number_some (Some (source.Truth b)) n e = absurd (none_some e)
number_some None n e = absurd (none_some e)

chosen_some : (regs : Registers) (o : Option source.Value) (a b : Operand) (v : source.Value) → chosen regs (as_truth o) a b ≡ Some v → (c : Bool) × (o ≡ Some (source.Truth c)) × ((if c then source.value_of regs a else source.value_of regs b) ≡ Some v)
chosen_some regs (Some (source.Truth true)) a b v e = (true, refl, e)
chosen_some regs (Some (source.Truth false)) a b v e = (false, refl, e)
chosen_some regs (Some (source.Number n)) a b v e = absurd (none_some e)
chosen_some regs None a b v e = absurd (none_some e)

-- ---- the lines

pub quiet_line : (s : Setting) → Declares s → (i k : ℕ) (env : Env) (place : ℕ) (t : State) (x : source.State) (line : Instr) → LineReady s env line → Held s env place x.regs t → Has s.made place (line_code s.context env place line) → (instr_step s.program s.launch i k line x ≡ Wrong) ⊎ QuietDone s i k (line_code s.context env place line) (line_env s.context env place line) place t x (instr_step s.program s.launch i k line x)
quiet_line s d i k env place t x (Bin to op type a b) ready h has =
    by_value s i k _ _ place t x to (bin_value op type (source.value_of x.regs a) (source.value_of x.regs b)) (λ v e. bin_line s d i env place x.regs t to _ type type a b v ready.0 ready.1 ready.2 (bin_does op type (source.value_of x.regs a) (source.value_of x.regs b) v e) h has)
quiet_line s d i k env place t x (Cmp to op type a b) ready h has =
    by_value s i k _ _ place t x to (cmp_value op type (source.value_of x.regs a) (source.value_of x.regs b)) (λ v e. bin_line s d i env place x.regs t to _ type ty.Bool a b v ready.0 ready.1 ready.2 (cmp_does op type (source.value_of x.regs a) (source.value_of x.regs b) v e) h has)
quiet_line s d i k env place t x (Cast to op a) ready h has =
    by_value s i k _ _ place t x to (option_and_then (source.cast op) (source.value_of x.regs a)) λ v e. (let w = and_then_some (source.cast op) (source.value_of x.regs a) v e in cast_line s d i env place x.regs t to op a w.0 v ready.0 ready.1 ready.2 w.1 w.2 h has)
quiet_line s d i k env place t x (Select to type c a b) ready h has =
    by_value s i k _ _ place t x to (chosen x.regs (as_truth (source.value_of x.regs c)) a b) λ v e. (let w = chosen_some x.regs (source.value_of x.regs c) a b v e in select_line s d i env place x.regs t to type c a b w.0 v ready.0 ready.1 ready.2 ready.3 w.1 w.2 h has)
quiet_line s d i k env place t x (Copy to type a) ready h has =
    by_value s i k _ _ place t x to (source.value_of x.regs a) (λ v e. copy_line s d i env place x.regs t to type a v ready.0 ready.1 e h has)
quiet_line s d i k env place t x (One to op a) ready h has =
    by_value s i k _ _ place t x to (option_map (λ n. source.Number (one_op op n)) (number_of x.regs a)) λ v e. (let w = map_some (λ n. source.Number (one_op op n)) (number_of x.regs a) v e in subst (λ y. Done s i (line_code s.context env place (One to op a)) (line_env s.context env place (One to op a)) place (with_at to (Some y) x.regs) t) w.2 (one_line s d i env place x.regs t to op a w.0 ready.0 ready.1 (number_some (source.value_of x.regs a) w.0 w.1) h has))
quiet_line s d i k env place t x (Two to op a b) ready h has =
    by_value s i k _ _ place t x to (on_both (λ m n. Some (source.Number (two_op op m n))) (number_of x.regs a) (number_of x.regs b)) λ v e. (let w = both_some (λ m n. Some (source.Number (two_op op m n))) (number_of x.regs a) (number_of x.regs b) v e in subst (λ y. Done s i (line_code s.context env place (Two to op a b)) (line_env s.context env place (Two to op a b)) place (with_at to (Some y) x.regs) t) (some_inj w.4) (extreme_line s d i env place x.regs t to op a b w.0 w.1 ready.0 ready.1 ready.2 (number_some (source.value_of x.regs a) w.0 w.2) (number_some (source.value_of x.regs b) w.1 w.3) h has))
quiet_line s d i k env place t x (Mad to a b c) ready h has =
    by_value s i k _ _ place t x to (on_both (λ xy z. Some (source.Number (word_add xy z))) (on_both (λ m n. Some (word_mul m n)) (number_of x.regs a) (number_of x.regs b)) (number_of x.regs c)) λ v e. (let w = both_some (λ xy z. Some (source.Number (word_add xy z))) (on_both (λ m n. Some (word_mul m n)) (number_of x.regs a) (number_of x.regs b)) (number_of x.regs c) v e in let u = both_some (λ m n. Some (word_mul m n)) (number_of x.regs a) (number_of x.regs b) w.0 w.2 in subst (λ y. Done s i (line_code s.context env place (Mad to a b c)) (line_env s.context env place (Mad to a b c)) place (with_at to (Some y) x.regs) t) (ap (λ n. source.Number (word_add n w.1)) (some_inj u.4) ∙ some_inj w.4) (mad_line s d i env place x.regs t to a b c u.0 u.1 w.1 ready.0 ready.1 ready.2 ready.3 (number_some (source.value_of x.regs a) u.0 u.2) (number_some (source.value_of x.regs b) u.1 u.3) (number_some (source.value_of x.regs c) w.1 w.3) h has))
quiet_line s d i k env place t x (Id to op part) ready h has =
    by_value s i k _ _ place t x to (Some (source.Number (id_of s.program s.launch i op part))) (λ v e. subst (λ y. Done s i (line_code s.context env place (Id to op part)) (line_env s.context env place (Id to op part)) place (with_at to (Some y) x.regs) t) (some_inj e) (id_line s d i env place x.regs t to op part ready.0 ready.1 ready.2 h has))
quiet_line s d i k env place t x (Size to buffer) ready h has =
    by_value s i k _ _ place t x to (Some (source.Number (slice_index s.launch.sizes buffer))) (λ v e. subst (λ y. Done s i (line_code s.context env place (Size to buffer)) (line_env s.context env place (Size to buffer)) place (with_at to (Some y) x.regs) t) (some_inj e) (size_line s d i env place x.regs t to buffer ready.1.0 ready.0 ready.1.1 ready.1.2 ready.2 h has))
quiet_line s d i k env place t x Nothing ready h has =
    let e : place ≡ place + 0 = omega arith in
    inr (record {
      regs = x.regs;
      is = refl;
      done = record { t' = t; leads = leads_none (machine s) i t; held = subst (λ n. Held s env n x.regs t) e h };
    })
quiet_line s d i k env place t x (Load to mask target addr) ready h has = absurd ready
quiet_line s d i k env place t x (Store mask target addr a b c e) ready h has = absurd ready
quiet_line s d i k env place t x (Atomic to op target addr value) ready h has = absurd ready
quiet_line s d i k env place t x (Swap to target addr compare value) ready h has = absurd ready
quiet_line s d i k env place t x (Barrier sync scope uav shared) ready h has = absurd ready
