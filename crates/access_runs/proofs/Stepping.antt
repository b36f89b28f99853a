-- Results one after the other.
use Rattle.std.proofs.Common.{◌≡◌, ℕ, ◌+◌, List, [], ◌∷◌, Option, Some, refl, sym, ap, ◌∙◌, subst, arith}
use Rattle.std.specs.Prelude.{slice_get}
use Rattle.spv_form.specs.declared.module.Inst.{Inst}
use Rattle.spv_form.specs.declared.module.Module.{Module}
use Rattle.dxil_meaning.specs.Steps.{Leads}
use Rattle.dxil_meaning.proofs.Simulation.{leads_on}
use Rattle.dxil_meaning.specs.Source.{Registers}
use Rattle.spirv_meaning.specs.Target.{Value, State, Two_operands, kind_of, value_of}
use Rattle.spirv_code.specs.Plans.{inst, result}
use Rattle.spirv_code.specs.Reads.{Env}
use Rattle.line_runs.specs.Held.{Setting, Held, Has, machine}
use Rattle.line_runs.specs.Declared.{Declares, HasResult}
use Rattle.line_runs.proofs.Results.{gave, Keeps, result_at, gave_here, gave_keeps, gave_held}
use Rattle.line_runs.proofs.Combined.{two_words}

pub held_at : (s : Setting) (env : Env) (p q : ℕ) (regs : Registers) (t : State) → p ≡ q → Held s env p regs t → Held s env q regs t
held_at s env p q regs t e h = subst (λ n. Held s env n regs t) e h

pub has_at : (m : Module) (p q : ℕ) (code : List Inst) → p ≡ q → Has m p code → Has m q code
has_at m p q code e h = subst (λ n. Has m n code) e h

pub inst_at : (m : Module) (p q : ℕ) (i : Inst) → p ≡ q → slice_get m.insts p ≡ Some i → slice_get m.insts q ≡ Some i
inst_at m p q i e h = ap (slice_get m.insts) (sym e) ∙ h

-- the instruction at q gives a result
pub record Next (s : Setting) (i : ℕ) (env : Env) (q : ℕ) (regs : Registers) (t : State) (w : Value) : Type 0 where
  pub leads : Leads (machine s) i 1 t [] (gave s q w t)
  pub held : Held s env (q + 1) regs (gave s q w t)
  pub keeps : Keeps s t (gave s q w t)
  pub is : value_of s.made (gave s q w t) (result s.context q) ≡ Some w

pub next_of : (s : Setting) → Declares s → (i : ℕ) (env : Env) (q : ℕ) (regs : Registers) (t : State) (w : Value) → Held s env q regs t → HasResult s q → Leads (machine s) i 1 t [] (gave s q w t) → Next s i env q regs t w
next_of s d i env q regs t w h has leads =
    record {
      leads = leads;
      held = gave_held s env q regs t w h;
      keeps = gave_keeps s q w t (h.fresh q (omega arith));
      is = gave_here s d q has w t;
    }

pub next_two : (s : Setting) → Declares s → (i : ℕ) (env : Env) (q : ℕ) (regs : Registers) (t : State) (opcode type a b : ℕ) (wa wb w : Value) (f : Option Value → Option Value → Option Value) → Held s env q regs t → slice_get s.made.insts q ≡ Some (inst opcode (type ∷ result s.context q ∷ a ∷ b ∷ [])) → kind_of opcode ≡ Some (Two_operands f) → value_of s.made t a ≡ Some wa → value_of s.made t b ≡ Some wb → f (Some wa) (Some wb) ≡ Some w → Next s i env q regs t w
next_two s d i env q regs t opcode type a b wa wb w f h here is isa isb gives_it =
    next_of s d i env q regs t w h (result_at s q opcode _ (Two_operands f) here is refl) (two_words s i q opcode type a b t wa wb w f h.at here is isa isb gives_it)

-- some results, up to place + n
pub record Ahead (s : Setting) (i : ℕ) (env : Env) (place n : ℕ) (regs : Registers) (t t' : State) : Type 0 where
  pub leads : Leads (machine s) i n t [] t'
  pub held : Held s env (place + n) regs t'
  pub keeps : Keeps s t t'

pub more : (s : Setting) (i : ℕ) (env : Env) (place n k q : ℕ) (regs : Registers) (t t' : State) (w : Value) → Ahead s i env place n regs t t' → q ≡ place + n → k ≡ n + 1 → Next s i env q regs t' w → Ahead s i env place k regs t (gave s q w t')
more s i env place n k q regs t t' w a e e' next =
    record {
      leads = subst (λ j. Leads (machine s) i j t [] (gave s q w t')) (sym e') (leads_on (machine s) i n 1 t t' (gave s q w t') [] [] a.leads next.leads);
      held = held_at s env (q + 1) (place + k) regs (gave s q w t') (omega (arith, e, e')) next.held;
      keeps = λ id x is. next.keeps id x (a.keeps id x is);
    }

pub then_ahead : (s : Setting) (i : ℕ) (env : Env) (place n m k : ℕ) (regs : Registers) (t t' t'' : State) → Ahead s i env place n regs t t' → Ahead s i env (place + n) m regs t' t'' → k ≡ n + m → Ahead s i env place k regs t t''
then_ahead s i env place n m k regs t t' t'' a b e =
    record {
      leads = subst (λ j. Leads (machine s) i j t [] t'') (sym e) (leads_on (machine s) i n m t t' t'' [] [] a.leads b.leads);
      held = held_at s env (place + n + m) (place + k) regs t'' (omega (arith, e)) b.held;
      keeps = λ id x is. b.keeps id x (a.keeps id x is);
    }
