-- A result that an instruction gives: it is there, nothing that was there is lost, and what was held is held.
use Rattle.std.proofs.Common.{◌≡◌, ℕ, suc, ◌+◌, Bool, true, false, Option, Some, None, refl, sym, ap, ◌∙◌, arith}
use Rattle.std.specs.Prelude.{List, nat_eq, slice_get, if◌then◌else◌}
use Rattle.dxil_meaning.specs.Source.{Registers}
use Rattle.spirv_meaning.specs.Target.{Value, State, Kind, kind_of, fixed, or_result, value_of, with_value}
use Rattle.spirv_code.specs.Plans.{inst, result}
use Rattle.spirv_code.specs.Reads.{Env}
use Rattle.line_runs.specs.Held.{Setting, Held}
use Rattle.line_runs.specs.Declared.{Declares, HasResult, gives_result}
use Rattle.line_runs.proofs.Tests.{none_some, nat_eq-eq, with_value_here, with_value_there}

-- the state behind an instruction at this place that gives this value
abbrev pub gave : Setting → ℕ → Value → State → State
gave s place w t =
    record { at = suc t.at; results = with_value (result s.context place) (Some w) t.results; locals = t.locals }

-- all that has a value in one state has it in the other
abbrev pub Keeps : Setting → State → State → Type 0
Keeps s t t' = (id : ℕ) (x : Value) → value_of s.made t id ≡ Some x → value_of s.made t' id ≡ Some x

pub fixed_here : (s : Setting) (t : State) (id : ℕ) (w : Value) → fixed s.made id ≡ Some w → value_of s.made t id ≡ Some w
fixed_here s t id w e = ap (λ o. or_result o (t.results id)) e

-- an instruction of this opcode at the place has a result
pub result_at : (s : Setting) (place opcode : ℕ) (operands : List ℕ) (kind : Kind) → slice_get s.made.insts place ≡ Some (inst opcode operands) → kind_of opcode ≡ Some kind → gives_result kind ≡ true → HasResult s place
result_at s place opcode operands kind here known gives =
    record { i = inst opcode operands; kind = kind; here = here; known = known; gives = gives }

pub gave_here : (s : Setting) → Declares s → (place : ℕ) → HasResult s place → (w : Value) (t : State) → value_of s.made (gave s place w t) (result s.context place) ≡ Some w
gave_here s d place has w t =
    ap (λ o. or_result o (with_value (result s.context place) (Some w) t.results (result s.context place))) (d.results place has) ∙ with_value_here (result s.context place) (Some w) t.results

pub gave_keeps : (s : Setting) (place : ℕ) (w : Value) (t : State) → t.results (result s.context place) ≡ None → Keeps s t (gave s place w t)
gave_keeps s place w t none id x e = by_fixed (fixed s.made id) e
  where
    by_test : (b : Bool) → nat_eq id (result s.context place) ≡ b → t.results id ≡ Some x → (if b then Some w else t.results id) ≡ Some x
    by_test true e h = absurd (none_some (sym none ∙ ap t.results (sym (nat_eq-eq id (result s.context place) e)) ∙ h))
    by_test false e h = h

    by_fixed : (o : Option Value) → or_result o (t.results id) ≡ Some x → or_result o (with_value (result s.context place) (Some w) t.results id) ≡ Some x
    by_fixed (Some v) e = e
    by_fixed None e = by_test (nat_eq id (result s.context place)) refl e

pub gave_held : (s : Setting) (env : Env) (place : ℕ) (regs : Registers) (t : State) (w : Value) → Held s env place regs t → Held s env (place + 1) regs (gave s place w t)
gave_held s env place regs t w h =
    record {
      at = let e : suc t.at ≡ place + 1 = omega (arith, h.at) in e;
      known = λ reg id is. let x = h.known reg id is in (x.0, gave_keeps s place w t (h.fresh place (omega arith)) id x.0 x.1, x.2, x.3);
      stored = h.stored;
      next = h.next;
      typed = h.typed;
      fresh = λ k le. with_value_there (result s.context place) (Some w) t.results (result s.context k) (λ e. omega arith) ∙ h.fresh k (omega arith);
    }
