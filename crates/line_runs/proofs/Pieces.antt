-- Instructions that stand in a module, and one step over one of them.
use Rattle.std.proofs.Common.{◌≡◌, ℕ, ◌+◌, List, [], ◌∷◌, ◌++◌, length, Some, ap, ◌∙◌, subst, arith}
use Rattle.std.specs.Prelude.{slice_get}
use Rattle.spv_form.specs.declared.module.Inst.{Inst}
use Rattle.spv_form.specs.declared.module.Module.{Module}
use Rattle.dxil_meaning.specs.Launches.{Quiet}
use Rattle.dxil_meaning.specs.Steps.{Leads}
use Rattle.dxil_meaning.proofs.Simulation.{leads_step}
use Rattle.spirv_meaning.specs.Target.{State, Kind, kind_of, act, inst_step, given}
use Rattle.spirv_code.specs.Plans.{inst}
use Rattle.line_runs.specs.Held.{Setting, machine, Has}

pub has_front : (m : Module) (place : ℕ) (a b : List Inst) → Has m place (a ++ b) → Has m place a
has_front m place [] b h = tt
has_front m place (x ∷ a) b h = (h.0, has_front m (place + 1) a b h.1)

pub has_back : (m : Module) (place : ℕ) (a b : List Inst) → Has m place (a ++ b) → Has m (place + length a) b
has_back m place [] b h =
    let e : place ≡ place + 0 = omega arith in
    subst (λ n. Has m n b) e h
has_back m place (x ∷ a) b h =
    let e : place + 1 + length a ≡ place + length (x ∷ a) = omega arith in
    subst (λ n. Has m n b) e (has_back m (place + 1) a b h.1)

-- one quiet instruction
pub leads_one : (s : Setting) (i : ℕ) (t t' : State) (place opcode : ℕ) (operands : List ℕ) (kind : Kind) → t.at ≡ place → slice_get s.made.insts place ≡ Some (inst opcode operands) → kind_of opcode ≡ Some kind → act s.made s.bindings s.launch i kind operands t ≡ Quiet [] t' → Leads (machine s) i 1 t [] t'
leads_one s i t t' place opcode operands kind at here is does =
    leads_step (machine s) i t [] t' (ap (λ o. inst_step s.made s.bindings s.launch i o t) (ap (slice_get s.made.insts) at ∙ here) ∙ ap (λ o. given o (λ kind. act s.made s.bindings s.launch i kind operands t)) is ∙ does)
