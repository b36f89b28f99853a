-- Branches to labels inside a leaf, behind which no register is known.
use Rattle.std.proofs.Common.{◌≡◌, ℕ, suc, ◌+◌, ◌≤◌, Bool, true, false, List, [], ◌∷◌, length, Some, None, refl, ap, ◌∙◌, subst, arith}
use Rattle.std.specs.Prelude.{slice_get, if◌then◌else◌}
use Rattle.dxil_form.specs.declared.value.Reg.{Reg}
use Rattle.spv_form.specs.declared.module.Inst.{Inst}
use Rattle.dxil_meaning.specs.Launches.{Quiet}
use Rattle.dxil_meaning.specs.Steps.{Leads}
use Rattle.dxil_meaning.proofs.Simulation.{leads_on}
use Rattle.dxil_meaning.specs.Source.{Registers}
use Rattle.spirv_meaning.specs.Target.{Truth, State, Passes, Label_begins, Branches, Branches_if, act, branch, given, as_truth, value_of, next}
use Rattle.spirv_code.specs.Plans.{inst, result}
use Rattle.spirv_code.specs.Reads.{Env, no_register}
use Rattle.line_runs.specs.Held.{Setting, Held, machine}
use Rattle.line_runs.specs.Declared.{Declares}
use Rattle.line_runs.specs.Done.{Done}
use Rattle.line_runs.proofs.Tests.{none_some}
use Rattle.line_runs.proofs.Pieces.{leads_one}
use Rattle.access_runs.specs.Parts.{Comes}
use Rattle.access_runs.proofs.Stepping.{held_at}

-- the state at a label that was branched to
abbrev pub at_label : ℕ → State → State
at_label q t = record { at = q; results = λ id. None; locals = t.locals }

no_known : (reg : Reg) (id : ℕ) → no_register reg ≡ Some id → ⊥
unfolding no_register
no_known reg id e = none_some e

-- what is held at the place behind a label
pub held_behind : (s : Setting) (env : Env) (place q : ℕ) (regs : Registers) (t : State) → Held s env place regs t → Held s no_register q regs (at_label q t)
held_behind s env place q regs t h =
    record {
      at = refl;
      known = λ reg id e. absurd (no_known reg id e);
      stored = h.stored;
      next = h.next;
      typed = h.typed;
      fresh = λ k le. refl;
    }

-- a branch to an inner label leads behind it
pub label_passed : (s : Setting) → Declares s → (i q : ℕ) (t : State) → slice_get s.made.insts q ≡ Some (inst 248 (result s.context q ∷ [])) → Leads (machine s) i 1 (at_label q t) [] (at_label (suc q) t)
label_passed s d i q t here =
    let inner = d.inner q here in
    leads_one s i (at_label q t) (at_label (suc q) t) q 248 (result s.context q ∷ []) Label_begins refl here refl (ap (λ b. Quiet b (at_label (suc q) t)) inner.1)

pub branch_gives : (s : Setting) → Declares s → (q : ℕ) (t : State) → slice_get s.made.insts q ≡ Some (inst 248 (result s.context q ∷ [])) → branch s.made (result s.context q) t ≡ Quiet [] (at_label q t)
branch_gives s d q t here =
    ap (λ o. given o λ at. Quiet [] (record { at = at; results = λ id. None; locals = t.locals })) (d.inner q here).0

pub jump : (s : Setting) → Declares s → (i : ℕ) (env : Env) (place q : ℕ) (regs : Registers) (t : State) → Held s env place regs t → slice_get s.made.insts place ≡ Some (inst 249 (result s.context q ∷ [])) → slice_get s.made.insts q ≡ Some (inst 248 (result s.context q ∷ [])) → Comes s i 2 no_register (q + 1) regs t
jump s d i env place q regs t h here there =
    let first = leads_one s i t (at_label q t) place 249 (result s.context q ∷ []) Branches h.at here refl (branch_gives s d q t there) in
    let e : suc q ≡ q + 1 = omega arith in
    record {
      n = 2;
      few = omega arith;
      t' = at_label (suc q) t;
      leads = leads_on (machine s) i 1 1 t (at_label q t) (at_label (suc q) t) [] [] first (label_passed s d i q t there);
      held = held_at s no_register (suc q) (q + 1) regs (at_label (suc q) t) e (held_behind s env place (suc q) regs t h);
    }

-- a selection by a truth: to one of two inner labels
pub fork : (s : Setting) → Declares s → (i : ℕ) (env : Env) (place test meet yes_at no_at : ℕ) (regs : Registers) (t : State) (b : Bool) → Held s env place regs t → slice_get s.made.insts place ≡ Some (inst 247 (meet ∷ 0 ∷ [])) → slice_get s.made.insts (place + 1) ≡ Some (inst 250 (test ∷ result s.context yes_at ∷ result s.context no_at ∷ [])) → value_of s.made t test ≡ Some (Truth b) → slice_get s.made.insts (if b then yes_at else no_at) ≡ Some (inst 248 (result s.context (if b then yes_at else no_at) ∷ [])) → Comes s i 3 no_register ((if b then yes_at else no_at) + 1) regs t
fork s d i env place test meet yes_at no_at regs t b h here0 here1 is there =
    let c = s.context in
    let q : ℕ = if b then yes_at else no_at in
    let t1 : State = next t in
    let e1 : suc t.at ≡ place + 1 = omega (arith, h.at) in
    let first = leads_one s i t t1 place 247 (meet ∷ 0 ∷ []) Passes h.at here0 refl refl in
    let to : (if b then result c yes_at else result c no_at) ≡ result c q = which b in
    let does : act s.made s.bindings s.launch i Branches_if (test ∷ result c yes_at ∷ result c no_at ∷ []) t1 ≡ Quiet [] (at_label q t1) = ap (λ o. given (as_truth o) λ b'. branch s.made (if b' then result c yes_at else result c no_at) t1) is ∙ ap (λ n. branch s.made n t1) to ∙ branch_gives s d q t1 there in
    let second = leads_one s i t1 (at_label q t1) (place + 1) 250 (test ∷ result c yes_at ∷ result c no_at ∷ []) Branches_if e1 here1 refl does in
    let third = label_passed s d i q t1 there in
    let e : suc q ≡ q + 1 = omega arith in
    let both = leads_on (machine s) i 1 1 t t1 (at_label q t1) [] [] first second in
    record {
      n = 3;
      few = omega arith;
      t' = at_label (suc q) t;
      leads = leads_on (machine s) i 2 1 t (at_label q t1) (at_label (suc q) t1) [] [] both third;
      held = held_at s no_register (suc q) (q + 1) regs (at_label (suc q) t) e (held_behind s env place (suc q) regs t h);
    }
  where
    which : (b : Bool) → (if b then result s.context yes_at else result s.context no_at) ≡ result s.context (if b then yes_at else no_at)
    which true = refl
    which false = refl

-- ---- one way after another

pub then_comes : (s : Setting) (i n size whole : ℕ) (env : Env) (place : ℕ) (regs : Registers) (t t' : State) → Leads (machine s) i n t [] t' → n + size ≤ whole → Comes s i size env place regs t' → Comes s i whole env place regs t
then_comes s i n size whole env place regs t t' leads room rest =
    record {
      n = n + rest.n;
      few = omega (arith, rest.few, room);
      t' = rest.t';
      leads = leads_on (machine s) i n rest.n t t' rest.t' [] [] leads rest.leads;
      held = rest.held;
    }

pub comes_at : (s : Setting) (i size : ℕ) (env : Env) (p q : ℕ) (regs : Registers) (t : State) → p ≡ q → Comes s i size env p regs t → Comes s i size env q regs t
comes_at s i size env p q regs t e c = subst (λ n. Comes s i size env n regs t) e c

pub comes_of : (s : Setting) (i size : ℕ) (code : List Inst) (env : Env) (place : ℕ) (regs : Registers) (t : State) → length code ≤ size → Done s i code env place regs t → Comes s i size env (place + length code) regs t
comes_of s i size code env place regs t room done =
    record { n = length code; few = room; t' = done.t'; leads = done.leads; held = done.held }
