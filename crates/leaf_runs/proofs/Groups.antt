-- The group of a block's phis: each is loaded from the variable that it reads, and stored to its own.
use Rattle.std.proofs.Common.{◌≡◌, ℕ, zero, suc, ◌+◌, ◌≤◌, ◌<◌, List, [], ◌∷◌, ◌++◌, length, length-append, Option, Some, None, refl, sym, ap, ◌∙◌, subst, arith}
use Rattle.std.specs.Prelude.{slice_get}
use Rattle.dxil_form.specs.declared.value.Ty.{Ty}
use Rattle.dxil_form.specs.declared.value.Reg.{Reg}
use Rattle.dxil_form.specs.declared.block.Phi.{Phi}
use Rattle.spv_form.specs.declared.module.Inst.{Inst}
use Rattle.dxil_meaning.specs.Steps.{Leads}
use Rattle.dxil_meaning.proofs.Simulation.{leads_none, leads_on}
use Rattle.dxil_meaning.specs.Source.{Registers, entry_value, after_phis}
use Rattle.spirv_meaning.specs.Target.{State, Loads, Passes, next}
use Rattle.spirv_code.specs.Plans.{Context, inst, result, type_id, kept, coming, variable, id_or_0}
use Rattle.spirv_code.specs.Reads.{Env, with_id, store_code, keep_code}
use Rattle.spirv_code.specs.Leaves.{phi_code, group_code, group_env}
use Rattle.line_runs.specs.Held.{Setting, Held, Has, machine}
use Rattle.line_runs.specs.Declared.{Declares}
use Rattle.line_runs.proofs.Tests.{none_some, with_at}
use Rattle.line_runs.proofs.Pieces.{leads_one, has_front, has_back}
use Rattle.line_runs.proofs.Results.{gave, result_at, gave_here, gave_held}
use Rattle.line_runs.proofs.Keeping.{Worth, keep_worth}
use Rattle.line_runs.proofs.Reading.{load_gives}
use Rattle.access_runs.proofs.Stepping.{held_at}
use Rattle.access_runs.proofs.Events.{held_next}
use Rattle.leaf_runs.specs.Begun.{Fills}
use Rattle.leaf_runs.specs.BlockReady.{PhiReady}

-- what a piece of code leaves: as many steps as it has instructions, what was held, of the new registers, and no change of a variable that phis read
pub record After (s : Setting) (i : ℕ) (code : List Inst) (env : Env) (place : ℕ) (regs : Registers) (t : State) : Type 0 where
  pub t' : State
  pub leads : Leads (machine s) i (length code) t [] t'
  pub held : Held s env (place + length code) regs t'
  pub nexts : (reg : Reg) (u : Ty) (variable : ℕ) → s.context.slot (coming reg u) ≡ Some variable → t'.locals variable ≡ t.locals variable

then_after : (s : Setting) (i : ℕ) (front back : List Inst) (env env' : Env) (place : ℕ) (regs regs' : Registers) (t : State) (a : After s i front env place regs t) → After s i back env' (place + length front) regs' a.t' → After s i (front ++ back) env' place regs' t
then_after s i front back env env' place regs regs' t a b =
    let whole : length front + length back ≡ length (front ++ back) = sym (length-append front back) in
    let end : place + length front + length back ≡ place + length (front ++ back) = omega (arith, whole) in
    record {
      t' = b.t';
      leads = subst (λ n. Leads (machine s) i n t [] b.t') whole (leads_on (machine s) i (length front) (length back) t a.t' b.t' [] [] a.leads b.leads);
      held = held_at s env' (place + length front + length back) (place + length (front ++ back)) regs' b.t' end b.held;
      nexts = λ reg u variable slot. b.nexts reg u variable slot ∙ a.nexts reg u variable slot;
    }

-- ---- the variables of the function, where they stand before the code

-- quiet steps that change nothing but the place
pub record Passed (s : Setting) (i n : ℕ) (env : Env) (place : ℕ) (regs : Registers) (t : State) : Type 0 where
  pub t' : State
  pub leads : Leads (machine s) i n t [] t'
  pub held : Held s env (place + n) regs t'
  pub locals : (id : ℕ) → t'.locals id ≡ t.locals id

pub pass_variables : (s : Setting) (i n : ℕ) (env : Env) (place : ℕ) (regs : Registers) (t : State) → ((k : ℕ) → place ≤ k → k < place + n → (operands : List ℕ) × (slice_get s.made.insts k ≡ Some (inst 59 operands))) → Held s env place regs t → Passed s i n env place regs t
pass_variables s i zero env place regs t stand h =
    let e : place ≡ place + 0 = omega arith in
    record { t' = t; leads = leads_none (machine s) i t; held = held_at s env place (place + 0) regs t e h; locals = λ id. refl }
pass_variables s i (suc n) env place regs t stand h =
    let one = stand place (omega arith) (omega arith) in
    let first = leads_one s i t (next t) place 59 one.0 Passes h.at one.1 refl refl in
    let rest = pass_variables s i n env (place + 1) regs (next t) (λ k le lt. stand k (omega arith) (omega arith)) (held_next s env place regs t h) in
    let e : place + 1 + n ≡ place + suc n = omega arith in
    let size : 1 + n ≡ suc n = omega arith in
    record {
      t' = rest.t';
      leads = subst (λ k. Leads (machine s) i k t [] rest.t') size (leads_on (machine s) i 1 n t (next t) rest.t' [] [] first rest.leads);
      held = held_at s env (place + 1 + n) (place + suc n) regs rest.t' e rest.held;
      locals = rest.locals;
    }

-- ---- the phis

-- a store to a variable that is there
store_is : (o : Option ℕ) (v id : ℕ) → o ≡ Some v → store_code o id ≡ inst 62 (id_or_0 o ∷ id ∷ []) ∷ []
store_is (Some w) v id e = refl
store_is None v id e = absurd (none_some e)

-- what a phi reads is as it was
pub still_fills : (s : Setting) (regs : Registers) (from : ℕ) (phi : Phi) (t t' : State) → ((reg : Reg) (u : Ty) (variable : ℕ) → s.context.slot (coming reg u) ≡ Some variable → t'.locals variable ≡ t.locals variable) → Fills s regs from phi t → Fills s regs from phi t'
still_fills s regs from phi t t' nexts fills id slot =
    let k = fills id slot in
    (k.0, nexts phi.to phi.ty id slot ∙ k.1, k.2, k.3)

phi_runs : (s : Setting) → Declares s → (i : ℕ) (old : Registers) (previous : ℕ) (env : Env) (place : ℕ) (regs : Registers) (t : State) (phi : Phi) → PhiReady s phi → Fills s old previous phi t → Held s env place regs t → Has s.made place (phi_code s.context place phi) → After s i (phi_code s.context place phi) (with_id phi.to (result s.context place) env) place (with_at phi.to (entry_value old previous phi.entries) regs) t
phi_runs s d i old previous env place regs t phi ready fills h has =
    let c : Context = s.context in
    let r : ℕ = result c place in
    let v : ℕ = ready.next.0 in
    let f = fills v ready.next.1 in
    let local = (d.locals (coming phi.to phi.ty) v ready.next.1).variable in
    let load : Inst = inst 61 (type_id c phi.ty ∷ r ∷ variable c (coming phi.to phi.ty) ∷ []) in
    let here : slice_get s.made.insts place ≡ Some (inst 61 (type_id c phi.ty ∷ r ∷ v ∷ [])) = has.0 ∙ ap (λ o. Some (inst 61 (type_id c phi.ty ∷ r ∷ id_or_0 o ∷ []))) ready.next.1 in
    let t1 : State = gave s place f.0 t in
    let first = leads_one s i t t1 place 61 (type_id c phi.ty ∷ r ∷ v ∷ []) Loads h.at here refl (load_gives s i (type_id c phi.ty) place t v f.0 local f.1) in
    let loaded : After s i (load ∷ []) env place regs t = record { t' = t1; leads = first; held = gave_held s env place regs t f.0 h; nexts = λ reg u variable slot. refl } in
    let keeps : List Inst = keep_code c phi.to phi.ty r in
    let same : keeps ≡ inst 62 (variable c (kept phi.to phi.ty) ∷ r ∷ []) ∷ [] = store_is (c.slot (kept phi.to phi.ty)) ready.own.0 r ready.own.1 in
    let worth : Worth phi.ty (entry_value old previous phi.entries) f.0 = record { of = f.2; same = f.3 } in
    let k = keep_worth s d i env (place + 1) regs t1 phi.to phi.ty (entry_value old previous phi.entries) f.0 r (gave_held s env place regs t f.0 h) ready.one worth (gave_here s d place (result_at s place 61 _ Loads here refl refl) f.0 t) (subst (λ code. Has s.made (place + 1) code) (sym same) has.1) in
    let env' : Env = with_id phi.to r env in
    let regs' : Registers = with_at phi.to (entry_value old previous phi.entries) regs in
    let stored : After s i keeps env' (place + 1) regs' t1 = record { t' = k.done.t'; leads = k.done.leads; held = k.done.held; nexts = k.nexts } in
    subst (λ code. After s i (load ∷ code) env' place regs' t) same (then_after s i (load ∷ []) keeps env env' place regs regs' t loaded stored)

-- Each phi takes what its entry had before the group: what a phi reads is written by no phi.
pub group_runs : (s : Setting) → Declares s → (i : ℕ) (old : Registers) (previous : ℕ) (phis : List Phi) (env : Env) (place : ℕ) (regs : Registers) (t : State) → ((n : ℕ) (phi : Phi) → slice_get phis n ≡ Some phi → PhiReady s phi) → ((n : ℕ) (phi : Phi) → slice_get phis n ≡ Some phi → Fills s old previous phi t) → Held s env place regs t → Has s.made place (group_code s.context place phis) → After s i (group_code s.context place phis) (group_env s.context env place phis) place (after_phis old previous phis regs) t
group_runs s d i old previous [] env place regs t ready fills h has =
    let e : place ≡ place + 0 = omega arith in
    record { t' = t; leads = leads_none (machine s) i t; held = held_at s env place (place + 0) regs t e h; nexts = λ reg u variable slot. refl }
group_runs s d i old previous (phi ∷ phis) env place regs t ready fills h has =
    let c : Context = s.context in
    let front : List Inst = phi_code c place phi in
    let back : List Inst = group_code c (place + 2) phis in
    let env1 : Env = with_id phi.to (result c place) env in
    let regs1 : Registers = with_at phi.to (entry_value old previous phi.entries) regs in
    let first = phi_runs s d i old previous env place regs t phi (ready 0 phi refl) (fills 0 phi refl) h (has_front s.made place front back has) in
    let rest = group_runs s d i old previous phis env1 (place + 2) regs1 first.t' (λ n f at. ready (suc n) f at) (λ n f at. still_fills s old previous f t first.t' first.nexts (fills (suc n) f at)) first.held (has_back s.made place front back has) in
    then_after s i front back env1 (group_env c env1 (place + 2) phis) place regs1 (after_phis old previous phis regs1) t first rest
