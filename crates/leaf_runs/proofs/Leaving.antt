-- How a leaf is left: from behind its copies to the site of the block that the terminator goes to, and over its label.
use Rattle.std.proofs.Common.{◌≡◌, ℕ, suc, ◌+◌, Bool, true, false, List, [], ◌∷◌, length, Some, refl, sym, ap, ◌∙◌, subst, arith, ⊎_elim}
use Rattle.std.specs.Prelude.{nat_lt, if◌then◌else◌}
use Rattle.dxil_form.specs.declared.value.Ty.{Ty}
use Rattle.dxil_form.specs.declared.value.Reg.{Reg}
use Rattle.dxil_form.specs.declared.value.Operand.{Operand}
use Rattle.dxil_form.specs.declared.block.Term.{Term}
use Rattle.dxil_form.specs.Graphs.{In}
use Rattle.dxil_meaning.specs.Launches.{Quiet}
use Rattle.dxil_meaning.specs.Steps.{Leads}
use Rattle.dxil_meaning.proofs.Simulation.{leads_on, leads_step}
use Rattle.dxil_meaning.specs.Source.{Registers}
use Rattle.dxil_meaning.specs.Source as source
use Rattle.spirv_meaning.specs.Names.{begun_at}
use Rattle.spirv_meaning.specs.Target.{State, Label_begins, value_of, next}
use Rattle.spirv_code.specs.declared.key.Slot.TheVariants.{Want, Pick}
use Rattle.spirv_code.specs.declared.way.Way.TheVariants.{Chooses, Splits}
use Rattle.spirv_code.specs.Plans.{coming, kept, result}
use Rattle.spirv_code.specs.Reads.{Env, no_register, read_size, read_code, read_id}
use Rattle.spirv_code.specs.Leaves.{way_to, most_pairs}
use Rattle.line_runs.specs.Held.{Setting, Held, Has, machine, as_value}
use Rattle.line_runs.specs.Declared.{Declares}
use Rattle.line_runs.specs.Ready.{Ready}
use Rattle.line_runs.specs.Exits.{IsPasser, Arrives, ArrivesAt, IsSite, Tests, LeavesBy}
use Rattle.line_runs.proofs.Tests.{none_some}
use Rattle.line_runs.proofs.Reading.{read, read_length}
use Rattle.access_runs.proofs.Events.{acts_one}
use Rattle.leaf_runs.specs.BlockReady.{TestedReady, WayReady}

-- ---- to the site

arrives_after : (s : Setting) (i n : ℕ) (t t' : State) (place : ℕ) → Leads (machine s) i n t [] t' → t'.at ≡ t.at + n → ((id : ℕ) → t'.locals id ≡ t.locals id) → Arrives s i t' place → Arrives s i t place
arrives_after s i n t t' place leads at locals a =
    record {
      n = n + a.n;
      few = omega (arith, a.few, at);
      t' = a.t';
      leads = leads_on (machine s) i n a.n t t' a.t' [] [] leads a.leads;
      at = a.at;
      results = a.results;
      keeps = λ id others. a.keeps id others ∙ locals id;
    }

-- what is tested is read, and has the program's value
pub read_arrives : (s : Setting) → Declares s → (i : ℕ) (env : Env) (place : ℕ) (regs : Registers) (t : State) (a : Operand) (type : Ty) (v : source.Value) (k : ℕ) → Ready s env a type → source.value_of regs a ≡ Some v → Held s env place regs t → Has s.made place (read_code s.context env place a) → ((t' : State) → t'.at ≡ place + length (read_code s.context env place a) → value_of s.made t' (read_id s.context env place a) ≡ Some (as_value v) → ArrivesAt s i t' k) → ArrivesAt s i t k
read_arrives s d i env place regs t a type v k ready is h has on =
    let r = read s d i env place regs t a type ready h has in
    let n : ℕ = read_size s.context env a in
    let at = r.held.at ∙ ap (λ n. place + n) (sym (read_length s.context env place a)) in
    let rest = on r.t' at (r.is ∙ ap Some (r.same v is)) in
    let from : r.t'.at ≡ t.at + n = omega (arith, r.held.at, h.at) in
    (rest.0, rest.1, arrives_after s i n t r.t' rest.0 r.leads from r.locals rest.2)

-- by the way in which a leaf is left for one of its next blocks
pub by_way : (s : Setting) (i : ℕ) (term : Term) (env : Env) (place : ℕ) (t : State) (k : ℕ) (ks : List ℕ) (cases : ℕ) → In k ks → t.at ≡ place → LeavesBy s i term env place (way_to ks cases) → WayReady s env term (way_to ks cases) → (Tests s i term env place → TestedReady s env term → ArrivesAt s i t k) → ArrivesAt s i t k
by_way s i term env place t k [] cases h at leaves ready tests = absurd h
by_way s i term env place t k (j ∷ []) cases h at leaves ready tests =
    ⊎_elim (λ e. subst (ArrivesAt s i t) (sym e) (leaves t at)) (λ none. absurd none) h
by_way s i term env place t k (j ∷ l ∷ ks) cases h at leaves ready tests = by_test (nat_lt most_pairs cases) leaves ready
  where
    by_test : (b : Bool) → LeavesBy s i term env place (if b then Splits else Chooses) → WayReady s env term (if b then Splits else Chooses) → ArrivesAt s i t k
    by_test true leaves ready = tests leaves ready
    by_test false leaves ready = tests leaves ready

-- ---- over the label

no_known : (reg : Reg) (id : ℕ) → no_register reg ≡ Some id → ⊥
unfolding no_register
no_known reg id e = none_some e

kept_passes : (s : Setting) → Declares s → (reg : Reg) (u : Ty) (id : ℕ) → s.context.slot (kept reg u) ≡ Some id → IsPasser s id → ⊥
kept_passes s d reg u id slot passer =
    ⊎_elim (λ e. want (d.apart (kept reg u) Want id slot e)) (λ e. pick (d.apart (kept reg u) Pick id slot e)) passer
  where
    want : kept reg u ≡ Want → ⊥
    want e = absurd (cc)

    pick : kept reg u ≡ Pick → ⊥
    pick e = absurd (cc)

pub coming_passes : (s : Setting) → Declares s → (reg : Reg) (u : Ty) (id : ℕ) → s.context.slot (coming reg u) ≡ Some id → IsPasser s id → ⊥
coming_passes s d reg u id slot passer =
    ⊎_elim (λ e. want (d.apart (coming reg u) Want id slot e)) (λ e. pick (d.apart (coming reg u) Pick id slot e)) passer
  where
    want : coming reg u ≡ Want → ⊥
    want e = absurd (cc)

    pick : coming reg u ≡ Pick → ⊥
    pick e = absurd (cc)

-- behind a site's label the same registers are held, and none is known
pub arrived_held : (s : Setting) → Declares s → (i : ℕ) (env : Env) (place site : ℕ) (regs : Registers) (t : State) → Held s env place regs t → (a : Arrives s i t site) → Held s no_register (site + 1) regs (next a.t')
arrived_held s d i env place site regs t h a =
    let e : suc a.t'.at ≡ site + 1 = omega (arith, a.at) in
    record {
      at = e;
      known = λ reg id is. absurd (no_known reg id is);
      stored = λ reg u id slot. (let k = h.stored reg u id slot in
          (k.0, a.keeps id (kept_passes s d reg u id slot) ∙ k.1, k.2, k.3));
      next = λ reg u id slot. (let k = h.next reg u id slot in
          (k.0, a.keeps id (coming_passes s d reg u id slot) ∙ k.1, k.2));
      typed = h.typed;
      fresh = λ k le. a.results (result s.context k);
    }

-- the label is passed, and block k begins
pub passes : (s : Setting) (i k site : ℕ) (t : State) → IsSite s k site → (a : Arrives s i t site) → Leads (machine s) i (suc a.n) t (k ∷ []) (next a.t')
passes s i k site t is a =
    let begun : begun_at s.made a.t'.at ≡ k ∷ [] = ap (begun_at s.made) a.at ∙ is.begins in
    let step = acts_one s i a.t' site 248 (is.label.0 ∷ []) Label_begins (Quiet (k ∷ []) (next a.t')) a.at is.label.1 refl (ap (λ b. Quiet b (next a.t')) begun) in
    let e : a.n + 1 ≡ suc a.n = omega arith in
    subst (λ n. Leads (machine s) i n t (k ∷ []) (next a.t')) e (leads_on (machine s) i a.n 1 t a.t' (next a.t') [] (k ∷ []) a.leads (leads_step (machine s) i a.t' (k ∷ []) (next a.t') step))
