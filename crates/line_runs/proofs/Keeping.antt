-- A register that is set: its value stands in a result, and in its variable if it has one.
use Rattle.spv_form.specs.declared.module.Inst.{Inst}
use Rattle.std.proofs.Common.{List, ◌≡◌, ℕ, suc, ◌+◌, ◌≤◌, false, [], ◌∷◌, Option, Some, None, refl, sym, ap, ◌∙◌, subst, arith, ⊎_elim}
use Rattle.dxil_form.specs.declared.value.Ty.{Ty}
use Rattle.dxil_form.specs.declared.value.Ty.TheVariants as ty
use Rattle.dxil_form.specs.declared.value.Reg.{Reg}
use Rattle.dxil_form.specs.Registers.{Spot, Sets}
use Rattle.dxil_meaning.specs.Launches.{Quiet}
use Rattle.dxil_meaning.specs.Steps.{Leads}
use Rattle.dxil_meaning.proofs.Simulation.{leads_none}
use Rattle.dxil_meaning.specs.Source.{Registers}
use Rattle.dxil_meaning.specs.Source as source
use Rattle.spirv_meaning.specs.Target as spv
use Rattle.spirv_meaning.specs.Target.{Value, Pointer, State, Stores, act, is_class, has_type, pointee, value_of, with_value}
use Rattle.spirv_code.specs.declared.key.Slot.{Slot}
use Rattle.spirv_code.specs.declared.key.Slot.TheVariants.{Kept}
use Rattle.spirv_code.specs.Plans.{kept, coming}
use Rattle.spirv_code.specs.Reads.{Env, with_id, same_reg, store_code, keep_code}
use Rattle.line_runs.specs.Held.{Setting, Held, Has, IsOf, machine, as_value}
use Rattle.line_runs.specs.Declared.{Declares, IsLocal, held_type}
use Rattle.line_runs.specs.Ready.{IsSet}
use Rattle.line_runs.specs.Done.{Done}
use Rattle.line_runs.proofs.Tests.{none_some, some_inj, if_true, told, apart, env_here, env_there, regs_here, regs_there, at_reg, with_at, with_value_here, with_value_there}
use Rattle.line_runs.proofs.Pieces.{leads_one}
use Rattle.line_runs.proofs.Results.{fixed_here}

-- ---- a variable's slot

kept_type : (reg : Reg) (type : Ty) → held_type (kept reg type) ≡ type
kept_type reg ty.Int = refl
kept_type reg ty.Bool = refl

abbrev reg_in : Slot → Reg → Reg
reg_in (Kept value part truth) other = record { value = value; part = part }
reg_in _ other = other

abbrev type_in : Slot → Ty
type_in slot = held_type slot

kept_reg : (a b : Reg) (t u : Ty) → kept a t ≡ kept b u → a ≡ b
kept_reg a b t u e = ap (λ slot. reg_in slot a) e

kept_ty : (a b : Reg) (t u : Ty) → kept a t ≡ kept b u → t ≡ u
kept_ty a b t u e = sym (kept_type a t) ∙ ap type_in e ∙ kept_type b u

pub kept_coming : (a b : Reg) (t u : Ty) → coming b u ≡ kept a t → ⊥
kept_coming a b t u e = absurd (cc)

-- ---- a store to it

-- the state behind a store of a value to a variable of the function
abbrev pub stored_at : ℕ → Value → State → State
stored_at variable w t =
    record { at = suc t.at; results = t.results; locals = with_value variable (Some w) t.locals }

pub store_does : (s : Setting) (i : ℕ) (t : State) (slot : Slot) (variable id : ℕ) (w : Value) → IsLocal s slot variable → IsOf (held_type slot) w → value_of s.made t id ≡ Some w → act s.made s.bindings s.launch i Stores (variable ∷ id ∷ []) t ≡ Quiet [] (stored_at variable w t)
store_does s i t slot variable id w local of is =
    let pointer = fixed_here s t variable (Pointer variable []) local.variable.pointer in
    ap (λ o. spv.store_step s.made s.bindings s.launch o (value_of s.made t id) t) pointer ∙ ap (λ o. spv.store_step s.made s.bindings s.launch (Some (Pointer variable [])) o t) is ∙ if_true (is_class s.made variable 7) local.variable.class_is _ _ ∙ if_true (has_type s.made (pointee s.made variable) w) (local.takes w of) _ _

-- ---- what is held then

-- a value of the type, which is the program's where that has one
pub record Worth (type : Ty) (v : Option source.Value) (w : Value) : Type 0 where
  pub of : IsOf type w
  pub same : (x : source.Value) → v ≡ Some x → w ≡ as_value x

pub worth_of : (type : Ty) (v : source.Value) → IsOf type (as_value v) → Worth type (Some v) (as_value v)
worth_of type v of = record { of = of; same = λ x e. ap as_value (some_inj e) }

-- with the register set, where its variable has the value if it is there, and all other variables are as they were
set_held : (s : Setting) (env : Env) (place : ℕ) (regs : Registers) (t : State) (to : Reg) (type : Ty) (v : Option source.Value) (w : Value) (id place' : ℕ) (locals : ℕ → Option Value) → Held s env place regs t → IsSet s to type → Worth type v w → value_of s.made t id ≡ Some w → ((u : Ty) (variable : ℕ) → s.context.slot (kept to u) ≡ Some variable → (u ≡ type) × (locals variable ≡ Some w)) → ((reg : Reg) (u : Ty) (variable : ℕ) → s.context.slot (kept reg u) ≡ Some variable → same_reg to reg ≡ false → locals variable ≡ t.locals variable) → ((reg : Reg) (u : Ty) (variable : ℕ) → s.context.slot (coming reg u) ≡ Some variable → locals variable ≡ t.locals variable) → place ≤ place' → Held s (with_id to id env) place' (with_at to v regs) (record { at = place'; results = t.results; locals = locals })
set_held s env place regs t to type v w id place' locals h one worth is own others nexts le =
    record {
      at = refl;
      known = known_at;
      stored = stored;
      next = λ reg u variable slot. let k = h.next reg u variable slot in (k.0, nexts reg u variable slot ∙ k.1, k.2);
      typed = typed_at;
      fresh = λ k le'. h.fresh k (omega arith);
    }
  where
    -- the register's value, seen from a register that is the same
    here : (reg : Reg) (x : source.Value) → to ≡ reg → at_reg (with_at to v regs) reg ≡ Some x → v ≡ Some x
    here reg x is_to e =
        sym (regs_here to v regs) ∙ subst (λ r. at_reg (with_at to v regs) r ≡ Some x) (sym is_to) e

    -- and its type
    type_is : (b : ℕ) (spot : Spot) (reg : Reg) (u : Ty) → to ≡ reg → Sets s.program b spot reg u → u ≡ type
    type_is b spot reg u is_to sets = one.one b spot u (subst (λ r. Sets s.program b spot r u) (sym is_to) sets)

    known_at : (reg : Reg) (id' : ℕ) → with_id to id env reg ≡ Some id' → (w' : Value) × (value_of s.made t id' ≡ Some w') × ((b : ℕ) (spot : Spot) (u : Ty) → Sets s.program b spot reg u → IsOf u w') × ((x : source.Value) → at_reg (with_at to v regs) reg ≡ Some x → w' ≡ as_value x)
    known_at reg id' e = ⊎_elim same other (told to reg)
      where
        same : to ≡ reg → (w' : Value) × (value_of s.made t id' ≡ Some w') × ((b : ℕ) (spot : Spot) (u : Ty) → Sets s.program b spot reg u → IsOf u w') × ((x : source.Value) → at_reg (with_at to v regs) reg ≡ Some x → w' ≡ as_value x)
        same is_to =
            let id_is : id ≡ id' = some_inj (sym (env_here to id env) ∙ subst (λ r. with_id to id env r ≡ Some id') (sym is_to) e) in
            (w, subst (λ n. value_of s.made t n ≡ Some w) id_is is, λ b spot u sets. subst (λ a. IsOf a w) (sym (type_is b spot reg u is_to sets)) worth.of, λ x is_x. worth.same x (here reg x is_to is_x))

        other : same_reg to reg ≡ false → (w' : Value) × (value_of s.made t id' ≡ Some w') × ((b : ℕ) (spot : Spot) (u : Ty) → Sets s.program b spot reg u → IsOf u w') × ((x : source.Value) → at_reg (with_at to v regs) reg ≡ Some x → w' ≡ as_value x)
        other differs =
            let k = h.known reg id' (sym (env_there to id env reg differs) ∙ e) in
            (k.0, k.1, k.2, λ x is_x. k.3 x (sym (regs_there to v regs reg differs) ∙ is_x))

    stored : (reg : Reg) (u : Ty) (variable : ℕ) → s.context.slot (kept reg u) ≡ Some variable → (w' : Value) × (locals variable ≡ Some w') × IsOf u w' × ((x : source.Value) → at_reg (with_at to v regs) reg ≡ Some x → w' ≡ as_value x)
    stored reg u variable slot = ⊎_elim same other (told to reg)
      where
        same : to ≡ reg → (w' : Value) × (locals variable ≡ Some w') × IsOf u w' × ((x : source.Value) → at_reg (with_at to v regs) reg ≡ Some x → w' ≡ as_value x)
        same is_to =
            let mine = own u variable (subst (λ r. s.context.slot (kept r u) ≡ Some variable) (sym is_to) slot) in
            (w, mine.1, subst (λ a. IsOf a w) (sym mine.0) worth.of, λ x e. worth.same x (here reg x is_to e))

        other : same_reg to reg ≡ false → (w' : Value) × (locals variable ≡ Some w') × IsOf u w' × ((x : source.Value) → at_reg (with_at to v regs) reg ≡ Some x → w' ≡ as_value x)
        other differs =
            let k = h.stored reg u variable slot in
            (k.0, others reg u variable slot differs ∙ k.1, k.2, λ x e. k.3 x (sym (regs_there to v regs reg differs) ∙ e))

    typed_at : (b : ℕ) (spot : Spot) (reg : Reg) (u : Ty) (x : source.Value) → Sets s.program b spot reg u → at_reg (with_at to v regs) reg ≡ Some x → IsOf u (as_value x)
    typed_at b spot reg u x sets e = ⊎_elim same other (told to reg)
      where
        same : to ≡ reg → IsOf u (as_value x)
        same is_to =
            subst (λ a. IsOf a (as_value x)) (sym (type_is b spot reg u is_to sets)) (subst (λ y. IsOf type y) (worth.same x (here reg x is_to e)) worth.of)

        other : same_reg to reg ≡ false → IsOf u (as_value x)
        other differs = h.typed b spot reg u x sets (sym (regs_there to v regs reg differs) ∙ e)

-- the code that keeps a value in its register's variable gives no result, and changes no variable that the next block's phis read
pub record Kept_in (s : Setting) (i : ℕ) (code : List Inst) (env : Env) (place : ℕ) (regs : Registers) (t : State) : Type 0 where
  pub done : Done s i code env place regs t
  pub same : (id : ℕ) → done.t'.results id ≡ t.results id
  pub nexts : (reg : Reg) (u : Ty) (variable : ℕ) → s.context.slot (coming reg u) ≡ Some variable → done.t'.locals variable ≡ t.locals variable

pub keep_worth : (s : Setting) → Declares s → (i : ℕ) (env : Env) (place : ℕ) (regs : Registers) (t : State) (to : Reg) (type : Ty) (v : Option source.Value) (w : Value) (id : ℕ) → Held s env place regs t → IsSet s to type → Worth type v w → value_of s.made t id ≡ Some w → Has s.made place (keep_code s.context to type id) → Kept_in s i (keep_code s.context to type id) (with_id to id env) place (with_at to v regs) t
keep_worth s d i env place regs t to type v w id h one worth is has = by_slot (s.context.slot (kept to type)) refl has
  where
    same_type : (u : Ty) (variable : ℕ) → s.context.slot (kept to u) ≡ Some variable → u ≡ type
    same_type u variable slot =
        let set = d.set to u variable slot in
        one.one set.0 set.1 u set.2

    by_slot : (o : Option ℕ) → s.context.slot (kept to type) ≡ o → Has s.made place (store_code o id) → Kept_in s i (store_code o id) (with_id to id env) place (with_at to v regs) t
    by_slot None slot has =
        let e : place ≡ place + 0 = omega arith in
        let none = λ (u : Ty) (variable : ℕ) (some : s.context.slot (kept to u) ≡ Some variable). absurd (none_some (sym slot ∙ subst (λ a. s.context.slot (kept to a) ≡ Some variable) (same_type u variable some) some)) in
        let after = set_held s env place regs t to type v w id place t.locals h one worth is none (λ reg u variable some differs. refl) (λ reg u variable some. refl) (omega arith) in
        record {
          done = record {
            t' = record { at = place; results = t.results; locals = t.locals };
            leads = subst (λ n. Leads (machine s) i 0 t [] (record { at = n; results = t.results; locals = t.locals })) h.at (leads_none (machine s) i t);
            held = subst (λ n. Held s (with_id to id env) n (with_at to v regs) (record { at = place; results = t.results; locals = t.locals })) e after;
          };
          same = λ id. refl;
          nexts = λ reg u variable some. refl;
        }
    by_slot (Some variable) slot has =
        let local = d.locals (kept to type) variable slot in
        let locals : ℕ → Option Value = with_value variable (Some w) t.locals in
        let does = store_does s i t (kept to type) variable id w local (subst (λ a. IsOf a w) (sym (kept_type to type)) worth.of) is in
        let step = leads_one s i t (stored_at variable w t) place 62 (variable ∷ id ∷ []) Stores h.at has.0 refl does in
        let own : (u : Ty) (variable' : ℕ) → s.context.slot (kept to u) ≡ Some variable' → (u ≡ type) × (locals variable' ≡ Some w) = λ u variable' some. (same_type u variable' some, subst (λ n. locals n ≡ Some w) (some_inj (sym slot ∙ subst (λ a. s.context.slot (kept to a) ≡ Some variable') (same_type u variable' some) some)) (with_value_here variable (Some w) t.locals)) in
        let others = λ (reg : Reg) (u : Ty) (variable' : ℕ) (some : s.context.slot (kept reg u) ≡ Some variable') (differs : same_reg to reg ≡ false). with_value_there variable (Some w) t.locals variable' (λ e. apart to reg differs (sym (kept_reg reg to u type (d.apart (kept reg u) (kept to type) variable (some ∙ ap Some e) slot)))) in
        let nexts = λ (reg : Reg) (u : Ty) (variable' : ℕ) (some : s.context.slot (coming reg u) ≡ Some variable'). with_value_there variable (Some w) t.locals variable' (λ e. kept_coming to reg type u (d.apart (coming reg u) (kept to type) variable (some ∙ ap Some e) slot)) in
        let after = set_held s env place regs t to type v w id (place + 1) locals h one worth is own others nexts (omega arith) in
        let e : suc t.at ≡ place + 1 = omega (arith, h.at) in
        record {
          done = record {
            t' = stored_at variable w t;
            leads = step;
            held = subst (λ n. Held s (with_id to id env) (place + 1) (with_at to v regs) (record { at = n; results = t.results; locals = locals })) (sym e) after;
          };
          same = λ id. refl;
          nexts = nexts;
        }

-- the same of a value that the program has
pub keep : (s : Setting) → Declares s → (i : ℕ) (env : Env) (place : ℕ) (regs : Registers) (t : State) (to : Reg) (type : Ty) (v : source.Value) (id : ℕ) → Held s env place regs t → IsSet s to type → IsOf type (as_value v) → value_of s.made t id ≡ Some (as_value v) → Has s.made place (keep_code s.context to type id) → Kept_in s i (keep_code s.context to type id) (with_id to id env) place (with_at to (Some v) regs) t
keep s d i env place regs t to type v id h one of is has =
    keep_worth s d i env place regs t to type (Some v) (as_value v) id h one (worth_of type v of) is has
