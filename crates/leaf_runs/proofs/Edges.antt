-- What a block leaves for the phis of its next blocks: the entry of each is read, and stored in the variable that the phi reads.
use Rattle.std.proofs.Common.{◌≡◌, ◌≢◌, ℕ, zero, suc, ◌+◌, Bool, true, false, List, [], ◌∷◌, ◌++◌, length, length-append, Option, Some, None, refl, sym, ap, ◌∙◌, subst, arith, inl, inr, ⊎_elim}
use Rattle.std.specs.Prelude.{◌⊎◌, nat_eq, slice_get, if◌then◌else◌}
use Rattle.dxil_form.specs.declared.value.Ty.{Ty}
use Rattle.dxil_form.specs.declared.value.Ty.TheVariants as ty
use Rattle.dxil_form.specs.declared.value.Reg.{Reg}
use Rattle.dxil_form.specs.declared.value.Operand.{Operand}
use Rattle.dxil_form.specs.declared.block.Entry.{Entry}
use Rattle.dxil_form.specs.declared.block.Phi.{Phi}
use Rattle.dxil_form.specs.declared.block.Block.{Block}
use Rattle.dxil_form.specs.Registers.{At_phi, Sets}
use Rattle.dxil_form.specs.Sound.{Sound, PhiAt}
use Rattle.dxil_form.specs.Graphs.{In}
use Rattle.spv_form.specs.declared.module.Inst.{Inst}
use Rattle.dxil_meaning.specs.Steps.{Leads}
use Rattle.dxil_meaning.proofs.Simulation.{leads_none, leads_on}
use Rattle.dxil_meaning.specs.Source.{Registers, entry_value}
use Rattle.dxil_meaning.specs.Source as source
use Rattle.spirv_meaning.specs.Target.{Value, State, Stores, with_value}
use Rattle.spirv_code.specs.declared.key.Slot.{Slot}
use Rattle.spirv_code.specs.declared.key.Slot.TheVariants.{Next}
use Rattle.spirv_code.specs.Plans.{Context, inst, coming, kept, variable, id_or_0}
use Rattle.spirv_code.specs.Reads.{Env, same_reg, read_size, read_code, read_id}
use Rattle.spirv_code.specs.Leaves.{entry_operand, leave_code, edge_code, edges_code, phis_of}
use Rattle.line_runs.specs.Held.{Setting, Held, Has, IsOf, machine, as_value}
use Rattle.line_runs.specs.Declared.{Declares, held_type}
use Rattle.line_runs.proofs.Tests.{none_some, some_inj, true_false, nat_eq-eq, nat_eq-refl, told, apart, with_value_here, with_value_there}
use Rattle.line_runs.proofs.Pieces.{leads_one, has_front, has_back}
use Rattle.line_runs.proofs.Keeping.{stored_at, store_does, kept_coming}
use Rattle.line_runs.proofs.Reading.{read, read_length}
use Rattle.access_runs.proofs.Stepping.{held_at, has_at}
use Rattle.leaf_runs.specs.Begun.{Fills}
use Rattle.leaf_runs.specs.BlockReady.{EdgeReady}

-- ---- the variable that a phi reads

coming_type : (reg : Reg) (type : Ty) → held_type (coming reg type) ≡ type
coming_type reg ty.Int = refl
coming_type reg ty.Bool = refl

abbrev reg_in : Slot → Reg → Reg
reg_in (Next value part truth) other = record { value = value; part = part }
reg_in _ other = other

coming_reg : (a b : Reg) (t u : Ty) → coming a t ≡ coming b u → a ≡ b
coming_reg a b t u e = ap (λ slot. reg_in slot a) e

coming_ty : (a b : Reg) (t u : Ty) → coming a t ≡ coming b u → t ≡ u
coming_ty a b t u e = sym (coming_type a t) ∙ ap held_type e ∙ coming_type b u

told_id : (x y : ℕ) → (x ≡ y) ⊎ (x ≢ y)
told_id x y = by_test (nat_eq x y) refl
  where
    by_test : (b : Bool) → nat_eq x y ≡ b → (x ≡ y) ⊎ (x ≢ y)
    by_test true e = inl (nat_eq-eq x y e)
    by_test false e = inr (λ same. true_false (sym (subst (λ z. nat_eq x z ≡ true) same (nat_eq-refl x)) ∙ e))

-- a store to it changes nothing that is held
coming_held : (s : Setting) → Declares s → (env : Env) (place : ℕ) (regs : Registers) (t : State) (to : Reg) (type : Ty) (v : ℕ) (w : Value) → s.context.slot (coming to type) ≡ Some v → IsOf type w → Held s env place regs t → Held s env (place + 1) regs (stored_at v w t)
coming_held s d env place regs t to type v w slot of h =
    let e : suc t.at ≡ place + 1 = omega (arith, h.at) in
    record {
      at = e;
      known = h.known;
      stored = λ reg u id is. (let k = h.stored reg u id is in
          (k.0, with_value_there v (Some w) t.locals id (λ same. kept_coming reg to u type (d.apart (coming to type) (kept reg u) v slot (is ∙ ap Some same))) ∙ k.1, k.2, k.3));
      next = λ reg u id is. ⊎_elim (same reg u id is) (other reg u id is) (told_id id v);
      typed = h.typed;
      fresh = λ k le. h.fresh k (omega arith);
    }
  where
    same : (reg : Reg) (u : Ty) (id : ℕ) → s.context.slot (coming reg u) ≡ Some id → id ≡ v → (w' : Value) × (with_value v (Some w) t.locals id ≡ Some w') × IsOf u w'
    same reg u id is e =
        let type_is : type ≡ u = coming_ty to reg type u (d.apart (coming to type) (coming reg u) v slot (is ∙ ap Some e)) in
        (w, subst (λ n. with_value v (Some w) t.locals n ≡ Some w) (sym e) (with_value_here v (Some w) t.locals), subst (λ a. IsOf a w) type_is of)

    other : (reg : Reg) (u : Ty) (id : ℕ) → s.context.slot (coming reg u) ≡ Some id → id ≢ v → (w' : Value) × (with_value v (Some w) t.locals id ≡ Some w') × IsOf u w'
    other reg u id is differs =
        let k = h.next reg u id is in
        (k.0, with_value_there v (Some w) t.locals id differs ∙ k.1, k.2)

-- ---- phis of the program

pub record IsPhi (s : Setting) (phi : Phi) : Type 0 where
  pub b : ℕ
  pub n : ℕ
  pub at : PhiAt s.program b n phi

-- no two phis set one register
same_phi : (s : Setting) → Sound s.program → (f g : Phi) → IsPhi s f → IsPhi s g → f.to ≡ g.to → f ≡ g
same_phi s sound f g i j e =
    let sets_f : Sets s.program i.b (At_phi i.n) f.to f.ty = record { block = i.at.block; stands = i.at.stands; sets = (f, i.at.line, refl, refl) } in
    let sets_g : Sets s.program j.b (At_phi j.n) f.to g.ty = record { block = j.at.block; stands = j.at.stands; sets = (g, j.at.line, sym e, refl) } in
    let both = sound.set_once i.b j.b (At_phi i.n) (At_phi j.n) f.to f.ty g.ty sets_f sets_g in
    let n_is : i.n ≡ j.n = cc (both.1) in
    let block_is : i.at.block ≡ j.at.block = some_inj (sym i.at.stands ∙ ap (slice_get s.program.blocks) both.0 ∙ j.at.stands) in
    some_inj (sym i.at.line ∙ ap (λ (c : Block). slice_get c.phis i.n) block_is ∙ ap (slice_get j.at.block.phis) n_is ∙ j.at.line)

pub is_phi_of : (s : Setting) → s.context.blocks ≡ s.program.blocks → (k n : ℕ) (phi : Phi) → slice_get (phis_of (slice_get s.context.blocks k)) n ≡ Some phi → IsPhi s phi
is_phi_of s blocks k n phi is = by_block (slice_get s.context.blocks k) refl is
  where
    by_block : (o : Option Block) → slice_get s.context.blocks k ≡ o → slice_get (phis_of o) n ≡ Some phi → IsPhi s phi
    by_block None e is = absurd (none_some is)
    by_block (Some block) e is =
        record { b = k; n = n; at = record { block = block; stands = ap (λ bs. slice_get bs k) (sym blocks) ∙ e; line = is } }

-- ---- copies

-- the entry that a phi takes from a block
entry_is : (regs : Registers) (from : ℕ) (type : Ty) (entries : List Entry) → entry_value regs from entries ≡ source.value_of regs (entry_operand from type entries)
entry_is regs from type [] = refl
entry_is regs from type (e ∷ es) = by_test (nat_eq e.from from) (entry_is regs from type es)
  where
    by_test : (b : Bool) → entry_value regs from es ≡ source.value_of regs (entry_operand from type es) → (if b then source.value_of regs e.value else entry_value regs from es) ≡ source.value_of regs (if b then e.value else entry_operand from type es)
    by_test true rest = refl
    by_test false rest = rest

-- What code leaves that fills the variables of these phis: those of other phis are as they were.
pub record Copies (s : Setting) (i from : ℕ) (code : List Inst) (env : Env) (place : ℕ) (regs : Registers) (t : State) (These : Phi → Type 0) : Type 0 where
  pub t' : State
  pub leads : Leads (machine s) i (length code) t [] t'
  pub held : Held s env (place + length code) regs t'
  pub fills : (phi : Phi) → IsPhi s phi → These phi ⊎ Fills s regs from phi t → Fills s regs from phi t'

then_copies : (s : Setting) (i from : ℕ) (front back : List Inst) (env : Env) (place place' : ℕ) (regs : Registers) (t : State) (P Q R : Phi → Type 0) → place + length front ≡ place' → ((phi : Phi) → R phi → P phi ⊎ Q phi) → (a : Copies s i from front env place regs t P) → Copies s i from back env place' regs a.t' Q → Copies s i from (front ++ back) env place regs t R
then_copies s i from front back env place place' regs t P Q R e split a b =
    let whole : length front + length back ≡ length (front ++ back) = sym (length-append front back) in
    let end : place' + length back ≡ place + length (front ++ back) = omega (arith, whole, e) in
    let left : (phi : Phi) → IsPhi s phi → P phi ⊎ Fills s regs from phi t → Fills s regs from phi b.t' = λ phi is h. b.fills phi is (inr (a.fills phi is h)) in
    record {
      t' = b.t';
      leads = subst (λ n. Leads (machine s) i n t [] b.t') whole (leads_on (machine s) i (length front) (length back) t a.t' b.t' [] [] a.leads b.leads);
      held = held_at s env (place' + length back) (place + length (front ++ back)) regs b.t' end b.held;
      fills = λ phi is h. ⊎_elim (λ r. ⊎_elim (λ p. left phi is (inl p)) (λ q. b.fills phi is (inl q)) (split phi r)) (λ k. left phi is (inr k)) h;
    }

no_copies : (s : Setting) (i from : ℕ) (env : Env) (place : ℕ) (regs : Registers) (t : State) (These : Phi → Type 0) → ((phi : Phi) → These phi → ⊥) → Held s env place regs t → Copies s i from [] env place regs t These
no_copies s i from env place regs t These none h =
    let e : place ≡ place + 0 = omega arith in
    record {
      t' = t;
      leads = leads_none (machine s) i t;
      held = held_at s env place (place + 0) regs t e h;
      fills = λ phi is h. ⊎_elim (λ p. absurd (none phi p)) (λ k. k) h;
    }

leave_length : (c : Context) (env : Env) (place : ℕ) (phi : Phi) (a : Operand) → length (leave_code c env place phi a) ≡ read_size c env a + 1
leave_length c env place phi a =
    length-append (read_code c env place a) _ ∙ ap (λ n. n + 1) (read_length c env place a)

copy_phi : (s : Setting) → Declares s → Sound s.program → (i from : ℕ) (env : Env) (place : ℕ) (regs : Registers) (t : State) (phi : Phi) → EdgeReady s env from phi → IsPhi s phi → Held s env place regs t → Has s.made place (leave_code s.context env place phi (entry_operand from phi.ty phi.entries)) → Copies s i from (leave_code s.context env place phi (entry_operand from phi.ty phi.entries)) env place regs t (λ f. f ≡ phi)
copy_phi s d sound i from env place regs t phi ready is_phi h has =
    let c : Context = s.context in
    let a : Operand = entry_operand from phi.ty phi.entries in
    let n : ℕ = read_size c env a in
    let id : ℕ = read_id c env place a in
    let front : List Inst = read_code c env place a in
    let back : List Inst = inst 62 (variable c (coming phi.to phi.ty) ∷ id ∷ []) ∷ [] in
    let v : ℕ = ready.next.0 in
    let slot = ready.next.1 in
    let r = read s d i env place regs t a phi.ty ready.entry h (has_front s.made place front back has) in
    let behind = has_at s.made (place + length front) (place + n) back (ap (λ k. place + k) (read_length c env place a)) (has_back s.made place front back has) in
    let here : slice_get s.made.insts (place + n) ≡ Some (inst 62 (v ∷ id ∷ [])) = behind.0 ∙ ap (λ o. Some (inst 62 (id_or_0 o ∷ id ∷ []))) slot in
    let of = subst (λ u. IsOf u r.worth) (sym (coming_type phi.to phi.ty)) r.type_is in
    let does = store_does s i r.t' (coming phi.to phi.ty) v id r.worth (d.locals (coming phi.to phi.ty) v slot) of r.is in
    let t2 : State = stored_at v r.worth r.t' in
    let step = leads_one s i r.t' t2 (place + n) 62 (v ∷ id ∷ []) Stores r.held.at here refl does in
    let whole : n + 1 ≡ length (front ++ back) = sym (leave_length c env place phi a) in
    let end : place + n + 1 ≡ place + length (front ++ back) = omega (arith, whole) in
    record {
      t' = t2;
      leads = subst (λ k. Leads (machine s) i k t [] t2) whole (leads_on (machine s) i n 1 t r.t' t2 [] [] r.leads step);
      held = held_at s env (place + n + 1) (place + length (front ++ back)) regs t2 end (coming_held s d env (place + n) regs r.t' phi.to phi.ty v r.worth slot r.type_is r.held);
      fills = λ f is h. fill v slot r.worth r.type_is (λ x e. r.same x (sym (entry_is regs from phi.ty phi.entries) ∙ e)) r.t' r.locals f is h;
    }
  where
    fill : (v : ℕ) → s.context.slot (coming phi.to phi.ty) ≡ Some v → (w : Value) → IsOf phi.ty w → ((x : source.Value) → entry_value regs from phi.entries ≡ Some x → w ≡ as_value x) → (t1 : State) → ((id : ℕ) → t1.locals id ≡ t.locals id) → (f : Phi) → IsPhi s f → (f ≡ phi) ⊎ Fills s regs from f t → Fills s regs from f (stored_at v w t1)
    fill v slot w of worth t1 locals f is h = ⊎_elim same other (told f.to phi.to)
      where
        filled : Fills s regs from phi (stored_at v w t1)
        filled id slot' =
            let e : v ≡ id = some_inj (sym slot ∙ slot') in
            (w, subst (λ n. with_value v (Some w) t1.locals n ≡ Some w) e (with_value_here v (Some w) t1.locals), of, worth)

        same : f.to ≡ phi.to → Fills s regs from f (stored_at v w t1)
        same e = subst (λ g. Fills s regs from g (stored_at v w t1)) (sym (same_phi s sound f phi is is_phi e)) filled

        other : same_reg f.to phi.to ≡ false → Fills s regs from f (stored_at v w t1)
        other differs =
            ⊎_elim (λ e. absurd (apart f.to phi.to differs (ap (λ (g : Phi). g.to) e))) (λ fills id slot'. (let k = fills id slot' in
            (k.0, with_value_there v (Some w) t1.locals id (λ e. apart f.to phi.to differs (coming_reg f.to phi.to f.ty phi.ty (d.apart (coming f.to f.ty) (coming phi.to phi.ty) v (slot' ∙ ap Some e) slot))) ∙ locals id ∙ k.1, k.2, k.3))) h

-- the phi stands in the list
abbrev pub Listed : List Phi → Phi → Type 0
Listed phis phi = (n : ℕ) × (slice_get phis n ≡ Some phi)

copy_edge : (s : Setting) → Declares s → Sound s.program → (i from : ℕ) (env : Env) (phis : List Phi) (place : ℕ) (regs : Registers) (t : State) → ((n : ℕ) (phi : Phi) → slice_get phis n ≡ Some phi → EdgeReady s env from phi) → ((n : ℕ) (phi : Phi) → slice_get phis n ≡ Some phi → IsPhi s phi) → Held s env place regs t → Has s.made place (edge_code s.context env place from phis) → Copies s i from (edge_code s.context env place from phis) env place regs t (Listed phis)
copy_edge s d sound i from env [] place regs t ready are h has =
    no_copies s i from env place regs t (Listed []) (λ phi l. none_some l.1) h
copy_edge s d sound i from env (phi ∷ phis) place regs t ready are h has =
    let c : Context = s.context in
    let a : Operand = entry_operand from phi.ty phi.entries in
    let place' : ℕ = place + (read_size c env a + 1) in
    let front : List Inst = leave_code c env place phi a in
    let back : List Inst = edge_code c env place' from phis in
    let e : place + length front ≡ place' = ap (λ n. place + n) (leave_length c env place phi a) in
    let first = copy_phi s d sound i from env place regs t phi (ready 0 phi refl) (are 0 phi refl) h (has_front s.made place front back has) in
    let rest = copy_edge s d sound i from env phis place' regs first.t' (λ n f at. ready (suc n) f at) (λ n f at. are (suc n) f at) (held_at s env (place + length front) place' regs first.t' e first.held) (has_at s.made (place + length front) place' back e (has_back s.made place front back has)) in
    then_copies s i from front back env place place' regs t (λ f. f ≡ phi) (Listed phis) (Listed (phi ∷ phis)) e (split phi phis) first rest
  where
    split : (phi : Phi) (phis : List Phi) (f : Phi) → Listed (phi ∷ phis) f → (f ≡ phi) ⊎ Listed phis f
    split phi phis f (zero, is) = inl (sym (some_inj is))
    split phi phis f (suc n, is) = inr (n, is)

-- the phi stands in a block of the list
abbrev pub Coming : Setting → List ℕ → Phi → Type 0
Coming s ks phi = (k : ℕ) × In k ks × Listed (phis_of (slice_get s.context.blocks k)) phi

pub copy_edges : (s : Setting) → Declares s → Sound s.program → s.context.blocks ≡ s.program.blocks → (i from : ℕ) (env : Env) (ks : List ℕ) (place : ℕ) (regs : Registers) (t : State) → ((k n : ℕ) (phi : Phi) → In k ks → slice_get (phis_of (slice_get s.context.blocks k)) n ≡ Some phi → EdgeReady s env from phi) → Held s env place regs t → Has s.made place (edges_code s.context env place from ks) → Copies s i from (edges_code s.context env place from ks) env place regs t (Coming s ks)
copy_edges s d sound blocks i from env [] place regs t ready h has =
    no_copies s i from env place regs t (Coming s []) (λ phi l. l.1) h
copy_edges s d sound blocks i from env (k ∷ ks) place regs t ready h has =
    let c : Context = s.context in
    let phis : List Phi = phis_of (slice_get c.blocks k) in
    let front : List Inst = edge_code c env place from phis in
    let place' : ℕ = place + length front in
    let back : List Inst = edges_code c env place' from ks in
    let first = copy_edge s d sound i from env phis place regs t (λ n f at. ready k n f (inl refl) at) (λ n f at. is_phi_of s blocks k n f at) h (has_front s.made place front back has) in
    let rest = copy_edges s d sound blocks i from env ks place' regs first.t' (λ l n f in_ks at. ready l n f (inr in_ks) at) first.held (has_back s.made place front back has) in
    then_copies s i from front back env place place' regs t (Listed phis) (Coming s ks) (Coming s (k ∷ ks)) refl (split k ks) first rest
  where
    split : (k : ℕ) (ks : List ℕ) (f : Phi) → Coming s (k ∷ ks) f → Listed (phis_of (slice_get s.context.blocks k)) f ⊎ Coming s ks f
    split k ks f l =
        ⊎_elim (λ e. inl (subst (λ n. Listed (phis_of (slice_get s.context.blocks n)) f) e l.2)) (λ in_ks. inr (l.0, in_ks, l.2)) l.1
