-- Lists that are made without a member twice: the different numbers of a list, variables and keys.
use Rattle.std.proofs.Common.{◌≡◌, ℕ, ◌+◌, ◌≤◌, Bool, true, false, List, [], ◌∷◌, ◌++◌, length, length-append, refl, sym, ap, ◌∙◌, subst, arith, inl, inr, ⊎_elim}
use Rattle.std.specs.Prelude.{◌⊎◌, nat_eq, ◌||◌, if◌then◌else◌}
use Rattle.dxil_form.specs.Branches.{has}
use Rattle.spirv_code.specs.declared.key.Slot.{Slot}
use Rattle.spirv_code.specs.declared.key.Global.{Global}
use Rattle.spirv_code.specs.Keys.{same_slot, same_global, has_key, add_key}
use Rattle.spirv_code.specs.Leaves.{add_new, different}
use Rattle.spirv_code.specs.Further.{has_slot, add_slot, add_slots}
use Rattle.frame_facts.proofs.Tables.{global_told, slot_told}
use Rattle.frame_facts.proofs.Tabled.{global_self}
use Rattle.line_runs.proofs.Tests.{nat_eq-eq, nat_eq-refl}
use Rattle.plan_ready.proofs.Among.{Among}
use Rattle.plan_ready.proofs.Base.{slot_self, among_has}
use Rattle.chosen_plan.proofs.Members.{among_either}
use Rattle.module_sizes.proofs.Totals.{Apart, Tells}

pub numbers_tell : Tells nat_eq
numbers_tell = record { told = λ x y e. nat_eq-eq x y e; self = λ x. nat_eq-refl x }

pub slots_tell : Tells same_slot
slots_tell = record { told = λ x y e. slot_told x y e; self = λ x. slot_self x }

pub keys_tell : Tells same_global
keys_tell = record { told = λ x y e. global_told x y e; self = λ x. global_self x }

pub apart_last : {A : Type 0} (xs : List A) (x : A) → Apart xs → (Among x xs → ⊥) → Apart (xs ++ x ∷ [])
apart_last [] x apart none = (λ no. no, tt)
apart_last (y ∷ xs) x apart none =
    (λ h. ⊎_elim (λ early. apart.0 early) (λ last. ⊎_elim (λ e. none (inl (sym e))) (λ no. no) last) (among_either y xs (x ∷ []) h), apart_last xs x apart.1 (λ h. none (inr h)))

-- ---- numbers

pub number_has : (k : ℕ) (xs : List ℕ) → Among k xs → has k xs ≡ true
number_has k [] h = absurd h
number_has k (x ∷ xs) (inl e) =
    ap (λ b. b || has k xs) (subst (λ z. nat_eq k z ≡ true) e (nat_eq-refl k))
number_has k (x ∷ xs) (inr h) = by_test (nat_eq k x) (number_has k xs h)
  where
    by_test : (b : Bool) → has k xs ≡ true → (b || has k xs) ≡ true
    by_test true e = refl
    by_test false e = e

new_apart : (ks seen : List ℕ) → Apart seen → Apart (add_new seen ks)
new_apart [] seen apart = apart
new_apart (k ∷ ks) seen apart = new_apart ks (if has k seen then seen else seen ++ k ∷ []) (by_test (has k seen) refl)
  where
    by_test : (b : Bool) → has k seen ≡ b → Apart (if b then seen else seen ++ k ∷ [])
    by_test true e = apart
    by_test false e = apart_last seen k apart (λ h. (let clash : true ≡ false = sym (number_has k seen h) ∙ e in absurd (cc)))

pub different_apart : (ks : List ℕ) → Apart (different ks)
different_apart ks = new_apart ks [] tt

new_fewer : (ks seen : List ℕ) → length (add_new seen ks) ≤ length seen + length ks
new_fewer [] seen = omega arith
new_fewer (k ∷ ks) seen =
    let ih = new_fewer ks (if has k seen then seen else seen ++ k ∷ []) in
    let more = by_test (has k seen) in
    omega (arith, ih, more)
  where
    by_test : (b : Bool) → length (if b then seen else seen ++ k ∷ []) ≤ length seen + 1
    by_test true = omega arith
    by_test false = let e = length-append seen (k ∷ []) in omega (arith, e)

pub different_fewer : (ks : List ℕ) → length (different ks) ≤ length ks
different_fewer ks = let h = new_fewer ks [] in omega (arith, h)

new_told : (ks seen : List ℕ) (x : ℕ) → Among x (add_new seen ks) → Among x seen ⊎ Among x ks
new_told [] seen x h = inl h
new_told (k ∷ ks) seen x h =
    ⊎_elim (λ early. by_test (has k seen) early) (λ later. inr (inr later)) (new_told ks (if has k seen then seen else seen ++ k ∷ []) x h)
  where
    by_test : (b : Bool) → Among x (if b then seen else seen ++ k ∷ []) → Among x seen ⊎ Among x (k ∷ ks)
    by_test true h = inl h
    by_test false h =
        ⊎_elim (λ old. inl old) (λ last. ⊎_elim (λ e. inr (inl e)) (λ no. absurd no) last) (among_either x seen (k ∷ []) h)

pub different_has : (ks : List ℕ) (x : ℕ) → Among x (different ks) → has x ks ≡ true
different_has ks x h = ⊎_elim (λ no. absurd no) (λ k. number_has x ks k) (new_told ks [] x h)

-- ---- variables and keys

pub slots_apart : (more slots : List Slot) → Apart slots → Apart (add_slots slots more)
slots_apart [] slots apart = apart
slots_apart (s ∷ more) slots apart = slots_apart more (add_slot slots s) (by_test (has_slot slots s) refl)
  where
    by_test : (b : Bool) → has_slot slots s ≡ b → Apart (if b then slots else slots ++ s ∷ [])
    by_test true e = apart
    by_test false e = apart_last slots s apart (λ h. (let clash : true ≡ false = sym (among_has slots s h) ∙ e in absurd (cc)))

pub among_key : (table : List Global) (g : Global) → Among g table → has_key table g ≡ true
among_key [] g h = absurd h
among_key (x ∷ table) g (inl e) =
    ap (λ b. b || has_key table g) (subst (λ y. same_global g y ≡ true) e (global_self g))
among_key (x ∷ table) g (inr h) = by_test (same_global g x) (among_key table g h)
  where
    by_test : (b : Bool) → has_key table g ≡ true → (b || has_key table g) ≡ true
    by_test true e = refl
    by_test false e = e

pub key_apart : (table : List Global) (g : Global) → Apart table → Apart (add_key table g)
key_apart table g apart = by_test (has_key table g) refl
  where
    by_test : (b : Bool) → has_key table g ≡ b → Apart (if b then table else table ++ g ∷ [])
    by_test true e = apart
    by_test false e = apart_last table g apart (λ h. (let clash : true ≡ false = sym (among_key table g h) ∙ e in absurd (cc)))
