-- A module has few variables where the branches of its program are a tree.
use Rattle.std.proofs.Common.{◌≡◌, ℕ, zero, suc, ◌+◌, ◌*◌, ◌≤◌, Bool, true, false, not, List, [], ◌∷◌, ◌++◌, length, map, Some, refl, sym, ap, ◌∙◌, subst, arith, inl, inr, ⊎_elim}
use Rattle.std.specs.Prelude.{filter, slice_get, if◌then◌else◌}
use Rattle.std.specs.List.{flat_map}
use Rattle.dxil_form.specs.declared.value.Ty.{Ty}
use Rattle.dxil_form.specs.declared.value.Reg.{Reg}
use Rattle.dxil_form.specs.declared.block.Phi.{Phi}
use Rattle.dxil_form.specs.declared.block.Block.{Block}
use Rattle.dxil_form.specs.declared.program.Program.{Program}
use Rattle.dxil_form.specs.declared.region.Region.{Region}
use Rattle.dxil_form.specs.Registers.{Typed, At_phi, Sets}
use Rattle.dxil_form.specs.Sound.{Sound}
use Rattle.phi_demotion.specs.declared.slots.PhiSlot.{PhiSlot}
use Rattle.phi_demotion.specs.declared.slots.Slots.{Slots}
use Rattle.phi_demotion.specs.Slots.{AreSlots, phis_of, of_phi, of_slot}
use Rattle.spirv_code.specs.declared.key.Slot.{Slot}
use Rattle.spirv_code.specs.Plans.{kept}
use Rattle.spirv_code.specs.Keys.{same_slot}
use Rattle.spirv_code.specs.Further.{has_slot, further_slots, want_slots}
use Rattle.plan_ready.proofs.Among.{Among, among_front, among_back, among_at, among_flat, among_map}
use Rattle.plan_ready.proofs.Base.{among_has}
use Rattle.chosen_plan.specs.Chosen.{phi_variables, cross_variable, register_variables, variables, plan_for}
use Rattle.chosen_plan.proofs.Members.{among_either, among_get, map_among, adds_told, has_among}
use Rattle.chosen_plan.proofs.Kept.{IsKept, further_kept}
use Rattle.module_sizes.proofs.Totals.{total, total_append, total_same, total_within, times_is, filter_among, Apart}
use Rattle.module_sizes.proofs.Apart.{slots_tell, slots_apart}
use Rattle.variable_counts.specs.Held.{IsHeld, AreHeld, crosses, phi_count}
use Rattle.variable_counts.specs.Laws.{FewVariables}
use Rattle.variable_counts.proofs.Trees.{no_want_slots}
use Rattle.variable_counts.proofs.Types.{set_types}
use Rattle.variable_counts.proofs.Needed.{reg_of, NoPhi, further_needed}
use Rattle.variable_counts.proofs.Counted.{variables_are}

-- ---- lists

map_get : {A B : Type 0} (f : A → B) (xs : List A) (i : ℕ) (y : B) → slice_get (map f xs) i ≡ Some y → (x : A) × (slice_get xs i ≡ Some x) × (f x ≡ y)
map_get f [] i y e = absurd (cc)
map_get f (x ∷ xs) zero y e = (x, refl, inj e)
  where
    inj : {A : Type 0} {a b : A} → Some a ≡ Some b → a ≡ b
    inj e = cc
map_get f (x ∷ xs) (suc i) y e = map_get f xs i y e

filter_passes : {A : Type 0} (q : A → Bool) (xs : List A) (x : A) → Among x (filter q xs) → q x ≡ true
filter_passes q [] x h = absurd h
filter_passes q (y ∷ xs) x h = by_test (λ k. filter_passes q xs x k) (q y) refl h
  where
    by_test : (Among x (filter q xs) → q x ≡ true) → (b : Bool) → q y ≡ b → Among x (if b then y ∷ filter q xs else filter q xs) → q x ≡ true
    by_test rest true e h = ⊎_elim (λ same. ap q same ∙ e) rest h
    by_test rest false e h = rest h

filter_apart : {A : Type 0} (q : A → Bool) (xs : List A) → Apart xs → Apart (filter q xs)
filter_apart q [] apart = tt
filter_apart q (x ∷ xs) apart = by_test (q x) (filter_apart q xs apart.1)
  where
    by_test : (b : Bool) → Apart (filter q xs) → Apart (if b then x ∷ filter q xs else filter q xs)
    by_test true rest = (λ h. apart.0 (filter_among q xs x h), rest)
    by_test false rest = rest

apart_places : {A : Type 0} (xs : List A) (i j : ℕ) (x : A) → Apart xs → slice_get xs i ≡ Some x → slice_get xs j ≡ Some x → i ≡ j
apart_places [] i j x apart e f = absurd (cc)
apart_places (y ∷ xs) zero zero x apart e f = refl
apart_places (y ∷ xs) zero (suc j) x apart e f =
    absurd (apart.0 (subst (λ z. Among z xs) (sym (inj e)) (among_at x xs j f)))
  where
    inj : {A : Type 0} {a b : A} → Some a ≡ Some b → a ≡ b
    inj e = cc
apart_places (y ∷ xs) (suc i) zero x apart e f =
    absurd (apart.0 (subst (λ z. Among z xs) (sym (inj f)) (among_at x xs i e)))
  where
    inj : {A : Type 0} {a b : A} → Some a ≡ Some b → a ≡ b
    inj e = cc
apart_places (y ∷ xs) (suc i) (suc j) x apart e f = ap suc (apart_places xs i j x apart.1 e f)

length_mapped : {A B : Type 0} (f : A → B) (xs : List A) → length (map f xs) ≡ length xs
length_mapped f [] = refl
length_mapped f (x ∷ xs) =
    let rest = length_mapped f xs in
    let e : length (map f (x ∷ xs)) ≡ length (x ∷ xs) = omega (arith, rest) in
    e

ones : {A : Type 0} (xs : List A) → total (λ x. 1) xs ≡ length xs
ones xs =
    let same = total_same 1 xs in
    let is = times_is (length xs) 1 in
    let e : total (λ x. 1) xs ≡ length xs = omega (arith, same, is) in
    e

two_each : (xs : List PhiSlot) → length (flat_map phi_variables xs) ≡ 2 * length xs
two_each [] = refl
two_each (x ∷ xs) =
    let rest = two_each xs in
    let e : length (flat_map phi_variables (x ∷ xs)) ≡ 2 * length (x ∷ xs) = omega (arith, rest) in
    e

-- ---- the registers

module _ (p : Program) (sound : Sound p) (slots : Slots) (are : AreSlots p slots) where
  abbrev of_phis : List Slot
  of_phis = flat_map phi_variables slots.phis

  -- the variable is none of a phi's
  abbrev is_other : Slot → Bool
  is_other s = not (has_slot of_phis s)

  phis_count : length of_phis ≡ 2 * phi_count p
  phis_count =
      let two = two_each slots.phis in
      let one = length_mapped of_slot slots.phis in
      let same = ap (λ (xs : List (Typed Reg)). length xs) are.phis in
      let other = length_mapped of_phi (phis_of p.blocks) in
      omega (arith, two, one, same, other)

  clash : (s : Slot) → is_other s ≡ true → Among s of_phis → ⊥
  clash s e h =
      let has = among_has of_phis s h in
      let never : false ≡ true = sym (ap not has) ∙ e in
      cc

  -- the variable of a register that a phi sets is that of the phi
  set_by_phi : (s : Slot) → IsKept p s → (b n : ℕ) (type : Ty) → Sets p b (At_phi n) (reg_of s) type → Among s of_phis
  set_by_phi s k b n type set =
      let phi : Phi = set.sets.0 in
      let block : Block = set.block in
      let own : Sets p k.set.0 k.set.1 (reg_of s) k.type = subst (λ r. Sets p k.set.0 k.set.1 r k.type) (sym (ap reg_of k.is)) k.set.2 in
      let type_is : k.type ≡ phi.ty = set_types p sound k.set.0 b k.set.1 (At_phi n) (reg_of s) k.type type own set ∙ sym set.sets.3 in
      let reg_is : k.reg ≡ phi.to = sym (ap reg_of k.is) ∙ sym set.sets.2 in
      let here : Among phi (phis_of p.blocks) = among_flat (λ (c : Block). c.phis) block phi p.blocks (among_at block p.blocks b set.stands) (among_at phi block.phis n set.sets.1) in
      let mapped : Among (of_phi phi) (map of_slot slots.phis) = subst (λ (xs : List (Typed Reg)). Among (of_phi phi) xs) (sym are.phis) (among_map of_phi phi (phis_of p.blocks) here) in
      let m = map_among of_slot slots.phis (of_phi phi) mapped in
      let is : s ≡ kept m.x.reg m.x.ty = k.is ∙ ap (λ r. kept r k.type) reg_is ∙ ap (kept phi.to) type_is ∙ ap (λ (x : Typed Reg). kept x.item x.ty) m.is in
      among_flat phi_variables m.x s slots.phis m.among (inr (inl is))

  record Held_slot (s : Slot) : Type 0 where
    kept_is : IsKept p s
    held : IsHeld p (reg_of s)

  held_slot : (s : Slot) → is_other s ≡ true → Among s (register_variables p slots) → Held_slot s
  held_slot s other h =
      ⊎_elim (λ phi. absurd (clash s other phi)) (λ rest. ⊎_elim by_crossing by_further (among_either s (map cross_variable slots.crossing) (further_slots p.blocks) rest)) (among_either s of_phis _ h)
    where
      by_crossing : Among s (map cross_variable slots.crossing) → Held_slot s
      by_crossing h =
          let m = map_among cross_variable slots.crossing s h in
          let k = among_get m.x slots.crossing m.among in
          let crossing = subst (λ r. IsHeld p r) (sym (ap reg_of m.is)) (record { needed = crosses (are.only k.0 m.x k.1); no_phi = (are.only k.0 m.x k.1).no_phi }) in
          record {
            kept_is = record { reg = m.x.reg; type = m.x.ty; is = m.is; set = are.types k.0 m.x k.1 };
            held = crossing;
          }

      by_further : Among s (further_slots p.blocks) → Held_slot s
      by_further h =
          let k = further_kept p sound s h in
          let none : NoPhi p (reg_of s) = λ b n type set. clash s other (set_by_phi s k b n type set) in
          record { kept_is = k; held = record { needed = further_needed p sound s none h; no_phi = none } }

  -- a register has one variable
  same_slots : (x y : Slot) → IsKept p x → IsKept p y → reg_of x ≡ reg_of y → x ≡ y
  same_slots x y k l e =
      let regs : k.reg ≡ l.reg = sym (ap reg_of k.is) ∙ e ∙ ap reg_of l.is in
      let types : k.type ≡ l.type = set_types p sound k.set.0 l.set.0 k.set.1 l.set.1 l.reg k.type l.type (subst (λ r. Sets p k.set.0 k.set.1 r k.type) regs k.set.2) l.set.2 in
      k.is ∙ ap (λ r. kept r k.type) regs ∙ ap (kept l.reg) types ∙ sym l.is

  module _ (all : List Slot) (apart : Apart all) (told : (s : Slot) → Among s all → Among s (register_variables p slots)) where
    abbrev others : List Slot
    others = filter is_other all

    of_other : (i : ℕ) (s : Slot) → slice_get others i ≡ Some s → Held_slot s
    of_other i s e =
        let among = among_at s others i e in
        held_slot s (filter_passes is_other all s among) (told s (filter_among is_other all s among))

    pub registers : List Reg
    registers = map reg_of others

    pub are_held : AreHeld p registers
    unfolding registers
    are_held =
        record {
          each = λ i reg e. (let m = map_get reg_of others i reg e in subst (IsHeld p) m.2 (of_other i m.0 m.1).held);
          once = λ i j reg e f. (let m = map_get reg_of others i reg e in let n = map_get reg_of others j reg f in
              let same = same_slots m.0 n.0 (of_other i m.0 m.1).kept_is (of_other j n.0 n.1).kept_is (m.2 ∙ sym n.2) in
              apart_places others i j n.0 (filter_apart is_other all apart) (m.1 ∙ ap Some same) n.1);
        }

    pub most : length all ≤ 2 * phi_count p + length registers
    unfolding registers
    most =
        let within = total_within same_slot slots_tell (of_phis ++ others) all (λ s. 1) apart (λ s among. inr (split s among)) in
        let both = total_append (λ s. 1) of_phis others in
        let one = ones all in
        let two = ones of_phis in
        let three = ones others in
        let phis = phis_count in
        let regs = length_mapped reg_of others in
        omega (arith, within, both, one, two, three, phis, regs)
      where
        passes : (xs : List Slot) (s : Slot) → Among s xs → is_other s ≡ true → Among s (filter is_other xs)
        passes [] s h e = absurd h
        passes (x ∷ xs) s h e = by_test (is_other x) refl (λ k. passes xs s k e) h
          where
            by_test : (b : Bool) → is_other x ≡ b → (Among s xs → Among s (filter is_other xs)) → Among s (x ∷ xs) → Among s (if b then x ∷ filter is_other xs else filter is_other xs)
            by_test true f rest (inl same) = inl same
            by_test true f rest (inr h) = inr (rest h)
            by_test false f rest (inl same) = absurd (let never : false ≡ true = sym f ∙ sym (ap is_other same) ∙ e in cc)
            by_test false f rest (inr h) = rest h

        split : (s : Slot) → Among s all → Among s (of_phis ++ others)
        split s h = by_test (has_slot of_phis s) refl
          where
            by_test : (b : Bool) → has_slot of_phis s ≡ b → Among s (of_phis ++ others)
            by_test true e = among_front s of_phis others (has_among of_phis s e)
            by_test false e = among_back s of_phis others (passes all s h (ap not e))

-- ---- the law

module _ (p : Program) (list : List Region) (slots : Slots) where
  -- without a variable of the regions there are those of registers alone
  only_registers : want_slots p list ≡ [] → (s : Slot) → Among s (variables p list slots) → Among s (register_variables p slots)
  only_registers none s h =
      ⊎_elim (λ no. absurd no) (λ made. ⊎_elim (λ h. h) (λ want. absurd (subst (Among s) none want)) (among_either s (register_variables p slots) (want_slots p list) made)) (adds_told (register_variables p slots ++ want_slots p list) [] s h)

  all_apart : Apart (variables p list slots)
  all_apart = slots_apart (register_variables p slots ++ want_slots p list) [] tt

pub few_variables : FewVariables
few_variables p list slots at v sound regions are =
    record {
      few = λ blocks g tree. (let all = variables p list slots in
          let told = only_registers p list slots (no_want_slots p sound blocks g tree list regions) in
          let apart = all_apart p list slots in
          let count = variables_are p list at v (plan_for p list slots) regions.wired refl in
          let bound = most p sound slots are all apart told in
          (registers p sound slots are all apart told, are_held p sound slots are all apart told, omega (arith, count, bound)));
    }
