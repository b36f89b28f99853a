-- The numbers of slots are 0, 1, 2 and so on.
use Rattle.std.proofs.Common.{◌≡◌, ℕ, zero, suc, ◌+◌, ◌*◌, ◌<◌, ◌≤◌, Bool, true, false, ◌||◌, if◌then◌else◌, List, [], ◌∷◌, ◌++◌, length, map, fold, Some, refl, ap, sym, ◌∙◌, subst, arith, append_assoc, length-append}
use Rattle.std.specs.Prelude.{slice_get}
use Rattle.std.specs.List.{flat_map, list_any}
use Rattle.std.proofs.lemmas.List.{append-nil, map-append, length-map}
use Rattle.std.proofs.lemmas.Option.{slice_get_within}
use Rattle.std.proofs.lemmas.Grind.{flat_map-append}
use Rattle.dxil_form.specs.declared.value.Ty.{Ty}
use Rattle.dxil_form.specs.declared.value.Reg.{Reg}
use Rattle.dxil_form.specs.declared.block.Phi.{Phi}
use Rattle.dxil_form.specs.Registers.{Typed, typed}
use Rattle.phi_demotion.specs.declared.slots.PhiSlot.{PhiSlot}
use Rattle.phi_demotion.specs.declared.slots.CrossSlot.{CrossSlot}
use Rattle.phi_demotion.specs.Reads.{key_of, is_key, with_read, slots_of_reads}
use Rattle.phi_demotion.specs.Slots.{of_phi, of_slot, both, with_phi, slots_of_phis}

-- each number is its place in the list
pub IsCounting : List ℕ → Type 0
IsCounting ns = (i n : ℕ) → slice_get ns i ≡ Some n → n ≡ i

pushed : {X : Type 0} (xs : List X) (y z : X) (k : ℕ) → (P : ℕ → X → Type 0) → ((i : ℕ) (x : X) → slice_get xs i ≡ Some x → P i x) → P (length xs) y → slice_get (xs ++ y ∷ []) k ≡ Some z → P k z
pushed [] y z zero P all last e = let same : y ≡ z = cc in subst (P 0) same last
pushed [] y z (suc k) P all last e = absurd (cc)
pushed (x ∷ xs) y z zero P all last e = all 0 z e
pushed (x ∷ xs) y z (suc k) P all last e =
    pushed xs y z k (λ i x. P (suc i) x) (λ i x e. all (suc i) x e) last e

pub count_one : (ns : List ℕ) (n : ℕ) → IsCounting ns → n ≡ length ns → IsCounting (ns ++ n ∷ [])
unfolding IsCounting
count_one ns n all last i m e = pushed ns n m i (λ i n. n ≡ i) all last e

pub none_counting : IsCounting []
unfolding IsCounting
none_counting i n e = absurd (cc)

pub count_is : (ns : List ℕ) → IsCounting ns → (i n : ℕ) → slice_get ns i ≡ Some n → n ≡ i
unfolding IsCounting
count_is ns all = all

-- ---- the slots of phis

two_each : (slots : List PhiSlot) → length (flat_map both slots) ≡ 2 * length slots
two_each [] = refl
two_each (s ∷ slots) = let rest = two_each slots in omega arith

phi_numbers : (slots : List PhiSlot) (phis : List Phi) → IsCounting (flat_map both slots) → IsCounting (flat_map both (fold with_phi slots phis))
phi_numbers slots [] h = h
phi_numbers slots (phi ∷ phis) h =
    let n : ℕ = 2 * length slots in
    let s : PhiSlot = record { reg = phi.to; ty = phi.ty; next = n; now = n + 1 } in
    let len = two_each slots in
    let one : IsCounting (flat_map both slots ++ n ∷ []) = count_one (flat_map both slots) n h (sym len) in
    let grown = length-append (flat_map both slots) (n ∷ []) in
    let two : IsCounting ((flat_map both slots ++ n ∷ []) ++ (n + 1) ∷ []) = count_one (flat_map both slots ++ n ∷ []) (n + 1) one (omega arith) in
    let same : (flat_map both slots ++ n ∷ []) ++ (n + 1) ∷ [] ≡ flat_map both (slots ++ s ∷ []) = append_assoc (flat_map both slots) (n ∷ []) ((n + 1) ∷ []) ∙ sym (flat_map-append both slots (s ∷ [])) in
    phi_numbers (slots ++ s ∷ []) phis (subst IsCounting same two)

pub phis_count : (phis : List Phi) → IsCounting (flat_map both (slots_of_phis [] phis))
phis_count phis = phi_numbers [] phis none_counting

pub length_numbers : (slots : List PhiSlot) → length (flat_map both slots) ≡ 2 * length slots
length_numbers slots = two_each slots

phi_regs : (slots : List PhiSlot) (phis : List Phi) → map of_slot (fold with_phi slots phis) ≡ map of_slot slots ++ map of_phi phis
phi_regs slots [] = sym (append-nil (map of_slot slots))
phi_regs slots (phi ∷ phis) =
    let s : PhiSlot = record { reg = phi.to; ty = phi.ty; next = 2 * length slots; now = 2 * length slots + 1 } in
    phi_regs (slots ++ s ∷ []) phis ∙ ap (λ (xs : List (Typed Reg)). xs ++ map of_phi phis) (map-append of_slot slots (s ∷ []))
    ∙ append_assoc (map of_slot slots) (of_phi phi ∷ []) (map of_phi phis)

pub phis_have : (phis : List Phi) → map of_slot (slots_of_phis [] phis) ≡ map of_phi phis
phis_have phis = phi_regs [] phis

-- ---- the slots of crossing registers

abbrev number : CrossSlot → ℕ
number s = s.slot

cross_numbers : (is_phi : ℕ × ℕ → Bool) (first : ℕ) (before : List ℕ) → length before ≡ first → (slots : List CrossSlot) (list : List (Reg × Ty)) → IsCounting (before ++ map (λ s. s.slot) slots) → IsCounting (before ++ map (λ s. s.slot) (fold (with_read is_phi first) slots list))
cross_numbers is_phi first before len slots [] h = h
cross_numbers is_phi first before len slots (read ∷ list) h =
    cross_numbers is_phi first before len (with_read is_phi first slots read) list (by_test (is_phi (key_of read.0) || list_any (λ s. is_key (key_of s.reg) (key_of read.0)) slots))
  where
    by_test : (b : Bool) → IsCounting (before ++ map (λ s. s.slot) (if b then slots else slots ++ (record { reg = read.0; ty = read.1; slot = first + length slots }) ∷ []))
    by_test true = h
    by_test false =
        let s : CrossSlot = record { reg = read.0; ty = read.1; slot = first + length slots } in
        let numbers : List ℕ = map (λ (s : CrossSlot). s.slot) slots in
        let grown = length-append before numbers in
        let mapped : length numbers ≡ length slots = length-map slots (λ (s : CrossSlot). s.slot) in
        let more : IsCounting ((before ++ numbers) ++ s.slot ∷ []) = count_one (before ++ numbers) s.slot h (let e : first + length slots ≡ length (before ++ numbers) = omega arith in e) in
        let same : (before ++ numbers) ++ s.slot ∷ [] ≡ before ++ map (λ (s : CrossSlot). s.slot) (slots ++ s ∷ []) = append_assoc before numbers (s.slot ∷ []) ∙ ap (λ (xs : List ℕ). before ++ xs) (sym (map-append (λ (s : CrossSlot). s.slot) slots (s ∷ []))) in
        subst IsCounting same more

pub crossing_count : (is_phi : ℕ × ℕ → Bool) (first : ℕ) (before : List ℕ) → length before ≡ first → IsCounting before → (list : List (Reg × Ty)) → IsCounting (before ++ map (λ s. s.slot) (slots_of_reads is_phi first list))
crossing_count is_phi first before len h list =
    cross_numbers is_phi first before len [] list (subst IsCounting (sym (append-nil before)) h)
