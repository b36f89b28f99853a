-- Which registers get the slots that a list of reads makes.
use Rattle.std.proofs.Common.{◌≡◌, ℕ, zero, suc, ◌+◌, ◌<◌, Bool, true, false, ◌||◌, if◌then◌else◌, ◌⊎◌, inl, inr, List, [], ◌∷◌, ◌++◌, length, fold, Some, refl, ap, sym, ◌∙◌, subst, arith}
use Rattle.std.specs.Prelude.{slice_get}
use Rattle.std.specs.List.{list_any}
use Rattle.std.proofs.lemmas.List.Folds.{list_any-append}
use Rattle.std.proofs.lemmas.Option.{slice_get_within}
use Rattle.dxil_form.specs.declared.value.Ty.{Ty}
use Rattle.dxil_form.specs.declared.value.Reg.{Reg}
use Rattle.phi_demotion.specs.declared.slots.CrossSlot.{CrossSlot}
use Rattle.phi_demotion.specs.Reads.{key_of, is_key, with_read, slots_of_reads}
use Rattle.phi_demotion.proofs.Keys.{own_key}
use Rattle.phi_demotion.proofs.Members.{In, here, there, passes_any}

abbrev pub in_slots : List CrossSlot → ℕ × ℕ → Bool
in_slots slots q = list_any (λ s. is_key (key_of s.reg) q) slots

abbrev new : ℕ → List CrossSlot → Reg × Ty → CrossSlot
new first slots read = record { reg = read.0; ty = read.1; slot = first + length slots }

-- the last place, or one before it
last_or_before : {X : Type 0} (xs : List X) (y z : X) (k : ℕ) → slice_get (xs ++ y ∷ []) k ≡ Some z → ((k < length xs) × (slice_get xs k ≡ Some z)) ⊎ ((k ≡ length xs) × (z ≡ y))
last_or_before [] y z zero e = inr (refl, cc)
last_or_before [] y z (suc k) e = absurd (cc)
last_or_before (x ∷ xs) y z zero e = inl (omega arith, e)
last_or_before (x ∷ xs) y z (suc k) e =
    elim (last_or_before xs y z k e) [ inl w ↦ inl (omega (arith, w.0), w.1) | inr w ↦ inr (ap suc w.0, w.1) ]

module _ (is_phi : ℕ × ℕ → Bool) (first : ℕ) where
  -- each slot is of a register that is read, with its type, and that is no phi's; no two are of one register
  pub record Chosen (all : List (Reg × Ty)) (slots : List CrossSlot) : Type 0 where
    pub read : (k : ℕ) (s : CrossSlot) → slice_get slots k ≡ Some s → In {X = Reg × Ty} (s.reg, s.ty) all
    pub no_phi : (k : ℕ) (s : CrossSlot) → slice_get slots k ≡ Some s → is_phi (key_of s.reg) ≡ false
    pub once : (j k : ℕ) (s t : CrossSlot) → slice_get slots j ≡ Some s → slice_get slots k ≡ Some t → s.reg ≡ t.reg → j ≡ k

  none_chosen : (all : List (Reg × Ty)) → Chosen all []
  none_chosen all = record { read = λ k s e. absurd (cc); no_phi = λ k s e. absurd (cc); once = λ j k s t e f g. absurd (cc) }

  both_false : (a b : Bool) → (a || b) ≡ false → (a ≡ false) × (b ≡ false)
  both_false true b e = absurd (cc)
  both_false false b e = (refl, e)

  fresh : (slots : List CrossSlot) (k : ℕ) (s : CrossSlot) (reg : Reg) → slice_get slots k ≡ Some s → s.reg ≡ reg → in_slots slots (key_of reg) ≡ false → ⊥
  fresh slots k s reg e same none =
      let yes = passes_any (λ (s : CrossSlot). is_key (key_of s.reg) (key_of reg)) slots k s e (ap (λ (r : Reg). is_key (key_of r) (key_of reg)) same ∙ own_key (key_of reg)) in
      let wrong : true ≡ false = sym yes ∙ none in
      cc

  chosen_one : (all : List (Reg × Ty)) (slots : List CrossSlot) (read : Reg × Ty) → Chosen all slots → In {X = Reg × Ty} read all → (is_phi (key_of read.0) || in_slots slots (key_of read.0)) ≡ false → Chosen all (slots ++ new first slots read ∷ [])
  chosen_one all slots read h i none =
      let free = both_false (is_phi (key_of read.0)) (in_slots slots (key_of read.0)) none in
      record {
        read = λ k s e. elim (last_or_before slots (new first slots read) s k e) [ inl w ↦ h.read k s w.1 | inr w ↦ subst (λ (s : CrossSlot). In {X = Reg × Ty} (s.reg, s.ty) all) (sym w.1) i ];
        no_phi = λ k s e. elim (last_or_before slots (new first slots read) s k e) [ inl w ↦ h.no_phi k s w.1 | inr w ↦ ap (λ (s : CrossSlot). is_phi (key_of s.reg)) w.1 ∙ free.0 ];
        once = λ j k s t e f same.
            elim (last_or_before slots (new first slots read) s j e) [
              | inl v ↦ elim (last_or_before slots (new first slots read) t k f) [
                | inl w ↦ h.once j k s t v.1 w.1 same
                | inr w ↦ absurd (fresh slots j s read.0 v.1 (same ∙ ap (λ (s : CrossSlot). s.reg) w.1) free.1)
              ]
              | inr v ↦ elim (last_or_before slots (new first slots read) t k f) [
                | inl w ↦ absurd (fresh slots k t read.0 w.1 (sym same ∙ ap (λ (s : CrossSlot). s.reg) v.1) free.1)
                | inr w ↦ v.0 ∙ sym w.0
              ]
            ];
      }

  chosen_all : (all : List (Reg × Ty)) (slots : List CrossSlot) (list : List (Reg × Ty)) → ((read : Reg × Ty) → In {X = Reg × Ty} read list → In {X = Reg × Ty} read all) → Chosen all slots → Chosen all (fold (with_read is_phi first) slots list)
  chosen_all all slots [] sub h = h
  chosen_all all slots (read ∷ list) sub h =
      chosen_all all (with_read is_phi first slots read) list (λ r i. sub r (there i)) (by_test (is_phi (key_of read.0) || in_slots slots (key_of read.0)) refl)
    where
      by_test : (b : Bool) → (is_phi (key_of read.0) || in_slots slots (key_of read.0)) ≡ b → Chosen all (if b then slots else slots ++ new first slots read ∷ [])
      by_test true is = h
      by_test false is = chosen_one all slots read h (sub read here) is

  pub chosen : (list : List (Reg × Ty)) → Chosen list (slots_of_reads is_phi first list)
  chosen list = chosen_all list [] list (λ r i. i) (none_chosen list)

  or_true : (a b : Bool) → b ≡ true → (a || b) ≡ true
  or_true true b e = refl
  or_true false b e = e

  -- a slot stays
  stays : (slots : List CrossSlot) (list : List (Reg × Ty)) (q : ℕ × ℕ) → in_slots slots q ≡ true → in_slots (fold (with_read is_phi first) slots list) q ≡ true
  stays slots [] q e = e
  stays slots (read ∷ list) q e =
      stays (with_read is_phi first slots read) list q (by_test (is_phi (key_of read.0) || in_slots slots (key_of read.0)))
    where
      by_test : (b : Bool) → in_slots (if b then slots else slots ++ new first slots read ∷ []) q ≡ true
      by_test true = e
      by_test false = list_any-append (λ s. is_key (key_of s.reg) q) slots (new first slots read ∷ []) ∙ ap (λ b. b || in_slots (new first slots read ∷ []) q) e

  pub has_slot : (slots : List CrossSlot) (list : List (Reg × Ty)) (reg : Reg) (ty : Ty) → In {X = Reg × Ty} (reg, ty) list → is_phi (key_of reg) ≡ false → in_slots (fold (with_read is_phi first) slots list) (key_of reg) ≡ true
  has_slot slots [] reg ty i free = elim i [ ]
  has_slot slots (read ∷ list) reg ty here free =
      stays (with_read is_phi first slots (reg, ty)) list (key_of reg) (by_test (in_slots slots (key_of reg)) refl)
    where
      by_test : (b : Bool) → in_slots slots (key_of reg) ≡ b → in_slots (if is_phi (key_of reg) || in_slots slots (key_of reg) then slots else slots ++ new first slots (reg, ty) ∷ []) (key_of reg) ≡ true
      by_test true is =
          subst (λ (b : Bool). in_slots (if b then slots else slots ++ new first slots (reg, ty) ∷ []) (key_of reg) ≡ true) (sym (or_true (is_phi (key_of reg)) (in_slots slots (key_of reg)) is)) is
      by_test false is =
          subst (λ (b : Bool). in_slots (if b then slots else slots ++ new first slots (reg, ty) ∷ []) (key_of reg) ≡ true) (sym (ap (λ b. b || in_slots slots (key_of reg)) free ∙ is))
          (list_any-append (λ s. is_key (key_of s.reg) (key_of reg)) slots (new first slots (reg, ty) ∷ []) ∙ or_true (in_slots slots (key_of reg)) (is_key (key_of reg) (key_of reg) || false) (ap (λ b. b || false) (own_key (key_of reg))))
  has_slot slots (read ∷ list) reg ty (there i) free = has_slot (with_read is_phi first slots read) list reg ty i free
