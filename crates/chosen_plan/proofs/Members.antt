-- Members of lists that are put together, and of lists of variables in which each stands once.
use Rattle.std.proofs.Common.{◌≡◌, ℕ, suc, Bool, true, false, List, [], ◌∷◌, ◌++◌, Some, refl, sym, ap, subst, inl, inr, ⊎_elim}
use Rattle.std.specs.Prelude.{◌⊎◌, ◌||◌, map, slice_get, if◌then◌else◌}
use Rattle.std.specs.List.{flat_map}
use Rattle.spirv_code.specs.declared.key.Slot.{Slot}
use Rattle.spirv_code.specs.Keys.{same_slot}
use Rattle.spirv_code.specs.Further.{has_slot, add_slot, add_slots}
use Rattle.frame_facts.proofs.Tables.{slot_told}
use Rattle.plan_ready.proofs.Among.{Among, among_front, among_back}

pub among_either : {A : Type 0} (x : A) (xs ys : List A) → Among x (xs ++ ys) → Among x xs ⊎ Among x ys
among_either x [] ys h = inr h
among_either x (y ∷ xs) ys (inl e) = inl (inl e)
among_either x (y ∷ xs) ys (inr h) = ⊎_elim (λ h. inl (inr h)) (λ h. inr h) (among_either x xs ys h)

pub among_get : {A : Type 0} (x : A) (xs : List A) → Among x xs → (k : ℕ) × (slice_get xs k ≡ Some x)
among_get x [] h = absurd h
among_get x (y ∷ xs) (inl e) = (0, ap Some (sym e))
among_get x (y ∷ xs) (inr h) = let rest = among_get x xs h in (suc rest.0, rest.1)

-- the element of which a member was made
pub record Made_of {A B : Type 0} (f : A → List B) (xs : List A) (y : B) : Type 0 where
  pub x : A
  pub among : Among x xs
  pub made : Among y (f x)

pub flat_among : {A B : Type 0} (f : A → List B) (xs : List A) (y : B) → Among y (flat_map f xs) → Made_of f xs y
flat_among f [] y h = absurd h
flat_among f (x ∷ xs) y h =
    ⊎_elim (λ here. record { x = x; among = inl refl; made = here }) (λ rest. (let m = flat_among f xs y rest in record { x = m.x; among = inr m.among; made = m.made })) (among_either y (f x) (flat_map f xs) h)

pub record Mapped {A B : Type 0} (f : A → B) (xs : List A) (y : B) : Type 0 where
  pub x : A
  pub among : Among x xs
  pub is : y ≡ f x

pub map_among : {A B : Type 0} (f : A → B) (xs : List A) (y : B) → Among y (map f xs) → Mapped f xs y
map_among f [] y h = absurd h
map_among f (x ∷ xs) y (inl e) = record { x = x; among = inl refl; is = e }
map_among f (x ∷ xs) y (inr h) =
    let m = map_among f xs y h in
    record { x = m.x; among = inr m.among; is = m.is }

-- ---- variables

pub has_among : (slots : List Slot) (s : Slot) → has_slot slots s ≡ true → Among s slots
has_among [] s e = absurd (cc)
has_among (r ∷ slots) s e = by_test (has_among slots s) (same_slot s r) refl e
  where
    by_test : (has_slot slots s ≡ true → Among s slots) → (b : Bool) → same_slot s r ≡ b → (b || has_slot slots s) ≡ true → Among s (r ∷ slots)
    by_test rest true is e = inl (slot_told s r is)
    by_test rest false is e = inr (rest e)

add_stays : (slots : List Slot) (r s : Slot) → Among s slots → Among s (add_slot slots r)
add_stays slots r s h = by_test (has_slot slots r)
  where
    by_test : (b : Bool) → Among s (if b then slots else slots ++ r ∷ [])
    by_test true = h
    by_test false = among_front s slots (r ∷ []) h

add_new : (slots : List Slot) (s : Slot) → Among s (add_slot slots s)
add_new slots s = by_test (has_slot slots s) refl
  where
    by_test : (b : Bool) → has_slot slots s ≡ b → Among s (if b then slots else slots ++ s ∷ [])
    by_test true e = has_among slots s e
    by_test false e = among_back s slots (s ∷ []) (inl refl)

add_told : (slots : List Slot) (r s : Slot) → Among s (add_slot slots r) → Among s slots ⊎ (s ≡ r)
add_told slots r s h = by_test (has_slot slots r) h
  where
    by_test : (b : Bool) → Among s (if b then slots else slots ++ r ∷ []) → Among s slots ⊎ (s ≡ r)
    by_test true h = inl h
    by_test false h =
        ⊎_elim (λ h. inl h) (λ last. ⊎_elim (λ e. inr e) (λ none. absurd none) last) (among_either s slots (r ∷ []) h)

adds_stay : (more slots : List Slot) (s : Slot) → Among s slots → Among s (add_slots slots more)
adds_stay [] slots s h = h
adds_stay (r ∷ more) slots s h = adds_stay more (add_slot slots r) s (add_stays slots r s h)

-- all that is added is there
pub adds_have : (more slots : List Slot) (s : Slot) → Among s more → Among s (add_slots slots more)
adds_have [] slots s h = absurd h
adds_have (r ∷ more) slots s (inl e) =
    adds_stay more (add_slot slots r) s (subst (λ x. Among s (add_slot slots x)) e (add_new slots s))
adds_have (r ∷ more) slots s (inr h) = adds_have more (add_slot slots r) s h

-- and nothing else
pub adds_told : (more slots : List Slot) (s : Slot) → Among s (add_slots slots more) → Among s slots ⊎ Among s more
adds_told [] slots s h = inl h
adds_told (r ∷ more) slots s h =
    ⊎_elim (λ early. ⊎_elim (λ old. inl old) (λ e. inr (inl e)) (add_told slots r s early)) (λ later. inr (inr later)) (adds_told more (add_slot slots r) s h)
