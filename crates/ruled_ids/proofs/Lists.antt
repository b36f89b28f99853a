-- Which instruction of a list is the first to define an id.
use Rattle.std.proofs.Common.{◌≡◌, ℕ, zero, suc, ◌+◌, ◌<◌, Bool, true, false, List, [], ◌∷◌, length, take, Option, Some, None, refl, ap, ◌∙◌, arith}
use Rattle.std.specs.Prelude.{slice_get, nat_eq, nat_lt, not, cond, position, ◌||◌}
use Rattle.std.specs.List.{list_any, prefix_len}
use Rattle.std.specs.Option.{option_map_or}
use Rattle.spv_form.specs.declared.module.Inst.{Inst}
use Rattle.spv_ids.specs.Roles.{result_of, defines}
use Rattle.frame_facts.proofs.Searches.{inj, eq_told, eq_same, get_below}

-- ---- lists

-- what stands among the first ones
pub take_at : (xs : List Inst) (n k : ℕ) (x : Inst) → slice_get (take n xs) k ≡ Some x → (k < n) × (slice_get xs k ≡ Some x)
take_at xs zero k x e = absurd (cc)
take_at [] (suc n) k x e = absurd (cc)
take_at (y ∷ xs) (suc n) zero x e = (omega arith, e)
take_at (y ∷ xs) (suc n) (suc k) x e =
    let rest = take_at xs n k x e in
    let less : k < n = rest.0 in
    (omega (arith, less), rest.1)

pub some_passes : (test : Inst → Bool) (xs : List Inst) → list_any test xs ≡ true → (k : ℕ) × ((x : Inst) × (slice_get xs k ≡ Some x) × (test x ≡ true))
some_passes test [] e = absurd (cc)
some_passes test (y ∷ xs) e = by_test (λ e. some_passes test xs e) (test y) refl e
  where
    by_test : (list_any test xs ≡ true → (k : ℕ) × ((x : Inst) × (slice_get xs k ≡ Some x) × (test x ≡ true))) → (t : Bool) → test y ≡ t → (t || list_any test xs) ≡ true → (k : ℕ) × ((x : Inst) × (slice_get (y ∷ xs) k ≡ Some x) × (test x ≡ true))
    by_test again true p e = (0, (y, refl, p))
    by_test again false p e =
        let rest = again e in
        (suc rest.0, rest.1)

-- the first that passes
prefix_is : (test : Inst → Bool) (xs : List Inst) (k : ℕ) (x : Inst) → slice_get xs k ≡ Some x → test x ≡ true → ((j : ℕ) (y : Inst) → j < k → slice_get xs j ≡ Some y → test y ≡ false) → prefix_len (λ y. not (test y)) xs ≡ k
prefix_is test [] k x e t h = absurd (cc)
prefix_is test (y ∷ xs) zero x e t h =
    ap (λ b. cond (not b) (1 + prefix_len (λ z. not (test z)) xs) 0) (ap test (inj e) ∙ t)
prefix_is test (y ∷ xs) (suc k) x e t h =
    let rest = prefix_is test xs k x e t (λ j z less at. h (suc j) z (omega (arith, less)) at) in
    let more : 1 + prefix_len (λ z. not (test z)) xs ≡ suc k = omega (arith, rest) in
    ap (λ b. cond (not b) (1 + prefix_len (λ z. not (test z)) xs) 0) (h 0 y (omega arith) refl) ∙ more

pub position_is : (test : Inst → Bool) (xs : List Inst) (k : ℕ) (x : Inst) → slice_get xs k ≡ Some x → test x ≡ true → ((j : ℕ) (y : Inst) → j < k → slice_get xs j ≡ Some y → test y ≡ false) → position test xs ≡ Some k
position_is test xs k x e t h =
    let at = prefix_is test xs k x e t h in
    ap (λ n. cond (nat_lt n (length xs)) (Some n) None) at ∙ ap (λ b. cond b (Some k) None) (less k (length xs) (get_below xs k x e))
  where
    less : (a b : ℕ) → a < b → nat_lt a b ≡ true
    less a b h = grind arith

-- ---- what an instruction defines

pub defines_it : (x : Inst) (id : ℕ) → result_of x ≡ Some id → defines id x ≡ true
unfolding defines
defines_it x id e = ap (λ o. option_map_or (λ r. nat_eq r id) o false) e ∙ eq_same id

pub defined_is : (x : Inst) (id : ℕ) → defines id x ≡ true → result_of x ≡ Some id
unfolding defines
defined_is x id e = by_result (result_of x) refl e
  where
    by_result : (o : Option ℕ) → result_of x ≡ o → option_map_or (λ r. nat_eq r id) o false ≡ true → o ≡ Some id
    by_result None is e = absurd (cc)
    by_result (Some r) is e = ap Some (eq_told r id e)
