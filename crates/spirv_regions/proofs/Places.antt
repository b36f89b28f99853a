-- The places that a set of blocks answers, and the blocks that it keeps.
use Rattle.std.proofs.Common.{◌≡◌, ℕ, suc, Bool, true, false, List, [], ◌∷◌, ◌++◌, length, Some, None, refl, sym, ap, ◌∙◌, arith, if◌then◌else◌, ◌+◌, ◌≤◌, not, cond, nat_lt, ltb-false, nat_eq, get_or}
use Rattle.std.specs.List.{list_any, position, position_or_len}
use Rattle.std.specs.Prelude.{◌||◌}
use Rattle.dxil_form.specs.Branches.{has}
use Rattle.spirv_code.specs.declared.way.Way.TheVariants.{Ends, Goes, Chooses, Splits}
use Rattle.spirv_code.specs.Leaves.{add_new, most_pairs, way_to}
use Rattle.spirv_code.specs.Exits.{place_in}

pub any_has : (ks : List ℕ) (k : ℕ) → list_any (nat_eq k) ks ≡ has k ks
any_has [] k = refl
any_has (l ∷ ks) k = ap (λ b. nat_eq k l || b) (any_has ks k)

pub add_has : (ks : List ℕ) (k : ℕ) → (if list_any (nat_eq k) ks then ks else ks ++ k ∷ []) ≡ add_new ks (k ∷ [])
add_has ks k = ap (λ b. if b then ks else ks ++ k ∷ []) (any_has ks k)

pub first_place : (ks : List ℕ) (k : ℕ) → position_or_len (nat_eq k) ks ≡ place_in k ks
first_place [] k = refl
first_place (l ∷ ks) k = by_test (nat_eq k l) (first_place ks k)
  where
    by_test : (b : Bool) → position_or_len (nat_eq k) ks ≡ place_in k ks → (cond (not b) (1 + position_or_len (nat_eq k) ks) 0) ≡ (if b then 0 else suc (place_in k ks))
    by_test true ih = refl
    by_test false ih = let next : 1 + position_or_len (nat_eq k) ks ≡ suc (place_in k ks) = omega (arith, ih) in next

inj : {A : Type 0} {x y : A} → Some x ≡ Some y → x ≡ y
inj {A} {x} {y} e = ap (λ o. elim o as (λ _. A) [ None ↦ x | Some z ↦ z ]) e

pub place_bound : (ks : List ℕ) (k : ℕ) → place_in k ks ≤ length ks
place_bound [] k = omega arith
place_bound (l ∷ ks) k = by_test (nat_eq k l) (place_bound ks k)
  where
    by_test : (b : Bool) → place_in k ks ≤ length ks → (if b then 0 else suc (place_in k ks)) ≤ length (l ∷ ks)
    by_test true ih = omega arith
    by_test false ih = omega (arith, ih)

pub place_some : (ks : List ℕ) (k at : ℕ) → position (nat_eq k) ks ≡ Some at → at ≡ place_in k ks
place_some ks k at e = by_test (nat_lt (position_or_len (nat_eq k) ks) (length ks)) e
  where
    by_test : (b : Bool) → cond b (Some (position_or_len (nat_eq k) ks)) None ≡ Some at → at ≡ place_in k ks
    by_test true e = sym (inj e) ∙ first_place ks k
    by_test false e = absurd (let no : None ≡ Some at = e in grind arith)

pub place_none : (ks : List ℕ) (k : ℕ) → position (nat_eq k) ks ≡ None → length ks ≡ place_in k ks
place_none ks k e = by_test (nat_lt (position_or_len (nat_eq k) ks) (length ks)) refl e
  where
    by_test : (b : Bool) → nat_lt (position_or_len (nat_eq k) ks) (length ks) ≡ b → cond b (Some (position_or_len (nat_eq k) ks)) None ≡ None → length ks ≡ place_in k ks
    by_test true t e = absurd (let no : Some (position_or_len (nat_eq k) ks) ≡ None = e in grind arith)
    by_test false t e =
        let past = ltb-false (position_or_len (nat_eq k) ks) (length ks) t in
        omega (arith, past, first_place ks k, place_bound ks k)

-- ---- by how many blocks a block is left

pub no_way : (ks : List ℕ) (cases : ℕ) → length ks ≡ 0 → way_to ks cases ≡ Ends
no_way [] cases h = refl
no_way (k ∷ ks) cases h = absurd (omega (arith, h))

pub one_way : (ks : List ℕ) (cases d : ℕ) → length ks ≡ 1 → way_to ks cases ≡ Goes (get_or ks 0 d)
one_way [] cases d h = absurd (omega (arith, h))
one_way (k ∷ []) cases d h = refl
one_way (k ∷ l ∷ ks) cases d h = absurd (omega (arith, h))

pub many_ways : (ks : List ℕ) (cases : ℕ) → 2 ≤ length ks → way_to ks cases ≡ (if nat_lt most_pairs cases then Splits else Chooses)
many_ways [] cases h = absurd (omega (arith, h))
many_ways (k ∷ []) cases h = absurd (omega (arith, h))
many_ways (k ∷ l ∷ ks) cases h = refl
