-- Blocks in lists, each once, and the labels of their setters.
use Rattle.std.proofs.Common.{◌≡◌, ◌⊎◌, inl, inr, ℕ, suc, ◌+◌, ◌*◌, Bool, true, false, ◌||◌, List, [], ◌∷◌, ◌++◌, length, append_assoc, Option, Some, None, refl, sym, ap, ◌∙◌, subst, arith}
use Rattle.std.specs.Prelude.{slice_get, map, Contains, nat_eq, if◌then◌else◌}
use Rattle.dxil_form.specs.Branches.{has}
use Rattle.spv_form.specs.declared.module.Inst.{Inst}
use Rattle.spirv_code.specs.Plans.{Context, result}
use Rattle.spirv_code.specs.Leaves.{add_new, different}
use Rattle.spirv_code.specs.Exits.{want_inst, setters_code, place_in, setter_label, unarmed, loose, pairs}
use Rattle.flow_blocks.specs.Blocks.{every_second}
use Rattle.line_runs.proofs.Tests.{true_false, nat_eq-eq, nat_eq-refl}
use Rattle.region_runs.proofs.Targets.{has_append, has_different, has_here, has_there}
use Rattle.region_runs.proofs.Members.{nat_eq_swap}
use Rattle.row_laws.proofs.Basics.{none, in_cons, first_in, next_in}
use Rattle.written_rows.specs.Code.{label_inst, branch_inst, ArmsCode, no_arm, arm}
use Rattle.written_rows.proofs.Standing.{get_contains}
use Rattle.module_structure.proofs.Tails.{inner_tail, row_of}

-- ---- members

pub has_contains : (k : ℕ) (ks : List ℕ) → has k ks ≡ true → Contains ks k
has_contains k [] h = absurd (true_false (sym h))
has_contains k (x ∷ ks) h = by_test (nat_eq k x) refl h (has_contains k ks)
  where
    by_test : (b : Bool) → nat_eq k x ≡ b → (b || has k ks) ≡ true → (has k ks ≡ true → Contains ks k) → Contains (x ∷ ks) k
    by_test true e h rest = subst (Contains (x ∷ ks)) (sym (nat_eq-eq k x e)) (first_in x ks)
    by_test false e h rest = next_in x k ks (rest h)

pub contains_has : (k : ℕ) (ks : List ℕ) → Contains ks k → has k ks ≡ true
contains_has k [] h = absurd (none k h)
contains_has k (x ∷ ks) h = elim (in_cons k x ks h) [
  | inl e ↦ subst (λ y. has y (x ∷ ks) ≡ true) (sym e) (has_here x ks)
  | inr i ↦ has_there k x ks (contains_has k ks i)
]

pub in_append : (xs ys : List ℕ) (x : ℕ) → Contains (xs ++ ys) x → Contains xs x ⊎ Contains ys x
in_append [] ys x h = inr h
in_append (y ∷ xs) ys x h = elim (in_cons x y (xs ++ ys) h) [
  | inl e ↦ inl (subst (Contains (y ∷ xs)) (sym e) (first_in y xs))
  | inr i ↦ elim (in_append xs ys x i) [ inl j ↦ inl (next_in y x xs j) | inr j ↦ inr j ]
]

pub in_front : (xs ys : List ℕ) (x : ℕ) → Contains xs x → Contains (xs ++ ys) x
in_front [] ys x h = absurd (none x h)
in_front (y ∷ xs) ys x h = elim (in_cons x y xs h) [
  | inl e ↦ subst (Contains (y ∷ (xs ++ ys))) (sym e) (first_in y (xs ++ ys))
  | inr i ↦ next_in y x (xs ++ ys) (in_front xs ys x i)
]

pub in_back : (xs ys : List ℕ) (x : ℕ) → Contains ys x → Contains (xs ++ ys) x
in_back [] ys x h = h
in_back (y ∷ xs) ys x h = next_in y x (xs ++ ys) (in_back xs ys x h)

-- ---- each number once

abbrev pub IsOnce : List ℕ → Type 0
IsOnce [] = Unit {0}
IsOnce (k ∷ ks) = (has k ks ≡ false) × IsOnce ks

neither : (a b : Bool) → (a || b) ≡ false → (a ≡ false) × (b ≡ false)
neither true b e = absurd (true_false e)
neither false b e = (refl, e)

once_push : (ks : List ℕ) (k : ℕ) → IsOnce ks → has k ks ≡ false → IsOnce (ks ++ k ∷ [])
once_push [] k h e = (refl, tt)
once_push (x ∷ ks) k h e =
    let two = neither (nat_eq k x) (has k ks) e in
    (has_append x ks (k ∷ []) ∙ ap (λ b. b || has x (k ∷ [])) h.0 ∙ ap (λ b. b || false) (nat_eq_swap x k ∙ two.0), once_push ks k h.1 two.1)

once_new : (seen ks : List ℕ) → IsOnce seen → IsOnce (add_new seen ks)
once_new seen [] h = h
once_new seen (k ∷ ks) h = once_new (if has k seen then seen else seen ++ k ∷ []) ks (by_test (has k seen) refl)
  where
    by_test : (b : Bool) → has k seen ≡ b → IsOnce (if b then seen else seen ++ k ∷ [])
    by_test true e = h
    by_test false e = once_push seen k h e

pub once_different : (ks : List ℕ) → IsOnce (different ks)
once_different ks = once_new [] ks tt

pub once_loose : (labels : ℕ → Option ℕ) (ks : List ℕ) → IsOnce (loose labels ks)
once_loose labels ks = once_different (unarmed labels ks)

-- ---- blocks that have no arm

-- what `unarmed` keeps of one block
abbrev kept_with : ℕ → Option ℕ → List ℕ → List ℕ
kept_with k None rest = k ∷ rest
kept_with k (Some id) rest = rest

unarmed_told : (labels : ℕ → Option ℕ) (ks : List ℕ) (k : ℕ) → has k (unarmed labels ks) ≡ true → (labels k ≡ None) × (has k ks ≡ true)
unarmed_told labels [] k h = absurd (true_false (sym h))
unarmed_told labels (x ∷ ks) k h = by_label (labels x) refl h (unarmed_told labels ks k)
  where
    rest_of : (labels k ≡ None) × (has k ks ≡ true) → (labels k ≡ None) × (has k (x ∷ ks) ≡ true)
    rest_of r = (r.0, has_there k x ks r.1)

    by_same : (y : Bool) → nat_eq k x ≡ y → labels x ≡ None → (y || has k (unarmed labels ks)) ≡ true → (has k (unarmed labels ks) ≡ true → (labels k ≡ None) × (has k ks ≡ true)) → (labels k ≡ None) × (has k (x ∷ ks) ≡ true)
    by_same true same none h rest = (ap labels (nat_eq-eq k x same) ∙ none, ap (λ y. y || has k ks) same)
    by_same false same none h rest = rest_of (rest h)

    by_label : (o : Option ℕ) → labels x ≡ o → has k (kept_with x o (unarmed labels ks)) ≡ true → (has k (unarmed labels ks) ≡ true → (labels k ≡ None) × (has k ks ≡ true)) → (labels k ≡ None) × (has k (x ∷ ks) ≡ true)
    by_label None none h rest = by_same (nat_eq k x) refl none h rest
    by_label (Some id) some h rest = rest_of (rest h)

pub loose_told : (labels : ℕ → Option ℕ) (ks : List ℕ) (k : ℕ) → has k (loose labels ks) ≡ true → (labels k ≡ None) × (has k ks ≡ true)
loose_told labels ks k h = unarmed_told labels ks k (sym (has_different k (unarmed labels ks)) ∙ h)

-- ---- setters

abbrev pub setter_ids : Context → ℕ → List ℕ → List ℕ
setter_ids c place [] = []
setter_ids c place (k ∷ ks) = result c place ∷ setter_ids c (place + 3) ks

pub setters_arms : (c : Context) (d place meet : ℕ) (ks : List ℕ) → ArmsCode d meet (setter_ids c place ks) (setters_code c place meet ks)
setters_arms c d place meet [] = no_arm d meet
setters_arms c d place meet (k ∷ ks) =
    let body : List Inst = want_inst c k ∷ [] in
    arm d false meet (result c place) (setter_ids c (place + 3) ks) body (setters_code c (place + 3) meet ks) _ (row_of d (result c place) body (inner_tail d body (omega arith, tt))) (setters_arms c d (place + 3) meet ks) refl

pub setters_count : (c : Context) (place : ℕ) (ks : List ℕ) → length (setter_ids c place ks) ≡ length ks
setters_count c place [] = refl
setters_count c place (k ∷ ks) = ap suc (setters_count c (place + 3) ks)

-- a block's setter, and the block, have one place
pub setter_at : (c : Context) (place k : ℕ) (ks : List ℕ) → has k ks ≡ true → slice_get (setter_ids c place ks) (place_in k ks) ≡ Some (setter_label (result c place) ks k)
setter_at c place k [] h = absurd (true_false (sym h))
setter_at c place k (x ∷ ks) h = by_test (nat_eq k x) h (setter_at c (place + 3) k ks)
  where
    by_test : (b : Bool) → (b || has k ks) ≡ true → (has k ks ≡ true → slice_get (setter_ids c (place + 3) ks) (place_in k ks) ≡ Some (setter_label (result c (place + 3)) ks k)) → slice_get (result c place ∷ setter_ids c (place + 3) ks) (if b then 0 else suc (place_in k ks)) ≡ Some (result c place + 3 * (if b then 0 else suc (place_in k ks)))
    by_test true h rest =
        let same : result c place ≡ result c place + 3 * 0 = omega arith in
        ap Some same
    by_test false h rest =
        let n = place_in k ks in
        let same : c.first + (place + 3) + 3 * n ≡ c.first + place + 3 * suc n = omega arith in
        rest h ∙ ap Some same

pub place_at : (k : ℕ) (ks : List ℕ) → has k ks ≡ true → slice_get ks (place_in k ks) ≡ Some k
place_at k [] h = absurd (true_false (sym h))
place_at k (x ∷ ks) h = by_test (nat_eq k x) refl h (place_at k ks)
  where
    by_test : (b : Bool) → nat_eq k x ≡ b → (b || has k ks) ≡ true → (has k ks ≡ true → slice_get ks (place_in k ks) ≡ Some k) → slice_get (x ∷ ks) (if b then 0 else suc (place_in k ks)) ≡ Some k
    by_test true e h rest = ap Some (sym (nat_eq-eq k x e))
    by_test false e h rest = rest h

pub setter_in : (c : Context) (place k : ℕ) (ks : List ℕ) → has k ks ≡ true → Contains (setter_ids c place ks) (setter_label (result c place) ks k)
setter_in c place k ks h = get_contains (setter_ids c place ks) (place_in k ks) (setter_label (result c place) ks k) (setter_at c place k ks h)

-- each setter is that of a block
pub setter_of : (c : Context) (place : ℕ) (ks : List ℕ) → IsOnce ks → (id : ℕ) → Contains (setter_ids c place ks) id → (k : ℕ) × (has k ks ≡ true) × (setter_label (result c place) ks k ≡ id)
setter_of c place [] once id h = absurd (none id h)
setter_of c place (x ∷ ks) once id h = elim (in_cons id (result c place) (setter_ids c (place + 3) ks) h) [
  | inl e ↦ (x, has_here x ks, here e)
  | inr i ↦ (let r = setter_of c (place + 3) ks once.1 id i in (r.0, has_there r.0 x ks r.1, there r.0 r.1 r.2 (nat_eq r.0 x) refl))
]
  where
    here : id ≡ result c place → setter_label (result c place) (x ∷ ks) x ≡ id
    here e =
        let same : result c place + 3 * 0 ≡ result c place = omega arith in
        ap (λ (b : Bool). result c place + 3 * (if b then 0 else suc (place_in x ks))) (nat_eq-refl x) ∙ same ∙ sym e

    there : (k : ℕ) → has k ks ≡ true → setter_label (result c (place + 3)) ks k ≡ id → (b : Bool) → nat_eq k x ≡ b → setter_label (result c place) (x ∷ ks) k ≡ id
    there k h is true e = absurd (true_false (sym h ∙ (ap (λ y. has y ks) (nat_eq-eq k x e) ∙ once.0)))
    there k h is false e =
        let n = place_in k ks in
        let same : c.first + place + 3 * suc n ≡ c.first + (place + 3) + 3 * n = omega arith in
        ap (λ (b : Bool). result c place + 3 * (if b then 0 else suc (place_in k ks))) e ∙ same ∙ is

-- ---- arms one behind the other

pub arms_join : (d meet : ℕ) (ids others : List ℕ) (xs ys : List Inst) → ArmsCode d meet ids xs → ArmsCode d meet others ys → ArmsCode d meet (ids ++ others) (xs ++ ys)
arms_join d meet ids others xs ys (no_arm e m) h = h
arms_join d meet ids others xs ys (arm e b m label rest body tail all row code is) h =
    arm e b m label (rest ++ others) body (tail ++ ys) (xs ++ ys) row (arms_join e m rest others tail ys code h) (ap (λ zs. zs ++ ys) is ∙ ap (λ zs. label_inst label ∷ zs) (append_assoc body (branch_inst m ∷ tail) ys))

-- ---- the labels of a switch's pairs

pub pairs_labels : (to : ℕ → ℕ) (cases : List (ℕ × ℕ)) → every_second (pairs to cases) ≡ map to (map (λ arm. arm.1) cases)
pairs_labels to [] = refl
pairs_labels to (x ∷ cases) = ap (λ ids. to x.1 ∷ ids) (pairs_labels to cases)
