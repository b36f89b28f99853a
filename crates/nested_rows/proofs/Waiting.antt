-- How many merge instructions wait in lists that are put together.
use Rattle.std.proofs.Common.{◌≡◌, inl, inr, ℕ, zero, suc, ◌+◌, ◌-◌, ◌≤◌, Bool, true, false, not, cond, List, [], ◌∷◌, ◌++◌, length, take, refl, sym, ap, ◌∙◌, arith}
use Rattle.std.proofs.lemmas.Bool.{cases_lt}
use Rattle.std.proofs.lemmas.List.Sums.{sum_by-cons}
use Rattle.std.specs.Prelude.{◌||◌, ◌&&◌, count_by}
use Rattle.std.specs.List.{list_any}
use Rattle.spv_form.specs.declared.module.Inst.{Inst}
use Rattle.spv_ids.specs.Roles.{operand}
use Rattle.order_rules.specs.Merges.{is_merge, is_label, is_open, waiting}

true_false : true ≡ false → ⊥
true_false e = cc

-- ---- the first instructions of a list

pub take_over : (j : ℕ) (xs ys : List Inst) → take (length xs + j) (xs ++ ys) ≡ xs ++ take j ys
take_over j [] ys = ap (λ n. take n ys) (omega arith)
take_over j (x ∷ xs) ys =
    let same : length (x ∷ xs) + j ≡ suc (length xs + j) = omega arith in
    ap (λ n. take n (x ∷ (xs ++ ys))) same ∙ ap (λ is. x ∷ is) (take_over j xs ys)

pub take_within : (j : ℕ) (xs ys : List Inst) → j ≤ length xs → take j (xs ++ ys) ≡ take j xs
take_within zero [] ys low = refl
take_within zero (x ∷ xs) ys low = refl
take_within (suc j) [] ys low = absurd (omega (arith, low))
take_within (suc j) (x ∷ xs) ys low = ap (λ is. x ∷ is) (take_within j xs ys (omega (arith, low)))

-- ---- those that wait for a label among others

abbrev pub bit : Bool → ℕ
bit b = cond b 1 0

abbrev pub open_in : (all xs : List Inst) → ℕ
open_in all xs = count_by (is_open all) xs

pub open_more : (all : List Inst) (x : Inst) (xs : List Inst) → open_in all (x ∷ xs) ≡ bit (is_open all x) + open_in all xs
open_more all x xs = sum_by-cons (λ y. cond (is_open all y) 1 0) x xs

-- each label of the one list is among the other
abbrev pub Covers : (all part : List Inst) → Type 0
Covers all part = (l : ℕ) → list_any (is_label l) part ≡ true → list_any (is_label l) all ≡ true

bit_low : (m a b : Bool) → (b ≡ true → a ≡ true) → bit (m && not a) ≤ bit (m && not b)
bit_low false a b h = omega arith
bit_low true true b h = (let one : bit (not true) ≤ bit (not b) = omega arith in one)
bit_low true false true h = absurd (true_false (sym (h refl)))
bit_low true false false h = omega arith

pub covered : (all part xs : List Inst) → Covers all part → open_in all xs ≤ open_in part xs
covered all part [] h = omega arith
covered all part (x ∷ xs) h =
    let one = bit_low (is_merge x) (list_any (is_label (operand x 0)) all) (list_any (is_label (operand x 0)) part) (h (operand x 0)) in
    let rest = covered all part xs h in
    let left = open_more all x xs in
    let right = open_more part x xs in
    omega (arith, one, rest, left, right)

pub any_front : (test : Inst → Bool) (xs ys : List Inst) → list_any test xs ≡ true → list_any test (xs ++ ys) ≡ true
any_front test [] ys e = absurd (true_false (sym e))
any_front test (x ∷ xs) ys e = by_test (test x) e (any_front test xs ys)
  where
    by_test : (b : Bool) → (b || list_any test xs) ≡ true → (list_any test xs ≡ true → list_any test (xs ++ ys) ≡ true) → (b || list_any test (xs ++ ys)) ≡ true
    by_test true e rest = refl
    by_test false e rest = rest e

pub any_more : (test : Inst → Bool) (x : Inst) (xs : List Inst) → list_any test xs ≡ true → list_any test (x ∷ xs) ≡ true
any_more test x xs e = by_test (test x)
  where
    by_test : (b : Bool) → (b || list_any test xs) ≡ true
    by_test true = refl
    by_test false = e

pub any_back : (test : Inst → Bool) (xs ys : List Inst) → list_any test ys ≡ true → list_any test (xs ++ ys) ≡ true
any_back test [] ys e = e
any_back test (x ∷ xs) ys e = any_more test x (xs ++ ys) (any_back test xs ys e)

open_append : (all xs ys : List Inst) → open_in all (xs ++ ys) ≡ open_in all xs + open_in all ys
open_append all [] ys = omega arith
open_append all (x ∷ xs) ys =
    let one = open_more all x (xs ++ ys) in
    let two = open_more all x xs in
    let rest = open_append all xs ys in
    omega (arith, one, two, rest)

-- ---- those that wait

waiting_is : (xs : List Inst) → waiting xs ≡ open_in xs xs
unfolding waiting
waiting_is xs = refl

pub waiting_append : (xs ys : List Inst) → waiting (xs ++ ys) ≤ waiting xs + waiting ys
waiting_append xs ys =
    let all = xs ++ ys in
    let whole = waiting_is all in
    let parts = open_append all xs ys in
    let one = covered all xs xs (λ l e. any_front (is_label l) xs ys e) in
    let two = covered all ys ys (λ l e. any_back (is_label l) xs ys e) in
    let left = waiting_is xs in
    let right = waiting_is ys in
    omega (arith, whole, parts, one, two, left, right)

-- one instruction before
waiting_first : (x : Inst) (xs : List Inst) → waiting (x ∷ xs) ≤ bit (is_open (x ∷ xs) x) + waiting xs
waiting_first x xs =
    let whole = waiting_is (x ∷ xs) in
    let parts = open_more (x ∷ xs) x xs in
    let one = covered (x ∷ xs) xs xs (λ l e. any_more (is_label l) x xs e) in
    let right = waiting_is xs in
    omega (arith, whole, parts, one, right)

bit_one : (b : Bool) → bit b ≤ 1
bit_one true = omega arith
bit_one false = omega arith

pub waiting_any : (x : Inst) (xs : List Inst) → waiting (x ∷ xs) ≤ 1 + waiting xs
waiting_any x xs =
    let h = waiting_first x xs in
    let one = bit_one (is_open (x ∷ xs) x) in
    omega (arith, h, one)

pub waiting_other : (x : Inst) (xs : List Inst) → is_merge x ≡ false → waiting (x ∷ xs) ≤ waiting xs
waiting_other x xs e =
    let h = waiting_first x xs in
    let none : bit (is_open (x ∷ xs) x) ≡ 0 = ap (λ b. bit (b && not (list_any (is_label (operand x 0)) (x ∷ xs)))) e in
    omega (arith, h, none)

pub waiting_met : (x : Inst) (xs : List Inst) → list_any (is_label (operand x 0)) xs ≡ true → waiting (x ∷ xs) ≤ waiting xs
waiting_met x xs e =
    let h = waiting_first x xs in
    let none : bit (is_open (x ∷ xs) x) ≡ 0 = ap (λ b. bit (is_merge x && not b)) (any_more (is_label (operand x 0)) x xs e) ∙ nothing (is_merge x) in
    omega (arith, h, none)
  where
    nothing : (b : Bool) → bit (b && false) ≡ 0
    nothing true = refl
    nothing false = refl

pub waiting_none : waiting [] ≤ 0
waiting_none =
    let e = waiting_is [] in
    omega (arith, e)

-- ---- code in which at most so many wait, and none at its end

pub record Shallow (d : ℕ) (zs : List Inst) : Type 0 where
  pub low : (j : ℕ) → waiting (take j zs) ≤ d
  pub closed : waiting zs ≤ 0

take_none : (j : ℕ) → take {A = Inst} j [] ≡ []
take_none zero = refl
take_none (suc j) = refl

pub none_waits : (d : ℕ) → Shallow d []
none_waits d =
    record { low = λ j. (let same = ap waiting (take_none j) in let h = waiting_none in omega (arith, same, h)); closed = waiting_none }

pub join : (d : ℕ) (xs ys : List Inst) → Shallow d xs → Shallow d ys → Shallow d (xs ++ ys)
join d xs ys f g =
    let x = f.closed in
    let y = g.closed in
    let both = waiting_append xs ys in
    record { low = low; closed = omega (arith, x, y, both) }
  where
    low : (j : ℕ) → waiting (take j (xs ++ ys)) ≤ d
    low j = elim (cases_lt j (length xs)) [
      | inl lt ↦ (let same = ap waiting (take_within j xs ys (omega (arith, lt))) in let h = f.low j in omega (arith, same, h))
      | inr ge ↦ behind j ge
    ]
      where
        behind : (j : ℕ) → length xs ≤ j → waiting (take j (xs ++ ys)) ≤ d
        behind j ge =
            let n : ℕ = j - length xs in
            let at : j ≡ length xs + n = omega arith in
            let same = ap waiting (ap (λ m. take m (xs ++ ys)) at ∙ take_over n xs ys) in
            let both = waiting_append xs (take n ys) in
            let x = f.closed in
            let y = g.low n in
            omega (arith, same, both, x, y)

-- an instruction that does not wait
pub before : (d : ℕ) (x : Inst) (xs : List Inst) → is_merge x ≡ false → Shallow d xs → Shallow d (x ∷ xs)
before d x xs e f =
    let h = waiting_other x xs e in
    let c = f.closed in
    record { low = low; closed = omega (arith, h, c) }
  where
    low : (j : ℕ) → waiting (take j (x ∷ xs)) ≤ d
    low zero =
        let h = waiting_none in
        omega (arith, h)
    low (suc j) =
        let h = waiting_other x (take j xs) e in
        let l = f.low j in
        omega (arith, h, l)

-- a merge instruction whose label stands behind it
pub opens : (d : ℕ) (x : Inst) (xs : List Inst) → list_any (is_label (operand x 0)) xs ≡ true → Shallow d xs → Shallow (suc d) (x ∷ xs)
opens d x xs e f =
    let h = waiting_met x xs e in
    let c = f.closed in
    record { low = low; closed = omega (arith, h, c) }
  where
    low : (j : ℕ) → waiting (take j (x ∷ xs)) ≤ suc d
    low zero =
        let h = waiting_none in
        omega (arith, h)
    low (suc j) =
        let h = waiting_any x (take j xs) in
        let l = f.low j in
        omega (arith, h, l)
