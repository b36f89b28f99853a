-- Registers as two numbers, and tests of them.
use Rattle.std.proofs.Common.{◌≡◌, ℕ, Bool, true, false, ◌||◌, ◌==◌, cond, nat_lt, List, [], ◌∷◌, ◌++◌, refl, ap, sym, ◌∙◌, subst, arith}
use Rattle.std.proofs.lemmas.Bool.Decides.{nat_tests}
use Rattle.std.specs.declared.cmp.Ordering.{Ordering}
use Rattle.std.specs.declared.cmp.Ordering.TheVariants.{Less, Equal, Greater}
use Rattle.std.specs.Ordering.{is_eq, nat_cmp, ordering_then}
use Rattle.phi_demotion.specs.Reads.{is_key}

both_equal : (o r : Ordering) → is_eq (ordering_then o r) ≡ true → (is_eq o ≡ true) × (is_eq r ≡ true)
both_equal Less r e = absurd (cc)
both_equal Equal r e = (refl, e)
both_equal Greater r e = absurd (cc)

equal_numbers : (x y : ℕ) → is_eq (nat_cmp x y) ≡ true → x ≡ y
equal_numbers x y e = by_tests (nat_lt x y) (x == y) refl e
  where
    by_tests : (b c : Bool) → (x == y) ≡ c → is_eq (cond b Less (cond c Equal Greater)) ≡ true → x ≡ y
    by_tests true c is e = absurd (cc)
    by_tests false true is e = grind (arith, nat_tests)
    by_tests false false is e = absurd (cc)

own_number : (x : ℕ) → nat_cmp x x ≡ Equal
own_number x =
    let no : nat_lt x x ≡ false = grind (arith, nat_tests) in
    let yes : (x == x) ≡ true = grind (arith, nat_tests) in
    ap (λ b. cond b Less (cond (x == x) Equal Greater)) no ∙ ap (λ c. cond c Equal Greater) yes

pub same_key : (p q : ℕ × ℕ) → is_key p q ≡ true → p ≡ q
same_key p q e =
    let both = both_equal (nat_cmp p.0 q.0) (nat_cmp p.1 q.1) e in
    let first : p.0 ≡ q.0 = equal_numbers p.0 q.0 both.0 in
    let second : p.1 ≡ q.1 = equal_numbers p.1 q.1 both.1 in
    ap (λ (n : ℕ). (n, p.1)) first ∙ ap (λ (n : ℕ). (q.0, n)) second

pub own_key : (p : ℕ × ℕ) → is_key p p ≡ true
own_key p =
    ap (λ o. is_eq (ordering_then o (nat_cmp p.1 p.1))) (own_number p.0) ∙ ap is_eq (own_number p.1)

pub or_right : (a b : Bool) → (b ≡ true → a ≡ true) → a ≡ (a || b)
or_right true b h = refl
or_right false true h = h refl
or_right false false h = refl
