-- Numbers that were seen, as a set.
use Rattle.std.proofs.Common.{ℕ, ◌≡◌, ◌==◌, ◌||◌, refl, sym, ap, ◌∙◌, List, [], ◌∷◌, Bool, true, false, Option, Some, None}
use Rattle.std.specs.List.{list_any}
use Rattle.std.proofs.lemmas.Bool.{eqb-true, eqb-false}
use Rattle.profile_lines.specs.Pool.{Pool, constant}
use Rattle.profile_rules.specs.Rules.{is_number, is_case, have_equals}
use Rattle.profile_rules.specs.Helping.{hits}

-- a case is equal to one that was seen, or two of them are
abbrev pub equals_behind : Pool → (ℕ → Bool) → List (ℕ × ℕ) → Bool
equals_behind x seen cases = list_any (λ c. hits seen (constant x 32 c.0)) cases || have_equals x cases

hits_none : (x : Pool) (seen : ℕ → Bool) → ((q : ℕ) → seen q ≡ false) → (cases : List (ℕ × ℕ)) → list_any (λ c. hits seen (constant x 32 c.0)) cases ≡ false
hits_none x seen e [] = refl
hits_none x seen e (c ∷ cs) = rw (none (constant x 32 c.0), hits_none x seen e cs) refl where
  none : (n : Option ℕ) → hits seen n ≡ false
  none None = refl
  none (Some n) = e n

pub behind_nothing : (x : Pool) (seen : ℕ → Bool) (cases : List (ℕ × ℕ)) → ((q : ℕ) → seen q ≡ false) → have_equals x cases ≡ equals_behind x seen cases
behind_nothing x seen cases e = rw (hits_none x seen e cases) refl

pub eq_sym : (n m : ℕ) → (n == m) ≡ (m == n)
eq_sym n m = at (n == m) refl (m == n) refl where
  at : (a : Bool) → (n == m) ≡ a → (b : Bool) → (m == n) ≡ b → (n == m) ≡ (m == n)
  at true e true f = e ∙ sym f
  at false e false f = e ∙ sym f
  at true e false f = absurd (eqb-false m n f (sym (eqb-true n m e)))
  at false e true f = absurd (eqb-false n m e (sym (eqb-true m n f)))

or_swap : (a b c : Bool) → ((a || b) || c) ≡ (a || (b || c))
or_swap true b c = refl
or_swap false b c = refl

or_middle : (a b c d : Bool) → ((a || b) || (c || d)) ≡ ((a || c) || (b || d))
or_middle true b c d = refl
or_middle false true true d = refl
or_middle false true false d = refl
or_middle false false c d = refl

hits_same : (x : Pool) (seen next : ℕ → Bool) (cases : List (ℕ × ℕ)) → ((q : ℕ) → next q ≡ seen q) → list_any (λ c. hits next (constant x 32 c.0)) cases ≡ list_any (λ c. hits seen (constant x 32 c.0)) cases
hits_same x seen next [] e = refl
hits_same x seen next (c ∷ cs) e = rw (one (constant x 32 c.0), hits_same x seen next cs e) refl where
  one : (m : Option ℕ) → hits next m ≡ hits seen m
  one None = refl
  one (Some m) = e m

-- one number more was seen
hits_more : (x : Pool) (seen next : ℕ → Bool) (n : ℕ) → ((q : ℕ) → next q ≡ (seen q || n == q)) → (cases : List (ℕ × ℕ))
    → list_any (λ c. hits next (constant x 32 c.0)) cases ≡ (list_any (λ c. hits seen (constant x 32 c.0)) cases || list_any (is_case x (Some n)) cases)
hits_more x seen next n e [] = refl
hits_more x seen next n e (c ∷ cs) = rw (one (constant x 32 c.0), hits_more x seen next n e cs) (or_middle (hits seen (constant x 32 c.0)) (is_number n (constant x 32 c.0)) (list_any (λ d. hits seen (constant x 32 d.0)) cs) (list_any (is_case x (Some n)) cs)) where
  one : (m : Option ℕ) → hits next m ≡ (hits seen m || is_number n m)
  one None = refl
  one (Some m) = e m ∙ ap (λ b. seen m || b) (eq_sym n m)

case_none : (x : Pool) (cases : List (ℕ × ℕ)) → list_any (is_case x None) cases ≡ false
case_none x [] = refl
case_none x (c ∷ cs) = case_none x cs

skip_none : (x : Pool) (seen next : ℕ → Bool) (c : ℕ × ℕ) (cs : List (ℕ × ℕ)) → constant x 32 c.0 ≡ None → ((q : ℕ) → next q ≡ (seen q || false)) → equals_behind x seen (c ∷ cs) ≡ equals_behind x next cs
skip_none x seen next c cs e g = rw e (ap (λ b. list_any (λ d. hits seen (constant x 32 d.0)) cs || (b || have_equals x cs)) (case_none x cs) ∙ ap (λ b. b || have_equals x cs) (sym (hits_same x seen next cs (λ q. g q ∙ or_false (seen q))))) where
  or_false : (b : Bool) → (b || false) ≡ b
  or_false true = refl
  or_false false = refl

take_new : (x : Pool) (seen next : ℕ → Bool) (n : ℕ) (c : ℕ × ℕ) (cs : List (ℕ × ℕ)) → constant x 32 c.0 ≡ Some n → seen n ≡ false → ((q : ℕ) → next q ≡ (seen q || n == q)) → equals_behind x seen (c ∷ cs) ≡ equals_behind x next cs
take_new x seen next n c cs e f g = rw (e, f) (sym (or_swap (list_any (λ d. hits seen (constant x 32 d.0)) cs) (list_any (is_case x (Some n)) cs) (have_equals x cs)) ∙ ap (λ b. b || have_equals x cs) (sym (hits_more x seen next n g cs)))

-- one case more, which was not seen
pub seen_more : (x : Pool) (seen next : ℕ → Bool) (c : ℕ × ℕ) (cs : List (ℕ × ℕ)) → hits seen (constant x 32 c.0) ≡ false → ((q : ℕ) → next q ≡ (seen q || is_number q (constant x 32 c.0))) → equals_behind x seen (c ∷ cs) ≡ equals_behind x next cs
seen_more x seen next c cs = at (constant x 32 c.0) refl where
  at : (n : Option ℕ) → constant x 32 c.0 ≡ n → hits seen n ≡ false → ((q : ℕ) → next q ≡ (seen q || is_number q n)) → equals_behind x seen (c ∷ cs) ≡ equals_behind x next cs
  at None e f g = skip_none x seen next c cs e g
  at (Some n) e f g = take_new x seen next n c cs e f g

-- one case more, which was seen
pub seen_again : (x : Pool) (seen : ℕ → Bool) (c : ℕ × ℕ) (cs : List (ℕ × ℕ)) → hits seen (constant x 32 c.0) ≡ true → equals_behind x seen (c ∷ cs) ≡ true
seen_again x seen c cs e = rw e refl
