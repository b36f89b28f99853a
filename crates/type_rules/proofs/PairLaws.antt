-- The second words of pairs are those at odd places.
use Rattle.std.proofs.Common.{ℕ, zero, suc, ◌≡◌, ◌%◌, ◌<◌, ◌&&◌, refl, arith, List, [], ◌∷◌, length, get_or, Bool, true, false}
use Rattle.std.specs.List.{list_all}
use Rattle.type_rules.specs.Fits.{seconds}

and_true : (a b : Bool) → a ≡ true → b ≡ true → (a && b) ≡ true
and_true a b p q = rw (p, q) refl

and_first : (a b : Bool) → a ≡ false → (a && b) ≡ false
and_first a b p = rw p refl

and_second : (a b : Bool) → b ≡ false → (a && b) ≡ false
and_second true b p = p
and_second false b p = refl

pub seconds_pass : (p : ℕ → Bool) (xs : List ℕ) → ((k : ℕ) → k < length xs → k % 2 ≡ 1 → p (get_or xs k 0) ≡ true) → list_all p (seconds xs) ≡ true
seconds_pass p [] h = refl
seconds_pass p (n ∷ []) h = refl
seconds_pass p (n ∷ l ∷ ps) h = and_true (p l) (list_all p (seconds ps)) (h 1 (omega arith) refl)
    (seconds_pass p ps (λ k below odd. h (suc (suc k)) (omega arith) (omega arith)))

pub second_fails : (p : ℕ → Bool) (xs : List ℕ) (k : ℕ) → k < length xs → k % 2 ≡ 1 → p (get_or xs k 0) ≡ false → list_all p (seconds xs) ≡ false
second_fails p [] k below odd h = absurd (omega arith)
second_fails p (n ∷ xs) zero below odd h = absurd (omega arith)
second_fails p (n ∷ []) (suc k) below odd h = absurd (omega arith)
second_fails p (n ∷ l ∷ ps) (suc zero) below odd h = and_first (p l) (list_all p (seconds ps)) h
second_fails p (n ∷ l ∷ ps) (suc (suc k)) below odd h = and_second (p l) (list_all p (seconds ps)) (second_fails p ps k (omega arith) (omega arith) h)
