-- A number's digits one by one.
use Rattle.std.proofs.Common.{ℕ, ◌≡◌, ◌+◌, ◌/◌, ◌%◌, ◌<◌, ◌≤◌, ◌^◌, ◌∙◌, sym, ap, arith, List, [], ◌∷◌, ◌++◌, Result, Ok, Err, OnOk}
use Rattle.std.proofs.lemmas.Fmt.{decimal_digit, decimal_step}
use Rattle.std.specs.Fmt.{decimal}
use mathlib.Core.List.{append_assoc}

pub on_ok : {T E : Type 0} {P Q : Type 0} (r : Result T E) → (P → Q) → OnOk r P → OnOk r Q
on_ok (Ok x) f h = f h
on_ok (Err e) f h = tt

code : (d : ℕ) → (d + 48) ∷ [] ≡ (48 + d) ∷ []
code d = ap (λ (c : ℕ). c ∷ []) (omega arith)

pub first_digit : (old new : List ℕ) (n : ℕ) → n < 10 → new ≡ old ++ (n + 48) ∷ [] → new ≡ old ++ decimal n
first_digit old new n low e = e ∙ ap (λ (ds : List ℕ). old ++ ds) (code n ∙ sym (decimal_digit n low))

pub last_digit : (old mid new : List ℕ) (n : ℕ) → 10 ≤ n → n < 2 ^ 64 → mid ≡ old ++ decimal (n / 10) → new ≡ mid ++ (n % 10 + 48) ∷ [] → new ≡ old ++ decimal n
last_digit old mid new n high small e f =
    f ∙ ap (λ (xs : List ℕ). xs ++ (n % 10 + 48) ∷ []) e ∙ append_assoc old (decimal (n / 10)) ((n % 10 + 48) ∷ [])
    ∙ ap (λ (ds : List ℕ). old ++ ds) (ap (λ (ds : List ℕ). decimal (n / 10) ++ ds) (code (n % 10)) ∙ sym (decimal_step n high small))
