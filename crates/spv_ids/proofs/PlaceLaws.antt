-- What the first place of an instruction says of those before a place.
use Rattle.std.proofs.Common.{ℕ, suc, ◌≡◌, ◌<◌, inl, inr, refl, sym, ◌∙◌, arith, List, [], ◌∷◌, length, take, get_or, Option, Some, None, Bool, true, false, ltb}
use Rattle.std.proofs.lemmas.Bool.{cases_lt}
use Rattle.std.proofs.lemmas.Grind.{common_steps}
use Rattle.std.proofs.lemmas.List.Quantifiers.{position-Some}
use Rattle.std.proofs.lemmas.List.Sums.{fails_before_first}
use Rattle.std.proofs.lemmas.List.Folds.{list_any_at}
use Rattle.std.specs.List.{position, position_or_len, list_any}
use Rattle.std.specs.Option.{is_some}
use Rattle.spv_form.specs.declared.module.Inst.{Inst}
use Rattle.spv_ids.specs.Places.{is_before, stands_before}

-- an instruction to read where none is
pub nothing : Inst
nothing = record { opcode = 0; operands = [] }

none_any : (p : Inst → Bool) (xs : List Inst) → ((k : ℕ) → k < length xs → p (get_or xs k nothing) ≡ false) → list_any p xs ≡ false
none_any p [] h = refl
none_any p (x ∷ xs) h = let here : p x ≡ false = h 0 (omega arith) in rw here (none_any p xs (λ k below. h (suc k) (omega arith)))

pub none_passes : (p : Inst → Bool) (xs : List Inst) → position p xs ≡ None → (k : ℕ) → k < length xs → p (get_or xs k nothing) ≡ false
none_passes p xs e k h = elim (cases_lt (position_or_len p xs) (length xs)) [
  | inl below ↦ let found : ltb (position_or_len p xs) (length xs) ≡ true = grind arith in let e' = rw found at e in cc
  | inr above ↦ fails_before_first p xs k nothing (omega arith)
]

pub any_before : (p : Inst → Bool) (xs : List Inst) (at : ℕ) → stands_before p xs at ≡ is_before at (position p xs)
any_before p xs at = cases (position p xs) refl where
  cases : (o : Option ℕ) → position p xs ≡ o → list_any p (take at xs) ≡ is_before at o
  cases None e = none_any p (take at xs) (λ k h. let f = none_passes p xs e k in grind (arith, common_steps))
  cases (Some j) e =
      let first = position-Some p xs j nothing e in
      elim (cases_lt j at) [
        | inl below ↦ grind (arith, common_steps, list_any_at p (take at xs) j nothing)
        | inr above ↦ none_any p (take at xs) (λ k h. let f = first.2 k in grind (arith, common_steps)) ∙ grind arith
      ]

pub any_some : (p : Inst → Bool) (xs : List Inst) → is_some (position p xs) ≡ list_any p xs
any_some p xs = cases (position p xs) refl where
  cases : (o : Option ℕ) → position p xs ≡ o → is_some o ≡ list_any p xs
  cases None e = sym (none_any p xs (none_passes p xs e))
  cases (Some j) e = let first = position-Some p xs j nothing e in sym (list_any_at p xs j nothing first.0 first.1)
