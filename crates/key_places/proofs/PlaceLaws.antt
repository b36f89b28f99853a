-- What a list of pairs says once it has one pair more: for callers that make it place by place.
use Rattle.std.proofs.Common.{ℕ, ◌≡◌, ◌<◌, ◌≤◌, ◌+◌, ◌-◌, refl, ap, ◌∙◌, arith, List, [], ◌∷◌, ◌++◌, length, Option, Some, None, Bool, true, false, cond, eqb}
use Rattle.std.proofs.lemmas.List.Elements.{All-nil, All-push}
use Rattle.std.proofs.lemmas.List.Folds.{find-append}
use Rattle.std.proofs.lemmas.List.Sorted.{IsNonDecreasingBy-push, IsNonDecreasingBy-short}
use Rattle.std.specs.List.{All, find}
use Rattle.std.specs.Option.{option_map, option_or}
use Rattle.key_places.specs.Places.{first_place, AreInOrder}

map_or : (a b : Option (ℕ × ℕ)) → option_map (λ (p : ℕ × ℕ). p.1) (option_or a b) ≡ option_or (option_map (λ (p : ℕ × ℕ). p.1) a) (option_map (λ (p : ℕ × ℕ). p.1) b)
map_or None b = refl
map_or (Some p) b = refl

-- a pair more counts where its key has no place yet
pub first_place-push : (pairs : List (ℕ × ℕ)) (key place q : ℕ) → first_place (pairs ++ (key, place) ∷ []) q ≡ option_or (first_place pairs q) (cond (eqb key q) (Some place) None)
first_place-push pairs key place q =
    ap (option_map (λ (p : ℕ × ℕ). p.1)) (find-append (λ (p : ℕ × ℕ). eqb p.0 q) pairs ((key, place) ∷ [])) ∙ map_or (find (λ (p : ℕ × ℕ). eqb p.0 q) pairs) _ ∙ ap (option_or (first_place pairs q)) (each (eqb key q)) where
      each : (b : Bool) → option_map (λ (p : ℕ × ℕ). p.1) (cond b (Some (key, place)) None) ≡ cond b (Some place) None
      each true = refl
      each false = refl

-- the places do not fall, and each is before the next
pub record ArePlaced (pairs : List (ℕ × ℕ)) (next : ℕ) : Type 0 where
  pub ordered : AreInOrder pairs
  pub before : All (λ (p : ℕ × ℕ). p.1 < next) pairs

pub placed_none : (next : ℕ) → ArePlaced [] next
placed_none next = record { ordered = IsNonDecreasingBy-short (λ (p : ℕ × ℕ). p.1) [] (omega arith); before = All-nil (λ (p : ℕ × ℕ). p.1 < next) }

pub placed_later : (pairs : List (ℕ × ℕ)) (next later : ℕ) → next ≤ later → ArePlaced pairs next → ArePlaced pairs later
placed_later pairs next later h are = record { ordered = are.ordered; before = λ k d inside. omega (arith, are.before k d inside) }

pub placed_push : (pairs : List (ℕ × ℕ)) (key place : ℕ) → ArePlaced pairs place → ArePlaced (pairs ++ (key, place) ∷ []) (place + 1)
placed_push pairs key place are = record {
  ordered = IsNonDecreasingBy-push (λ (p : ℕ × ℕ). p.1) pairs (key, place) are.ordered (λ d some. omega (arith, are.before (length pairs - 1) d (omega arith)));
  before = All-push (λ (p : ℕ × ℕ). p.1 < place + 1) pairs (key, place) (λ k d inside. omega (arith, are.before k d inside)) (omega arith);
}
