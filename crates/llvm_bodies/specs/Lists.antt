-- Words on lists.
use Rattle.std.specs.Prelude.{List, [], ◌∷◌, ◌++◌, Bool, true, false, if◌then◌else◌}
use Rattle.std.specs.List.{list_any}

abbrev pub has_some : {A : Type 0} → List A → Bool
has_some [] = false
has_some (x ∷ xs) = true

-- what stands behind the last one that passes; all where none does
abbrev pub behind_last : {A : Type 0} → (A → Bool) → List A → List A
behind_last p [] = []
behind_last p (x ∷ xs) = if list_any p xs then behind_last p xs else if p x then xs else x ∷ xs

-- whether the last one passes; false where there is none
abbrev pub last_passes : {A : Type 0} → (A → Bool) → List A → Bool
last_passes p [] = false
last_passes p (x ∷ []) = p x
last_passes p (x ∷ y ∷ xs) = last_passes p (y ∷ xs)

-- each of the second list is as the one of the first that stands at its place, and there are as many
pub data Each {A B : Type 0} (R : A → B → Type 0) : List A → List B → Type 0 where
  none : Each R [] []
  more : {a : A} {b : B} {xs : List A} {ys : List B} → R a b → Each R xs ys → Each R (a ∷ xs) (b ∷ ys)

-- an item of a list with what stands before it
pub record Place (A : Type 0) : Type 0 where
  pub before : List A
  pub item : A

abbrev pub places_from : {A : Type 0} → List A → List A → List (Place A)
places_from front [] = []
places_from front (x ∷ xs) = record { before = front; item = x } ∷ places_from (front ++ x ∷ []) xs

abbrev pub places : {A : Type 0} → List A → List (Place A)
places xs = places_from [] xs
