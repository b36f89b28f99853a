-- Blocks with their places.
use Rattle.std.proofs.Common.{◌≡◌, ℕ, zero, suc, ◌+◌, ◌<◌, List, [], ◌∷◌, ◌++◌, length, get_or, take, Some, refl, ap, ◌∙◌, arith, length-take}
use Rattle.std.proofs.lemmas.List.{take_more}
use Rattle.std.proofs.lemmas.Option.{none-some, some_pair_parts}
use Rattle.std.specs.List.{slice_get}
use Rattle.dxil_form.specs.declared.region.Region.{Region}
use Rattle.dxil_form.specs.declared.region.Region.TheVariants.{Leaf}
use Rattle.region_leaves.specs.Leaves.{placed_from, leaves_of}

placed_append : (i : ℕ) (xs ys : List ℕ) → placed_from i (xs ++ ys) ≡ placed_from i xs ++ placed_from (i + length xs) ys
placed_append i [] ys = let q : i ≡ i + 0 = omega arith in ap (λ (n : ℕ). placed_from n ys) q
placed_append i (x ∷ xs) ys =
    let q : suc i + length xs ≡ i + suc (length xs) = omega arith in
    ap (λ (l : List (ℕ × ℕ)). (x, i) ∷ l) (placed_append (suc i) xs ys ∙ ap (λ (n : ℕ). placed_from (suc i) xs ++ placed_from n ys) q)

pub placed_step : (xs : List ℕ) (i : ℕ) (d : ℕ) → i < length xs → placed_from 0 (take (i + 1) xs) ≡ placed_from 0 (take i xs) ++ (get_or xs i d, i) ∷ []
placed_step xs i d l =
    let n : 0 + length (take i xs) ≡ i = omega (arith, length-take i xs) in
    ap (placed_from 0) (take_more xs i d l) ∙ placed_append 0 (take i xs) (get_or xs i d ∷ [])
    ∙ ap (λ (k : ℕ). placed_from 0 (take i xs) ++ (get_or xs i d, k) ∷ []) n

pub placed_at : (i : ℕ) (bs : List ℕ) (k b r : ℕ) → slice_get (placed_from i bs) k ≡ Some (b, r) → (r ≡ i + k) × (slice_get bs k ≡ Some b)
placed_at i [] k b r h = absurd (none-some (b, r) h)
placed_at i (x ∷ bs) zero b r h = let (q, o) = some_pair_parts x b i r h in (omega arith, ap Some q)
placed_at i (x ∷ bs) (suc k) b r h = let (q, o) = placed_at (suc i) bs k b r h in (omega arith, o)

pub at_placed : (i : ℕ) (bs : List ℕ) (k b : ℕ) → slice_get bs k ≡ Some b → slice_get (placed_from i bs) k ≡ Some (b, i + k)
at_placed i [] k b h = absurd (none-some b h)
at_placed i (x ∷ bs) zero b h = let q : x ≡ b = cc in let o : i ≡ i + 0 = omega arith in ap (λ (y : ℕ). Some (y, i)) q ∙ ap (λ (n : ℕ). Some (b, n)) o
at_placed i (x ∷ bs) (suc k) b h = let o : suc i + k ≡ i + suc k = omega arith in at_placed (suc i) bs k b h ∙ ap (λ (n : ℕ). Some (b, n)) o

pub leaf_at : (bs : List ℕ) (k : ℕ) (region : Region) → slice_get (leaves_of bs) k ≡ Some region → (b : ℕ) × (slice_get bs k ≡ Some b) × (Leaf b ≡ region)
leaf_at [] k region h = absurd (none-some region h)
leaf_at (x ∷ bs) zero region h = (x, refl, cc)
leaf_at (x ∷ bs) (suc k) region h = leaf_at bs k region h

pub at_leaf : (bs : List ℕ) (k b : ℕ) → slice_get bs k ≡ Some b → slice_get (leaves_of bs) k ≡ Some (Leaf b)
at_leaf [] k b h = absurd (none-some b h)
at_leaf (x ∷ bs) zero b h = let q : x ≡ b = cc in ap (λ (y : ℕ). Some (Leaf y)) q
at_leaf (x ∷ bs) (suc k) b h = at_leaf bs k b h

pub leaves_length : (bs : List ℕ) → length (leaves_of bs) ≡ length bs
leaves_length [] = refl
leaves_length (x ∷ bs) = ap suc (leaves_length bs)
