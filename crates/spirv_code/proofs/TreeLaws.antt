-- A part stands at an earlier place than its region, so the tree of a region is made of the trees at the places of its parts.
use Rattle.std.proofs.Common.{◌≡◌, ℕ, zero, suc, ◌<◌, ◌≤◌, List, [], ◌∷◌, map, Option, Some, None, refl, sym, ap, ◌∙◌, arith}
use Rattle.std.specs.Prelude.{slice_get, All}
use Rattle.std.proofs.lemmas.List.Elements.{All-nil, All-cons}
use Rattle.dxil_form.specs.declared.region.Region.{Region}
use Rattle.dxil_form.specs.declared.region.Region.TheVariants as region
use Rattle.dxil_form.specs.Wired.{parts}
use Rattle.spirv_code.specs.Trees.{Tree, Arm, Then, Loop, Dispatch, AreEarlier, entry_of, arms_of, entered_arms, with_arms, node, tree_from, tree_at}

-- two functions give the same trees at the places of a list
abbrev pub Agree : (ℕ → Tree) → (ℕ → Tree) → List ℕ → Type 0
Agree f g places = (i s : ℕ) → slice_get places i ≡ Some s → f s ≡ g s

arms_agree : (f g : ℕ → Tree) (arms : List (ℕ × ℕ)) → Agree f g (map (λ arm. arm.1) arms) → arms_of f arms ≡ arms_of g arms
arms_agree f g [] h = refl
arms_agree f g (arm ∷ arms) h =
    ap (λ t. Arm arm.0 t (arms_of f arms)) (h 0 arm.1 refl) ∙ ap (λ rest. Arm arm.0 (g arm.1) rest) (arms_agree f g arms (λ i s e. h (suc i) s e))

entered_agree : (f g : ℕ → Tree) (arms : List ℕ) → Agree f g arms → entered_arms f arms ≡ entered_arms g arms
entered_agree f g [] h = refl
entered_agree f g (a ∷ arms) h =
    ap (λ t. Arm (entry_of t) t (entered_arms f arms)) (h 0 a refl) ∙ ap (λ rest. Arm (entry_of (g a)) (g a) rest) (entered_agree f g arms (λ i s e. h (suc i) s e))

node_agree : (f g : ℕ → Tree) (r : ℕ) (x : Option Region) → ((y : Region) → x ≡ Some y → Agree f g (parts y)) → node f r x ≡ node g r x
node_agree f g r None h = refl
node_agree f g r (Some (region.Leaf block)) h = refl
node_agree f g r (Some (region.Then first second target)) h =
    ap (λ t. Then r t (f second) target) (h (region.Then first second target) refl 0 first refl) ∙ ap (λ t. Then r (g first) t target) (h (region.Then first second target) refl 1 second refl)
node_agree f g r (Some (region.Loop body head)) h =
    ap (λ t. Loop r t head) (h (region.Loop body head) refl 0 body refl)
node_agree f g r (Some (region.Dispatch arms)) h =
    ap (Dispatch r) (entered_agree f g arms (h (region.Dispatch arms) refl))
node_agree f g r (Some (region.Arms first arms)) h =
    ap (λ t. with_arms t (arms_of f arms)) (h (region.Arms first arms) refl 0 first refl) ∙ ap (with_arms (g first)) (arms_agree f g arms (λ i s e. h (region.Arms first arms) refl (suc i) s e))

module _ (list : List Region) (earlier : AreEarlier list) where
  part_of : (r : ℕ) (f g : ℕ → Tree) → ((s : ℕ) → s < r → f s ≡ g s) → (y : Region) → slice_get list r ≡ Some y → Agree f g (parts y)
  part_of r f g same y stands i s e = same s (earlier r i s (record { region = y; stands = stands; part = e }))

  -- the tree at a place is the same from every number above it
  tree_stays : (n k s : ℕ) → k ≤ n → s < k → tree_from k list s ≡ tree_at list s
  tree_stays zero k s few below = absurd (omega (arith, few, below))
  tree_stays (suc n) zero s few below = absurd (omega (arith, below))
  tree_stays (suc n) (suc k) s few below =
      node_agree (tree_from k list) (tree_from s list) s (slice_get list s) (λ y stands. part_of s (tree_from k list) (tree_from s list) (λ q less. tree_stays n k q (omega (arith, few)) (omega (arith, below, less)) ∙ sym (tree_stays n s q (omega (arith, few, below)) less)) y stands)

  pub tree_is : (n s : ℕ) → s < n → tree_from n list s ≡ tree_at list s
  tree_is n s below = tree_stays n n s (omega arith) below

  -- a region's tree is made of those of its parts
  pub tree_node : (r : ℕ) → tree_at list r ≡ node (tree_at list) r (slice_get list r)
  tree_node r =
      node_agree (tree_from r list) (tree_at list) r (slice_get list r) (λ y stands. part_of r (tree_from r list) (tree_at list) (λ q less. tree_is r q less) y stands)

  -- ---- the places of parts

  part_below : (r i s : ℕ) (y : Region) → slice_get list r ≡ Some y → slice_get (parts y) i ≡ Some s → s < r
  part_below r i s y stands at = earlier r i s (record { region = y; stands = stands; part = at })

  pub first_below : (r first second target : ℕ) → slice_get list r ≡ Some (region.Then first second target) → first < r
  first_below r first second target stands = part_below r 0 first (region.Then first second target) stands refl

  pub second_below : (r first second target : ℕ) → slice_get list r ≡ Some (region.Then first second target) → second < r
  second_below r first second target stands = part_below r 1 second (region.Then first second target) stands refl

  pub body_below : (r body head : ℕ) → slice_get list r ≡ Some (region.Loop body head) → body < r
  body_below r body head stands = part_below r 0 body (region.Loop body head) stands refl

  pub leaf_below : (r first : ℕ) (arms : List (ℕ × ℕ)) → slice_get list r ≡ Some (region.Arms first arms) → first < r
  leaf_below r first arms stands = part_below r 0 first (region.Arms first arms) stands refl

  pub arms_below : (r first : ℕ) (arms : List (ℕ × ℕ)) → slice_get list r ≡ Some (region.Arms first arms) → All (λ arm. arm.1 < r) arms
  arms_below r first arms stands = by_places arms (λ i s at. part_below r (suc i) s (region.Arms first arms) stands at)
    where
      by_places : (xs : List (ℕ × ℕ)) → ((i s : ℕ) → slice_get (map (λ arm. arm.1) xs) i ≡ Some s → s < r) → All (λ arm. arm.1 < r) xs
      by_places [] h = All-nil (λ (arm : ℕ × ℕ). arm.1 < r)
      by_places (x ∷ xs) h = All-cons (λ (arm : ℕ × ℕ). arm.1 < r) x xs (h 0 x.1 refl) (by_places xs (λ i s at. h (suc i) s at))

  pub choices_below : (r : ℕ) (arms : List ℕ) → slice_get list r ≡ Some (region.Dispatch arms) → All (λ a. a < r) arms
  choices_below r arms stands = by_places arms (λ i s at. part_below r i s (region.Dispatch arms) stands at)
    where
      by_places : (xs : List ℕ) → ((i s : ℕ) → slice_get xs i ≡ Some s → s < r) → All (λ a. a < r) xs
      by_places [] h = All-nil (λ (a : ℕ). a < r)
      by_places (x ∷ xs) h = All-cons (λ (a : ℕ). a < r) x xs (h 0 x refl) (by_places xs (λ i s at. h (suc i) s at))
