-- The tree of wired regions: it has each of them once at most.
use Rattle.std.proofs.Common.{◌≡◌, ◌⊎◌, inl, inr, ⊎_elim, ℕ, zero, suc, ◌+◌, ◌-◌, ◌<◌, ◌≤◌, Bool, true, false, List, [], ◌∷◌, map, length, Some, refl, sym, ap, ◌∙◌, subst, arith}
use Rattle.std.specs.Prelude.{slice_get, nat_eq}
use Rattle.dxil_form.specs.declared.program.Program.{Program}
use Rattle.dxil_form.specs.declared.region.Region.{Region}
use Rattle.dxil_form.specs.declared.region.Region.TheVariants as region
use Rattle.dxil_form.specs.Wired.{parts, IsPart, Wired}
use Rattle.spirv_code.specs.Trees.{Tree, Leaf, No_arm, arms_of, entered_arms, with_arms, node, tree_from, root_of}
use Rattle.frame_facts.specs.Inner.{Owns, OwnsArms}
use Rattle.frame_facts.proofs.Searches.{eq_told, get_below}
use Rattle.frame_facts.proofs.Counting.{bit, single, times, times_arms}

get_some : {A : Type 0} (xs : List A) (k : ℕ) → k < length xs → (x : A) × (slice_get xs k ≡ Some x)
get_some [] k h = absurd (omega (arith, h))
get_some (x ∷ xs) zero h = (x, refl)
get_some (x ∷ xs) (suc k) h = get_some xs k (omega (arith, h))

-- region x is a part of a, or a part of a part, or a itself
pub data Below (list : List Region) (x : ℕ) : ℕ → Type 0 where
  itself : Below list x x
  in_part : {y a : ℕ} (i : ℕ) → Below list x y → IsPart list a i y → Below list x a

module _ (p : Program) (list : List Region) (w : Wired p list) where
  rising : (x : ℕ) {a : ℕ} → Below list x a → x ≤ a
  rising x itself = omega arith
  rising x {a} (in_part {y = y} i b q) =
      let more = rising x b in
      let less = w.later a i y q in
      omega (arith, more, less)

  -- a part has one region over it
  over_part : (y a i : ℕ) {c : ℕ} → IsPart list a i y → Below list y c → (y ≡ c) ⊎ Below list a c
  over_part y a i q itself = inl refl
  over_part y a i {c} q (in_part {y = z} j b r) = by_rest (over_part y a i q b)
    where
      by_rest : (y ≡ z) ⊎ Below list a z → (y ≡ c) ⊎ Below list a c
      by_rest (inl same) =
          let one = w.once a c i j y q (subst (λ n. IsPart list c j n) (sym same) r) in
          inr (subst (λ n. Below list a n) one.0 itself)
      by_rest (inr more) = inr (in_part j more r)

  -- of two regions over x, one is over the other
  in_line : (x : ℕ) {a c : ℕ} → Below list x a → Below list x c → Below list a c ⊎ Below list c a
  in_line x itself other = inl other
  in_line x {a} {c} (in_part {y = y} i b q) other = by_rest (in_line x b other)
    where
      by_rest : Below list y c ⊎ Below list c y → Below list a c ⊎ Below list c a
      by_rest (inl up) =
          ⊎_elim (λ same. inr (subst (λ n. Below list n a) same (in_part i itself q))) (λ more. inl more) (over_part y a i q up)
      by_rest (inr down) = inr (in_part i down q)

  under : (r i j s t : ℕ) → IsPart list r i s → IsPart list r j t → (i ≡ j → ⊥) → Below list s t → ⊥
  under r i j s t one two differ b =
      ⊎_elim (λ same. differ (w.once r r i j t (subst (IsPart list r i) same one) two).1) (λ more. let low = w.later r j t two in let high = rising r more in omega (arith, low, high)) (over_part s r i one b)

  -- two parts of one region have nothing below both
  parts_apart : (r i j s t x : ℕ) → IsPart list r i s → IsPart list r j t → (i ≡ j → ⊥) → Below list x s → Below list x t → ⊥
  parts_apart r i j s t x one two differ a b =
      ⊎_elim (λ c. under r i j s t one two differ c) (λ c. under r j i t s two one (λ e. differ (sym e)) c) (in_line x a b)

  -- ---- how often a region stands in the tree of another

  abbrev sum : (ℕ → ℕ) → List ℕ → ℕ
  sum f [] = 0
  sum f (x ∷ xs) = f x + sum f xs

  sum_none : (f : ℕ → ℕ) (xs : List ℕ) → ((i s : ℕ) → slice_get xs i ≡ Some s → 1 ≤ f s → ⊥) → sum f xs ≡ 0
  sum_none f [] h = refl
  sum_none f (x ∷ xs) h =
      let rest = sum_none f xs (λ i s e. h (suc i) s e) in
      let first : f x ≡ 0 = none_at (f x) (λ le. h 0 x refl le) in
      let e : f x + sum f xs ≡ 0 = omega (arith, rest, first) in
      e
    where
      none_at : (n : ℕ) → (1 ≤ n → ⊥) → n ≡ 0
      none_at zero h = refl
      none_at (suc n) h = absurd (h (omega arith))

  sum_few : (f : ℕ → ℕ) (xs : List ℕ) → ((i s : ℕ) → slice_get xs i ≡ Some s → f s ≤ 1) → ((i j s t : ℕ) → (i ≡ j → ⊥) → slice_get xs i ≡ Some s → slice_get xs j ≡ Some t → 1 ≤ f s → 1 ≤ f t → ⊥) → sum f xs ≤ 1
  sum_few f [] each apart = omega arith
  sum_few f (x ∷ xs) each apart =
      by_first (sum_few f xs (λ i s e. each (suc i) s e) (λ i j s t differ es et. apart (suc i) (suc j) s t (λ e. differ (omega (arith, e))) es et)) (f x) refl
    where
      by_first : sum f xs ≤ 1 → (n : ℕ) → f x ≡ n → n + sum f xs ≤ 1
      by_first rest zero e = omega (arith, rest)
      by_first rest (suc n) e =
          let le : 1 ≤ f x = omega (arith, e) in
          let none = sum_none f xs (λ i s es le'. apart 0 (suc i) x s (λ e. absurd (omega (arith, e))) refl es le le') in
          let one = each 0 x refl in
          omega (arith, none, one, e)

  sum_some : (f : ℕ → ℕ) (xs : List ℕ) → 1 ≤ sum f xs → (i : ℕ) × (s : ℕ) × (slice_get xs i ≡ Some s) × (1 ≤ f s)
  sum_some f [] h = absurd (omega (arith, h))
  sum_some f (x ∷ xs) h = by_first (f x) refl (sum_some f xs)
    where
      by_first : (n : ℕ) → f x ≡ n → (1 ≤ sum f xs → (i : ℕ) × (s : ℕ) × (slice_get xs i ≡ Some s) × (1 ≤ f s)) → (i : ℕ) × (s : ℕ) × (slice_get (x ∷ xs) i ≡ Some s) × (1 ≤ f s)
      by_first zero e ih =
          let rest = ih (omega (arith, h, e)) in
          (suc rest.0, rest.1, rest.2, rest.3)
      by_first (suc n) e ih =
          let le : 1 ≤ f x = omega (arith, e) in
          (0, x, refl, le)

  -- a leaf with arms has the place of its leaf, so the region of arms has none of its own
  abbrev own : (r0 r : ℕ) → Region → ℕ
  own r0 r (region.Leaf b) = single r r0
  own r0 r (region.Then first second target) = single r r0
  own r0 r (region.Loop body head) = single r r0
  own r0 r (region.Dispatch arms) = single r r0
  own r0 r (region.Arms first arms) = 0

  arms_times : (r0 : ℕ) (part : ℕ → Tree) (arms : List (ℕ × ℕ)) → times_arms r0 (arms_of part arms) ≡ sum (λ s. times r0 (part s)) (map (λ arm. arm.1) arms)
  arms_times r0 part [] = refl
  arms_times r0 part (arm ∷ arms) = ap (λ n. times r0 (part arm.1) + n) (arms_times r0 part arms)

  entered_times : (r0 : ℕ) (part : ℕ → Tree) (arms : List ℕ) → times_arms r0 (entered_arms part arms) ≡ sum (λ s. times r0 (part s)) arms
  entered_times r0 part [] = refl
  entered_times r0 part (a ∷ arms) = ap (λ n. times r0 (part a) + n) (entered_times r0 part arms)

  -- the first part of arms is a leaf alone
  first_leaf : (r first : ℕ) (arms : List (ℕ × ℕ)) → slice_get list r ≡ Some (region.Arms first arms) → (b : ℕ) × (slice_get list first ≡ Some (region.Leaf b))
  first_leaf r first arms e =
      let x = w.source r first arms e in
      (x.0, x.1)

  first_low : (r first : ℕ) (arms : List (ℕ × ℕ)) → slice_get list r ≡ Some (region.Arms first arms) → first < r
  first_low r first arms e = w.later r 0 first (record { region = region.Arms first arms; stands = e; part = refl })

  leaf_tree : (n first b : ℕ) → first < n → slice_get list first ≡ Some (region.Leaf b) → tree_from n list first ≡ Leaf first b No_arm
  leaf_tree zero first b h e = absurd (omega (arith, h))
  leaf_tree (suc n) first b h e = ap (node (tree_from n list) first) e

  node_times : (r0 n r : ℕ) (x : Region) → r < suc n → slice_get list r ≡ Some x → times r0 (tree_from (suc n) list r) ≡ own r0 r x + sum (λ s. times r0 (tree_from n list s)) (parts x)
  node_times r0 n r x low e = ap (λ o. times r0 (node (tree_from n list) r o)) e ∙ by_region x e
    where
      part : ℕ → Tree
      part = tree_from n list

      by_region : (x : Region) → slice_get list r ≡ Some x → times r0 (node part r (Some x)) ≡ own r0 r x + sum (λ s. times r0 (part s)) (parts x)
      by_region (region.Leaf b) e = refl
      by_region (region.Then first second target) e =
          let same : single r r0 + times r0 (part first) + times r0 (part second) ≡ single r r0 + (times r0 (part first) + (times r0 (part second) + 0)) = omega arith in
          same
      by_region (region.Loop body head) e =
          let same : single r r0 + times r0 (part body) ≡ single r r0 + (times r0 (part body) + 0) = omega arith in
          same
      by_region (region.Dispatch arms) e = ap (λ n. single r r0 + n) (entered_times r0 part arms)
      by_region (region.Arms first arms) e =
          let leaf = first_leaf r first arms e in
          let below = first_low r first arms e in
          let is = leaf_tree n first leaf.0 (omega (arith, below, low)) leaf.1 in
          let left : times r0 (with_arms (part first) (arms_of part arms)) ≡ single first r0 + times_arms r0 (arms_of part arms) = ap (λ t. times r0 (with_arms t (arms_of part arms))) is in
          let right : times r0 (part first) ≡ single first r0 + 0 = ap (times r0) is in
          let rest = arms_times r0 part arms in
          let whole : times r0 (with_arms (part first) (arms_of part arms)) ≡ 0 + (times r0 (part first) + sum (λ s. times r0 (part s)) (map (λ arm. arm.1) arms)) = omega (arith, left, right, rest) in
          whole

  part_of : (r i s : ℕ) (x : Region) → slice_get list r ≡ Some x → slice_get (parts x) i ≡ Some s → IsPart list r i s
  part_of r i s x e at = record { region = x; stands = e; part = at }

  own_is : (r0 r : ℕ) (x : Region) → 1 ≤ own r0 r x → r ≡ r0
  own_is r0 r x h = eq_told r r0 (by_region x h)
    where
      by_test : (b : Bool) → 1 ≤ bit b → b ≡ true
      by_test true h = refl
      by_test false h = absurd (omega (arith, h))

      by_region : (x : Region) → 1 ≤ own r0 r x → nat_eq r r0 ≡ true
      by_region (region.Leaf b) h = by_test (nat_eq r r0) h
      by_region (region.Then first second target) h = by_test (nat_eq r r0) h
      by_region (region.Loop body head) h = by_test (nat_eq r r0) h
      by_region (region.Dispatch arms) h = by_test (nat_eq r r0) h
      by_region (region.Arms first arms) h = absurd (omega (arith, h))

  own_few : (r0 r : ℕ) (x : Region) → own r0 r x ≤ 1
  own_few r0 r x = by_region x
    where
      by_test : (b : Bool) → bit b ≤ 1
      by_test true = omega arith
      by_test false = omega arith

      by_region : (x : Region) → own r0 r x ≤ 1
      by_region (region.Leaf b) = by_test (nat_eq r r0)
      by_region (region.Then first second target) = by_test (nat_eq r r0)
      by_region (region.Loop body head) = by_test (nat_eq r r0)
      by_region (region.Dispatch arms) = by_test (nat_eq r r0)
      by_region (region.Arms first arms) = omega arith

  part_below : (r i s : ℕ) (x : Region) → slice_get list r ≡ Some x → slice_get (parts x) i ≡ Some s → (s < r) × ((y : Region) × (slice_get list s ≡ Some y))
  part_below r i s x e at =
      let low = w.later r i s (part_of r i s x e at) in
      let here = get_below list r x e in
      let below : s < length list = omega (arith, low, here) in
      (low, get_some list s below)

  pub times_below : (r0 n r : ℕ) (x : Region) → r < n → slice_get list r ≡ Some x → 1 ≤ times r0 (tree_from n list r) → Below list r0 r
  times_below r0 zero r x low e h = absurd (omega (arith, low))
  times_below r0 (suc n) r x low e h =
      by_own (λ s y less at le. times_below r0 n s y less at le) (own r0 r x) refl
    where
      by_own : ((s : ℕ) (y : Region) → s < n → slice_get list s ≡ Some y → 1 ≤ times r0 (tree_from n list s) → Below list r0 s) → (k : ℕ) → own r0 r x ≡ k → Below list r0 r
      by_own again (suc k) is = subst (λ m. Below list m r) (own_is r0 r x (omega (arith, is))) itself
      by_own again zero is =
          let sums = node_times r0 n r x low e in
          let some = sum_some (λ s. times r0 (tree_from n list s)) (parts x) (omega (arith, sums, is, h)) in
          let below = part_below r some.0 some.1 x e some.2 in
          in_part some.0 (again some.1 below.1.0 (omega (arith, below.0, low)) below.1.1 some.3) (part_of r some.0 some.1 x e some.2)

  pub times_few : (r0 n r : ℕ) (x : Region) → r < n → slice_get list r ≡ Some x → times r0 (tree_from n list r) ≤ 1
  times_few r0 zero r x low e = absurd (omega (arith, low))
  times_few r0 (suc n) r x low e =
      let each : (i s : ℕ) → slice_get (parts x) i ≡ Some s → times r0 (tree_from n list s) ≤ 1 = λ i s at. let below = part_below r i s x e at in times_few r0 n s below.1.0 (omega (arith, below.0, low)) below.1.1 in
      let sums = node_times r0 n r x low e in
      let few = sum_few (λ s. times r0 (tree_from n list s)) (parts x) each apart in
      by_own (own r0 r x) refl sums few
    where
      over : (i s : ℕ) → slice_get (parts x) i ≡ Some s → 1 ≤ times r0 (tree_from n list s) → Below list r0 s
      over i s at h =
          let below = part_below r i s x e at in
          times_below r0 n s below.1.0 (omega (arith, below.0, low)) below.1.1 h

      apart : (i j s t : ℕ) → (i ≡ j → ⊥) → slice_get (parts x) i ≡ Some s → slice_get (parts x) j ≡ Some t → 1 ≤ times r0 (tree_from n list s) → 1 ≤ times r0 (tree_from n list t) → ⊥
      apart i j s t differ at_i at_j hs ht =
          parts_apart r i j s t r0 (part_of r i s x e at_i) (part_of r j t x e at_j) differ (over i s at_i hs) (over j t at_j ht)

      no_part : r ≡ r0 → (i s : ℕ) → slice_get (parts x) i ≡ Some s → 1 ≤ times r0 (tree_from n list s) → ⊥
      no_part is i s at h =
          let below = part_below r i s x e at in
          let high = rising r0 (over i s at h) in
          omega (arith, is, below.0, high)

      by_own : (k : ℕ) → own r0 r x ≡ k → times r0 (tree_from (suc n) list r) ≡ own r0 r x + sum (λ s. times r0 (tree_from n list s)) (parts x) → sum (λ s. times r0 (tree_from n list s)) (parts x) ≤ 1 → times r0 (tree_from (suc n) list r) ≤ 1
      by_own zero is sums few = omega (arith, is, sums, few)
      by_own (suc k) is sums few =
          let same = own_is r0 r x (omega (arith, is)) in
          let none = sum_none (λ s. times r0 (tree_from n list s)) (parts x) (no_part same) in
          let one = own_few r0 r x in
          omega (arith, sums, none, one)

  -- ---- all regions of the tree stand in the list

  abbrev Mine : ℕ → Type 0
  Mine r = r < length list

  arms_owned : (part : ℕ → Tree) (arms : List (ℕ × ℕ)) → ((i s : ℕ) → slice_get (map (λ arm. arm.1) arms) i ≡ Some s → Owns Mine (part s)) → OwnsArms Mine (arms_of part arms)
  arms_owned part [] h = tt
  arms_owned part (arm ∷ arms) h = (h 0 arm.1 refl, arms_owned part arms (λ i s e. h (suc i) s e))

  entered_owned : (part : ℕ → Tree) (arms : List ℕ) → ((i s : ℕ) → slice_get arms i ≡ Some s → Owns Mine (part s)) → OwnsArms Mine (entered_arms part arms)
  entered_owned part [] h = tt
  entered_owned part (a ∷ arms) h = (h 0 a refl, entered_owned part arms (λ i s e. h (suc i) s e))

  pub tree_owned : (n r : ℕ) (x : Region) → r < n → slice_get list r ≡ Some x → Owns Mine (tree_from n list r)
  tree_owned zero r x low e = absurd (omega (arith, low))
  tree_owned (suc n) r x low e =
      subst (λ o. Owns Mine (node (tree_from n list) r o)) (sym e) (by_region x e (λ i s at. let below = part_below r i s x e at in tree_owned n s below.1.0 (omega (arith, below.0, low)) below.1.1))
    where
      part : ℕ → Tree
      part = tree_from n list

      low_r : r < length list
      low_r = get_below list r x e

      by_region : (x : Region) → slice_get list r ≡ Some x → ((i s : ℕ) → slice_get (parts x) i ≡ Some s → Owns Mine (part s)) → Owns Mine (node part r (Some x))
      by_region (region.Leaf b) e h = (low_r, tt)
      by_region (region.Then first second target) e h = (low_r, h 0 first refl, h 1 second refl)
      by_region (region.Loop body head) e h = (low_r, h 0 body refl)
      by_region (region.Dispatch arms) e h = (low_r, entered_owned part arms h)
      by_region (region.Arms first arms) e h =
          let leaf = first_leaf r first arms e in
          let below = first_low r first arms e in
          let is = leaf_tree n first leaf.0 (omega (arith, below, low)) leaf.1 in
          let here : first < length list = omega (arith, below, low_r) in
          subst (λ t. Owns Mine (with_arms t (arms_of part arms))) (sym is) (here, arms_owned part arms (λ i s at. h (suc i) s at))

  pub root_owned : Owns Mine (root_of list)
  root_owned =
      let below : length list - 1 < length list = omega (arith, w.last) in
      let x = get_some list (length list - 1) below in
      tree_owned (suc (length list - 1)) (length list - 1) x.0 (omega arith) x.1

  pub root_once : (r0 : ℕ) → times r0 (root_of list) ≤ 1
  root_once r0 =
      let below : length list - 1 < length list = omega (arith, w.last) in
      let x = get_some list (length list - 1) below in
      times_few r0 (suc (length list - 1)) (length list - 1) x.0 (omega arith) x.1
