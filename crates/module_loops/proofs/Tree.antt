-- Every region of a wired list stands in its tree, and counts there.
use Rattle.std.proofs.Common.{◌≡◌, inl, inr, ℕ, zero, suc, ◌+◌, ◌-◌, ◌<◌, ◌≤◌, List, [], ◌∷◌, length, Some, refl, ap, arith}
use Rattle.std.proofs.lemmas.Bool.{cases_lt}
use Rattle.std.specs.Prelude.{slice_get, map}
use Rattle.dxil_form.specs.declared.program.Program.{Program}
use Rattle.dxil_form.specs.declared.region.Region.{Region}
use Rattle.dxil_form.specs.declared.region.Region.TheVariants as region
use Rattle.dxil_form.specs.Wired.{parts, IsPart, Wired}
use Rattle.spirv_code.specs.Trees.{Tree, Leaf, No_arm, arms_of, entered_arms, with_arms, node, tree_from, root_of}
use Rattle.frame_facts.proofs.Searches.{get_below, eq_same}
use Rattle.frame_facts.proofs.Counting.{bit, single, times, times_arms}
use Rattle.module_nesting.proofs.Counted.{single_leaf}

-- ---- parts of a region

arms_at : (t : ℕ) (part : ℕ → Tree) (xs : List (ℕ × ℕ)) (i s : ℕ) → slice_get (map (λ arm. arm.1) xs) i ≡ Some s → times t (part s) ≤ times_arms t (arms_of part xs)
arms_at t part [] i s e = absurd (cc)
arms_at t part (x ∷ xs) zero s e =
    let same = ap (λ n. times t (part n)) (inj e) in
    omega (arith, same)
  where
    inj : {a b : ℕ} → Some a ≡ Some b → a ≡ b
    inj e = cc
arms_at t part (x ∷ xs) (suc i) s e =
    let rest = arms_at t part xs i s e in
    omega (arith, rest)

entered_at : (t : ℕ) (part : ℕ → Tree) (xs : List ℕ) (i s : ℕ) → slice_get xs i ≡ Some s → times t (part s) ≤ times_arms t (entered_arms part xs)
entered_at t part [] i s e = absurd (cc)
entered_at t part (x ∷ xs) zero s e =
    let same = ap (λ n. times t (part n)) (inj e) in
    omega (arith, same)
  where
    inj : {a b : ℕ} → Some a ≡ Some b → a ≡ b
    inj e = cc
entered_at t part (x ∷ xs) (suc i) s e =
    let rest = entered_at t part xs i s e in
    omega (arith, rest)

module _ (p : Program) (list : List Region) (w : Wired p list) where
  part_in : (t n r i s : ℕ) (x : Region) → r < suc n → slice_get list r ≡ Some x → slice_get (parts x) i ≡ Some s → times t (tree_from n list s) ≤ times t (node (tree_from n list) r (Some x))
  part_in t n r i s (region.Leaf b) low e at = absurd (cc)
  part_in t n r zero s (region.Then first second target) low e at =
      let same = ap (λ k. times t (tree_from n list k)) (inj at) in
      omega (arith, same)
    where
      inj : {a b : ℕ} → Some a ≡ Some b → a ≡ b
      inj e = cc
  part_in t n r (suc zero) s (region.Then first second target) low e at =
      let same = ap (λ k. times t (tree_from n list k)) (inj at) in
      omega (arith, same)
    where
      inj : {a b : ℕ} → Some a ≡ Some b → a ≡ b
      inj e = cc
  part_in t n r (suc (suc i)) s (region.Then first second target) low e at = absurd (cc)
  part_in t n r zero s (region.Loop body head) low e at =
      let same = ap (λ k. times t (tree_from n list k)) (inj at) in
      omega (arith, same)
    where
      inj : {a b : ℕ} → Some a ≡ Some b → a ≡ b
      inj e = cc
  part_in t n r (suc i) s (region.Loop body head) low e at = absurd (cc)
  part_in t n r i s (region.Dispatch xs) low e at =
      let rest = entered_at t (tree_from n list) xs i s at in
      omega (arith, rest)
  part_in t n r i s (region.Arms first xs) low e at =
      let source = w.source r first xs e in
      let less = w.later r 0 first (record { region = region.Arms first xs; stands = e; part = refl }) in
      let one = single_leaf p list w n first source.0 (omega (arith, low, less)) source.1 in
      let whole = ap (λ l. times t (with_arms l (arms_of (tree_from n list) xs))) one in
      by_place source.0 i at (ap (times t) one) whole
    where
      inj : {a b : ℕ} → Some a ≡ Some b → a ≡ b
      inj e = cc

      by_place : (b i : ℕ) → slice_get (first ∷ map (λ arm. arm.1) xs) i ≡ Some s → times t (tree_from n list first) ≡ times t (Leaf first b No_arm) → times t (with_arms (tree_from n list first) (arms_of (tree_from n list) xs)) ≡ times t (with_arms (Leaf first b No_arm) (arms_of (tree_from n list) xs)) → times t (tree_from n list s) ≤ times t (with_arms (tree_from n list first) (arms_of (tree_from n list) xs))
      by_place b zero at leaf whole =
          let same = ap (λ k. times t (tree_from n list k)) (inj at) in
          omega (arith, same, leaf, whole)
      by_place b (suc i) at leaf whole =
          let rest = arms_at t (tree_from n list) xs i s at in
          omega (arith, rest, whole)

  -- all of the region's tree is in the whole one
  record Covered (r : ℕ) : Type 0 where
    size : ℕ
    enough : r < size
    inside : (t : ℕ) → times t (tree_from size list r) ≤ times t (root_of list)

  part_covered : (r i s : ℕ) → IsPart list r i s → Covered r → Covered s
  part_covered r i s q c = by_size c.size c.enough c.inside
    where
      by_size : (n : ℕ) → r < n → ((t : ℕ) → times t (tree_from n list r) ≤ times t (root_of list)) → Covered s
      by_size zero low h = absurd (omega (arith, low))
      by_size (suc n) low h =
          let less = w.later r i s q in
          record {
            size = n;
            enough = omega (arith, less, low);
            inside = λ t. (let inner = part_in t n r i s q.region low q.stands q.part in
                let all = h t in
                let same = ap (λ o. times t (node (tree_from n list) r o)) q.stands in
                omega (arith, inner, all, same));
          }

  root_covered : (s : ℕ) → s ≡ w.root → Covered s
  root_covered s e =
      let last = w.last in
      let same : length list - 1 ≡ s = omega (arith, last, e) in
      record {
        size = suc (length list - 1);
        enough = omega (arith, same);
        inside = λ t. (let at = ap (λ k. times t (tree_from (suc (length list - 1)) list k)) same in omega (arith, at));
      }

  part_low : (r i s : ℕ) → IsPart list r i s → r ≤ w.root
  part_low r i s q =
      let here = get_below list r q.region q.stands in
      let last = w.last in
      omega (arith, here, last)

  all_covered : (d s : ℕ) → s ≤ w.root → w.root ≤ s + d → Covered s
  all_covered zero s low high = root_covered s (omega (arith, low, high))
  all_covered (suc d) s low high = elim (cases_lt s w.root) [
    | inr ge ↦ root_covered s (omega (arith, low, ge))
    | inl less ↦ (let named = w.named s less in let up = w.later named.0 named.1 s named.2 in let most = part_low named.0 named.1 s named.2 in
        part_covered named.0 named.1 s named.2 (all_covered d named.0 most (omega (arith, up, high))))
  ]

  -- a region with a place of its own stands in the tree
  abbrev pub HasPlace : Region → Type 0
  HasPlace (region.Leaf b) = Unit {0}
  HasPlace (region.Then first second target) = Unit {0}
  HasPlace (region.Loop body head) = Unit {0}
  HasPlace (region.Dispatch arms) = Unit {0}
  HasPlace (region.Arms first arms) = ⊥

  pub stands : (s : ℕ) (x : Region) → slice_get list s ≡ Some x → HasPlace x → 1 ≤ times s (root_of list)
  stands s x e h =
      let here = get_below list s x e in
      let last = w.last in
      let c = all_covered w.root s (omega (arith, here, last)) (omega arith) in
      by_size c.size c.enough (c.inside s)
    where
      by_size : (n : ℕ) → s < n → times s (tree_from n list s) ≤ times s (root_of list) → 1 ≤ times s (root_of list)
      by_size zero low le = absurd (omega (arith, low))
      by_size (suc n) low le =
          let same = ap (λ o. times s (node (tree_from n list) s o)) e in
          let own = by_region x h in
          omega (arith, le, same, own)
        where
          one : single s s ≡ 1
          one = ap bit (eq_same s)

          by_region : (x : Region) → HasPlace x → 1 ≤ times s (node (tree_from n list) s (Some x))
          by_region (region.Leaf b) h = omega (arith, one)
          by_region (region.Then first second target) h = omega (arith, one)
          by_region (region.Loop body head) h = omega (arith, one)
          by_region (region.Dispatch arms) h = omega (arith, one)
          by_region (region.Arms first arms) h = absurd h
