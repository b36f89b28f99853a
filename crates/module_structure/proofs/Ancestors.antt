-- Two arms of one region that the same block enters are one.
use Rattle.std.proofs.Common.{◌≡◌, ◌⊎◌, ℕ, zero, suc, ◌≤◌, ◌<◌, List, Some, refl, sym, subst, arith, inl, inr, ⊎_elim}
use Rattle.std.specs.Prelude.{slice_get}
use Rattle.dxil_form.specs.declared.program.Program.{Program}
use Rattle.dxil_form.specs.declared.region.Region.{Region}
use Rattle.dxil_form.specs.declared.region.Region.TheVariants as region
use Rattle.dxil_form.specs.Walks.{EnteredBy}
use Rattle.dxil_form.specs.Walks.EnteredBy.{by_block, by_head, by_first, by_source, by_start}
use Rattle.dxil_form.specs.Wired.{parts, IsPart, Wired}
use Rattle.region_runs.proofs.Entries.{has_index}

module _ (p : Program) (list : List Region) (w : Wired p list) where
  part_below : (r i s : ℕ) (x : Region) → slice_get list r ≡ Some x → slice_get (parts x) i ≡ Some s → s < r
  part_below r i s x is at = w.later r i s (record { region = x; stands = is; part = at })

  -- x is a part of a, or a part of a part, or a itself
  data Below (x : ℕ) : ℕ → Type 0 where
    itself : Below x x
    part : {y a : ℕ} (i : ℕ) → Below x y → IsPart list a i y → Below x a

  rising : (x : ℕ) {a : ℕ} → Below x a → x ≤ a
  rising x itself = omega arith
  rising x {a} (part {y = y} i b p) =
      let more = rising x b in
      let less = w.later a i y p in
      omega (arith, more, less)

  -- a part has one region over it
  over_part : (y a i : ℕ) {c : ℕ} → IsPart list a i y → Below y c → (y ≡ c) ⊎ Below a c
  over_part y a i p itself = inl refl
  over_part y a i {c} p (part {y = z} j b q) = by_rest (over_part y a i p b)
    where
      by_rest : (y ≡ z) ⊎ Below a z → (y ≡ c) ⊎ Below a c
      by_rest (inl same) =
          let one = w.once a c i j y p (subst (λ n. IsPart list c j n) (sym same) q) in
          inr (subst (λ n. Below a n) one.0 itself)
      by_rest (inr more) = inr (part j more q)

  -- of two regions over x, one is over the other
  in_line : (x : ℕ) {a c : ℕ} → Below x a → Below x c → Below a c ⊎ Below c a
  in_line x itself other = inl other
  in_line x {a} {c} (part {y = y} i b p) other = by_rest (in_line x b other)
    where
      by_rest : Below y c ⊎ Below c y → Below a c ⊎ Below c a
      by_rest (inl up) =
          ⊎_elim (λ same. inr (subst (λ n. Below n a) same (part i itself p))) (λ more. inl more) (over_part y a i p up)
      by_rest (inr down) = inr (part i down p)

  -- ---- the leaf of the block that enters a region is below it

  join : (x y : ℕ) {z : ℕ} → Below x y → Below y z → Below x z
  join x y below itself = below
  join x y below (part i b p) = part i (join x y below b) p

  leaf_below : (n a k leaf : ℕ) → a < n → slice_get list leaf ≡ Some (region.Leaf k) → EnteredBy list a k → Below leaf a
  leaf_below zero a k leaf less is entered = absurd (omega (arith, less))
  leaf_below (suc n) a k leaf less is (by_block at) =
      subst (λ x. Below leaf x) (w.leaf_once leaf a k is at) itself
  leaf_below (suc n) a k leaf less is (by_head {body = body} at) =
      let under = part_below a 0 body (region.Loop body k) at refl in
      part 0 (leaf_below n body k leaf (omega (arith, less, under)) is (w.body a body k at)) (record { region = region.Loop body k; stands = at; part = refl })
  leaf_below (suc n) a k leaf less is (by_first {first = first} {second = second} {target = target} at entered) =
      let under = part_below a 0 first (region.Then first second target) at refl in
      part 0 (leaf_below n first k leaf (omega (arith, less, under)) is entered) (record { region = region.Then first second target; stands = at; part = refl })
  leaf_below (suc n) a k leaf less is (by_source {first = first} {arms = arms} at entered) =
      let under = part_below a 0 first (region.Arms first arms) at refl in
      part 0 (leaf_below n first k leaf (omega (arith, less, under)) is entered) (record { region = region.Arms first arms; stands = at; part = refl })
  leaf_below (suc n) a k leaf less is (by_start {a = c} {arms = arms} at member entered) =
      let index = has_index arms c member in
      let under = part_below a index.0 c (region.Dispatch arms) at index.1 in
      part index.0 (leaf_below n c k leaf (omega (arith, less, under)) is entered) (record { region = region.Dispatch arms; stands = at; part = index.1 })

  -- a region that block k enters has the leaf of k in it
  entered_leaf : (n a k : ℕ) → a < n → EnteredBy list a k → (leaf : ℕ) × slice_get list leaf ≡ Some (region.Leaf k)
  entered_leaf zero a k less entered = absurd (omega (arith, less))
  entered_leaf (suc n) a k less (by_block at) = (a, at)
  entered_leaf (suc n) a k less (by_head {body = body} at) =
      let under = part_below a 0 body (region.Loop body k) at refl in
      entered_leaf n body k (omega (arith, less, under)) (w.body a body k at)
  entered_leaf (suc n) a k less (by_first {first = first} {second = second} {target = target} at entered) =
      let under = part_below a 0 first (region.Then first second target) at refl in
      entered_leaf n first k (omega (arith, less, under)) entered
  entered_leaf (suc n) a k less (by_source {first = first} {arms = arms} at entered) =
      let under = part_below a 0 first (region.Arms first arms) at refl in
      entered_leaf n first k (omega (arith, less, under)) entered
  entered_leaf (suc n) a k less (by_start {a = c} {arms = arms} at member entered) =
      let index = has_index arms c member in
      let under = part_below a index.0 c (region.Dispatch arms) at index.1 in
      entered_leaf n c k (omega (arith, less, under)) entered

  -- a part of a region is over no other part of it
  not_over : (r a i c j : ℕ) → IsPart list r i a → IsPart list r j c → Below a c → a ≡ c
  not_over r a i c j p q below = ⊎_elim (λ same. same) (λ more. absurd (too_far more)) (over_part a r i p below)
    where
      too_far : Below r c → ⊥
      too_far more =
          let up = rising r more in
          let under = w.later r j c q in
          omega (arith, up, under)

  pub one_part : (r a i c j k : ℕ) → IsPart list r i a → IsPart list r j c → EnteredBy list a k → EnteredBy list c k → a ≡ c
  one_part r a i c j k p q ea ec =
      let leaf = entered_leaf (suc a) a k (omega arith) ea in
      let under_a = leaf_below (suc a) a k leaf.0 (omega arith) leaf.1 ea in
      let under_c = leaf_below (suc c) c k leaf.0 (omega arith) leaf.1 ec in
      ⊎_elim (λ up. not_over r a i c j p q up) (λ down. sym (not_over r c j a i q p down)) (in_line leaf.0 under_a under_c)
