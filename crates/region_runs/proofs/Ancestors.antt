-- Two arms of one region that the same block enters are one.
use Rattle.std.proofs.Common.{◌≡◌, ◌⊎◌, ℕ, zero, suc, ◌≤◌, ◌<◌, refl, sym, subst, arith, inl, inr, ⊎_elim}
use Rattle.dxil_form.specs.declared.region.Region.TheVariants as region
use Rattle.dxil_form.specs.Walks.{EnteredBy}
use Rattle.dxil_form.specs.Walks.EnteredBy.{by_block, by_head, by_first, by_source, by_start}
use Rattle.dxil_form.specs.Wired.{IsPart}
use Rattle.region_runs.proofs.Ways.{Scene}
use Rattle.region_runs.proofs.Entries.{Is, part_below, has_index}

-- x is a part of a, or a part of a part, or a itself
data Below (e : Scene) (x : ℕ) : ℕ → Type 0 where
  itself : Below e x x
  part : {y a : ℕ} (i : ℕ) → Below e x y → IsPart e.list a i y → Below e x a

rising : (e : Scene) (x : ℕ) {a : ℕ} → Below e x a → x ≤ a
rising e x itself = omega arith
rising e x {a} (part {y = y} i b p) =
    let more = rising e x b in
    let less = e.wired.later a i y p in
    omega (arith, more, less)

-- a part has one region over it
over_part : (e : Scene) (y a i : ℕ) {c : ℕ} → IsPart e.list a i y → Below e y c → (y ≡ c) ⊎ Below e a c
over_part e y a i p itself = inl refl
over_part e y a i {c} p (part {y = z} j b q) = by_rest (over_part e y a i p b)
  where
    by_rest : (y ≡ z) ⊎ Below e a z → (y ≡ c) ⊎ Below e a c
    by_rest (inl same) =
        let one = e.wired.once a c i j y p (subst (λ n. IsPart e.list c j n) (sym same) q) in
        inr (subst (λ n. Below e a n) one.0 itself)
    by_rest (inr more) = inr (part j more q)

-- of two regions over x, one is over the other
in_line : (e : Scene) (x : ℕ) {a c : ℕ} → Below e x a → Below e x c → Below e a c ⊎ Below e c a
in_line e x itself other = inl other
in_line e x {a} {c} (part {y = y} i b p) other = by_rest (in_line e x b other)
  where
    by_rest : Below e y c ⊎ Below e c y → Below e a c ⊎ Below e c a
    by_rest (inl up) =
        ⊎_elim (λ same. inr (subst (λ n. Below e n a) same (part i itself p))) (λ more. inl more) (over_part e y a i p up)
    by_rest (inr down) = inr (part i down p)

-- ---- the leaf of the block that enters a region is below it

join : (e : Scene) (x y : ℕ) {z : ℕ} → Below e x y → Below e y z → Below e x z
join e x y below itself = below
join e x y below (part i b p) = part i (join e x y below b) p

leaf_below : (e : Scene) (n a k leaf : ℕ) → a < n → Is e leaf (region.Leaf k) → EnteredBy e.list a k → Below e leaf a
leaf_below e zero a k leaf less is entered = absurd (omega (arith, less))
leaf_below e (suc n) a k leaf less is (by_block at) =
    subst (λ x. Below e leaf x) (e.wired.leaf_once leaf a k is at) itself
leaf_below e (suc n) a k leaf less is (by_head {body = body} at) =
    let under = part_below e a 0 body (region.Loop body k) at refl in
    part 0 (leaf_below e n body k leaf (omega (arith, less, under)) is (e.wired.body a body k at)) (record { region = region.Loop body k; stands = at; part = refl })
leaf_below e (suc n) a k leaf less is (by_first {first = first} {second = second} {target = target} at entered) =
    let under = part_below e a 0 first (region.Then first second target) at refl in
    part 0 (leaf_below e n first k leaf (omega (arith, less, under)) is entered) (record { region = region.Then first second target; stands = at; part = refl })
leaf_below e (suc n) a k leaf less is (by_source {first = first} {arms = arms} at entered) =
    let under = part_below e a 0 first (region.Arms first arms) at refl in
    part 0 (leaf_below e n first k leaf (omega (arith, less, under)) is entered) (record { region = region.Arms first arms; stands = at; part = refl })
leaf_below e (suc n) a k leaf less is (by_start {a = c} {arms = arms} at member entered) =
    let index = has_index arms c member in
    let under = part_below e a index.0 c (region.Dispatch arms) at index.1 in
    part index.0 (leaf_below e n c k leaf (omega (arith, less, under)) is entered) (record { region = region.Dispatch arms; stands = at; part = index.1 })

-- a region that block k enters has the leaf of k in it
entered_leaf : (e : Scene) (n a k : ℕ) → a < n → EnteredBy e.list a k → (leaf : ℕ) × Is e leaf (region.Leaf k)
entered_leaf e zero a k less entered = absurd (omega (arith, less))
entered_leaf e (suc n) a k less (by_block at) = (a, at)
entered_leaf e (suc n) a k less (by_head {body = body} at) =
    let under = part_below e a 0 body (region.Loop body k) at refl in
    entered_leaf e n body k (omega (arith, less, under)) (e.wired.body a body k at)
entered_leaf e (suc n) a k less (by_first {first = first} {second = second} {target = target} at entered) =
    let under = part_below e a 0 first (region.Then first second target) at refl in
    entered_leaf e n first k (omega (arith, less, under)) entered
entered_leaf e (suc n) a k less (by_source {first = first} {arms = arms} at entered) =
    let under = part_below e a 0 first (region.Arms first arms) at refl in
    entered_leaf e n first k (omega (arith, less, under)) entered
entered_leaf e (suc n) a k less (by_start {a = c} {arms = arms} at member entered) =
    let index = has_index arms c member in
    let under = part_below e a index.0 c (region.Dispatch arms) at index.1 in
    entered_leaf e n c k (omega (arith, less, under)) entered

-- a part of a region is over no other part of it
not_over : (e : Scene) (r a i c j : ℕ) → IsPart e.list r i a → IsPart e.list r j c → Below e a c → a ≡ c
not_over e r a i c j p q below = ⊎_elim (λ same. same) (λ more. absurd (too_far more)) (over_part e a r i p below)
  where
    too_far : Below e r c → ⊥
    too_far more =
        let up = rising e r more in
        let under = e.wired.later r j c q in
        omega (arith, up, under)

pub one_part : (e : Scene) (r a i c j k : ℕ) → IsPart e.list r i a → IsPart e.list r j c → EnteredBy e.list a k → EnteredBy e.list c k → a ≡ c
one_part e r a i c j k p q ea ec =
    let leaf = entered_leaf e (suc a) a k (omega arith) ea in
    let under_a = leaf_below e (suc a) a k leaf.0 (omega arith) leaf.1 ea in
    let under_c = leaf_below e (suc c) c k leaf.0 (omega arith) leaf.1 ec in
    ⊎_elim (λ up. not_over e r a i c j p q up) (λ down. sym (not_over e r c j a i q p down)) (in_line e leaf.0 under_a under_c)
