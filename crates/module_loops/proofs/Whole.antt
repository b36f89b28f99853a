-- A module has as many OpLoopMerge as its program's branch graph has heads.
use Rattle.std.proofs.Common.{◌≡◌, inl, inr, ℕ, zero, suc, ◌+◌, ◌<◌, ◌≤◌, Bool, true, false, cond, eqb, ne_eqb, List, [], ◌∷◌, ◌++◌, length, Some, refl, sym, ap, ◌∙◌, subst, arith}
use Rattle.std.proofs.lemmas.List.Sums.{sum_by-cons}
use Rattle.std.proofs.lemmas.Bool.{cases_order}
use Rattle.std.specs.Prelude.{◌||◌, slice_get, map, if◌then◌else◌}
use Rattle.std.specs.List.{sum_by, list_any, AllByRecursion, IsDistinct}
use Rattle.dxil_form.specs.declared.program.Program.{Program}
use Rattle.dxil_form.specs.declared.region.Region.{Region}
use Rattle.dxil_form.specs.declared.region.Region.TheVariants as region
use Rattle.dxil_form.specs.Graphs.{Path, count_below}
use Rattle.dxil_form.specs.Wired.{Wired}
use Rattle.spv_form.specs.declared.module.Inst.{Inst}
use Rattle.spv_form.specs.declared.module.Version.{Version}
use Rattle.program_regions.specs.Chosen.{NoDispatch}
use Rattle.spirv_meaning.specs.Bindings.{Bindings}
use Rattle.spirv_code.specs.Plans.{Plan, context_of}
use Rattle.spirv_code.specs.Trees.{label_at, begins_plainly, root_of}
use Rattle.spirv_code.specs.Rows.{onwards, row_code}
use Rattle.spirv_code.specs.Frame.{closing, module_of}
use Rattle.module_structure.proofs.Function.{label, slots, body, place, front, insts_are}
use Rattle.module_nesting.proofs.Leaves.{blocks_in, found, listed, distinct}
use Rattle.module_counts.specs.Counts.{how_many, switches_at}
use Rattle.module_counts.specs.Laws.{loops_of}
use Rattle.module_counts.proofs.Rows.{repeat, ops, ops_append, tops}
use Rattle.module_counts.proofs.Placed.{value}
use Rattle.module_counts.proofs.Whole.{one_of, quiet_loop, many_is, sum_same, loops_are_regions}
use Rattle.module_loops.specs.Heads.{IsHead}
use Rattle.module_loops.specs.Laws.{LoopsAreAsManyAsHeads}
use Rattle.module_loops.proofs.Lower.{row_high}
use Rattle.module_loops.proofs.Wiring.{root_single}
use Rattle.module_loops.proofs.Sums.{root_worth}

-- ---- the module has all loops of the list

module _ (p : Program) (list : List Region) (at : Bindings) (v : Version) (plan : Plan) (w : Wired p list) (regions : plan.regions ≡ length list) where
  abbrev count : List Inst → ℕ
  count xs = ops (one_of 246) quiet_loop xs

  body_high : (b : Bool) → tops (one_of 246) quiet_loop (context_of p plan) (root_of list) ≤ count (if b then row_code (context_of p plan) (place p list at v plan w regions) (root_of list) else (onwards (label_at (root_of list)) ++ row_code (context_of p plan) (place p list at v plan w regions + length (onwards (label_at (root_of list)))) (root_of list)))
  body_high true = row_high (one_of 246) quiet_loop refl (context_of p plan) (root_of list) (root_single p list plan w) (place p list at v plan w regions)
  body_high false =
      let q = place p list at v plan w regions + length (onwards (label_at (root_of list))) in
      let row = row_high (one_of 246) quiet_loop refl (context_of p plan) (root_of list) (root_single p list plan w) q in
      let both = ops_append (one_of 246) quiet_loop (onwards (label_at (root_of list))) (row_code (context_of p plan) q (root_of list)) in
      omega (arith, row, both)

  insts_high : sum_by (value (one_of 246) quiet_loop p list plan) list ≤ count (module_of p list at v plan).insts
  insts_high =
      let begins = front p list at v plan w regions in
      let variables = slots p list at v plan w regions in
      let inner = body p list at v plan w regions in
      let first : Inst = record { opcode = 248; operands = label p list at v plan w regions ∷ [] } in
      let same = ap count (insts_are p list at v plan w regions) in
      let one = ops_append (one_of 246) quiet_loop begins (first ∷ ((variables ++ inner) ++ closing)) in
      let two = ops_append (one_of 246) quiet_loop (variables ++ inner) closing in
      let three = ops_append (one_of 246) quiet_loop variables inner in
      let row = body_high (begins_plainly (root_of list)) in
      let most = root_worth (one_of 246) quiet_loop p list plan w in
      omega (arith, same, one, two, three, row, most)

  repeat_none : (n : ℕ) → repeat n 0 ≡ 0
  repeat_none zero = refl
  repeat_none (suc n) =
      let rest = repeat_none n in
      omega (arith, rest)

  each : (x : Region) → value (one_of 246) quiet_loop p list plan x ≡ loops_of x
  each (region.Leaf b) = repeat_none (switches_at p b)
  each (region.Then first second target) = refl
  each (region.Loop body head) = refl
  each (region.Dispatch arms) = refl
  each (region.Arms first arms) = refl

  exactly : how_many 246 (module_of p list at v plan).insts ≡ sum_by loops_of list
  exactly =
      let low = insts_high in
      let same = sum_same (value (one_of 246) quiet_loop p list plan) loops_of list each in
      let many = many_is 246 quiet_loop (module_of p list at v plan).insts in
      let most = loops_are_regions p list at v plan w regions in
      omega (arith, low, same, many, most)

-- ---- the heads of loops

-- the loops alone, each as a leaf of its head
abbrev as_leaf : Region → Region
as_leaf (region.Leaf b) = region.Dispatch []
as_leaf (region.Then first second target) = region.Dispatch []
as_leaf (region.Loop body head) = region.Leaf head
as_leaf (region.Dispatch arms) = region.Dispatch []
as_leaf (region.Arms first arms) = region.Dispatch []

abbrev heads_in : List Region → List ℕ
heads_in xs = blocks_in (map as_leaf xs)

heads_count : (xs : List Region) → NoDispatch xs → sum_by loops_of xs ≡ length (heads_in xs)
heads_count [] none = refl
heads_count (x ∷ xs) none =
    by_region x (sum_by-cons loops_of x xs) (heads_count xs (λ r arms e. none (suc r) arms e)) (λ arms same. none 0 arms (ap Some same))
  where
    by_region : (x : Region) → sum_by loops_of (x ∷ xs) ≡ loops_of x + sum_by loops_of xs → sum_by loops_of xs ≡ length (heads_in xs) → ((arms : List ℕ) → x ≡ region.Dispatch arms → ⊥) → sum_by loops_of (x ∷ xs) ≡ length (heads_in (x ∷ xs))
    by_region (region.Leaf b) sum rest never = omega (arith, sum, rest)
    by_region (region.Then first second target) sum rest never = omega (arith, sum, rest)
    by_region (region.Loop body head) sum rest never = omega (arith, sum, rest)
    by_region (region.Dispatch arms) sum rest never = absurd (never arms refl)
    by_region (region.Arms first arms) sum rest never = omega (arith, sum, rest)

as_loop : (x : Region) (b : ℕ) → as_leaf x ≡ region.Leaf b → (body : ℕ) × (x ≡ region.Loop body b)
as_loop (region.Leaf k) b e = absurd (cc)
as_loop (region.Then first second target) b e = absurd (cc)
as_loop (region.Loop body head) b e = (body, ap (region.Loop body) (leaf_of e))
  where
    leaf_of : {m n : ℕ} → region.Leaf m ≡ region.Leaf n → m ≡ n
    leaf_of e = cc
as_loop (region.Dispatch arms) b e = absurd (cc)
as_loop (region.Arms first arms) b e = absurd (cc)

loop_at : (xs : List Region) (r b : ℕ) → slice_get (map as_leaf xs) r ≡ Some (region.Leaf b) → (body : ℕ) × (slice_get xs r ≡ Some (region.Loop body b))
loop_at [] r b e = absurd (cc)
loop_at (x ∷ xs) zero b e =
    let y = as_loop x b (inj e) in
    (y.0, ap Some y.1)
  where
    inj : {A : Type 0} {a b : A} → Some a ≡ Some b → a ≡ b
    inj e = cc
loop_at (x ∷ xs) (suc r) b e = loop_at xs r b e

leaf_at : (xs : List Region) (r body b : ℕ) → slice_get xs r ≡ Some (region.Loop body b) → slice_get (map as_leaf xs) r ≡ Some (region.Leaf b)
leaf_at [] r body b e = absurd (cc)
leaf_at (x ∷ xs) zero body b e = ap (λ y. Some (as_leaf y)) (inj e)
  where
    inj : {A : Type 0} {a b : A} → Some a ≡ Some b → a ≡ b
    inj e = cc
leaf_at (x ∷ xs) (suc r) body b e = leaf_at xs r body b e

-- ---- as many numbers pass as a list has, each once

abbrev bit : Bool → ℕ
bit b = cond b 1 0

count_none : (n : ℕ) → count_below n (λ h. false) ≡ 0
count_none zero = refl
count_none (suc n) =
    let rest = count_none n in
    omega (arith, rest)

count_same : (n : ℕ) (f g : ℕ → Bool) → ((h : ℕ) → f h ≡ g h) → count_below n f ≡ count_below n g
count_same zero f g h = refl
count_same (suc n) f g h =
    let rest = count_same n f g h in
    let one = ap bit (h n) in
    omega (arith, rest, one)

one_before : (n x : ℕ) → n ≤ x → count_below n (λ h. eqb h x) ≡ 0
one_before zero x low = refl
one_before (suc n) x low =
    let rest = one_before n x (omega (arith, low)) in
    let none = ap bit (ne_eqb n x (λ e. omega (arith, e, low))) in
    omega (arith, rest, none)

same_self : (n : ℕ) → eqb n n ≡ true
same_self n = grind arith

one_counts : (n x : ℕ) → x < n → count_below n (λ h. eqb h x) ≡ 1
one_counts zero x low = absurd (omega (arith, low))
one_counts (suc n) x low = elim (cases_order n x) [
  | inl same ↦ (let rest = one_before n x (omega (arith, same)) in let one = ap bit (ap (λ k. eqb k x) same ∙ same_self x) in omega (arith, rest, one))
  | inr o ↦ elim o [
    | inl less ↦ absurd (omega (arith, less, low))
    | inr more ↦ (let rest = one_counts n x more in let none = ap bit (ne_eqb n x (λ e. omega (arith, e, more))) in omega (arith, rest, none))
  ]
]

count_two : (n : ℕ) (f g : ℕ → Bool) → ((h : ℕ) → f h ≡ true → g h ≡ false) → count_below n (λ h. f h || g h) ≡ count_below n f + count_below n g
count_two zero f g apart = refl
count_two (suc n) f g apart =
    let rest = count_two n f g apart in
    let one = at (f n) refl in
    omega (arith, rest, one)
  where
    at : (b : Bool) → f n ≡ b → bit (f n || g n) ≡ bit (f n) + bit (g n)
    at true e = ap (λ b. bit (b || g n)) e ∙ sym (ap (λ b. bit b + bit (g n)) e ∙ ap (λ b. bit true + bit b) (apart n e))
    at false e = ap (λ b. bit (b || g n)) e ∙ (zero_more ∙ sym (ap (λ b. bit b + bit (g n)) e))
      where
        zero_more : bit (g n) ≡ bit false + bit (g n)
        zero_more = omega arith

eqb_same : (n m : ℕ) → eqb n m ≡ true → n ≡ m
eqb_same n m e = grind arith

pub count_listed : (n : ℕ) (xs : List ℕ) → IsDistinct eqb xs → ((q : ℕ) → list_any (eqb q) xs ≡ true → q < n) → count_below n (λ h. list_any (eqb h) xs) ≡ length xs
unfolding IsDistinct
count_listed n [] d low = count_none n
count_listed n (x ∷ xs) d low =
    let rest = count_listed n xs d.1 (λ q e. low q (more q e)) in
    let one = one_counts n x (low x (ap (λ t. t || list_any (eqb x) xs) (same_self x))) in
    let both = count_two n (λ h. eqb h x) (λ h. list_any (eqb h) xs) (λ h e. subst (λ k. list_any (eqb k) xs ≡ false) (sym (eqb_same h x e)) (apart xs d.0)) in
    omega (arith, rest, one, both)
  where
    more : (q : ℕ) → list_any (eqb q) xs ≡ true → list_any (eqb q) (x ∷ xs) ≡ true
    more q e = by_test (eqb q x)
      where
        by_test : (t : Bool) → (t || list_any (eqb q) xs) ≡ true
        by_test true = refl
        by_test false = e

    apart : (zs : List ℕ) → AllByRecursion (λ m. eqb x m ≡ false) zs → list_any (eqb x) zs ≡ false
    apart [] all = refl
    apart (z ∷ zs) all = ap (λ t. t || list_any (eqb x) zs) all.0 ∙ apart zs all.1

-- ---- the law

pub as_many : LoopsAreAsManyAsHeads
as_many p list at v plan blocks g sound h regions graph_is =
    let w = h.wired in
    let nested = h.few blocks graph_is.reachable graph_is.few in
    let heads = nested.loops g graph_is.graph graph_is.uncrossed in
    let exact = exactly p list at v plan w regions in
    let many = heads_count list (nested.no_dispatch g graph_is.graph graph_is.uncrossed) in
    let is_head : (b : ℕ) → list_any (eqb b) (heads_in list) ≡ true → IsHead g b = λ b e. (let r = found (map as_leaf list) b e in let l = loop_at list r.0 b r.1 in let o = heads.heads r.0 l.0 b l.1 in (o.0, o.1)) in
    let once = distinct (map as_leaf list) (λ r s b e f. (let l = loop_at list r b e in let m = loop_at list s b f in heads.once r s l.0 m.0 b l.1 m.1)) in
    let counted = count_listed g.count (heads_in list) once (λ b e. below (is_head b e)) in (
      λ b. list_any (eqb b) (heads_in list),
      λ b. (λ e. is_head b e, λ o. (let l = heads.made b b (o.0, o.1, o.1.enters.0) in listed (map as_leaf list) l.0 b (leaf_at list l.0 l.1 b l.2))),
      exact ∙ (many ∙ sym counted),
    )
  where
    reached : {b : ℕ} (before : List ℕ) → Path g 0 before b → b < length p.blocks
    reached [] path = let begins = sound.begins in omega (arith, begins, path)
    reached {b} (c ∷ before) path = (sound.targets c b ((graph_is.graph.edges c b).0 path.0).1).1

    below : {b : ℕ} → IsHead g b → b < g.count
    below o =
        let low = reached o.1.enters.1.0 o.1.enters.1.1 in
        let count = graph_is.graph.count in
        omega (arith, low, count)
