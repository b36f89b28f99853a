-- How many loops and switches a module has.
use Rattle.std.proofs.Common.{◌≡◌, inl, inr, ℕ, zero, suc, ◌+◌, ◌≤◌, Bool, true, false, not, cond, eqb, List, [], ◌∷◌, ◌++◌, length, Some, refl, sym, ap, ◌∙◌, arith}
use Rattle.std.proofs.lemmas.List.Sums.{sum_by-cons}
use Rattle.row_laws.proofs.Basics.{none, in_cons}
use Rattle.std.specs.Prelude.{◌==◌, ◌&&◌, ◌||◌, Contains, slice_get, if◌then◌else◌}
use Rattle.std.specs.List.{sum_by, list_any, AllByRecursion, IsDistinct}
use Rattle.dxil_form.specs.declared.program.Program.{Program}
use Rattle.dxil_form.specs.declared.region.Region.{Region}
use Rattle.dxil_form.specs.declared.region.Region.TheVariants as region
use Rattle.dxil_form.specs.Wired.{Wired}
use Rattle.spv_form.specs.declared.module.Inst.{Inst}
use Rattle.spv_form.specs.declared.module.Version.{Version}
use Rattle.spirv_meaning.specs.Bindings.{Bindings}
use Rattle.spirv_code.specs.Plans.{Plan, context_of, slots_from, global_id}
use Rattle.spirv_code.specs.Trees.{label_at, begins_plainly, root_of}
use Rattle.spirv_code.specs.Rows.{onwards, row_code}
use Rattle.spirv_code.specs.Frame.{closing, module_of}
use Rattle.module_structure.proofs.Function.{label, slots, body, place, front, front_low, insts_are, slots_low}
use Rattle.module_nesting.proofs.Leaves.{blocks_in, found, distinct}
use Rattle.module_counts.specs.Counts.{how_many, switches_at}
use Rattle.module_counts.specs.Laws.{loops_of, region_switches, LoopsAreRegions, SwitchesAreTerminators, FewSwitches, NoRingNoLoop}
use Rattle.module_counts.proofs.Lines.{is_other, inner_others}
use Rattle.module_counts.proofs.Rows.{repeat, ops, ops_append, others_none, tops, row_ops}
use Rattle.module_counts.proofs.Placed.{value, root_value}

-- ---- an opcode's number

abbrev pub one_of : (opcode n : ℕ) → ℕ
one_of opcode n = cond (n == opcode) 1 0

first_no : (a b : Bool) → (not a && not b) ≡ true → a ≡ false
first_no true b e = absurd (let never : false ≡ true = e in cc)
first_no false b e = refl

second_no : (a b : Bool) → (not a && not b) ≡ true → b ≡ false
second_no true b e = absurd (let never : false ≡ true = e in cc)
second_no false true e = absurd (let never : false ≡ true = e in cc)
second_no false false e = refl

pub quiet_loop : (n : ℕ) → is_other n ≡ true → one_of 246 n ≡ 0
quiet_loop n e = ap (λ b. cond b 1 0) (first_no (n == 246) (n == 251) e)

quiet_switch : (n : ℕ) → is_other n ≡ true → one_of 251 n ≡ 0
quiet_switch n e = ap (λ b. cond b 1 0) (second_no (n == 246) (n == 251) e)

pub many_is : (opcode : ℕ) (quiet : (n : ℕ) → is_other n ≡ true → one_of opcode n ≡ 0) (xs : List Inst) → how_many opcode xs ≡ ops (one_of opcode) quiet xs
many_is opcode quiet [] = refl
many_is opcode quiet (x ∷ xs) =
    let sum = sum_by-cons (λ y. cond (y.opcode == opcode) 1 0) x xs in
    let rest = many_is opcode quiet xs in
    omega (arith, sum, rest)

-- ---- a module

module _ (f : ℕ → ℕ) (quiet : (n : ℕ) → is_other n ≡ true → f n ≡ 0) (p : Program) (list : List Region) (at : Bindings) (v : Version) (plan : Plan) (w : Wired p list) (regions : plan.regions ≡ length list) where
  body_ops : (b : Bool) → ops f quiet (if b then row_code (context_of p plan) (place p list at v plan w regions) (root_of list) else (onwards (label_at (root_of list)) ++ row_code (context_of p plan) (place p list at v plan w regions + length (onwards (label_at (root_of list)))) (root_of list))) ≤ tops f quiet (context_of p plan) (root_of list)
  body_ops true = row_ops f quiet (context_of p plan) (root_of list) (place p list at v plan w regions)
  body_ops false =
      let q = place p list at v plan w regions + length (onwards (label_at (root_of list))) in
      let row = row_ops f quiet (context_of p plan) (root_of list) q in
      let both = ops_append f quiet (onwards (label_at (root_of list))) (row_code (context_of p plan) q (root_of list)) in
      let none = others_none f quiet (onwards (label_at (root_of list))) (refl, (refl, tt)) in
      omega (arith, row, both, none)

  pub insts_ops : ops f quiet (module_of p list at v plan).insts ≤ sum_by (value f quiet p list plan) list
  insts_ops =
      let begins = front p list at v plan w regions in
      let variables = slots p list at v plan w regions in
      let inner = body p list at v plan w regions in
      let same = ap (ops f quiet) (insts_are p list at v plan w regions) in
      let one = ops_append f quiet begins (label_inst ∷ ((variables ++ inner) ++ closing)) in
      let two = ops_append f quiet (variables ++ inner) closing in
      let three = ops_append f quiet variables inner in
      let front_none = others_none f quiet begins (inner_others begins (front_low p list at v plan w regions)) in
      let slots_none = others_none f quiet variables (inner_others variables (slots_low (global_id plan) (slots_from plan) plan.slots)) in
      let label_none = quiet 248 refl in
      let closing_none = others_none f quiet closing (refl, (refl, tt)) in
      let row = body_ops (begins_plainly (root_of list)) in
      let most = root_value f quiet p list plan w in
      omega (arith, same, one, two, three, front_none, slots_none, label_none, closing_none, row, most)
    where
      label_inst : Inst
      label_inst = record { opcode = 248; operands = label p list at v plan w regions ∷ [] }

-- ---- sums over a list

pub sum_same : {A : Type 0} (f g : A → ℕ) (xs : List A) → ((x : A) → f x ≡ g x) → sum_by f xs ≡ sum_by g xs
sum_same f g [] h = refl
sum_same f g (x ∷ xs) h =
    let one = sum_by-cons f x xs in
    let two = sum_by-cons g x xs in
    let rest = sum_same f g xs h in
    let here = h x in
    omega (arith, one, two, rest, here)

sum_none : {A : Type 0} (f : A → ℕ) (xs : List A) → ((i : ℕ) (x : A) → slice_get xs i ≡ Some x → f x ≡ 0) → sum_by f xs ≡ 0
sum_none f [] h = refl
sum_none f (x ∷ xs) h =
    let one = sum_by-cons f x xs in
    let rest = sum_none f xs (λ i y e. h (suc i) y e) in
    let here = h 0 x refl in
    omega (arith, one, rest, here)

-- a list without one of its numbers
abbrev without : ℕ → List ℕ → List ℕ
without k [] = []
without k (x ∷ xs) = if eqb k x then xs else x ∷ without k xs

eqb_same : (n m : ℕ) → eqb n m ≡ true → n ≡ m
eqb_same n m e = grind arith

true_false : true ≡ false → ⊥
true_false e = cc

sum_without : (f : ℕ → ℕ) (k : ℕ) (xs : List ℕ) → list_any (eqb k) xs ≡ true → sum_by f xs ≡ f k + sum_by f (without k xs)
sum_without f k [] e = absurd (true_false (sym e))
sum_without f k (x ∷ xs) e = by_test (eqb k x) refl e (sum_without f k xs)
  where
    by_test : (t : Bool) → eqb k x ≡ t → (t || list_any (eqb k) xs) ≡ true → (list_any (eqb k) xs ≡ true → sum_by f xs ≡ f k + sum_by f (without k xs)) → sum_by f (x ∷ xs) ≡ f k + sum_by f (if t then xs else x ∷ without k xs)
    by_test true same e rest =
        let one = sum_by-cons f x xs in
        let is = ap f (eqb_same k x same) in
        omega (arith, one, is)
    by_test false same e rest =
        let one = sum_by-cons f x xs in
        let two = sum_by-cons f x (without k xs) in
        let there = rest e in
        omega (arith, one, two, there)

in_without : (k q : ℕ) (xs : List ℕ) → eqb k q ≡ false → list_any (eqb q) xs ≡ true → list_any (eqb q) (without k xs) ≡ true
in_without k q [] other e = e
in_without k q (x ∷ xs) other e = by_test (eqb k x) refl (eqb q x) refl e (in_without k q xs other)
  where
    by_test : (t : Bool) → eqb k x ≡ t → (u : Bool) → eqb q x ≡ u → (u || list_any (eqb q) xs) ≡ true → (list_any (eqb q) xs ≡ true → list_any (eqb q) (without k xs) ≡ true) → list_any (eqb q) (if t then xs else x ∷ without k xs) ≡ true
    by_test true same true is e rest =
        absurd (true_false (sym (ap (eqb k) (eqb_same q x is ∙ sym (eqb_same k x same)) ∙ same_self k) ∙ other))
      where
        same_self : (n : ℕ) → eqb n n ≡ true
        same_self n = grind arith
    by_test true same false is e rest = e
    by_test false same true is e rest = ap (λ t. t || list_any (eqb q) (without k xs)) is
    by_test false same false is e rest = ap (λ t. t || list_any (eqb q) (without k xs)) is ∙ rest e

-- distinct numbers that a list has
sum_part : (f : ℕ → ℕ) (xs ys : List ℕ) → IsDistinct eqb xs → ((q : ℕ) → list_any (eqb q) xs ≡ true → list_any (eqb q) ys ≡ true) → sum_by f xs ≤ sum_by f ys
unfolding IsDistinct
sum_part f [] ys d h = omega arith
sum_part f (x ∷ xs) ys d h =
    let there = h x (ap (λ t. t || list_any (eqb x) xs) (same_self x)) in
    let one = sum_by-cons f x xs in
    let parts = sum_without f x ys there in
    let rest = sum_part f xs (without x ys) d.1 (λ q m. in_without x q ys (apart xs d.0 q m) (h q (any_more q m))) in
    omega (arith, one, parts, rest)
  where
    same_self : (n : ℕ) → eqb n n ≡ true
    same_self n = grind arith

    any_more : (q : ℕ) → list_any (eqb q) xs ≡ true → list_any (eqb q) (x ∷ xs) ≡ true
    any_more q m = by_test (eqb q x)
      where
        by_test : (t : Bool) → (t || list_any (eqb q) xs) ≡ true
        by_test true = refl
        by_test false = m

    apart : (zs : List ℕ) → AllByRecursion (λ m. eqb x m ≡ false) zs → (q : ℕ) → list_any (eqb q) zs ≡ true → eqb x q ≡ false
    apart [] all q m = absurd (true_false (sym m))
    apart (z ∷ zs) all q m = by_test (eqb q z) refl m (apart zs all.1 q)
      where
        by_test : (t : Bool) → eqb q z ≡ t → (t || list_any (eqb q) zs) ≡ true → (list_any (eqb q) zs ≡ true → eqb x q ≡ false) → eqb x q ≡ false
        by_test true is m rest = ap (eqb x) (eqb_same q z is) ∙ all.0
        by_test false is m rest = rest m

-- ---- the laws

repeat_none : (n : ℕ) → repeat n 0 ≡ 0
repeat_none zero = refl
repeat_none (suc n) =
    let rest = repeat_none n in
    omega (arith, rest)

repeat_ones : (n : ℕ) → repeat n 1 ≡ n
repeat_ones zero = refl
repeat_ones (suc n) =
    let rest = repeat_ones n in
    omega (arith, rest)

pub loops_are_regions : LoopsAreRegions
loops_are_regions p list at v plan w regions =
    let most = insts_ops (one_of 246) quiet_loop p list at v plan w regions in
    let same = sum_same (value (one_of 246) quiet_loop p list plan) loops_of list each in
    let many = many_is 246 quiet_loop (module_of p list at v plan).insts in
    omega (arith, most, same, many)
  where
    each : (x : Region) → value (one_of 246) quiet_loop p list plan x ≡ loops_of x
    each (region.Leaf b) = repeat_none (switches_at p b)
    each (region.Then first second target) = refl
    each (region.Loop body head) = refl
    each (region.Dispatch arms) = refl
    each (region.Arms first arms) = refl

pub switches_are_terminators : SwitchesAreTerminators
switches_are_terminators p list at v plan w regions =
    let most = insts_ops (one_of 251) quiet_switch p list at v plan w regions in
    let same = sum_same (value (one_of 251) quiet_switch p list plan) (region_switches p) list each in
    let many = many_is 251 quiet_switch (module_of p list at v plan).insts in
    omega (arith, most, same, many)
  where
    each : (x : Region) → value (one_of 251) quiet_switch p list plan x ≡ region_switches p x
    each (region.Leaf b) = repeat_ones (switches_at p b)
    each (region.Then first second target) = refl
    each (region.Loop body head) = refl
    each (region.Dispatch arms) = refl
    each (region.Arms first arms) = refl

-- without a dispatch the regions have the switches of their leaves
leaf_switches : (p : Program) (xs : List Region) → ((r : ℕ) (arms : List ℕ) → slice_get xs r ≡ Some (region.Dispatch arms) → ⊥) → sum_by (region_switches p) xs ≡ sum_by (switches_at p) (blocks_in xs)
leaf_switches p [] none = refl
leaf_switches p (x ∷ xs) none =
    by_region x (sum_by-cons (region_switches p) x xs) (leaf_switches p xs (λ r arms e. none (suc r) arms e)) (λ arms same. none 0 arms (ap Some same))
  where
    by_region : (x : Region) → sum_by (region_switches p) (x ∷ xs) ≡ region_switches p x + sum_by (region_switches p) xs → sum_by (region_switches p) xs ≡ sum_by (switches_at p) (blocks_in xs) → ((arms : List ℕ) → x ≡ region.Dispatch arms → ⊥) → sum_by (region_switches p) (x ∷ xs) ≡ sum_by (switches_at p) (blocks_in (x ∷ xs))
    by_region (region.Leaf b) sum rest never =
        let one = sum_by-cons (switches_at p) b (blocks_in xs) in
        omega (arith, sum, rest, one)
    by_region (region.Then first second target) sum rest never = omega (arith, sum, rest)
    by_region (region.Loop body head) sum rest never = omega (arith, sum, rest)
    by_region (region.Dispatch arms) sum rest never = absurd (never arms refl)
    by_region (region.Arms first arms) sum rest never = omega (arith, sum, rest)

contains_any : (xs : List ℕ) (b : ℕ) → Contains xs b → list_any (eqb b) xs ≡ true
contains_any [] b h = absurd (none b h)
contains_any (x ∷ xs) b h = elim (in_cons b x xs h) [
  | inl e ↦ ap (λ t. t || list_any (eqb b) xs) (ap (eqb b) (sym e) ∙ same_self b)
  | inr i ↦ more (eqb b x) (contains_any xs b i)
]
  where
    same_self : (n : ℕ) → eqb n n ≡ true
    same_self n = grind arith

    more : (t : Bool) → list_any (eqb b) xs ≡ true → (t || list_any (eqb b) xs) ≡ true
    more true e = refl
    more false e = e

pub few_switches : FewSwitches
few_switches p list at v plan blocks g h regions reachable few is apart =
    let w = h.wired in
    let nested = h.few blocks reachable few in
    let most = switches_are_terminators p list at v plan w regions in
    let leaves = leaf_switches p list (nested.no_dispatch g is apart) in
    let part = sum_part (switches_at p) (blocks_in list) blocks (distinct list (λ r s b e f. w.leaf_once r s b e f)) (λ b e. (let r = found list b e in contains_any blocks b (reachable.all b (w.reached r.0 b r.1)))) in
    omega (arith, most, leaves, part)

pub no_ring_no_loop : NoRingNoLoop
no_ring_no_loop p list at v plan blocks g h regions reachable few is apart no_ring =
    let nested = h.few blocks reachable few in
    let most = loops_are_regions p list at v plan h.wired regions in
    let none_loops = sum_none loops_of list (λ r x e. by_region r x e (λ arms. nested.no_dispatch g is apart r arms) (λ body head at. (let ring = (nested.loops g is apart).heads r body head at in no_ring ring.0 ring.1.closed))) in
    omega (arith, most, none_loops)
  where
    by_region : (r : ℕ) (x : Region) → slice_get list r ≡ Some x → ((arms : List ℕ) → slice_get list r ≡ Some (region.Dispatch arms) → ⊥) → ((body head : ℕ) → slice_get list r ≡ Some (region.Loop body head) → ⊥) → loops_of x ≡ 0
    by_region r (region.Leaf b) e no_dispatch no_loop = refl
    by_region r (region.Then first second target) e no_dispatch no_loop = refl
    by_region r (region.Loop body head) e no_dispatch no_loop = absurd (no_loop body head e)
    by_region r (region.Dispatch arms) e no_dispatch no_loop = absurd (no_dispatch arms e)
    by_region r (region.Arms first arms) e no_dispatch no_loop = refl
