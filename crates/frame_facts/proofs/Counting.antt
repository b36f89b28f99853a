-- How often a label stands in the code of regions.
use Rattle.std.proofs.Common.{◌≡◌, ◌⊎◌, ⊎_elim, ℕ, zero, suc, ◌+◌, ◌<◌, ◌≤◌, Bool, true, false, List, [], ◌∷◌, ◌++◌, length, Option, Some, refl, sym, ap, ◌∙◌, subst, arith, ne_eqb}
use Rattle.std.specs.Prelude.{slice_get, nat_eq, if◌then◌else◌}
use Rattle.dxil_form.specs.declared.block.Block.{Block}
use Rattle.dxil_form.specs.declared.block.Term.{Term}
use Rattle.spv_form.specs.declared.module.Inst.{Inst}
use Rattle.spirv_meaning.specs.Names.{is_some_at, label_of}
use Rattle.spirv_code.specs.declared.key.Slot.TheVariants.{Want}
use Rattle.spirv_code.specs.declared.way.Way.{Way}
use Rattle.spirv_code.specs.declared.way.Way.TheVariants.{Ends, Goes, Chooses, Splits}
use Rattle.spirv_code.specs.Plans.{Context, label, result, number, chosen_label, passed_label, first_label}
use Rattle.spirv_code.specs.Reads.{Env}
use Rattle.spirv_code.specs.Leaves.{followed, block_code}
use Rattle.spirv_code.specs.Exits.{label_inst, branch_inst, no_block, loose, choose_code, split_code, tested, tested_code, tested_id, exit_code}
use Rattle.spirv_code.specs.Trees.{Tree, Missing, Leaf, Then, Loop, Dispatch, Arms, No_arm, Arm, label_at, place_of}
use Rattle.spirv_code.specs.Rows.{when_head, onwards, when_code, arm_code, row_code, one_arm}
use Rattle.frame_facts.specs.Inner.{Inner, plain, own, of_region, AreInner}
use Rattle.frame_facts.proofs.Searches.{eq_same, eq_told, inj}
use Rattle.frame_facts.proofs.InnerLines.{plains_inner}
use Rattle.frame_facts.proofs.InnerRows.{block_inner, choose_inner, split_inner, tested_plain}
use Rattle.frame_facts.proofs.InnerLines.{store_plain}
use Rattle.frame_facts.proofs.Labels.{plain_unlabelled}

abbrev pub bit : Bool → ℕ
bit true = 1
bit false = 0

-- 1 where the two are the same
abbrev pub single : (a b : ℕ) → ℕ
single a b = bit (nat_eq a b)

-- how often a label stands in a list
abbrev pub count : ℕ → List Inst → ℕ
count id [] = 0
count id (i ∷ is) = bit (is_some_at (label_of i) id) + count id is

pub count_append : (id : ℕ) (a b : List Inst) → count id (a ++ b) ≡ count id a + count id b
count_append id [] b = let e : count id b ≡ 0 + count id b = omega arith in e
count_append id (i ∷ a) b =
    let ih = count_append id a b in
    let x : ℕ = bit (is_some_at (label_of i) id) in
    let e : x + count id (a ++ b) ≡ x + count id a + count id b = omega (arith, ih) in
    e

pub count_followed : (id place : ℕ) (front : List Inst) (rest : ℕ → List Inst) → count id (followed place front rest) ≡ count id front + count id (rest (place + length front))
count_followed id place front rest = count_append id front (rest (place + length front))

single_not : (a b : ℕ) → (a ≡ b → ⊥) → single a b ≡ 0
single_not a b h = ap bit (ne_eqb a b h)

-- a label that stands twice stands at one place
count_one : (id : ℕ) (xs : List Inst) (p : ℕ) (x : Inst) → slice_get xs p ≡ Some x → label_of x ≡ Some id → 1 ≤ count id xs
count_one id [] p x e h = absurd (cc)
count_one id (i ∷ xs) zero x e h =
    let here : bit (is_some_at (label_of i) id) ≡ 1 = ap bit (ap (λ i. is_some_at (label_of i) id) (inj e) ∙ ap (λ o. is_some_at o id) h ∙ eq_same id) in
    omega (arith, here)
count_one id (i ∷ xs) (suc p) x e h =
    let ih = count_one id xs p x e h in
    omega (arith, ih)

pub one_place : (id : ℕ) (xs : List Inst) → count id xs ≤ 1 → (p q : ℕ) (x y : Inst) → slice_get xs p ≡ Some x → slice_get xs q ≡ Some y → label_of x ≡ Some id → label_of y ≡ Some id → p ≡ q
one_place id [] few p q x y ep eq hx hy = absurd (cc)
one_place id (i ∷ xs) few zero zero x y ep eq hx hy = refl
one_place id (i ∷ xs) few zero (suc q) x y ep eq hx hy =
    let here : bit (is_some_at (label_of i) id) ≡ 1 = ap bit (ap (λ i. is_some_at (label_of i) id) (inj ep) ∙ ap (λ o. is_some_at o id) hx ∙ eq_same id) in
    let there = count_one id xs q y eq hy in
    absurd (omega (arith, few, here, there))
one_place id (i ∷ xs) few (suc p) zero x y ep eq hx hy =
    let here : bit (is_some_at (label_of i) id) ≡ 1 = ap bit (ap (λ i. is_some_at (label_of i) id) (inj eq) ∙ ap (λ o. is_some_at o id) hy ∙ eq_same id) in
    let there = count_one id xs p x ep hx in
    absurd (omega (arith, few, here, there))
one_place id (i ∷ xs) few (suc p) (suc q) x y ep eq hx hy =
    let rest : count id xs ≤ 1 = omega (arith, few) in
    ap suc (one_place id xs rest p q x y ep eq hx hy)

-- ---- one of the labels of a region

-- two labels are of one kind where they are of one region
kind_told : (r j kind : ℕ) → nat_eq (label r j) (label r kind) ≡ nat_eq j kind
kind_told r j kind = by_test (nat_eq j kind) refl
  where
    same : (a b : ℕ) → nat_eq a b ≡ true → a ≡ b
    same a b e = grind arith

    apart : (a b : ℕ) → nat_eq a b ≡ false → label r a ≡ label r b → ⊥
    apart a b e f =
        let h : a ≡ b = omega (arith, f) in
        let t = subst (λ n. nat_eq a n ≡ true) h (eq_same a) in
        absurd (cc)

    by_test : (b : Bool) → nat_eq j kind ≡ b → nat_eq (label r j) (label r kind) ≡ b
    by_test true e = ap (λ n. nat_eq (label r j) (label r n)) (sym (same j kind e)) ∙ eq_same (label r j)
    by_test false e = ne_eqb (label r j) (label r kind) (apart j kind e)

-- the eight labels of a region, of which the id is one at most
abbrev pub labels_of : (r id : ℕ) → ℕ
labels_of r id =
    single (label r 0) id + single (label r 1) id + single (label r 2) id + single (label r 3) id + single (label r 4) id + single (label r 5) id + single (label r 6) id + single (label r 7) id

-- how many of the numbers below n are the kind
hits : (n kind : ℕ) → ℕ
hits zero kind = 0
hits (suc n) kind = hits n kind + bit (nat_eq n kind)

hits_next : (kind n m : ℕ) → m ≡ suc n → hits m kind ≡ hits n kind + bit (nat_eq n kind)
unfolding hits
hits_next kind n m e = ap (λ m. hits m kind) e

hits_start : (kind : ℕ) → hits 0 kind ≡ 0
unfolding hits
hits_start kind = refl

hits_none : (n kind : ℕ) → n ≤ kind → hits n kind ≡ 0
unfolding hits
hits_none zero kind h = refl
hits_none (suc n) kind h =
    let ih = hits_none n kind (omega (arith, h)) in
    let here : bit (nat_eq n kind) ≡ 0 = ap bit (ne_eqb n kind (λ e. omega (arith, h, e))) in
    let e : hits n kind + bit (nat_eq n kind) ≡ 0 = omega (arith, ih, here) in
    e

hits_few : (n kind : ℕ) → hits n kind ≤ 1
unfolding hits
hits_few zero kind = omega arith
hits_few (suc n) kind = by_test (hits_few n kind) (nat_eq n kind) refl
  where
    by_test : hits n kind ≤ 1 → (b : Bool) → nat_eq n kind ≡ b → hits n kind + bit b ≤ 1
    by_test ih true e =
        let same : n ≡ kind = eq_told n kind e in
        let low : n ≤ kind = omega (arith, same) in
        let none = hits_none n kind low in
        omega (arith, none)
    by_test ih false e = omega (arith, ih)

kinds_few : (kind : ℕ) → bit (nat_eq 0 kind) + bit (nat_eq 1 kind) + bit (nat_eq 2 kind) + bit (nat_eq 3 kind) + bit (nat_eq 4 kind) + bit (nat_eq 5 kind) + bit (nat_eq 6 kind) + bit (nat_eq 7 kind) ≤ 1
kinds_few kind =
    omega (arith, hits_few 8 kind, hits_next kind 7 8 refl, hits_next kind 6 7 refl, hits_next kind 5 6 refl, hits_next kind 4 5 refl, hits_next kind 3 4 refl, hits_next kind 2 3 refl, hits_next kind 1 2 refl, hits_next kind 0 1 refl, hits_start kind)

pub labels_few : (r r0 kind id : ℕ) → kind < 8 → id ≡ label r0 kind → labels_of r id ≤ single r r0
labels_few r r0 kind id few is = by_test (nat_eq r r0) refl
  where
    at_kind : r ≡ r0 → (j : ℕ) → single (label r j) id ≡ bit (nat_eq j kind)
    at_kind e j = ap (λ n. bit (nat_eq (label r j) n)) (is ∙ ap (λ r. label r kind) (sym e)) ∙ ap bit (kind_told r j kind)

    less_or : (a b : ℕ) → nat_eq a b ≡ false → (a < b) ⊎ (b < a)
    less_or a b e = grind arith

    other : (r < r0) ⊎ (r0 < r) → (j : ℕ) → j < 8 → single (label r j) id ≡ 0
    other h j low =
        single_not (label r j) id (λ e. absurd (⊎_elim (λ less. omega (arith, less, e, is, low)) (λ more. omega (arith, more, e, is, few)) h))

    by_test : (b : Bool) → nat_eq r r0 ≡ b → labels_of r id ≤ bit b
    by_test true e =
        let same : r ≡ r0 = eq_told r r0 e in
        let at : (j : ℕ) → single (label r j) id ≡ bit (nat_eq j kind) = at_kind same in
        omega (arith, kinds_few kind, at 0, at 1, at 2, at 3, at 4, at 5, at 6, at 7)
    by_test false e =
        let sides = less_or r r0 e in
        let zero_at : (j : ℕ) → j < 8 → single (label r j) id ≡ 0 = other sides in
        omega (arith, zero_at 0 (omega arith), zero_at 1 (omega arith), zero_at 2 (omega arith), zero_at 3 (omega arith), zero_at 4 (omega arith), zero_at 5 (omega arith), zero_at 6 (omega arith), zero_at 7 (omega arith))

-- ---- the regions of a tree

abbrev mutual
  -- how often a region stands in a tree
  pub times : ℕ → Tree → ℕ
  times r0 Missing = 0
  times r0 (Leaf place block arms) = single place r0 + times_arms r0 arms
  times r0 (Then place first second target) = single place r0 + times r0 first + times r0 second
  times r0 (Loop place body head) = single place r0 + times r0 body
  times r0 (Dispatch place arms) = single place r0 + times_arms r0 arms

  pub times_arms : ℕ → Arms → ℕ
  times_arms r0 No_arm = 0
  times_arms r0 (Arm target tree arms) = times r0 tree + times_arms r0 arms

-- code without labels of regions
count_own : (c : Context) (place : ℕ) (code : List Inst) (id : ℕ) → id < c.first → AreInner c (λ r. ⊥) place code → count id code ≡ 0
count_own c place [] id low h = refl
count_own c place (i ∷ code) id low h =
    let rest = count_own c (place + 1) code id low h.1 in
    let here = by_inst h.0 in
    let e : bit (is_some_at (label_of i) id) + count id code ≡ 0 = omega (arith, here, rest) in
    e
  where
    by_inst : Inner c (λ r. ⊥) place i → bit (is_some_at (label_of i) id) ≡ 0
    by_inst (plain e) = ap (λ o. bit (is_some_at o id)) (plain_unlabelled i e)
    by_inst (own e) =
        ap (λ i. bit (is_some_at (label_of i) id)) e ∙ single_not (result c place) id (λ e. omega (arith, e, low))
    by_inst (of_region r kind mine few e) = absurd mine

module _ (c : Context) (r0 kind id : ℕ) (few : kind < 8) (is : id ≡ label r0 kind) (low : id < c.first) where
  abbrev None_mine : ℕ → Type 0
  None_mine r = ⊥

  -- what a region and its labels add
  abbrev pub Bounded : Tree → Type 0
  Bounded tree =
      (place : ℕ) → count id (row_code c place tree) + single (label_at tree) id + single (passed_label (place_of tree)) id + single (first_label (place_of tree)) id ≤ times r0 tree

  pub block_none : (place b : ℕ) (block : Block) → count id (block_code c place b block) ≡ 0
  block_none place b block = count_own c place (block_code c place b block) id low (block_inner c None_mine place b block)

  pub exit_count : (r : ℕ) (term : Term) (labels : ℕ → Option ℕ) (ks : List ℕ) (one : ℕ → ℕ → List Inst) (met wanted : ℕ → List Inst) (most : ℕ) → ((k place : ℕ) → count id (one k place) ≤ most) → ((place : ℕ) → count id (met place) ≤ most) → ((place : ℕ) → count id (wanted place) ≤ most) → (env : Env) (way : Way) (place : ℕ) → count id (exit_code c (chosen_label r) term labels ks one met wanted env way place) ≤ most + single (chosen_label r) id
  exit_count r term labels ks one met wanted most h1 h2 h3 env Ends place =
      let none = count_own c place (exit_code c (chosen_label r) term labels ks one met wanted env Ends place) id low (plains_inner c None_mine place _ (store_plain (c.slot Want) (number c (no_block c)))) in
      omega (arith, none)
  exit_count r term labels ks one met wanted most h1 h2 h3 env (Goes k) place =
      let h = h1 k place in
      omega (arith, h)
  exit_count r term labels ks one met wanted most h1 h2 h3 env Chooses place =
      let meet : ℕ = chosen_label r in
      let test : List Inst = tested_code c env place (tested term) in
      let x : ℕ = tested_id c env place (tested term) in
      let p : ℕ = place + length test in
      let chosen : List Inst = choose_code c p meet x term labels (loose labels ks) in
      let q : ℕ = p + length chosen in
      let outer = count_followed id place test (λ p. followed p (choose_code c p meet x term labels (loose labels ks)) (λ q. met q ++ (label_inst meet ∷ []))) in
      let inner = count_followed id p chosen (λ q. met q ++ (label_inst meet ∷ [])) in
      let last = count_append id (met q) (label_inst meet ∷ []) in
      let test_none = count_own c place test id low (plains_inner c None_mine place test (tested_plain c env place (tested term))) in
      let chosen_none = count_own c p chosen id low (choose_inner c None_mine p meet x term labels (loose labels ks)) in
      let h = h2 q in
      omega (arith, outer, inner, last, test_none, chosen_none, h)
  exit_count r term labels ks one met wanted most h1 h2 h3 env Splits place =
      let test : List Inst = tested_code c env place (tested term) in
      let x : ℕ = tested_id c env place (tested term) in
      let p : ℕ = place + length test in
      let split : List Inst = split_code c p x term in
      let outer = count_followed id place test (λ p. followed p (split_code c p x term) wanted) in
      let inner = count_followed id p split wanted in
      let test_none = count_own c place test id low (plains_inner c None_mine place test (tested_plain c env place (tested term))) in
      let split_none = count_own c p split id low (split_inner c None_mine p x term) in
      let h = h3 (p + length split) in
      omega (arith, outer, inner, test_none, split_none, h)

  -- the arm of one block, or what stands for the other arms
  pub one_test : (k place target : ℕ) (tree : Tree) (arms : Arms) → Bounded tree → count id (one_arm c k place arms) ≤ times_arms r0 arms → (b : Bool) → count id (if b then followed place (onwards (label_at tree)) (λ p. row_code c p tree) else one_arm c k place arms) ≤ times r0 tree + times_arms r0 arms
  one_test k place target tree arms h rest true =
      let outer = count_followed id place (onwards (label_at tree)) (λ p. row_code c p tree) in
      let here = h (place + length (onwards (label_at tree))) in
      omega (arith, outer, here)
  one_test k place target tree arms h rest false = omega (arith, rest)

  pub when_count : (place k : ℕ) (tree : Tree) → Bounded tree → count id (when_code c place k tree (λ q. row_code c q tree)) ≤ times r0 tree
  when_count place k tree h =
      let front : List Inst = when_head c place k (label_at tree) (place_of tree) in
      let p : ℕ = place + length front in
      let outer = count_followed id place front (λ p. row_code c p tree ++ onwards (passed_label (place_of tree))) in
      let inner = count_append id (row_code c p tree) (onwards (passed_label (place_of tree))) in
      let here = h p in
      omega (arith, outer, inner, here)

  pub arm_count : (place meet : ℕ) (tree : Tree) → Bounded tree → count id (arm_code place meet tree (λ q. row_code c q tree)) ≤ times r0 tree
  arm_count place meet tree h =
      let front : List Inst = label_inst (label_at tree) ∷ [] in
      let p : ℕ = place + length front in
      let outer = count_followed id place front (λ p. row_code c p tree ++ (branch_inst meet ∷ [])) in
      let inner = count_append id (row_code c p tree) (branch_inst meet ∷ []) in
      let here = h p in
      omega (arith, outer, inner, here)
