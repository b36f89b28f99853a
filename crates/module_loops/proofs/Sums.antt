-- The tree of wired regions counts for as much as their list.
use Rattle.std.proofs.Common.{◌≡◌, inl, inr, ℕ, zero, suc, ◌+◌, ◌≤◌, true, ne_eqb, List, length, Option, Some, None, refl, ap, ◌∙◌, arith}
use Rattle.std.proofs.lemmas.Bool.{cases_order}
use Rattle.std.specs.Prelude.{slice_get}
use Rattle.std.specs.List.{sum_by}
use Rattle.dxil_form.specs.declared.program.Program.{Program}
use Rattle.dxil_form.specs.declared.region.Region.{Region}
use Rattle.dxil_form.specs.declared.region.Region.TheVariants as region
use Rattle.dxil_form.specs.Wired.{Wired}
use Rattle.spirv_code.specs.Plans.{Plan, context_of}
use Rattle.spirv_code.specs.Trees.{Tree, Missing, Leaf, Then, Loop, Dispatch, Arms, No_arm, Arm, root_of}
use Rattle.spirv_code.specs.Rows.{block_at}
use Rattle.frame_facts.proofs.Searches.{eq_same}
use Rattle.frame_facts.proofs.Counting.{bit, single, times, times_arms}
use Rattle.module_nesting.proofs.Counted.{total, total_low}
use Rattle.module_counts.specs.Counts.{switches_of, switches_at}
use Rattle.module_counts.proofs.Lines.{is_other}
use Rattle.module_counts.proofs.Rows.{repeat, repeat_low, tops, arm_ops}
use Rattle.module_counts.proofs.Placed.{Placed, ArePlaced, root_placed, value, value_in, weight, all_values, switches_same}
use Rattle.module_loops.proofs.Tree.{stands}

total_split : (f g h : ℕ → ℕ) (n : ℕ) → ((s : ℕ) → h s ≤ f s + g s) → total h n ≤ total f n + total g n
total_split f g h zero le = omega arith
total_split f g h (suc n) le =
    let rest = total_split f g h n le in
    let one = le n in
    omega (arith, rest, one)

repeat_split : (l m n k : ℕ) → n ≤ l + m → repeat n k ≤ repeat l k + repeat m k
repeat_split zero m n k h = with_zero (repeat_low n m k (omega (arith, h)))
  where
    with_zero : repeat n k ≤ repeat m k → repeat n k ≤ 0 + repeat m k
    with_zero low = omega (arith, low)
repeat_split (suc l) m zero k h = omega arith
repeat_split (suc l) m (suc n) k h =
    let rest = repeat_split l m n k (omega (arith, h)) in
    omega (arith, rest)

-- one place alone counts
single_other : (place s : ℕ) → (place ≡ s → ⊥) → single place s ≡ 0
single_other place s other = ap bit (ne_eqb place s other)

total_before : (place : ℕ) (g : ℕ → ℕ) (n : ℕ) → n ≤ place → total (λ s. repeat (single place s) (g s)) n ≡ 0
total_before place g zero low = refl
total_before place g (suc n) low =
    let rest = total_before place g n (omega (arith, low)) in
    let none = ap (λ k. repeat k (g n)) (single_other place n (λ e. omega (arith, e, low))) in
    omega (arith, rest, none)

total_single : (place : ℕ) (g : ℕ → ℕ) (n : ℕ) → total (λ s. repeat (single place s) (g s)) n ≤ g place
total_single place g zero = omega arith
total_single place g (suc n) = elim (cases_order n place) [
  | inl same ↦ (let before = total_before place g n (omega (arith, same)) in
      let here : repeat (single place n) (g n) ≡ repeat 1 (g place) = ap (λ k. repeat (single place k) (g k)) same ∙ ap (λ b. repeat (bit b) (g place)) (eq_same place) in
      omega (arith, before, here))
  | inr o ↦ (let rest = total_single place g n in
      let none = ap (λ k. repeat k (g n)) (single_other place n (λ e. elim o [ inl less ↦ omega (arith, e, less) | inr more ↦ omega (arith, e, more) ])) in
      omega (arith, rest, none))
]

module _ (f : ℕ → ℕ) (quiet : (n : ℕ) → is_other n ≡ true → f n ≡ 0) (p : Program) (list : List Region) (plan : Plan) where
  abbrev heavy : (ℕ → ℕ) → ℕ
  heavy g = weight f quiet p list plan g

  abbrev worth : ℕ → ℕ
  worth s = value_in f quiet p list plan (slice_get list s)

  split : (g h k : ℕ → ℕ) → ((s : ℕ) → k s ≤ g s + h s) → heavy k ≤ heavy g + heavy h
  split g h k le =
      total_split (λ s. repeat (g s) (worth s)) (λ s. repeat (h s) (worth s)) (λ s. repeat (k s) (worth s)) (length list) (λ s. repeat_split (g s) (h s) (k s) (worth s) (le s))

  own : (place : ℕ) (x : Region) → slice_get list place ≡ Some x → heavy (single place) ≤ value f quiet p list plan x
  own place x e =
      let one = total_single place worth (length list) in
      let same = ap (value_in f quiet p list plan) e in
      omega (arith, one, same)

  mutual
    tops_high : (tree : Tree) → Placed list tree → heavy (λ s. times s tree) ≤ tops f quiet (context_of p plan) tree
    tops_high Missing h = absurd h
    tops_high (Leaf place block arms) h =
        let one = own place (region.Leaf block) h.0 in
        let rest = arms_high arms h.1 in
        let both = split (single place) (λ s. times_arms s arms) (λ s. times s (Leaf place block arms)) (λ s. omega arith) in
        let same : repeat (switches_of (block_at (context_of p plan) block).term) (f 251) ≡ repeat (switches_at p block) (f 251) = ap (λ n. repeat n (f 251)) (switches_same (slice_get p.blocks block)) in
        omega (arith, one, rest, both, same)
    tops_high (Then place first second target) h =
        let none = own place (region.Then h.0.0 h.0.1 target) h.0.2 in
        let one = tops_high first h.1 in
        let two = tops_high second h.2 in
        let parts = split (λ s. times s first) (λ s. times s second) (λ s. times s first + times s second) (λ s. omega arith) in
        let both = split (single place) (λ s. times s first + times s second) (λ s. times s (Then place first second target)) (λ s. omega arith) in
        omega (arith, none, one, two, parts, both)
    tops_high (Loop place body head) h =
        let one = own place (region.Loop h.0.0 head) h.0.1 in
        let rest = tops_high body h.1 in
        let both = split (single place) (λ s. times s body) (λ s. times s (Loop place body head)) (λ s. omega arith) in
        omega (arith, one, rest, both)
    tops_high (Dispatch place arms) h =
        let one = own place (region.Dispatch h.0.0) h.0.1 in
        let rest = arms_high arms h.1 in
        let both = split (single place) (λ s. times_arms s arms) (λ s. times s (Dispatch place arms)) (λ s. omega arith) in
        omega (arith, one, rest, both)

    arms_high : (arms : Arms) → ArePlaced list arms → heavy (λ s. times_arms s arms) ≤ arm_ops f quiet (context_of p plan) arms
    arms_high No_arm h = nothing (length list)
      where
        nothing : (n : ℕ) → total (λ s. repeat 0 (worth s)) n ≤ 0
        nothing zero = omega arith
        nothing (suc n) =
            let rest = nothing n in
            omega (arith, rest)
    arms_high (Arm target tree arms) h =
        let one = tops_high tree h.0 in
        let rest = arms_high arms h.1 in
        let both = split (λ s. times s tree) (λ s. times_arms s arms) (λ s. times_arms s (Arm target tree arms)) (λ s. omega arith) in
        omega (arith, one, rest, both)

  -- the list counts for no more than the tree
  pub root_worth : Wired p list → sum_by (value f quiet p list plan) list ≤ tops f quiet (context_of p plan) (root_of list)
  root_worth w =
      let high = tops_high (root_of list) (root_placed p list w) in
      let all = all_values f quiet p list plan list in
      let each = total_low (λ s. repeat 1 (worth s)) (λ s. repeat (times s (root_of list)) (worth s)) (length list) (λ s. there s (slice_get list s) refl) in
      omega (arith, high, all, each)
    where
      none : (n : ℕ) → repeat 1 0 ≤ repeat n 0
      none n = omega arith

      there : (s : ℕ) (o : Option Region) → slice_get list s ≡ o → repeat 1 (value_in f quiet p list plan o) ≤ repeat (times s (root_of list)) (value_in f quiet p list plan o)
      there s None e = none (times s (root_of list))
      there s (Some (region.Leaf b)) e = repeat_low 1 (times s (root_of list)) (value f quiet p list plan (region.Leaf b)) (stands p list w s (region.Leaf b) e tt)
      there s (Some (region.Then first second target)) e = none (times s (root_of list))
      there s (Some (region.Loop body head)) e = repeat_low 1 (times s (root_of list)) (f 246) (stands p list w s (region.Loop body head) e tt)
      there s (Some (region.Dispatch arms)) e = repeat_low 1 (times s (root_of list)) (f 246 + f 251) (stands p list w s (region.Dispatch arms) e tt)
      there s (Some (region.Arms first arms)) e = none (times s (root_of list))
