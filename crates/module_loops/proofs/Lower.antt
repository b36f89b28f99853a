-- The code of a tree of regions has at least the loops of its regions.
use Rattle.std.proofs.Common.{◌≡◌, ℕ, zero, suc, ◌+◌, ◌≤◌, Bool, true, false, List, [], ◌∷◌, ◌++◌, length, Option, refl, sym, ap, ◌∙◌, subst, arith}
use Rattle.std.specs.Prelude.{◌||◌, nat_eq, if◌then◌else◌}
use Rattle.dxil_form.specs.declared.block.Term.{Term}
use Rattle.dxil_form.specs.Branches.{has, targets}
use Rattle.dxil_form.specs.Sound.{cases_in}
use Rattle.spv_form.specs.declared.module.Inst.{Inst}
use Rattle.spirv_code.specs.declared.way.Way.{Way}
use Rattle.spirv_code.specs.declared.way.Way.TheVariants.{Ends, Goes, Chooses, Splits}
use Rattle.spirv_code.specs.Plans.{Context, header_label, merge_label, chosen_label, passed_label}
use Rattle.spirv_code.specs.Reads.{Env}
use Rattle.spirv_code.specs.Leaves.{next_blocks, way_of, block_env, block_code}
use Rattle.spirv_code.specs.Exits.{label_inst, branch_inst, loose, choose_code, split_code, tested, tested_code, tested_id, exit_code}
use Rattle.spirv_code.specs.Trees.{Tree, Missing, Leaf, Then, Loop, Dispatch, Arms, No_arm, Arm, label_at, place_of, arm_label}
use Rattle.spirv_code.specs.Rows.{when_head, onwards, when_code, arm_code, header_code, footer_code, dispatch_head, dispatch_tail, block_at, row_code, one_arm, met_arms, wanted_arms}
use Rattle.line_runs.proofs.Tests.{true_false, nat_eq-eq, nat_eq-refl}
use Rattle.region_runs.proofs.Targets.{has_different, has_here, ends_alone, goes_alone}
use Rattle.module_structure.proofs.Members.{IsOnce}
use Rattle.module_structure.proofs.Trees.{Reaches, arm_keys}
use Rattle.module_counts.specs.Counts.{switches_of}
use Rattle.module_counts.proofs.Lines.{is_other}
use Rattle.module_counts.proofs.Rows.{repeat, ops, ops_append, tops, arm_ops}

-- each arm of a leaf is one of its terminator's ways, and no two are for one block
abbrev mutual
  pub Single : Context → Tree → Type 0
  Single c Missing = ⊥
  Single c (Leaf r b arms) =
      Reaches (targets (block_at c b).term) (arm_label arms) arms × IsOnce (arm_keys arms) × AreSingle c arms
  Single c (Then r first second target) = Single c first × Single c second
  Single c (Loop r body head) = Single c body
  Single c (Dispatch r arms) = AreSingle c arms

  pub AreSingle : Context → Arms → Type 0
  AreSingle c No_arm = Unit {0}
  AreSingle c (Arm target tree arms) = Single c tree × AreSingle c arms

-- ---- what a leaf with one way or none can have

pub no_arms : (ts : List ℕ) (labels : ℕ → Option ℕ) (arms : Arms) → ((k : ℕ) → has k ts ≡ false) → Reaches ts labels arms → arms ≡ No_arm
no_arms ts labels No_arm none h = refl
no_arms ts labels (Arm target tree arms) none h = absurd (true_false (sym h.0 ∙ none target))

pub one_arm_at_most : (k : ℕ) (ts : List ℕ) (labels : ℕ → Option ℕ) (arms : Arms) → ((j : ℕ) → has j ts ≡ true → j ≡ k) → Reaches ts labels arms → has k (arm_keys arms) ≡ false → arms ≡ No_arm
one_arm_at_most k ts labels No_arm only h no_key = refl
one_arm_at_most k ts labels (Arm target tree arms) only h no_key =
    absurd (true_false (sym (subst (λ j. has k (j ∷ arm_keys arms) ≡ true) (sym (only target h.0)) (has_here k (arm_keys arms))) ∙ no_key))

module _ (f : ℕ → ℕ) (quiet : (n : ℕ) → is_other n ≡ true → f n ≡ 0) (no_switch : f 251 ≡ 0) where
  abbrev count : List Inst → ℕ
  count xs = ops f quiet xs

  within : (xs ys zs : List Inst) → count ys ≤ count (xs ++ (ys ++ zs))
  within xs ys zs =
      let one = ops_append f quiet xs (ys ++ zs) in
      let two = ops_append f quiet ys zs in
      omega (arith, one, two)

  last_of : (xs ys : List Inst) → count ys ≤ count (xs ++ ys)
  last_of xs ys =
      let one = ops_append f quiet xs ys in
      omega (arith, one)

  repeat_none : (n : ℕ) → repeat n (f 251) ≡ 0
  repeat_none zero = refl
  repeat_none (suc n) =
      let rest = repeat_none n in
      omega (arith, rest, no_switch)

  module _ (c : Context) where
    abbrev loops : Tree → ℕ
    loops tree = tops f quiet c tree

    abbrev arm_loops : Arms → ℕ
    arm_loops arms = arm_ops f quiet c arms

    abbrev IsHigh : Tree → Type 0
    IsHigh tree = (p : ℕ) → loops tree ≤ count (row_code c p tree)

    when_high : (place k : ℕ) (tree : Tree) → IsHigh tree → loops tree ≤ count (when_code c place k tree (λ q. row_code c q tree))
    when_high place k tree high =
        let head = when_head c place k (label_at tree) (place_of tree) in
        let inner = row_code c (place + length head) tree in
        let low = high (place + length head) in
        let all = within head inner (onwards (passed_label (place_of tree))) in
        omega (arith, low, all)

    arm_high : (place meet : ℕ) (tree : Tree) → IsHigh tree → loops tree ≤ count (arm_code place meet tree (λ q. row_code c q tree))
    arm_high place meet tree high =
        let inner = row_code c (place + 1) tree in
        let low = high (place + 1) in
        let all = within (label_inst (label_at tree) ∷ []) inner (branch_inst meet ∷ []) in
        omega (arith, low, all)

    -- the one arm that there is
    one_high : (k place : ℕ) (tree : Tree) → IsHigh tree → loops tree ≤ count (one_arm c k place (Arm k tree No_arm))
    one_high k place tree high =
        let code = row_code c (place + 2) tree in
        let low = high (place + 2) in
        let all = last_of (onwards (label_at tree)) code in
        let same = ap (λ (b : Bool). count (if b then (onwards (label_at tree) ++ code) else one_arm c k place No_arm)) (nat_eq-refl k) in
        omega (arith, low, all, same)

    loop_high : (r first k there other q : ℕ) (inner : List Inst) (n : ℕ) → n ≤ count inner → f 246 + n ≤ count (header_code r first ++ (inner ++ footer_code c r q k there other))
    loop_high r first k there other q inner n low =
        let one = ops_append f quiet (header_code r first) (inner ++ footer_code c r q k there other) in
        let two = ops_append f quiet inner (footer_code c r q k there other) in
        omega (arith, one, two, low)

    record ArmsHigh (r : ℕ) (arms : Arms) : Type 0 where
      -- where there is one arm alone
      one : (k p : ℕ) (tree : Tree) → arms ≡ Arm k tree No_arm → loops tree ≤ count (one_arm c k p (Arm k tree No_arm))
      met : (meet p : ℕ) → arm_loops arms ≤ count (met_arms c meet p arms)
      wanted : (p : ℕ) → arm_loops arms ≤ count (wanted_arms c p arms)

    goes_high : (k place : ℕ) (term : Term) (arms : Arms) → next_blocks term ≡ k ∷ [] → Reaches (targets term) (arm_label arms) arms → IsOnce (arm_keys arms) → ((tree : Tree) → arms ≡ Arm k tree No_arm → loops tree ≤ count (one_arm c k place (Arm k tree No_arm))) → arm_loops arms ≤ count (one_arm c k place arms)
    goes_high k place term No_arm alone h once one = omega arith
    goes_high k place term (Arm target tree rest) alone h once one =
        let same : target ≡ k = only target h.0 in
        let none : rest ≡ No_arm = one_arm_at_most k (targets term) (arm_label (Arm target tree rest)) rest only h.2 (subst (λ j. has j (arm_keys rest) ≡ false) same once.0) in
        let whole : Arm target tree rest ≡ Arm k tree No_arm = ap (λ j. Arm j tree rest) same ∙ ap (λ a. Arm k tree a) none in
        let low = one tree whole in
        let left = ap arm_loops whole in
        let right = ap (λ a. count (one_arm c k place a)) whole in
        omega (arith, low, left, right)
      where
        only : (j : ℕ) → has j (targets term) ≡ true → j ≡ k
        only j e = alone_is (sym (ap (has j) alone) ∙ (has_different j (targets term) ∙ e))
          where
            alone_is : has j (k ∷ []) ≡ true → j ≡ k
            alone_is e = by_test (nat_eq j k) refl e
              where
                by_test : (b : Bool) → nat_eq j k ≡ b → (b || false) ≡ true → j ≡ k
                by_test true same e = nat_eq-eq j k same
                by_test false same e = absurd (true_false (sym e))

    exit_high : (r : ℕ) (term : Term) (arms : Arms) → Reaches (targets term) (arm_label arms) arms → IsOnce (arm_keys arms) → ArmsHigh r arms → (env : Env) (way : Way) → way_of term ≡ way → (place : ℕ) → arm_loops arms ≤ count (exit_code c (chosen_label r) term (arm_label arms) (next_blocks term) (λ k p. one_arm c k p arms) (λ p. met_arms c (chosen_label r) p arms) (λ p. wanted_arms c p arms) env way place)
    exit_high r term arms h once high env Ends is place =
        let alone = ends_alone (next_blocks term) (cases_in term) is in
        let none = no_arms (targets term) (arm_label arms) arms (λ k. sym (has_different k (targets term)) ∙ ap (has k) alone) h in
        let zero_loops = ap arm_loops none in
        omega (arith, zero_loops)
    exit_high r term arms h once high env (Goes k) is place =
        goes_high k place term arms (goes_alone (next_blocks term) (cases_in term) k is) h once (λ tree same. high.one k place tree same)
    exit_high r term arms h once high env Chooses is place =
        let meet = chosen_label r in
        let test = tested_code c env place (tested term) in
        let id = tested_id c env place (tested term) in
        let p = place + length test in
        let chosen = choose_code c p meet id term (arm_label arms) (loose (arm_label arms) (next_blocks term)) in
        let code = met_arms c meet (p + length chosen) arms in
        let low = high.met meet (p + length chosen) in
        let one = within chosen code (label_inst meet ∷ []) in
        let two = last_of test (chosen ++ (code ++ (label_inst meet ∷ []))) in
        omega (arith, low, one, two)
    exit_high r term arms h once high env Splits is place =
        let test = tested_code c env place (tested term) in
        let id = tested_id c env place (tested term) in
        let p = place + length test in
        let split = split_code c p id term in
        let code = wanted_arms c (p + length split) arms in
        let low = high.wanted (p + length split) in
        let one = last_of split code in
        let two = last_of test (split ++ code) in
        omega (arith, low, one, two)

    leaf_high : (r b : ℕ) (arms : Arms) → Reaches (targets (block_at c b).term) (arm_label arms) arms → IsOnce (arm_keys arms) → ArmsHigh r arms → (p : ℕ) → loops (Leaf r b arms) ≤ count (row_code c p (Leaf r b arms))
    leaf_high r b arms reach once high p =
        let block = block_at c b in
        let code = block_code c p b block in
        let q = p + length code in
        let env = block_env c p block in
        let exit = exit_code c (chosen_label r) block.term (arm_label arms) (next_blocks block.term) (λ k p. one_arm c k p arms) (λ p. met_arms c (chosen_label r) p arms) (λ p. wanted_arms c p arms) env (way_of block.term) q in
        let low = exit_high r block.term arms reach once high env (way_of block.term) refl q in
        let all = last_of code exit in
        let none = repeat_none (switches_of block.term) in
        omega (arith, low, all, none)

    dispatch_high : (r place : ℕ) (arms : Arms) → ((meet p : ℕ) → arm_loops arms ≤ count (met_arms c meet p arms)) → loops (Dispatch r arms) ≤ count (row_code c place (Dispatch r arms))
    dispatch_high r place arms met =
        let head = dispatch_head c r place arms in
        let p = place + length head in
        let code = met_arms c (chosen_label r) p arms in
        let low = met (chosen_label r) p in
        let one = ops_append f quiet head (code ++ dispatch_tail c r (p + length code)) in
        let two = ops_append f quiet code (dispatch_tail c r (p + length code)) in
        omega (arith, low, one, two, no_switch)

  mutual
    pub row_high : (c : Context) (tree : Tree) → Single c tree → (p : ℕ) → tops f quiet c tree ≤ count (row_code c p tree)
    row_high c Missing h p = absurd h
    row_high c (Leaf r b arms) h p =
        leaf_high c r b arms h.0 h.1 (record { one = λ k q tree same. only_high c arms h.2 k q tree same; met = λ meet q. met_high c arms h.2 meet q; wanted = λ q. wanted_high c arms h.2 q }) p
    row_high c (Then r first second target) h p =
        let code = row_code c p first in
        let when = when_code c (p + length code) target second (λ q. row_code c q second) in
        let one = row_high c first h.0 p in
        let two = when_high c (p + length code) target second (row_high c second h.1) in
        let both = ops_append f quiet code when in
        omega (arith, one, two, both)
    row_high c (Loop r body head) h p =
        let code = row_code c (p + 3) body in
        loop_high c r (label_at body) head (header_label r) (merge_label r) (p + 3 + length code) code (tops f quiet c body) (row_high c body h (p + 3))
    row_high c (Dispatch r arms) h p = dispatch_high c r p arms (λ meet q. met_high c arms h meet q)

    only_high : (c : Context) (arms : Arms) → AreSingle c arms → (k place : ℕ) (tree : Tree) → arms ≡ Arm k tree No_arm → tops f quiet c tree ≤ count (one_arm c k place (Arm k tree No_arm))
    only_high c No_arm h k place tree same = absurd (cc)
    only_high c (Arm target other arms) h k place tree same =
        subst (λ t. tops f quiet c t ≤ count (one_arm c k place (Arm k t No_arm))) (tree_of same) (one_high c k place other (row_high c other h.0))
      where
        from : Tree → Arms → Tree
        from d No_arm = d
        from d (Arm j t rest) = t

        tree_of : Arm target other arms ≡ Arm k tree No_arm → other ≡ tree
        tree_of e = ap (from other) e

    met_high : (c : Context) (arms : Arms) → AreSingle c arms → (meet place : ℕ) → arm_ops f quiet c arms ≤ count (met_arms c meet place arms)
    met_high c No_arm h meet place = omega arith
    met_high c (Arm target tree arms) h meet place =
        let front = arm_code place meet tree (λ q. row_code c q tree) in
        let rest = met_arms c meet (place + length front) arms in
        let one = arm_high c place meet tree (row_high c tree h.0) in
        let two = met_high c arms h.1 meet (place + length front) in
        let both = ops_append f quiet front rest in
        omega (arith, one, two, both)

    wanted_high : (c : Context) (arms : Arms) → AreSingle c arms → (place : ℕ) → arm_ops f quiet c arms ≤ count (wanted_arms c place arms)
    wanted_high c No_arm h place = omega arith
    wanted_high c (Arm target tree arms) h place =
        let front = when_code c place target tree (λ q. row_code c q tree) in
        let rest = wanted_arms c (place + length front) arms in
        let one = when_high c place target tree (row_high c tree h.0) in
        let two = wanted_high c arms h.1 (place + length front) in
        let both = ops_append f quiet front rest in
        omega (arith, one, two, both)
