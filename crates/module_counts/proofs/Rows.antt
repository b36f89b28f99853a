-- How many loops and switches the code of a tree of regions has.
use Rattle.std.proofs.Common.{◌≡◌, ℕ, zero, suc, ◌+◌, ◌≤◌, Bool, true, false, List, [], ◌∷◌, ◌++◌, length, take, drop, Option, Some, None, refl, arith}
use Rattle.std.specs.Prelude.{nat_eq, if◌then◌else◌}
use Rattle.dxil_form.specs.declared.value.Operand.{Operand}
use Rattle.dxil_form.specs.declared.block.Term.{Term}
use Rattle.dxil_form.specs.declared.block.Term.TheVariants.{Ret, Unreachable, Go, If, Switch}
use Rattle.spv_form.specs.declared.module.Inst.{Inst}
use Rattle.spirv_code.specs.declared.way.Way.{Way}
use Rattle.spirv_code.specs.declared.way.Way.TheVariants.{Ends, Goes, Chooses, Splits}
use Rattle.spirv_code.specs.declared.key.Slot.TheVariants.{Want}
use Rattle.spirv_code.specs.Plans.{Context, result, number, header_label, merge_label, chosen_label, passed_label}
use Rattle.spirv_code.specs.Reads.{Env, read_code}
use Rattle.spirv_code.specs.Leaves.{next_blocks, way_of, most_pairs, block_env, block_code}
use Rattle.spirv_code.specs.Exits.{label_inst, branch_inst, no_block, setters_code, loose, way_label, exit_branch, choose_head, choose_code, chunk_meet, chunk_head, chunk_code, case_targets, chunks_code, chunk_count, split_head, split_code, tested, tested_code, tested_id, exit_code}
use Rattle.spirv_code.specs.Trees.{Tree, Missing, Leaf, Then, Loop, Dispatch, Arms, No_arm, Arm, label_at, place_of, arm_label}
use Rattle.spirv_code.specs.Rows.{when_head, onwards, when_code, arm_code, header_code, footer_code, dispatch_head, dispatch_tail, block_at, row_code, one_arm, met_arms, wanted_arms}
use Rattle.module_structure.proofs.Inner.{read_low, store_low}
use Rattle.module_counts.specs.Counts.{switches_of}
use Rattle.module_counts.proofs.Lines.{is_other, AreOthers, inner_others, block_others}

-- so many times a number
abbrev pub repeat : (n k : ℕ) → ℕ
repeat zero k = 0
repeat (suc n) k = k + repeat n k

pub repeat_low : (m n k : ℕ) → m ≤ n → repeat m k ≤ repeat n k
repeat_low zero n k h = omega arith
repeat_low (suc m) zero k h = absurd (omega (arith, h))
repeat_low (suc m) (suc n) k h =
    let rest = repeat_low m n k (omega (arith, h)) in
    omega (arith, rest)

-- a number for each opcode, and none for others than OpLoopMerge and OpSwitch
module _ (f : ℕ → ℕ) (quiet : (n : ℕ) → is_other n ≡ true → f n ≡ 0) where
  abbrev pub ops : List Inst → ℕ
  ops [] = 0
  ops (x ∷ xs) = f x.opcode + ops xs

  pub ops_append : (xs ys : List Inst) → ops (xs ++ ys) ≡ ops xs + ops ys
  ops_append [] ys = omega arith
  ops_append (x ∷ xs) ys =
      let rest = ops_append xs ys in
      omega (arith, rest)

  pub others_none : (xs : List Inst) → AreOthers xs → ops xs ≡ 0
  others_none [] h = refl
  others_none (x ∷ xs) h =
      let one = quiet x.opcode h.0 in
      let rest = others_none xs h.1 in
      omega (arith, one, rest)

  -- what is before does not count, and neither does what is behind
  behind : (xs ys : List Inst) (n : ℕ) → AreOthers xs → ops ys ≤ n → ops (xs ++ ys) ≤ n
  behind xs ys n h low =
      let both = ops_append xs ys in
      let none = others_none xs h in
      omega (arith, both, none, low)

  before : (xs ys : List Inst) (n : ℕ) → ops xs ≤ n → AreOthers ys → ops (xs ++ ys) ≤ n
  before xs ys n low h =
      let both = ops_append xs ys in
      let none = others_none ys h in
      omega (arith, both, none, low)

  join : (xs ys : List Inst) (m n : ℕ) → ops xs ≤ m → ops ys ≤ n → ops (xs ++ ys) ≤ m + n
  join xs ys m n low high =
      let both = ops_append xs ys in
      omega (arith, both, low, high)

  none_of : (n : ℕ) (xs : List Inst) → AreOthers xs → ops xs ≤ n
  none_of n xs h =
      let none = others_none xs h in
      omega (arith, none)

  module _ (c : Context) where
    setters_others : (place meet : ℕ) (ks : List ℕ) → AreOthers (setters_code c place meet ks)
    setters_others place meet [] = tt
    setters_others place meet (k ∷ ks) = (refl, (refl, (refl, setters_others (place + 3) meet ks)))

    -- ---- how a leaf is left

    abbrev of_term : Term → ℕ
    of_term term = repeat (switches_of term) (f 251)

    exit_low : (to : ℕ → ℕ) (id : ℕ) (term : Term) → ops (exit_branch to id term) ≤ of_term term
    exit_low to id Ret = omega arith
    exit_low to id Unreachable = omega arith
    exit_low to id (Go k) = omega arith
    exit_low to id (If cond there other) =
        let none = quiet 250 refl in
        omega (arith, none)
    exit_low to id (Switch value default cases) =
        let one = repeat_low 1 (switches_of (Switch value default cases)) (f 251) (omega arith) in
        omega (arith, one)

    choose_low : (place meet id : ℕ) (term : Term) (labels : ℕ → Option ℕ) (ks : List ℕ) → ops (choose_code c place meet id term labels ks) ≤ of_term term
    choose_low place meet id term labels ks =
        let head = choose_head meet id term labels (result c (place + 2)) ks in
        let exit = exit_low (way_label labels (result c (place + 2)) ks) id term in
        let none = quiet 247 refl in
        before head (setters_code c (place + length head) meet ks) (of_term term) (omega (arith, exit, none)) (setters_others (place + length head) meet ks)

    others_two : (xs : List Inst) (x : Inst) → AreOthers xs → is_other x.opcode ≡ true → AreOthers (xs ++ x ∷ [])
    others_two [] x h e = (e, tt)
    others_two (y ∷ xs) x h e = (h.0, others_two xs x h.1 e)

    chunk_low : (place : ℕ) (cases : List (ℕ × ℕ)) (ks : List ℕ) → ops (chunk_code c place cases ks) ≤ f 251
    chunk_low place cases ks =
        let setters = setters_code c (place + 3) (chunk_meet c place ks) ks in
        let load = quiet 61 refl in
        let select = quiet 247 refl in
        before (chunk_head c place cases ks) (setters ++ (label_inst (chunk_meet c place ks) ∷ [])) (f 251) (omega (arith, load, select)) (others_two setters (label_inst (chunk_meet c place ks)) (setters_others (place + 3) (chunk_meet c place ks) ks) refl)

    chunks_low : (place n : ℕ) (cases : List (ℕ × ℕ)) → ops (chunks_code c place n cases) ≤ repeat n (f 251)
    chunks_low place zero cases = omega arith
    chunks_low place (suc n) cases =
        let front = chunk_code c place (take most_pairs cases) (case_targets (take most_pairs cases)) in
        join front (chunks_code c (place + length front) n (drop most_pairs cases)) (f 251) (repeat n (f 251)) (chunk_low place (take most_pairs cases) (case_targets (take most_pairs cases))) (chunks_low (place + length front) n (drop most_pairs cases))

    split_low : (place id : ℕ) (term : Term) → ops (split_code c place id term) ≤ of_term term
    split_low place id Ret = omega arith
    split_low place id Unreachable = omega arith
    split_low place id (Go k) = omega arith
    split_low place id (If cond there other) = omega arith
    split_low place id (Switch value default cases) =
        let n = chunk_count (length cases) in
        let chunks = chunks_low (place + 2) n cases in
        let most = repeat_low n (switches_of (Switch value default cases)) (f 251) (omega arith) in
        behind (split_head c id default) (chunks_code c (place + 2) n cases) (of_term (Switch value default cases)) (refl, (refl, tt)) (omega (arith, chunks, most))

    tested_others : (env : Env) (place : ℕ) (a : Option Operand) → AreOthers (tested_code c env place a)
    tested_others env place None = tt
    tested_others env place (Some a) = inner_others (read_code c env place a) (read_low c env place a)

    -- ---- trees

    abbrev mutual
      pub tops : Tree → ℕ
      tops Missing = 0
      tops (Leaf place b arms) = repeat (switches_of (block_at c b).term) (f 251) + arm_ops arms
      tops (Then place first second target) = tops first + tops second
      tops (Loop place body head) = f 246 + tops body
      tops (Dispatch place arms) = f 246 + f 251 + arm_ops arms

      pub arm_ops : Arms → ℕ
      arm_ops No_arm = 0
      arm_ops (Arm target tree arms) = tops tree + arm_ops arms

    -- the code of the tree, from each place on
    abbrev IsLow : Tree → Type 0
    IsLow tree = (p : ℕ) → ops (row_code c p tree) ≤ tops tree

    when_low : (place k : ℕ) (tree : Tree) → IsLow tree → ops (when_code c place k tree (λ q. row_code c q tree)) ≤ tops tree
    when_low place k tree low =
        let head = when_head c place k (label_at tree) (place_of tree) in
        let inner = row_code c (place + length head) tree in
        behind head (inner ++ onwards (passed_label (place_of tree))) (tops tree) (refl, (refl, (refl, (refl, (refl, tt))))) (before inner (onwards (passed_label (place_of tree))) (tops tree) (low (place + length head)) (refl, (refl, tt)))

    arm_low : (place meet : ℕ) (tree : Tree) → IsLow tree → ops (arm_code place meet tree (λ q. row_code c q tree)) ≤ tops tree
    arm_low place meet tree low =
        let inner = row_code c (place + 1) tree in
        behind (label_inst (label_at tree) ∷ []) (inner ++ (branch_inst meet ∷ [])) (tops tree) (refl, tt) (before inner (branch_inst meet ∷ []) (tops tree) (low (place + 1)) (refl, tt))

    one_test : (k place : ℕ) (tree : Tree) (arms : Arms) → IsLow tree → ops (one_arm c k place arms) ≤ arm_ops arms → (b : Bool) → ops (if b then (onwards (label_at tree) ++ row_code c (place + length (onwards (label_at tree))) tree) else one_arm c k place arms) ≤ tops tree + arm_ops arms
    one_test k place tree arms low rest true =
        let inner = behind (onwards (label_at tree)) (row_code c (place + 2) tree) (tops tree) (refl, (refl, tt)) (low (place + 2)) in
        omega (arith, inner)
    one_test k place tree arms low rest false = omega (arith, rest)

    loop_low : (r place first k there other q : ℕ) (inner : List Inst) (n : ℕ) → ops inner ≤ n → ops (header_code r first ++ (inner ++ footer_code c r q k there other)) ≤ f 246 + n
    loop_low r place first k there other q inner n low =
        let rest = before inner (footer_code c r q k there other) n low (refl, (refl, (refl, (refl, (refl, (refl, tt)))))) in
        let branch = quiet 249 refl in
        let label = quiet 248 refl in
        join (header_code r first) (inner ++ footer_code c r q k there other) (f 246) n (omega (arith, branch, label)) rest

    record ArmsLow (r : ℕ) (arms : Arms) : Type 0 where
      one : (k p : ℕ) → ops (one_arm c k p arms) ≤ arm_ops arms
      met : (meet p : ℕ) → ops (met_arms c meet p arms) ≤ arm_ops arms
      wanted : (p : ℕ) → ops (wanted_arms c p arms) ≤ arm_ops arms

    exit_ops : (r : ℕ) (term : Term) (arms : Arms) → ArmsLow r arms → (env : Env) (way : Way) (place : ℕ) → ops (exit_code c (chosen_label r) term (arm_label arms) (next_blocks term) (λ k p. one_arm c k p arms) (λ p. met_arms c (chosen_label r) p arms) (λ p. wanted_arms c p arms) env way place) ≤ of_term term + arm_ops arms
    exit_ops r term arms has env Ends place =
        none_of (of_term term + arm_ops arms) _ (inner_others _ (store_low (c.slot Want) (number c (no_block c))))
    exit_ops r term arms has env (Goes k) place =
        let one = has.one k place in
        omega (arith, one)
    exit_ops r term arms has env Chooses place =
        let meet = chosen_label r in
        let test = tested_code c env place (tested term) in
        let id = tested_id c env place (tested term) in
        let p = place + length test in
        let chosen = choose_code c p meet id term (arm_label arms) (loose (arm_label arms) (next_blocks term)) in
        let code = met_arms c meet (p + length chosen) arms in
        behind test (chosen ++ (code ++ (label_inst meet ∷ []))) (of_term term + arm_ops arms) (tested_others env place (tested term)) (join chosen (code ++ (label_inst meet ∷ [])) (of_term term) (arm_ops arms) (choose_low p meet id term (arm_label arms) (loose (arm_label arms) (next_blocks term))) (before code (label_inst meet ∷ []) (arm_ops arms) (has.met meet (p + length chosen)) (refl, tt)))
    exit_ops r term arms has env Splits place =
        let test = tested_code c env place (tested term) in
        let id = tested_id c env place (tested term) in
        let p = place + length test in
        let split = split_code c p id term in
        behind test (split ++ wanted_arms c (p + length split) arms) (of_term term + arm_ops arms) (tested_others env place (tested term)) (join split (wanted_arms c (p + length split) arms) (of_term term) (arm_ops arms) (split_low p id term) (has.wanted (p + length split)))

    leaf_ops : (r b : ℕ) (arms : Arms) → ArmsLow r arms → (p : ℕ) → ops (row_code c p (Leaf r b arms)) ≤ tops (Leaf r b arms)
    leaf_ops r b arms has p =
        let block = block_at c b in
        let code = block_code c p b block in
        let q = p + length code in
        let env = block_env c p block in
        let exit = exit_code c (chosen_label r) block.term (arm_label arms) (next_blocks block.term) (λ k p. one_arm c k p arms) (λ p. met_arms c (chosen_label r) p arms) (λ p. wanted_arms c p arms) env (way_of block.term) q in
        behind code exit (tops (Leaf r b arms)) (block_others c p b block) (exit_ops r block.term arms has env (way_of block.term) q)

    dispatch_ops : (r place : ℕ) (arms : Arms) → ((meet p : ℕ) → ops (met_arms c meet p arms) ≤ arm_ops arms) → ops (row_code c place (Dispatch r arms)) ≤ tops (Dispatch r arms)
    dispatch_ops r place arms met =
        let head = dispatch_head c r place arms in
        let p = place + length head in
        let code = met_arms c (chosen_label r) p arms in
        let q = p + length code in
        let branch = quiet 249 refl in
        let label = quiet 248 refl in
        let load = quiet 61 refl in
        let select = quiet 247 refl in
        let rest = before code (dispatch_tail c r q) (arm_ops arms) (met (chosen_label r) p) (refl, (refl, (refl, (refl, (refl, (refl, (refl, tt))))))) in
        join head (code ++ dispatch_tail c r q) (f 246 + f 251) (arm_ops arms) (omega (arith, branch, label, load, select)) rest

  mutual
    pub row_ops : (c : Context) (tree : Tree) → IsLow c tree
    row_ops c Missing p = omega arith
    row_ops c (Leaf r b arms) p =
        leaf_ops c r b arms (record { one = λ k q. one_ops c arms k q; met = λ meet q. met_ops c arms meet q; wanted = λ q. wanted_ops c arms q }) p
    row_ops c (Then r first second target) p =
        let code = row_code c p first in
        join code (when_code c (p + length code) target second (λ q. row_code c q second)) (tops c first) (tops c second) (row_ops c first p) (when_low c (p + length code) target second (row_ops c second))
    row_ops c (Loop r body head) p =
        let code = row_code c (p + 3) body in
        loop_low c r p (label_at body) head (header_label r) (merge_label r) (p + 3 + length code) code (tops c body) (row_ops c body (p + 3))
    row_ops c (Dispatch r arms) p = dispatch_ops c r p arms (λ meet q. met_ops c arms meet q)

    one_ops : (c : Context) (arms : Arms) (k place : ℕ) → ops (one_arm c k place arms) ≤ arm_ops c arms
    one_ops c No_arm k place =
        let store = quiet 62 refl in
        omega (arith, store)
    one_ops c (Arm target tree arms) k place =
        one_test c k place tree arms (row_ops c tree) (one_ops c arms k place) (nat_eq k target)

    met_ops : (c : Context) (arms : Arms) (meet place : ℕ) → ops (met_arms c meet place arms) ≤ arm_ops c arms
    met_ops c No_arm meet place = omega arith
    met_ops c (Arm target tree arms) meet place =
        let front = arm_code place meet tree (λ q. row_code c q tree) in
        join front (met_arms c meet (place + length front) arms) (tops c tree) (arm_ops c arms) (arm_low c place meet tree (row_ops c tree)) (met_ops c arms meet (place + length front))

    wanted_ops : (c : Context) (arms : Arms) (place : ℕ) → ops (wanted_arms c place arms) ≤ arm_ops c arms
    wanted_ops c No_arm place = omega arith
    wanted_ops c (Arm target tree arms) place =
        let front = when_code c place target tree (λ q. row_code c q tree) in
        join front (wanted_arms c (place + length front) arms) (tops c tree) (arm_ops c arms) (when_low c place target tree (row_ops c tree)) (wanted_ops c arms (place + length front))
