-- The code of a tree of regions is a row.
use Rattle.std.proofs.Common.{◌≡◌, ◌⊎◌, inl, inr, ℕ, zero, suc, ◌+◌, ◌≤◌, Bool, true, false, List, [], ◌∷◌, ◌++◌, length, append_assoc, Option, Some, refl, sym, ap, ◌∙◌, subst, arith}
use Rattle.std.specs.Prelude.{slice_get, Contains, not, nat_eq, if◌then◌else◌}
use Rattle.dxil_form.specs.declared.block.Term.{Term}
use Rattle.dxil_form.specs.Branches.{has, targets}
use Rattle.spv_form.specs.declared.module.Inst.{Inst}
use Rattle.flow_blocks.specs.Blocks.{every_second}
use Rattle.spirv_code.specs.declared.key.Slot.TheVariants.{Want}
use Rattle.spirv_code.specs.declared.way.Way.{Way}
use Rattle.spirv_code.specs.declared.way.Way.TheVariants.{Ends, Goes, Chooses, Splits}
use Rattle.spirv_code.specs.Plans.{Context, result, number, variable, header_label, body_label, continue_label, merge_label, chosen_label, passed_label}
use Rattle.spirv_code.specs.Reads.{Env}
use Rattle.spirv_code.specs.Accesses.{int_inst}
use Rattle.spirv_code.specs.Leaves.{next_blocks, way_of, block_env, block_code}
use Rattle.spirv_code.specs.Exits.{want_inst, is_wanted, no_block, loose, choose_code, split_code, tested, tested_code, tested_id, exit_code}
use Rattle.spirv_code.specs.Trees.{Tree, Missing, Leaf, Then, Loop, Dispatch, Arms, No_arm, Arm, label_at, begins_plainly, place_of, arm_label}
use Rattle.spirv_code.specs.Rows.{when_code, onwards, arm_code, header_code, footer_code, arm_pairs, block_at, row_code, one_arm, met_arms, wanted_arms}
use Rattle.line_runs.proofs.Tests.{none_some, true_false, nat_eq-eq}
use Rattle.row_laws.proofs.Basics.{none, in_cons, next_in}
use Rattle.written_rows.specs.Code.{label_inst, branch_inst, selection_inst, fork_inst, switch_inst, switch, AreWays, RowCode, cycle, ArmsCode, no_arm, arm}
use Rattle.module_structure.specs.Depth.{depth_of, arms_depth}
use Rattle.module_structure.proofs.Inner.{store_low}
use Rattle.module_structure.proofs.Tails.{Tail, inner_tail, tail_then, tail_onward, tail_select, row_of, one_way}
use Rattle.module_structure.proofs.Lines.{block_tail}
use Rattle.module_structure.proofs.Exits.{Armed, choose_tail, split_tail, tested_tail}

-- ---- what is asked of the arms of a leaf: its terminator may go to each of them

abbrev pub Reaches : List ℕ → (ℕ → Option ℕ) → Arms → Type 0
Reaches ts labels No_arm = Unit {0}
Reaches ts labels (Arm target tree arms) =
    (has target ts ≡ true) × (labels target ≡ Some (label_at tree)) × Reaches ts labels arms

abbrev mutual
  pub Fits : Context → Tree → Type 0
  Fits c Missing = ⊥
  Fits c (Leaf r b arms) = Reaches (targets (block_at c b).term) (arm_label arms) arms × FitsArms c arms
  Fits c (Then r first second target) = Fits c first × Fits c second
  Fits c (Loop r body head) = Fits c body
  Fits c (Dispatch r arms) = FitsArms c arms

  pub FitsArms : Context → Arms → Type 0
  FitsArms c No_arm = Unit {0}
  FitsArms c (Arm target tree arms) = Fits c tree × FitsArms c arms

-- ---- the blocks and the labels of arms

abbrev pub arm_keys : Arms → List ℕ
arm_keys No_arm = []
arm_keys (Arm target tree arms) = target ∷ arm_keys arms

abbrev pub arm_ids : Arms → List ℕ
arm_ids No_arm = []
arm_ids (Arm target tree arms) = label_at tree ∷ arm_ids arms

told : (arms : Arms) (k id : ℕ) → arm_label arms k ≡ Some id → (i : ℕ) × (slice_get (arm_keys arms) i ≡ Some k) × (slice_get (arm_ids arms) i ≡ Some id)
told No_arm k id e = absurd (none_some e)
told (Arm target tree arms) k id e = by_test (nat_eq k target) refl e (told arms k id)
  where
    by_test : (b : Bool) → nat_eq k target ≡ b → (if b then Some (label_at tree) else arm_label arms k) ≡ Some id → (arm_label arms k ≡ Some id → (i : ℕ) × (slice_get (arm_keys arms) i ≡ Some k) × (slice_get (arm_ids arms) i ≡ Some id)) → (i : ℕ) × (slice_get (target ∷ arm_keys arms) i ≡ Some k) × (slice_get (label_at tree ∷ arm_ids arms) i ≡ Some id)
    by_test true same e rest = (0, ap Some (sym (nat_eq-eq k target same)), e)
    by_test false same e rest =
        let r = rest e in
        (suc r.0, r.1, r.2)

reached : (ts : List ℕ) (labels : ℕ → Option ℕ) (arms : Arms) → Reaches ts labels arms → (id : ℕ) → Contains (arm_ids arms) id → (k : ℕ) × (has k ts ≡ true) × (labels k ≡ Some id)
reached ts labels No_arm h id i = absurd (none id i)
reached ts labels (Arm target tree arms) h id i = elim (in_cons id (label_at tree) (arm_ids arms) i) [
  | inl e ↦ (target, h.0, h.1 ∙ ap Some (sym e))
  | inr j ↦ reached ts labels arms h.2 id j
]

armed : (ts : List ℕ) (arms : Arms) → Reaches ts (arm_label arms) arms → Armed (arm_label arms) ts (arm_keys arms) (arm_ids arms)
armed ts arms h = record { told = told arms; reached = reached ts (arm_label arms) arms h }

pair_labels : (arms : Arms) → every_second (arm_pairs arms) ≡ arm_ids arms
pair_labels No_arm = refl
pair_labels (Arm target tree arms) = ap (λ ids. label_at tree ∷ ids) (pair_labels arms)

-- ---- pieces of regions

abbrev pub is_loop : Tree → Bool
is_loop tree = not (begins_plainly tree)

-- a loop, of which the body is a row
round_code : (c : Context) (d label r place k there other first : ℕ) (b : Bool) (body : List Inst) → RowCode d b first body → ((there ≡ label) × (other ≡ merge_label r)) ⊎ ((there ≡ merge_label r) × (other ≡ label)) → RowCode (suc d) true label (header_code r first ++ (body ++ footer_code c r place k there other))
round_code c d label r place k there other first b body row round =
    cycle d b label (merge_label r) (continue_label r) first (result c (place + 2 + 1)) there other body (is_wanted c (place + 2) k) _ row (omega arith, (omega arith, tt)) round refl

dispatch_row : (c : Context) (d r place : ℕ) (arms : Arms) → ((p : ℕ) → ArmsCode d (chosen_label r) (arm_ids arms) (met_arms c (chosen_label r) p arms)) → RowCode (suc (suc d)) true (header_label r) (row_code c place (Dispatch r arms))
dispatch_row c d r place arms met =
    let meet = chosen_label r in
    let p = place + 6 in
    let code = met_arms c meet p arms in
    let q = p + length code in
    let load : List Inst = int_inst c (place + 3) 61 (variable c Want ∷ []) ∷ [] in
    let x = switch_inst (result c (place + 3)) meet (arm_pairs arms) in
    let body : List Inst = selection_inst meet ∷ x ∷ (code ++ (label_inst meet ∷ [])) in
    let footer = footer_code c r (q + 1) (no_block c) (merge_label r) (header_label r) in
    let select = tail_select d meet (arm_ids arms) (meet ∷ every_second (arm_pairs arms)) x code (switch (result c (place + 3)) meet (arm_pairs arms)) (ways meet) (met p) in
    let row = row_of (suc d) (body_label r) (load ++ body) (tail_then (suc d) load body (inner_tail (suc d) load (omega arith, tt)) select) in
    let whole : (load ++ body) ++ footer ≡ load ++ (selection_inst meet ∷ x ∷ (code ++ (label_inst meet ∷ footer))) = ap (λ is. load ++ (selection_inst meet ∷ x ∷ is)) (append_assoc code (label_inst meet ∷ []) footer) in
    subst (λ is. RowCode (suc (suc d)) true (header_label r) (header_code r (body_label r) ++ is)) whole (round_code c (suc d) (header_label r) r (q + 1) (no_block c) (merge_label r) (header_label r) (body_label r) false (load ++ body) row (inr (refl, refl)))
  where
    ways : (meet : ℕ) → AreWays meet (arm_ids arms) (meet ∷ every_second (arm_pairs arms))
    ways meet =
        record { each = λ id h. elim (in_cons id meet (every_second (arm_pairs arms)) h) [ inl e ↦ inl e | inr i ↦ inr (subst (λ is. Contains is id) (pair_labels arms) i) ]; all = λ id h. next_in meet id (every_second (arm_pairs arms)) (subst (λ is. Contains is id) (sym (pair_labels arms)) h) }

module _ (c : Context) (d : ℕ) where
  -- the code of the tree, from each place on
  abbrev pub IsRow : Tree → Type 0
  IsRow tree = (p : ℕ) → RowCode d (is_loop tree) (label_at tree) (row_code c p tree)

  when_tail : (place k : ℕ) (tree : Tree) → IsRow tree → Tail (suc d) (when_code c place k tree (λ q. row_code c q tree))
  when_tail place k tree row =
      let test = is_wanted c place k in
      let passed = passed_label (place_of tree) in
      let inner = row_code c (place + 5) tree in
      tail_then (suc d) test (selection_inst passed ∷ fork_inst (result c (place + 1)) (label_at tree) passed ∷ label_inst (label_at tree) ∷ (inner ++ (branch_inst passed ∷ label_inst passed ∷ []))) (inner_tail (suc d) test (omega arith, (omega arith, tt))) (one_way d (is_loop tree) passed (result c (place + 1)) (label_at tree) passed inner refl (row (place + 5)))

  arm_met : (place meet : ℕ) (tree : Tree) (ids : List ℕ) (rest : List Inst) → IsRow tree → ArmsCode d meet ids rest → ArmsCode d meet (label_at tree ∷ ids) (arm_code place meet tree (λ q. row_code c q tree) ++ rest)
  arm_met place meet tree ids rest row code =
      let body = row_code c (place + 1) tree in
      arm d (is_loop tree) meet (label_at tree) ids body rest _ (row (place + 1)) code (ap (λ is. label_inst (label_at tree) ∷ is) (append_assoc body (branch_inst meet ∷ []) rest))

  one_test : (k place : ℕ) (tree : Tree) (arms : Arms) → IsRow tree → Tail d (one_arm c k place arms) → (b : Bool) → Tail d (if b then (onwards (label_at tree) ++ row_code c (place + length (onwards (label_at tree))) tree) else one_arm c k place arms)
  one_test k place tree arms row rest true =
      tail_onward d (is_loop tree) (label_at tree) (row_code c (place + 2) tree) (row (place + 2))
  one_test k place tree arms row rest false = rest

  -- ---- how a leaf is left

  -- the codes of its arms, one of which runs
  record HasArms (r : ℕ) (arms : Arms) : Type 0 where
    one : (k p : ℕ) → Tail (suc d) (one_arm c k p arms)
    met : (p : ℕ) → ArmsCode d (chosen_label r) (arm_ids arms) (met_arms c (chosen_label r) p arms)
    wanted : (p : ℕ) → Tail (suc d) (wanted_arms c p arms)

  exit_tail : (r : ℕ) (term : Term) (arms : Arms) → Reaches (targets term) (arm_label arms) arms → HasArms r arms → (env : Env) (way : Way) → way_of term ≡ way → (place : ℕ) → Tail (suc d) (exit_code c (chosen_label r) term (arm_label arms) (next_blocks term) (λ k p. one_arm c k p arms) (λ p. met_arms c (chosen_label r) p arms) (λ p. wanted_arms c p arms) env way place)
  exit_tail r term arms h has env Ends is place =
      inner_tail (suc d) _ (store_low (c.slot Want) (number c (no_block c)))
  exit_tail r term arms h has env (Goes k) is place = has.one k place
  exit_tail r term arms h has env Chooses is place =
      let meet = chosen_label r in
      let test = tested_code c env place (tested term) in
      let id = tested_id c env place (tested term) in
      let p = place + length test in
      let chosen = choose_code c p meet id term (arm_label arms) (loose (arm_label arms) (next_blocks term)) in
      let code = met_arms c meet (p + length chosen) arms in
      tail_then (suc d) test (chosen ++ (code ++ (label_inst meet ∷ []))) (tested_tail c d env place (tested term)) (choose_tail c d p meet id term (arm_label arms) (arm_keys arms) (arm_ids arms) code is (armed (targets term) arms h) (has.met (p + length chosen)))
  exit_tail r term arms h has env Splits is place =
      let test = tested_code c env place (tested term) in
      let id = tested_id c env place (tested term) in
      let p = place + length test in
      let split = split_code c p id term in
      tail_then (suc d) test (split ++ wanted_arms c (p + length split) arms) (tested_tail c d env place (tested term)) (tail_then (suc d) split (wanted_arms c (p + length split) arms) (split_tail c d p id term) (has.wanted (p + length split)))

  leaf_tail : (r b : ℕ) (arms : Arms) → Reaches (targets (block_at c b).term) (arm_label arms) arms → HasArms r arms → (p : ℕ) → Tail (suc d) (row_code c p (Leaf r b arms))
  leaf_tail r b arms reach has p =
      let block = block_at c b in
      let code = block_code c p b block in
      let q = p + length code in
      let env = block_env c p block in
      let exit = exit_code c (chosen_label r) block.term (arm_label arms) (next_blocks block.term) (λ k p. one_arm c k p arms) (λ p. met_arms c (chosen_label r) p arms) (λ p. wanted_arms c p arms) env (way_of block.term) q in
      tail_then (suc d) code exit (block_tail c d p b block) (exit_tail r block.term arms reach has env (way_of block.term) refl q)

-- ---- regions

mutual
  pub row_is : (c : Context) (d : ℕ) (tree : Tree) → Fits c tree → depth_of tree ≤ d → IsRow c d tree
  row_is c d Missing h low p = absurd h
  row_is c zero (Leaf r b arms) h low p = absurd (omega (arith, low))
  row_is c (suc d) (Leaf r b arms) h low p =
      row_of (suc d) (label_at (Leaf r b arms)) (row_code c p (Leaf r b arms)) (leaf_tail c d r b arms h.0 (record { one = λ k q. one_is c (suc d) arms h.1 (omega (arith, low)) k q; met = λ q. met_is c d arms h.1 (omega (arith, low)) (chosen_label r) q; wanted = λ q. wanted_is c d arms h.1 (omega (arith, low)) q }) p)
  row_is c zero (Then r first second target) h low p = absurd (omega (arith, low))
  row_is c (suc d) (Then r first second target) h low p =
      let code = row_code c p first in
      when_tail c d (p + length code) target second (row_is c d second h.1 (omega (arith, low))) (is_loop first) (label_at first) code (row_is c (suc d) first h.0 (omega (arith, low)) p)
  row_is c zero (Loop r body head) h low p = absurd (omega (arith, low))
  row_is c (suc d) (Loop r body head) h low p =
      let code = row_code c (p + 3) body in
      round_code c d (header_label r) r (p + 3 + length code) head (header_label r) (merge_label r) (label_at body) (is_loop body) code (row_is c d body h (omega (arith, low)) (p + 3)) (inl (refl, refl))
  row_is c zero (Dispatch r arms) h low p = absurd (omega (arith, low))
  row_is c (suc zero) (Dispatch r arms) h low p = absurd (omega (arith, low))
  row_is c (suc (suc d)) (Dispatch r arms) h low p =
      dispatch_row c d r p arms (λ q. met_is c d arms h (omega (arith, low)) (chosen_label r) q)

  one_is : (c : Context) (d : ℕ) (arms : Arms) → FitsArms c arms → arms_depth arms ≤ d → (k place : ℕ) → Tail d (one_arm c k place arms)
  one_is c d No_arm h low k place = inner_tail d (want_inst c k ∷ []) (omega arith, tt)
  one_is c d (Arm target tree arms) h low k place =
      one_test c d k place tree arms (row_is c d tree h.0 (omega (arith, low))) (one_is c d arms h.1 (omega (arith, low)) k place) (nat_eq k target)

  met_is : (c : Context) (d : ℕ) (arms : Arms) → FitsArms c arms → arms_depth arms ≤ d → (meet place : ℕ) → ArmsCode d meet (arm_ids arms) (met_arms c meet place arms)
  met_is c d No_arm h low meet place = no_arm d meet
  met_is c d (Arm target tree arms) h low meet place =
      let front = arm_code place meet tree (λ q. row_code c q tree) in
      arm_met c d place meet tree (arm_ids arms) (met_arms c meet (place + length front) arms) (row_is c d tree h.0 (omega (arith, low))) (met_is c d arms h.1 (omega (arith, low)) meet (place + length front))

  wanted_is : (c : Context) (d : ℕ) (arms : Arms) → FitsArms c arms → arms_depth arms ≤ d → (place : ℕ) → Tail (suc d) (wanted_arms c place arms)
  wanted_is c d No_arm h low place = inner_tail (suc d) [] tt
  wanted_is c d (Arm target tree arms) h low place =
      let front = when_code c place target tree (λ q. row_code c q tree) in
      tail_then (suc d) front (wanted_arms c (place + length front) arms) (when_tail c d place target tree (row_is c d tree h.0 (omega (arith, low)))) (wanted_is c d arms h.1 (omega (arith, low)) (place + length front))

-- code that begins with a leaf may stand behind other code of the leaf's block
pub plain_tail : (c : Context) (d : ℕ) (tree : Tree) → Fits c tree → depth_of tree ≤ d → begins_plainly tree ≡ true → (p : ℕ) → Tail d (row_code c p tree)
plain_tail c d Missing h low plain p = absurd h
plain_tail c zero (Leaf r b arms) h low plain p = absurd (omega (arith, low))
plain_tail c (suc d) (Leaf r b arms) h low plain p =
    leaf_tail c d r b arms h.0 (record { one = λ k q. one_is c (suc d) arms h.1 (omega (arith, low)) k q; met = λ q. met_is c d arms h.1 (omega (arith, low)) (chosen_label r) q; wanted = λ q. wanted_is c d arms h.1 (omega (arith, low)) q }) p
plain_tail c zero (Then r first second target) h low plain p = absurd (omega (arith, low))
plain_tail c (suc d) (Then r first second target) h low plain p =
    let code = row_code c p first in
    tail_then (suc d) code (when_code c (p + length code) target second (λ q. row_code c q second)) (plain_tail c (suc d) first h.0 (omega (arith, low)) plain p) (when_tail c d (p + length code) target second (row_is c d second h.1 (omega (arith, low))))
plain_tail c d (Loop r body head) h low plain p = absurd (true_false (sym plain))
plain_tail c d (Dispatch r arms) h low plain p = absurd (true_false (sym plain))
