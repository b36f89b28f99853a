-- What the code of a tree of regions does: what its blocks do, in their order.
use Rattle.std.proofs.Common.{◌≡◌, ℕ, ◌+◌, ◌≤◌, Bool, true, false, List, [], ◌∷◌, ◌++◌, length, Some, None, refl, sym, ap, ◌∙◌, arith, append_assoc, append-nil}
use Rattle.std.specs.Prelude.{nat_eq, if◌then◌else◌}
use Rattle.std.specs.List.{flat_map}
use Rattle.dxil_form.specs.declared.block.Block.{Block}
use Rattle.dxil_form.specs.declared.block.Term.{Term}
use Rattle.spv_form.specs.declared.module.Inst.{Inst}
use Rattle.spirv_code.specs.declared.key.Slot.TheVariants.{Want}
use Rattle.spirv_code.specs.declared.way.Way.{Way}
use Rattle.spirv_code.specs.declared.way.Way.TheVariants.{Ends, Goes, Chooses, Splits}
use Rattle.spirv_code.specs.Plans.{chosen_label, header_label, merge_label, passed_label}
use Rattle.spirv_code.specs.Reads.{Env}
use Rattle.spirv_code.specs.Leaves.{next_blocks, way_of, block_env, block_code}
use Rattle.spirv_code.specs.Exits.{label_inst, branch_inst, loose, choose_code, split_code, tested, tested_code, tested_id, exit_code, no_block}
use Rattle.spirv_code.specs.Trees.{Tree, Missing, Leaf, Then, Loop, Dispatch, Arms, No_arm, Arm, label_at, place_of, arm_label}
use Rattle.spirv_code.specs.Rows.{when_head, onwards, when_code, arm_code, header_code, footer_code, dispatch_head, dispatch_tail, block_at, row_code, one_arm, met_arms, wanted_arms}
use Rattle.line_runs.specs.Held.{Setting}
use Rattle.formed_rows.proofs.Readiness.{LeafReady, Ready, AreReady}
use Rattle.formed_rows.proofs.Rows.{goes_in, loose_told}
use Rattle.act_form.specs.Acts.{Act, block_acts}
use Rattle.act_form.proofs.Pieces.{Knows, acts, joined, behind, on_load, store_none}
use Rattle.act_form.proofs.Exits.{IsOwn, there_own, on_want, on_wanted, choose_none, split_none, tested_none}
use Rattle.act_form.proofs.Orders.{Leaves, ArmLeaves, exit_order, order, one_order, arms_order}

flat_append : {A B : Type 0} (f : A → List B) (xs ys : List A) → flat_map f (xs ++ ys) ≡ flat_map f xs ++ flat_map f ys
flat_append f [] ys = refl
flat_append f (x ∷ xs) ys =
    ap (λ zs. f x ++ zs) (flat_append f xs ys) ∙ sym (append_assoc (f x) (flat_map f xs) (flat_map f ys))

-- what blocks do, one after the other
abbrev pub done : Setting → List ℕ → List Act
done s bs = flat_map (block_acts s.program) bs

-- the code does what these blocks do
abbrev Does : Setting → List Inst → List ℕ → Type 0
Does s code bs = acts s code ≡ done s bs

-- in front, and nothing behind
before : (s : Setting) (a b : List Inst) (y : List Act) → acts s a ≡ y → acts s b ≡ [] → acts s (a ++ b) ≡ y
before s a b y h k = joined s a b y [] h k ∙ append-nil y

both : (s : Setting) (a b : List Inst) (xs ys : List ℕ) → Does s a xs → Does s b ys → Does s (a ++ b) (xs ++ ys)
both s a b xs ys h k = joined s a b (done s xs) (done s ys) h k ∙ sym (flat_append (block_acts s.program) xs ys)

-- the code of a leaf's block does what the block does
abbrev pub LeafGives : Setting → ℕ → (r b : ℕ) → Type 0
LeafGives s low r b = (place : ℕ) → low ≤ place → acts s (block_code s.context place b (block_at s.context b)) ≡ block_acts s.program b

module _ (s : Setting) (low : ℕ) (knows : Knows s low) where
  -- ---- pieces of regions

  when_gives : (place k : ℕ) (tree : Tree) (inner : ℕ → List Inst) (bs : List ℕ) → IsOwn s Want → low ≤ place → ((p : ℕ) → low ≤ p → Does s (inner p) bs) → Does s (when_code s.context place k tree inner) bs
  when_gives place k tree inner bs own there h =
      let front = when_head s.context place k (label_at tree) (place_of tree) in
      let p : ℕ = place + length front in
      behind s front (inner p ++ onwards (passed_label (place_of tree))) (done s bs) (on_wanted s place k [] own) (before s (inner p) (onwards (passed_label (place_of tree))) (done s bs) (h p (omega (arith, there))) refl)

  arm_gives : (place meet : ℕ) (tree : Tree) (inner : ℕ → List Inst) (bs : List ℕ) → low ≤ place → ((p : ℕ) → low ≤ p → Does s (inner p) bs) → Does s (arm_code place meet tree inner) bs
  arm_gives place meet tree inner bs there h =
      let front : List Inst = label_inst (label_at tree) ∷ [] in
      let p : ℕ = place + length front in
      before s (inner p) (branch_inst meet ∷ []) (done s bs) (h p (omega (arith, there))) refl

  footer_none : (r place k there other : ℕ) → IsOwn s Want → acts s (footer_code s.context r place k there other) ≡ []
  footer_none r place k there other own = on_wanted s (place + 2) k [] own

  one_test : (k place : ℕ) (tree : Tree) (arms : Arms) (xs ys : List ℕ) → low ≤ place → ((p : ℕ) → low ≤ p → Does s (row_code s.context p tree) xs) → ((arm_label arms k ≡ None → IsOwn s Want) → Does s (one_arm s.context k place arms) ys) → (x : Bool) → ((if x then Some (label_at tree) else arm_label arms k) ≡ None → IsOwn s Want) → Does s (if x then (onwards (label_at tree) ++ row_code s.context (place + length (onwards (label_at tree))) tree) else one_arm s.context k place arms) (if x then xs else ys)
  one_test k place tree arms xs ys there inner rest true own =
      inner (place + length (onwards (label_at tree))) (omega (arith, there))
  one_test k place tree arms xs ys there inner rest false own = rest own

  -- ---- how a leaf is left

  exit_gives : (bound r : ℕ) (block : Block) (arms : Arms) → LeafReady bound s.context block arms → ((k place : ℕ) → (arm_label arms k ≡ None → IsOwn s Want) → low ≤ place → Does s (one_arm s.context k place arms) (one_order s.context k arms)) → ((place : ℕ) → low ≤ place → Does s (met_arms s.context (chosen_label r) place arms) (arms_order s.context arms)) → ((place : ℕ) → IsOwn s Want → low ≤ place → Does s (wanted_arms s.context place arms) (arms_order s.context arms)) → (env : Env) (way : Way) → way_of block.term ≡ way → (place : ℕ) → low ≤ place → Does s (exit_code s.context (chosen_label r) block.term (arm_label arms) (next_blocks block.term) (λ k p. one_arm s.context k p arms) (λ p. met_arms s.context (chosen_label r) p arms) (λ p. wanted_arms s.context p arms) env way place) (exit_order way (λ k. one_order s.context k arms) (arms_order s.context arms))
  exit_gives bound r block arms ready one met wanted env Ends is place there = store_none s low knows Want _
  exit_gives bound r block arms ready one met wanted env (Goes k) is place there =
      one k place (λ none. there_own s low knows bound Want (ready.loose k (goes_in block.term k is) none)) there
  exit_gives bound r block arms ready one met wanted env Chooses is place there =
      let term : Term = block.term in
      let meet : ℕ = chosen_label r in
      let test = tested_code s.context env place (tested term) in
      let x : ℕ = tested_id s.context env place (tested term) in
      let p : ℕ = place + length test in
      let ks : List ℕ = loose (arm_label arms) (next_blocks term) in
      let chosen = choose_code s.context p meet x term (arm_label arms) ks in
      let q : ℕ = p + length chosen in
      let inner = met_arms s.context meet q arms in
      let all = done s (arms_order s.context arms) in
      behind s test _ all (tested_none s low knows env place (tested term)) (behind s chosen _ all (choose_none s p meet x term (arm_label arms) ks (λ k among. (let told = loose_told (arm_label arms) term k among in there_own s low knows bound Want (ready.loose k told.1 told.0)))) (before s inner (label_inst meet ∷ []) all (met q (omega (arith, there))) refl))
  exit_gives bound r block arms ready one met wanted env Splits is place there =
      let term : Term = block.term in
      let both_there = ready.split is in
      let want = there_own s low knows bound Want both_there.0 in
      let pick = there_own s low knows bound _ both_there.1 in
      let test = tested_code s.context env place (tested term) in
      let x : ℕ = tested_id s.context env place (tested term) in
      let p : ℕ = place + length test in
      let split = split_code s.context p x term in
      let q : ℕ = p + length split in
      let all = done s (arms_order s.context arms) in
      behind s test _ all (tested_none s low knows env place (tested term)) (behind s split _ all (split_none s want pick p x term) (wanted q want (omega (arith, there))))

-- ---- regions

dispatch_none : (s : Setting) (r place : ℕ) (arms : Arms) → IsOwn s Want → acts s (dispatch_head s.context r place arms) ≡ []
dispatch_none s r place arms own = on_load s _ [] own

mutual
  pub row_gives : (s : Setting) (low : ℕ) → Knows s low → (bound n : ℕ) (tree : Tree) (place : ℕ) → Ready bound s.context n tree → Leaves (LeafGives s low) tree → low ≤ place → Does s (row_code s.context place tree) (order s.context tree)
  row_gives s low knows bound n Missing place h leaves there = absurd h
  row_gives s low knows bound n (Leaf r b arms) place h leaves there =
      let block : Block = block_at s.context b in
      let code = block_code s.context place b block in
      let exit = exit_code s.context (chosen_label r) block.term (arm_label arms) (next_blocks block.term) (λ k p. one_arm s.context k p arms) (λ p. met_arms s.context (chosen_label r) p arms) (λ p. wanted_arms s.context p arms) (block_env s.context place block) (way_of block.term) (place + length code) in
      joined s code exit (block_acts s.program b) _ (leaves.0 place there) (exit_gives s low knows bound r block arms h.1 (λ k p own. one_gives s low knows bound n arms k p h.2 leaves.1 own) (λ p. met_gives s low knows bound n arms (chosen_label r) p h.2 leaves.1) (λ p own. wanted_give s low knows bound n arms p own h.2 leaves.1) (block_env s.context place block) (way_of block.term) refl (place + length code) (omega (arith, there)))
  row_gives s low knows bound n (Then r first second target) place h leaves there =
      let front = row_code s.context place first in
      let p : ℕ = place + length front in
      let want = there_own s low knows bound Want h.1 in
      both s front (when_code s.context p target second (λ q. row_code s.context q second)) (order s.context first) (order s.context second) (row_gives s low knows bound n first place h.2 leaves.0 there) (when_gives s low knows p target second (λ q. row_code s.context q second) (order s.context second) want (omega (arith, there)) (λ q low_q. row_gives s low knows bound n second q h.3 leaves.1 low_q))
  row_gives s low knows bound n (Loop r body head) place h leaves there =
      let front = header_code r (label_at body) in
      let p : ℕ = place + length front in
      let inner = row_code s.context p body in
      let q : ℕ = p + length inner in
      before s inner (footer_code s.context r q head (header_label r) (merge_label r)) (done s (order s.context body)) (row_gives s low knows bound n body p h.2 leaves (omega (arith, there))) (footer_none s low knows r q head (header_label r) (merge_label r) (there_own s low knows bound Want h.1))
  row_gives s low knows bound n (Dispatch r arms) place h leaves there =
      let front = dispatch_head s.context r place arms in
      let p : ℕ = place + length front in
      let inner = met_arms s.context (chosen_label r) p arms in
      let q : ℕ = p + length inner in
      let want = there_own s low knows bound Want h.1 in
      let all = done s (arms_order s.context arms) in
      behind s front (inner ++ dispatch_tail s.context r q) all (dispatch_none s r place arms want) (before s inner (dispatch_tail s.context r q) all (met_gives s low knows bound n arms (chosen_label r) p h.3 leaves (omega (arith, there))) (footer_none s low knows r (q + 1) (no_block s.context) (merge_label r) (header_label r) want))

  one_gives : (s : Setting) (low : ℕ) → Knows s low → (bound n : ℕ) (arms : Arms) (k place : ℕ) → AreReady bound s.context n arms → ArmLeaves (LeafGives s low) arms → (arm_label arms k ≡ None → IsOwn s Want) → low ≤ place → Does s (one_arm s.context k place arms) (one_order s.context k arms)
  one_gives s low knows bound n No_arm k place h leaves own there = on_want s k [] (own refl)
  one_gives s low knows bound n (Arm target tree arms) k place h leaves own there =
      one_test s low knows k place tree arms (order s.context tree) (one_order s.context k arms) there (λ p low_p. row_gives s low knows bound n tree p h.0 leaves.0 low_p) (λ none. one_gives s low knows bound n arms k place h.1 leaves.1 none there) (nat_eq k target) own

  met_gives : (s : Setting) (low : ℕ) → Knows s low → (bound n : ℕ) (arms : Arms) (meet place : ℕ) → AreReady bound s.context n arms → ArmLeaves (LeafGives s low) arms → low ≤ place → Does s (met_arms s.context meet place arms) (arms_order s.context arms)
  met_gives s low knows bound n No_arm meet place h leaves there = refl
  met_gives s low knows bound n (Arm target tree arms) meet place h leaves there =
      let front = arm_code place meet tree (λ q. row_code s.context q tree) in
      both s front (met_arms s.context meet (place + length front) arms) (order s.context tree) (arms_order s.context arms) (arm_gives s low knows place meet tree (λ q. row_code s.context q tree) (order s.context tree) there (λ q low_q. row_gives s low knows bound n tree q h.0 leaves.0 low_q)) (met_gives s low knows bound n arms meet (place + length front) h.1 leaves.1 (omega (arith, there)))

  wanted_give : (s : Setting) (low : ℕ) → Knows s low → (bound n : ℕ) (arms : Arms) (place : ℕ) → IsOwn s Want → AreReady bound s.context n arms → ArmLeaves (LeafGives s low) arms → low ≤ place → Does s (wanted_arms s.context place arms) (arms_order s.context arms)
  wanted_give s low knows bound n No_arm place own h leaves there = refl
  wanted_give s low knows bound n (Arm target tree arms) place own h leaves there =
      let front = when_code s.context place target tree (λ q. row_code s.context q tree) in
      both s front (wanted_arms s.context (place + length front) arms) (order s.context tree) (arms_order s.context arms) (when_gives s low knows place target tree (λ q. row_code s.context q tree) (order s.context tree) own there (λ q low_q. row_gives s low knows bound n tree q h.0 leaves.0 low_q)) (wanted_give s low knows bound n arms (place + length front) own h.1 leaves.1 (omega (arith, there)))
