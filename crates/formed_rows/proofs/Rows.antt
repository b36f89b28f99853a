-- The code of a tree of regions is formed.
use Rattle.std.proofs.Common.{◌≡◌, ℕ, ◌+◌, ◌*◌, ◌≤◌, ◌<◌, Bool, true, false, List, [], ◌∷◌, ◌++◌, length, length-append, Option, Some, None, refl, sym, ap, ◌∙◌, subst, arith}
use Rattle.std.specs.Prelude.{slice_get, nat_eq, nat_lt, if◌then◌else◌, ◌||◌}
use Rattle.dxil_form.specs.declared.value.Operand.{Operand}
use Rattle.dxil_form.specs.declared.block.Block.{Block}
use Rattle.dxil_form.specs.declared.block.Term.{Term}
use Rattle.dxil_form.specs.declared.block.Term.TheVariants.{Unreachable}
use Rattle.dxil_form.specs.Branches.{has, targets}
use Rattle.dxil_form.specs.Sound.{cases_in}
use Rattle.spv_form.specs.declared.module.Inst.{Inst}
use Rattle.spv_form.specs.Formed.{IsIdBelow}
use Rattle.spirv_code.specs.declared.key.Slot.TheVariants.{Want}
use Rattle.spirv_code.specs.declared.way.Way.{Way}
use Rattle.spirv_code.specs.declared.way.Way.TheVariants.{Ends, Goes, Chooses, Splits}
use Rattle.spirv_code.specs.Plans.{Context, inst, label, result, header_label, body_label, continue_label, merge_label, chosen_label, passed_label}
use Rattle.spirv_code.specs.Reads.{Env}
use Rattle.spirv_code.specs.Leaves.{phis_of, next_blocks, way_to, way_of, most_pairs, block_env, block_code}
use Rattle.spirv_code.specs.Exits.{label_inst, branch_inst, selection_inst, is_wanted, no_block, unarmed, loose, choose_code, split_code, tested, tested_code, tested_id, exit_code}
use Rattle.spirv_code.specs.Trees.{Tree, Missing, Leaf, Then, Loop, Dispatch, Arms, No_arm, Arm, label_at, place_of, arm_label}
use Rattle.spirv_code.specs.Rows.{when_head, onwards, when_code, arm_code, header_code, footer_code, arm_pairs, select_arm, dispatch_head, dispatch_tail, block_at, row_code, one_arm, met_arms, wanted_arms}
use Rattle.line_runs.proofs.Tests.{none_some, some_inj, true_false, nat_eq-eq}
use Rattle.region_runs.proofs.Targets.{has_different, has_here, has_there, goes_alone}
use Rattle.formed_lines.specs.Formed.{KeysBelow, SlotsBelow, KnownBelow}
use Rattle.formed_lines.proofs.Lists.{AreFormed, join, up, upto_front, upto_back}
use Rattle.formed_lines.proofs.Shapes.{load_formed, label_formed, branch_formed, conditional_formed, selection_formed, merge_formed}
use Rattle.formed_lines.proofs.Operands.{stored_formed}
use Rattle.formed_rows.proofs.Pieces.{Forms, behind, IsThere}
use Rattle.formed_rows.proofs.Blocks.{PhisBelow, block_ok}
use Rattle.formed_rows.proofs.Switches.{ArePairs, switch_formed}
use Rattle.formed_rows.proofs.Exits.{want_formed, wanted_formed, choose_formed, split_formed, tested_formed, tested_ok}
use Rattle.formed_rows.proofs.Readiness.{LeafReady, arms_in, Ready, AreReady}

-- the ids that are there
pub record Base (b : ℕ) (c : Context) (n : ℕ) : Type 0 where
  pub keys : KeysBelow b c
  pub slots : SlotsBelow b c
  -- both variables of each phi
  pub phis : (k : ℕ) → PhisBelow b c (phis_of (slice_get c.blocks k))
  -- the labels of n regions
  pub labels : (r kind : ℕ) → r < n → kind < 8 → IsIdBelow b (label r kind)

-- ---- the blocks that a leaf goes to

pub goes_in : (term : Term) (k : ℕ) → way_of term ≡ Goes k → has k (targets term) ≡ true
goes_in term k way =
    let one = goes_alone (next_blocks term) (cases_in term) k way in
    sym (has_different k (targets term)) ∙ ap (has k) one ∙ has_here k []

chooses_few : (ks : List ℕ) (cases : ℕ) → way_to ks cases ≡ Chooses → cases ≤ most_pairs
chooses_few [] cases e = absurd (cc e)
chooses_few (k ∷ []) cases e = absurd (cc e)
chooses_few (k ∷ l ∷ ks) cases e = by_test (nat_lt most_pairs cases) refl e
  where
    at_most : (x y : ℕ) → nat_lt x y ≡ false → y ≤ x
    at_most x y f = grind arith

    by_test : (x : Bool) → nat_lt most_pairs cases ≡ x → (if x then Splits else Chooses) ≡ Chooses → cases ≤ most_pairs
    by_test true f e = absurd (cc e)
    by_test false f e = at_most most_pairs cases f

-- what `unarmed` keeps of one block
abbrev kept_with : ℕ → Option ℕ → List ℕ → List ℕ
kept_with k None rest = k ∷ rest
kept_with k (Some id) rest = rest

unarmed_one : (labels : ℕ → Option ℕ) (x : ℕ) (ks : List ℕ) → unarmed labels (x ∷ ks) ≡ kept_with x (labels x) (unarmed labels ks)
unarmed_one labels x ks = refl

unarmed_told : (labels : ℕ → Option ℕ) (ks : List ℕ) (k : ℕ) → has k (unarmed labels ks) ≡ true → (labels k ≡ None) × (has k ks ≡ true)
unarmed_told labels [] k h = absurd (true_false (sym h))
unarmed_told labels (x ∷ ks) k h = by_label (labels x) refl h (unarmed_told labels ks k)
  where
    rest_of : (labels k ≡ None) × (has k ks ≡ true) → (labels k ≡ None) × (has k (x ∷ ks) ≡ true)
    rest_of r = (r.0, has_there k x ks r.1)

    by_same : (y : Bool) → nat_eq k x ≡ y → labels x ≡ None → (y || has k (unarmed labels ks)) ≡ true → (has k (unarmed labels ks) ≡ true → (labels k ≡ None) × (has k ks ≡ true)) → (labels k ≡ None) × (has k (x ∷ ks) ≡ true)
    by_same true same none h rest = (ap labels (nat_eq-eq k x same) ∙ none, ap (λ y. y || has k ks) same)
    by_same false same none h rest = rest_of (rest h)

    by_label : (o : Option ℕ) → labels x ≡ o → has k (kept_with x o (unarmed labels ks)) ≡ true → (has k (unarmed labels ks) ≡ true → (labels k ≡ None) × (has k ks ≡ true)) → (labels k ≡ None) × (has k (x ∷ ks) ≡ true)
    by_label None none h rest = by_same (nat_eq k x) refl none h rest
    by_label (Some id) some h rest = rest_of (rest h)

pub loose_told : (labels : ℕ → Option ℕ) (term : Term) (k : ℕ) → has k (loose labels (next_blocks term)) ≡ true → (labels k ≡ None) × (has k (targets term) ≡ true)
loose_told labels term k h =
    let r = unarmed_told labels (next_blocks term) k (sym (has_different k (unarmed labels (next_blocks term))) ∙ h) in
    (r.0, sym (has_different k (targets term)) ∙ r.1)

-- ---- the block of a leaf

abbrev pub block_or : Option Block → Block
block_or None = record { phis = []; instrs = []; term = Unreachable }
block_or (Some block) = block

phis_same : (o : Option Block) → (block_or o).phis ≡ phis_of o
phis_same None = refl
phis_same (Some block) = refl

block_phis : (b : ℕ) (c : Context) (n : ℕ) → Base b c n → (k : ℕ) → PhisBelow b c (block_at c k).phis
block_phis b c n base k = subst (PhisBelow b c) (sym (phis_same (slice_get c.blocks k))) (base.phis k)

-- ---- labels

module _ (b : ℕ) (c : Context) (n : ℕ) (base : Base b c n) where
  label_ok : (tree : Tree) → Ready b c n tree → IsIdBelow b (label_at tree)
  label_ok Missing h = absurd h
  label_ok (Leaf r k arms) h = base.labels r 0 h.0 (omega arith)
  label_ok (Then r first second target) h = label_ok first h.2
  label_ok (Loop r body head) h = base.labels r 1 h.0 (omega arith)
  label_ok (Dispatch r arms) h = base.labels r 1 h.0 (omega arith)

  passed_ok : (tree : Tree) → Ready b c n tree → IsIdBelow b (passed_label (place_of tree))
  passed_ok Missing h = absurd h
  passed_ok (Leaf r k arms) h = base.labels r 6 h.0 (omega arith)
  passed_ok (Then r first second target) h = base.labels r 6 h.0 (omega arith)
  passed_ok (Loop r body head) h = base.labels r 6 h.0 (omega arith)
  passed_ok (Dispatch r arms) h = base.labels r 6 h.0 (omega arith)

  armed_ok : (arms : Arms) → AreReady b c n arms → (k id : ℕ) → arm_label arms k ≡ Some id → IsIdBelow b id
  armed_ok No_arm h k id e = absurd (none_some e)
  armed_ok (Arm target tree arms) h k id e = by_test (nat_eq k target) e (armed_ok arms h.1 k id)
    where
      by_test : (x : Bool) → (if x then Some (label_at tree) else arm_label arms k) ≡ Some id → (arm_label arms k ≡ Some id → IsIdBelow b id) → IsIdBelow b id
      by_test true e rest = subst (IsIdBelow b) (some_inj e) (label_ok tree h.0)
      by_test false e rest = rest e

  pairs_ok : (arms : Arms) → AreReady b c n arms → ArePairs b (arm_pairs arms)
  pairs_ok No_arm h = tt
  pairs_ok (Arm target tree arms) h = (label_ok tree h.0, pairs_ok arms h.1)

  pairs_length : (arms : Arms) → length (arm_pairs arms) ≡ 2 * arms_in arms
  pairs_length No_arm = refl
  pairs_length (Arm target tree arms) =
      let rest = pairs_length arms in
      omega (arith, rest)

  -- ---- pieces of regions

  onwards_formed : (id : ℕ) → IsIdBelow b id → AreFormed b (onwards id)
  onwards_formed id ok = (branch_formed b id ok, (label_formed b id ok, tt))

  when_formed : (place k : ℕ) (tree : Tree) (inner : ℕ → List Inst) → Ready b c n tree → IsThere b c Want → ((p : ℕ) → Forms b c p (inner p)) → Forms b c place (when_code c place k tree inner)
  when_formed place k tree inner h there rest =
      let front = when_head c place k (label_at tree) (place_of tree) in
      let p : ℕ = place + length front in
      let passed : ℕ = passed_label (place_of tree) in
      let split : List Inst = selection_inst passed ∷ inst 250 (result c (place + 1) ∷ label_at tree ∷ passed ∷ []) ∷ label_inst (label_at tree) ∷ [] in
      let first : Forms b c place front = λ upto. join b (is_wanted c place k) split (wanted_formed b c base.keys base.slots there place k (up b c _ _ (omega arith) upto)) (selection_formed b passed 0 (passed_ok tree h), (conditional_formed b _ _ _ (upto (place + 1) (omega arith)) (label_ok tree h) (passed_ok tree h), (label_formed b _ (label_ok tree h), tt))) in
      behind b c place front (inner p ++ onwards passed) first (behind b c p (inner p) (onwards passed) (rest p) (λ upto. onwards_formed passed (passed_ok tree h)))

  arm_formed : (place meet : ℕ) (tree : Tree) (inner : ℕ → List Inst) → IsIdBelow b meet → Ready b c n tree → ((p : ℕ) → Forms b c p (inner p)) → Forms b c place (arm_code place meet tree inner)
  arm_formed place meet tree inner ok h rest =
      let front = label_inst (label_at tree) ∷ [] in
      let p : ℕ = place + length front in
      behind b c place front (inner p ++ (branch_inst meet ∷ [])) (λ upto. (label_formed b _ (label_ok tree h), tt)) (behind b c p (inner p) (branch_inst meet ∷ []) (rest p) (λ upto. (branch_formed b meet ok, tt)))

  header_formed : (r first : ℕ) → r < n → IsIdBelow b first → AreFormed b (header_code r first)
  header_formed r first low ok =
      (merge_formed b _ _ 0 (base.labels r 4 low (omega arith)) (base.labels r 3 low (omega arith)), onwards_formed first ok)

  footer_formed : (r place k there other : ℕ) → r < n → IsThere b c Want → IsIdBelow b there → IsIdBelow b other → Forms b c place (footer_code c r place k there other)
  footer_formed r place k there other low want there_ok other_ok upto =
      let three = base.labels r 3 low (omega arith) in
      let four = base.labels r 4 low (omega arith) in
      let test = wanted_formed b c base.keys base.slots want (place + 2) k (up b c _ _ (omega arith) upto) in
      let truth = upto (place + 2 + 1) (omega arith) in
      let tail : List Inst = inst 250 (result c (place + 2 + 1) ∷ there ∷ other ∷ []) ∷ label_inst (merge_label r) ∷ [] in
      let tail_ok : AreFormed b tail = (conditional_formed b _ _ _ truth there_ok other_ok, (label_formed b _ four, tt)) in
      join b (onwards (continue_label r)) (is_wanted c (place + 2) k ++ tail) (onwards_formed _ three) (join b (is_wanted c (place + 2) k) tail test tail_ok)

  selects_formed : (r place : ℕ) (arms : Arms) → r < n → IsThere b c Want → arms_in arms ≤ most_pairs → AreReady b c n arms → Forms b c place (dispatch_head c r place arms)
  selects_formed r place arms low want few h upto =
      let two = base.labels r 2 low (omega arith) in
      let five = base.labels r 5 low (omega arith) in
      let long = pairs_length arms in
      let here = upto (place + 3) (omega arith) in
      let select_ok : AreFormed b (select_arm c r (place + 3) arms) = (load_formed b _ _ _ (base.keys _) here want, (selection_formed b _ 0 five, (switch_formed b _ _ _ here five (pairs_ok arms h) (omega (arith, long, few)), tt))) in
      join b (header_code r (body_label r)) (select_arm c r (place + 3) arms) (header_formed r _ low two) select_ok

  tail_formed : (r place : ℕ) → r < n → IsThere b c Want → Forms b c place (dispatch_tail c r place)
  tail_formed r place low want =
      let five = base.labels r 5 low (omega arith) in
      behind b c place (label_inst (chosen_label r) ∷ []) (footer_code c r (place + 1) (no_block c) (merge_label r) (header_label r)) (λ upto. (label_formed b _ five, tt)) (footer_formed r (place + 1) (no_block c) (merge_label r) (header_label r) low want (base.labels r 4 low (omega arith)) (base.labels r 1 low (omega arith)))

  -- the arm of one block, or a store
  one_test : (k place : ℕ) (tree : Tree) (arms : Arms) → Ready b c n tree → ((p : ℕ) → Forms b c p (row_code c p tree)) → ((arm_label arms k ≡ None → IsThere b c Want) → Forms b c place (one_arm c k place arms)) → (x : Bool) → ((if x then Some (label_at tree) else arm_label arms k) ≡ None → IsThere b c Want) → Forms b c place (if x then (onwards (label_at tree) ++ row_code c (place + length (onwards (label_at tree))) tree) else one_arm c k place arms)
  one_test k place tree arms h inner rest true there =
      let front = onwards (label_at tree) in
      let p : ℕ = place + length front in
      behind b c place front (row_code c p tree) (λ upto. onwards_formed _ (label_ok tree h)) (inner p)
  one_test k place tree arms h inner rest false there = rest there

  -- ---- how a leaf is left

  chosen_formed : (r : ℕ) (term : Term) (arms : Arms) → IsIdBelow b (chosen_label r) → AreReady b c n arms → ((k : ℕ) → has k (targets term) ≡ true → arm_label arms k ≡ None → IsThere b c Want) → ((p : ℕ) → Forms b c p (met_arms c (chosen_label r) p arms)) → (env : Env) → KnownBelow b env → way_of term ≡ Chooses → (place : ℕ) → Forms b c place (exit_code c (chosen_label r) term (arm_label arms) (next_blocks term) (λ k p. one_arm c k p arms) (λ p. met_arms c (chosen_label r) p arms) (λ p. wanted_arms c p arms) env Chooses place)
  chosen_formed r term arms ok h there met env known way place upto =
      let meet : ℕ = chosen_label r in
      let test = tested_code c env place (tested term) in
      let x : ℕ = tested_id c env place (tested term) in
      let p : ℕ = place + length test in
      let ks : List ℕ = loose (arm_label arms) (next_blocks term) in
      let chosen = choose_code c p meet x term (arm_label arms) ks in
      let q : ℕ = p + length chosen in
      let inner = met_arms c meet q arms in
      let tail : List Inst = label_inst meet ∷ [] in
      let first = upto_front b c place (length test) test (chosen ++ (inner ++ tail)) refl upto in
      let rest = upto_back b c place (length test) test (chosen ++ (inner ++ tail)) refl upto in
      let long = length-append chosen (inner ++ tail) in
      let more = length-append inner tail in
      let room = up b c (p + length chosen + 1) _ (omega (arith, long, more)) rest in
      let last = upto_back b c p (length chosen) chosen (inner ++ tail) refl rest in
      let value : (a : Operand) → tested term ≡ Some a → IsIdBelow b x = λ a e. tested_ok b c base.keys base.slots env place (tested term) a e known first in
      let loose_there : (k : ℕ) → has k ks ≡ true → IsThere b c Want = λ k among. (let told = loose_told (arm_label arms) term k among in there k told.1 told.0) in
      join b test _ (tested_formed b c base.keys base.slots env place (tested term) known first) (join b chosen _ (choose_formed b c base.keys base.slots p meet x term (arm_label arms) ks ok value (armed_ok arms h) loose_there (chooses_few (next_blocks term) (cases_in term) way) room) (join b inner tail (met q (upto_front b c q (length inner) inner tail refl last)) (label_formed b meet ok, tt)))

  exit_formed : (r : ℕ) (block : Block) (arms : Arms) → r < n → LeafReady b c block arms → AreReady b c n arms → ((k : ℕ) → (arm_label arms k ≡ None → IsThere b c Want) → (p : ℕ) → Forms b c p (one_arm c k p arms)) → ((p : ℕ) → Forms b c p (met_arms c (chosen_label r) p arms)) → (IsThere b c Want → (p : ℕ) → Forms b c p (wanted_arms c p arms)) → (env : Env) → KnownBelow b env → (way : Way) → way_of block.term ≡ way → (place : ℕ) → Forms b c place (exit_code c (chosen_label r) block.term (arm_label arms) (next_blocks block.term) (λ k p. one_arm c k p arms) (λ p. met_arms c (chosen_label r) p arms) (λ p. wanted_arms c p arms) env way place)
  exit_formed r block arms low ready h one met wanted env known Ends is place upto =
      stored_formed b c base.keys base.slots (c.slot Want) _ (base.slots Want) (base.keys _)
  exit_formed r block arms low ready h one met wanted env known (Goes k) is place upto =
      one k (ready.loose k (goes_in block.term k is)) place upto
  exit_formed r block arms low ready h one met wanted env known Chooses is place upto =
      chosen_formed r block.term arms (base.labels r 5 low (omega arith)) h ready.loose met env known is place upto
  exit_formed r block arms low ready h one met wanted env known Splits is place upto =
      let there = ready.split is in
      let term : Term = block.term in
      let test = tested_code c env place (tested term) in
      let x : ℕ = tested_id c env place (tested term) in
      let p : ℕ = place + length test in
      let split = split_code c p x term in
      let q : ℕ = p + length split in
      let first = upto_front b c place (length test) test (split ++ wanted_arms c q arms) refl upto in
      let value : (a : Operand) → tested term ≡ Some a → IsIdBelow b x = λ a e. tested_ok b c base.keys base.slots env place (tested term) a e known first in
      behind b c place test (split ++ wanted_arms c q arms) (tested_formed b c base.keys base.slots env place (tested term) known) (behind b c p split (wanted_arms c q arms) (split_formed b c base.keys base.slots there.0 there.1 p x term value) (wanted there.0 q)) upto

-- ---- regions

mutual
  pub row_formed : (b : ℕ) (c : Context) (n : ℕ) → Base b c n → (tree : Tree) (place : ℕ) → Ready b c n tree → Forms b c place (row_code c place tree)
  row_formed b c n base Missing place h upto = absurd h
  row_formed b c n base (Leaf r k arms) place h upto =
      let block : Block = block_at c k in
      let code = block_code c place k block in
      let exit = exit_code c (chosen_label r) block.term (arm_label arms) (next_blocks block.term) (λ k p. one_arm c k p arms) (λ p. met_arms c (chosen_label r) p arms) (λ p. wanted_arms c p arms) (block_env c place block) (way_of block.term) (place + length code) in
      let meet = base.labels r 5 h.0 (omega arith) in
      let front = block_ok b c base.keys base.slots base.phis place k block (block_phis b c n base k) (upto_front b c place (length code) code exit refl upto) in
      join b code exit front.formed (exit_formed b c n base r block arms h.0 h.1 h.2 (λ j there p. one_formed b c n base arms j p h.2 there) (λ p. met_formed b c n base arms (chosen_label r) p meet h.2) (λ there p. each_formed b c n base arms p there h.2) (block_env c place block) front.known (way_of block.term) refl (place + length code) (upto_back b c place (length code) code exit refl upto))
  row_formed b c n base (Then r first second target) place h upto =
      let front = row_code c place first in
      let p : ℕ = place + length front in
      behind b c place front (when_code c p target second (λ q. row_code c q second)) (row_formed b c n base first place h.2) (when_formed b c n base p target second (λ q. row_code c q second) h.3 h.1 (λ q. row_formed b c n base second q h.3)) upto
  row_formed b c n base (Loop r body head) place h upto =
      let front = header_code r (label_at body) in
      let p : ℕ = place + length front in
      let inner = row_code c p body in
      let q : ℕ = p + length inner in
      let back = footer_code c r q head (header_label r) (merge_label r) in
      behind b c place front (inner ++ back) (λ u. header_formed b c n base r (label_at body) h.0 (label_ok b c n base body h.2)) (behind b c p inner back (row_formed b c n base body p h.2) (footer_formed b c n base r q head (header_label r) (merge_label r) h.0 h.1 (base.labels r 1 h.0 (omega arith)) (base.labels r 4 h.0 (omega arith)))) upto
  row_formed b c n base (Dispatch r arms) place h upto =
      let front = dispatch_head c r place arms in
      let p : ℕ = place + length front in
      let inner = met_arms c (chosen_label r) p arms in
      let q : ℕ = p + length inner in
      let meet = base.labels r 5 h.0 (omega arith) in
      behind b c place front (inner ++ dispatch_tail c r q) (selects_formed b c n base r place arms h.0 h.1 h.2 h.3) (behind b c p inner (dispatch_tail c r q) (met_formed b c n base arms (chosen_label r) p meet h.3) (tail_formed b c n base r q h.0 h.1)) upto

  one_formed : (b : ℕ) (c : Context) (n : ℕ) → Base b c n → (arms : Arms) (k place : ℕ) → AreReady b c n arms → (arm_label arms k ≡ None → IsThere b c Want) → Forms b c place (one_arm c k place arms)
  one_formed b c n base No_arm k place h there upto = (want_formed b c base.keys base.slots (there refl) k, tt)
  one_formed b c n base (Arm target tree arms) k place h there upto =
      one_test b c n base k place tree arms h.0 (λ p. row_formed b c n base tree p h.0) (one_formed b c n base arms k place h.1) (nat_eq k target) there upto

  met_formed : (b : ℕ) (c : Context) (n : ℕ) → Base b c n → (arms : Arms) (meet place : ℕ) → IsIdBelow b meet → AreReady b c n arms → Forms b c place (met_arms c meet place arms)
  met_formed b c n base No_arm meet place ok h upto = tt
  met_formed b c n base (Arm target tree arms) meet place ok h upto =
      let front = arm_code place meet tree (λ q. row_code c q tree) in
      behind b c place front (met_arms c meet (place + length front) arms) (arm_formed b c n base place meet tree (λ q. row_code c q tree) ok h.0 (λ q. row_formed b c n base tree q h.0)) (met_formed b c n base arms meet (place + length front) ok h.1) upto

  each_formed : (b : ℕ) (c : Context) (n : ℕ) → Base b c n → (arms : Arms) (place : ℕ) → IsThere b c Want → AreReady b c n arms → Forms b c place (wanted_arms c place arms)
  each_formed b c n base No_arm place there h upto = tt
  each_formed b c n base (Arm target tree arms) place there h upto =
      let front = when_code c place target tree (λ q. row_code c q tree) in
      behind b c place front (wanted_arms c (place + length front) arms) (when_formed b c n base place target tree (λ q. row_code c q tree) h.0 there (λ q. row_formed b c n base tree q h.0)) (each_formed b c n base arms (place + length front) there h.1) upto
