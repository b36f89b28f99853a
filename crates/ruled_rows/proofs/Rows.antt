-- The code of a tree of regions keeps the rules.
use Rattle.std.proofs.Common.{◌≡◌, ℕ, ◌+◌, ◌≤◌, Bool, true, false, List, ◌++◌, length, Some, None, refl, arith, inl, inr}
use Rattle.std.specs.Prelude.{nat_eq, if◌then◌else◌}
use Rattle.dxil_form.specs.declared.block.Block.{Block}
use Rattle.spv_form.specs.declared.module.Inst.{Inst}
use Rattle.spirv_code.specs.Plans.{Context, header_label, merge_label, chosen_label}
use Rattle.spirv_code.specs.Leaves.{followed, next_blocks, way_of, block_env, block_code}
use Rattle.spirv_code.specs.Exits.{no_block, exit_code}
use Rattle.spirv_code.specs.Trees.{Tree, Missing, Leaf, Then, Loop, Dispatch, Arms, No_arm, Arm, label_at, arm_label}
use Rattle.spirv_code.specs.Rows.{onwards, when_code, arm_code, header_code, footer_code, dispatch_head, dispatch_tail, block_at, row_code, one_arm, met_arms, wanted_arms}
use Rattle.line_runs.specs.Held.{Setting}
use Rattle.line_runs.proofs.Pieces.{has_front, has_back}
use Rattle.region_runs.proofs.Members.{Among}
use Rattle.ruled_lines.specs.Kept.{StandsAhead}
use Rattle.ruled_lines.proofs.Going.{kept_append}
use Rattle.ruled_blocks.proofs.Whole.{blocks_keep_rules}
use Rattle.ruled_exits.specs.Exits.{Stands, CanWant}
use Rattle.ruled_exits.proofs.Wants.{want_rules}
use Rattle.ruled_exits.proofs.Arms.{met_pairs}
use Rattle.ruled_rows.proofs.Pieces.{Keeps, behind, onwards_kept}
use Rattle.ruled_rows.proofs.Readiness.{CanTest, SplitReady, LeafReady, Ready, AreReady}
use Rattle.ruled_rows.proofs.Regions.{when_kept, arm_kept, header_kept, continue_stands, merge_stands, footer_kept, dispatch_head_kept, dispatch_tail_kept}
use Rattle.ruled_rows.proofs.Exits.{exit_kept}

module _ (s : Setting) (low : ℕ) (ahead : StandsAhead s low) where
  abbrev insts : List Inst
  insts = s.made.insts

  abbrev c : Context
  c = s.context

  -- the code of a region, wherever it stands behind its label
  abbrev pub RowKeeps : Tree → Type 0
  RowKeeps tree = (p : ℕ) → low ≤ p → Stands insts (label_at tree) → Keeps s p (row_code c p tree)

  -- ---- regions whose parts keep the rules

  then_kept : (r : ℕ) (first second : Tree) (target : ℕ) → CanTest s target → RowKeeps first → RowKeeps second → RowKeeps (Then r first second target)
  then_kept r first second target can one two place later there =
      let front : List Inst = row_code c place first in
      let p : ℕ = place + length front in
      behind s place front (when_code c p target second (λ q. row_code c q second)) (one place later there) (when_kept s low ahead p target second (λ q. row_code c q second) (omega (arith, later)) can two)

  loop_kept : (r : ℕ) (body : Tree) (head : ℕ) → CanTest s head → RowKeeps body → RowKeeps (Loop r body head)
  loop_kept r body head can inside place later there has =
      let front : List Inst = header_code r (label_at body) in
      let p : ℕ = place + length front in
      let inner : List Inst = row_code c p body in
      let q : ℕ = p + length inner in
      let back : List Inst = footer_code c r q head (header_label r) (merge_label r) in
      let first = has_front s.made place front (inner ++ back) has in
      let rest = has_back s.made place front (inner ++ back) has in
      let foot = has_back s.made p inner back rest in
      let merge = merge_stands s low ahead r q head (header_label r) (merge_label r) foot in
      let next = continue_stands s low ahead r q head (header_label r) (merge_label r) foot in
      kept_append insts place front (inner ++ back) (header_kept s low ahead r (label_at body) place merge next first) (kept_append insts p inner back (inside p (omega (arith, later)) (place + 1 + 1, first.1.1.0) (has_front s.made p inner back rest)) (footer_kept s low ahead r q head (header_label r) (merge_label r) (omega (arith, later)) can there merge foot))

  dispatch_kept : (r : ℕ) (arms : Arms) → CanTest s (no_block c) → ((p : ℕ) → low ≤ p → Stands insts (chosen_label r) → Keeps s p (met_arms c (chosen_label r) p arms)) → RowKeeps (Dispatch r arms)
  dispatch_kept r arms can met place later there has =
      let meet : ℕ = chosen_label r in
      let front : List Inst = dispatch_head c r place arms in
      let p : ℕ = place + length front in
      let inner : List Inst = met_arms c meet p arms in
      let q : ℕ = p + length inner in
      let back : List Inst = dispatch_tail c r q in
      let rest = has_back s.made place front (inner ++ back) has in
      let arms_code = has_front s.made p inner back rest in
      let tail = has_back s.made p inner back rest in
      let chosen : Stands insts meet = (q, tail.0) in
      let merge = merge_stands s low ahead r (q + 1) (no_block c) (merge_label r) (header_label r) tail.1 in
      let next = continue_stands s low ahead r (q + 1) (no_block c) (merge_label r) (header_label r) tail.1 in
      kept_append insts place front (inner ++ back) (dispatch_head_kept s low ahead r place arms later can merge next chosen (met_pairs s arms meet p arms_code) (has_front s.made place front (inner ++ back) has)) (kept_append insts p inner back (met p (omega (arith, later)) chosen arms_code) (dispatch_tail_kept s low ahead r q (omega (arith, later)) can there merge tail))

  leaf_kept : (r b : ℕ) (arms : Arms) → LeafReady s b (block_at c b) arms → ((k : ℕ) → (arm_label arms k ≡ None → CanWant s k) → (p : ℕ) → low ≤ p → Keeps s p (one_arm c k p arms)) → ((p : ℕ) → low ≤ p → Stands insts (chosen_label r) → Keeps s p (met_arms c (chosen_label r) p arms)) → (SplitReady s (block_at c b) arms → (p : ℕ) → low ≤ p → Keeps s p (wanted_arms c p arms)) → RowKeeps (Leaf r b arms)
  leaf_kept r b arms ready one met wanted place later there has =
      let block : Block = block_at c b in
      let code : List Inst = block_code c place b block in
      let p : ℕ = place + length code in
      let exit : List Inst = exit_code c (chosen_label r) block.term (arm_label arms) (next_blocks block.term) (λ k p. one_arm c k p arms) (λ p. met_arms c (chosen_label r) p arms) (λ p. wanted_arms c p arms) (block_env c place block) (way_of block.term) p in
      let front = blocks_keep_rules s low ahead b block place later ready.lines_used ready.fits (ready.ready place) (has_front s.made place code exit has) in
      kept_append insts place code exit front.0 (exit_kept s low ahead b block arms (chosen_label r) ready one met wanted (block_env c place block) p (way_of block.term) refl (omega (arith, later)) (ready.ready place).way front.1 (has_back s.made place code exit has))

  -- ---- arms

  -- the arm of one block
  one_test : (k place : ℕ) (tree : Tree) (arms : Arms) → low ≤ place → RowKeeps tree → ((arm_label arms k ≡ None → CanWant s k) → Keeps s place (one_arm c k place arms)) → (x : Bool) → ((if x then Some (label_at tree) else arm_label arms k) ≡ None → CanWant s k) → Keeps s place (if x then followed place (onwards (label_at tree)) (λ p. row_code c p tree) else one_arm c k place arms)
  one_test k place tree arms later inside rest true can has =
      let front : List Inst = onwards (label_at tree) in
      let p : ℕ = place + length front in
      kept_append insts place front (row_code c p tree) (onwards_kept s low ahead place (label_at tree) (has_front s.made place front (row_code c p tree) has)) (inside p (omega (arith, later)) (place + 1, has.1.0) (has_back s.made place front (row_code c p tree) has))
  one_test k place tree arms later inside rest false can has = rest can has

-- ---- all regions

mutual
  pub row_kept : (s : Setting) (low : ℕ) (ahead : StandsAhead s low) → (tree : Tree) → Ready s tree → (p : ℕ) → low ≤ p → Stands s.made.insts (label_at tree) → Keeps s p (row_code s.context p tree)
  row_kept s low ahead Missing h = absurd h
  row_kept s low ahead (Leaf r b arms) h =
      leaf_kept s low ahead r b arms h.0 (λ k can p later. one_kept s low ahead arms k p later h.1 can) (λ p later there. met_kept s low ahead arms (chosen_label r) p later there h.1) (λ split p later. each_kept s low ahead arms p later (λ k tree among. record { can = split.arms_can k tree among; bool = split.bool }) h.1)
  row_kept s low ahead (Then r first second target) h =
      then_kept s low ahead r first second target h.0 (row_kept s low ahead first h.1) (row_kept s low ahead second h.2)
  row_kept s low ahead (Loop r body head) h =
      loop_kept s low ahead r body head h.0 (row_kept s low ahead body h.1)
  row_kept s low ahead (Dispatch r arms) h =
      dispatch_kept s low ahead r arms h.0 (λ p later there. met_kept s low ahead arms (chosen_label r) p later there h.1)

  one_kept : (s : Setting) (low : ℕ) (ahead : StandsAhead s low) → (arms : Arms) (k place : ℕ) → low ≤ place → AreReady s arms → (arm_label arms k ≡ None → CanWant s k) → Keeps s place (one_arm s.context k place arms)
  one_kept s low ahead No_arm k place later h can has =
      (want_rules s low ahead place k (can refl) later, tt)
  one_kept s low ahead (Arm target tree arms) k place later h can has =
      one_test s low ahead k place tree arms later (row_kept s low ahead tree h.0) (one_kept s low ahead arms k place later h.1) (nat_eq k target) can has

  met_kept : (s : Setting) (low : ℕ) (ahead : StandsAhead s low) → (arms : Arms) (meet place : ℕ) → low ≤ place → Stands s.made.insts meet → AreReady s arms → Keeps s place (met_arms s.context meet place arms)
  met_kept s low ahead No_arm meet place later there h has = tt
  met_kept s low ahead (Arm target tree arms) meet place later there h has =
      let front = arm_code place meet tree (λ q. row_code s.context q tree) in
      behind s place front (met_arms s.context meet (place + length front) arms) (arm_kept s low ahead place meet tree (λ q. row_code s.context q tree) later there (row_kept s low ahead tree h.0)) (met_kept s low ahead arms meet (place + length front) (omega (arith, later)) there h.1) has

  each_kept : (s : Setting) (low : ℕ) (ahead : StandsAhead s low) → (arms : Arms) (place : ℕ) → low ≤ place → ((k : ℕ) (tree : Tree) → Among arms k tree → CanTest s k) → AreReady s arms → Keeps s place (wanted_arms s.context place arms)
  each_kept s low ahead No_arm place later can h has = tt
  each_kept s low ahead (Arm target tree arms) place later can h has =
      let front = when_code s.context place target tree (λ q. row_code s.context q tree) in
      behind s place front (wanted_arms s.context (place + length front) arms) (when_kept s low ahead place target tree (λ q. row_code s.context q tree) later (can target tree (inl (refl, refl))) (row_kept s low ahead tree h.0)) (each_kept s low ahead arms (place + length front) (omega (arith, later)) (λ k other among. can k other (inr among)) h.1) has
