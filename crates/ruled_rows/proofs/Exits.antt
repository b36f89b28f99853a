-- How a leaf is left keeps the rules, where its arms do.
use Rattle.std.proofs.Common.{◌≡◌, ℕ, ◌+◌, ◌≤◌, true, List, [], ◌∷◌, ◌++◌, length, None, refl, arith, inl, inr, ◌∙◌}
use Rattle.dxil_form.specs.declared.block.Block.{Block}
use Rattle.dxil_form.specs.declared.block.Term.{Term}
use Rattle.dxil_form.specs.Branches.{has, targets}
use Rattle.spv_form.specs.declared.module.Inst.{Inst}
use Rattle.spirv_code.specs.declared.way.Way.{Way}
use Rattle.spirv_code.specs.declared.way.Way.TheVariants.{Ends, Goes, Chooses, Splits}
use Rattle.spirv_code.specs.Plans.{Context}
use Rattle.spirv_code.specs.Reads.{Env}
use Rattle.spirv_code.specs.Leaves.{next_blocks, way_of}
use Rattle.spirv_code.specs.Exits.{label_inst, no_block, loose, choose_code, split_code, tested, tested_code, tested_id, exit_code}
use Rattle.spirv_code.specs.Trees.{Arms, arm_label}
use Rattle.spirv_code.specs.Rows.{one_arm, met_arms, wanted_arms}
use Rattle.line_runs.specs.Held.{Setting}
use Rattle.line_runs.proofs.Pieces.{has_front, has_back}
use Rattle.leaf_runs.specs.BlockReady.{WayReady}
use Rattle.region_runs.proofs.Targets.{has_different, loose_has}
use Rattle.formed_rows.proofs.Rows.{goes_in, loose_told}
use Rattle.ruled_lines.specs.Kept.{KnownAt, StandsAhead}
use Rattle.ruled_lines.proofs.Going.{kept_append}
use Rattle.ruled_lines.proofs.Jumps.{label_rules}
use Rattle.ruled_exits.specs.Exits.{Stands, CanWant}
use Rattle.ruled_exits.proofs.Wants.{ends_kept}
use Rattle.ruled_exits.proofs.Arms.{met_labels}
use Rattle.ruled_exits.proofs.Tested.{tested_kept}
use Rattle.ruled_exits.proofs.Chosen.{choose_kept}
use Rattle.ruled_exits.proofs.Chunks.{split_kept}
use Rattle.ruled_rows.proofs.Pieces.{Keeps}
use Rattle.ruled_rows.proofs.Readiness.{SplitReady, LeafReady}

module _ (s : Setting) (low : ℕ) (ahead : StandsAhead s low) where
  abbrev insts : List Inst
  insts = s.made.insts

  abbrev c : Context
  c = s.context

  -- the arms of a selection keep the rules, wherever they stand
  abbrev pub MetKeep : Arms → (meet : ℕ) → Type 0
  MetKeep arms meet = (p : ℕ) → low ≤ p → Stands insts meet → Keeps s p (met_arms c meet p arms)

  chosen_kept : (b : ℕ) (block : Block) (arms : Arms) (meet : ℕ) → LeafReady s b block arms → MetKeep arms meet → (env : Env) (place : ℕ) → way_of block.term ≡ Chooses → low ≤ place → WayReady s env block.term Chooses → KnownAt s env place → Keeps s place (exit_code c meet block.term (arm_label arms) (next_blocks block.term) (λ k p. one_arm c k p arms) (λ p. met_arms c meet p arms) (λ p. wanted_arms c p arms) env Chooses place)
  chosen_kept b block arms meet ready met env place way later readable known code =
      let term : Term = block.term in
      let test : List Inst = tested_code c env place (tested term) in
      let x : ℕ = tested_id c env place (tested term) in
      let p : ℕ = place + length test in
      let ks : List ℕ = loose (arm_label arms) (next_blocks term) in
      let chosen : List Inst = choose_code c p meet x term (arm_label arms) ks in
      let q : ℕ = p + length chosen in
      let inner : List Inst = met_arms c meet q arms in
      let tail : List Inst = label_inst meet ∷ [] in
      let end : ℕ = q + length inner in
      let t = tested_kept s low ahead term env place (chosen ++ (inner ++ tail)) Chooses way (inl refl) later readable ready.test_used known code in
      let back = has_back s.made p chosen (inner ++ tail) t.has in
      let arms_code = has_front s.made q inner tail back in
      let there : Stands insts meet = (end, (has_back s.made q inner tail back).0) in
      let in_loose : (k : ℕ) → has k (targets term) ≡ true → arm_label arms k ≡ None → has k ks ≡ true = λ k among none. loose_has (arm_label arms) (next_blocks term) k none (has_different k (targets term) ∙ among) in
      let can : (k : ℕ) → has k ks ≡ true → CanWant s k = λ k among. (let told = loose_told (arm_label arms) term k among in ready.loose k told.1 told.0) in
      let choice = choose_kept s low ahead term p meet x (arm_label arms) ks (omega (arith, later)) t.value there (met_labels s arms meet q arms_code) in_loose can (has_front s.made p chosen (inner ++ tail) t.has) in
      kept_append insts place test (chosen ++ (inner ++ tail)) t.kept (kept_append insts p chosen (inner ++ tail) choice (kept_append insts q inner tail (met q (omega (arith, later)) there arms_code) (label_rules insts end meet, tt)))

  splits_kept : (b : ℕ) (block : Block) (arms : Arms) (meet : ℕ) → LeafReady s b block arms → (split : SplitReady s block arms) → ((p : ℕ) → low ≤ p → Keeps s p (wanted_arms c p arms)) → (env : Env) (place : ℕ) → way_of block.term ≡ Splits → low ≤ place → WayReady s env block.term Splits → KnownAt s env place → Keeps s place (exit_code c meet block.term (arm_label arms) (next_blocks block.term) (λ k p. one_arm c k p arms) (λ p. met_arms c meet p arms) (λ p. wanted_arms c p arms) env Splits place)
  splits_kept b block arms meet ready split wanted env place way later readable known code =
      let term : Term = block.term in
      let test : List Inst = tested_code c env place (tested term) in
      let x : ℕ = tested_id c env place (tested term) in
      let p : ℕ = place + length test in
      let parts : List Inst = split_code c p x term in
      let q : ℕ = p + length parts in
      let inner : List Inst = wanted_arms c q arms in
      let t = tested_kept s low ahead term env place (parts ++ inner) Splits way (inr refl) later readable ready.test_used known code in
      let several = split_kept s low ahead split.pick term p x (omega (arith, later)) t.value split.targets_can (has_front s.made p parts inner t.has) in
      kept_append insts place test (parts ++ inner) t.kept (kept_append insts p parts inner several (wanted q (omega (arith, later)) (has_back s.made p parts inner t.has)))

  pub exit_kept : (b : ℕ) (block : Block) (arms : Arms) (meet : ℕ) → LeafReady s b block arms → ((k : ℕ) → (arm_label arms k ≡ None → CanWant s k) → (p : ℕ) → low ≤ p → Keeps s p (one_arm c k p arms)) → MetKeep arms meet → (SplitReady s block arms → (p : ℕ) → low ≤ p → Keeps s p (wanted_arms c p arms)) → (env : Env) (place : ℕ) (way : Way) → way_of block.term ≡ way → low ≤ place → WayReady s env block.term way → KnownAt s env place → Keeps s place (exit_code c meet block.term (arm_label arms) (next_blocks block.term) (λ k p. one_arm c k p arms) (λ p. met_arms c meet p arms) (λ p. wanted_arms c p arms) env way place)
  exit_kept b block arms meet ready one met wanted env place Ends is later readable known code =
      ends_kept s low ahead place (no_block c) ready.ends later
  exit_kept b block arms meet ready one met wanted env place (Goes k) is later readable known code =
      one k (ready.loose k (goes_in block.term k is)) place later code
  exit_kept b block arms meet ready one met wanted env place Chooses is later readable known code =
      chosen_kept b block arms meet ready met env place is later readable known code
  exit_kept b block arms meet ready one met wanted env place Splits is later readable known code =
      splits_kept b block arms meet ready (ready.split is) (wanted (ready.split is)) env place is later readable known code
