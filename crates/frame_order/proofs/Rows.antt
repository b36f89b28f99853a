-- The code of a tree of regions goes on from block to block.
use Rattle.std.proofs.Common.{ℕ, ◌+◌, Bool, true, false, List, [], ◌∷◌, ◌++◌, length, refl, arith}
use Rattle.std.specs.Prelude.{nat_eq, if◌then◌else◌}
use Rattle.dxil_form.specs.declared.block.Block.{Block}
use Rattle.spv_form.specs.declared.module.Inst.{Inst}
use Rattle.spirv_code.specs.Plans.{Context, header_label, merge_label, chosen_label, passed_label}
use Rattle.spirv_code.specs.Leaves.{way_of, block_env, block_code}
use Rattle.spirv_code.specs.Exits.{branch_inst}
use Rattle.spirv_code.specs.Trees.{Tree, Missing, Leaf, Then, Loop, Dispatch, Arms, No_arm, Arm, label_at, place_of, arm_label}
use Rattle.spirv_code.specs.Rows.{when_head, onwards, when_code, arm_code, header_code, footer_code, dispatch_head, dispatch_tail, block_at, row_code, one_arm, met_arms, wanted_arms}
use Rattle.frame_order.proofs.Leads.{Leads, ends, inside, closes, opens, leads_append, branch_few, fork_few, onwards_leads}
use Rattle.frame_order.proofs.Lines.{block_leads}
use Rattle.frame_order.proofs.Exits.{words_few, left_leads}
use Rattle.frame_order.proofs.Narrow.{Narrow, AreNarrow}

module _ (c : Context) where
  when_leads : (place k : ℕ) (tree : Tree) (inner : ℕ → List Inst) → ((p : ℕ) → Leads true (inner p) true) → Leads true (when_code c place k tree inner) true
  when_leads place k tree inner h =
      let head = when_head c place k (label_at tree) (place_of tree) in
      let p = place + length head in
      leads_append head (inner p ++ onwards (passed_label (place_of tree))) (inside refl (inside refl (inside refl (closes refl (fork_few _) (opens ends))))) (leads_append (inner p) (onwards (passed_label (place_of tree))) (h p) (onwards_leads ends))

  arm_leads : (place meet : ℕ) (tree : Tree) (inner : ℕ → List Inst) → ((p : ℕ) → Leads true (inner p) true) → Leads false (arm_code place meet tree inner) false
  arm_leads place meet tree inner h =
      opens (leads_append (inner (place + 1)) (branch_inst meet ∷ []) (h (place + 1)) (closes refl (branch_few _) ends))

  header_leads : (r first : ℕ) → Leads true (header_code r first) true
  header_leads r first = inside refl (onwards_leads ends)

  footer_leads : (r place k there other : ℕ) → Leads true (footer_code c r place k there other) true
  footer_leads r place k there other = onwards_leads (inside refl (inside refl (closes refl (fork_few _) (opens ends))))

  one_test : (k place : ℕ) (tree : Tree) (arms : Arms) → ((p : ℕ) → Leads true (row_code c p tree) true) → Leads true (one_arm c k place arms) true → (b : Bool) → Leads true (if b then (onwards (label_at tree) ++ row_code c (place + length (onwards (label_at tree))) tree) else one_arm c k place arms) true
  one_test k place tree arms h rest true = onwards_leads (h (place + 2))
  one_test k place tree arms h rest false = rest

mutual
  pub row_leads : (c : Context) (tree : Tree) (place : ℕ) → Narrow tree → Leads true (row_code c place tree) true
  row_leads c Missing place h = ends
  row_leads c (Leaf r b arms) place h =
      let block : Block = block_at c b in
      let code = block_code c place b block in
      leads_append code _ (block_leads c place b block) (left_leads c (chosen_label r) block.term (arm_label arms) (λ k p. one_arm c k p arms) (λ p. met_arms c (chosen_label r) p arms) (λ p. wanted_arms c p arms) (λ k p. one_leads c arms k p h) (λ p. met_leads c arms (chosen_label r) p h) (λ p. wanted_leads c arms p h) (block_env c place block) (way_of block.term) (place + length code) refl)
  row_leads c (Then r first second target) place h =
      let code = row_code c place first in
      leads_append code (when_code c (place + length code) target second (λ q. row_code c q second)) (row_leads c first place h.0) (when_leads c (place + length code) target second (λ q. row_code c q second) (λ q. row_leads c second q h.1))
  row_leads c (Loop r body head) place h =
      let code = row_code c (place + 3) body in
      let q = place + 3 + length code in
      leads_append (header_code r (label_at body)) (code ++ footer_code c r q head (header_label r) (merge_label r)) (header_leads c r (label_at body)) (leads_append code (footer_code c r q head (header_label r) (merge_label r)) (row_leads c body (place + 3) h) (footer_leads c r q head (header_label r) (merge_label r)))
  row_leads c (Dispatch r arms) place h =
      let head = dispatch_head c r place arms in
      let p = place + length head in
      let code = met_arms c (chosen_label r) p arms in
      let q = p + length code in
      leads_append head (code ++ dispatch_tail c r q) (inside refl (onwards_leads (inside refl (inside refl (closes refl (words_few _ (omega (arith, h.0))) ends))))) (leads_append code (dispatch_tail c r q) (met_leads c arms (chosen_label r) p h.1) (opens (footer_leads c r (q + 1) _ _ _)))

  one_leads : (c : Context) (arms : Arms) (k place : ℕ) → AreNarrow arms → Leads true (one_arm c k place arms) true
  one_leads c No_arm k place h = inside refl ends
  one_leads c (Arm target tree arms) k place h =
      one_test c k place tree arms (λ p. row_leads c tree p h.0) (one_leads c arms k place h.1) (nat_eq k target)

  met_leads : (c : Context) (arms : Arms) (meet place : ℕ) → AreNarrow arms → Leads false (met_arms c meet place arms) false
  met_leads c No_arm meet place h = ends
  met_leads c (Arm target tree arms) meet place h =
      let front = arm_code place meet tree (λ q. row_code c q tree) in
      leads_append front (met_arms c meet (place + length front) arms) (arm_leads c place meet tree (λ q. row_code c q tree) (λ q. row_leads c tree q h.0)) (met_leads c arms meet (place + length front) h.1)

  wanted_leads : (c : Context) (arms : Arms) (place : ℕ) → AreNarrow arms → Leads true (wanted_arms c place arms) true
  wanted_leads c No_arm place h = ends
  wanted_leads c (Arm target tree arms) place h =
      let front = when_code c place target tree (λ q. row_code c q tree) in
      leads_append front (wanted_arms c (place + length front) arms) (when_leads c place target tree (λ q. row_code c q tree) (λ q. row_leads c tree q h.0)) (wanted_leads c arms (place + length front) h.1)
