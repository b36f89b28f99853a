-- What the code of regions defines.
use Rattle.std.proofs.Common.{◌≡◌, ℕ, zero, suc, ◌+◌, ◌*◌, ◌<◌, Bool, true, false, List, [], ◌∷◌, ◌++◌, length, length-append, take, drop, Option, Some, None, refl, sym, ap, arith}
use Rattle.std.specs.Prelude.{slice_get, nat_eq, if◌then◌else◌}
use Rattle.dxil_form.specs.declared.value.Operand.{Operand}
use Rattle.dxil_form.specs.declared.block.Phi.{Phi}
use Rattle.dxil_form.specs.declared.block.Block.{Block}
use Rattle.dxil_form.specs.declared.block.Term.{Term}
use Rattle.dxil_form.specs.declared.block.Term.TheVariants.{Ret, Unreachable, Go, If, Switch}
use Rattle.spv_form.specs.declared.module.Inst.{Inst}
use Rattle.spirv_code.specs.declared.key.Slot.TheVariants.{Want}
use Rattle.spirv_code.specs.declared.way.Way.{Way}
use Rattle.spirv_code.specs.declared.way.Way.TheVariants.{Ends, Goes, Chooses, Splits}
use Rattle.spirv_code.specs.Plans.{Context, inst, result, number, variable, coming, body_label, continue_label, chosen_label, passed_label, header_label, merge_label}
use Rattle.spirv_code.specs.Reads.{Env, no_register, read_size, read_code, read_id}
use Rattle.spirv_code.specs.Lines.{lines_code}
use Rattle.spirv_code.specs.Leaves.{group_code, group_env, leave_code, edge_code, edges_code, entry_operand, phis_of, next_blocks, way_of, most_pairs, followed, inner_code, block_code, block_env}
use Rattle.spirv_code.specs.Exits.{label_inst, branch_inst, selection_inst, is_wanted, no_block, setters_code, loose, way_label, exit_branch, choose_head, choose_code, chunk_meet, chunk_head, chunk_code, case_targets, chunks_code, chunk_count, split_code, tested, tested_code, tested_id, exit_code}
use Rattle.spirv_code.specs.Trees.{Tree, Missing, Leaf, Then, Loop, Dispatch, Arms, No_arm, Arm, label_at, place_of, arm_label}
use Rattle.spirv_code.specs.Rows.{when_head, onwards, when_code, arm_code, header_code, footer_code, dispatch_head, block_at, row_code, one_arm, met_arms, wanted_arms}
use Rattle.frame_facts.specs.Inner.{Owns, OwnsArms}
use Rattle.frame_facts.proofs.InnerRows.{IsLabelOf, label_owned, place_owned}
use Rattle.line_runs.proofs.Reading.{read_length}
use Rattle.formed_lines.proofs.Opcodes.{equal_shape}
use Rattle.formed_rows.proofs.Exits.{setters_length}
use Rattle.ruled_ids.proofs.Seats.{AreSeated, bare, own, made, load_is, store_is, branch_is, selection_is, conditional_is, switch_is, merge_is, own_at, own_label, region_label, at_place, seated_append, read_seated, read_then, store_seated}
use Rattle.ruled_ids.proofs.SeatedLines.{lines_seated}

-- a label of a region
label_of : (M : ℕ → Type 0) (r kind : ℕ) → M r → kind < 8 → (id : ℕ) → id ≡ 4 + 8 * r + kind → IsLabelOf M id
label_of M r kind mine few id is = record { region = r; kind = kind; mine = mine; few = few; is = is }

leave_length : (c : Context) (env : Env) (place : ℕ) (phi : Phi) (a : Operand) → length (leave_code c env place phi a) ≡ read_size c env a + 1
leave_length c env place phi a =
    let long = length-append (read_code c env place a) (inst 62 (variable c (coming phi.to phi.ty) ∷ read_id c env place a ∷ []) ∷ []) in
    let read = read_length c env place a in
    omega (arith, long, read)

module _ (c : Context) (M : ℕ → Type 0) where
  -- ---- a block

  group_seated : (place : ℕ) (phis : List Phi) → AreSeated c M place (group_code c place phis)
  group_seated place [] = tt
  group_seated place (phi ∷ phis) =
      let next : place + 2 ≡ place + 1 + 1 = omega arith in
      (own (load_is _ _ _), (bare (store_is _ _), at_place c M (group_code c (place + 2) phis) (place + 2) (place + 1 + 1) next (group_seated (place + 2) phis)))

  edge_seated : (env : Env) (place from : ℕ) (phis : List Phi) → AreSeated c M place (edge_code c env place from phis)
  edge_seated env place from [] = tt
  edge_seated env place from (phi ∷ phis) =
      let a : Operand = entry_operand from phi.ty phi.entries in
      let front = leave_code c env place phi a in
      let back = edge_code c env (place + (read_size c env a + 1)) from phis in
      seated_append c M place front back (read_then c M env place a _ (bare (store_is _ _), tt)) (at_place c M back (place + (read_size c env a + 1)) (place + length front) (ap (λ n. place + n) (sym (leave_length c env place phi a))) (edge_seated env (place + (read_size c env a + 1)) from phis))

  edges_seated : (env : Env) (place from : ℕ) (ks : List ℕ) → AreSeated c M place (edges_code c env place from ks)
  edges_seated env place from [] = tt
  edges_seated env place from (k ∷ ks) =
      let phis : List Phi = phis_of (slice_get c.blocks k) in
      seated_append c M place (edge_code c env place from phis) _ (edge_seated env place from phis) (edges_seated env (place + length (edge_code c env place from phis)) from ks)

  block_seated : (place from : ℕ) (block : Block) → AreSeated c M place (block_code c place from block)
  block_seated place from block =
      let group : List Inst = group_code c place block.phis in
      let lines : List Inst = lines_code c (group_env c no_register place block.phis) (place + length group) block.instrs in
      let front : List Inst = inner_code c place block in
      seated_append c M place front _ (seated_append c M place group lines (group_seated place block.phis) (lines_seated c M (group_env c no_register place block.phis) (place + length group) block.instrs)) (edges_seated (block_env c place block) (place + length front) from (next_blocks block.term))

  -- ---- how a block is left

  setters_seated : (place meet : ℕ) (ks : List ℕ) → AreSeated c M place (setters_code c place meet ks)
  setters_seated place meet [] = tt
  setters_seated place meet (k ∷ ks) =
      let next : place + 3 ≡ place + 1 + 1 + 1 = omega arith in
      (own_label c M place place refl, (bare (store_is _ _), (bare (branch_is meet), at_place c M (setters_code c (place + 3) meet ks) (place + 3) (place + 1 + 1 + 1) next (setters_seated (place + 3) meet ks))))

  exit_seated : (place : ℕ) (to : ℕ → ℕ) (id : ℕ) (term : Term) → AreSeated c M place (exit_branch to id term)
  exit_seated place to id Ret = tt
  exit_seated place to id Unreachable = tt
  exit_seated place to id (Go k) = tt
  exit_seated place to id (If cond there other) = (bare (conditional_is _ _ _), tt)
  exit_seated place to id (Switch value default cases) = (bare (switch_is _), tt)

  choose_seated : (place meet id : ℕ) (term : Term) (labels : ℕ → Option ℕ) (ks : List ℕ) → AreSeated c M place (choose_code c place meet id term labels ks)
  choose_seated place meet id term labels ks =
      let front : List Inst = choose_head meet id term labels (result c (place + 2)) ks in
      seated_append c M place front _ (bare (selection_is meet 0), exit_seated (place + 1) (way_label labels (result c (place + 2)) ks) id term) (setters_seated (place + length front) meet ks)

  chunk_seated : (place : ℕ) (cases : List (ℕ × ℕ)) (ks : List ℕ) → AreSeated c M place (chunk_code c place cases ks)
  chunk_seated place cases ks =
      let meet : ℕ = chunk_meet c place ks in
      let setters : List Inst = setters_code c (place + 3) meet ks in
      let size = setters_length c (place + 3) meet ks in
      let ends : place + (3 + 3 * length ks) ≡ place + 3 + length setters = omega (arith, size) in
      seated_append c M place (chunk_head c place cases ks) (setters ++ (label_inst meet ∷ [])) (own (load_is _ _ _), (bare (selection_is meet 0), (bare (switch_is _), tt))) (seated_append c M (place + 3) setters (label_inst meet ∷ []) (setters_seated (place + 3) meet ks) (own_label c M (place + (3 + 3 * length ks)) (place + 3 + length setters) ends, tt))

  chunks_seated : (place n : ℕ) (cases : List (ℕ × ℕ)) → AreSeated c M place (chunks_code c place n cases)
  chunks_seated place zero cases = tt
  chunks_seated place (suc n) cases =
      let front : List Inst = chunk_code c place (take most_pairs cases) (case_targets (take most_pairs cases)) in
      seated_append c M place front _ (chunk_seated place (take most_pairs cases) (case_targets (take most_pairs cases))) (chunks_seated (place + length front) n (drop most_pairs cases))

  split_seated : (place id : ℕ) (term : Term) → AreSeated c M place (split_code c place id term)
  split_seated place id Ret = tt
  split_seated place id Unreachable = tt
  split_seated place id (Go k) = tt
  split_seated place id (If cond there other) = tt
  split_seated place id (Switch value default cases) =
      let next : place + 2 ≡ place + 1 + 1 = omega arith in
      (bare (store_is _ _), (bare (store_is _ _), at_place c M _ (place + 2) (place + 1 + 1) next (chunks_seated (place + 2) (chunk_count (length cases)) cases)))

  tested_seated : (env : Env) (place : ℕ) (a : Option Operand) → AreSeated c M place (tested_code c env place a)
  tested_seated env place None = tt
  tested_seated env place (Some a) = read_seated c M env place a

  left_seated : (r : ℕ) → M r → (term : Term) (labels : ℕ → Option ℕ) (ks : List ℕ) (one : ℕ → ℕ → List Inst) (met wanted : ℕ → List Inst) → ((k place : ℕ) → AreSeated c M place (one k place)) → ((place : ℕ) → AreSeated c M place (met place)) → ((place : ℕ) → AreSeated c M place (wanted place)) → (env : Env) (way : Way) (place : ℕ) → AreSeated c M place (exit_code c (chosen_label r) term labels ks one met wanted env way place)
  left_seated r mine term labels ks one met wanted h1 h2 h3 env Ends place = store_seated c M place (c.slot Want) (number c (no_block c))
  left_seated r mine term labels ks one met wanted h1 h2 h3 env (Goes k) place = h1 k place
  left_seated r mine term labels ks one met wanted h1 h2 h3 env Chooses place =
      let meet : ℕ = chosen_label r in
      let test : List Inst = tested_code c env place (tested term) in
      let id : ℕ = tested_id c env place (tested term) in
      let p : ℕ = place + length test in
      let chosen : List Inst = choose_code c p meet id term labels (loose labels ks) in
      let q : ℕ = p + length chosen in
      seated_append c M place test _ (tested_seated env place (tested term)) (seated_append c M p chosen _ (choose_seated p meet id term labels (loose labels ks)) (seated_append c M q (met q) (label_inst meet ∷ []) (h2 q) (region_label c M _ meet (label_of M r 5 mine (omega arith) meet refl), tt)))
  left_seated r mine term labels ks one met wanted h1 h2 h3 env Splits place =
      let test : List Inst = tested_code c env place (tested term) in
      let id : ℕ = tested_id c env place (tested term) in
      let p : ℕ = place + length test in
      let front : List Inst = split_code c p id term in
      seated_append c M place test _ (tested_seated env place (tested term)) (seated_append c M p front _ (split_seated p id term) (h3 (p + length front)))

  -- ---- pieces of regions

  wanted_then : (place k : ℕ) (rest : List Inst) → AreSeated c M (place + 1 + 1) rest → AreSeated c M place (is_wanted c place k ++ rest)
  wanted_then place k rest h = (own (load_is _ _ _), (own (made 170 _ _ _ 2 2 0 equal_shape), h))

  onwards_seated : (place id : ℕ) → IsLabelOf M id → AreSeated c M place (onwards id)
  onwards_seated place id h = (bare (branch_is id), (region_label c M (place + 1) id h, tt))

  passed_is : (tree : Tree) → Owns M tree → IsLabelOf M (passed_label (place_of tree))
  passed_is tree mine = label_of M (place_of tree) 6 (place_owned M tree mine) (omega arith) (passed_label (place_of tree)) refl

  when_seated : (place k : ℕ) (tree : Tree) (inner : ℕ → List Inst) → Owns M tree → ((p : ℕ) → AreSeated c M p (inner p)) → AreSeated c M place (when_code c place k tree inner)
  when_seated place k tree inner mine h =
      let front : List Inst = when_head c place k (label_at tree) (place_of tree) in
      let p : ℕ = place + length front in
      let passed : ℕ = passed_label (place_of tree) in
      let chosen : List Inst = selection_inst passed ∷ inst 250 (result c (place + 1) ∷ label_at tree ∷ passed ∷ []) ∷ label_inst (label_at tree) ∷ [] in
      let choice : AreSeated c M (place + 1 + 1) chosen = (bare (selection_is passed 0), (bare (conditional_is _ _ _), (region_label c M _ (label_at tree) (label_owned M tree mine), tt))) in
      seated_append c M place front _ (wanted_then place k chosen choice) (seated_append c M p (inner p) (onwards passed) (h p) (onwards_seated _ passed (passed_is tree mine)))

  arm_seated : (place meet : ℕ) (tree : Tree) (inner : ℕ → List Inst) → Owns M tree → ((p : ℕ) → AreSeated c M p (inner p)) → AreSeated c M place (arm_code place meet tree inner)
  arm_seated place meet tree inner mine h =
      let front : List Inst = label_inst (label_at tree) ∷ [] in
      let p : ℕ = place + length front in
      seated_append c M place front _ (region_label c M place (label_at tree) (label_owned M tree mine), tt) (seated_append c M p (inner p) (branch_inst meet ∷ []) (h p) (bare (branch_is meet), tt))

  header_seated : (place r first : ℕ) → IsLabelOf M first → AreSeated c M place (header_code r first)
  header_seated place r first h = (bare (merge_is _ _ _), onwards_seated (place + 1) first h)

  footer_seated : (r : ℕ) → M r → (place k there other : ℕ) → AreSeated c M place (footer_code c r place k there other)
  footer_seated r mine place k there other =
      let third : place + 2 ≡ place + 1 + 1 = omega arith in
      let chosen : List Inst = inst 250 (result c (place + 2 + 1) ∷ there ∷ other ∷ []) ∷ label_inst (merge_label r) ∷ [] in
      let choice : AreSeated c M (place + 2 + 1 + 1) chosen = (bare (conditional_is _ there other), (region_label c M _ (merge_label r) (label_of M r 4 mine (omega arith) (merge_label r) refl), tt)) in
      (bare (branch_is _), (region_label c M (place + 1) (continue_label r) (label_of M r 3 mine (omega arith) (continue_label r) refl), at_place c M (is_wanted c (place + 2) k ++ chosen) (place + 2) (place + 1 + 1) third (wanted_then (place + 2) k chosen choice)))

  select_seated : (place r : ℕ) → M r → (arms : Arms) → AreSeated c M place (dispatch_head c r place arms)
  select_seated place r mine arms =
      let third : place + 3 ≡ place + 1 + 1 + 1 = omega arith in
      (bare (merge_is _ _ _), (bare (branch_is _), (region_label c M _ (body_label r) (label_of M r 2 mine (omega arith) (body_label r) refl), (own_at c M (place + 3) _ _ third (load_is _ _ _), (bare (selection_is _ 0), (bare (switch_is _), tt))))))

  -- the arm of one block, or what stands for the other arms
  one_test : (k place : ℕ) (tree : Tree) (arms : Arms) → Owns M tree → ((p : ℕ) → AreSeated c M p (row_code c p tree)) → AreSeated c M place (one_arm c k place arms) → (x : Bool) → AreSeated c M place (if x then followed place (onwards (label_at tree)) (λ p. row_code c p tree) else one_arm c k place arms)
  one_test k place tree arms mine h rest true =
      seated_append c M place (onwards (label_at tree)) _ (onwards_seated place (label_at tree) (label_owned M tree mine)) (h (place + length (onwards (label_at tree))))
  one_test k place tree arms mine h rest false = rest

-- ---- regions

mutual
  pub row_seated : (c : Context) (M : ℕ → Type 0) (tree : Tree) (place : ℕ) → Owns M tree → AreSeated c M place (row_code c place tree)
  row_seated c M Missing place h = absurd h
  row_seated c M (Leaf r b arms) place h =
      let block : Block = block_at c b in
      let code : List Inst = block_code c place b block in
      let one : ℕ → ℕ → List Inst = λ k p. one_arm c k p arms in
      let met : ℕ → List Inst = λ p. met_arms c (chosen_label r) p arms in
      let wanted : ℕ → List Inst = λ p. wanted_arms c p arms in
      seated_append c M place code _ (block_seated c M place b block) (left_seated c M r h.0 block.term (arm_label arms) (next_blocks block.term) one met wanted (λ k p. one_seated c M arms k p h.1) (λ p. met_seated c M arms (chosen_label r) p h.1) (λ p. wanted_seated c M arms p h.1) (block_env c place block) (way_of block.term) (place + length code))
  row_seated c M (Then r first second target) place h =
      let front : List Inst = row_code c place first in
      let p : ℕ = place + length front in
      seated_append c M place front _ (row_seated c M first place h.1) (when_seated c M p target second (λ q. row_code c q second) h.2 (λ q. row_seated c M second q h.2))
  row_seated c M (Loop r body head) place h =
      let front : List Inst = header_code r (label_at body) in
      let p : ℕ = place + length front in
      let inner : List Inst = row_code c p body in
      seated_append c M place front _ (header_seated c M place r (label_at body) (label_owned M body h.1)) (seated_append c M p inner _ (row_seated c M body p h.1) (footer_seated c M r h.0 (p + length inner) head (header_label r) (merge_label r)))
  row_seated c M (Dispatch r arms) place h =
      let front : List Inst = dispatch_head c r place arms in
      let p : ℕ = place + length front in
      let inner : List Inst = met_arms c (chosen_label r) p arms in
      let q : ℕ = p + length inner in
      seated_append c M place front _ (select_seated c M place r h.0 arms) (seated_append c M p inner _ (met_seated c M arms (chosen_label r) p h.1) (region_label c M q (chosen_label r) (label_of M r 5 h.0 (omega arith) (chosen_label r) refl), footer_seated c M r h.0 (q + 1) (no_block c) (merge_label r) (header_label r)))

  one_seated : (c : Context) (M : ℕ → Type 0) (arms : Arms) (k place : ℕ) → OwnsArms M arms → AreSeated c M place (one_arm c k place arms)
  one_seated c M No_arm k place h = (bare (store_is _ _), tt)
  one_seated c M (Arm target tree arms) k place h =
      one_test c M k place tree arms h.0 (λ p. row_seated c M tree p h.0) (one_seated c M arms k place h.1) (nat_eq k target)

  met_seated : (c : Context) (M : ℕ → Type 0) (arms : Arms) (meet place : ℕ) → OwnsArms M arms → AreSeated c M place (met_arms c meet place arms)
  met_seated c M No_arm meet place h = tt
  met_seated c M (Arm target tree arms) meet place h =
      let front : List Inst = arm_code place meet tree (λ q. row_code c q tree) in
      seated_append c M place front _ (arm_seated c M place meet tree (λ q. row_code c q tree) h.0 (λ q. row_seated c M tree q h.0)) (met_seated c M arms meet (place + length front) h.1)

  wanted_seated : (c : Context) (M : ℕ → Type 0) (arms : Arms) (place : ℕ) → OwnsArms M arms → AreSeated c M place (wanted_arms c place arms)
  wanted_seated c M No_arm place h = tt
  wanted_seated c M (Arm target tree arms) place h =
      let front : List Inst = when_code c place target tree (λ q. row_code c q tree) in
      seated_append c M place front _ (when_seated c M place target tree (λ q. row_code c q tree) h.0 (λ q. row_seated c M tree q h.0)) (wanted_seated c M arms (place + length front) h.1)
