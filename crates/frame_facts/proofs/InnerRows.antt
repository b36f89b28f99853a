-- The code of regions declares nothing, and each label in it stands at its own place or is one of theirs.
use Rattle.std.proofs.Common.{◌≡◌, ℕ, zero, suc, ◌+◌, ◌*◌, ◌<◌, Bool, true, false, List, [], ◌∷◌, ◌++◌, length, take, drop, Option, Some, None, refl, ap, arith}
use Rattle.std.specs.Prelude.{nat_eq, if◌then◌else◌}
use Rattle.dxil_form.specs.declared.value.Operand.{Operand}
use Rattle.dxil_form.specs.declared.block.Phi.{Phi}
use Rattle.dxil_form.specs.declared.block.Block.{Block}
use Rattle.dxil_form.specs.declared.block.Term.{Term}
use Rattle.dxil_form.specs.declared.block.Term.TheVariants.{Ret, Unreachable, Go, If, Switch}
use Rattle.spv_form.specs.declared.module.Inst.{Inst}
use Rattle.spirv_code.specs.declared.key.Slot.TheVariants.{Want}
use Rattle.spirv_code.specs.declared.way.Way.{Way}
use Rattle.spirv_code.specs.declared.way.Way.TheVariants.{Ends, Goes, Chooses, Splits}
use Rattle.spirv_code.specs.Plans.{Context, result, number, label, chosen_label, passed_label, header_label, merge_label}
use Rattle.spirv_code.specs.Reads.{Env, no_register, read_size, read_code}
use Rattle.spirv_code.specs.Lines.{lines_code}
use Rattle.spirv_code.specs.Leaves.{group_code, group_env, leave_code, edge_code, edges_code, entry_operand, phis_of, next_blocks, way_of, most_pairs, followed, inner_code, block_code, block_env}
use Rattle.spirv_code.specs.Exits.{label_inst, branch_inst, no_block, setters_code, loose, way_label, exit_branch, choose_head, choose_code, chunk_meet, chunk_head, chunk_code, case_targets, chunks_code, chunk_count, split_code, tested, tested_code, tested_id, exit_code}
use Rattle.spirv_code.specs.Trees.{Tree, Missing, Leaf, Then, Loop, Dispatch, Arms, No_arm, Arm, label_at, place_of, arm_label}
use Rattle.spirv_code.specs.Rows.{when_head, onwards, when_code, arm_code, header_code, footer_code, dispatch_head, dispatch_tail, block_at, row_code, one_arm, met_arms, wanted_arms}
use Rattle.frame_facts.specs.Inner.{Inner, plain, own, of_region, AreInner, Owns, OwnsArms}
use Rattle.frame_facts.proofs.Searches.{Each, each_append}
use Rattle.frame_facts.proofs.InnerLines.{IsPlain, at_place, inner_append, plains_inner, read_plain, store_plain, lines_inner}
use Rattle.std.specs.Prelude.{slice_get}

-- ---- a block

group_plain : (c : Context) (place : ℕ) (phis : List Phi) → Each IsPlain (group_code c place phis)
group_plain c place [] = tt
group_plain c place (phi ∷ phis) = (refl, (refl, group_plain c (place + 2) phis))

edge_plain : (c : Context) (env : Env) (place from : ℕ) (phis : List Phi) → Each IsPlain (edge_code c env place from phis)
edge_plain c env place from [] = tt
edge_plain c env place from (phi ∷ phis) =
    let a : Operand = entry_operand from phi.ty phi.entries in
    each_append IsPlain (leave_code c env place phi a) _ (each_append IsPlain (read_code c env place a) _ (read_plain c env place a) (refl, tt)) (edge_plain c env (place + (read_size c env a + 1)) from phis)

edges_plain : (c : Context) (env : Env) (place from : ℕ) (ks : List ℕ) → Each IsPlain (edges_code c env place from ks)
edges_plain c env place from [] = tt
edges_plain c env place from (k ∷ ks) =
    let phis : List Phi = phis_of (slice_get c.blocks k) in
    each_append IsPlain (edge_code c env place from phis) _ (edge_plain c env place from phis) (edges_plain c env (place + length (edge_code c env place from phis)) from ks)

-- what stands at a place, and what follows it there
pub followed_inner : (c : Context) (M : ℕ → Type 0) (place : ℕ) (front : List Inst) (rest : ℕ → List Inst) → AreInner c M place front → AreInner c M (place + length front) (rest (place + length front)) → AreInner c M place (followed place front rest)
followed_inner c M place front rest h k = inner_append c M place front (rest (place + length front)) h k

pub block_inner : (c : Context) (M : ℕ → Type 0) (place from : ℕ) (block : Block) → AreInner c M place (block_code c place from block)
block_inner c M place from block =
    let group : List Inst = group_code c place block.phis in
    let lines : ℕ → List Inst = λ p. lines_code c (group_env c no_register place block.phis) p block.instrs in
    let edges : ℕ → List Inst = λ p. edges_code c (block_env c place block) p from (next_blocks block.term) in
    let front = followed_inner c M place group lines (plains_inner c M place group (group_plain c place block.phis)) (lines_inner c M (group_env c no_register place block.phis) (place + length group) block.instrs) in
    followed_inner c M place (inner_code c place block) edges front (plains_inner c M _ (edges (place + length (inner_code c place block))) (edges_plain c (block_env c place block) (place + length (inner_code c place block)) from (next_blocks block.term)))

-- ---- how a block is left

setters_inner : (c : Context) (M : ℕ → Type 0) (place meet : ℕ) (ks : List ℕ) → AreInner c M place (setters_code c place meet ks)
setters_inner c M place meet [] = tt
setters_inner c M place meet (k ∷ ks) =
    let next : place + 3 ≡ place + 1 + 1 + 1 = omega arith in
    (own refl, (plain refl, (plain refl, at_place c M (setters_code c (place + 3) meet ks) (place + 3) (place + 1 + 1 + 1) next (setters_inner c M (place + 3) meet ks))))

setters_length : (c : Context) (place meet : ℕ) (ks : List ℕ) → length (setters_code c place meet ks) ≡ 3 * length ks
setters_length c place meet [] = refl
setters_length c place meet (k ∷ ks) =
    let ih = setters_length c (place + 3) meet ks in
    let whole : suc (suc (suc (length (setters_code c (place + 3) meet ks)))) ≡ 3 * length (k ∷ ks) = omega (arith, ih) in
    whole

exit_plain : (to : ℕ → ℕ) (id : ℕ) (term : Term) → Each IsPlain (exit_branch to id term)
exit_plain to id Ret = tt
exit_plain to id Unreachable = tt
exit_plain to id (Go k) = tt
exit_plain to id (If cond there other) = (refl, tt)
exit_plain to id (Switch value default cases) = (refl, tt)

pub choose_inner : (c : Context) (M : ℕ → Type 0) (place meet id : ℕ) (term : Term) (labels : ℕ → Option ℕ) (ks : List ℕ) → AreInner c M place (choose_code c place meet id term labels ks)
choose_inner c M place meet id term labels ks =
    let front : List Inst = choose_head meet id term labels (result c (place + 2)) ks in
    followed_inner c M place front (λ p. setters_code c p meet ks) (plains_inner c M place front (refl, exit_plain (way_label labels (result c (place + 2)) ks) id term)) (setters_inner c M (place + length front) meet ks)

chunk_inner : (c : Context) (M : ℕ → Type 0) (place : ℕ) (cases : List (ℕ × ℕ)) (ks : List ℕ) → AreInner c M place (chunk_code c place cases ks)
chunk_inner c M place cases ks =
    let meet : ℕ = chunk_meet c place ks in
    let setters : List Inst = setters_code c (place + 3) meet ks in
    let next : place + 3 ≡ place + length (chunk_head c place cases ks) = refl in
    let size = setters_length c (place + 3) meet ks in
    let ends : place + (3 + 3 * length ks) ≡ place + length (chunk_head c place cases ks) + length setters = omega (arith, size) in
    inner_append c M place (chunk_head c place cases ks) (setters ++ (label_inst meet ∷ [])) (plain refl, (plain refl, (plain refl, tt))) (inner_append c M (place + length (chunk_head c place cases ks)) setters (label_inst meet ∷ []) (at_place c M setters (place + 3) (place + length (chunk_head c place cases ks)) next (setters_inner c M (place + 3) meet ks)) (own (ap (λ n. label_inst (result c n)) ends), tt))

chunks_inner : (c : Context) (M : ℕ → Type 0) (place n : ℕ) (cases : List (ℕ × ℕ)) → AreInner c M place (chunks_code c place n cases)
chunks_inner c M place zero cases = tt
chunks_inner c M place (suc n) cases =
    let front : List Inst = chunk_code c place (take most_pairs cases) (case_targets (take most_pairs cases)) in
    followed_inner c M place front (λ p. chunks_code c p n (drop most_pairs cases)) (chunk_inner c M place (take most_pairs cases) (case_targets (take most_pairs cases))) (chunks_inner c M (place + length front) n (drop most_pairs cases))

pub split_inner : (c : Context) (M : ℕ → Type 0) (place id : ℕ) (term : Term) → AreInner c M place (split_code c place id term)
split_inner c M place id Ret = tt
split_inner c M place id Unreachable = tt
split_inner c M place id (Go k) = tt
split_inner c M place id (If cond there other) = tt
split_inner c M place id (Switch value default cases) =
    let next : place + 2 ≡ place + 1 + 1 = omega arith in
    (plain refl, (plain refl, at_place c M (chunks_code c (place + 2) (chunk_count (length cases)) cases) (place + 2) (place + 1 + 1) next (chunks_inner c M (place + 2) (chunk_count (length cases)) cases)))

pub tested_plain : (c : Context) (env : Env) (place : ℕ) (a : Option Operand) → Each IsPlain (tested_code c env place a)
tested_plain c env place None = tt
tested_plain c env place (Some a) = read_plain c env place a

exit_inner : (c : Context) (M : ℕ → Type 0) (r : ℕ) → M r → (term : Term) (labels : ℕ → Option ℕ) (ks : List ℕ) (one : ℕ → ℕ → List Inst) (met wanted : ℕ → List Inst) → ((k place : ℕ) → AreInner c M place (one k place)) → ((place : ℕ) → AreInner c M place (met place)) → ((place : ℕ) → AreInner c M place (wanted place)) → (env : Env) (way : Way) (place : ℕ) → AreInner c M place (exit_code c (chosen_label r) term labels ks one met wanted env way place)
exit_inner c M r mine term labels ks one met wanted h1 h2 h3 env Ends place =
    plains_inner c M place _ (store_plain (c.slot Want) (number c (no_block c)))
exit_inner c M r mine term labels ks one met wanted h1 h2 h3 env (Goes k) place = h1 k place
exit_inner c M r mine term labels ks one met wanted h1 h2 h3 env Chooses place =
    let meet : ℕ = chosen_label r in
    let test : List Inst = tested_code c env place (tested term) in
    let id : ℕ = tested_id c env place (tested term) in
    let p : ℕ = place + length test in
    let chosen : List Inst = choose_code c p meet id term labels (loose labels ks) in
    let q : ℕ = p + length chosen in
    let five : 5 < 8 = omega arith in
    followed_inner c M place test (λ p. followed p (choose_code c p meet id term labels (loose labels ks)) (λ q. met q ++ (label_inst meet ∷ []))) (plains_inner c M place test (tested_plain c env place (tested term))) (followed_inner c M p chosen (λ q. met q ++ (label_inst meet ∷ [])) (choose_inner c M p meet id term labels (loose labels ks)) (inner_append c M q (met q) (label_inst meet ∷ []) (h2 q) (of_region r 5 mine five refl, tt)))
exit_inner c M r mine term labels ks one met wanted h1 h2 h3 env Splits place =
    let test : List Inst = tested_code c env place (tested term) in
    let id : ℕ = tested_id c env place (tested term) in
    let p : ℕ = place + length test in
    let front : List Inst = split_code c p id term in
    followed_inner c M place test (λ p. followed p (split_code c p id term) wanted) (plains_inner c M place test (tested_plain c env place (tested term))) (followed_inner c M p front wanted (split_inner c M p id term) (h3 (p + length front)))

-- ---- labels of regions

pub record IsLabelOf (M : ℕ → Type 0) (id : ℕ) : Type 0 where
  pub region : ℕ
  pub kind : ℕ
  pub mine : M region
  pub few : kind < 8
  pub is : id ≡ label region kind

pub label_owned : (M : ℕ → Type 0) (tree : Tree) → Owns M tree → IsLabelOf M (label_at tree)
label_owned M Missing h = absurd h
label_owned M (Leaf r b arms) h = record { region = r; kind = 0; mine = h.0; few = omega arith; is = refl }
label_owned M (Then r first second target) h = label_owned M first h.1
label_owned M (Loop r body head) h = record { region = r; kind = 1; mine = h.0; few = omega arith; is = refl }
label_owned M (Dispatch r arms) h = record { region = r; kind = 1; mine = h.0; few = omega arith; is = refl }

pub place_owned : (M : ℕ → Type 0) (tree : Tree) → Owns M tree → M (place_of tree)
place_owned M Missing h = absurd h
place_owned M (Leaf r b arms) h = h.0
place_owned M (Then r first second target) h = h.0
place_owned M (Loop r body head) h = h.0
place_owned M (Dispatch r arms) h = h.0

pub label_inner : (c : Context) (M : ℕ → Type 0) (place id : ℕ) → IsLabelOf M id → Inner c M place (label_inst id)
label_inner c M place id h = of_region h.region h.kind h.mine h.few (ap label_inst h.is)

passed_inner : (c : Context) (M : ℕ → Type 0) (place r : ℕ) → M r → Inner c M place (label_inst (passed_label r))
passed_inner c M place r mine =
    let six : 6 < 8 = omega arith in
    of_region r 6 mine six refl

-- ---- pieces of regions

when_inner : (c : Context) (M : ℕ → Type 0) (place k : ℕ) (tree : Tree) (inner : ℕ → List Inst) → Owns M tree → ((p : ℕ) → AreInner c M p (inner p)) → AreInner c M place (when_code c place k tree inner)
when_inner c M place k tree inner mine h =
    let front : List Inst = when_head c place k (label_at tree) (place_of tree) in
    let p : ℕ = place + length front in
    let passed : ℕ = passed_label (place_of tree) in
    followed_inner c M place front (λ p. inner p ++ onwards passed) (plain refl, (plain refl, (plain refl, (plain refl, (label_inner c M _ (label_at tree) (label_owned M tree mine), tt))))) (inner_append c M p (inner p) (onwards passed) (h p) (plain refl, (passed_inner c M _ (place_of tree) (place_owned M tree mine), tt)))

arm_inner : (c : Context) (M : ℕ → Type 0) (place meet : ℕ) (tree : Tree) (inner : ℕ → List Inst) → Owns M tree → ((p : ℕ) → AreInner c M p (inner p)) → AreInner c M place (arm_code place meet tree inner)
arm_inner c M place meet tree inner mine h =
    let front : List Inst = label_inst (label_at tree) ∷ [] in
    let p : ℕ = place + length front in
    followed_inner c M place front (λ p. inner p ++ (branch_inst meet ∷ [])) (label_inner c M _ (label_at tree) (label_owned M tree mine), tt) (inner_append c M p (inner p) (branch_inst meet ∷ []) (h p) (plain refl, tt))

header_inner : (c : Context) (M : ℕ → Type 0) (place r first : ℕ) → IsLabelOf M first → AreInner c M place (header_code r first)
header_inner c M place r first h = (plain refl, (plain refl, (label_inner c M _ first h, tt)))

footer_inner : (c : Context) (M : ℕ → Type 0) (r : ℕ) → M r → (place k there other : ℕ) → AreInner c M place (footer_code c r place k there other)
footer_inner c M r mine place k there other =
    let three : 3 < 8 = omega arith in
    let four : 4 < 8 = omega arith in
    (plain refl, (of_region r 3 mine three refl, (plain refl, (plain refl, (plain refl, (of_region r 4 mine four refl, tt))))))

-- the arm of one block, or what stands for the other arms
by_test : (c : Context) (M : ℕ → Type 0) (k place target : ℕ) (tree : Tree) (arms : Arms) → Owns M tree → ((p : ℕ) → AreInner c M p (row_code c p tree)) → AreInner c M place (one_arm c k place arms) → (b : Bool) → AreInner c M place (if b then followed place (onwards (label_at tree)) (λ p. row_code c p tree) else one_arm c k place arms)
by_test c M k place target tree arms mine h rest true =
    followed_inner c M place (onwards (label_at tree)) (λ p. row_code c p tree) (plain refl, (label_inner c M _ (label_at tree) (label_owned M tree mine), tt)) (h (place + length (onwards (label_at tree))))
by_test c M k place target tree arms mine h rest false = rest

-- ---- regions

mutual
  pub row_inner : (c : Context) (M : ℕ → Type 0) (tree : Tree) (place : ℕ) → Owns M tree → AreInner c M place (row_code c place tree)
  row_inner c M Missing place h = absurd h
  row_inner c M (Leaf r b arms) place h =
      let block : Block = block_at c b in
      let code : List Inst = block_code c place b block in
      let one : ℕ → ℕ → List Inst = λ k p. one_arm c k p arms in
      let met : ℕ → List Inst = λ p. met_arms c (chosen_label r) p arms in
      let wanted : ℕ → List Inst = λ p. wanted_arms c p arms in
      followed_inner c M place code (exit_code c (chosen_label r) block.term (arm_label arms) (next_blocks block.term) one met wanted (block_env c place block) (way_of block.term)) (block_inner c M place b block) (exit_inner c M r h.0 block.term (arm_label arms) (next_blocks block.term) one met wanted (λ k p. one_inner c M arms k p h.1) (λ p. met_inner c M arms (chosen_label r) p h.1) (λ p. wanted_inner c M arms p h.1) (block_env c place block) (way_of block.term) (place + length code))
  row_inner c M (Then r first second target) place h =
      let front : List Inst = row_code c place first in
      let p : ℕ = place + length front in
      followed_inner c M place front (λ p. when_code c p target second (λ q. row_code c q second)) (row_inner c M first place h.1) (when_inner c M p target second (λ q. row_code c q second) h.2 (λ q. row_inner c M second q h.2))
  row_inner c M (Loop r body head) place h =
      let front : List Inst = header_code r (label_at body) in
      let p : ℕ = place + length front in
      let inner : List Inst = row_code c p body in
      followed_inner c M place front (λ p. followed p (row_code c p body) (λ q. footer_code c r q head (header_label r) (merge_label r))) (header_inner c M place r (label_at body) (label_owned M body h.1)) (followed_inner c M p inner (λ q. footer_code c r q head (header_label r) (merge_label r)) (row_inner c M body p h.1) (footer_inner c M r h.0 (p + length inner) head (header_label r) (merge_label r)))
  row_inner c M (Dispatch r arms) place h =
      let front : List Inst = dispatch_head c r place arms in
      let p : ℕ = place + length front in
      let inner : List Inst = met_arms c (chosen_label r) p arms in
      let two : 2 < 8 = omega arith in
      let five : 5 < 8 = omega arith in
      followed_inner c M place front (λ p. followed p (met_arms c (chosen_label r) p arms) (λ q. dispatch_tail c r q)) (plain refl, (plain refl, (of_region r 2 h.0 two refl, (plain refl, (plain refl, (plain refl, tt)))))) (followed_inner c M p inner (λ q. dispatch_tail c r q) (met_inner c M arms (chosen_label r) p h.1) (of_region r 5 h.0 five refl, footer_inner c M r h.0 (p + length inner + 1) (no_block c) (merge_label r) (header_label r)))

  one_inner : (c : Context) (M : ℕ → Type 0) (arms : Arms) (k place : ℕ) → OwnsArms M arms → AreInner c M place (one_arm c k place arms)
  one_inner c M No_arm k place h = (plain refl, tt)
  one_inner c M (Arm target tree arms) k place h =
      by_test c M k place target tree arms h.0 (λ p. row_inner c M tree p h.0) (one_inner c M arms k place h.1) (nat_eq k target)

  met_inner : (c : Context) (M : ℕ → Type 0) (arms : Arms) (meet place : ℕ) → OwnsArms M arms → AreInner c M place (met_arms c meet place arms)
  met_inner c M No_arm meet place h = tt
  met_inner c M (Arm target tree arms) meet place h =
      let front : List Inst = arm_code place meet tree (λ q. row_code c q tree) in
      followed_inner c M place front (λ p. met_arms c meet p arms) (arm_inner c M place meet tree (λ q. row_code c q tree) h.0 (λ q. row_inner c M tree q h.0)) (met_inner c M arms meet (place + length front) h.1)

  wanted_inner : (c : Context) (M : ℕ → Type 0) (arms : Arms) (place : ℕ) → OwnsArms M arms → AreInner c M place (wanted_arms c place arms)
  wanted_inner c M No_arm place h = tt
  wanted_inner c M (Arm target tree arms) place h =
      let front : List Inst = when_code c place target tree (λ q. row_code c q tree) in
      followed_inner c M place front (λ p. wanted_arms c p arms) (when_inner c M place target tree (λ q. row_code c q tree) h.0 (λ q. row_inner c M tree q h.0)) (wanted_inner c M arms (place + length front) h.1)
