-- How a block is left: its last branch, and the blocks that store which block is wanted.
use Rattle.std.proofs.Common.{◌≡◌, ℕ, zero, suc, ◌+◌, ◌*◌, ◌≤◌, Bool, true, false, List, [], ◌∷◌, ◌++◌, length, take, drop, Option, Some, None, refl, arith}
use Rattle.std.specs.Prelude.{nat_lt, if◌then◌else◌}
use Rattle.dxil_form.specs.declared.value.Operand.{Operand}
use Rattle.dxil_form.specs.declared.block.Term.{Term}
use Rattle.dxil_form.specs.declared.block.Term.TheVariants.{Ret, Unreachable, Go, If, Switch}
use Rattle.dxil_form.specs.Sound.{cases_in}
use Rattle.spv_form.specs.declared.module.Inst.{Inst}
use Rattle.module_rules.specs.Entry.{has_many_pairs}
use Rattle.spirv_code.specs.declared.way.Way.{Way}
use Rattle.spirv_code.specs.declared.way.Way.TheVariants.{Ends, Goes, Chooses, Splits}
use Rattle.spirv_code.specs.declared.key.Slot.TheVariants.{Want}
use Rattle.spirv_code.specs.Plans.{Context, inst, result, number}
use Rattle.spirv_code.specs.Reads.{Env}
use Rattle.spirv_code.specs.Leaves.{next_blocks, way_to, way_of, most_pairs}
use Rattle.spirv_code.specs.Exits.{label_inst, no_block, setters_code, loose, way_label, pairs, switch_inst, exit_branch, choose_head, choose_code, chunk_meet, chunk_head, chunk_code, case_targets, chunks_code, chunk_count, split_code, tested, tested_code, tested_id, exit_code}
use Rattle.formed_rows.proofs.Switches.{pairs_length}
use Rattle.frame_order.proofs.Leads.{AreInside, Leads, ends, inside, closes, opens, leads_append, inside_leads, inside_then, branch_few, fork_few}
use Rattle.frame_order.proofs.Inside.{read_inside, store_inside}

-- a switch of so few words has few pairs
pub words_few : (operands : List ℕ) → length operands ≤ 2 + 2 * most_pairs → has_many_pairs (inst 251 operands) ≡ false
unfolding has_many_pairs
words_few operands low = few (length operands) low
  where
    few : (n : ℕ) → n ≤ 32768 → nat_lt 32768 n ≡ false
    few n h = grind arith

switch_few : (to : ℕ → ℕ) (id other : ℕ) (cases : List (ℕ × ℕ)) → length cases ≤ most_pairs → has_many_pairs (switch_inst to id other cases) ≡ false
switch_few to id other cases few =
    let long = pairs_length to cases in
    words_few (id ∷ other ∷ pairs to cases) (omega (arith, long, few))

-- a block that may go to several is left by few cases, unless these are split
pub chosen_few : (term : Term) → way_of term ≡ Chooses → cases_in term ≤ most_pairs
chosen_few term e = by_blocks (next_blocks term) e
  where
    not_more : (n : ℕ) → nat_lt most_pairs n ≡ false → n ≤ most_pairs
    not_more n h = grind arith

    by_test : (b : Bool) → nat_lt most_pairs (cases_in term) ≡ b → (if b then Splits else Chooses) ≡ Chooses → cases_in term ≤ most_pairs
    by_test true f g = absurd (cc)
    by_test false f g = not_more (cases_in term) f

    by_blocks : (ks : List ℕ) → way_to ks (cases_in term) ≡ Chooses → cases_in term ≤ most_pairs
    by_blocks [] g = absurd (cc)
    by_blocks (k ∷ []) g = absurd (cc)
    by_blocks (k ∷ l ∷ ks) g = by_test (nat_lt most_pairs (cases_in term)) refl g

module _ (c : Context) where
  setters_lead : (place meet : ℕ) (ks : List ℕ) → Leads false (setters_code c place meet ks) false
  setters_lead place meet [] = ends
  setters_lead place meet (k ∷ ks) = opens (inside refl (closes refl (branch_few _) (setters_lead (place + 3) meet ks)))

  -- a terminator that has ways to choose from
  exit_leads : (to : ℕ → ℕ) (id : ℕ) (term : Term) → way_of term ≡ Chooses → Leads true (exit_branch to id term) false
  exit_leads to id Ret way = absurd (cc)
  exit_leads to id Unreachable way = absurd (cc)
  exit_leads to id (Go k) way = absurd (cc)
  exit_leads to id (If cond there other) way = closes refl (fork_few _) ends
  exit_leads to id (Switch value default cases) way =
      closes refl (switch_few to id (to default) cases (chosen_few (Switch value default cases) way)) ends

  choose_leads : (place meet id : ℕ) (term : Term) (labels : ℕ → Option ℕ) (ks : List ℕ) → way_of term ≡ Chooses → Leads true (choose_code c place meet id term labels ks) false
  choose_leads place meet id term labels ks way =
      let head = choose_head meet id term labels (result c (place + 2)) ks in
      leads_append head (setters_code c (place + length head) meet ks) (inside refl (exit_leads (way_label labels (result c (place + 2)) ks) id term way)) (setters_lead (place + length head) meet ks)

  chunk_leads : (place : ℕ) (cases : List (ℕ × ℕ)) (ks : List ℕ) → length cases ≤ most_pairs → Leads true (chunk_code c place cases ks) true
  chunk_leads place cases ks few =
      let setters = setters_code c (place + 3) (chunk_meet c place ks) ks in
      leads_append (chunk_head c place cases ks) (setters ++ (label_inst (chunk_meet c place ks) ∷ [])) (inside refl (inside refl (closes refl (switch_few _ _ _ cases few) ends))) (leads_append setters (label_inst (chunk_meet c place ks) ∷ []) (setters_lead (place + 3) (chunk_meet c place ks) ks) (opens ends))

  take_few : (n : ℕ) (cases : List (ℕ × ℕ)) → length (take n cases) ≤ n
  take_few zero cases = omega arith
  take_few (suc n) [] = omega arith
  take_few (suc n) (x ∷ cases) = let rest = take_few n cases in omega (arith, rest)

  chunks_lead : (place n : ℕ) (cases : List (ℕ × ℕ)) → Leads true (chunks_code c place n cases) true
  chunks_lead place zero cases = ends
  chunks_lead place (suc n) cases =
      let now = take most_pairs cases in
      let front = chunk_code c place now (case_targets now) in
      leads_append front (chunks_code c (place + length front) n (drop most_pairs cases)) (chunk_leads place now (case_targets now) (take_few most_pairs cases)) (chunks_lead (place + length front) n (drop most_pairs cases))

  split_leads : (place id : ℕ) (term : Term) → Leads true (split_code c place id term) true
  split_leads place id Ret = ends
  split_leads place id Unreachable = ends
  split_leads place id (Go k) = ends
  split_leads place id (If cond there other) = ends
  split_leads place id (Switch value default cases) =
      inside refl (inside refl (chunks_lead (place + 2) (chunk_count (length cases)) cases))

  tested_inside : (env : Env) (place : ℕ) (a : Option Operand) → AreInside (tested_code c env place a)
  tested_inside env place None = tt
  tested_inside env place (Some a) = read_inside c env place a

  pub left_leads : (meet : ℕ) (term : Term) (labels : ℕ → Option ℕ) (one : ℕ → ℕ → List Inst) (met wanted : ℕ → List Inst) → ((k place : ℕ) → Leads true (one k place) true) → ((place : ℕ) → Leads false (met place) false) → ((place : ℕ) → Leads true (wanted place) true) → (env : Env) (way : Way) (place : ℕ) → way_of term ≡ way → Leads true (exit_code c meet term labels (next_blocks term) one met wanted env way place) true
  left_leads meet term labels one met wanted h1 h2 h3 env Ends place is =
      inside_leads _ (store_inside (c.slot Want) (number c (no_block c)))
  left_leads meet term labels one met wanted h1 h2 h3 env (Goes k) place is = h1 k place
  left_leads meet term labels one met wanted h1 h2 h3 env Chooses place is =
      let test = tested_code c env place (tested term) in
      let id = tested_id c env place (tested term) in
      let p = place + length test in
      let chosen = choose_code c p meet id term labels (loose labels (next_blocks term)) in
      let code = met (p + length chosen) in
      inside_then test (chosen ++ (code ++ (label_inst meet ∷ []))) (tested_inside env place (tested term)) (leads_append chosen (code ++ (label_inst meet ∷ [])) (choose_leads p meet id term labels (loose labels (next_blocks term)) is) (leads_append code (label_inst meet ∷ []) (h2 (p + length chosen)) (opens ends)))
  left_leads meet term labels one met wanted h1 h2 h3 env Splits place is =
      let test = tested_code c env place (tested term) in
      let id = tested_id c env place (tested term) in
      let p = place + length test in
      let split = split_code c p id term in
      inside_then test (split ++ wanted (p + length split)) (tested_inside env place (tested term)) (leads_append split (wanted (p + length split)) (split_leads p id term) (h3 (p + length split)))
