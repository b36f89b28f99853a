-- A switch of many cases, which are tested chunk after chunk, keeps the rules.
use Rattle.std.proofs.Common.{◌≡◌, ℕ, zero, suc, ◌+◌, ◌≤◌, true, List, [], ◌∷◌, ◌++◌, length, map, take, drop, refl, sym, ◌∙◌, arith}
use Rattle.dxil_form.specs.declared.value.Ty.TheVariants as ty
use Rattle.dxil_form.specs.declared.block.Term.{Term}
use Rattle.dxil_form.specs.declared.block.Term.TheVariants.{Ret, Unreachable, Go, If, Switch}
use Rattle.dxil_form.specs.Branches.{has, targets}
use Rattle.spv_form.specs.declared.module.Inst.{Inst}
use Rattle.spirv_code.specs.declared.key.Sort.TheVariants as sort
use Rattle.spirv_code.specs.declared.key.Slot.TheVariants.{Pick}
use Rattle.spirv_code.specs.declared.key.Global.TheVariants.{Plain as PlainKey}
use Rattle.spirv_code.specs.Plans.{Context, inst, result, int_id, variable}
use Rattle.spirv_code.specs.Leaves.{most_pairs}
use Rattle.spirv_code.specs.Exits.{label_inst, selection_inst, want_inst, setters_code, setter_label, pairs, switch_inst, chunk_meet, chunk_code, case_targets, chunks_code, chunk_count, split_code}
use Rattle.line_runs.specs.Held.{Setting, Has, Uses}
use Rattle.line_runs.proofs.Pieces.{has_front, has_back}
use Rattle.leaf_runs.specs.BlockReady.{HasVariable}
use Rattle.access_runs.proofs.Stepping.{has_at}
use Rattle.region_runs.proofs.Targets.{has_different, has_here, has_there}
use Rattle.region_runs.proofs.Cases.{has_taken, has_dropped}
use Rattle.ruled_lines.specs.Kept.{AreKept, StandsAhead}
use Rattle.ruled_lines.proofs.Readings.{block_next, value_later}
use Rattle.ruled_lines.proofs.Going.{kept_append}
use Rattle.ruled_lines.proofs.Straight.{cons_kept, step}
use Rattle.ruled_lines.proofs.Jumps.{label_rules, merge_rules}
use Rattle.ruled_blocks.proofs.Phis.{load_shape, load_slot, store_slot, sort_used}
use Rattle.ruled_exits.specs.Exits.{Stands, CanWant}
use Rattle.ruled_exits.proofs.Wants.{want_rules, setters_kept, setter_there}
use Rattle.ruled_exits.proofs.Switches.{switch_rules}
use Rattle.ruled_exits.proofs.Tested.{TestedValue}
use Rattle.ruled_exits.proofs.Chosen.{pairs_stand}

-- the blocks that cases go to
abbrev goals : List (ℕ × ℕ) → List ℕ
goals cases = map (λ (x : ℕ × ℕ). x.1) cases

module _ (s : Setting) (low : ℕ) (ahead : StandsAhead s low) (pick : HasVariable s Pick) where
  abbrev insts : List Inst
  insts = s.made.insts

  abbrev c : Context
  c = s.context

  int : Uses s (PlainKey sort.Int)
  int = sort_used s low ahead Pick pick

  -- the load of the value, the selection, and the switch in front of the setters
  head_kept : (place meet : ℕ) (cases : List (ℕ × ℕ)) (ks : List ℕ) (rest : List Inst) → low ≤ place → Stands insts meet → ((k : ℕ) → has k (goals cases) ≡ true → Stands insts (setter_label (result c (place + 3)) ks k)) → Has s.made place (inst 61 (int_id c ∷ result c place ∷ variable c Pick ∷ []) ∷ selection_inst meet ∷ switch_inst (setter_label (result c (place + 3)) ks) (result c place) meet cases ∷ rest) → AreKept insts (place + 3) rest → AreKept insts place (inst 61 (int_id c ∷ result c place ∷ variable c Pick ∷ []) ∷ selection_inst meet ∷ switch_inst (setter_label (result c (place + 3)) ks) (result c place) meet cases ∷ rest)
  head_kept place meet cases ks rest behind there labels code more =
      let to : ℕ → ℕ = setter_label (result c (place + 3)) ks in
      let branch : Inst = switch_inst to (result c place) meet cases in
      let back : List Inst = selection_inst meet ∷ branch ∷ rest in
      let x = step s low ahead place (place + 1) 61 (int_id c) (variable c Pick ∷ []) 1 1 0 back refl load_shape refl (load_slot s low ahead place (result c place) Pick ty.Int pick refl behind) code in
      let stays = block_next insts (place + 1) (selection_inst meet) x.has.0 refl in
      let value = value_later insts (place + 1) (place + 1 + 1) (result c place) (int_id c) (omega arith) stays x.value in
      let switch = switch_rules s low ahead (place + 1 + 1) (result c place) meet (pairs to cases) int value there (pairs_stand insts to cases labels) in
      (x.kept, (merge_rules s low ahead (place + 1) there.0 meet there.1, cons_kept insts (place + 1 + 1) (place + 3) branch rest (omega arith) switch more))

  chunk_kept : (place : ℕ) (cases : List (ℕ × ℕ)) (ks : List ℕ) → low ≤ place → ((k : ℕ) → has k (goals cases) ≡ true → has k ks ≡ true) → ((k : ℕ) → has k ks ≡ true → CanWant s k) → Has s.made place (chunk_code c place cases ks) → AreKept insts place (chunk_code c place cases ks)
  chunk_kept place cases ks behind among can code =
      let meet : ℕ = chunk_meet c place ks in
      let sets : List Inst = setters_code c (place + 3) meet ks in
      let tail : List Inst = label_inst meet ∷ [] in
      let e : place + 1 + 1 + 1 ≡ place + 3 = omega arith in
      let inner = has_at s.made (place + 1 + 1 + 1) (place + 3) (sets ++ tail) e code.1.1.1 in
      let front = has_front s.made (place + 3) sets tail inner in
      let there : Stands insts meet = (place + 3 + length sets, (has_back s.made (place + 3) sets tail inner).0) in
      let later : low ≤ place + 3 = omega (arith, behind) in
      let labels : (k : ℕ) → has k (goals cases) ≡ true → Stands insts (setter_label (result c (place + 3)) ks k) = λ k h. setter_there s ks (place + 3) meet k (among k h) front in
      head_kept place meet cases ks (sets ++ tail) behind there labels code (kept_append insts (place + 3) sets tail (setters_kept s low ahead ks (place + 3) meet there can later front) (label_rules insts (place + 3 + length sets) meet, tt))

  chunks_kept : (n place : ℕ) (cases : List (ℕ × ℕ)) → low ≤ place → ((k : ℕ) → has k (goals cases) ≡ true → CanWant s k) → Has s.made place (chunks_code c place n cases) → AreKept insts place (chunks_code c place n cases)
  chunks_kept zero place cases behind can code = tt
  chunks_kept (suc n) place cases behind can code =
      let now : List (ℕ × ℕ) = take most_pairs cases in
      let left : List (ℕ × ℕ) = drop most_pairs cases in
      let ks : List ℕ = case_targets now in
      let front : List Inst = chunk_code c place now ks in
      let q : ℕ = place + length front in
      let back : List Inst = chunks_code c q n left in
      let same : (k : ℕ) → has k ks ≡ has k (goals now) = λ k. has_different k (goals now) in
      let first = chunk_kept place now ks behind (λ k h. same k ∙ h) (λ k h. can k (has_taken most_pairs k cases (sym (same k) ∙ h))) (has_front s.made place front back code) in
      let later : low ≤ q = omega (arith, behind) in
      kept_append insts place front back first (chunks_kept n q left later (λ k h. can k (has_dropped most_pairs k cases h)) (has_back s.made place front back code))

  pub split_kept : (term : Term) (place id : ℕ) → low ≤ place → TestedValue s place id term → ((k : ℕ) → has k (targets term) ≡ true → CanWant s k) → Has s.made place (split_code c place id term) → AreKept insts place (split_code c place id term)
  split_kept Ret place id behind value can code = absurd value
  split_kept Unreachable place id behind value can code = absurd value
  split_kept (Go k) place id behind value can code = absurd value
  split_kept (If cond there other) place id behind value can code = tt
  split_kept (Switch on default cases) place id behind value can code =
      let n : ℕ = chunk_count (length cases) in
      let back : List Inst = chunks_code c (place + 2) n cases in
      let e : place + 1 + 1 ≡ place + 2 = omega arith in
      let first = store_slot s low ahead place id Pick ty.Int pick refl behind value.0 in
      let second = want_rules s low ahead (place + 1) default (can default (has_here default (goals cases))) (omega (arith, behind)) in
      let rest = chunks_kept n (place + 2) cases (omega (arith, behind)) (λ k h. can k (has_there k default (goals cases) h)) (has_at s.made (place + 1 + 1) (place + 2) back e code.1.1) in
      (first, cons_kept insts (place + 1) (place + 2) (want_inst c default) back e second rest)
