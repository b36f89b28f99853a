-- How much takes the way out of a block: what it tests, the selection, and the blocks that store which block is wanted.
use Rattle.std.proofs.Common.{◌≡◌, ℕ, zero, suc, ◌+◌, ◌<◌, ◌≤◌, Bool, true, false, List, [], ◌∷◌, ◌++◌, length, take, drop, map, Option, Some, None, refl, sym, ap, ◌∙◌, arith, inl, inr, if◌then◌else◌, take-append-drop, length-append}
use Rattle.std.proofs.lemmas.List.{length-map}
use Rattle.dxil_form.specs.declared.value.Operand.{Operand}
use Rattle.dxil_form.specs.declared.block.Term.{Term}
use Rattle.dxil_form.specs.declared.block.Term.TheVariants.{Ret, Unreachable, Go, If, Switch}
use Rattle.dxil_form.specs.Branches.{targets}
use Rattle.dxil_form.specs.Sound.{cases_in}
use Rattle.dxil_form.specs.declared.program.Program.{Program}
use Rattle.spv_form.specs.declared.module.Inst.{Inst}
use Rattle.spirv_code.specs.declared.key.Slot.TheVariants.{Want}
use Rattle.spirv_code.specs.declared.key.Global.TheVariants.{Number}
use Rattle.spirv_code.specs.declared.way.Way.{Way}
use Rattle.spirv_code.specs.declared.way.Way.TheVariants.{Ends, Goes, Chooses, Splits}
use Rattle.spirv_code.specs.Plans.{Context, result, number}
use Rattle.spirv_code.specs.Reads.{Env}
use Rattle.spirv_code.specs.Leaves.{next_blocks, most_pairs, followed}
use Rattle.spirv_code.specs.Exits.{label_inst, no_block, setter_code, setters_code, unarmed, loose, way_label, pairs, switch_inst, exit_branch, choose_head, choose_code, chunk_meet, chunk_head, chunk_code, case_targets, chunks_code, chunk_count, split_head, split_code, tested, tested_code, tested_id, exit_code, setter_label}
use Rattle.spirv_code.specs.Needed.{tested_keys, numbers_keys, end_keys}
use Rattle.plan_ready.proofs.Among.{Among}
use Rattle.module_sizes.specs.Sizes.{Measure, amount, size}
use Rattle.module_sizes.proofs.Totals.{times, times_is, times_less, times_sum, times_both, times_more}
use Rattle.module_sizes.proofs.Apart.{different_fewer}
use Rattle.module_sizes.proofs.Common.{AreSmall, extra, named, most_number, named_common, small_so}
use Rattle.module_sizes.proofs.Reading.{size_append, room, keys, keys_append, operand_fits, read_fits, store_fits}

-- a block that stores which block is wanted
abbrev pub setter_most : Measure → ℕ
setter_most m = amount m 1 + (amount m 2 + amount m 1)

-- a case of a switch: its setter, its pair, and one more for the selections of which it takes a part
abbrev pub case_most : Measure → ℕ
case_most m = setter_most m + extra m 2 + 1

abbrev pub exit_base : Measure → ℕ
exit_base m = amount m 3 + (amount m 2 + amount m 3) + (setter_most m + setter_most m) + amount m 1

abbrev pub exit_most : Measure → Term → ℕ
exit_most m term = exit_base m + times (cases_in term) (case_most m)

-- words of operands are counted one by one
pub amount_sum : (m : Measure) (n k : ℕ) → amount m (n + k) ≡ amount m n + extra m k
amount_sum Measure.Places n k = refl
amount_sum Measure.Words n k = let e : suc (n + k) ≡ suc n + k = omega arith in e

pub extra_sum : (m : Measure) (n k : ℕ) → extra m (n + k) ≡ extra m n + extra m k
extra_sum Measure.Places n k = refl
extra_sum Measure.Words n k = refl

pairs_extra : (m : Measure) (to : ℕ → ℕ) (cases : List (ℕ × ℕ)) → extra m (length (pairs to cases)) ≡ times (length cases) (extra m 2)
pairs_extra m to [] = none m
  where
    none : (m : Measure) → extra m 0 ≡ 0
    none Measure.Places = refl
    none Measure.Words = refl
pairs_extra m to (arm ∷ cases) =
    let two : length (pairs to (arm ∷ cases)) ≡ 2 + length (pairs to cases) = omega arith in
    let ih = pairs_extra m to cases in
    ap (extra m) two ∙ extra_sum m 2 (length (pairs to cases)) ∙ ap (λ n. extra m 2 + n) ih

-- a switch of so many cases
switch_fits : (m : Measure) (to : ℕ → ℕ) (id other : ℕ) (cases : List (ℕ × ℕ)) → size m (switch_inst to id other cases ∷ []) ≡ amount m 2 + times (length cases) (extra m 2)
switch_fits m to id other cases =
    let long : length (id ∷ other ∷ pairs to cases) ≡ 2 + length (pairs to cases) = omega arith in
    let one : amount m (length (id ∷ other ∷ pairs to cases)) ≡ amount m 2 + times (length cases) (extra m 2) = ap (amount m) long ∙ amount_sum m 2 (length (pairs to cases)) ∙ ap (λ n. amount m 2 + n) (pairs_extra m to cases) in
    let e : amount m (length (id ∷ other ∷ pairs to cases)) + 0 ≡ amount m 2 + times (length cases) (extra m 2) = omega (arith, one) in
    e

unarmed_fewer : (labels : ℕ → Option ℕ) (ks : List ℕ) → length (unarmed labels ks) ≤ length ks
unarmed_fewer labels [] = omega arith
unarmed_fewer labels (k ∷ ks) = by_label (labels k) refl (unarmed_fewer labels ks)
  where
    by_label : (o : Option ℕ) → labels k ≡ o → length (unarmed labels ks) ≤ length ks → length (unarmed labels (k ∷ ks)) ≤ suc (length ks)
    by_label None e ih = rw e (omega (arith, ih))
    by_label (Some label) e ih = rw e (omega (arith, ih))

loose_fewer : (labels : ℕ → Option ℕ) (term : Term) → length (loose labels (next_blocks term)) ≤ length (targets term)
loose_fewer labels term =
    let one = different_fewer (unarmed labels (next_blocks term)) in
    let two = unarmed_fewer labels (next_blocks term) in
    let three = different_fewer (targets term) in
    omega (arith, one, two, three)

case_targets_fewer : (cases : List (ℕ × ℕ)) → length (case_targets cases) ≤ length cases
case_targets_fewer cases =
    let one = different_fewer (map (λ arm. arm.1) cases) in
    let two = length-map cases (λ (arm : ℕ × ℕ). arm.1) in
    omega (arith, one, two)

-- what the end of a block tests
abbrev pub tested_room : Measure → Option Operand → ℕ
tested_room m None = 0
tested_room m (Some a) = room m a

module _ (m : Measure) (c : Context) where
  setters_fit : (place meet : ℕ) (ks : List ℕ) → size m (setters_code c place meet ks) ≡ times (length ks) (setter_most m)
  setters_fit place meet [] = refl
  setters_fit place meet (k ∷ ks) =
      let both = size_append m (setter_code c place meet k) (setters_code c (place + 3) meet ks) in
      let rest = setters_fit (place + 3) meet ks in
      let e : size m (setters_code c place meet (k ∷ ks)) ≡ setter_most m + times (length ks) (setter_most m) = omega (arith, both, rest) in
      e

  -- ---- chunks

  abbrev chunk_base : ℕ
  chunk_base = amount m 3 + (amount m 2 + amount m 2) + amount m 1

  chunk_fits : (place : ℕ) (cases : List (ℕ × ℕ)) → size m (chunk_code c place cases (case_targets cases)) ≤ chunk_base + times (length cases) (setter_most m + extra m 2)
  chunk_fits place cases =
      let ks : List ℕ = case_targets cases in
      let meet : ℕ = chunk_meet c place ks in
      let head : List Inst = chunk_head c place cases ks in
      let sets : List Inst = setters_code c (place + 3) meet ks in
      let both = size_append m head (sets ++ (label_inst meet ∷ [])) in
      let inner = size_append m sets (label_inst meet ∷ []) in
      let switch = switch_fits m (setter_label (result c (place + 3)) ks) (result c place) meet cases in
      let set = setters_fit (place + 3) meet ks in
      let few = times_less (length ks) (length cases) (setter_most m) (case_targets_fewer cases) in
      let split = times_both (length cases) (setter_most m) (extra m 2) in
      omega (arith, both, inner, switch, set, few, split)

  chunks_fit : (place n : ℕ) (cases : List (ℕ × ℕ)) → size m (chunks_code c place n cases) ≤ times n chunk_base + times (length cases) (setter_most m + extra m 2)
  chunks_fit place zero cases = omega arith
  chunks_fit place (suc n) cases =
      let now : List (ℕ × ℕ) = take most_pairs cases in
      let left : List (ℕ × ℕ) = drop most_pairs cases in
      let code : List Inst = chunk_code c place now (case_targets now) in
      let both = size_append m code (chunks_code c (place + length code) n left) in
      let one = chunk_fits place now in
      let rest = chunks_fit (place + length code) n left in
      let whole : length now + length left ≡ length cases = sym (length-append now left) ∙ ap length (take-append-drop most_pairs cases) in
      let sum = times_sum (length now) (length left) (setter_most m + extra m 2) in
      let all : times (length now + length left) (setter_most m + extra m 2) ≡ times (length cases) (setter_most m + extra m 2) = ap (λ n. times n (setter_most m + extra m 2)) whole in
      omega (arith, both, one, rest, sum, all)

  -- there are few chunks
  chunks_few : (n : ℕ) → most_pairs < n → times (chunk_count n) chunk_base ≤ times n 1
  chunks_few n many =
      let twelve = times_more (chunk_count n) chunk_base 12 (low m) in
      let is = times_is (chunk_count n) 12 in
      let one = times_is n 1 in
      omega (arith, twelve, is, one, many)
    where
      low : (m : Measure) → amount m 3 + (amount m 2 + amount m 2) + amount m 1 ≤ 12
      low Measure.Places = omega arith
      low Measure.Words = omega arith

  -- ---- the way out

  tested_room_fits : (env : Env) (place : ℕ) (o : Option Operand) → size m (tested_code c env place o) ≤ tested_room m o
  tested_room_fits env place None = omega arith
  tested_room_fits env place (Some a) = read_fits m c env place a

  branch_fits : (to : ℕ → ℕ) (id : ℕ) (term : Term) → size m (exit_branch to id term) + times (length (targets term)) (setter_most m) ≤ amount m 3 + (setter_most m + setter_most m) + times (cases_in term) (setter_most m + extra m 2)
  branch_fits to id Ret = omega arith
  branch_fits to id Unreachable = omega arith
  branch_fits to id (Go k) = omega arith
  branch_fits to id (If cond there other) = omega arith
  branch_fits to id (Switch value default cases) =
      let switch = switch_fits m to id (to default) cases in
      let long : length (targets (Switch value default cases)) ≡ suc (length cases) = ap suc (length-map cases (λ (arm : ℕ × ℕ). arm.1)) in
      let count : times (length (targets (Switch value default cases))) (setter_most m) ≡ setter_most m + times (length cases) (setter_most m) = ap (λ n. times n (setter_most m)) long in
      let split = times_both (length cases) (setter_most m) (extra m 2) in
      let two : amount m 2 ≤ amount m 3 = low m in
      omega (arith, switch, count, split, two)
    where
      low : (m : Measure) → amount m 2 ≤ amount m 3
      low Measure.Places = omega arith
      low Measure.Words = omega arith

  choose_fits : (place meet id : ℕ) (term : Term) (labels : ℕ → Option ℕ) → size m (choose_code c place meet id term labels (loose labels (next_blocks term))) ≤ amount m 2 + amount m 3 + (setter_most m + setter_most m) + times (cases_in term) (setter_most m + extra m 2)
  choose_fits place meet id term labels =
      let ks : List ℕ = loose labels (next_blocks term) in
      let to : ℕ → ℕ = way_label labels (result c (place + 2)) ks in
      let head : List Inst = choose_head meet id term labels (result c (place + 2)) ks in
      let both = size_append m head (setters_code c (place + length head) meet ks) in
      let branch = branch_fits to id term in
      let set = setters_fit (place + length head) meet ks in
      let few = times_less (length ks) (length (targets term)) (setter_most m) (loose_fewer labels term) in
      omega (arith, both, branch, set, few)

  split_fits : (place id : ℕ) (term : Term) → most_pairs < cases_in term → size m (split_code c place id term) ≤ amount m 2 + amount m 2 + times (cases_in term) (case_most m)
  split_fits place id Ret many = absurd (omega (arith, many))
  split_fits place id Unreachable many = absurd (omega (arith, many))
  split_fits place id (Go k) many = absurd (omega (arith, many))
  split_fits place id (If cond there other) many = absurd (omega (arith, many))
  split_fits place id (Switch value default cases) many =
      let both = size_append m (split_head c id default) (chunks_code c (place + 2) (chunk_count (length cases)) cases) in
      let chunks = chunks_fit (place + 2) (chunk_count (length cases)) cases in
      let few = chunks_few (length cases) many in
      let split = times_both (length cases) (setter_most m + extra m 2) 1 in
      omega (arith, both, chunks, few, split)

  -- the arms that the code goes on with take so much
  pub exit_fits : (meet : ℕ) (term : Term) (labels : ℕ → Option ℕ) (one : ℕ → ℕ → List Inst) (met wanted : ℕ → List Inst) (arms : ℕ) → ((k place : ℕ) → size m (one k place) ≤ amount m 2 + arms) → ((place : ℕ) → size m (met place) ≤ arms) → ((place : ℕ) → size m (wanted place) ≤ arms) → (env : Env) (w : Way) → (w ≡ Splits → most_pairs < cases_in term) → (place : ℕ) → size m (exit_code c meet term labels (next_blocks term) one met wanted env w place) + amount m 3 ≤ tested_room m (tested term) + exit_most m term + arms
  exit_fits meet term labels one met wanted arms h1 h2 h3 env Ends many place =
      let store = store_fits m c (c.slot Want) (number c (no_block c)) in
      omega (arith, store)
  exit_fits meet term labels one met wanted arms h1 h2 h3 env (Goes k) many place =
      let h = h1 k place in
      omega (arith, h)
  exit_fits meet term labels one met wanted arms h1 h2 h3 env Chooses many place =
      let test : List Inst = tested_code c env place (tested term) in
      let x : ℕ = tested_id c env place (tested term) in
      let p : ℕ = place + length test in
      let chosen : List Inst = choose_code c p meet x term labels (loose labels (next_blocks term)) in
      let q : ℕ = p + length chosen in
      let outer = size_append m test (followed p chosen (λ q. met q ++ (label_inst meet ∷ []))) in
      let inner = size_append m chosen (met q ++ (label_inst meet ∷ [])) in
      let last = size_append m (met q) (label_inst meet ∷ []) in
      let tests = tested_room_fits env place (tested term) in
      let choice = choose_fits p meet x term labels in
      let split = times_both (cases_in term) (setter_most m + extra m 2) 1 in
      let h = h2 q in
      omega (arith, outer, inner, last, tests, choice, split, h)
  exit_fits meet term labels one met wanted arms h1 h2 h3 env Splits many place =
      let test : List Inst = tested_code c env place (tested term) in
      let x : ℕ = tested_id c env place (tested term) in
      let p : ℕ = place + length test in
      let split : List Inst = split_code c p x term in
      let outer = size_append m test (followed p split wanted) in
      let inner = size_append m split (wanted (p + length split)) in
      let tests = tested_room_fits env place (tested term) in
      let parts = split_fits p x term (many refl) in
      let h = h3 (p + length split) in
      let two : amount m 2 ≤ amount m 3 = low m in
      omega (arith, outer, inner, tests, parts, h, two)
    where
      low : (m : Measure) → amount m 2 ≤ amount m 3
      low Measure.Places = omega arith
      low Measure.Words = omega arith

-- ---- what the end of a block names

module _ (p : Program) (m : Measure) (small : AreSmall p) where
  numbers_free : (ks : List ℕ) → ((k : ℕ) → Among k ks → k ≤ most_number) → keys p m small (numbers_keys ks) ≡ 0
  numbers_free [] low = refl
  numbers_free (k ∷ ks) low =
      let here = named_common p m small (Number k) (small_so k (low k (inl refl))) in
      let rest = numbers_free ks (λ x among. low x (inr among)) in
      let e : named p m (Number k) + keys p m small (numbers_keys ks) ≡ 0 = omega (arith, here, rest) in
      e

  pub end_fits : (wants : Bool) (term : Term) → ((k : ℕ) → Among k (targets term) → k ≤ most_number) → keys p m small (end_keys wants term) + tested_room m (tested term) ≤ amount m 3
  end_fits wants term low =
      let split = keys_append p m small (tested_keys (tested term)) (if wants then numbers_keys (targets term) else []) in
      let test = by_tested (tested term) in
      let numbers = by_wants wants in
      omega (arith, split, test, numbers)
    where
      by_tested : (o : Option Operand) → keys p m small (tested_keys o) + tested_room m o ≤ amount m 3
      by_tested None = omega arith
      by_tested (Some a) = operand_fits p m small a

      by_wants : (b : Bool) → keys p m small (if b then numbers_keys (targets term) else []) ≡ 0
      by_wants true = numbers_free (targets term) low
      by_wants false = refl
