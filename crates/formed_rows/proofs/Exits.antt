-- How a block is left is formed.
use Rattle.std.proofs.Common.{◌≡◌, ℕ, zero, suc, ◌+◌, ◌*◌, ◌≤◌, Bool, true, false, List, [], ◌∷◌, ◌++◌, length, length-append, length-take, take, drop, Option, Some, None, refl, sym, subst, arith}
use Rattle.std.specs.Prelude.{nat_eq, if◌then◌else◌}
use Rattle.dxil_form.specs.declared.value.Operand.{Operand}
use Rattle.dxil_form.specs.declared.block.Term.{Term}
use Rattle.dxil_form.specs.declared.block.Term.TheVariants.{Ret, Unreachable, Go, If, Switch}
use Rattle.dxil_form.specs.Branches.{has}
use Rattle.dxil_form.specs.Sound.{cases_in}
use Rattle.spv_form.specs.declared.module.Inst.{Inst}
use Rattle.spv_form.specs.Formed.{IsIdBelow, IsFormedInst}
use Rattle.spirv_code.specs.declared.key.Slot.TheVariants.{Want, Pick}
use Rattle.spirv_code.specs.Plans.{Context, result}
use Rattle.spirv_code.specs.Reads.{Env}
use Rattle.spirv_code.specs.Leaves.{most_pairs}
use Rattle.spirv_code.specs.Exits.{label_inst, want_inst, is_wanted, setter_code, setters_code, place_in, setter_label, way_label, switch_inst, choose_code, chunk_meet, chunk_head, chunk_code, case_targets, chunks_code, chunk_count, split_head, split_code, tested, tested_code, tested_id}
use Rattle.line_runs.proofs.Reading.{read_length}
use Rattle.line_runs.proofs.Tests.{none_some}
use Rattle.region_runs.proofs.Targets.{has_here, has_there, way_armed, way_loose}
use Rattle.formed_lines.specs.Formed.{KeysBelow, SlotsBelow, Upto, KnownBelow}
use Rattle.formed_lines.proofs.Lists.{AreFormed, join, up, upto_back}
use Rattle.formed_lines.proofs.Shapes.{two_ids, load_formed, store_formed, label_formed, branch_formed, conditional_formed, selection_formed}
use Rattle.formed_lines.proofs.Opcodes.{equal_shape}
use Rattle.formed_lines.proofs.Operands.{read_formed, read_ok}
use Rattle.formed_rows.proofs.Pieces.{Forms, behind, IsThere}
use Rattle.formed_rows.proofs.Switches.{switch_formed, pairs_ok, pairs_length}

pub setters_length : (c : Context) (place meet : ℕ) (ks : List ℕ) → length (setters_code c place meet ks) ≡ 3 * length ks
setters_length c place meet [] = refl
setters_length c place meet (k ∷ ks) =
    let rest = setters_length c (place + 3) meet ks in
    omega (arith, rest)

place_most : (k : ℕ) (ks : List ℕ) → place_in k ks ≤ length ks
place_most k [] = omega arith
place_most k (l ∷ ks) = by_test (nat_eq k l) (place_most k ks)
  where
    by_test : (x : Bool) → place_in k ks ≤ length ks → (if x then 0 else suc (place_in k ks)) ≤ length (l ∷ ks)
    by_test true rest = omega arith
    by_test false rest = omega (arith, rest)

module _ (b : ℕ) (c : Context) (keys : KeysBelow b c) (slots : SlotsBelow b c) where
  -- ---- the block that is wanted

  pub want_formed : IsThere b c Want → (k : ℕ) → IsFormedInst b (want_inst c k)
  want_formed there k = store_formed b _ _ there (keys _)

  pub wanted_formed : IsThere b c Want → (place k : ℕ) → Upto b c (place + 2) → AreFormed b (is_wanted c place k)
  wanted_formed there place k upto =
      let here = upto place (omega arith) in
      let own = upto (place + 1) (omega arith) in
      (load_formed b _ _ _ (keys _) here there, (two_ids b 170 _ _ _ _ equal_shape (keys _) own here (keys _), tt))

  setters_formed : (place meet : ℕ) (ks : List ℕ) → IsIdBelow b meet → ((k : ℕ) → has k ks ≡ true → IsThere b c Want) → Forms b c place (setters_code c place meet ks)
  setters_formed place meet [] ok there upto = tt
  setters_formed place meet (k ∷ ks) ok there upto =
      let front = setter_code c place meet k in
      let first : AreFormed b front = (label_formed b _ (upto place (omega arith)), (want_formed (there k (has_here k ks)) k, (branch_formed b meet ok, tt))) in
      join b front (setters_code c (place + 3) meet ks) first (setters_formed (place + 3) meet ks ok (λ j h. there j (has_there j k ks h)) (upto_back b c place 3 front (setters_code c (place + 3) meet ks) refl upto))

  -- a setter's label, or the id behind all setters
  setter_ok : (place : ℕ) (ks : List ℕ) (k : ℕ) → Upto b c (place + (3 * length ks + 1)) → IsIdBelow b (setter_label (result c place) ks k)
  setter_ok place ks k upto =
      let most = place_most k ks in
      let same : result c (place + 3 * place_in k ks) ≡ setter_label (result c place) ks k = omega arith in
      subst (IsIdBelow b) same (upto (place + 3 * place_in k ks) (omega (arith, most)))

  way_ok : (labels : ℕ → Option ℕ) → ((k id : ℕ) → labels k ≡ Some id → IsIdBelow b id) → (place : ℕ) (ks : List ℕ) (k : ℕ) → Upto b c (place + (3 * length ks + 1)) → IsIdBelow b (way_label labels (result c place) ks k)
  way_ok labels armed place ks k upto = by_label (labels k) refl
    where
      by_label : (o : Option ℕ) → labels k ≡ o → IsIdBelow b (way_label labels (result c place) ks k)
      by_label (Some id) e =
          let same = way_armed labels (result c place) ks k id e in
          subst (IsIdBelow b) (sym same) (armed k id e)
      by_label None e =
          let same = way_loose labels (result c place) ks k e in
          subst (IsIdBelow b) (sym same) (setter_ok place ks k upto)

  -- ---- a selection

  switched : (to : ℕ → ℕ) (x other : ℕ) (cases : List (ℕ × ℕ)) → IsIdBelow b x → IsIdBelow b other → ((k : ℕ) → IsIdBelow b (to k)) → length cases ≤ most_pairs → IsFormedInst b (switch_inst to x other cases)
  switched to x other cases hx ho h few =
      let long = pairs_length to cases in
      switch_formed b _ _ _ hx ho (pairs_ok b to cases h) (omega (arith, long, few))

  pub choose_formed : (place meet x : ℕ) (term : Term) (labels : ℕ → Option ℕ) (ks : List ℕ) → IsIdBelow b meet → ((a : Operand) → tested term ≡ Some a → IsIdBelow b x) → ((k id : ℕ) → labels k ≡ Some id → IsIdBelow b id) → ((k : ℕ) → has k ks ≡ true → IsThere b c Want) → cases_in term ≤ most_pairs → Upto b c (place + length (choose_code c place meet x term labels ks) + 1) → AreFormed b (choose_code c place meet x term labels ks)
  choose_formed place meet x Ret labels ks ok value armed want few upto =
      (selection_formed b meet 0 ok, setters_formed (place + 1) meet ks ok want (up b c _ _ (omega arith) upto))
  choose_formed place meet x Unreachable labels ks ok value armed want few upto =
      (selection_formed b meet 0 ok, setters_formed (place + 1) meet ks ok want (up b c _ _ (omega arith) upto))
  choose_formed place meet x (Go k) labels ks ok value armed want few upto =
      (selection_formed b meet 0 ok, setters_formed (place + 1) meet ks ok want (up b c _ _ (omega arith) upto))
  choose_formed place meet x (If cond there other) labels ks ok value armed want few upto =
      let long = setters_length c (place + 2) meet ks in
      let room = up b c (place + 2 + (3 * length ks + 1)) _ (omega (arith, long)) upto in
      (selection_formed b meet 0 ok, (conditional_formed b _ _ _ (value cond refl) (way_ok labels armed (place + 2) ks there room) (way_ok labels armed (place + 2) ks other room), setters_formed (place + 2) meet ks ok want (up b c _ _ (omega arith) upto)))
  choose_formed place meet x (Switch on default cases) labels ks ok value armed want few upto =
      let long = setters_length c (place + 2) meet ks in
      let room = up b c (place + 2 + (3 * length ks + 1)) _ (omega (arith, long)) upto in
      let to : ℕ → ℕ = way_label labels (result c (place + 2)) ks in
      (selection_formed b meet 0 ok, (switched to x (to default) cases (value on refl) (way_ok labels armed (place + 2) ks default room) (λ k. way_ok labels armed (place + 2) ks k room) few, setters_formed (place + 2) meet ks ok want (up b c _ _ (omega arith) upto)))

  -- ---- several selections

  module _ (want : IsThere b c Want) (pick : IsThere b c Pick) where
    chunk_formed : (place : ℕ) (cases : List (ℕ × ℕ)) (ks : List ℕ) → length cases ≤ most_pairs → Forms b c place (chunk_code c place cases ks)
    chunk_formed place cases ks few upto =
        let meet : ℕ = chunk_meet c place ks in
        let sets = setters_code c (place + 3) meet ks in
        let tail : List Inst = label_inst meet ∷ [] in
        let long = setters_length c (place + 3) meet ks in
        let more = length-append sets tail in
        let all = up b c (place + (3 + 3 * length ks) + 1) _ (omega (arith, long, more)) upto in
        let here = all place (omega arith) in
        let ok = all (place + (3 + 3 * length ks)) (omega arith) in
        let to : ℕ → ℕ = setter_label (result c (place + 3)) ks in
        let head : AreFormed b (chunk_head c place cases ks) = (load_formed b _ _ _ (keys _) here pick, (selection_formed b meet 0 ok, (switched to _ meet cases here ok (λ k. setter_ok (place + 3) ks k (up b c _ _ (omega arith) all)) few, tt))) in
        join b (chunk_head c place cases ks) (sets ++ tail) head (join b sets tail (setters_formed (place + 3) meet ks ok (λ k h. want) (up b c _ _ (omega (arith, long)) all)) (label_formed b meet ok, tt))

    chunks_formed : (place n : ℕ) (cases : List (ℕ × ℕ)) → Forms b c place (chunks_code c place n cases)
    chunks_formed place zero cases upto = tt
    chunks_formed place (suc n) cases upto =
        let now : List (ℕ × ℕ) = take most_pairs cases in
        let front = chunk_code c place now (case_targets now) in
        behind b c place front (chunks_code c (place + length front) n (drop most_pairs cases)) (chunk_formed place now (case_targets now) (take_few cases)) (chunks_formed (place + length front) n (drop most_pairs cases)) upto
      where
        take_few : (cases : List (ℕ × ℕ)) → length (take most_pairs cases) ≤ most_pairs
        take_few cases =
            let long = length-take most_pairs cases in
            omega (arith, long)

    pub split_formed : (place x : ℕ) (term : Term) → ((a : Operand) → tested term ≡ Some a → IsIdBelow b x) → Forms b c place (split_code c place x term)
    split_formed place x Ret value upto = tt
    split_formed place x Unreachable value upto = tt
    split_formed place x (Go k) value upto = tt
    split_formed place x (If cond there other) value upto = tt
    split_formed place x (Switch on default cases) value upto =
        let n : ℕ = chunk_count (length cases) in
        behind b c place (split_head c x default) (chunks_code c (place + 2) n cases) (λ u. (store_formed b _ _ pick (value on refl), (want_formed want default, tt))) (chunks_formed (place + 2) n cases) upto

  -- ---- what is tested

  pub tested_formed : (env : Env) (place : ℕ) (o : Option Operand) → KnownBelow b env → Forms b c place (tested_code c env place o)
  tested_formed env place None known upto = tt
  tested_formed env place (Some a) known upto =
      let long = read_length c env place a in
      read_formed b c keys slots env place a (up b c _ _ (omega (arith, long)) upto)

  pub tested_ok : (env : Env) (place : ℕ) (o : Option Operand) (a : Operand) → o ≡ Some a → KnownBelow b env → Upto b c (place + length (tested_code c env place o)) → IsIdBelow b (tested_id c env place o)
  tested_ok env place None a e known upto = absurd (none_some e)
  tested_ok env place (Some x) a e known upto =
      let long = read_length c env place x in
      read_ok b c keys slots env place x known (up b c _ _ (omega (arith, long)) upto)
