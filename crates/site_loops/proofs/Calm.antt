-- Code without loops.
use Rattle.std.proofs.Common.{◌≡◌, ℕ, zero, suc, ◌+◌, Bool, true, false, not, List, [], ◌∷◌, ◌++◌, length, take, drop, Option, Some, None, refl, ap, ◌∙◌}
use Rattle.std.specs.Prelude.{◌==◌, ◌&&◌, if◌then◌else◌}
use Rattle.dxil_form.specs.declared.value.Operand.{Operand}
use Rattle.dxil_form.specs.declared.block.Term.{Term}
use Rattle.dxil_form.specs.declared.block.Term.TheVariants.{Ret, Unreachable, Go, If, Switch}
use Rattle.spv_form.specs.declared.module.Inst.{Inst}
use Rattle.flow_blocks.specs.Blocks.{operand}
use Rattle.spirv_code.specs.Plans.{Context, result}
use Rattle.spirv_code.specs.Reads.{Env}
use Rattle.spirv_code.specs.Leaves.{most_pairs}
use Rattle.spirv_code.specs.Exits.{setters_code, way_label, exit_branch, choose_head, choose_code, chunk_code, case_targets, chunks_code, chunk_count, split_code, tested_code}
use Rattle.module_structure.proofs.Inner.{read_low}
use Rattle.module_counts.proofs.Lines.{AreOthers, inner_others}
use Rattle.site_loops.proofs.Scan.{remove, step, after}

abbrev pub AreCalm : List Inst → Type 0
AreCalm [] = Unit {0}
AreCalm (x ∷ xs) = ((x.opcode == 246) ≡ false) × AreCalm xs

pub calm_append : (xs ys : List Inst) → AreCalm xs → AreCalm ys → AreCalm (xs ++ ys)
calm_append [] ys h k = k
calm_append (x ∷ xs) ys h k = (h.0, calm_append xs ys h.1 k)

pub others_calm : (xs : List Inst) → AreOthers xs → AreCalm xs
others_calm [] h = tt
others_calm (x ∷ xs) h = (first_no (x.opcode == 246) (x.opcode == 251) h.0, others_calm xs h.1)
  where
    first_no : (a b : Bool) → (not a && not b) ≡ true → a ≡ false
    first_no true b e = absurd (let never : false ≡ true = e in cc)
    first_no false b e = refl

pub calm_after : (xs : List Inst) → AreCalm xs → after [] xs ≡ []
calm_after [] h = refl
calm_after (x ∷ xs) h = ap (λ w. after w xs) (nothing x h.0) ∙ calm_after xs h.1
  where
    nothing : (x : Inst) → (x.opcode == 246) ≡ false → step [] x ≡ []
    nothing x e = by_label (x.opcode == 248)
      where
        by_label : (b : Bool) → (if b then remove (operand x 0) [] else (if x.opcode == 246 then operand x 1 ∷ [] else [])) ≡ []
        by_label true = refl
        by_label false = ap (λ (b : Bool). if b then operand x 1 ∷ [] else []) e

module _ (c : Context) where
  pub setters_calm : (place meet : ℕ) (ks : List ℕ) → AreCalm (setters_code c place meet ks)
  setters_calm place meet [] = tt
  setters_calm place meet (k ∷ ks) = (refl, (refl, (refl, setters_calm (place + 3) meet ks)))

  exit_calm : (to : ℕ → ℕ) (id : ℕ) (term : Term) → AreCalm (exit_branch to id term)
  exit_calm to id Ret = tt
  exit_calm to id Unreachable = tt
  exit_calm to id (Go k) = tt
  exit_calm to id (If cond there other) = (refl, tt)
  exit_calm to id (Switch value default cases) = (refl, tt)

  pub choose_calm : (place meet id : ℕ) (term : Term) (ls : ℕ → Option ℕ) (ks : List ℕ) → AreCalm (choose_code c place meet id term ls ks)
  choose_calm place meet id term ls ks =
      let head = choose_head meet id term ls (result c (place + 2)) ks in
      calm_append head (setters_code c (place + length head) meet ks) (refl, exit_calm (way_label ls (result c (place + 2)) ks) id term) (setters_calm (place + length head) meet ks)

  chunks_calm : (place n : ℕ) (cases : List (ℕ × ℕ)) → AreCalm (chunks_code c place n cases)
  chunks_calm place zero cases = tt
  chunks_calm place (suc n) cases =
      let front = chunk_code c place (take most_pairs cases) (case_targets (take most_pairs cases)) in
      calm_append front (chunks_code c (place + length front) n (drop most_pairs cases)) (refl, (refl, (refl, calm_append (setters_code c (place + 3) _ (case_targets (take most_pairs cases))) _ (setters_calm (place + 3) _ (case_targets (take most_pairs cases))) (refl, tt)))) (chunks_calm (place + length front) n (drop most_pairs cases))

  pub split_calm : (place id : ℕ) (term : Term) → AreCalm (split_code c place id term)
  split_calm place id Ret = tt
  split_calm place id Unreachable = tt
  split_calm place id (Go k) = tt
  split_calm place id (If cond there other) = tt
  split_calm place id (Switch value default cases) = (refl, (refl, chunks_calm (place + 2) (chunk_count (length cases)) cases))

  pub tested_calm : (env : Env) (place : ℕ) (a : Option Operand) → AreCalm (tested_code c env place a)
  tested_calm env place None = tt
  tested_calm env place (Some a) = others_calm _ (inner_others _ (read_low c env place a))
