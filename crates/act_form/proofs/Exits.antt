-- How a block is left does nothing with memory that others see.
use Rattle.std.proofs.Common.{◌≡◌, ℕ, zero, suc, ◌+◌, ◌<◌, true, List, [], ◌∷◌, ◌++◌, length, take, drop, Option, Some, None, refl, ◌∙◌, arith}
use Rattle.dxil_form.specs.declared.value.Operand.{Operand}
use Rattle.dxil_form.specs.declared.block.Term.{Term}
use Rattle.dxil_form.specs.declared.block.Term.TheVariants.{Ret, Unreachable, Go, If, Switch}
use Rattle.dxil_form.specs.Branches.{has}
use Rattle.spv_form.specs.declared.module.Inst.{Inst}
use Rattle.spv_form.specs.Formed.{IsIdBelow}
use Rattle.spirv_code.specs.declared.key.Slot.{Slot}
use Rattle.spirv_code.specs.declared.key.Slot.TheVariants.{Want, Pick}
use Rattle.spirv_code.specs.Plans.{variable, id_or_0}
use Rattle.spirv_code.specs.Reads.{Env}
use Rattle.spirv_code.specs.Leaves.{most_pairs}
use Rattle.spirv_code.specs.Exits.{label_inst, want_inst, is_wanted, setters_code, choose_code, chunk_meet, chunk_code, case_targets, chunks_code, chunk_count, split_code, tested_code}
use Rattle.line_runs.specs.Held.{Setting}
use Rattle.region_runs.proofs.Targets.{has_here, has_there}
use Rattle.formed_rows.proofs.Pieces.{IsThere}
use Rattle.act_form.specs.Acts.{is_own}
use Rattle.act_form.proofs.Pieces.{Knows, acts, behind, on_load, on_store, read_none}

-- the variable is the invocation's own
abbrev pub IsOwn : Setting → Slot → Type 0
IsOwn s slot = is_own s.made (Some (variable s.context slot)) ≡ true

pub there_own : (s : Setting) (low : ℕ) → Knows s low → (bound : ℕ) (slot : Slot) → IsThere bound s.context slot → IsOwn s slot
there_own s low knows bound slot there = by_slot (s.context.slot slot) refl there
  where
    by_slot : (o : Option ℕ) → s.context.slot slot ≡ o → IsIdBelow bound (id_or_0 o) → is_own s.made (Some (id_or_0 o)) ≡ true
    by_slot None e h = absurd (let never : 0 < 0 = h.0 in omega (arith, never))
    by_slot (Some id) e h = knows.locals slot id e

-- ---- the block that is wanted

pub on_want : (s : Setting) (k : ℕ) (rest : List Inst) → IsOwn s Want → acts s (want_inst s.context k ∷ rest) ≡ acts s rest
on_want s k rest own = on_store s _ rest own

pub on_wanted : (s : Setting) (place k : ℕ) (rest : List Inst) → IsOwn s Want → acts s (is_wanted s.context place k ++ rest) ≡ acts s rest
on_wanted s place k rest own = on_load s _ rest own

setters_none : (s : Setting) (place meet : ℕ) (ks : List ℕ) → ((k : ℕ) → has k ks ≡ true → IsOwn s Want) → acts s (setters_code s.context place meet ks) ≡ []
setters_none s place meet [] own = refl
setters_none s place meet (k ∷ ks) own =
    on_want s k (setters_code s.context (place + 3) meet ks) (own k (has_here k ks)) ∙ setters_none s (place + 3) meet ks (λ j h. own j (has_there j k ks h))

-- ---- a selection

pub choose_none : (s : Setting) (place meet id : ℕ) (term : Term) (labels : ℕ → Option ℕ) (ks : List ℕ) → ((k : ℕ) → has k ks ≡ true → IsOwn s Want) → acts s (choose_code s.context place meet id term labels ks) ≡ []
choose_none s place meet id Ret labels ks own = setters_none s (place + 1) meet ks own
choose_none s place meet id Unreachable labels ks own = setters_none s (place + 1) meet ks own
choose_none s place meet id (Go k) labels ks own = setters_none s (place + 1) meet ks own
choose_none s place meet id (If cond there other) labels ks own = setters_none s (place + 2) meet ks own
choose_none s place meet id (Switch value default cases) labels ks own = setters_none s (place + 2) meet ks own

-- ---- several selections

module _ (s : Setting) (want : IsOwn s Want) (pick : IsOwn s Pick) where
  chunk_none : (place : ℕ) (cases : List (ℕ × ℕ)) (ks : List ℕ) → acts s (chunk_code s.context place cases ks) ≡ []
  chunk_none place cases ks =
      let meet : ℕ = chunk_meet s.context place ks in
      on_load s _ (setters_code s.context (place + 3) meet ks ++ (label_inst meet ∷ [])) pick ∙ behind s (setters_code s.context (place + 3) meet ks) (label_inst meet ∷ []) [] (setters_none s (place + 3) meet ks (λ k h. want)) refl

  chunks_none : (place n : ℕ) (cases : List (ℕ × ℕ)) → acts s (chunks_code s.context place n cases) ≡ []
  chunks_none place zero cases = refl
  chunks_none place (suc n) cases =
      let now : List (ℕ × ℕ) = take most_pairs cases in
      let front = chunk_code s.context place now (case_targets now) in
      behind s front (chunks_code s.context (place + length front) n (drop most_pairs cases)) [] (chunk_none place now (case_targets now)) (chunks_none (place + length front) n (drop most_pairs cases))

  pub split_none : (place id : ℕ) (term : Term) → acts s (split_code s.context place id term) ≡ []
  split_none place id Ret = refl
  split_none place id Unreachable = refl
  split_none place id (Go k) = refl
  split_none place id (If cond there other) = refl
  split_none place id (Switch value default cases) =
      let rest = chunks_code s.context (place + 2) (chunk_count (length cases)) cases in
      on_store s _ (want_inst s.context default ∷ rest) pick ∙ on_want s default rest want ∙ chunks_none (place + 2) (chunk_count (length cases)) cases

-- ---- what is tested

pub tested_none : (s : Setting) (low : ℕ) → Knows s low → (env : Env) (place : ℕ) (o : Option Operand) → acts s (tested_code s.context env place o) ≡ []
tested_none s low knows env place None = refl
tested_none s low knows env place (Some a) = read_none s low knows env place a
