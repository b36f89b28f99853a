-- Lists of instructions that are written one behind another.
use Rattle.std.proofs.Common.{◌≡◌, ℕ, ◌+◌, List, [], ◌∷◌, ◌++◌, length, ap, ◌∙◌, append_assoc, length-append}
use Rattle.spv_form.specs.declared.module.Inst.{Inst}
use Rattle.spirv_code.specs.Leaves.{followed}

-- what stands at the end of a list, and what is written there next
pub followed_more : (xs p q front : List Inst) (rest : ℕ → List Inst) → p ≡ xs ++ front → q ≡ p ++ rest (length p) → q ≡ xs ++ followed (length xs) front rest
followed_more xs p q front rest first next =
    next
    ∙ ap (λ o. o ++ rest (length o)) first
    ∙ ap (λ n. (xs ++ front) ++ rest n) (length-append xs front)
    ∙ append_assoc xs front (rest (length xs + length front))

-- what stands at the end of a list, and one instruction that is written there next
pub one_more : (xs p q front ys : List Inst) (b : Inst) → p ≡ xs ++ front → q ≡ p ++ b ∷ [] → q ++ ys ≡ xs ++ (front ++ (b ∷ ys))
one_more xs p q front ys b first next =
    ap (λ o. o ++ ys) (next ∙ ap (λ o. o ++ b ∷ []) first)
    ∙ append_assoc (xs ++ front) (b ∷ []) ys
    ∙ append_assoc xs front (b ∷ ys)
