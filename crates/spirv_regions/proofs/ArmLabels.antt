-- The labels of arms, as a map in which the first arm of a block counts.
use Rattle.std.proofs.Common.{◌≡◌, ℕ, ◌+◌, ◌<◌, Bool, true, false, if◌then◌else◌, List, length, drop, get_or, Option, Some, None, refl, sym, ap, ◌∙◌, nat_eq, eqb-true}
use Rattle.std.proofs.lemmas.Bool.{eqb-false}
use Rattle.std.specs.Option.{option_or}
use Rattle.std.proofs.lemmas.List.{at_drop_more}
use Rattle.spirv_code.specs.Trees.{Tree, arm_label, arms_of, label_at}

-- one more label, unless the block has one
abbrev pub with_label : (ℕ → Option ℕ) → (target label k : ℕ) → Option ℕ
with_label labels target label k = option_or (labels k) (if nat_eq k target then Some label else None)

none_last : (x : Option ℕ) → x ≡ option_or x None
none_last None = refl
none_last (Some y) = refl

pub labels_stay : (labels : ℕ → Option ℕ) (target label found : ℕ) → labels target ≡ Some found → (k : ℕ) → labels k ≡ with_label labels target label k
labels_stay labels target label found is k = by_test (nat_eq k target) refl
  where
    by_test : (b : Bool) → nat_eq k target ≡ b → labels k ≡ option_or (labels k) (if b then Some label else None)
    by_test true e =
        let same : labels k ≡ Some found = ap labels (eqb-true k target e) ∙ is in
        same ∙ ap (λ x. option_or x (Some label)) (sym same)
    by_test false e = none_last (labels k)

pub label_added : (old new : ℕ → Option ℕ) (target label : ℕ) → old target ≡ None → ((k : ℕ) → new k ≡ (if nat_eq target k then Some label else old k)) → (k : ℕ) → new k ≡ with_label old target label k
label_added old new target label none added k =
    added k ∙ by_test (nat_eq target k) (nat_eq k target) refl refl
  where
    by_test : (a b : Bool) → nat_eq target k ≡ a → nat_eq k target ≡ b → (if a then Some label else old k) ≡ option_or (old k) (if b then Some label else None)
    by_test true true e f =
        let nothing : old k ≡ None = ap old (eqb-true k target f) ∙ none in
        ap (λ x. option_or x (Some label)) (sym nothing)
    by_test false false e f = none_last (old k)
    by_test true false e f = absurd (eqb-false k target f (sym (eqb-true target k e)))
    by_test false true e f = absurd (eqb-false target k e (sym (eqb-true k target f)))

-- one more arm of a list
pub labels_next : (old new : ℕ → Option ℕ) (part : ℕ → Tree) (arms : List (ℕ × ℕ)) (i : ℕ) (d : ℕ × ℕ) (k : ℕ) (all : Option ℕ) → i < length arms → new k ≡ with_label old (get_or arms i d).0 (label_at (part (get_or arms i d).1)) k → option_or (old k) (arm_label (arms_of part (drop i arms)) k) ≡ all → option_or (new k) (arm_label (arms_of part (drop (i + 1) arms)) k) ≡ all
labels_next old new part arms i d k all within added before =
    let rest = arm_label (arms_of part (drop (i + 1) arms)) k in
    ap (λ x. option_or x rest) added
    ∙ by_cases (old k) (nat_eq k (get_or arms i d).0) (label_at (part (get_or arms i d).1)) rest
    ∙ sym (at_drop_more (λ xs. option_or (old k) (arm_label (arms_of part xs) k)) arms i d within)
    ∙ before
  where
    by_cases : (x : Option ℕ) (b : Bool) (label : ℕ) (rest : Option ℕ) → option_or (option_or x (if b then Some label else None)) rest ≡ option_or x (if b then Some label else rest)
    by_cases None true label rest = refl
    by_cases None false label rest = refl
    by_cases (Some y) true label rest = refl
    by_cases (Some y) false label rest = refl
