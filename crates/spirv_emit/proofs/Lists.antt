-- Three items, one after another, at the end of a list.
use Rattle.std.proofs.Common.{◌≡◌, List, [], ◌∷◌, ◌++◌, ◌+◌, length, ap, ◌∙◌, arith, append_assoc, length-append}

pub three_more : {A : Type 0} (xs p q r ys : List A) (a b d : A) → p ≡ xs ++ a ∷ [] → q ≡ p ++ b ∷ [] → r ≡ q ++ d ∷ [] → r ++ ys ≡ xs ++ (a ∷ b ∷ d ∷ ys)
three_more xs p q r ys a b d first second third =
    ap (λ o. o ++ ys) (third ∙ ap (λ o. o ++ d ∷ []) (second ∙ ap (λ o. o ++ b ∷ []) first))
    ∙ append_assoc ((xs ++ a ∷ []) ++ b ∷ []) (d ∷ []) ys
    ∙ append_assoc (xs ++ a ∷ []) (b ∷ []) (d ∷ ys)
    ∙ append_assoc xs (a ∷ []) (b ∷ d ∷ ys)

pub three_longer : {A : Type 0} (xs p q r : List A) (a b d : A) → p ≡ xs ++ a ∷ [] → q ≡ p ++ b ∷ [] → r ≡ q ++ d ∷ [] → length r ≡ length xs + 3
three_longer xs p q r a b d first second third =
    let one = ap length first ∙ length-append xs (a ∷ []) in
    let two = ap length second ∙ length-append p (b ∷ []) in
    let three = ap length third ∙ length-append q (d ∷ []) in
    omega (arith, one, two, three)
