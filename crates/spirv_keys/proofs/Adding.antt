-- Keys that are added one list after another.
use Rattle.std.proofs.Common.{◌≡◌, ℕ, ◌+◌, ◌<◌, List, [], ◌∷◌, ◌++◌, length, drop, get_or, refl, sym, ap, ◌∙◌}
use Rattle.std.proofs.lemmas.List.{at_drop_more}
use Rattle.dxil_form.specs.declared.program.Program.{Program}
use Rattle.spirv_code.specs.declared.key.Global.{Global}
use Rattle.spirv_code.specs.Keys.{add_key}
use Rattle.spirv_code.specs.Needed.{add_all, add_each, add_whole}

pub add_each_more : (table gs hs : List Global) → add_each table (gs ++ hs) ≡ add_each (add_each table gs) hs
add_each_more table [] hs = refl
add_each_more table (g ∷ gs) hs = add_each_more (add_key table g) gs hs

pub add_all_more : (p : Program) (table gs hs : List Global) → add_all p table (gs ++ hs) ≡ add_all p (add_all p table gs) hs
add_all_more p table [] hs = refl
add_all_more p table (g ∷ gs) hs = add_all_more p (add_whole p table g) gs hs

-- one more item of a list whose keys are added in turn
pub next_at : {X : Type 0} (p : Program) (F : List X → List Global) (f : X → List Global) (xs : List X) (i : ℕ) (d : X) (t new all : List Global) → ((y : X) (ys : List X) → F (y ∷ ys) ≡ f y ++ F ys) → i < length xs → new ≡ add_all p t (f (get_or xs i d)) → add_all p t (F (drop i xs)) ≡ all → add_all p new (F (drop (i + 1) xs)) ≡ all
next_at p F f xs i d t new all cons within added before =
    ap (λ o. add_all p o (F (drop (i + 1) xs))) added
    ∙ sym (add_all_more p t (f (get_or xs i d)) (F (drop (i + 1) xs)))
    ∙ ap (add_all p t) (sym (cons (get_or xs i d) (drop (i + 1) xs)))
    ∙ ap (add_all p t) (sym (at_drop_more F xs i d within))
    ∙ before

pub next_keys : {X : Type 0} (p : Program) (F : List X → List Global) (f : X → List Global) (xs : List X) (i : ℕ) (x : X) (t new all : List Global) → ((y : X) (ys : List X) → F (y ∷ ys) ≡ f y ++ F ys) → i < length xs → x ≡ get_or xs i x → new ≡ add_all p t (f x) → add_all p t (F (drop i xs)) ≡ all → add_all p new (F (drop (i + 1) xs)) ≡ all
next_keys p F f xs i x t new all cons within is added before =
    next_at p F f xs i x t new all cons within (added ∙ ap (λ y. add_all p t (f y)) is) before
