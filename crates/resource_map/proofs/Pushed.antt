-- What a loop over the resources keeps.
use Rattle.std.proofs.Common.{◌≡◌, ℕ, zero, suc, ◌+◌, ◌<◌, ◌≤◌, ◌^◌, List, [], ◌∷◌, ◌++◌, length, map, take, get_or, Some, sym, ap, ◌∙◌, subst, arith, length-append}
use Rattle.std.proofs.Common.{Bool, false, Result, Ok, Err}
use Rattle.std.proofs.lemmas.Bool.{false≢true}
use Rattle.std.specs.Result.{OnOk, is_err}
use Rattle.std.specs.Prelude.{slice_get}
use Rattle.std.proofs.lemmas.List.{map-append, map_more, take_all}
use Rattle.resource_map.specs.declared.bindings.Binding.{Binding}
use Rattle.resource_map.specs.Pairs.{pair_of, IsNumbered}
use Rattle.dxil_form.specs.declared.program.Resource.{Resource}
use Rattle.dxil_form.specs.declared.program.Program.{Program}
use Rattle.dxil_form.specs.Sound.{Sound}
use Rattle.std.proofs.lemmas.Option.{slice_get-get_or}
use Rattle.spirv_meaning.specs.Bindings.{plain_binding, plain_bindings, AreApart}

-- what is pushed stands at the old length
pushed : {X : Type 0} (xs : List X) (y z : X) (k : ℕ) → (P : ℕ → X → Type 0) → ((i : ℕ) (x : X) → slice_get xs i ≡ Some x → P i x) → P (length xs) y → slice_get (xs ++ y ∷ []) k ≡ Some z → P k z
pushed [] y z zero P all last e = let same : y ≡ z = cc in subst (P 0) same last
pushed [] y z (suc k) P all last e = absurd (cc)
pushed (x ∷ xs) y z zero P all last e = all 0 z e
pushed (x ∷ xs) y z (suc k) P all last e =
    pushed xs y z k (λ i x. P (suc i) x) (λ i x e. all (suc i) x e) last e

pub numbered_more : (bindings : List Binding) (binding : Binding) → IsNumbered bindings → binding.resource ≡ length bindings → IsNumbered (bindings ++ binding ∷ [])
numbered_more bindings binding numbered last k b e =
    pushed bindings binding b k (λ i b. b.resource ≡ i) numbered last e

pub plain_more : (bindings : List Binding) (binding : Binding) (resources : List Resource) (d : Resource) (k : ℕ) → map pair_of bindings ≡ map plain_binding (take k resources) → k < length resources → pair_of binding ≡ plain_binding (get_or resources k d) → map pair_of (bindings ++ binding ∷ []) ≡ map plain_binding (take (k + 1) resources)
plain_more bindings binding resources d k before within pair =
    let more = map_more plain_binding resources k d within in
    let added = map-append pair_of bindings (binding ∷ []) in
    added ∙ ap (λ (pairs : List (ℕ × ℕ)). pairs ++ pair_of binding ∷ []) before
    ∙ ap (λ (pair : ℕ × ℕ). map plain_binding (take k resources) ++ pair ∷ []) pair ∙ sym more

-- a lower bound of a sound program is at most 2 to the 30
pub is_low : (p : Program) → Sound p → (resources : List Resource) → resources ≡ p.resources → (k : ℕ) (d : Resource) → k < length resources → (get_or resources k d).lower ≤ 2 ^ 30
is_low p sound resources same k d within =
    let here = slice_get-get_or resources k d within in
    let stands : slice_get p.resources k ≡ Some (get_or resources k d) = ap (λ rs. slice_get rs k) (sym same) ∙ here in
    (sound.resources k (get_or resources k d) stands).lower

on_ok : {E P : Type 0} (r : Result (Unit {0}) E) (failed : Bool) → failed ≡ is_err r → failed ≡ false → OnOk r P → P
on_ok (Ok u) failed e f p = p
on_ok (Err x) failed e f p = absurd (false≢true (sym f ∙ e))

-- what holds after the turn of the loop in which a binding is pushed
pub turn : (bindings : List Binding) (binding : Binding) (more : List Binding) (resources named : List Resource) (k : ℕ) (d : Resource) → named ≡ resources → length bindings ≡ k → IsNumbered bindings → map pair_of bindings ≡ map plain_binding (take k resources) → k < length named → binding.resource ≡ k → pair_of binding ≡ plain_binding (get_or named k d) → (r : Result (Unit {0}) Binding) (failed : Bool) → failed ≡ is_err r → failed ≡ false → OnOk r (more ≡ bindings ++ binding ∷ []) → record { counted : length more ≡ k + 1; numbered : IsNumbered more; plain : map pair_of more ≡ map plain_binding (take (k + 1) resources) }
turn bindings binding more resources named k d same counted numbered plain within own pair r failed e f ok =
    let added : more ≡ bindings ++ binding ∷ [] = on_ok r failed e f ok in
    let inside : k < length resources = subst (λ (xs : List Resource). k < length xs) same within in
    let stated : pair_of binding ≡ plain_binding (get_or resources k d) = subst (λ (xs : List Resource). pair_of binding ≡ plain_binding (get_or xs k d)) same pair in
    let P : List Binding → Type 0 = λ bs. record { counted : length bs ≡ k + 1; numbered : IsNumbered bs; plain : map pair_of bs ≡ map plain_binding (take (k + 1) resources) } in
    subst P (sym added) (record {
      counted = omega (arith, length-append bindings (binding ∷ []));
      numbered = numbered_more bindings binding numbered (own ∙ sym counted);
      plain = plain_more bindings binding resources d k plain inside stated;
    })

-- what holds after the loop
pub ends : (p : Program) (bindings : List Binding) (named : List Resource) (k : ℕ) → named ≡ p.resources → length named ≤ k → IsNumbered bindings → map pair_of bindings ≡ map plain_binding (take k p.resources) → AreApart p (plain_bindings p) → record { numbered : IsNumbered bindings; plain : map pair_of bindings ≡ plain_bindings p; apart : AreApart p (map pair_of bindings) }
ends p bindings named k same done numbered plain fits =
    let past : length p.resources ≤ k = subst (λ (xs : List Resource). length xs ≤ k) same done in
    let all : map pair_of bindings ≡ plain_bindings p = plain ∙ ap (map plain_binding) (take_all k p.resources past) in
    record { numbered = numbered; plain = all; apart = subst (AreApart p) (sym all) fits }
