-- Blocks that store which block is wanted.
use Rattle.std.proofs.Common.{◌≡◌, ℕ, suc, ◌+◌, ◌*◌, ◌≤◌, Bool, true, false, ◌||◌, List, [], ◌∷◌, length, length-append, Some, refl, sym, subst, arith}
use Rattle.std.specs.Prelude.{nat_eq, if◌then◌else◌}
use Rattle.dxil_form.specs.Branches.{has}
use Rattle.spirv_meaning.specs.Target.{Word, State, next}
use Rattle.spirv_code.specs.declared.key.Global.TheVariants as global
use Rattle.spirv_code.specs.declared.key.Slot.TheVariants.{Want}
use Rattle.spirv_code.specs.Plans.{result, number}
use Rattle.spirv_code.specs.Exits.{setter_code, setters_code, place_in}
use Rattle.line_runs.specs.Held.{Has, Uses}
use Rattle.line_runs.proofs.Tests.{true_false, nat_eq-eq}
use Rattle.line_runs.proofs.Pieces.{has_front, has_back}
use Rattle.line_runs.proofs.Results.{fixed_here}
use Rattle.region_runs.proofs.Ways.{Scene, Label, Forth, forth_one, forth_on}
use Rattle.region_runs.proofs.Steps.{at_label, jump, pass_label}
use Rattle.region_runs.proofs.Wanting.{has_place, put, store_want}

-- the setter of block k among setters
pub record SetterIn (e : Scene) (meet k place j to : ℕ) : Type 0 where
  pub code : Has e.s.made (place + 3 * j) (setter_code e.s.context (place + 3 * j) meet k)
  pub before : place + 3 * j + 3 ≤ to

pub setter_in : (e : Scene) (meet k : ℕ) (ks : List ℕ) (place : ℕ) → has k ks ≡ true → Has e.s.made place (setters_code e.s.context place meet ks) → SetterIn e meet k place (place_in k ks) (place + length (setters_code e.s.context place meet ks))
setter_in e meet k [] place there code = absurd (true_false (sym there))
setter_in e meet k (x ∷ ks) place there code =
    by_test (nat_eq k x) refl there (λ h. setter_in e meet k ks (place + 3) h back)
  where
    long : length (setters_code e.s.context place meet (x ∷ ks)) ≡ 3 + length (setters_code e.s.context (place + 3) meet ks)
    long = length-append (setter_code e.s.context place meet x) (setters_code e.s.context (place + 3) meet ks)

    back : Has e.s.made (place + 3) (setters_code e.s.context (place + 3) meet ks)
    back =
        let same : place + length (setter_code e.s.context place meet x) ≡ place + 3 = omega arith in
        has_place e (place + length (setter_code e.s.context place meet x)) (place + 3) (setters_code e.s.context (place + 3) meet ks) same (has_back e.s.made place (setter_code e.s.context place meet x) (setters_code e.s.context (place + 3) meet ks) code)

    here : k ≡ x → SetterIn e meet k place 0 (place + length (setters_code e.s.context place meet (x ∷ ks)))
    here same =
        let q0 : place ≡ place + 3 * 0 = omega arith in
        let first = has_front e.s.made place (setter_code e.s.context place meet x) (setters_code e.s.context (place + 3) meet ks) code in
        let mine = subst (λ y. Has e.s.made place (setter_code e.s.context place meet y)) (sym same) first in
        record {
          code = subst (λ n. Has e.s.made n (setter_code e.s.context n meet k)) q0 mine;
          before = omega (arith, long);
        }

    there_in : (j : ℕ) → SetterIn e meet k (place + 3) j (place + 3 + length (setters_code e.s.context (place + 3) meet ks)) → SetterIn e meet k place (suc j) (place + length (setters_code e.s.context place meet (x ∷ ks)))
    there_in j s =
        let same : place + 3 + 3 * j ≡ place + 3 * suc j = omega arith in
        let before = s.before in
        record {
          code = subst (λ n. Has e.s.made n (setter_code e.s.context n meet k)) same s.code;
          before = omega (arith, before, long);
        }

    by_test : (b : Bool) → nat_eq k x ≡ b → (b || has k ks) ≡ true → (has k ks ≡ true → SetterIn e meet k (place + 3) (place_in k ks) (place + 3 + length (setters_code e.s.context (place + 3) meet ks))) → SetterIn e meet k place (if b then 0 else suc (place_in k ks)) (place + length (setters_code e.s.context place meet (x ∷ ks)))
    by_test true e there more = here (nat_eq-eq k x e)
    by_test false e there more = there_in (place_in k ks) (more there)

-- from the label of a setter to where all ways meet
pub setter_runs : (e : Scene) (meet k place m id : ℕ) (t : State) → Has e.s.made place (setter_code e.s.context place meet k) → e.s.context.slot Want ≡ Some id → Uses e.s (global.Number k) → place + 3 ≤ m → Label e m meet → Forth e (at_label place t) (at_label m (put id k t))
setter_runs e meet k place m id t has slot uses ahead there =
    let c = e.s.context in
    let t0 : State = at_label place t in
    let none = (e.declares.inner place has.0).1 in
    let first = forth_one e t0 (next t0) (omega arith) (pass_label e place (result c place) t0 refl has.0 none) in
    let at1 : suc place ≡ place + 1 = omega arith in
    let number_is = fixed_here e.s (next t0) (number c k) (Word k) (e.declares.numbers k uses) in
    let t2 : State = put id k (next t0) in
    let second = forth_one e (next t0) t2 (omega arith) (store_want e (place + 1) id (number c k) k (next t0) slot number_is at1 has.1.0) in
    let at2 : suc (suc place) ≡ place + 1 + 1 = omega arith in
    let third = forth_one e t2 (at_label m (put id k t)) (omega (arith, ahead)) (jump e (place + 1 + 1) m meet t2 at2 has.1.1.0 there) in
    forth_on e t0 (next t0) (at_label m (put id k t)) first (forth_on e (next t0) t2 (at_label m (put id k t)) second third)
