-- A switch instruction is formed: behind the value and the default stand pairs of a number and a label.
use Rattle.std.proofs.Common.{◌≡◌, ℕ, zero, suc, ◌*◌, ◌%◌, ◌<◌, Bool, true, false, List, [], ◌∷◌, length, get_or, refl, sym, ap, ◌∙◌, arith}
use Rattle.std.specs.Prelude.{◌==◌, ◌||◌, ◌&&◌, nat_le}
use Rattle.spv_form.specs.declared.shape.Shape.TheVariants.{Pairs}
use Rattle.spv_form.specs.Formed.{IsIdBelow, IsFormedInst}
use Rattle.spv_form.specs.Operands.{fits, is_id}
use Rattle.spv_form.specs.Shapes.{shape_of}
use Rattle.spirv_code.specs.Plans.{inst}
use Rattle.spirv_code.specs.Exits.{pairs}
use Rattle.line_runs.proofs.Tests.{nat_eq-eq}

-- pairs of a number and an id
abbrev pub ArePairs : ℕ → List ℕ → Type 0
ArePairs b [] = Unit {0}
ArePairs b (n ∷ []) = ⊥
ArePairs b (n ∷ x ∷ rest) = IsIdBelow b x × ArePairs b rest

pair_at : (b : ℕ) (ps : List ℕ) (at : ℕ) → ArePairs b ps → at < length ps → at % 2 ≡ 1 → IsIdBelow b (get_or ps at 0)
pair_at b [] at h lt odd = absurd (omega (arith, lt))
pair_at b (n ∷ []) at h lt odd = absurd h
pair_at b (n ∷ x ∷ rest) zero h lt odd = absurd (omega (arith, odd))
pair_at b (n ∷ x ∷ rest) (suc zero) h lt odd = h.0
pair_at b (n ∷ x ∷ rest) (suc (suc at)) h lt odd =
    pair_at b rest at h.1 (omega (arith, lt)) (omega (arith, odd))

even_length : (b : ℕ) (ps : List ℕ) → ArePairs b ps → length ps % 2 ≡ 0
even_length b [] h = refl
even_length b (n ∷ []) h = absurd h
even_length b (n ∷ x ∷ rest) h =
    let even = even_length b rest h.1 in
    omega (arith, even)

both : (x y : Bool) → x ≡ true → y ≡ true → (x && y) ≡ true
both x y e f = ap (λ b. b && y) e ∙ f

at_least : (n : ℕ) → nat_le 2 (suc (suc n)) ≡ true
at_least n = grind arith

pairs_fit : (b x y : ℕ) (ps : List ℕ) → ArePairs b ps → fits Pairs (x ∷ y ∷ ps) ≡ true
pairs_fit b x y ps h =
    let even = even_length b ps h in
    let more : length (x ∷ y ∷ ps) % 2 ≡ 0 = omega (arith, even) in
    both (nat_le 2 (length (x ∷ y ∷ ps))) (length (x ∷ y ∷ ps) % 2 == 0) (at_least (length ps)) (ap (λ n. n == 0) more)

-- behind the default an id stands at each odd place
odd_told : (at : ℕ) → (suc (suc at) == 0 || suc (suc at) % 2 == 1) ≡ true → at % 2 ≡ 1
odd_told at is =
    let none : (suc (suc at) == 0) ≡ false = grind arith in
    let odd = nat_eq-eq (suc (suc at) % 2) 1 (sym (ap (λ x. x || suc (suc at) % 2 == 1) none) ∙ is) in
    omega (arith, odd)

pub switch_formed : (b x y : ℕ) (ps : List ℕ) → IsIdBelow b x → IsIdBelow b y → ArePairs b ps → length ps < 65533 → IsFormedInst b (inst 251 (x ∷ y ∷ ps))
unfolding shape_of
switch_formed b x y ps hx hy h few =
    record { shape = Pairs; listed = refl; fits = pairs_fit b x y ps h; string = refl; ids = ids; short = omega (arith, few) }
  where
    ids : (at : ℕ) → at < length (x ∷ y ∷ ps) → is_id Pairs (x ∷ y ∷ ps) at ≡ true → IsIdBelow b (get_or (x ∷ y ∷ ps) at 0)
    ids zero lt is = hx
    ids (suc zero) lt is = hy
    ids (suc (suc at)) lt is =
        pair_at b ps at h (omega (arith, lt)) (odd_told at is)

pub pairs_ok : (b : ℕ) (to : ℕ → ℕ) (cases : List (ℕ × ℕ)) → ((k : ℕ) → IsIdBelow b (to k)) → ArePairs b (pairs to cases)
pairs_ok b to [] h = tt
pairs_ok b to (arm ∷ cases) h = (h arm.1, pairs_ok b to cases h)

pub pairs_length : (to : ℕ → ℕ) (cases : List (ℕ × ℕ)) → length (pairs to cases) ≡ 2 * length cases
pairs_length to [] = refl
pairs_length to (arm ∷ cases) =
    let rest = pairs_length to cases in
    omega (arith, rest)
