-- What the test says of the places of parts.
use Rattle.std.proofs.Common.{◌≡◌, ℕ, zero, suc, ◌+◌, ◌<◌, true, List, [], ◌∷◌, map, Some, None, ap, sym, ◌∙◌, nat_lt, arith, ◌^◌, length}
use Rattle.std.specs.Prelude.{slice_get, ◌&&◌, All}
use Rattle.std.proofs.lemmas.List.Elements.{All-cons, All-nil}
use Rattle.std.specs.List.{list_all}
use Rattle.std.proofs.lemmas.Bool.{and_parts, ltb-true}
use Rattle.std.proofs.lemmas.List.Folds.{list_all-map}
use Rattle.std.proofs.lemmas.Option.{slice_get_within}
use Rattle.dxil_form.specs.declared.block.Block.{Block}
use Rattle.dxil_form.specs.declared.region.Region.{Region}
use Rattle.dxil_form.specs.declared.region.Region.TheVariants as region
use Rattle.dxil_form.specs.Wired.{parts}
use Rattle.spirv_code.specs.Trees.{AreEarlier}
use Rattle.lower_tests.specs.Counted.{are_behind, is_behind}

inj : {A : Type 0} {x y : A} → Some x ≡ Some y → x ≡ y
inj {A} {x} {y} e = ap (λ o. elim o as (λ _. A) [ None ↦ x | Some z ↦ z ]) e

below_all : (n : ℕ) (xs : List ℕ) (i s : ℕ) → list_all (λ a. nat_lt a n) xs ≡ true → slice_get xs i ≡ Some s → s < n
below_all n [] i s h e = absurd (omega (arith, slice_get_within {A = ℕ} [] i s e))
below_all n (x ∷ xs) zero s h e =
    let both = and_parts (nat_lt x n) (list_all (λ a. nat_lt a n) xs) h in
    let same : x ≡ s = inj e in
    omega (arith, ltb-true x n both.0)
below_all n (x ∷ xs) (suc i) s h e =
    below_all n xs i s (and_parts (nat_lt x n) (list_all (λ a. nat_lt a n) xs) h).1 e

both_below : (a b n : ℕ) → (nat_lt a n && nat_lt b n) ≡ true → (a < n) × (b < n)
both_below a b n h =
    let both = and_parts (nat_lt a n) (nat_lt b n) h in
    (ltb-true a n both.0, ltb-true b n both.1)

part_behind : (n : ℕ) (r : Region) (i s : ℕ) → is_behind n r ≡ true → slice_get (parts r) i ≡ Some s → s < n
part_behind n (region.Leaf block) i s h e = absurd (omega (arith, slice_get_within {A = ℕ} [] i s e))
part_behind n (region.Then first second target) zero s h e =
    let same : first ≡ s = inj e in
    omega (arith, (both_below first second n h).0)
part_behind n (region.Then first second target) (suc zero) s h e =
    let same : second ≡ s = inj e in
    omega (arith, (both_below first second n h).1)
part_behind n (region.Then first second target) (suc (suc i)) s h e =
    absurd (omega (arith, slice_get_within {A = ℕ} [] i s e))
part_behind n (region.Loop body head) zero s h e =
    let same : body ≡ s = inj e in
    omega (arith, ltb-true body n h)
part_behind n (region.Loop body head) (suc i) s h e =
    absurd (omega (arith, slice_get_within {A = ℕ} [] i s e))
part_behind n (region.Dispatch arms) i s h e = below_all n arms i s h e
part_behind n (region.Arms first arms) zero s h e =
    let same : first ≡ s = inj e in
    omega (arith, ltb-true first n (and_parts (nat_lt first n) (list_all (λ arm. nat_lt arm.1 n) arms) h).0)
part_behind n (region.Arms first arms) (suc i) s h e =
    let rest = (and_parts (nat_lt first n) (list_all (λ (arm : ℕ × ℕ). nat_lt arm.1 n) arms) h).1 in
    below_all n (map (λ (arm : ℕ × ℕ). arm.1) arms) i s (list_all-map (λ a. nat_lt a n) (λ (arm : ℕ × ℕ). arm.1) arms ∙ rest) e

parts_behind : (n : ℕ) (list : List Region) (r i s : ℕ) (x : Region) → are_behind n list ≡ true → slice_get list r ≡ Some x → slice_get (parts x) i ≡ Some s → s < n + r
parts_behind n [] r i s x h stands e = absurd (omega (arith, slice_get_within {A = Region} [] r x stands))
parts_behind n (y ∷ list) zero i s x h stands e =
    let first = (and_parts (is_behind n y) (are_behind (suc n) list) h).0 in
    let same : y ≡ x = inj stands in
    let below = part_behind n x i s (ap (is_behind n) (sym same) ∙ first) e in
    omega (arith, below)
parts_behind n (y ∷ list) (suc r) i s x h stands e =
    let rest = (and_parts (is_behind n y) (are_behind (suc n) list) h).1 in
    let below = parts_behind (suc n) list r i s x rest stands e in
    omega (arith, below)

pub behind : (list : List Region) → are_behind 0 list ≡ true → AreEarlier list
behind list h r i s part =
    let below = parts_behind 0 list r i s part.region h part.stands part.part in
    omega (arith, below)

-- ---- phis that are numbered by words

pub few_phis : (blocks : List Block) → list_all (λ block. nat_lt (length block.phis) 4294967296) blocks ≡ true → All (λ block. length block.phis < 2 ^ 32) blocks
few_phis [] h = All-nil (λ (block : Block). length block.phis < 2 ^ 32)
few_phis (block ∷ blocks) h =
    let both = and_parts (nat_lt (length block.phis) 4294967296) (list_all (λ (b : Block). nat_lt (length b.phis) 4294967296) blocks) h in
    let few = ltb-true (length block.phis) 4294967296 both.0 in
    All-cons (λ (b : Block). length b.phis < 2 ^ 32) block blocks (omega (arith, few)) (few_phis blocks both.1)
