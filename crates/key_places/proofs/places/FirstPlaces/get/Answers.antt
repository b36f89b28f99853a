use Rattle.std.proofs.Common.{◌≡◌, ℕ, List, arith, rules, ltb, ap, sym, subst, ◌∙◌}
use Rattle.std.proofs.lemmas.Grind.{common_steps}
use Rattle.std.proofs.lemmas.Option.{gets}
use Rattle.std.proofs.lemmas.List.Sorted.{IsPartitionedBy-ltb, IsPartitionPoint-from_clause}
use Rattle.std.specs.FinMap as map
use Rattle.std.specs.List.{slice_get}
use Rattle.std.specs.List.Sorted.{IsNonDecreasingBy}
use Rattle.key_places.specs.Places.{first_place}
use Rattle.key_places.proofs.Searching.{found_at, map_has, place_of}
use Rattle.key_places.proofs.places.FirstPlaces.get.Goals as goal
use Rattle.key_places.proofs.places.FirstPlaces.get.Goals.{After-copied}

found : (c : After-copied) → map.get c.args.self.now c.args.key ≡ place_of c.args.key c.copied.result
found c =
    let pairs = c.self.inside.sorted.items in
    let slice = c.as_slice-sorted.result.now in
    let key = c.args.key in
    let before = c.partition_point-before.result in
    let same : slice ≡ pairs = c.as_slice-sorted.ensures.value in
    let rises = subst (λ (l : List (ℕ × ℕ)). IsNonDecreasingBy (λ (p : ℕ × ℕ). p.0) l) (sym same) c.self.invariant in
    let point = IsPartitionPoint-from_clause (λ (p : ℕ × ℕ). ltb p.0 key) slice before c.partition_point-before.ensures.partitioned
    (IsPartitionedBy-ltb (λ (p : ℕ × ℕ). p.0) slice key rises) (λ a r q k. search rules) in
    let read : slice_get slice before ≡ c.copied.result = grind (arith, common_steps, gets) in
    ap (λ m. map.get m key) (sym c.self.view_is) ∙ map_has pairs key ∙ ap (λ (l : List (ℕ × ℕ)). first_place l key) (sym same)
    ∙ found_at slice key before rises c.partition_point-before.ensures.bound point ∙ ap (place_of key) read

pub returns-in_err-found : goal.returns-in_err-found
returns-in_err-found c = let read = found (goal.at.returns-in_err-found c).After-copied in grind (arith, common_steps)

pub returns-then-found-key : goal.returns-then-found-key
returns-then-found-key c = let read = found (goal.at.returns-then-found-key c).After-copied in grind (arith, common_steps)

pub returns-else-found-key : goal.returns-else-found-key
returns-else-found-key c = let read = found (goal.at.returns-else-found-key c).After-copied in grind (arith, common_steps)
