-- A dispatch has no more arms than the program has blocks, since different blocks enter them.
use Rattle.std.proofs.Common.{◌≡◌, ℕ, zero, suc, ◌<◌, ◌≤◌, Bool, true, false, eqb, ne_eqb, List, [], ◌∷◌, length, Some, refl, sym, subst, arith}
use Rattle.std.specs.Prelude.{slice_get, Contains, ◌||◌}
use Rattle.std.specs.List.{list_any, AllByRecursion, IsDistinct}
use Rattle.std.proofs.lemmas.Map.Steps.{length-le_from_distinct_below}
use Rattle.std.proofs.lemmas.Option.{slice_get_within, get_or_from_slice_get}
use Rattle.dxil_form.specs.declared.program.Program.{Program}
use Rattle.dxil_form.specs.declared.region.Region.{Region}
use Rattle.dxil_form.specs.declared.region.Region.TheVariants as region
use Rattle.dxil_form.specs.Graphs.{Reached, Path}
use Rattle.dxil_form.specs.Branches.{declared_graph}
use Rattle.dxil_form.specs.Walks.{EnteredBy}
use Rattle.dxil_form.specs.Walks.EnteredBy.{by_block, by_head, by_first, by_source, by_start}
use Rattle.dxil_form.specs.Sound.{Sound}
use Rattle.dxil_form.specs.Wired.{parts, IsPart, Wired}
use Rattle.line_runs.proofs.Tests.{nat_eq-eq, true_false}

pub get_some : {A : Type 0} (xs : List A) (k : ℕ) → k < length xs → (x : A) × (slice_get xs k ≡ Some x)
get_some [] k h = absurd (omega (arith, h))
get_some (x ∷ xs) zero h = (x, refl)
get_some (x ∷ xs) (suc k) h = get_some xs k (omega (arith, h))

-- ---- numbers below n, one for each place of a list and no two the same

module _ (R : ℕ → ℕ → Type 0) (n : ℕ) where
  abbrev HasNumber : ℕ → Type 0
  HasNumber x = (k : ℕ) × R x k × (k < n)

  abbrev numbers : (xs : List ℕ) → ((i x : ℕ) → slice_get xs i ≡ Some x → HasNumber x) → List ℕ
  numbers [] h = []
  numbers (x ∷ xs) h = (h 0 x refl).0 ∷ numbers xs (λ i y e. h (suc i) y e)

  numbers_length : (xs : List ℕ) (h : (i x : ℕ) → slice_get xs i ≡ Some x → HasNumber x) → length (numbers xs h) ≡ length xs
  numbers_length [] h = refl
  numbers_length (x ∷ xs) h =
      let rest = numbers_length xs (λ i y e. h (suc i) y e) in
      omega (arith, rest)

  apart_all : (k : ℕ) (xs : List ℕ) (h : (i x : ℕ) → slice_get xs i ≡ Some x → HasNumber x) → ((i x : ℕ) → slice_get xs i ≡ Some x → R x k → ⊥) → AllByRecursion (λ m. eqb k m ≡ false) (numbers xs h)
  apart_all k [] h never = tt
  apart_all k (x ∷ xs) h never =
      let one = h 0 x refl in
      (ne_eqb k one.0 (λ e. never 0 x refl (subst (R x) (sym e) one.1)), apart_all k xs (λ i y e. h (suc i) y e) (λ i y e. never (suc i) y e))

  distinct_all : (xs : List ℕ) (h : (i x : ℕ) → slice_get xs i ≡ Some x → HasNumber x) → ((i j x y k : ℕ) → slice_get xs i ≡ Some x → slice_get xs j ≡ Some y → R x k → R y k → i ≡ j) → IsDistinct eqb (numbers xs h)
  unfolding IsDistinct
  distinct_all [] h apart = tt
  distinct_all (x ∷ xs) h apart =
      let one = h 0 x refl in
      (apart_all one.0 xs (λ i y e. h (suc i) y e) (λ i y e r. absurd (let same = apart 0 (suc i) x y one.0 refl e one.1 r in omega (arith, same))), distinct_all xs (λ i y e. h (suc i) y e) (λ i j y z k e f r q. (let same = apart (suc i) (suc j) y z k e f r q in omega (arith, same))))

  below_all : (xs : List ℕ) (h : (i x : ℕ) → slice_get xs i ≡ Some x → HasNumber x) (q : ℕ) → list_any (eqb q) (numbers xs h) ≡ true → q < n
  below_all [] h q any = absurd (true_false (sym any))
  below_all (x ∷ xs) h q any = by_test (eqb q (h 0 x refl).0) refl any (below_all xs (λ i y e. h (suc i) y e) q)
    where
      by_test : (b : Bool) → eqb q (h 0 x refl).0 ≡ b → (b || list_any (eqb q) (numbers xs (λ i y e. h (suc i) y e))) ≡ true → (list_any (eqb q) (numbers xs (λ i y e. h (suc i) y e)) ≡ true → q < n) → q < n
      by_test true same any rest = subst (λ m. m < n) (sym (nat_eq-eq q (h 0 x refl).0 same)) (h 0 x refl).2
      by_test false same any rest = rest any

  few_places : (xs : List ℕ) → ((i x : ℕ) → slice_get xs i ≡ Some x → HasNumber x) → ((i j x y k : ℕ) → slice_get xs i ≡ Some x → slice_get xs j ≡ Some y → R x k → R y k → i ≡ j) → length xs ≤ n
  few_places xs h apart =
      let few = length-le_from_distinct_below (numbers xs h) n (distinct_all xs h apart) (below_all xs h) in
      let long = numbers_length xs h in
      omega (arith, few, long)

-- ---- the block that enters a region

module _ (p : Program) (list : List Region) (sound : Sound p) (w : Wired p list) where
  part_below : (r i s : ℕ) (x : Region) → slice_get list r ≡ Some x → slice_get (parts x) i ≡ Some s → s < r
  part_below r i s x is at = w.later r i s (record { region = x; stands = is; part = at })

  reached_below : (b : ℕ) → Reached (declared_graph p) b → b < length p.blocks
  reached_below b (before, path) = by_path before path
    where
      by_path : (before : List ℕ) → Path (declared_graph p) 0 before b → b < length p.blocks
      by_path [] path = let begins = sound.begins in omega (arith, begins, path)
      by_path (c ∷ before) path = (sound.targets c b path.0).1

  entered_below : (n r k : ℕ) → r < n → EnteredBy list r k → k < length p.blocks
  entered_below zero r k low entered = absurd (omega (arith, low))
  entered_below (suc n) r k low (by_block is) = reached_below k (w.reached r k is)
  entered_below (suc n) r k low (by_head {body = body} is) =
      let less = part_below r 0 body (region.Loop body k) is refl in
      entered_below n body k (omega (arith, low, less)) (w.body r body k is)
  entered_below (suc n) r k low (by_first {first = first} {second = second} {target = target} is entered) =
      let less = part_below r 0 first (region.Then first second target) is refl in
      entered_below n first k (omega (arith, low, less)) entered
  entered_below (suc n) r k low (by_source {first = first} {arms = arms} is entered) =
      let less = part_below r 0 first (region.Arms first arms) is refl in
      entered_below n first k (omega (arith, low, less)) entered
  entered_below (suc n) r k low (by_start is member entered) = sound.begins

  -- some block enters a region below the root
  entered : (n r : ℕ) (x : Region) → r < n → r < w.root → slice_get list r ≡ Some x → (k : ℕ) × EnteredBy list r k
  entered zero r x less low is = absurd (omega (arith, less))
  entered (suc n) r (region.Leaf b) less low is = (b, by_block is)
  entered (suc n) r (region.Loop body head) less low is = (head, by_head is)
  entered (suc n) r (region.Dispatch arms) less low is =
      let same = w.dispatch r arms is in
      absurd (omega (arith, low, same))
  entered (suc n) r (region.Then first second target) less low is =
      let under = part_below r 0 first (region.Then first second target) is refl in
      let last = w.last in
      let y = get_some list first (omega (arith, under, low, last)) in
      let rest = entered n first y.0 (omega (arith, under, less)) (omega (arith, under, low)) y.1 in
      (rest.0, by_first is rest.1)
  entered (suc n) r (region.Arms first arms) less low is =
      let source = w.source r first arms is in
      (source.0, by_source is (by_block source.1))

  -- ---- the arms of a dispatch

  pub arms_few : (r : ℕ) (arms : List ℕ) → slice_get list r ≡ Some (region.Dispatch arms) → length arms ≤ length p.blocks
  arms_few r arms is = few_places (EnteredBy list) (length p.blocks) arms each apart
    where
      part : (i a : ℕ) → slice_get arms i ≡ Some a → IsPart list r i a
      part i a at = record { region = region.Dispatch arms; stands = is; part = at }

      member : (i a : ℕ) → slice_get arms i ≡ Some a → Contains arms a
      member i a at = (i, slice_get_within arms i a at, get_or_from_slice_get arms i a a at)

      each : (i a : ℕ) → slice_get arms i ≡ Some a → HasNumber (EnteredBy list) (length p.blocks) a
      each i a at =
          let less = w.later r i a (part i a at) in
          let root = w.dispatch r arms is in
          let last = w.last in
          let low : a < w.root = omega (arith, less, root) in
          let x = get_some list a (omega (arith, low, last)) in
          let k = entered (suc a) a x.0 (omega arith) low x.1 in
          (k.0, k.1, entered_below (suc a) a k.0 (omega arith) k.1)

      apart : (i j a c k : ℕ) → slice_get arms i ≡ Some a → slice_get arms j ≡ Some c → EnteredBy list a k → EnteredBy list c k → i ≡ j
      apart i j a c k at there ea ec =
          let same = w.apart r a c k arms is (member i a at) (member j c there) ea ec in
          (w.once r r i j c (subst (IsPart list r i) same (part i a at)) (part j c there)).1
