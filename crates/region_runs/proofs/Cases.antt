-- The cases of a switch, taken in pieces.
use Rattle.std.proofs.Common.{◌≡◌, ◌⊎◌, ℕ, zero, suc, ◌+◌, ◌*◌, ◌≤◌, Bool, true, false, ◌||◌, List, [], ◌∷◌, ◌++◌, length, take, drop, map, length-drop, Some, refl, sym, ap, ◌∙◌, arith, inl, inr}
use Rattle.std.specs.Prelude.{slice_get, nat_eq, if◌then◌else◌}
use Rattle.dxil_form.specs.Branches.{has}
use Rattle.dxil_meaning.specs.Source.{case_of}
use Rattle.spirv_meaning.specs.Target as spv
use Rattle.spirv_code.specs.Leaves.{most_pairs}
use Rattle.spirv_code.specs.Exits.{pairs, chunk_count}
use Rattle.line_runs.proofs.Tests.{true_false, nat_eq-eq, if_true, if_false}
use Rattle.region_runs.proofs.Targets.{has_here, has_there}

-- no two cases are equal
abbrev pub Distinct : List (ℕ × ℕ) → Type 0
Distinct cases =
    (j k : ℕ) (d x : ℕ × ℕ) → slice_get cases j ≡ Some d → slice_get cases k ≡ Some x → d.0 ≡ x.0 → j ≡ k

-- no case is the number
abbrev pub Absent : List (ℕ × ℕ) → ℕ → Type 0
Absent cases n = (j : ℕ) (d : ℕ × ℕ) → slice_get cases j ≡ Some d → d.0 ≡ n → ⊥

pub case_absent : (cases : List (ℕ × ℕ)) (n w : ℕ) → Absent cases n → case_of n cases w ≡ w
case_absent [] n w none = refl
case_absent (c ∷ cases) n w none =
    by_test (nat_eq c.0 n) refl (case_absent cases n w (λ j d at. none (suc j) d at))
  where
    by_test : (b : Bool) → nat_eq c.0 n ≡ b → case_of n cases w ≡ w → (if b then c.1 else case_of n cases w) ≡ w
    by_test true same rest = absurd (none 0 c refl (nat_eq-eq c.0 n same))
    by_test false differs rest = rest

get_behind : (xs ys : List (ℕ × ℕ)) (j : ℕ) → slice_get (xs ++ ys) (length xs + j) ≡ slice_get ys j
get_behind [] ys j = let same : 0 + j ≡ j = omega arith in ap (slice_get ys) same
get_behind (x ∷ xs) ys j =
    let same : length (x ∷ xs) + j ≡ suc (length xs + j) = omega arith in
    ap (slice_get (x ∷ (xs ++ ys))) same ∙ get_behind xs ys j

-- the cases of one piece, and then those of the others, by what the first piece left
pub case_pieces : (xs ys : List (ℕ × ℕ)) (n w : ℕ) → Distinct (xs ++ ys) → case_of n ys (case_of n xs w) ≡ case_of n (xs ++ ys) w
case_pieces [] ys n w apart = refl
case_pieces (x ∷ xs) ys n w apart =
    by_test (nat_eq x.0 n) refl (case_pieces xs ys n w (λ j k d y at_j at_k same. below j k (apart (suc j) (suc k) d y at_j at_k same)))
  where
    below : (j k : ℕ) → suc j ≡ suc k → j ≡ k
    below j k e = omega (arith, e)

    none : x.0 ≡ n → Absent ys n
    none same j d at is =
        let there = get_behind xs ys j ∙ at in
        let one = apart 0 (suc (length xs + j)) x d refl there (same ∙ sym is) in
        omega (arith, one)

    by_test : (b : Bool) → nat_eq x.0 n ≡ b → case_of n ys (case_of n xs w) ≡ case_of n (xs ++ ys) w → case_of n ys (if b then x.1 else case_of n xs w) ≡ (if b then x.1 else case_of n (xs ++ ys) w)
    by_test true same rest = case_absent ys n x.1 (none (nat_eq-eq x.0 n same))
    by_test false differs rest = rest

pub distinct_behind : (xs ys : List (ℕ × ℕ)) → Distinct (xs ++ ys) → Distinct ys
distinct_behind xs ys apart j k d x at_j at_k same =
    let one = apart (length xs + j) (length xs + k) d x (get_behind xs ys j ∙ at_j) (get_behind xs ys k ∙ at_k) same in
    omega (arith, one)

-- ---- a case is the number, or none is

pub record CaseIs (cases : List (ℕ × ℕ)) (n : ℕ) : Type 0 where
  pub to : ℕ
  pub chosen : (w : ℕ) → case_of n cases w ≡ to
  pub label : (f : ℕ → ℕ) (default : ℕ) → spv.case_of n (pairs f cases) default ≡ f to
  pub among : has to (map (λ arm. arm.1) cases) ≡ true

pub record CaseNone (cases : List (ℕ × ℕ)) (n : ℕ) : Type 0 where
  pub chosen : (w : ℕ) → case_of n cases w ≡ w
  pub label : (f : ℕ → ℕ) (default : ℕ) → spv.case_of n (pairs f cases) default ≡ default

pub find_case : (cases : List (ℕ × ℕ)) (n : ℕ) → CaseIs cases n ⊎ CaseNone cases n
find_case [] n = inr (record { chosen = λ w. refl; label = λ f default. refl })
find_case (c ∷ cases) n = by_test (nat_eq c.0 n) refl (find_case cases n)
  where
    by_test : (b : Bool) → nat_eq c.0 n ≡ b → CaseIs cases n ⊎ CaseNone cases n → CaseIs (c ∷ cases) n ⊎ CaseNone (c ∷ cases) n
    by_test true same rest =
        inl (record {
          to = c.1;
          chosen = λ w. if_true (nat_eq c.0 n) same _ _;
          label = λ f default. if_true (nat_eq c.0 n) same _ _;
          among = has_here c.1 (map (λ arm. arm.1) cases);
        })
    by_test false differs (inl x) =
        inl (record {
          to = x.to;
          chosen = λ w. if_false (nat_eq c.0 n) differs _ _ ∙ x.chosen w;
          label = λ f default. if_false (nat_eq c.0 n) differs _ _ ∙ x.label f default;
          among = has_there x.to c.1 (map (λ arm. arm.1) cases) x.among;
        })
    by_test false differs (inr x) =
        inr (record {
          chosen = λ w. if_false (nat_eq c.0 n) differs _ _ ∙ x.chosen w;
          label = λ f default. if_false (nat_eq c.0 n) differs _ _ ∙ x.label f default;
        })

-- ---- there are enough pieces

pub enough : (cases : ℕ) → cases ≤ chunk_count cases * most_pairs
enough cases = omega arith

pub fewer_left : (cases : List (ℕ × ℕ)) (n : ℕ) → length cases ≤ suc n * most_pairs → length (drop most_pairs cases) ≤ n * most_pairs
fewer_left cases n few =
    let left = length-drop most_pairs cases in
    omega (arith, left, few)

pub none_left : (cases : List (ℕ × ℕ)) → length cases ≤ 0 * most_pairs → cases ≡ []
none_left [] few = refl
none_left (c ∷ cases) few = absurd (omega (arith, few))

-- what stands in a piece stands in the whole
pub has_taken : (n k : ℕ) (cases : List (ℕ × ℕ)) → has k (map (λ arm. arm.1) (take n cases)) ≡ true → has k (map (λ arm. arm.1) cases) ≡ true
has_taken zero k cases h = absurd (true_false (sym h))
has_taken (suc n) k [] h = h
has_taken (suc n) k (c ∷ cases) h = by_test (nat_eq k c.1) h (λ g. has_taken n k cases g)
  where
    by_test : (b : Bool) → (b || has k (map (λ arm. arm.1) (take n cases))) ≡ true → (has k (map (λ arm. arm.1) (take n cases)) ≡ true → has k (map (λ arm. arm.1) cases) ≡ true) → (b || has k (map (λ arm. arm.1) cases)) ≡ true
    by_test true h rest = refl
    by_test false h rest = rest h

pub has_dropped : (n k : ℕ) (cases : List (ℕ × ℕ)) → has k (map (λ arm. arm.1) (drop n cases)) ≡ true → has k (map (λ arm. arm.1) cases) ≡ true
has_dropped zero k cases h = h
has_dropped (suc n) k [] h = h
has_dropped (suc n) k (c ∷ cases) h =
    has_there k c.1 (map (λ arm. arm.1) cases) (has_dropped n k cases h)
