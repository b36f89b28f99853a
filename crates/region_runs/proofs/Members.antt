-- The arms of a tree, and the regions that they are made of.
use Rattle.std.proofs.Common.{◌≡◌, ◌⊎◌, ℕ, zero, suc, Bool, true, false, List, [], ◌∷◌, Some, None, refl, sym, ap, ◌∙◌, subst, arith, inl, inr}
use Rattle.std.specs.Prelude.{nat_eq, if◌then◌else◌, Contains}
use Rattle.spirv_meaning.specs.Target as spv
use Rattle.spirv_code.specs.Trees.{Tree, Arms, No_arm, Arm, entry_of, label_at, arm_label, arms_of, entered_arms}
use Rattle.spirv_code.specs.Plans.{Context}
use Rattle.spirv_code.specs.Leaves.{followed}
use Rattle.spirv_code.specs.Exits.{want_inst}
use Rattle.spirv_code.specs.Rows.{arm_pairs, onwards, row_code, one_arm}
use Rattle.line_runs.proofs.Tests.{none_some, some_inj, true_false, nat_eq-eq, nat_eq-refl, if_true, if_false}

-- the tree is an arm for block k
abbrev pub Among : Arms → ℕ → Tree → Type 0
Among No_arm k tree = ⊥
Among (Arm target other arms) k tree = ((target ≡ k) × (other ≡ tree)) ⊎ Among arms k tree

-- the arm that is taken for block k
pub record Taken (arms : Arms) (k : ℕ) : Type 0 where
  pub tree : Tree
  pub among : Among arms k tree
  pub label : arm_label arms k ≡ Some (label_at tree)
  pub one : (c : Context) (place : ℕ) → one_arm c k place arms ≡ followed place (onwards (label_at tree)) (λ q. row_code c q tree)

pub record Untaken (arms : Arms) (k : ℕ) : Type 0 where
  pub label : arm_label arms k ≡ None
  pub one : (c : Context) (place : ℕ) → one_arm c k place arms ≡ want_inst c k ∷ []
  pub none : (tree : Tree) → Among arms k tree → ⊥

same_numbers : (a b : ℕ) → a ≡ b → nat_eq a b ≡ true
same_numbers a b e = subst (λ x. nat_eq a x ≡ true) e (nat_eq-refl a)

pub taken : (arms : Arms) (k : ℕ) → Taken arms k ⊎ Untaken arms k
taken No_arm k = inr (record { label = refl; one = λ c place. refl; none = λ tree a. a })
taken (Arm target other arms) k = by_test (nat_eq k target) refl (taken arms k)
  where
    neither : nat_eq k target ≡ false → Untaken arms k → (tree : Tree) → Among (Arm target other arms) k tree → ⊥
    neither e rest tree (inl same) = true_false (sym (same_numbers k target (sym same.0)) ∙ e)
    neither e rest tree (inr a) = rest.none tree a

    by_test : (b : Bool) → nat_eq k target ≡ b → Taken arms k ⊎ Untaken arms k → Taken (Arm target other arms) k ⊎ Untaken (Arm target other arms) k
    by_test true e rest =
        inl (record {
          tree = other;
          among = inl (sym (nat_eq-eq k target e), refl);
          label = if_true (nat_eq k target) e _ _;
          one = λ c place. if_true (nat_eq k target) e _ _;
        })
    by_test false e (inl rest) =
        inl (record {
          tree = rest.tree;
          among = inr rest.among;
          label = if_false (nat_eq k target) e _ _ ∙ rest.label;
          one = λ c place. if_false (nat_eq k target) e _ _ ∙ rest.one c place;
        })
    by_test false e (inr rest) =
        inr (record {
          label = if_false (nat_eq k target) e _ _ ∙ rest.label;
          one = λ c place. if_false (nat_eq k target) e _ _ ∙ rest.one c place;
          none = neither e rest;
        })

pub nat_eq_swap : (a b : ℕ) → nat_eq a b ≡ nat_eq b a
nat_eq_swap a b = by_tests (nat_eq a b) (nat_eq b a) refl refl
  where
    by_tests : (x y : Bool) → nat_eq a b ≡ x → nat_eq b a ≡ y → x ≡ y
    by_tests true y e f = sym (same_numbers b a (sym (nat_eq-eq a b e))) ∙ f
    by_tests false true e f = sym e ∙ same_numbers a b (sym (nat_eq-eq b a f))
    by_tests false false e f = refl

-- a switch over the arms goes to the arm that is taken
pub case_taken : (arms : Arms) (k default label : ℕ) → arm_label arms k ≡ Some label → spv.case_of k (arm_pairs arms) default ≡ label
case_taken No_arm k default label e = absurd (none_some e)
case_taken (Arm target other arms) k default label e =
    by_test (nat_eq k target) refl e (λ f. case_taken arms k default label f)
  where
    by_test : (b : Bool) → nat_eq k target ≡ b → (if b then Some (label_at other) else arm_label arms k) ≡ Some label → (arm_label arms k ≡ Some label → spv.case_of k (arm_pairs arms) default ≡ label) → (if nat_eq target k then label_at other else spv.case_of k (arm_pairs arms) default) ≡ label
    by_test true t e rest = if_true (nat_eq target k) (nat_eq_swap target k ∙ t) _ _ ∙ some_inj e
    by_test false t e rest = if_false (nat_eq target k) (nat_eq_swap target k ∙ t) _ _ ∙ rest e

-- ---- members of a list

contains_more : {A : Type 0} (x : A) (xs : List A) (y : A) → Contains xs y → Contains (x ∷ xs) y
contains_more x xs y (j, less, e) = (suc j, omega (arith, less), e)

abbrev pub pair_of : ℕ → ℕ → ℕ × ℕ
pair_of k a = (k, a)

-- ---- the arms of a leaf

pub in_arms : (part : ℕ → Tree) (xs : List (ℕ × ℕ)) (k : ℕ) (tree : Tree) → Among (arms_of part xs) k tree → (a : ℕ) × Contains xs (pair_of k a) × (part a ≡ tree)
in_arms part [] k tree a = absurd a
in_arms part (x ∷ xs) k tree (inl same) = (x.1, (0, omega arith, ap (λ n. pair_of n x.1) same.0), same.1)
in_arms part (x ∷ xs) k tree (inr a) =
    let r = in_arms part xs k tree a in
    (r.0, contains_more x xs (pair_of k r.0) r.1, r.2)

pub arms_in : (part : ℕ → Tree) (xs : List (ℕ × ℕ)) (k a : ℕ) → Contains xs (pair_of k a) → Among (arms_of part xs) k (part a)
arms_in part [] k a (j, less, e) = absurd (omega (arith, less))
arms_in part (x ∷ xs) k a (zero, less, e) = inl (ap (λ p. p.0) e, ap (λ p. part p.1) e)
arms_in part (x ∷ xs) k a (suc j, less, e) = inr (arms_in part xs k a (j, omega (arith, less), e))

-- ---- the arms of a dispatch

pub in_entered : (part : ℕ → Tree) (xs : List ℕ) (k : ℕ) (tree : Tree) → Among (entered_arms part xs) k tree → (a : ℕ) × Contains xs a × (part a ≡ tree) × (entry_of (part a) ≡ k)
in_entered part [] k tree a = absurd a
in_entered part (x ∷ xs) k tree (inl same) = (x, (0, omega arith, refl), same.1, same.0)
in_entered part (x ∷ xs) k tree (inr a) =
    let r = in_entered part xs k tree a in
    (r.0, contains_more x xs r.0 r.1, r.2, r.3)

pub entered_in : (part : ℕ → Tree) (xs : List ℕ) (k a : ℕ) → Contains xs a → entry_of (part a) ≡ k → Among (entered_arms part xs) k (part a)
entered_in part [] k a (j, less, e) is = absurd (omega (arith, less))
entered_in part (x ∷ xs) k a (zero, less, e) is = inl (ap (λ y. entry_of (part y)) e ∙ is, ap part e)
entered_in part (x ∷ xs) k a (suc j, less, e) is = inr (entered_in part xs k a (j, omega (arith, less), e) is)
