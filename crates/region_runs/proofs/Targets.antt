-- The blocks that a terminator may go to, and those of them that have a setter.
use Rattle.std.proofs.Common.{◌≡◌, ℕ, Bool, true, false, ◌||◌, List, [], ◌∷◌, ◌++◌, Option, Some, None, refl, sym, ap, ◌∙◌, subst}
use Rattle.std.specs.Prelude.{slice_get, nat_eq, nat_lt, if◌then◌else◌, map}
use Rattle.dxil_form.specs.declared.block.Block.{Block}
use Rattle.dxil_form.specs.declared.block.Term.{Term}
use Rattle.dxil_form.specs.declared.block.Term.TheVariants.{If, Switch}
use Rattle.dxil_form.specs.declared.program.Program.{Program}
use Rattle.dxil_form.specs.Branches.{has, targets, targets_in, branches}
use Rattle.dxil_meaning.specs.Source.{case_of}
use Rattle.spirv_meaning.specs.Target.{Value, Word, Truth}
use Rattle.spirv_code.specs.declared.way.Way.{Way}
use Rattle.spirv_code.specs.declared.way.Way.TheVariants.{Ends, Goes, Chooses, Splits}
use Rattle.spirv_code.specs.Leaves.{add_new, different, way_to, most_pairs}
use Rattle.spirv_code.specs.Exits.{unarmed, loose, way_label, setter_label}
use Rattle.line_runs.specs.Exits.{goes_to}
use Rattle.line_runs.proofs.Tests.{none_some, some_inj, true_false, nat_eq-eq, nat_eq-refl}

-- ---- members

or_false : (a : Bool) → (a || false) ≡ a
or_false true = refl
or_false false = refl

or_assoc : (a b c : Bool) → ((a || b) || c) ≡ (a || (b || c))
or_assoc true b c = refl
or_assoc false b c = refl

or_true : (a : Bool) → (a || true) ≡ true
or_true true = refl
or_true false = refl

pub has_append : (k : ℕ) (xs ys : List ℕ) → has k (xs ++ ys) ≡ (has k xs || has k ys)
has_append k [] ys = refl
has_append k (x ∷ xs) ys =
    ap (λ b. nat_eq k x || b) (has_append k xs ys) ∙ sym (or_assoc (nat_eq k x) (has k xs) (has k ys))

-- a number that stands in the list already, or is put at its end
has_more : (k x : ℕ) (seen : List ℕ) → has k (if has x seen then seen else seen ++ x ∷ []) ≡ (has k seen || nat_eq k x)
has_more k x seen = by_test (has x seen) refl
  where
    -- the same number is there
    by_same : (b : Bool) → nat_eq k x ≡ b → has x seen ≡ true → has k seen ≡ (has k seen || b)
    by_same true same there =
        let here : has k seen ≡ true = subst (λ y. has y seen ≡ true) (sym (nat_eq-eq k x same)) there in
        here ∙ sym (or_true (has k seen))
    by_same false same there = sym (or_false (has k seen))

    by_test : (b : Bool) → has x seen ≡ b → has k (if b then seen else seen ++ x ∷ []) ≡ (has k seen || nat_eq k x)
    by_test true there = by_same (nat_eq k x) refl there
    by_test false there = has_append k seen (x ∷ []) ∙ ap (λ b. has k seen || b) (or_false (nat_eq k x))

has_new : (k : ℕ) (seen ks : List ℕ) → has k (add_new seen ks) ≡ (has k seen || has k ks)
has_new k seen [] = sym (or_false (has k seen))
has_new k seen (x ∷ ks) =
    has_new k (if has x seen then seen else seen ++ x ∷ []) ks ∙ ap (λ b. b || has k ks) (has_more k x seen) ∙ or_assoc (has k seen) (nat_eq k x) (has k ks)

pub has_different : (k : ℕ) (ks : List ℕ) → has k (different ks) ≡ has k ks
has_different k ks = has_new k [] ks

pub has_here : (k : ℕ) (ks : List ℕ) → has k (k ∷ ks) ≡ true
has_here k ks = ap (λ b. b || has k ks) (nat_eq-refl k)

pub has_there : (k x : ℕ) (ks : List ℕ) → has k ks ≡ true → has k (x ∷ ks) ≡ true
has_there k x ks h = ap (λ b. nat_eq k x || b) h ∙ or_true (nat_eq k x)

-- ---- the way in which a block is left

pub ends_alone : (ks : List ℕ) (cases : ℕ) → way_to ks cases ≡ Ends → ks ≡ []
ends_alone [] cases e = refl
ends_alone (k ∷ []) cases e = absurd (cc e)
ends_alone (k ∷ l ∷ ks) cases e = absurd (by_test (nat_lt most_pairs cases) e)
  where
    by_test : (b : Bool) → (if b then Splits else Chooses) ≡ Ends → ⊥
    by_test true e = cc e
    by_test false e = cc e

abbrev pub target_of : ℕ → Way → ℕ
target_of default (Goes k) = k
target_of default _ = default

pub goes_alone : (ks : List ℕ) (cases k : ℕ) → way_to ks cases ≡ Goes k → ks ≡ k ∷ []
goes_alone [] cases k e = absurd (cc e)
goes_alone (l ∷ []) cases k e = ap (λ n. n ∷ []) (ap (target_of l) e)
goes_alone (l ∷ m ∷ ks) cases k e = absurd (by_test (nat_lt most_pairs cases) e)
  where
    by_test : (b : Bool) → (if b then Splits else Chooses) ≡ Goes k → ⊥
    by_test true e = cc e
    by_test false e = cc e

pub splits_many : (ks : List ℕ) (cases : ℕ) → way_to ks cases ≡ Splits → nat_lt most_pairs cases ≡ true
splits_many [] cases e = absurd (cc e)
splits_many (k ∷ []) cases e = absurd (cc e)
splits_many (k ∷ l ∷ ks) cases e = by_test (nat_lt most_pairs cases) e
  where
    by_test : (b : Bool) → (if b then Splits else Chooses) ≡ Splits → b ≡ true
    by_test true e = refl
    by_test false e = absurd (cc e)

-- ---- the block that is chosen is one of the targets

case_target : (n default : ℕ) (cases : List (ℕ × ℕ)) → has (case_of n cases default) (default ∷ map (λ c. c.1) cases) ≡ true
case_target n default [] = has_here default []
case_target n default (c ∷ cases) = by_test (nat_eq c.0 n) (case_target n default cases)
  where
    later : (k : ℕ) → has k (default ∷ map (λ c. c.1) cases) ≡ true → has k (default ∷ c.1 ∷ map (λ c. c.1) cases) ≡ true
    later k h = by_default (nat_eq k default) h
      where
        by_default : (b : Bool) → (b || has k (map (λ c. c.1) cases)) ≡ true → (b || has k (c.1 ∷ map (λ c. c.1) cases)) ≡ true
        by_default true h = refl
        by_default false h = has_there k c.1 (map (λ c. c.1) cases) h

    by_test : (b : Bool) → has (case_of n cases default) (default ∷ map (λ c. c.1) cases) ≡ true → has (if b then c.1 else case_of n cases default) (default ∷ c.1 ∷ map (λ c. c.1) cases) ≡ true
    by_test true h = has_there c.1 default (c.1 ∷ map (λ c. c.1) cases) (has_here c.1 (map (λ c. c.1) cases))
    by_test false h = later (case_of n cases default) h

pub goes_target : (term : Term) (v : Value) (k : ℕ) → goes_to term v ≡ Some k → has k (targets term) ≡ true
goes_target (If cond there other) (Truth true) k e =
    subst (λ x. has x (there ∷ other ∷ []) ≡ true) (some_inj e) (has_here there (other ∷ []))
goes_target (If cond there other) (Truth false) k e =
    subst (λ x. has x (there ∷ other ∷ []) ≡ true) (some_inj e) (has_there other there (other ∷ []) (has_here other []))
goes_target (Switch value default cases) (Word n) k e =
    subst (λ x. has x (default ∷ map (λ c. c.1) cases) ≡ true) (some_inj e) (case_target n default cases)
goes_target _ _ k e = absurd (none_some e)

pub branch_target : (p : Program) (b k : ℕ) (block : Block) → slice_get p.blocks b ≡ Some block → branches p b k ≡ has k (targets block.term)
branch_target p b k block at = ap (λ o. has k (targets_in o)) at

-- ---- setters

-- what `unarmed` keeps of one block
abbrev kept_with : ℕ → Option ℕ → List ℕ → List ℕ
kept_with k None rest = k ∷ rest
kept_with k (Some label) rest = rest

unarmed_one : (labels : ℕ → Option ℕ) (x : ℕ) (ks : List ℕ) → unarmed labels (x ∷ ks) ≡ kept_with x (labels x) (unarmed labels ks)
unarmed_one labels x ks = refl

unarmed_has : (labels : ℕ → Option ℕ) (ks : List ℕ) (k : ℕ) → labels k ≡ None → has k ks ≡ true → has k (unarmed labels ks) ≡ true
unarmed_has labels [] k none h = absurd (true_false (sym h))
unarmed_has labels (x ∷ ks) k none h =
    ap (has k) (unarmed_one labels x ks) ∙ by_test (nat_eq k x) refl h (λ g. unarmed_has labels ks k none g)
  where
    there : (o : Option ℕ) → has k (unarmed labels ks) ≡ true → has k (kept_with x o (unarmed labels ks)) ≡ true
    there None g = has_there k x (unarmed labels ks) g
    there (Some label) g = g

    by_test : (b : Bool) → nat_eq k x ≡ b → (b || has k ks) ≡ true → (has k ks ≡ true → has k (unarmed labels ks) ≡ true) → has k (kept_with x (labels x) (unarmed labels ks)) ≡ true
    by_test true e h rest =
        let no_label : labels x ≡ None = ap labels (sym (nat_eq-eq k x e)) ∙ none in
        ap (λ o. has k (kept_with x o (unarmed labels ks))) no_label ∙ ap (λ b. b || has k (unarmed labels ks)) e
    by_test false e h rest = there (labels x) (rest h)

pub loose_has : (labels : ℕ → Option ℕ) (ks : List ℕ) (k : ℕ) → labels k ≡ None → has k ks ≡ true → has k (loose labels ks) ≡ true
loose_has labels ks k none h = has_different k (unarmed labels ks) ∙ unarmed_has labels ks k none h

abbrev own_or : ℕ → Option ℕ → ℕ
own_or setter None = setter
own_or setter (Some label) = label

pub way_armed : (labels : ℕ → Option ℕ) (first : ℕ) (ks : List ℕ) (k label : ℕ) → labels k ≡ Some label → way_label labels first ks k ≡ label
way_armed labels first ks k label e = ap (own_or (setter_label first ks k)) e

pub way_loose : (labels : ℕ → Option ℕ) (first : ℕ) (ks : List ℕ) (k : ℕ) → labels k ≡ None → way_label labels first ks k ≡ setter_label first ks k
way_loose labels first ks k e = ap (own_or (setter_label first ks k)) e
