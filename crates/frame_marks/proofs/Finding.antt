-- What is found in a list by a test, and how many of its members pass one.
use Rattle.std.proofs.Common.{◌≡◌, ℕ, zero, suc, ◌+◌, ◌<◌, Bool, true, false, List, [], ◌∷◌, ◌++◌, length, Some, refl, sym, ap, ◌∙◌, subst, arith, cond, count_by, find}
use Rattle.std.proofs.lemmas.List.Sums.{sum_by-cons}
use Rattle.std.specs.Prelude.{slice_get, option_map, nat_eq, nat_lt, ◌==◌, ◌&&◌, ◌||◌}
use Rattle.std.specs.List.{list_any}
use Rattle.spv_form.specs.declared.module.Inst.{Inst}
use Rattle.spv_ids.specs.Roles.{operand}
use Rattle.decoration_rules.specs.Decorations.{is_decoration, is_numbered}
use Rattle.spirv_code.specs.Plans.{inst}
use Rattle.line_runs.proofs.Tests.{true_false}
use Rattle.frame_facts.proofs.Searches.{inj, if_so, eq_same}
use Rattle.module_form.specs.Form.{gather}
use Rattle.buffer_form.specs.Buffers.{decorates}

-- ---- a member that passes a test

pub any_passes : (test : Inst → Bool) (xs : List Inst) (j : ℕ) (x : Inst) → slice_get xs j ≡ Some x → test x ≡ true → list_any test xs ≡ true
any_passes test [] j x e t = absurd (cc)
any_passes test (y ∷ xs) zero x e t = ap (λ b. b || list_any test xs) (subst (λ z. test z ≡ true) (sym (inj e)) t)
any_passes test (y ∷ xs) (suc j) x e t = by_test (test y) (any_passes test xs j x e t)
  where
    by_test : (b : Bool) → list_any test xs ≡ true → (b || list_any test xs) ≡ true
    by_test true h = refl
    by_test false h = h

-- the number of the first that passes, where all that pass have the same one
pub found_number : (test : Inst → Bool) (xs : List Inst) (s : ℕ) → ((j : ℕ) (y : Inst) → slice_get xs j ≡ Some y → test y ≡ true → operand y 2 ≡ s) → (j : ℕ) (x : Inst) → slice_get xs j ≡ Some x → test x ≡ true → option_map (λ z. operand z 2) (find test xs) ≡ Some s
found_number test [] s h j x e t = absurd (cc)
found_number test (y ∷ xs) s h zero x e t =
    ap (λ b. option_map (λ z. operand z 2) (cond b (Some y) (find test xs))) passes ∙ ap Some (h 0 y refl passes)
  where
    passes : test y ≡ true
    passes = ap test (inj e) ∙ t
found_number test (y ∷ xs) s h (suc j) x e t = by_test (test y) refl (found_number test xs s (λ k z. h (suc k) z) j x e t)
  where
    by_test : (b : Bool) → test y ≡ b → option_map (λ z. operand z 2) (find test xs) ≡ Some s → option_map (λ z. operand z 2) (cond b (Some y) (find test xs)) ≡ Some s
    by_test true passes rest = ap Some (h 0 y refl passes)
    by_test false other rest = rest

-- ---- how many pass

count_more : (test : Inst → Bool) (x : Inst) (xs : List Inst) → count_by test (x ∷ xs) ≡ cond (test x) 1 0 + count_by test xs
count_more test x xs = sum_by-cons (λ y. cond (test y) 1 0) x xs

count_none : (test : Inst → Bool) (xs : List Inst) → ((j : ℕ) (y : Inst) → slice_get xs j ≡ Some y → test y ≡ false) → count_by test xs ≡ 0
count_none test [] h = refl
count_none test (x ∷ xs) h =
    let more = count_more test x xs in
    let other = ap {B = ℕ} (λ b. cond b 1 0) (h 0 x refl) in
    let rest = count_none test xs (λ j y. h (suc j) y) in
    omega (arith, more, other, rest)

pub at_most_one : (test : Inst → Bool) (xs : List Inst) → ((i j : ℕ) (x y : Inst) → slice_get xs i ≡ Some x → slice_get xs j ≡ Some y → test x ≡ true → test y ≡ true → i ≡ j) → count_by test xs < 2
at_most_one test [] h = omega arith
at_most_one test (x ∷ xs) h = by_test (test x) refl (at_most_one test xs (λ i j y z e f t u. lower i j (h (suc i) (suc j) y z e f t u)))
  where
    lower : (i j : ℕ) → suc i ≡ suc j → i ≡ j
    lower i j e = omega (arith, e)

    none : test x ≡ true → (j : ℕ) (y : Inst) → slice_get xs j ≡ Some y → test y ≡ false
    none t j y e = by_other (test y) refl
      where
        by_other : (b : Bool) → test y ≡ b → b ≡ false
        by_other true u = absurd (let clash : 0 ≡ suc j = h 0 (suc j) x y refl e t u in omega (arith, clash))
        by_other false u = refl

    by_test : (b : Bool) → test x ≡ b → count_by test xs < 2 → count_by test (x ∷ xs) < 2
    by_test true t rest =
        let more = count_more test x xs in
        let one = ap {B = ℕ} (λ b. cond b 1 0) t in
        let others = count_none test xs (none t) in
        omega (arith, more, one, others)
    by_test false t rest =
        let more = count_more test x xs in
        let no = ap {B = ℕ} (λ b. cond b 1 0) t in
        omega (arith, more, no, rest)

-- ---- what is gathered of a member is there

behind : {A : Type 0} (a b : List A) (i : ℕ) (d : A) → slice_get b i ≡ Some d → (k : ℕ) × (slice_get (a ++ b) k ≡ Some d)
behind [] b i d e = (i, e)
behind (x ∷ a) b i d e = let (k, f) = behind a b i d e in (suc k, f)

pub gathered : (f : Inst → List (List ℕ)) (xs : List Inst) (j : ℕ) (x : Inst) (d : List ℕ) → slice_get xs j ≡ Some x → f x ≡ d ∷ [] → (k : ℕ) × (slice_get (gather f xs) k ≡ Some d)
gathered f [] j x d e g = absurd (cc)
gathered f (y ∷ xs) zero x d e g =
    (0, ap (λ zs. slice_get (zs ++ gather f xs) 0) (ap f (inj e) ∙ g))
gathered f (y ∷ xs) (suc j) x d e g =
    let (k, h) = gathered f xs j x d e g in
    behind (f y) (gather f xs) k d h

-- a decoration of an id that has a number
pub record Numbered (id kind : ℕ) (x : Inst) : Type 0 where
  pub number : ℕ
  pub more : List ℕ
  pub is : decorates id x ≡ (kind ∷ number ∷ more) ∷ []
  pub number_is : operand x 2 ≡ number

eq_told : (a b : ℕ) → (a == b) ≡ true → a ≡ b
eq_told a b e = grind arith

both_so : (a b : Bool) → (a && b) ≡ true → (a ≡ true) × (b ≡ true)
both_so true b e = (refl, e)
both_so false b e = absurd (true_false (sym e))

is_inst : (x : Inst) (n : ℕ) (ops : List ℕ) → x.opcode ≡ n → x.operands ≡ ops → x ≡ inst n ops
is_inst x n ops e f = ap (λ m. inst m x.operands) e ∙ ap (inst n) f

pub numbered : (id kind : ℕ) (x : Inst) → is_numbered id kind x ≡ true → Numbered id kind x
unfolding is_numbered is_decoration
numbered id kind x t = by_operands x.opcode x.operands refl refl t
  where
    by_operands : (o : ℕ) (ops : List ℕ) → x.opcode ≡ o → x.operands ≡ ops → (((o == 71) && ((operand (record { opcode = o; operands = ops }) 0 == id) && (operand (record { opcode = o; operands = ops }) 1 == kind))) && nat_lt 2 (length ops)) ≡ true → Numbered id kind x
    by_operands o [] e f t = absurd (let two = both_so _ _ t in true_false (sym two.1))
    by_operands o (a ∷ []) e f t = absurd (let two = both_so _ _ t in true_false (sym two.1))
    by_operands o (a ∷ b ∷ []) e f t = absurd (let two = both_so _ _ t in true_false (sym two.1))
    by_operands o (a ∷ b ∷ c ∷ more) e f t =
        let two = both_so _ _ t in
        let parts = both_so _ _ two.0 in
        let ids = both_so _ _ parts.1 in
        let is_71 : o ≡ 71 = eq_told o 71 parts.0 in
        let is_id : a ≡ id = eq_told a id ids.0 in
        let is_kind : b ≡ kind = eq_told b kind ids.1 in
        let same : x ≡ inst 71 (id ∷ kind ∷ c ∷ more) = is_inst x 71 (id ∷ kind ∷ c ∷ more) (e ∙ is_71) (f ∙ ap (λ n. n ∷ b ∷ c ∷ more) is_id ∙ ap (λ n. id ∷ n ∷ c ∷ more) is_kind) in
        record {
          number = c;
          more = more;
          is = ap (decorates id) same ∙ if_so (nat_eq id id) (eq_same id) _ _;
          number_is = ap (λ z. operand z 2) same;
        }
