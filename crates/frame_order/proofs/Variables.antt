-- The variables behind the first label stand at the head of the first block.
use Rattle.std.proofs.Common.{◌≡◌, ◌⊎◌, ⊎_elim, ℕ, suc, ◌+◌, ◌-◌, ◌<◌, Bool, true, false, not, List, [], ◌∷◌, ◌++◌, length, take, drop, Some, refl, sym, ap, ◌∙◌, arith}
use Rattle.std.specs.Prelude.{◌&&◌, nat_lt, position, slice_get}
use Rattle.std.specs.List.{list_any}
use Rattle.std.specs.Option.{option_map_or}
use Rattle.spv_form.specs.declared.module.Inst.{Inst}
use Rattle.spv_ids.specs.Places.{is_op, stands_before}
use Rattle.order_rules.specs.Once.{is_at_head, is_placed}
use Rattle.spirv_code.specs.Plans.{inst}
use Rattle.spirv_code.specs.Exits.{label_inst}
use Rattle.frame_facts.proofs.Searches.{Each, each_at, get_past}
use Rattle.frame_facts.proofs.Labels.{get_either}
use Rattle.ruled_ids.proofs.Lists.{take_at, some_passes, position_is}

drop_past : (a : List Inst) (x : Inst) (b : List Inst) → drop (length a + 1) (a ++ x ∷ b) ≡ b
drop_past [] x b = refl
drop_past (y ∷ a) x b =
    let next : length (y ∷ a) + 1 ≡ suc (length a + 1) = omega arith in
    ap (λ n. drop n (y ∷ (a ++ x ∷ b))) next ∙ drop_past a x b

below_less : (a b : ℕ) → a < b → nat_lt a b ≡ true
below_less a b h = grind arith

-- nothing but variables stands among the first so many of them
only_variables : (xs ys : List Inst) (k : ℕ) → k < length xs → Each (λ x. is_op 59 x ≡ true) xs → list_any (λ x. not (is_op 59 x)) (take k (xs ++ ys)) ≡ false
only_variables xs ys k low h = by_test (list_any (λ x. not (is_op 59 x)) (take k (xs ++ ys))) refl
  where
    clash : (x : Inst) → is_op 59 x ≡ true → not (is_op 59 x) ≡ true → ⊥
    clash x is other =
        let never : false ≡ true = ap not (sym is) ∙ other in
        cc

    refused : list_any (λ x. not (is_op 59 x)) (take k (xs ++ ys)) ≡ true → ⊥
    refused any =
        let found = some_passes (λ x. not (is_op 59 x)) (take k (xs ++ ys)) any in
        let there = take_at (xs ++ ys) k found.0 found.1.0 found.1.1 in
        let less : found.0 < k = there.0 in
        ⊎_elim (λ e. clash found.1.0 (each_at (λ x. is_op 59 x ≡ true) xs found.0 found.1.0 h e) found.1.2) (λ r. let far = r.1 in omega (arith, less, low, far)) (get_either xs ys found.0 found.1.0 there.1)

    by_test : (b : Bool) → list_any (λ x. not (is_op 59 x)) (take k (xs ++ ys)) ≡ b → b ≡ false
    by_test true any = absurd (refused any)
    by_test false any = refl

first_label : (a : List Inst) (id : ℕ) (b : List Inst) → Each (λ x. is_op 248 x ≡ false) a → position (is_op 248) (a ++ label_inst id ∷ b) ≡ Some (length a)
first_label a id b h = position_is (is_op 248) (a ++ label_inst id ∷ b) (length a) (label_inst id) there refl before
  where
    there : slice_get (a ++ label_inst id ∷ b) (length a) ≡ Some (label_inst id)
    there =
        let same : length a ≡ length a + 0 = omega arith in
        ap (slice_get (a ++ label_inst id ∷ b)) same ∙ get_past a (label_inst id ∷ b) 0

    before : (j : ℕ) (y : Inst) → j < length a → slice_get (a ++ label_inst id ∷ b) j ≡ Some y → is_op 248 y ≡ false
    before j y less e =
        ⊎_elim (λ f. each_at (λ x. is_op 248 x ≡ false) a j y h f) (λ r. absurd (let far = r.1 in omega (arith, less, far))) (get_either a (label_inst id ∷ b) j y e)

pub at_head : (a : List Inst) (id : ℕ) (xs ys : List Inst) (k : ℕ) → Each (λ x. is_op 248 x ≡ false) a → Each (λ x. is_op 59 x ≡ true) xs → k < length xs → is_at_head (a ++ label_inst id ∷ (xs ++ ys)) (length a + suc k) ≡ true
unfolding is_at_head
at_head a id xs ys k h variables low =
    let insts = a ++ label_inst id ∷ (xs ++ ys) in
    let at : ℕ = length a + suc k in
    let less = below_less (length a) at (omega arith) in
    let rest : at - (length a + 1) ≡ k = omega arith in
    let others : stands_before (λ x. not (is_op 59 x)) (drop (length a + 1) insts) (at - (length a + 1)) ≡ false = ap (λ n. list_any (λ x. not (is_op 59 x)) (take n (drop (length a + 1) insts))) rest ∙ ap (λ zs. list_any (λ x. not (is_op 59 x)) (take k zs)) (drop_past a (label_inst id) (xs ++ ys)) ∙ only_variables xs ys k low variables in
    ap (λ o. option_map_or (λ p. nat_lt p at && not (stands_before (λ x. not (is_op 59 x)) (drop (p + 1) insts) (at - (p + 1)))) o false) (first_label a id (xs ++ ys) h) ∙ ap (λ b. b && not (stands_before (λ x. not (is_op 59 x)) (drop (length a + 1) insts) (at - (length a + 1)))) less ∙ ap not others

-- a variable of the function with an initializer
pub local_placed : (insts : List Inst) (at type id start : ℕ) → is_at_head insts at ≡ true → is_placed insts at (inst 59 (type ∷ id ∷ 7 ∷ start ∷ [])) ≡ true
unfolding is_placed
local_placed insts at type id start h = ap (λ b. b && true) h
