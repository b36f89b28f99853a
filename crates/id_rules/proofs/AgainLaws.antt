-- Types that are as their opcodes say, and whose keys are the same, have the same operands behind their results.
use Rattle.std.proofs.Common.{ℕ, ◌≡◌, ◌+◌, ◌<◌, ◌≤◌, ◌&&◌, ◌||◌, ◌↔◌, ◌⊎◌, inl, inr, IsTrue, refl, sym, ap, subst, ◌∙◌, arith, List, [], ◌∷◌, length, drop, take, get_or, slice_get, Option, Some, None, Bool, true, false, eqb, leb}
use Rattle.std.proofs.lemmas.Bool.{eqb-true, eq-eqb, cases_lt}
use Rattle.std.proofs.lemmas.Grind.{common_steps}
use Rattle.std.proofs.lemmas.List.Folds.{list_any_at}
use Rattle.std.proofs.lemmas.List.Quantifiers.{position-Some}
use Rattle.std.proofs.lemmas.Option.{slice_get-get_or, slice_get_within, same_Some}
use Rattle.std.specs.List.{position}
use Rattle.spv_form.specs.declared.shape.Shape.{Shape}
use Rattle.spv_form.specs.declared.shape.Shape.TheVariants.{Plain}
use Rattle.spv_form.specs.declared.module.Inst.{Inst}
use Rattle.spv_form.specs.Formed.{IsFormedInst}
use Rattle.spv_form.specs.Operands.{fits, is_id}
use Rattle.spv_form.specs.Shapes.{shape_of}
use Rattle.spv_ids.specs.Roles.{operand}
use Rattle.spv_ids.specs.Places.{is_before, stands_before}
use Rattle.spv_ids.proofs.PlaceLaws.{any_before, nothing}
use Rattle.type_rules.specs.Types.{is_listed, is_void}
use Rattle.id_rules.specs.Again.{is_single, has_key, key_of, is_key_before, IsDeclaredAgain, AreFormed}

-- ---- how many operands
and_parts : (a b : Bool) → (a && b) ≡ true → (a ≡ true) × (b ≡ true)
and_parts true b e = (refl, e)
and_parts false b e = cc

sized : (bound : ℕ) (x : Inst) (least most numbers : ℕ) → IsFormedInst bound x → shape_of x.opcode ≡ Some (Plain false true least most numbers) → (least + 1 ≤ length x.operands) × (length x.operands ≤ most + 1)
sized bound x least most numbers f e =
    let same : f.shape ≡ Plain false true least most numbers = (let l = f.listed in cc) in
    let fit : fits (Plain false true least most numbers) x.operands ≡ true = subst (λ (s : Shape). fits s x.operands ≡ true) same f.fits in
    let parts = and_parts (leb (1 + least) (length x.operands)) (leb (length x.operands) (1 + most)) fit in
    (grind arith, grind arith)

id_there : (bound : ℕ) (x : Inst) (least most numbers at : ℕ) → IsFormedInst bound x → shape_of x.opcode ≡ Some (Plain false true least most numbers) → at < length x.operands → is_id (Plain false true least most numbers) x.operands at ≡ true → 0 < operand x at
id_there bound x least most numbers at f e h i =
    let same : f.shape ≡ Plain false true least most numbers = (let l = f.listed in cc) in
    (f.ids at h (subst (λ (s : Shape). is_id s x.operands at ≡ true) (sym same) i)).0

-- the opcodes of such types
pub data Single (op : ℕ) : Type 0 where
  one : (op ≡ 19) ⊎ (op ≡ 20) → Single op
  three : (op ≡ 21) ⊎ ((op ≡ 23) ⊎ (op ≡ 32)) → Single op
  function : op ≡ 33 → Single op

single : (op : ℕ) → is_single op ≡ true → Single op
single op h = cases (eqb op 19) (eqb op 20) (eqb op 21) (eqb op 23) (eqb op 32) (eqb op 33) refl refl refl refl refl refl h where
  cases : (a b c d e f : Bool) → eqb op 19 ≡ a → eqb op 20 ≡ b → eqb op 21 ≡ c → eqb op 23 ≡ d → eqb op 32 ≡ e → eqb op 33 ≡ f → (a || b || c || d || e || f) ≡ true → Single op
  cases true b c d e f p q r s t u g = Single.one (inl (eqb-true op 19 p))
  cases false true c d e f p q r s t u g = Single.one (inr (eqb-true op 20 q))
  cases false false true d e f p q r s t u g = Single.three (inl (eqb-true op 21 r))
  cases false false false true e f p q r s t u g = Single.three (inr (inl (eqb-true op 23 s)))
  cases false false false false true f p q r s t u g = Single.three (inr (inr (eqb-true op 32 t)))
  cases false false false false false true p q r s t u g = Single.function (eqb-true op 33 u)
  cases false false false false false false p q r s t u g = cc

one_long : (bound : ℕ) (x : Inst) → IsFormedInst bound x → (x.opcode ≡ 19) ⊎ (x.opcode ≡ 20) → length x.operands ≡ 1
unfolding shape_of
one_long bound x f (inl e) = let s = sized bound x 0 0 0 f (rw e refl) in omega arith
one_long bound x f (inr e) = let s = sized bound x 0 0 0 f (rw e refl) in omega arith

three_long : (bound : ℕ) (x : Inst) → IsFormedInst bound x → (x.opcode ≡ 21) ⊎ ((x.opcode ≡ 23) ⊎ (x.opcode ≡ 32)) → length x.operands ≡ 3
unfolding shape_of
three_long bound x f (inl e) = let s = sized bound x 2 2 3 f (rw e refl) in omega arith
three_long bound x f (inr (inl e)) = let s = sized bound x 2 2 2 f (rw e refl) in omega arith
three_long bound x f (inr (inr e)) = let s = sized bound x 2 2 1 f (rw e refl) in omega arith

-- a function type without parameters, and another whose first two operands are the same
two_long : (insts : List Inst) (x : Inst) → x.opcode ≡ 33 → is_listed insts x ≡ true → length x.operands ≡ 2
unfolding is_listed
two_long insts x e listed =
    let at_33 : (eqb (length x.operands) 2 && is_void insts (operand x 1)) ≡ true = rw e at listed in
    eqb-true (length x.operands) 2 (and_parts (eqb (length x.operands) 2) (is_void insts (operand x 1)) at_33).0

function_shape : (x : Inst) → x.opcode ≡ 33 → shape_of x.opcode ≡ Some (Plain false true 0 65535 0)
unfolding shape_of
function_shape x e = rw e refl

past : (xs : List ℕ) (k : ℕ) → length xs ≤ k → get_or xs k 0 ≡ 0
past xs k h = grind (arith, common_steps)

as_long : (b c : ℕ) (x y : Inst) → IsFormedInst b x → IsFormedInst c y → x.opcode ≡ 33 → y.opcode ≡ 33 → length x.operands ≡ 2 → operand y 1 ≡ operand x 1 → operand y 2 ≡ operand x 2 → length y.operands ≡ 2
as_long b c x y f g e h long first second = elim (cases_lt (length y.operands) 2) [
  | inl short ↦
      let id = id_there b x 0 65535 0 1 f (function_shape x e) (omega arith) refl in
      let none = past y.operands 1 (omega arith) in
      absurd (omega (arith, id, none, first))
  | inr enough ↦ elim (cases_lt 2 (length y.operands)) [
    | inl longer ↦
        let id = id_there c y 0 65535 0 2 g (function_shape y h) longer refl in
        let none = past x.operands 2 (omega arith) in
        absurd (omega (arith, id, none, second))
    | inr not_longer ↦ omega arith
  ]
]

lengths : (insts : List Inst) (b c : ℕ) (x y : Inst) → IsFormedInst b x → IsFormedInst c y → Single x.opcode → y.opcode ≡ x.opcode → is_listed insts x ≡ true → operand y 1 ≡ operand x 1 → operand y 2 ≡ operand x 2
    → (length y.operands ≡ length x.operands) × (length x.operands ≤ 3)
lengths insts b c x y f g (Single.one o) same listed first second =
    let m = one_long b x f o in
    let n = one_long c y g (subst (λ (k : ℕ). (k ≡ 19) ⊎ (k ≡ 20)) (sym same) o) in
    (omega arith, omega arith)
lengths insts b c x y f g (Single.three o) same listed first second =
    let m = three_long b x f o in
    let n = three_long c y g (subst (λ (k : ℕ). (k ≡ 21) ⊎ ((k ≡ 23) ⊎ (k ≡ 32))) (sym same) o) in
    (omega arith, omega arith)
lengths insts b c x y f g (Single.function o) same listed first second =
    let m = two_long insts x o listed in
    let n = as_long b c x y f g o (same ∙ o) m first second in
    (omega arith, omega arith)

-- ---- the operands
same_rest : (xs ys : List ℕ) → length xs ≡ length ys → length ys ≤ 3 → get_or xs 1 0 ≡ get_or ys 1 0 → get_or xs 2 0 ≡ get_or ys 2 0 → drop 1 xs ≡ drop 1 ys
same_rest [] [] l h p q = refl
same_rest [] (y ∷ ys) l h p q = absurd (omega arith)
same_rest (x ∷ xs) [] l h p q = absurd (omega arith)
same_rest (x ∷ []) (y ∷ []) l h p q = refl
same_rest (x ∷ []) (y ∷ w ∷ ys) l h p q = absurd (omega arith)
same_rest (x ∷ v ∷ xs) (y ∷ []) l h p q = absurd (omega arith)
same_rest (x ∷ v ∷ []) (y ∷ w ∷ []) l h p q = ap (λ k. k ∷ []) p
same_rest (x ∷ v ∷ []) (y ∷ w ∷ b ∷ ys) l h p q = absurd (omega arith)
same_rest (x ∷ v ∷ a ∷ xs) (y ∷ w ∷ []) l h p q = absurd (omega arith)
same_rest (x ∷ v ∷ a ∷ []) (y ∷ w ∷ b ∷ []) l h p q = let e : v ≡ w = p in let f : a ≡ b = q in cc
same_rest (x ∷ v ∷ a ∷ c ∷ xs) (y ∷ w ∷ b ∷ ys) l h p q = absurd (omega arith)
same_rest (x ∷ v ∷ a ∷ []) (y ∷ w ∷ b ∷ d ∷ ys) l h p q = absurd (omega arith)

behind_first : (xs : List ℕ) (k : ℕ) → get_or (drop 1 xs) k 0 ≡ get_or xs (k + 1) 0
behind_first xs k = grind (arith, common_steps)

-- ---- the rule
key_parts : (x y : Inst) → has_key (key_of x) y ≡ true → (y.opcode ≡ x.opcode) × (operand y 1 ≡ operand x 1) × (operand y 2 ≡ operand x 2)
unfolding has_key
key_parts x y h =
    let f = and_parts (is_single y.opcode) _ h in
    let g = and_parts (eqb y.opcode x.opcode) _ f.1 in
    let k = and_parts (eqb (operand y 1) (operand x 1)) (eqb (operand y 2) (operand x 2)) g.1 in
    (eqb-true y.opcode x.opcode g.0, eqb-true (operand y 1) (operand x 1) k.0, eqb-true (operand y 2) (operand x 2) k.1)

key_is : (x y : Inst) → is_single x.opcode ≡ true → y.opcode ≡ x.opcode → operand y 1 ≡ operand x 1 → operand y 2 ≡ operand x 2 → has_key (key_of x) y ≡ true
unfolding has_key
key_is x y s e f g =
    let single_is : is_single y.opcode ≡ true = subst (λ (k : ℕ). is_single k ≡ true) (sym e) s in
    let a = eq-eqb y.opcode x.opcode e in
    let b = eq-eqb (operand y 1) (operand x 1) f in
    let c = eq-eqb (operand y 2) (operand x 2) g in
    rw (single_is, a, b, c) refl

before_some : (o : Option ℕ) (at : ℕ) → is_before at o ≡ true → (j : ℕ) × (o ≡ Some j) × (j < at)
before_some None at e = absurd cc
before_some (Some j) at e = (j, refl, grind arith)

module _ (insts : List Inst) (at : ℕ) (x : Inst) (f : AreFormed insts) (there : slice_get insts at ≡ Some x) (listed : is_listed insts x ≡ true) where
  formed_at : (j : ℕ) (y : Inst) → slice_get insts j ≡ Some y → IsFormedInst f.bound y
  formed_at j y e =
      let within = slice_get_within insts j y e in
      let same : get_or insts j nothing ≡ y = same_Some (get_or insts j nothing) y (sym (slice_get-get_or insts j nothing within) ∙ e) in
      subst (IsFormedInst f.bound) same (f.all j nothing within)

  declared : is_key_before insts at x ≡ true → IsDeclaredAgain insts at x
  unfolding is_key_before
  declared h =
      let parts = and_parts (is_single x.opcode) (stands_before (has_key (key_of x)) insts at) h in
      let place = before_some (position (has_key (key_of x)) insts) at (sym (any_before (has_key (key_of x)) insts at) ∙ parts.1) in
      let first = position-Some (has_key (key_of x)) insts place.0 nothing place.1 in
      let y : Inst = get_or insts place.0 nothing in
      let y_there : slice_get insts place.0 ≡ Some y = slice_get-get_or insts place.0 nothing first.0 in
      let key = key_parts x y first.1 in
      let size = lengths insts f.bound f.bound x y (formed_at at x there) (formed_at place.0 y y_there) (single x.opcode parts.0) key.0 listed key.1 key.2 in
      record {
        single = parts.0;
        place = place.0;
        other = y;
        there = y_there;
        before = place.2;
        same_opcode = key.0;
        same_operands = same_rest y.operands x.operands size.0 size.1 key.1 key.2;
      }

  found : IsDeclaredAgain insts at x → is_key_before insts at x ≡ true
  unfolding is_key_before
  found d =
      let within = slice_get_within insts d.place d.other d.there in
      let same : get_or insts d.place nothing ≡ d.other = same_Some (get_or insts d.place nothing) d.other (sym (slice_get-get_or insts d.place nothing within) ∙ d.there) in
      let first : operand d.other 1 ≡ operand x 1 = sym (behind_first d.other.operands 0) ∙ ap (λ l. get_or l 0 0) d.same_operands ∙ behind_first x.operands 0 in
      let second : operand d.other 2 ≡ operand x 2 = sym (behind_first d.other.operands 1) ∙ ap (λ l. get_or l 1 0) d.same_operands ∙ behind_first x.operands 1 in
      let key = key_is x d.other d.single d.same_opcode first second in
      let short : d.place < length (take at insts) = (let b = d.before in grind (arith, common_steps)) in
      let at_place : get_or (take at insts) d.place nothing ≡ d.other = (let b = d.before in grind (arith, common_steps)) in
      let stands = list_any_at (has_key (key_of x)) (take at insts) d.place nothing short (ap (has_key (key_of x)) at_place ∙ key) in
      let s = d.single in
      rw (s, stands) refl

  pub again : IsTrue (is_key_before insts at x) ↔ IsDeclaredAgain insts at x
  again = (declared, found)
