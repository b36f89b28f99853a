-- A table has the integer type once at most.
use Rattle.std.proofs.Common.{◌≡◌, ◌⊎◌, ℕ, suc, ◌+◌, ◌≤◌, Bool, true, false, List, [], ◌∷◌, ◌++◌, refl, ap, ◌∙◌, subst, arith, inl, inr}
use Rattle.std.specs.Prelude.{◌||◌, if◌then◌else◌}
use Rattle.dxil_form.specs.declared.program.Program.{Program}
use Rattle.spirv_code.specs.declared.key.Sort.TheVariants as sort
use Rattle.spirv_code.specs.declared.key.Global.{Global}
use Rattle.spirv_code.specs.declared.key.Global.TheVariants.{Plain, Pointer, Number, Truth, Input, Buffer, Shared}
use Rattle.spirv_code.specs.Keys.{same_global, has_key, add_key}
use Rattle.spirv_code.specs.Needed.{whole, add_each, add_whole, add_all}
use Rattle.spirv_code.specs.Frame.{rowed, declaration, declarations, words_declaration}
use Rattle.module_form.specs.Form.{gather, with_opcode}

-- one for the integer type, and zero for any other key
abbrev one_int : Global → ℕ
one_int (Plain sort.Int) = 1
one_int (Plain sort.Bool) = 0
one_int (Plain sort.Triple) = 0
one_int (Plain sort.Row) = 0
one_int (Plain (sort.Words r)) = 0
one_int (Plain (sort.Block r)) = 0
one_int (Plain (sort.Array a)) = 0
one_int (Pointer s to) = 0
one_int (Number n) = 0
one_int (Truth b) = 0
one_int (Input b) = 0
one_int (Buffer r) = 0
one_int (Shared a) = 0

abbrev pub ints : List Global → ℕ
ints [] = 0
ints (g ∷ table) = one_int g + ints table

ints_append : (a : List Global) (g : Global) → ints (a ++ g ∷ []) ≡ ints a + one_int g
ints_append [] g = omega arith
ints_append (h ∷ a) g = let rest = ints_append a g in omega (arith, rest)

-- what is told apart from the integer type counts nothing
other_int : (g : Global) → same_global (Plain sort.Int) g ≡ false → one_int g ≡ 0
other_int (Plain sort.Int) e = absurd (cc e)
other_int (Plain sort.Bool) e = refl
other_int (Plain sort.Triple) e = refl
other_int (Plain sort.Row) e = refl
other_int (Plain (sort.Words r)) e = refl
other_int (Plain (sort.Block r)) e = refl
other_int (Plain (sort.Array a)) e = refl
other_int (Pointer s to) e = refl
other_int (Number n) e = refl
other_int (Truth b) e = refl
other_int (Input b) e = refl
other_int (Buffer r) e = refl
other_int (Shared a) e = refl

neither : (a b : Bool) → (a || b) ≡ false → (a ≡ false) × (b ≡ false)
neither false b e = (refl, e)
neither true b e = absurd (cc e)

none_there : (table : List Global) → has_key table (Plain sort.Int) ≡ false → ints table ≡ 0
none_there [] e = refl
none_there (g ∷ table) e =
    let both = neither (same_global (Plain sort.Int) g) (has_key table (Plain sort.Int)) e in
    let here = other_int g both.0 in
    let rest = none_there table both.1 in
    omega (arith, here, rest)

-- a key that is no integer type, or is the integer type
int_or_not : (g : Global) → (g ≡ Plain sort.Int) ⊎ (one_int g ≡ 0)
int_or_not (Plain sort.Int) = inl refl
int_or_not (Plain sort.Bool) = inr refl
int_or_not (Plain sort.Triple) = inr refl
int_or_not (Plain sort.Row) = inr refl
int_or_not (Plain (sort.Words r)) = inr refl
int_or_not (Plain (sort.Block r)) = inr refl
int_or_not (Plain (sort.Array a)) = inr refl
int_or_not (Pointer s to) = inr refl
int_or_not (Number n) = inr refl
int_or_not (Truth b) = inr refl
int_or_not (Input b) = inr refl
int_or_not (Buffer r) = inr refl
int_or_not (Shared a) = inr refl

add_one : (table : List Global) (g : Global) → ints table ≤ 1 → ints (add_key table g) ≤ 1
add_one table g few = by_test (has_key table g) refl
  where
    by_kind : (g ≡ Plain sort.Int) ⊎ (one_int g ≡ 0) → has_key table g ≡ false → ints (table ++ g ∷ []) ≤ 1
    by_kind (inl same) e =
        let none = none_there table (subst (λ x. has_key table x ≡ false) same e) in
        let one : one_int g ≡ 1 = ap one_int same in
        let long = ints_append table g in
        omega (arith, none, one, long)
    by_kind (inr other) e =
        let long = ints_append table g in
        omega (arith, few, other, long)

    by_test : (b : Bool) → has_key table g ≡ b → ints (if b then table else table ++ g ∷ []) ≤ 1
    by_test true e = few
    by_test false e = by_kind (int_or_not g) e

add_each_one : (table gs : List Global) → ints table ≤ 1 → ints (add_each table gs) ≤ 1
add_each_one table [] few = few
add_each_one table (g ∷ gs) few = add_each_one (add_key table g) gs (add_one table g few)

add_whole_one : (p : Program) (table : List Global) (g : Global) → ints table ≤ 1 → ints (add_whole p table g) ≤ 1
add_whole_one p table g few = by_test (has_key table g)
  where
    by_test : (b : Bool) → ints (if b then table else add_each table (whole p g)) ≤ 1
    by_test true = few
    by_test false = add_each_one table (whole p g) few

pub add_all_one : (p : Program) (table gs : List Global) → ints table ≤ 1 → ints (add_all p table gs) ≤ 1
add_all_one p table [] few = few
add_all_one p table (g ∷ gs) few = add_all_one p (add_whole p table g) gs (add_whole_one p table g few)

-- ---- the declarations of integer types

words_none : (p : Program) (ids : Global → ℕ) (id r : ℕ) (b : Bool) → with_opcode 21 (words_declaration p ids id b r) ≡ []
words_none p ids id r true = refl
words_none p ids id r false = refl

other_none : (p : Program) (ids : Global → ℕ) (id : ℕ) (g : Global) → one_int g ≡ 0 → with_opcode 21 (declaration p ids id g) ≡ []
other_none p ids id (Plain sort.Int) e = absurd (omega (arith, e))
other_none p ids id (Plain sort.Bool) e = refl
other_none p ids id (Plain sort.Triple) e = refl
other_none p ids id (Plain sort.Row) e = refl
other_none p ids id (Plain (sort.Words r)) e = words_none p ids id r (rowed p r)
other_none p ids id (Plain (sort.Block r)) e = refl
other_none p ids id (Plain (sort.Array a)) e = refl
other_none p ids id (Pointer s to) e = refl
other_none p ids id (Number n) e = refl
other_none p ids id (Truth true) e = refl
other_none p ids id (Truth false) e = refl
other_none p ids id (Input b) e = refl
other_none p ids id (Buffer r) e = refl
other_none p ids id (Shared a) e = refl

all_none : (p : Program) (ids : Global → ℕ) (n : ℕ) (table : List Global) → ints table ≡ 0 → gather (with_opcode 21) (declarations p ids n table) ≡ []
all_none p ids n [] e = refl
all_none p ids n (g ∷ table) e =
    ap (λ xs. xs ++ gather (with_opcode 21) (declarations p ids (suc n) table)) (other_none p ids n g (omega (arith, e))) ∙ all_none p ids (suc n) table (omega (arith, e))

pub one_or_none : (p : Program) (ids : Global → ℕ) (n : ℕ) (table : List Global) → ints table ≤ 1 → (gather (with_opcode 21) (declarations p ids n table) ≡ []) ⊎ ((id : ℕ) × (gather (with_opcode 21) (declarations p ids n table) ≡ (id ∷ 32 ∷ 0 ∷ []) ∷ []))
one_or_none p ids n [] few = inl refl
one_or_none p ids n (g ∷ table) few = by_kind (int_or_not g) (λ low. one_or_none p ids (suc n) table low)
  where
    rest : List (List ℕ)
    rest = gather (with_opcode 21) (declarations p ids (suc n) table)

    of : Global → List (List ℕ)
    of x = with_opcode 21 (declaration p ids n x) ++ gather (with_opcode 21) (declarations p ids (suc n) table)

    by_rest : one_int g ≡ 0 → (gather (with_opcode 21) (declarations p ids (suc n) table) ≡ []) ⊎ ((id : ℕ) × (gather (with_opcode 21) (declarations p ids (suc n) table) ≡ (id ∷ 32 ∷ 0 ∷ []) ∷ [])) → (gather (with_opcode 21) (declarations p ids n (g ∷ table)) ≡ []) ⊎ ((id : ℕ) × (gather (with_opcode 21) (declarations p ids n (g ∷ table)) ≡ (id ∷ 32 ∷ 0 ∷ []) ∷ []))
    by_rest other (inl none) =
        inl (ap (λ xs. xs ++ gather (with_opcode 21) (declarations p ids (suc n) table)) (other_none p ids n g other) ∙ none)
    by_rest other (inr one) =
        inr (one.0, ap (λ xs. xs ++ gather (with_opcode 21) (declarations p ids (suc n) table)) (other_none p ids n g other) ∙ one.1)

    by_kind : (g ≡ Plain sort.Int) ⊎ (one_int g ≡ 0) → (ints table ≤ 1 → (gather (with_opcode 21) (declarations p ids (suc n) table) ≡ []) ⊎ ((id : ℕ) × (gather (with_opcode 21) (declarations p ids (suc n) table) ≡ (id ∷ 32 ∷ 0 ∷ []) ∷ []))) → (gather (with_opcode 21) (declarations p ids n (g ∷ table)) ≡ []) ⊎ ((id : ℕ) × (gather (with_opcode 21) (declarations p ids n (g ∷ table)) ≡ (id ∷ 32 ∷ 0 ∷ []) ∷ []))
    by_kind (inl same) more =
        let one : one_int g ≡ 1 = ap one_int same in
        let none = all_none p ids (suc n) table (omega (arith, few, one)) in
        inr (n, ap of same ∙ ap (λ xs. (n ∷ 32 ∷ 0 ∷ []) ∷ xs) none)
    by_kind (inr other) more = by_rest other (more (omega (arith, few)))
