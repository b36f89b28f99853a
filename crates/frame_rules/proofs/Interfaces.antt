-- The entry point lists each variable of its version once.
use Rattle.std.proofs.Common.{◌≡◌, ℕ, zero, suc, ◌+◌, ◌<◌, Bool, true, false, not, cond, ne_eqb, List, [], ◌∷◌, length, Some, None, refl, ap, ◌∙◌, subst, arith}
use Rattle.std.proofs.lemmas.List.Sums.{sum_by-cons}
use Rattle.std.specs.Prelude.{◌==◌, ◌&&◌, ◌||◌, nat_lt, slice_get, drop, count_by, option_map, if◌then◌else◌}
use Rattle.std.specs.List.{list_all}
use Rattle.std.specs.Option.{option_map_or}
use Rattle.dxil_form.specs.declared.program.Program.{Program}
use Rattle.spv_form.specs.declared.module.Inst.{Inst}
use Rattle.spv_form.specs.declared.module.Version.{Version}
use Rattle.spv_form.specs.declared.module.Version.TheVariants.{V13, V16}
use Rattle.spv_form.specs.Operands.{has_zero, string_last}
use Rattle.spv_ids.specs.Roles.{operand}
use Rattle.module_rules.specs.Entry as entry
use Rattle.module_rules.specs.Entry.{is_listed_variable}
use Rattle.spirv_code.specs.declared.key.Sort.TheVariants as sort
use Rattle.spirv_code.specs.declared.key.Global.{Global}
use Rattle.spirv_code.specs.declared.key.Global.TheVariants.{Plain, Pointer, Number, Truth, Input, Buffer, Shared}
use Rattle.spirv_code.specs.Keys.{storage_class}
use Rattle.spirv_code.specs.Plans.{Plan, inst, table_from}
use Rattle.spirv_code.specs.Frame.{rowed, buffer_storage, words_declaration, declaration, interface, is_listed, entry_point}
use Rattle.frame_facts.proofs.Searches.{eq_same, inj, if_so}

-- ---- the ids that an interface lists

count_more : (q id : ℕ) (ids : List ℕ) → count_by (λ i. i == q) (id ∷ ids) ≡ cond (id == q) 1 0 + count_by (λ i. i == q) ids
count_more q id ids = sum_by-cons (λ i. cond (i == q) 1 0) id ids

-- none below the first one
count_low : (v : Version) (n : ℕ) (table : List Global) (q : ℕ) → q < n → count_by (λ id. id == q) (interface v n table) ≡ 0
count_low v n [] q low = refl
count_low v n (g ∷ table) q low = by_test (is_listed v g) (count_low v (suc n) table q (omega (arith, low)))
  where
    by_test : (b : Bool) → count_by (λ id. id == q) (interface v (suc n) table) ≡ 0 → count_by (λ id. id == q) (if b then n ∷ interface v (suc n) table else interface v (suc n) table) ≡ 0
    by_test true rest =
        let more = count_more q n (interface v (suc n) table) in
        let other = ap {B = ℕ} (λ b. cond b 1 0) (ne_eqb n q (λ e. absurd (omega (arith, e, low)))) in
        omega (arith, more, other, rest)
    by_test false rest = rest

pub count_once : (v : Version) (n : ℕ) (table : List Global) (k : ℕ) (g : Global) → slice_get table k ≡ Some g → is_listed v g ≡ true → count_by (λ id. id == n + k) (interface v n table) ≡ 1
count_once v n [] k g e h = absurd (cc)
count_once v n (x ∷ table) zero g e h =
    let q : ℕ = n + 0 in
    let here : is_listed v x ≡ true = ap (is_listed v) (inj e) ∙ h in
    let more = count_more q n (interface v (suc n) table) in
    let same : n ≡ q = omega arith in
    let one = ap {B = ℕ} (λ b. cond b 1 0) (subst (λ m. (n == m) ≡ true) same (eq_same n)) in
    let rest = count_low v (suc n) table q (omega arith) in
    let sum : count_by (λ id. id == q) (n ∷ interface v (suc n) table) ≡ 1 = omega (arith, more, one, rest) in
    ap (count_by (λ id. id == q)) (if_so (is_listed v x) here _ _) ∙ sum
count_once v n (x ∷ table) (suc k) g e h =
    let same : suc n + k ≡ n + suc k = omega arith in
    by_test (is_listed v x) (subst (λ m. count_by (λ id. id == m) (interface v (suc n) table) ≡ 1) same (count_once v (suc n) table k g e h))
  where
    q : ℕ
    q = n + suc k

    by_test : (b : Bool) → count_by (λ id. id == q) (interface v (suc n) table) ≡ 1 → count_by (λ id. id == q) (if b then n ∷ interface v (suc n) table else interface v (suc n) table) ≡ 1
    by_test true rest =
        let more = count_more q n (interface v (suc n) table) in
        let other = ap {B = ℕ} (λ b. cond b 1 0) (ne_eqb n q (λ e. absurd (omega (arith, e)))) in
        omega (arith, more, other, rest)
    by_test false rest = rest

-- what holds of each id that is listed holds of all
pub all_listed : (test : ℕ → Bool) (v : Version) (n : ℕ) (table : List Global) → ((k : ℕ) (g : Global) → slice_get table k ≡ Some g → is_listed v g ≡ true → test (n + k) ≡ true) → list_all test (interface v n table) ≡ true
all_listed test v n [] h = refl
all_listed test v n (g ∷ table) h =
    by_test (is_listed v g) refl (all_listed test v (suc n) table (λ k x e t. let same : n + suc k ≡ suc n + k = omega arith in subst (λ m. test m ≡ true) same (h (suc k) x e t)))
  where
    by_test : (b : Bool) → is_listed v g ≡ b → list_all test (interface v (suc n) table) ≡ true → list_all test (if b then n ∷ interface v (suc n) table else interface v (suc n) table) ≡ true
    by_test true t rest =
        let same : n + 0 ≡ n = omega arith in
        ap (λ b. b && list_all test (interface v (suc n) table)) (subst (λ m. test m ≡ true) same (h 0 g refl t)) ∙ rest
    by_test false t rest = rest

-- ---- the entry point's words

-- the name ends in the fourth word, and the interface stands behind it
pub interface_is : (v : Version) (plan : Plan) → entry.interface (entry_point v plan) ≡ interface v (table_from plan) plan.table
unfolding entry.interface has_zero
interface_is v plan = ap (λ o. option_map_or (λ last. drop (last + 1) (5 ∷ 1 ∷ 0x6E69_616D ∷ 0 ∷ ids)) o []) last_is
  where
    ids : List ℕ
    ids = interface v (table_from plan) plan.table

    longer : (n : ℕ) → nat_lt 1 (suc (suc n)) ≡ true
    longer n = grind arith

    last_is : string_last (5 ∷ 1 ∷ 0x6E69_616D ∷ 0 ∷ ids) 2 ≡ Some 3
    last_is = ap (λ t. option_map (λ k. 2 + k) (cond t (Some 1) None)) (longer (length ids))

-- ---- the variables

-- the variable is listed once, or need not be
abbrev pub once : Version → List ℕ → Inst → Bool
once v ids y = not (is_listed_variable v y) || count_by (λ id. id == operand y 1) ids == 1

pub other_once : (v : Version) (ids : List ℕ) (y : Inst) → (y.opcode == 59) ≡ false → once v ids y ≡ true
other_once V16 ids y other = ap (λ b. not (b && not (operand y 2 == 7)) || count_by (λ id. id == operand y 1) ids == 1) other
other_once V13 ids y other = ap (λ b. not (b && operand y 2 == 1) || count_by (λ id. id == operand y 1) ids == 1) other

pub local_once : (v : Version) (ids : List ℕ) (type id start : ℕ) → once v ids (inst 59 (type ∷ id ∷ 7 ∷ start ∷ [])) ≡ true
local_once V16 ids type id start = refl
local_once V13 ids type id start = refl

-- a key's variable is listed exactly where the key is
listed_same : (v : Version) (p : Program) (key : Global → ℕ) (id : ℕ) (g : Global) → is_listed_variable v (declaration p key id g) ≡ is_listed v g
listed_same V16 p key id (Plain sort.Int) = refl
listed_same V16 p key id (Plain sort.Bool) = refl
listed_same V16 p key id (Plain sort.Triple) = refl
listed_same V16 p key id (Plain sort.Row) = refl
listed_same V16 p key id (Plain (sort.Words r)) = by_rows (rowed p r)
  where
    by_rows : (b : Bool) → is_listed_variable V16 (words_declaration p key id b r) ≡ false
    by_rows true = refl
    by_rows false = refl
listed_same V16 p key id (Plain (sort.Block r)) = refl
listed_same V16 p key id (Plain (sort.Array a)) = refl
listed_same V16 p key id (Pointer s to) = refl
listed_same V16 p key id (Number n) = refl
listed_same V16 p key id (Truth true) = refl
listed_same V16 p key id (Truth false) = refl
listed_same V16 p key id (Input b) = refl
listed_same V16 p key id (Buffer r) = by_rows (rowed p r)
  where
    by_rows : (b : Bool) → not (storage_class (buffer_storage b) == 7) ≡ true
    by_rows true = refl
    by_rows false = refl
listed_same V16 p key id (Shared a) = refl
listed_same V13 p key id (Plain sort.Int) = refl
listed_same V13 p key id (Plain sort.Bool) = refl
listed_same V13 p key id (Plain sort.Triple) = refl
listed_same V13 p key id (Plain sort.Row) = refl
listed_same V13 p key id (Plain (sort.Words r)) = by_rows (rowed p r)
  where
    by_rows : (b : Bool) → is_listed_variable V13 (words_declaration p key id b r) ≡ false
    by_rows true = refl
    by_rows false = refl
listed_same V13 p key id (Plain (sort.Block r)) = refl
listed_same V13 p key id (Plain (sort.Array a)) = refl
listed_same V13 p key id (Pointer s to) = refl
listed_same V13 p key id (Number n) = refl
listed_same V13 p key id (Truth true) = refl
listed_same V13 p key id (Truth false) = refl
listed_same V13 p key id (Input b) = refl
listed_same V13 p key id (Buffer r) = by_rows (rowed p r)
  where
    by_rows : (b : Bool) → (storage_class (buffer_storage b) == 1) ≡ false
    by_rows true = refl
    by_rows false = refl
listed_same V13 p key id (Shared a) = refl

-- a variable outside the function has its id behind its type
second_is : (v : Version) (p : Program) (key : Global → ℕ) (id : ℕ) (g : Global) → is_listed v g ≡ true → operand (declaration p key id g) 1 ≡ id
second_is v p key id (Plain s) t = absurd (plain v s t)
  where
    plain : (v : Version) (s : _) → is_listed v (Plain s) ≡ true → ⊥
    plain V16 s t = cc
    plain V13 s t = cc
second_is v p key id (Input b) t = refl
second_is v p key id (Buffer r) t = refl
second_is v p key id (Shared a) t = refl
second_is V16 p key id (Pointer s to) t = absurd (cc)
second_is V13 p key id (Pointer s to) t = absurd (cc)
second_is V16 p key id (Number n) t = absurd (cc)
second_is V13 p key id (Number n) t = absurd (cc)
second_is V16 p key id (Truth b) t = absurd (cc)
second_is V13 p key id (Truth b) t = absurd (cc)

pub key_once : (v : Version) (p : Program) (key : Global → ℕ) (n : ℕ) (table : List Global) (k : ℕ) (g : Global) → slice_get table k ≡ Some g → once v (interface v n table) (declaration p key (n + k) g) ≡ true
key_once v p key n table k g e = by_test (is_listed v g) refl
  where
    y : Inst
    y = declaration p key (n + k) g

    ids : List ℕ
    ids = interface v n table

    or_second : (a b : Bool) → b ≡ true → (a || b) ≡ true
    or_second true b e = refl
    or_second false b e = e

    by_test : (b : Bool) → is_listed v g ≡ b → once v ids y ≡ true
    by_test false t = ap (λ b. not b || count_by (λ id. id == operand y 1) ids == 1) (listed_same v p key (n + k) g ∙ t)
    by_test true t =
        let place = second_is v p key (n + k) g t in
        let one = ap (λ m. count_by (λ id. id == m) ids) place ∙ count_once v n table k g e t in
        or_second (not (is_listed_variable v y)) (count_by (λ id. id == operand y 1) ids == 1) (ap (λ m. m == 1) one)

-- at version 1.3 only inputs are listed
pub input_listed : (p : Program) (key : Global → ℕ) (id : ℕ) (g : Global) → is_listed V13 g ≡ true → is_listed_variable V13 (declaration p key id g) ≡ true
input_listed p key id g t = listed_same V13 p key id g ∙ t
