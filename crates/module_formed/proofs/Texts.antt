-- The words of a block's name are a string that ends in its last word.
use Rattle.std.proofs.Common.{◌≡◌, ℕ, zero, suc, ◌+◌, ◌*◌, ◌/◌, ◌%◌, ◌<◌, ◌≤◌, Bool, true, false, List, [], ◌∷◌, length, drop, get_or, Option, Some, None, refl, sym, ap, ◌∙◌, subst, arith, ltb-true, lt-ltb, eq-eqb}
use Rattle.std.specs.Prelude.{nat_lt, ◌==◌, ◌&&◌, ◌||◌, not, cond, option_map, if◌then◌else◌}
use Rattle.std.specs.Int.{to_le_bytes, w32}
use Rattle.std.specs.List.{list_any, list_all, position_or_len, after_first}
use Rattle.std.specs.Option.{option_map_or}
use Rattle.spv_form.specs.declared.shape.Shape.TheVariants.{Text}
use Rattle.spv_form.specs.Formed.{IsIdBelow, IsFormedInst}
use Rattle.spv_form.specs.Operands.{has_zero, is_filled, string_last, string_ends, fits, is_id}
use Rattle.spv_form.specs.Shapes.{shape_of}
use Rattle.frame_facts.proofs.Searches.{if_not}
use Rattle.spirv_code.specs.Plans.{inst}
use Rattle.spirv_meaning.specs.Names.{text_words, digits, block_name}

-- the bytes of a text, of which none is zero
abbrev Bytes : List ℕ → Type 0
Bytes [] = Unit {0}
Bytes (x ∷ xs) = (0 < x) × (x < 256) × Bytes xs

abbrev is_zero : ℕ → Bool
is_zero x = x == 0

-- ---- one word

bytes_of : (a b c d : ℕ) → a < 256 → b < 256 → c < 256 → d < 256 → to_le_bytes w32 (a + 256 * b + 65536 * c + 16777216 * d) ≡ a ∷ b ∷ c ∷ d ∷ []
bytes_of a b c d ha hb hc hd =
    let w : ℕ = a + 256 * b + 65536 * c + 16777216 * d in
    let e0 : w % 256 ≡ a = omega arith in
    let e1 : w / 256 % 256 ≡ b = omega arith in
    let e2 : w / 65536 % 256 ≡ c = omega arith in
    let e3 : w / 16777216 % 256 ≡ d = omega arith in
    λ i. e0 i ∷ e1 i ∷ e2 i ∷ e3 i ∷ []

-- a word that ends a string: behind its first zero byte all are zero
record Last (w : ℕ) : Type 0 where
  zero_there : has_zero w ≡ true
  filled : is_filled w ≡ true

by_bytes : (w : ℕ) (bytes : List ℕ) → to_le_bytes w32 w ≡ bytes → list_any is_zero bytes ≡ true → list_all is_zero (after_first is_zero bytes) ≡ true → Last w
unfolding has_zero is_filled
by_bytes w bytes e any all =
    record { zero_there = ap (list_any is_zero) e ∙ any; filled = ap (λ bs. list_all is_zero (after_first is_zero bs)) e ∙ all }

none : Last 0
unfolding has_zero is_filled
none = record { zero_there = refl; filled = refl }

not_zero : (x : ℕ) → 0 < x → is_zero x ≡ false
not_zero x pos = grind arith

-- a byte that is not zero stands before those that are
any_behind : (x : ℕ) (xs : List ℕ) → 0 < x → list_any is_zero (x ∷ xs) ≡ list_any is_zero xs
any_behind x xs pos = ap (λ t. t || list_any is_zero xs) (not_zero x pos)

after_behind : (x : ℕ) (xs : List ℕ) → 0 < x → after_first is_zero (x ∷ xs) ≡ after_first is_zero xs
after_behind x xs pos =
    let at : ℕ = position_or_len is_zero xs in
    let same : 1 + at + 1 ≡ suc (at + 1) = omega arith in
    ap (λ t. drop (cond (not t) (1 + at) 0 + 1) (x ∷ xs)) (not_zero x pos) ∙ ap (λ n. drop n (x ∷ xs)) same

one : (a : ℕ) → 0 < a → a < 256 → Last a
one a pos few =
    let same : a + 256 * 0 + 65536 * 0 + 16777216 * 0 ≡ a = omega arith in
    let bytes = subst (λ w. to_le_bytes w32 w ≡ a ∷ 0 ∷ 0 ∷ 0 ∷ []) same (bytes_of a 0 0 0 few (omega arith) (omega arith) (omega arith)) in
    by_bytes a (a ∷ 0 ∷ 0 ∷ 0 ∷ []) bytes (any_behind a (0 ∷ 0 ∷ 0 ∷ []) pos) (ap (list_all is_zero) (after_behind a (0 ∷ 0 ∷ 0 ∷ []) pos))

two : (a b : ℕ) → 0 < a → a < 256 → 0 < b → b < 256 → Last (a + 256 * b)
two a b pa fa pb fb =
    let same : a + 256 * b + 65536 * 0 + 16777216 * 0 ≡ a + 256 * b = omega arith in
    let bytes = subst (λ w. to_le_bytes w32 w ≡ a ∷ b ∷ 0 ∷ 0 ∷ []) same (bytes_of a b 0 0 fa fb (omega arith) (omega arith)) in
    by_bytes (a + 256 * b) (a ∷ b ∷ 0 ∷ 0 ∷ []) bytes (any_behind a (b ∷ 0 ∷ 0 ∷ []) pa ∙ any_behind b (0 ∷ 0 ∷ []) pb) (ap (list_all is_zero) (after_behind a (b ∷ 0 ∷ 0 ∷ []) pa ∙ after_behind b (0 ∷ 0 ∷ []) pb))

three : (a b c : ℕ) → 0 < a → a < 256 → 0 < b → b < 256 → 0 < c → c < 256 → Last (a + 256 * b + 65536 * c)
three a b c pa fa pb fb pc fc =
    let same : a + 256 * b + 65536 * c + 16777216 * 0 ≡ a + 256 * b + 65536 * c = omega arith in
    let bytes = subst (λ w. to_le_bytes w32 w ≡ a ∷ b ∷ c ∷ 0 ∷ []) same (bytes_of a b c 0 fa fb fc (omega arith)) in
    let any = any_behind a (b ∷ c ∷ 0 ∷ []) pa ∙ any_behind b (c ∷ 0 ∷ []) pb ∙ any_behind c (0 ∷ []) pc in
    let after = after_behind a (b ∷ c ∷ 0 ∷ []) pa ∙ after_behind b (c ∷ 0 ∷ []) pb ∙ after_behind c (0 ∷ []) pc in
    by_bytes (a + 256 * b + 65536 * c) (a ∷ b ∷ c ∷ 0 ∷ []) bytes any (ap (list_all is_zero) after)

-- a word of four bytes, of which none is zero
inner : (a b c d : ℕ) → 0 < a → a < 256 → 0 < b → b < 256 → 0 < c → c < 256 → 0 < d → d < 256 → has_zero (a + 256 * b + 65536 * c + 16777216 * d) ≡ false
unfolding has_zero
inner a b c d pa fa pb fb pc fc pd fd =
    ap (list_any is_zero) (bytes_of a b c d fa fb fc fd) ∙ any_behind a (b ∷ c ∷ d ∷ []) pa ∙ any_behind b (c ∷ d ∷ []) pb ∙ any_behind c (d ∷ []) pc ∙ any_behind d [] pd

-- ---- all words

-- where the first word with a zero byte stands
abbrev last_at : List ℕ → ℕ
last_at words = position_or_len has_zero words

record Ends (words : List ℕ) : Type 0 where
  at : suc (last_at words) ≡ length words
  filled : is_filled (get_or words (last_at words) 0) ≡ true

-- where it stands, if the first of these words has a zero byte or not
abbrev last_with : Bool → List ℕ → ℕ
last_with t words = cond (not t) (1 + last_at words) 0

ends_here : (w : ℕ) → Last w → Ends (w ∷ [])
ends_here w last =
    let here : last_at (w ∷ []) ≡ 0 = ap (λ t. last_with t []) last.zero_there in
    record { at = ap suc here; filled = ap (λ k. is_filled (get_or (w ∷ []) k 0)) here ∙ last.filled }

ends_further : (w : ℕ) (words : List ℕ) → has_zero w ≡ false → Ends words → Ends (w ∷ words)
ends_further w words e ends =
    let same : 1 + last_at words ≡ suc (last_at words) = omega arith in
    let there : last_at (w ∷ words) ≡ suc (last_at words) = ap (λ t. last_with t words) e ∙ same in
    record { at = ap suc there ∙ ap suc ends.at; filled = ap (λ k. is_filled (get_or (w ∷ words) k 0)) there ∙ ends.filled }

text_ends : (text : List ℕ) → Bytes text → Ends (text_words text)
text_ends [] h = ends_here 0 none
text_ends (a ∷ []) h = ends_here a (one a h.0 h.1)
text_ends (a ∷ b ∷ []) h = ends_here (a + 256 * b) (two a b h.0 h.1 h.2.0 h.2.1)
text_ends (a ∷ b ∷ c ∷ []) h =
    ends_here (a + 256 * b + 65536 * c) (three a b c h.0 h.1 h.2.0 h.2.1 h.2.2.0 h.2.2.1)
text_ends (a ∷ b ∷ c ∷ d ∷ rest) h =
    ends_further (a + 256 * b + 65536 * c + 16777216 * d) (text_words rest) (inner a b c d h.0 h.1 h.2.0 h.2.1 h.2.2.0 h.2.2.1 h.2.2.2.0 h.2.2.2.1) (text_ends rest h.2.2.2.2)

few_words : (text : List ℕ) → length (text_words text) ≤ length text + 1
few_words [] = omega arith
few_words (a ∷ []) = omega arith
few_words (a ∷ b ∷ []) = omega arith
few_words (a ∷ b ∷ c ∷ []) = omega arith
few_words (a ∷ b ∷ c ∷ d ∷ rest) = let ih = few_words rest in omega (arith, ih)

-- ---- the name of a block

digits_bytes : (most n : ℕ) (after : List ℕ) → Bytes after → Bytes (digits most n after)
digits_bytes zero n after h = h
digits_bytes (suc most) n after h =
    by_test (nat_lt n 10) refl (digits_bytes most (n / 10) ((48 + n % 10) ∷ after) (omega arith, omega arith, h))
  where
    by_test : (t : Bool) → nat_lt n 10 ≡ t → Bytes (digits most (n / 10) ((48 + n % 10) ∷ after)) → Bytes (if t then (48 + n) ∷ after else digits most (n / 10) ((48 + n % 10) ∷ after))
    by_test true e ih = (omega arith, omega (arith, ltb-true n 10 e), h)
    by_test false e ih = ih

few_digits : (most n : ℕ) (after : List ℕ) → length (digits most n after) ≤ most + length after
few_digits zero n after = omega arith
few_digits (suc most) n after = by_test (nat_lt n 10) (few_digits most (n / 10) ((48 + n % 10) ∷ after))
  where
    by_test : (t : Bool) → length (digits most (n / 10) ((48 + n % 10) ∷ after)) ≤ most + length ((48 + n % 10) ∷ after) → length (if t then (48 + n) ∷ after else digits most (n / 10) ((48 + n % 10) ∷ after)) ≤ suc most + length after
    by_test true ih = omega arith
    by_test false ih = omega (arith, ih)

name_ends : (k : ℕ) → Ends (block_name k)
name_ends k = text_ends (98 ∷ digits 10 k []) (omega arith, omega arith, digits_bytes 10 k [] tt)

few_in_name : (k : ℕ) → length (block_name k) ≤ 12
few_in_name k =
    let words = few_words (98 ∷ digits 10 k []) in
    let bytes = few_digits 10 k [] in
    omega (arith, words, bytes)

-- an id and a string
named_formed : (b x : ℕ) (words : List ℕ) → IsIdBelow b x → Ends words → length words ≤ 12 → IsFormedInst b (inst 5 (x ∷ words))
unfolding shape_of
named_formed b x words hx ends few =
    record { shape = Text 1 false 0; listed = refl; fits = fit; string = string; ids = ids; short = omega (arith, few) }
  where
    last : ℕ
    last = 1 + last_at words

    last_is : string_last (x ∷ words) 1 ≡ Some last
    last_is =
        ap (λ t. option_plus (cond t (Some (last_at words)) None)) (lt-ltb (last_at words) (length words) (omega (arith, ends.at)))
      where
        option_plus : Option ℕ → Option ℕ
        option_plus o = option_map (λ k. 1 + k) o

    fit : fits (Text 1 false 0) (x ∷ words) ≡ true
    fit =
        let long = lt-ltb 1 (length (x ∷ words)) (omega (arith, ends.at)) in
        let whole = eq-eqb (last + 1) (length (x ∷ words)) (omega (arith, ends.at)) in
        ap (λ t. t && option_map_or (λ last. last + 1 == length (x ∷ words)) (string_last (x ∷ words) 1) true) long ∙ ap (λ o. option_map_or (λ last. last + 1 == length (x ∷ words)) o true) last_is ∙ whole

    string : string_ends (Text 1 false 0) (x ∷ words) ≡ true
    string =
        let same : last ≡ suc (last_at words) = omega arith in
        ap (λ o. option_map_or (λ last. is_filled (get_or (x ∷ words) last 0)) o false) last_is ∙ ap (λ k. is_filled (get_or (x ∷ words) k 0)) same ∙ ends.filled

    ids : (at : ℕ) → at < length (x ∷ words) → is_id (Text 1 false 0) (x ∷ words) at ≡ true → IsIdBelow b (get_or (x ∷ words) at 0)
    ids zero lt is = hx
    ids (suc k) lt is =
        let low : nat_lt (suc k) 1 ≡ false = grind arith in
        let behind = ltb-true last (suc k) (ap (λ o. option_map_or (λ place. nat_lt place (suc k)) o false) (sym last_is) ∙ sym (if_not (nat_lt (suc k) 1) low _ _) ∙ is) in
        absurd (omega (arith, behind, lt, ends.at))

pub name_formed : (b x k : ℕ) → IsIdBelow b x → IsFormedInst b (inst 5 (x ∷ block_name k))
name_formed b x k hx = named_formed b x (block_name k) hx (name_ends k) (few_in_name k)
