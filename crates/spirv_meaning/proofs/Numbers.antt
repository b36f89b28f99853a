-- The name of a block tells its number.
use Rattle.std.proofs.Common.{◌≡◌, ℕ, zero, suc, ◌+◌, ◌-◌, ◌*◌, ◌/◌, ◌%◌, ◌^◌, ◌<◌, List, [], ◌∷◌, Bool, true, false, refl, sym, ap, ◌∙◌, arith, ltb-true, lt-ltb}
use Rattle.std.specs.Prelude.{nat_lt, ◌&&◌, if◌then◌else◌}
use Rattle.spirv_meaning.specs.Names.{text_words, digits, block_name, number_in, digit}

-- the number that bytes spell
abbrev value_in : List ℕ → ℕ → ℕ
value_in [] n = n
value_in (b ∷ bs) n = value_in bs (digit b n)

if_both : {A : Type 0} (x y : Bool) (a b : A) → x ≡ true → y ≡ true → (if x && y then a else b) ≡ a
if_both x y a b e f = ap (λ x. if x && y then a else b) e ∙ ap (λ y. if y then a else b) f

digit_is : (d n : ℕ) → d < 10 → digit (48 + d) n ≡ 10 * n + d
digit_is d n h =
    let same : 10 * n + (48 + d - 48) ≡ 10 * n + d = omega arith in
    if_both (nat_lt 47 (48 + d)) (nat_lt (48 + d) 58) _ _ (lt-ltb 47 (48 + d) (omega arith)) (lt-ltb (48 + d) 58 (omega arith)) ∙ same

-- 10 to a power
abbrev tens : ℕ → ℕ
tens zero = 1
tens (suc most) = 10 * tens most

-- the digits spell the number, before what follows
digits_spell : (most n : ℕ) (after : List ℕ) → n < tens most → value_in (digits most n after) 0 ≡ value_in after n
digits_spell zero n after h = let e : 0 ≡ n = omega arith in ap (value_in after) e
digits_spell (suc most) n after h =
    by_test (nat_lt n 10) refl (digits_spell most (n / 10) ((48 + n % 10) ∷ after) (omega arith))
  where
    by_test : (b : Bool) → nat_lt n 10 ≡ b → value_in (digits most (n / 10) ((48 + n % 10) ∷ after)) 0 ≡ value_in ((48 + n % 10) ∷ after) (n / 10) → value_in (if b then (48 + n) ∷ after else digits most (n / 10) ((48 + n % 10) ∷ after)) 0 ≡ value_in after n
    by_test true e ih =
        let same : 10 * 0 + n ≡ n = omega arith in ap (value_in after) (digit_is n 0 (ltb-true n 10 e) ∙ same)
    by_test false e ih =
        let same : 10 * (n / 10) + n % 10 ≡ n = omega arith in
        ih ∙ ap (value_in after) (digit_is (n % 10) (n / 10) (omega arith) ∙ same)

-- all bytes of a list
abbrev Bytes : List ℕ → Type 0
Bytes [] = Unit {0}
Bytes (b ∷ bs) = (b < 256) × Bytes bs

-- four bytes stand in a word
word_is : (a b c d n : ℕ) → a < 256 → b < 256 → c < 256 → d < 256 → digit ((a + 256 * b + 65536 * c + 16777216 * d) / 16777216) (digit ((a + 256 * b + 65536 * c + 16777216 * d) / 65536 % 256) (digit ((a + 256 * b + 65536 * c + 16777216 * d) / 256 % 256) (digit ((a + 256 * b + 65536 * c + 16777216 * d) % 256) n))) ≡ digit d (digit c (digit b (digit a n)))
word_is a b c d n ha hb hc hd =
    let w : ℕ = a + 256 * b + 65536 * c + 16777216 * d in
    let e0 : w % 256 ≡ a = omega arith in
    let e1 : w / 256 % 256 ≡ b = omega arith in
    let e2 : w / 65536 % 256 ≡ c = omega arith in
    let e3 : w / 16777216 ≡ d = omega arith in
    ap (λ x. digit x (digit (w / 65536 % 256) (digit (w / 256 % 256) (digit (w % 256) n)))) e3 ∙ ap (λ x. digit d (digit x (digit (w / 256 % 256) (digit (w % 256) n)))) e2 ∙ ap (λ x. digit d (digit c (digit x (digit (w % 256) n)))) e1 ∙ ap (λ x. digit d (digit c (digit b (digit x n)))) e0

words_spell : (bytes : List ℕ) (n : ℕ) → Bytes bytes → number_in (text_words bytes) n ≡ value_in bytes n
words_spell [] n h = refl
words_spell (a ∷ []) n h =
    let same : a + 256 * 0 + 65536 * 0 + 16777216 * 0 ≡ a = omega arith in
    ap (λ w. number_in (w ∷ []) n) (sym same) ∙ word_is a 0 0 0 n h.0 (omega arith) (omega arith) (omega arith)
words_spell (a ∷ b ∷ []) n h =
    let same : a + 256 * b + 65536 * 0 + 16777216 * 0 ≡ a + 256 * b = omega arith in
    ap (λ w. number_in (w ∷ []) n) (sym same) ∙ word_is a b 0 0 n h.0 h.1.0 (omega arith) (omega arith)
words_spell (a ∷ b ∷ c ∷ []) n h =
    let same : a + 256 * b + 65536 * c + 16777216 * 0 ≡ a + 256 * b + 65536 * c = omega arith in
    ap (λ w. number_in (w ∷ []) n) (sym same) ∙ word_is a b c 0 n h.0 h.1.0 h.1.1.0 (omega arith)
words_spell (a ∷ b ∷ c ∷ d ∷ rest) n h =
    ap (number_in (text_words rest)) (word_is a b c d n h.0 h.1.0 h.1.1.0 h.1.1.1.0) ∙ words_spell rest (digit d (digit c (digit b (digit a n)))) h.1.1.1.1

digits_bytes : (most n : ℕ) (after : List ℕ) → Bytes after → Bytes (digits most n after)
digits_bytes zero n after h = h
digits_bytes (suc most) n after h =
    by_test (nat_lt n 10) refl (digits_bytes most (n / 10) ((48 + n % 10) ∷ after) (omega arith, h))
  where
    by_test : (b : Bool) → nat_lt n 10 ≡ b → Bytes (digits most (n / 10) ((48 + n % 10) ∷ after)) → Bytes (if b then (48 + n) ∷ after else digits most (n / 10) ((48 + n % 10) ∷ after))
    by_test true e ih = (omega (arith, ltb-true n 10 e), h)
    by_test false e ih = ih

-- so two blocks never share a name, and the number is the least bound
pub name_tells : (k : ℕ) → k < 2 ^ 32 → number_in (block_name k) 0 ≡ k
name_tells k h =
    words_spell (98 ∷ digits 10 k []) 0 (omega arith, digits_bytes 10 k [] tt) ∙ digits_spell 10 k [] (omega arith)
