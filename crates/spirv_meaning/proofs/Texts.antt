-- The words of a name, word by word, and its digits.
use Rattle.std.proofs.Common.{◌≡◌, ℕ, zero, suc, ◌+◌, ◌-◌, ◌*◌, ◌/◌, ◌%◌, ◌<◌, ◌≤◌, List, [], ◌∷◌, length, take, drop, length-drop, refl, ap, sym, arith}
use Rattle.std.specs.Prelude.{nat_lt, if◌then◌else◌}
use Rattle.spirv_meaning.specs.Names.{text_words, word_of, digits}

pub last_word : (name : List ℕ) → length name < 4 → text_words name ≡ word_of name ∷ []
last_word [] h = refl
last_word (a ∷ []) h = let e : a ≡ word_of (a ∷ []) = omega arith in ap (λ w. w ∷ []) e
last_word (a ∷ b ∷ []) h = let e : a + 256 * b ≡ word_of (a ∷ b ∷ []) = omega arith in ap (λ w. w ∷ []) e
last_word (a ∷ b ∷ c ∷ []) h =
    let e : a + 256 * b + 65536 * c ≡ word_of (a ∷ b ∷ c ∷ []) = omega arith in ap (λ w. w ∷ []) e
last_word (a ∷ b ∷ c ∷ d ∷ rest) h = absurd (omega arith)

pub whole_word : (name : List ℕ) → 4 ≤ length name → text_words name ≡ word_of name ∷ text_words (drop 4 name)
whole_word [] h = absurd (omega arith)
whole_word (a ∷ []) h = absurd (omega arith)
whole_word (a ∷ b ∷ []) h = absurd (omega arith)
whole_word (a ∷ b ∷ c ∷ []) h = absurd (omega arith)
whole_word (a ∷ b ∷ c ∷ d ∷ rest) h = refl

pub digits_step : (most k : ℕ) (after : List ℕ) → 0 < most → digits most k after ≡ (if nat_lt k 10 then (48 + k) ∷ after else digits (most - 1) (k / 10) ((48 + k % 10) ∷ after))
digits_step zero k after h = absurd (omega arith)
digits_step (suc most) k after h =
    let e : suc most - 1 ≡ most = omega arith in
    ap (λ n. if nat_lt k 10 then (48 + k) ∷ after else digits n (k / 10) ((48 + k % 10) ∷ after)) (sym e)

take_all : (xs : List ℕ) (n : ℕ) → length xs ≤ n → take n xs ≡ xs
take_all [] zero h = refl
take_all [] (suc n) h = refl
take_all (x ∷ xs) zero h = absurd (omega arith)
take_all (x ∷ xs) (suc n) h = ap (λ ys. x ∷ ys) (take_all xs n (omega arith))

-- a slice up to the end
pub rest_is : (text : List ℕ) (n from : ℕ) → length text ≡ n → take (n - from) (drop from text) ≡ drop from text
rest_is text n from long = take_all (drop from text) (n - from) (omega (arith, length-drop from text))
