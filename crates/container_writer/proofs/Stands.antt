-- Pieces of bytes and where they stand.
use Rattle.std.proofs.Common.{ℕ, zero, suc, ◌≡◌, ◌+◌, ◌*◌, ◌/◌, ◌%◌, ◌^◌, ◌<◌, refl, sym, ◌∙◌, ap, subst, arith, add-zero, List, [], ◌∷◌, ◌++◌, length, take, drop, get_or, length-append, append_assoc, append-nil}
use Rattle.std.specs.Prelude.{slice_get, Some}
use Rattle.std.specs.List.{flat_map}
use Rattle.std.proofs.Math.Seq.{drop-append_seam, take-append_seam}
use Rattle.std.proofs.lemmas.List.{get_or-append-add}
use Rattle.std.proofs.lemmas.List.Concat.{flat_map-cons}
use Rattle.dx_base.specs.Bits.{num}
use Rattle.dx_base.proofs.BitLaws.{num-add, num_in_byte}
use Rattle.dxbc_container.specs.Layout.{number, characters}
use Rattle.container_writer.specs.Writing.{Holds}
use Rattle.container_writer.specs.Laying.{word}

pub record Stands (bytes : List ℕ) (at : ℕ) (piece : List ℕ) : Type 0 where
  pub front : List ℕ
  pub back : List ℕ
  pub split : bytes ≡ front ++ (piece ++ back)
  pub place : length front ≡ at

pub stands_all : (bytes : List ℕ) → Stands bytes 0 bytes
stands_all bytes = record { front = []; back = []; split = sym (append-nil bytes); place = refl }

pub stands_left : (bytes : List ℕ) (at : ℕ) (xs ys : List ℕ) → Stands bytes at (xs ++ ys) → Stands bytes at xs
stands_left bytes at xs ys s = record { front = s.front; back = ys ++ s.back; split = s.split ∙ ap (λ l. s.front ++ l) (append_assoc xs ys s.back); place = s.place }

pub stands_right : (bytes : List ℕ) (at : ℕ) (xs ys : List ℕ) → Stands bytes at (xs ++ ys) → Stands bytes (at + length xs) ys
stands_right bytes at xs ys s = record {
  front = s.front ++ xs;
  back = s.back;
  split = s.split ∙ ap (λ l. s.front ++ l) (append_assoc xs ys s.back) ∙ sym (append_assoc s.front xs (ys ++ s.back));
  place = length-append s.front xs ∙ ap (λ n. n + length xs) s.place;
}

pub stands_at : (bytes piece : List ℕ) (at there : ℕ) → at ≡ there → Stands bytes at piece → Stands bytes there piece
stands_at bytes piece at there e = subst (λ n. Stands bytes n piece) e

-- the piece of one item
pub stands_of : {X : Type 0} (f : X → List ℕ) (bytes : List ℕ) (at : ℕ) (xs : List X) (i : ℕ) (x : X) → Stands bytes at (flat_map f xs) → slice_get xs i ≡ Some x → Stands bytes (at + length (flat_map f (take i xs))) (f x)
stands_of f bytes at [] i x s e = absurd (cc)
stands_of f bytes at (y ∷ ys) zero x s e =
    let same : y ≡ x = cc in
    let here : Stands bytes at (f y) = stands_left bytes at (f y) (flat_map f ys) (subst (Stands bytes at) (flat_map-cons f y ys) s) in
    stands_at bytes (f x) at (at + 0) (sym (add-zero at)) (subst (λ z. Stands bytes at (f z)) same here)
stands_of f bytes at (y ∷ ys) (suc i) x s e =
    let rest : Stands bytes (at + length (f y)) (flat_map f ys) = stands_right bytes at (f y) (flat_map f ys) (subst (Stands bytes at) (flat_map-cons f y ys) s) in
    let longer : length (flat_map f (y ∷ take i ys)) ≡ length (f y) + length (flat_map f (take i ys)) = ap length (flat_map-cons f y (take i ys)) ∙ length-append (f y) (flat_map f (take i ys)) in
    stands_at bytes (f x) (at + length (f y) + length (flat_map f (take i ys))) (at + length (flat_map f (y ∷ take i ys))) (omega (arith, longer)) (stands_of f bytes (at + length (f y)) ys i x rest e)

-- what a piece says
pub holds_of : (bytes : List ℕ) (at : ℕ) (piece : List ℕ) → Stands bytes at piece → Holds bytes at piece
holds_of bytes at piece s =
    let behind : drop at bytes ≡ piece ++ s.back = ap (λ l. drop at l) s.split ∙ ap (λ n. drop n (s.front ++ (piece ++ s.back))) (sym s.place) ∙ drop-append_seam s.front (piece ++ s.back) in
    ap (λ l. take (length piece) l) behind ∙ take-append_seam piece s.back

byte_of : (bytes : List ℕ) (at : ℕ) (piece : List ℕ) (s : Stands bytes at piece) (k : ℕ) → get_or bytes (at + k) 0 ≡ get_or (piece ++ s.back) k 0
byte_of bytes at piece s k = ap (λ l. get_or l (at + k) 0) s.split ∙ ap (λ n. get_or (s.front ++ (piece ++ s.back)) (n + k) 0) (sym s.place) ∙ get_or-append-add s.front (piece ++ s.back) k 0

pub characters_of : (bytes : List ℕ) (at : ℕ) (name : List ℕ) → Stands bytes at name → length name ≡ 4 → characters bytes at ≡ name
characters_of bytes at (a ∷ b ∷ c ∷ d ∷ []) s e =
    let zeroth : get_or bytes at 0 ≡ a = rw add-zero at (byte_of bytes at (a ∷ b ∷ c ∷ d ∷ []) s 0) in
    let first = byte_of bytes at (a ∷ b ∷ c ∷ d ∷ []) s 1 in
    let second = byte_of bytes at (a ∷ b ∷ c ∷ d ∷ []) s 2 in
    let third = byte_of bytes at (a ∷ b ∷ c ∷ d ∷ []) s 3 in
    rw (zeroth, first, second, third) refl
characters_of bytes at [] s e = absurd (omega (arith, e))
characters_of bytes at (a ∷ []) s e = absurd (omega (arith, e))
characters_of bytes at (a ∷ b ∷ []) s e = absurd (omega (arith, e))
characters_of bytes at (a ∷ b ∷ c ∷ []) s e = absurd (omega (arith, e))
characters_of bytes at (a ∷ b ∷ c ∷ d ∷ x ∷ xs) s e = absurd (omega (arith, e))

one_byte : (bytes : List ℕ) (at a : ℕ) → get_or bytes at 0 ≡ a % 256 → num bytes (at * 8) 8 ≡ a % 256
one_byte bytes at a e = num_in_byte bytes at 8 (omega arith) ∙ rw e (omega arith)

four_bytes : (bytes : List ℕ) (at a b c d : ℕ) → get_or bytes at 0 ≡ a % 256 → get_or bytes (at + 1) 0 ≡ b % 256 → get_or bytes (at + 2) 0 ≡ c % 256 → get_or bytes (at + 3) 0 ≡ d % 256
    → num bytes (8 * at) 32 ≡ a % 256 + b % 256 * 256 + c % 256 * 65536 + d % 256 * 16777216
four_bytes bytes at a b c d p q r s =
    let start : 8 * at ≡ at * 8 = omega arith in
    let two : at * 8 + 8 ≡ (at + 1) * 8 = omega arith in
    let three : (at + 1) * 8 + 8 ≡ (at + 2) * 8 = omega arith in
    let four : (at + 2) * 8 + 8 ≡ (at + 3) * 8 = omega arith in
    let low : num bytes (at * 8) 32 ≡ num bytes ((at + 1) * 8) 24 * 256 + num bytes (at * 8) 8 = rw two at (num-add bytes (at * 8) 8 24) in
    let mid : num bytes ((at + 1) * 8) 24 ≡ num bytes ((at + 2) * 8) 16 * 256 + num bytes ((at + 1) * 8) 8 = rw three at (num-add bytes ((at + 1) * 8) 8 16) in
    let high : num bytes ((at + 2) * 8) 16 ≡ num bytes ((at + 3) * 8) 8 * 256 + num bytes ((at + 2) * 8) 8 = rw four at (num-add bytes ((at + 2) * 8) 8 8) in
    rw start (omega (arith, low, mid, high, one_byte bytes at a p, one_byte bytes (at + 1) b q, one_byte bytes (at + 2) c r, one_byte bytes (at + 3) d s))

pub number_of : (bytes : List ℕ) (at n : ℕ) → n < 2 ^ 32 → Stands bytes at (word n) → number bytes at ≡ n
unfolding word
number_of bytes at n small s =
    let whole : n % 256 + n / 256 % 256 * 256 + n / 65536 % 256 * 65536 + n / 16777216 % 256 * 16777216 ≡ n = omega (arith, small) in
    four_bytes bytes at n (n / 256) (n / 65536) (n / 16777216) (rw add-zero at (byte_of bytes at (word n) s 0)) (byte_of bytes at (word n) s 1) (byte_of bytes at (word n) s 2) (byte_of bytes at (word n) s 3) ∙ whole

pub length-word : (n : ℕ) → length (word n) ≡ 4
unfolding word
length-word n = refl

pub length-words : (ns : List ℕ) → length (flat_map word ns) ≡ 4 * length ns
length-words [] = refl
length-words (n ∷ ns) = omega (arith, ap length (flat_map-cons word n ns), length-append (word n) (flat_map word ns), length-word n, length-words ns)
