-- The laws of the words that are written.
use Rattle.std.proofs.Common.{◌≡◌, ℕ, suc, zero, ◌+◌, ◌*◌, ◌%◌, ◌^◌, ◌<◌, List, [], ◌∷◌, ◌++◌, length, take, drop, slice_get, Some, refl, sym, ◌∙◌, ap, subst, arith, bit_or, append_assoc, length-append, sum_by, add-one}
use Rattle.std.specs.List.{flat_map}
use Rattle.std.proofs.lemmas.Nat.{or_shifted}
use Rattle.std.proofs.lemmas.List.Concat.{flat_map-cons}
use Rattle.std.proofs.lemmas.List.Sums.{sum_by-cons}
use Rattle.std.proofs.Math.Nat.{mod-eq_of_lt}
use Rattle.std.proofs.Math.Seq.{take-length}
use Rattle.spv_form.specs.declared.module.Inst.{Inst}
use Rattle.spv_form.specs.declared.module.Module.{Module}
use Rattle.spv_form.specs.Versions.{version_word}
use Rattle.spv_form.specs.Words.{magic, size_of, start_of, StandsAt, IsLayout}
use Rattle.spirv_words.specs.Written.{inst_words}

-- the first word as the code makes it
pub first_word : (size op : ℕ) → size < 2 ^ 16 → op < 2 ^ 16 → bit_or ((size * 2 ^ 16) % 2 ^ 32) op ≡ size * 2 ^ 16 + op
first_word size op h k =
    let whole : (size * 2 ^ 16) % 2 ^ 32 ≡ size * 2 ^ 16 = mod-eq_of_lt (omega arith) in
    rw whole (or_shifted size 16 op k)

get-seam : (before : List ℕ) (w : ℕ) (rest : List ℕ) → slice_get (before ++ w ∷ rest) (length before) ≡ Some w
get-seam [] w rest = refl
get-seam (b ∷ bs) w rest = get-seam bs w rest

drop-seam : (before : List ℕ) (w : ℕ) (rest : List ℕ) → drop (suc (length before)) (before ++ w ∷ rest) ≡ rest
drop-seam [] w rest = refl
drop-seam (b ∷ bs) w rest = drop-seam bs w rest

take-front : (xs ys : List ℕ) → take (length xs) (xs ++ ys) ≡ xs
take-front [] ys = refl
take-front (x ∷ xs) ys = ap (λ l. x ∷ l) (take-front xs ys)

-- an instruction's words stand behind others
stands_behind : (before : List ℕ) (x : Inst) (rest : List ℕ) → StandsAt (before ++ (inst_words x ++ rest)) (length before) x
stands_behind before x rest = record {
  first = get-seam before (size_of x * 2 ^ 16 + x.opcode) (x.operands ++ rest);
  operands = rw (add-one, drop-seam before (size_of x * 2 ^ 16 + x.opcode) (x.operands ++ rest)) (take-front x.operands rest);
}

-- one behind the other
stand_behind : (before : List ℕ) (xs : List Inst) (i : ℕ) (x : Inst) → slice_get xs i ≡ Some x → StandsAt (before ++ flat_map inst_words xs) (length before + sum_by size_of (take i xs)) x
stand_behind before [] i x e = cc
stand_behind before (y ∷ ys) zero x e =
    let same : y ≡ x = cc in
    let start : length before ≡ length before + sum_by size_of (take zero (y ∷ ys)) = omega arith in
    subst (λ (at : ℕ). StandsAt (before ++ flat_map inst_words (y ∷ ys)) at x) start
    (subst (λ (z : Inst). StandsAt (before ++ flat_map inst_words (y ∷ ys)) (length before) z) same
    (subst (λ (ws : List ℕ). StandsAt (before ++ ws) (length before) y) (sym (flat_map-cons inst_words y ys)) (stands_behind before y (flat_map inst_words ys))))
stand_behind before (y ∷ ys) (suc i) x e =
    let next = stand_behind (before ++ inst_words y) ys i x e in
    let words : (before ++ inst_words y) ++ flat_map inst_words ys ≡ before ++ flat_map inst_words (y ∷ ys) = append_assoc before (inst_words y) (flat_map inst_words ys) ∙ ap (λ ws. before ++ ws) (sym (flat_map-cons inst_words y ys)) in
    let start : length (before ++ inst_words y) + sum_by size_of (take i ys) ≡ length before + sum_by size_of (y ∷ take i ys) = omega (arith, length-append before (inst_words y), sum_by-cons size_of y (take i ys)) in
    subst (λ (at : ℕ). StandsAt (before ++ flat_map inst_words (y ∷ ys)) at x) start
    (subst (λ (ws : List ℕ). StandsAt ws (length (before ++ inst_words y) + sum_by size_of (take i ys)) x) words next)

length-written : (xs : List Inst) → length (flat_map inst_words xs) ≡ sum_by size_of xs
length-written [] = refl
length-written (x ∷ xs) =
    let words : length (flat_map inst_words (x ∷ xs)) ≡ length (inst_words x ++ flat_map inst_words xs) = ap length (flat_map-cons inst_words x xs) in
    let more = length-written xs in
    omega (arith, words, length-append (inst_words x) (flat_map inst_words xs), sum_by-cons size_of x xs, more)

-- the header and the instructions are the words of the module
pub layout_of : (m : Module) → IsLayout ((magic ∷ version_word m.version ∷ 0 ∷ m.bound ∷ 0 ∷ []) ++ flat_map inst_words m.insts) m
layout_of m =
    let whole : take (length m.insts) m.insts ≡ m.insts = take-length m.insts in
    let long : length ((magic ∷ version_word m.version ∷ 0 ∷ m.bound ∷ 0 ∷ []) ++ flat_map inst_words m.insts) ≡ start_of m.insts (length m.insts) =
    rw whole (omega (arith, length-append (magic ∷ version_word m.version ∷ 0 ∷ m.bound ∷ 0 ∷ []) (flat_map inst_words m.insts), length-written m.insts)) in
    record {
      magic = refl;
      version = refl;
      bound = refl;
      schema = refl;
      each = stand_behind (magic ∷ version_word m.version ∷ 0 ∷ m.bound ∷ 0 ∷ []) m.insts;
      ends = long;
    }
