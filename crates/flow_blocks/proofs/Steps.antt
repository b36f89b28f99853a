-- One instruction more: the open block behind it, and the block that it ends.
use Rattle.std.proofs.Common.{ℕ, ◌≡◌, ◌<◌, ◌≤◌, ◌+◌, ◌++◌, ◌∷◌, [], refl, sym, ap, ◌∙◌, arith, List, length, get_or, append_assoc, Option, None, sum_by, take}
use Rattle.std.proofs.lemmas.List.{take_all, take_more}
use Rattle.std.proofs.lemmas.List.Sums.{sum_by_more_le, sum_by_more, sum_by-cons}
use Rattle.spv_form.specs.declared.module.Inst.{Inst}
use Rattle.spv_form.specs.Words.{size_of, start_of}
use Rattle.flow_blocks.specs.Blocks.{Labeled, Open, blocks_from, open_after, ended_at}

-- the block that has no terminator yet, behind instructions from a word on
unfoldable pub open_from : Option Open → ℕ → List Inst → Option Open
open_from before word [] = before
open_from before word (x ∷ xs) = open_from (open_after before word x) (word + size_of x) xs

-- the same, and the blocks, for the first so many instructions of a module
abbrev pub open_to : List Inst → ℕ → Option Open
open_to insts at = open_from None 5 (take at insts)

abbrev pub blocks_to : List Inst → ℕ → List Labeled
blocks_to insts at = blocks_from None 5 (take at insts)

append_none : (l : List Labeled) → l ++ [] ≡ l
append_none [] = refl
append_none (x ∷ l) = ap (λ (m : List Labeled). x ∷ m) (append_none l)

further : (word : ℕ) (y : Inst) (xs : List Inst) → word + size_of y + sum_by size_of xs ≡ word + sum_by size_of (y ∷ xs)
further word y xs = omega (arith, sum_by-cons size_of y xs)

open_push : (before : Option Open) (word : ℕ) (xs : List Inst) (x : Inst) → open_from before word (xs ++ x ∷ []) ≡ open_after (open_from before word xs) (word + sum_by size_of xs) x
unfolding open_from
open_push before word [] x = ap (λ (w : ℕ). open_after before w x) (omega arith)
open_push before word (y ∷ xs) x =
    open_push (open_after before word y) (word + size_of y) xs x
    ∙ ap (λ (w : ℕ). open_after (open_from (open_after before word y) (word + size_of y) xs) w x) (further word y xs)

blocks_push : (before : Option Open) (word : ℕ) (xs : List Inst) (x : Inst) → blocks_from before word (xs ++ x ∷ []) ≡ blocks_from before word xs ++ ended_at (open_from before word xs) (word + sum_by size_of xs) x
unfolding blocks_from open_from
blocks_push before word [] x = append_none (ended_at before word x) ∙ ap (λ (w : ℕ). ended_at before w x) (omega arith)
blocks_push before word (y ∷ xs) x =
    let behind = open_after before word y in
    ap (λ (ls : List Labeled). ended_at before word y ++ ls) (blocks_push behind (word + size_of y) xs x)
    ∙ sym (append_assoc (ended_at before word y) (blocks_from behind (word + size_of y) xs) (ended_at (open_from behind (word + size_of y) xs) (word + size_of y + sum_by size_of xs) x))
    ∙ ap (λ (w : ℕ). (ended_at before word y ++ blocks_from behind (word + size_of y) xs) ++ ended_at (open_from behind (word + size_of y) xs) w x) (further word y xs)

module _ (insts : List Inst) (at : ℕ) (x : Inst) (inside : at < length insts) (is : x ≡ get_or insts at x) where
  pushed : take (at + 1) insts ≡ take at insts ++ x ∷ []
  pushed = take_more insts at x inside ∙ ap (λ (y : Inst). take at insts ++ y ∷ []) (sym is)

  pub open_more : open_to insts (at + 1) ≡ open_after (open_to insts at) (start_of insts at) x
  open_more = ap (λ (xs : List Inst). open_from None 5 xs) pushed ∙ open_push None 5 (take at insts) x

  pub blocks_more : blocks_to insts (at + 1) ≡ blocks_to insts at ++ ended_at (open_to insts at) (start_of insts at) x
  blocks_more = ap (λ (xs : List Inst). blocks_from None 5 xs) pushed ∙ blocks_push None 5 (take at insts) x

pub blocks_all : (insts : List Inst) (at : ℕ) → length insts ≤ at → blocks_to insts at ≡ blocks_from None 5 insts
blocks_all insts at end = ap (λ (xs : List Inst). blocks_from None 5 xs) (take_all at insts end)

-- each instruction ends at or before the last one's end
pub start_within : (xs : List Inst) (i : ℕ) (d : Inst) → i < length xs → start_of xs i + size_of (get_or xs i d) ≤ start_of xs (length xs)
start_within xs i d h =
    let whole : take (length xs) xs ≡ xs = take_all (length xs) xs (omega arith) in
    let same = ap (λ (l : List Inst). sum_by size_of l) whole in
    omega (arith, sum_by_more_le size_of xs i d h, same)

pub start_more : (xs : List Inst) (i : ℕ) (d : Inst) → i < length xs → start_of xs (i + 1) ≡ start_of xs i + size_of (get_or xs i d)
start_more xs i d h = omega (arith, sum_by_more size_of xs i d h)
