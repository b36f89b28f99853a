-- There are at most as many blocks as instructions.
use Rattle.std.proofs.Common.{ℕ, ◌+◌, ◌≤◌, ◌<◌, ◌∷◌, [], ◌^◌, ◌==◌, ap, arith, List, length, length-append, take_all, sum_by, Bool, true, false, cond, Option, Some, None}
use Rattle.std.proofs.lemmas.List.Sums.{sum_by-cons}
use Rattle.spv_form.specs.declared.module.Inst.{Inst}
use Rattle.spv_form.specs.Words.{size_of, start_of}
use Rattle.flow_rules.specs.declared.block.Terminator.{Terminator}
use Rattle.flow_blocks.specs.Blocks.{Open, blocks_from, labeled_blocks, open_after, ended, ended_at, terminator_of, targets_of}

one : (before : Option Open) (t : Option Terminator) (word : ℕ) (targets : List ℕ) → length (ended before t word targets) ≤ 1
one None t word targets = omega arith
one (Some o) None word targets = omega arith
one (Some o) (Some t) word targets = omega arith

none_or_one : (label : Bool) (before : Option Open) (t : Option Terminator) (word : ℕ) (targets : List ℕ) → length (cond label [] (ended before t word targets)) ≤ 1
none_or_one true before t word targets = omega arith
none_or_one false before t word targets = one before t word targets

pub no_more : (before : Option Open) (word : ℕ) (xs : List Inst) → length (blocks_from before word xs) ≤ length xs
unfolding blocks_from
no_more before word [] = omega arith
no_more before word (x ∷ xs) =
    omega (
      arith,
      length-append (ended_at before word x) (blocks_from (open_after before word x) (word + size_of x) xs),
      none_or_one (x.opcode == 248) before (terminator_of x) word (targets_of x),
      no_more (open_after before word x) (word + size_of x) xs,
    )

long : (insts : List Inst) → length insts ≤ sum_by size_of insts
long [] = omega arith
long (x ∷ xs) = omega (arith, sum_by-cons size_of x xs, long xs)

pub few : (insts : List Inst) → start_of insts (length insts) < 2 ^ 32 → length insts < 2 ^ 32
few insts h = omega (arith, h, long insts, ap (sum_by size_of) (take_all (length insts) insts (omega arith)))

pub few_blocks : (insts : List Inst) → start_of insts (length insts) < 2 ^ 32 → length (labeled_blocks insts) < 2 ^ 32
few_blocks insts short = omega (arith, no_more None 5 insts, few insts short)
