-- The pass with numbers in place of labels makes the numbered blocks of the labeled ones.
use Rattle.std.proofs.Common.{ℕ, ◌≡◌, ◌++◌, ◌∷◌, [], refl, sym, ap, ◌∙◌, List, map, Option, Some, None, Bool, true, false, if◌then◌else◌, ◌==◌}
use Rattle.std.proofs.lemmas.List.{map-append}
use Rattle.std.specs.Option.{option_map}
use Rattle.spv_form.specs.declared.module.Inst.{Inst}
use Rattle.flow_rules.specs.Blocks.{BasicBlock}
use Rattle.flow_rules.specs.declared.block.Merge.{Merge}
use Rattle.flow_rules.specs.declared.block.MergeKind.{MergeKind}
use Rattle.flow_rules.specs.declared.block.MergeKind.TheVariants.{Selection, Loop}
use Rattle.flow_rules.specs.declared.block.Terminator.{Terminator}
use Rattle.flow_blocks.specs.Blocks.{Labeled, Open, operand, with_merge, open_after, inner_after, ended, ended_at, terminator_of, merge_of, targets_of}
use Rattle.flow_blocks.specs.Numbered.{numbered_kind, numbered_merge, numbered_block, each_numbered}
use Rattle.flow_blocks.specs.Passes.{open_numbered, next_inner, block_ended, block_after, block_ended_at}

module _ (number : ℕ → ℕ) where
  joined : (fs : List Merge) (m : Option Merge) → with_merge (map (numbered_merge number) fs) (option_map (numbered_merge number) m) ≡ map (numbered_merge number) (with_merge fs m)
  joined fs None = refl
  joined fs (Some m) = sym (map-append (numbered_merge number) fs (m ∷ []))

  pub open_passed : (o : Option Open) (word : ℕ) (x : Inst) → block_after number (option_map (open_numbered number) o) word x ≡ option_map (open_numbered number) (open_after o word x)
  open_passed o word x = go (x.opcode == 248) (terminator_of x) (merge_of x word) o where
    go : (is_label : Bool) (t : Option Terminator) (m : Option Merge) (o : Option Open)
        → (if is_label then Some (record { word = word; strays = []; merge = None }) else next_inner (option_map (open_numbered number) o) t (option_map (numbered_merge number) m))
        ≡ option_map (open_numbered number) (if is_label then Some (record { label = operand x 0; word = word; strays = []; merge = None }) else inner_after o t m)
    go true t m o = refl
    go false t m None = refl
    go false (Some t) m (Some o) = refl
    go false None m (Some o) = ap (λ (fs : List Merge). Some (record { word = o.word; strays = fs; merge = option_map (numbered_merge number) m })) (joined o.strays o.merge)

  pub block_passed : (o : Option Open) (word : ℕ) (x : Inst) → block_ended_at number (option_map (open_numbered number) o) word x ≡ each_numbered number (ended_at o word x)
  block_passed o word x = go (x.opcode == 248) (terminator_of x) o where
    go : (is_label : Bool) (t : Option Terminator) (o : Option Open)
        → (if is_label then [] else block_ended (option_map (open_numbered number) o) t word (map number (targets_of x))) ≡ each_numbered number (if is_label then [] else ended o t word (targets_of x))
    go true t o = refl
    go false t None = refl
    go false (Some t) (Some o) = refl
    go false None (Some o) = refl

  pub blocks_passed : (old new : List BasicBlock) (ls : List Labeled) (o : Option Open) (word : ℕ) (x : Inst) → old ≡ each_numbered number ls → new ≡ old ++ block_ended_at number (option_map (open_numbered number) o) word x
      → new ≡ each_numbered number (ls ++ ended_at o word x)
  blocks_passed old new ls o word x so_far is =
      is ∙ ap (λ (bs : List BasicBlock). bs ++ block_ended_at number (option_map (open_numbered number) o) word x) so_far
      ∙ ap (λ (bs : List BasicBlock). each_numbered number ls ++ bs) (block_passed o word x) ∙ sym (map-append (λ (l : Labeled). numbered_block number l.block) ls (ended_at o word x))

-- ---- two ways to number that agree
module _ (f g : ℕ → ℕ) (agree : (id : ℕ) → f id ≡ g id) where
  each_same : {A B : Type 0} (p q : A → B) → ((a : A) → p a ≡ q a) → (xs : List A) → map p xs ≡ map q xs
  each_same p q h [] = refl
  each_same p q h (x ∷ xs) = (let one = h x in let rest = each_same p q h xs in cc)

  some_same : {A B : Type 0} (p q : A → B) → ((a : A) → p a ≡ q a) → (o : Option A) → option_map p o ≡ option_map q o
  some_same p q h None = refl
  some_same p q h (Some x) = (let one = h x in cc)

  kind_same : (k : MergeKind) → numbered_kind f k ≡ numbered_kind g k
  kind_same Selection = refl
  kind_same (Loop c) = ap (λ (n : ℕ). Loop n) (agree c)

  merge_same : (m : Merge) → numbered_merge f m ≡ numbered_merge g m
  merge_same m = (let kind = kind_same m.kind in let block = agree m.merge_block in cc)

  block_same : (b : BasicBlock) → numbered_block f b ≡ numbered_block g b
  block_same b =
      let strays = each_same (numbered_merge f) (numbered_merge g) merge_same b.strays in
      let merge = some_same (numbered_merge f) (numbered_merge g) merge_same b.merge in
      let targets = each_same f g agree b.targets in
      cc

  pub numbered_same : (ls : List Labeled) → each_numbered f ls ≡ each_numbered g ls
  numbered_same ls = each_same (λ (l : Labeled). numbered_block f l.block) (λ (l : Labeled). numbered_block g l.block) (λ l. block_same l.block) ls
