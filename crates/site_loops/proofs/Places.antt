-- Which block begins at a label of a function, and how many loops hold it.
use Rattle.std.proofs.Common.{◌≡◌, ◌⊎◌, inl, inr, ℕ, zero, suc, ◌+◌, true, false, List, [], ◌∷◌, ◌++◌, length, length-append, Option, Some, None, refl, sym, ap, ◌∙◌, subst, arith}
use Rattle.std.specs.Prelude.{slice_get, map}
use Rattle.std.specs.Option.{option_map}
use Rattle.dxil_form.specs.Graphs.{count_below}
use Rattle.spv_form.specs.declared.module.Inst.{Inst}
use Rattle.flow_rules.specs.Blocks.{BasicBlock}
use Rattle.flow_rules.specs.declared.block.Merge.{Merge}
use Rattle.flow_rules.specs.declared.block.MergeKind.{MergeKind}
use Rattle.flow_rules.specs.declared.block.MergeKind.TheVariants.{Selection, Loop}
use Rattle.flow_blocks.specs.Blocks.{Labeled}
use Rattle.flow_blocks.specs.Numbered.{numbered_merge, numbered_block}
use Rattle.row_laws.specs.Rows.{is_loop, Looping}
use Rattle.row_laws.proofs.Basics.{none_some, true_false, at_same}
use Rattle.written_rows.specs.Code.{AreInner, labels, RowCode}
use Rattle.written_rows.specs.Laws.{EachOnce}
use Rattle.written_rows.proofs.Steps.{length_map, opened}
use Rattle.written_rows.proofs.Ends.{name_of}
use Rattle.written_rows.proofs.Function as fun
use Rattle.site_loops.specs.Sites.{InLoops}
use Rattle.site_loops.proofs.Scan.{scan}
use Rattle.site_loops.proofs.Over.{bit, holds, holds_told, holds_there, over, over_split, over_self, over_one, Plain}
use Rattle.site_loops.proofs.Held.{Held}
use Rattle.site_loops.proofs.Closed.{once_rest}
use Rattle.site_loops.proofs.Rows.{row_held}
use Rattle.site_loops.proofs.Spots.{Marked}
use Rattle.site_loops.proofs.Headed.{Headed, IsLoopMerge, looped}

inj : {A : Type 0} {a b : A} → Some a ≡ Some b → a ≡ b
inj e = cc

-- a place of two lists, one behind the other
split : (xs ys : List Labeled) (i : ℕ) (d : Labeled) → slice_get (xs ++ ys) i ≡ Some d → (slice_get xs i ≡ Some d) ⊎ ((j : ℕ) × (slice_get ys j ≡ Some d))
split [] ys i d e = inr (i, e)
split (x ∷ xs) ys zero d e = inl e
split (x ∷ xs) ys (suc i) d e = split xs ys i d e

none_loop : IsLoopMerge None → ⊥
none_loop (g, c, e, f) = none_some g e

-- what a numbered merge instruction is
loop_of : (number : ℕ → ℕ) (o : Option Merge) (g : Merge) → option_map (numbered_merge number) o ≡ Some g → is_loop g ≡ true → IsLoopMerge o
loop_of number None g e loop = absurd (none_some g e)
loop_of number (Some m) g e loop = by_kind m.kind refl (ap is_loop (inj e) ∙ loop)
  where
    by_kind : (k : MergeKind) → m.kind ≡ k → is_loop (numbered_merge number m) ≡ true → IsLoopMerge (Some m)
    by_kind Selection is told = absurd (true_false (sym told ∙ ap (λ k. is_loop (numbered_merge number (record { word = m.word; kind = k; merge_block = m.merge_block }))) is))
    by_kind (Loop c) is told = (m, c, refl, is)

-- the label that a block has
source_at : (xs : List Labeled) (i id : ℕ) → slice_get (map name_of xs) i ≡ Some id → (d : Labeled) × (slice_get xs i ≡ Some d) × (d.label ≡ id)
source_at [] i id e = absurd (cc)
source_at (x ∷ xs) zero id e = (x, refl, inj e)
source_at (x ∷ xs) (suc i) id e = source_at xs i id e

count_over : (bs : List BasicBlock) (m q : ℕ) → count_below m (holds bs q) ≡ over bs 0 m q
count_over bs zero q = refl
count_over bs (suc m) q =
    let rest = count_over bs m q in
    let same = ap (λ h. bit (holds bs q h)) (zero_more m) in
    omega (arith, rest, same)
  where
    zero_more : (m : ℕ) → m ≡ 0 + m
    zero_more m = omega arith

module _ (depth : ℕ) (front code back : List Inst) (label : ℕ) (before : AreInner front) (row : RowCode depth false label code) (behind : AreInner back) (once : EachOnce (label ∷ labels code)) where
  abbrev pub all_blocks : List BasicBlock
  all_blocks = fun.bs depth front code back label before row behind once

  abbrev pub all_labeled : List Labeled
  all_labeled = fun.ls depth front code back label before row behind once

  abbrev pub number : ℕ → ℕ
  number = fun.number depth front code back label before row behind once

  abbrev n : ℕ
  n = length (labels code)

  held : Held all_blocks 0 n (scan [] code)
  held =
      row_held all_blocks number depth false label code row (fun.v depth front code back label before row behind once) (fun.w depth front code back label before row behind once) 0 (fun.here depth front code back label before row behind once) (once_rest label (labels code) once)

  labeled_at : (i id : ℕ) → slice_get (label ∷ labels code) i ≡ Some id → (d : Labeled) × (slice_get all_labeled i ≡ Some d) × (d.label ≡ id)
  labeled_at i id e =
      source_at all_labeled i id (ap (λ xs. slice_get xs i) (fun.names_are depth front code back label before row behind once) ∙ e)

  -- the label of a place has its number
  number_at : (i id : ℕ) → slice_get (label ∷ labels code) i ≡ Some id → number id ≡ i
  number_at zero id e =
      ap number (sym (inj e)) ∙ (fun.here depth front code back label before row behind once).here
  number_at (suc i) id e =
      let is = (fun.here depth front code back label before row behind once).numbered i id e in
      omega (arith, is)

  end_plain : Plain all_blocks n
  end_plain g l =
      none_some g (ap (λ (b : BasicBlock). b.merge) (at_same all_blocks n (numbered_block number (fun.last depth front code back label before row behind once).block) l.0.0 (fun.last_at depth front code back label before row behind once) l.0.1.0) ∙ l.0.1.1)

  long : length all_blocks ≡ n + 1
  long =
      let one = length_map (λ (d : Labeled). numbered_block number d.block) all_labeled in
      let two = length-append (fun.inner depth front code back label before row behind once) (fun.last depth front code back label before row behind once ∷ []) in
      let three = fun.count depth front code back label before row behind once in
      omega (arith, one, two, three)

  in_loops : (q d : ℕ) → over all_blocks 0 n q ≡ d → InLoops all_blocks q d
  in_loops q d e =
      let all = count_over all_blocks (length all_blocks) q in
      let same = ap (λ m. over all_blocks 0 m q) long in
      let parts = over_split all_blocks 0 n 1 q in
      let place : n ≡ 0 + n = omega arith in
      let none = over_one all_blocks (0 + n) q (subst (Plain all_blocks) place end_plain) in
      (holds all_blocks q, λ h. (λ t. holds_told all_blocks q h t, λ s. holds_there all_blocks q h s), omega (arith, e, all, same, parts, none))

  -- a header of a loop, and where its block goes
  pub record Header (G : ℕ → List ℕ → Type 0) (h : ℕ) (b : BasicBlock) : Type 0 where
    pub labeled : Labeled
    pub there : slice_get all_labeled h ≡ Some labeled
    pub block_is : b ≡ numbered_block number labeled.block
    pub goes : G labeled.label labeled.block.targets

  module _ (G : ℕ → List ℕ → Type 0) (headed : Headed G label code) where
    pub header_of : (h : ℕ) (g : Merge) (l : Looping all_blocks h g) → Header G h l.0.0
    header_of h g l =
        let d = block_at all_labeled h l.0.0 l.0.1.0 in
        let loop = loop_of number d.0.block.merge g (ap (λ (b : BasicBlock). b.merge) (sym d.2) ∙ l.0.1.1) l.1 in
        elim (split (fun.inner depth front code back label before row behind once) (fun.last depth front code back label before row behind once ∷ []) h d.0 d.1) [
          | inl here ↦ record {
            labeled = d.0;
            there = d.1;
            block_is = d.2;
            goes = looped G label (Some (opened label (fun.v depth front code back label before row behind once))) (fun.w depth front code back label before row behind once) code (refl, λ m. absurd (none_loop m)) headed h d.0 here loop;
          }
          | inr end ↦ absurd (last_plain d.0 end.0 end.1 loop)
        ]
      where
        block_at : (ds : List Labeled) (i : ℕ) (b : BasicBlock) → slice_get (map (λ (d : Labeled). numbered_block number d.block) ds) i ≡ Some b → (d : Labeled) × (slice_get ds i ≡ Some d) × (b ≡ numbered_block number d.block)
        block_at [] i b e = absurd (cc)
        block_at (x ∷ ds) zero b e = (x, refl, sym (inj e))
        block_at (x ∷ ds) (suc i) b e = block_at ds i b e

        last_plain : (d : Labeled) (j : ℕ) → slice_get (fun.last depth front code back label before row behind once ∷ []) j ≡ Some d → IsLoopMerge d.block.merge → ⊥
        last_plain d zero e loop = none_loop (subst (λ (x : Labeled). IsLoopMerge x.block.merge) (sym (inj e)) loop)
        last_plain d (suc j) e loop = absurd (cc)

    -- a block whose label is no header's is no loop's header
    plain : (i id : ℕ) → slice_get (label ∷ labels code) i ≡ Some id → ((ts : List ℕ) → G id ts → ⊥) → Plain all_blocks i
    plain i id e other g l =
        let d = labeled_at i id e in
        let k = header_of i g l in
        let same : k.labeled ≡ d.0 = inj (sym k.there ∙ d.1) in
        other k.labeled.block.targets (subst (λ z. G z k.labeled.block.targets) (ap (λ (b : Labeled). b.label) same ∙ d.2) k.goes)

    -- the block of a label at which so many loops are open
    pub record LabelLoops (id d : ℕ) : Type 0 where
      pub number_is : ℕ
      pub labeled : Labeled
      pub there : slice_get all_labeled number_is ≡ Some labeled
      pub label_is : labeled.label ≡ id
      pub numbers : number id ≡ number_is
      pub loops : InLoops all_blocks number_is d

    pub label_loops : (id d : ℕ) → Marked label code id d → ((ts : List ℕ) → G id ts → ⊥) → LabelLoops id d
    label_loops id d (inl m) other =
        let here = labeled_at 0 id (ap Some m.0) in
        let self = over_self all_blocks 0 n (plain 0 id (ap Some m.0) other) in
        record { number_is = 0; labeled = here.0; there = here.1; label_is = here.2; numbers = number_at 0 id (ap Some m.0); loops = in_loops 0 d (omega (arith, self, m.1)) }
    label_loops id d (inr s) other =
        let here = labeled_at (suc s.place) id s.label_is in
        let same : suc s.place ≡ 0 + 1 + s.place = omega arith in
        let one = held.held s.place d s.loops_are (subst (Plain all_blocks) same (plain (suc s.place) id s.label_is other)) in
        let at = ap (λ q. over all_blocks 0 n q) same in
        record { number_is = suc s.place; labeled = here.0; there = here.1; label_is = here.2; numbers = number_at (suc s.place) id s.label_is; loops = in_loops (suc s.place) d (omega (arith, one, at)) }
