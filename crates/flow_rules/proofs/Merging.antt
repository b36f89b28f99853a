-- The least rule that is broken at a place, by asking one after the other.
use Rattle.std.proofs.Common.{ℕ, ◌≡◌, ◌<◌, ◌≤◌, ◌+◌, inl, inr, subst, arith, List, Some, None}
use Rattle.std.proofs.lemmas.Bool.{cases_lt}
use Rattle.flow_rules.specs.Blocks.{BasicBlock}
use Rattle.flow_rules.specs.declared.block.Merge.{Merge}
use Rattle.flow_rules.specs.declared.block.MergeKind.TheVariants.{Selection, Loop}
use Rattle.flow_rules.specs.Flow.{At, Header, Loops, SoleBack}
use Rattle.flow_rules.specs.Rules.{Suits, BreaksMerge, s2_stray, s2_kind, s3, s4, s5_before, s5_behind, s6, s7, s8_outside, s8_leaves}
use Rattle.flow_rules.specs.Answers.{RuleAnswer, NoneBelow, IsTidy}
use Rattle.flow_rules.proofs.Blocks.{at_same, loops_same}

module _ (B : ℕ → Type 0) where
  pub none_more : (n : ℕ) → NoneBelow B n → (B n → ⊥) → NoneBelow B (n + 1)
  none_more n z none = record {
    none = λ k h b. elim (cases_lt k n) [
      | inl low ↦ z.none k low b
      | inr high ↦ none (let same : k ≡ n = omega arith in subst B same b)
    ];
  }

  pub answer_some : (n : ℕ) → NoneBelow B n → B n → RuleAnswer (Some n) B
  answer_some n z b = (b, λ k c. elim (cases_lt k n) [ inl low ↦ absurd (z.none k low c) | inr high ↦ high ])

  pub answer_none : (n : ℕ) → NoneBelow B n → ((k : ℕ) → B k → k < n) → RuleAnswer None B
  answer_none n z high = λ k b. z.none k (high k b) b

module _ (bs : List BasicBlock) (p : ℕ) (g : Merge) where
  pub merge_first : NoneBelow (BreaksMerge bs p g) 2
  merge_first = record { none = go } where
    go : (k : ℕ) → k < 2 → BreaksMerge bs p g k → ⊥
    go k h (s2_stray s) = omega arith
    go k h (s2_kind s n) = omega arith
    go k h (s3 q e m w s) = omega arith
    go k h (s4 s n) = omega arith
    go k h (s5_before c l n) = omega arith
    go k h (s5_behind c l n) = omega arith
    go k h (s6 c l n) = omega arith
    go k h (s7 r s ir is o a b x) = omega arith
    go k h (s8_outside r c b l is s o) = omega arith
    go k h (s8_leaves r c b q l is s i o x) = omega arith

  pub merge_last : (k : ℕ) → BreaksMerge bs p g k → k < 9
  merge_last k (s2_stray s) = omega arith
  merge_last k (s2_kind s n) = omega arith
  merge_last k (s3 q e m w s) = omega arith
  merge_last k (s4 s n) = omega arith
  merge_last k (s5_before c l n) = omega arith
  merge_last k (s5_behind c l n) = omega arith
  merge_last k (s6 c l n) = omega arith
  merge_last k (s7 r s ir is o a b x) = omega arith
  merge_last k (s8_outside r c b l is s o) = omega arith
  merge_last k (s8_leaves r c b q l is s i o x) = omega arith

  module _ (b : BasicBlock) (at : At bs p b) (has : b.merge ≡ Some g) where
    abbrev pub the_header : Header bs p g
    the_header = record { block = b; at = at; merge = has }

    pub not_suited : (Suits g.kind b.terminator → ⊥) → BreaksMerge bs p g 2
    not_suited none = s2_kind the_header none

    pub suited : Suits g.kind b.terminator → IsTidy bs p → BreaksMerge bs p g 2 → ⊥
    suited s tidy (s2_stray f) = tidy.none g f
    suited s tidy (s2_kind h none) = none (subst (λ (x : BasicBlock). Suits g.kind x.terminator) (at_same bs p b h.block at h.at) s)

    pub not_ahead : g.merge_block ≤ p → BreaksMerge bs p g 4
    not_ahead low = s4 the_header low

    pub the_loop : (c : ℕ) → g.kind ≡ Loop c → Loops bs p g c
    the_loop c is = record { header = the_header; kind = is }

  pub ahead : p < g.merge_block → BreaksMerge bs p g 4 → ⊥
  ahead low (s4 h high) = omega arith

  no_loop : (c : ℕ) → g.kind ≡ Selection → Loops bs p g c → ⊥
  no_loop c is l = (let k = l.kind in cc)

  pub selection_5 : g.kind ≡ Selection → BreaksMerge bs p g 5 → ⊥
  selection_5 is (s5_before c l n) = no_loop c is l
  selection_5 is (s5_behind c l n) = no_loop c is l

  pub selection_6 : g.kind ≡ Selection → BreaksMerge bs p g 6 → ⊥
  selection_6 is (s6 c l n) = no_loop c is l

  pub selection_8 : g.kind ≡ Selection → BreaksMerge bs p g 8 → ⊥
  selection_8 is (s8_outside r c b l e s o) = no_loop c is l
  selection_8 is (s8_leaves r c b q l e s i o x) = no_loop c is l

  pub selection_answer : g.kind ≡ Selection → NoneBelow (BreaksMerge bs p g) 5 → NoneBelow (BreaksMerge bs p g) 7
  selection_answer is z = none_more (BreaksMerge bs p g) 6 (none_more (BreaksMerge bs p g) 5 z (selection_5 is)) (selection_6 is)

  pub selection_end : g.kind ≡ Selection → NoneBelow (BreaksMerge bs p g) 5 → (BreaksMerge bs p g 7 → ⊥) → RuleAnswer None (BreaksMerge bs p g)
  selection_end is z none = answer_none (BreaksMerge bs p g) 9 (none_more (BreaksMerge bs p g) 8 (none_more (BreaksMerge bs p g) 7 (selection_answer is z) none) (selection_8 is)) merge_last

  module _ (c : ℕ) (l : Loops bs p g c) where
    pub loop_5 : p ≤ c → c < g.merge_block → BreaksMerge bs p g 5 → ⊥
    loop_5 low high (s5_before d k n) = omega (arith, loops_same bs p g g d c k l)
    loop_5 low high (s5_behind d k n) = omega (arith, loops_same bs p g g d c k l)

    pub loop_6 : (b : ℕ) → SoleBack bs p b → BreaksMerge bs p g 6 → ⊥
    loop_6 b s (s6 d k none) = none b s

    pub none_6 : NoneBelow (BreaksMerge bs p g) 5 → p ≤ c → c < g.merge_block → NoneBelow (BreaksMerge bs p g) 6
    none_6 z low high = none_more (BreaksMerge bs p g) 5 z (loop_5 low high)

    pub none_7 : NoneBelow (BreaksMerge bs p g) 5 → p ≤ c → c < g.merge_block → (b : ℕ) → SoleBack bs p b → NoneBelow (BreaksMerge bs p g) 7
    none_7 z low high b s = none_more (BreaksMerge bs p g) 6 (none_6 z low high) (loop_6 b s)

    pub none_8 : NoneBelow (BreaksMerge bs p g) 5 → p ≤ c → c < g.merge_block → (b : ℕ) → SoleBack bs p b → (BreaksMerge bs p g 7 → ⊥) → NoneBelow (BreaksMerge bs p g) 8
    none_8 z low high b s none = none_more (BreaksMerge bs p g) 7 (none_7 z low high b s) none
