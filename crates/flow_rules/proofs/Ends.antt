-- What is decided at terminators.
use Rattle.std.proofs.Common.{ℕ, zero, suc, ◌≡◌, ◌≢◌, ◌<◌, ◌≤◌, ◌+◌, ◌⊎◌, inl, inr, refl, sym, ap, subst, ◌∙◌, arith, List, [], ◌∷◌, length, get_or, Option, Some, None, Bool, true, false}
use Rattle.std.specs.List.{Contains}
use Rattle.std.specs.Prelude.{not}
use Rattle.flow_scans.specs.declared.span.Span.{Span}
use Rattle.flow_rules.specs.Blocks.{BasicBlock}
use Rattle.flow_rules.specs.declared.block.Merge.{Merge}
use Rattle.flow_rules.specs.declared.block.Terminator.TheVariants.{Branch, BranchConditional, Switch, Return}
use Rattle.flow_rules.specs.Flow.{At, Edge, Loops, Switches}
use Rattle.flow_rules.specs.Rules.{Forks, conditional, switch, ClosesLoop, MayLeave, to_loop_merge, to_continue, to_switch_merge, to_header, BreaksEnd, s1_none, s1_equal, by_target, BreaksEdge, s6_target, s9, s10, s11}
use Rattle.flow_rules.specs.Lists.{SpanOf, LastOver, LoopOf, BodyOf, SwitchOf, IsSpanOf}
use Rattle.flow_rules.specs.Answers.{Tells, Closing, IsDoubled, EndsAt, LoopExit, loop_merge, loop_continue, SwitchExit}
use Rattle.flow_rules.proofs.Blocks.{loops_same, merge_same}
use Rattle.flow_rules.proofs.Leaving.{inner_at, inner_is, switch_at, switch_is}

pub true_not_false : (t : Bool) → t ≡ true → t ≡ false → ⊥
true_not_false t a b = cc

pub index_contains : (xs : List ℕ) (i : ℕ) → i < length xs → Contains xs (get_or xs i 0)
index_contains [] i h = absurd (omega arith)
index_contains (x ∷ xs) zero h = (zero, omega arith, refl)
index_contains (x ∷ xs) (suc i) h = (let (k, below, is) = index_contains xs i (omega arith) in (suc k, omega arith, is))

pub two_of : (xs : List ℕ) → length xs ≡ 2 → xs ≡ get_or xs 0 0 ∷ get_or xs 1 0 ∷ []
two_of [] e = absurd (omega arith)
two_of (x ∷ []) e = absurd (omega arith)
two_of (x ∷ y ∷ []) e = refl
two_of (x ∷ y ∷ z ∷ xs) e = absurd (omega arith)

pub doubled_not : (b : BasicBlock) → (length b.targets ≡ 2 → ⊥) → IsDoubled b → ⊥
doubled_not b other d = other (ap (λ (xs : List ℕ). length xs) d.targets ∙ refl)

pub doubled_tells : (b : BasicBlock) (xs : List ℕ) (t : Bool) → xs ≡ b.targets → length xs ≡ 2 → (t ≡ true → get_or xs 0 0 ≡ get_or xs 1 0) → (t ≡ false → get_or xs 0 0 ≢ get_or xs 1 0) → Tells t (IsDoubled b)
doubled_tells b xs true same two yes_is no_is = record { target = get_or xs 0 0; targets = sym same ∙ two_of xs two ∙ ap (λ (y : ℕ). get_or xs 0 0 ∷ y ∷ []) (sym (yes_is refl)) }
doubled_tells b xs false same two yes_is no_is = λ d. no_is refl (
    ap (λ (l : List ℕ). get_or l 0 0) (same ∙ d.targets) ∙ sym (ap (λ (l : List ℕ). get_or l 1 0) (same ∙ d.targets))
    )

module _ (bs : List BasicBlock) where
  pub listed_edge : (p q : ℕ) (b : BasicBlock) → At bs p b → Contains b.targets q → Edge bs p q
  listed_edge p q b at h = record { block = b; at = at; target = h }

  pub closing_none : (p h end : ℕ) → IsSpanOf None (LoopOf bs h) → Closing bs p h end → ⊥
  closing_none p h end none c = none h c.by.merge_block (record { by = c.by; continue_target = c.continue_target; loops = c.loops; first_is = refl; end_is = refl })

  pub closing_late : (p h end : ℕ) → p < h → Closing bs p h end → ⊥
  closing_late p h end late c = (let b = c.back in omega arith)

  pub closing_some : (p h end : ℕ) (s : Span) → h ≤ p → IsSpanOf (Some s) (LoopOf bs h) → s.end ≡ end → Closing bs p h end
  closing_some p h end s low (has, only) is = record { by = has.by; continue_target = has.continue_target; loops = has.loops; back = low; end_is = sym has.end_is ∙ is }

  pub closing_other : (p h end : ℕ) (s : Span) → IsSpanOf (Some s) (LoopOf bs h) → (s.end ≡ end → ⊥) → Closing bs p h end → ⊥
  closing_other p h end s (has, only) other c = other ((only h c.by.merge_block (record { by = c.by; continue_target = c.continue_target; loops = c.loops; first_is = refl; end_is = refl })).1 ∙ c.end_is)

  module _ (p : ℕ) (b : BasicBlock) (xs : List ℕ) (same : xs ≡ b.targets) where
    pub closes_not : (length xs ≡ 2 → ⊥) → ClosesLoop bs p b → ⊥
    closes_not other c = other (ap (λ (l : List ℕ). length l) same ∙ two c.targets) where
      two : (b.targets ≡ c.header ∷ c.by.merge_block ∷ []) ⊎ (b.targets ≡ c.by.merge_block ∷ c.header ∷ []) → length b.targets ≡ 2
      two (inl e) = ap (λ (l : List ℕ). length l) e
      two (inr e) = ap (λ (l : List ℕ). length l) e

    module _ (cond : b.terminator ≡ BranchConditional) (two : length xs ≡ 2) where
      pub closes_first : Closing bs p (get_or xs 0 0) (get_or xs 1 0) → ClosesLoop bs p b
      closes_first c = record {
        header = get_or xs 0 0;
        by = c.by;
        continue_target = c.continue_target;
        conditional_is = cond;
        loops = c.loops;
        back = c.back;
        targets = inl (sym same ∙ two_of xs two ∙ ap (λ (y : ℕ). get_or xs 0 0 ∷ y ∷ []) (sym c.end_is));
      }

      pub closes_second : Closing bs p (get_or xs 1 0) (get_or xs 0 0) → ClosesLoop bs p b
      closes_second c = record {
        header = get_or xs 1 0;
        by = c.by;
        continue_target = c.continue_target;
        conditional_is = cond;
        loops = c.loops;
        back = c.back;
        targets = inr (sym same ∙ two_of xs two ∙ ap (λ (y : ℕ). y ∷ get_or xs 1 0 ∷ []) (sym c.end_is));
      }

      pub closes_tell : (t : Bool) → (Closing bs p (get_or xs 0 0) (get_or xs 1 0) → ⊥) → Tells t (Closing bs p (get_or xs 1 0) (get_or xs 0 0)) → Tells t (ClosesLoop bs p b)
      closes_tell true not_first tells = closes_second tells
      closes_tell false not_first tells = go where
        go : ClosesLoop bs p b → ⊥
        go c = by_order c.targets where
          by_order : (b.targets ≡ c.header ∷ c.by.merge_block ∷ []) ⊎ (b.targets ≡ c.by.merge_block ∷ c.header ∷ []) → ⊥
          by_order (inl e) =
              let at_0 : get_or xs 0 0 ≡ c.header = ap (λ (l : List ℕ). get_or l 0 0) (same ∙ e) in
              let at_1 : get_or xs 1 0 ≡ c.by.merge_block = ap (λ (l : List ℕ). get_or l 1 0) (same ∙ e) in
              not_first (record {
                by = c.by;
                continue_target = c.continue_target;
                loops = subst (λ (x : ℕ). Loops bs x c.by c.continue_target) (sym at_0) c.loops;
                back = (let k = c.back in omega arith);
                end_is = sym at_1;
              })
          by_order (inr e) =
              let at_0 : get_or xs 0 0 ≡ c.by.merge_block = ap (λ (l : List ℕ). get_or l 0 0) (same ∙ e) in
              let at_1 : get_or xs 1 0 ≡ c.header = ap (λ (l : List ℕ). get_or l 1 0) (same ∙ e) in
              tells (record {
                by = c.by;
                continue_target = c.continue_target;
                loops = subst (λ (x : ℕ). Loops bs x c.by c.continue_target) (sym at_1) c.loops;
                back = (let k = c.back in omega arith);
                end_is = sym at_0;
              })

  -- ---- S1
  edge_not_1 : (p q : ℕ) → BreaksEdge bs p q 1 → ⊥
  edge_not_1 p q b = go 1 refl b where
    go : (k : ℕ) → k ≡ 1 → BreaksEdge bs p q k → ⊥
    go k e (s6_target l n) = omega arith
    go k e (s9 r is o i n) = omega arith
    go k e (s10 r is i o n m) = omega arith
    go k e (s11 r t ir it s o i e') = omega arith

  module _ (p : ℕ) (b : BasicBlock) where
    fork_only : (k : ℕ) → k ≡ 1 → ((Forks b.terminator → b.merge ≡ None → (ClosesLoop bs p b → ⊥) → ⊥)) → ((q : ℕ) → b.terminator ≡ BranchConditional → b.targets ≡ q ∷ q ∷ [] → ⊥) → BreaksEnd bs p b k → ⊥
    fork_only k e none equal (s1_none f m n) = none f m n
    fork_only k e none equal (s1_equal q t s) = equal q t s
    fork_only k e none equal (by_target q g x) = edge_not_1 p q (subst (λ (n : ℕ). BreaksEdge bs p q n) e x)

    no_fork : (b.terminator ≡ Branch) ⊎ (b.terminator ≡ Return) → Forks b.terminator → ⊥
    no_fork (inl e) f = go (subst Forks e f) where
      go : Forks Branch → ⊥
      go g = elim g [ ]
    no_fork (inr e) f = go (subst Forks e f) where
      go : Forks Return → ⊥
      go g = elim g [ ]

    pub fork_none : (b.terminator ≡ Branch) ⊎ (b.terminator ≡ Return) → BreaksEnd bs p b 1 → ⊥
    fork_none e = fork_only 1 refl (λ f m n. no_fork e f) (λ q t s. no_fork e (subst Forks (sym t) conditional))

    pub fork_switch : (t : Bool) → b.terminator ≡ Switch → Tells t (b.merge ≡ None) → Tells t (BreaksEnd bs p b 1)
    fork_switch true e is = s1_none (subst Forks (sym e) switch) is (λ c. (let h = c.conditional_is in cc))
    fork_switch false e none = fork_only 1 refl (λ f m n. none m) (λ q t s. cc)

    module _ (cond : b.terminator ≡ BranchConditional) where
      pub fork_doubled : IsDoubled b → BreaksEnd bs p b 1
      fork_doubled d = s1_equal d.target cond d.targets

      pub fork_header : (IsDoubled b → ⊥) → (b.merge ≡ None → ⊥) → BreaksEnd bs p b 1 → ⊥
      fork_header single some = fork_only 1 refl (λ f m n. some m) (λ q t s. single (record { target = q; targets = s }))

      pub fork_open : (t : Bool) → (IsDoubled b → ⊥) → b.merge ≡ None → Tells t (ClosesLoop bs p b) → Tells (not t) (BreaksEnd bs p b 1)
      fork_open true single none closes = fork_only 1 refl (λ f m n. n closes) (λ q t s. single (record { target = q; targets = s }))
      fork_open false single none closes = s1_none (subst Forks (sym cond) conditional) none closes

  -- ---- the blocks to which a branch may leave
  pub exit_loop_end : (h q : ℕ) (span : Option Span) → IsSpanOf span (LoopOf bs h) → EndsAt span q → LoopExit bs (h + 1) q
  exit_loop_end h q None none e = absurd e
  exit_loop_end h q (Some s) (has, only) e = loop_merge h has.by has.continue_target refl has.loops (sym e ∙ has.end_is)

  pub exit_loop : (inner h q : ℕ) (lo bo : Option Span) (t : Bool) → inner ≡ h + 1 → IsSpanOf lo (LoopOf bs h) → IsSpanOf bo (BodyOf bs h) → (EndsAt lo q → ⊥) → Tells t (EndsAt bo q) → Tells t (LoopExit bs inner q)
  exit_loop inner h q lo bo true is l d other ends = by_body bo d ends where
    by_body : (bo : Option Span) → IsSpanOf bo (BodyOf bs h) → EndsAt bo q → LoopExit bs inner q
    by_body None none e = absurd e
    by_body (Some s) (has, only) e = loop_continue h has.by s.end is has.loops (sym e)
  exit_loop inner h q lo bo false is l d other ends = go where
    at_loop : (lo : Option Span) → IsSpanOf lo (LoopOf bs h) → (g : Merge) (c : ℕ) → Loops bs h g c → q ≡ g.merge_block → EndsAt lo q
    at_loop None none g c k e = none h g.merge_block (record { by = g; continue_target = c; loops = k; first_is = refl; end_is = refl })
    at_loop (Some s) (has, only) g c k e = (only h g.merge_block (record { by = g; continue_target = c; loops = k; first_is = refl; end_is = refl })).1 ∙ sym e

    at_body : (bo : Option Span) → IsSpanOf bo (BodyOf bs h) → (g : Merge) (c : ℕ) → Loops bs h g c → q ≡ c → EndsAt bo q
    at_body None none g c k e = none h c (record { by = g; loops = k; first_is = refl })
    at_body (Some s) (has, only) g c k e = (only h c (record { by = g; loops = k; first_is = refl })).1 ∙ sym e

    here : (k : ℕ) → inner ≡ k + 1 → k ≡ h
    here k e = omega arith

    go : LoopExit bs inner q → ⊥
    go (loop_merge k g c e l' m) = other (at_loop lo l g c (subst (λ (x : ℕ). Loops bs x g c) (here k e) l') m)
    go (loop_continue k g c e l' m) = ends (at_body bo d g c (subst (λ (x : ℕ). Loops bs x g c) (here k e) l') m)

  pub exit_none : (q : ℕ) → LoopExit bs 0 q → ⊥
  exit_none q x = go 0 refl x where
    go : (n : ℕ) → n ≡ 0 → LoopExit bs n q → ⊥
    go n z (loop_merge k g c e l m) = omega arith
    go n z (loop_continue k g c e l m) = omega arith

  pub exit_switch : (sv h q : ℕ) (so : Option Span) (t : Bool) → sv ≡ h + 1 → IsSpanOf so (SwitchOf bs h) → Tells t (EndsAt so q) → Tells t (SwitchExit bs sv q)
  exit_switch sv h q None true is none ends = absurd ends
  exit_switch sv h q (Some s) true is (has, only) ends = record { header = h; by = has.by; switch_is = is; switches = has.switches; is = sym ends ∙ has.end_is }
  exit_switch sv h q so false is one ends = λ x. ends (at_switch so one x) where
    at_switch : (so : Option Span) → IsSpanOf so (SwitchOf bs h) → SwitchExit bs sv q → EndsAt so q
    at_switch None none x =
        let same : x.header ≡ h = omega (arith, x.switch_is) in
        none h x.by.merge_block (record { by = x.by; switches = subst (λ (y : ℕ). Switches bs y x.by) same x.switches; first_is = refl; end_is = refl })
    at_switch (Some s) (has, only) x =
        let same : x.header ≡ h = omega (arith, x.switch_is) in
        (only h x.by.merge_block (record { by = x.by; switches = subst (λ (y : ℕ). Switches bs y x.by) same x.switches; first_is = refl; end_is = refl })).1 ∙ sym x.is

  module _ (p q lv sv : ℕ) (ahead : p < q) (zl : LastOver (SpanOf (LoopOf bs)) 0 p lv) (zs : LastOver (SpanOf (SwitchOf bs)) 0 p sv) where
    pub may_by_loop : LoopExit bs lv q → MayLeave bs p q
    may_by_loop (loop_merge h g c e l m) =
        let at = inner_at bs p lv zl h e in
        let l_at = subst (λ (x : ℕ). Loops bs x g c) (sym at.of_is) l in
        to_loop_merge at.row at.inner (m ∙ merge_same bs at.row.of g at.row.by l_at.header at.inner.loop.loops.header)
    may_by_loop (loop_continue h g c e l m) =
        let at = inner_at bs p lv zl h e in
        let l_at = subst (λ (x : ℕ). Loops bs x g c) (sym at.of_is) l in
        to_continue at.row at.inner (m ∙ loops_same bs at.row.of g at.row.by c at.inner.loop.continue_target l_at at.inner.loop.loops)

    pub may_by_switch : lv ≤ sv → SwitchExit bs sv q → MayLeave bs p q
    may_by_switch near x =
        let at = switch_at bs p lv zl sv zs x.header x.switch_is near in
        let s_at = subst (λ (y : ℕ). Switches bs y x.by) (sym at.of_is) x.switches in
        to_switch_merge at.row at.inner (x.is ∙ merge_same bs at.row.of x.by at.row.by s_at.selects.header at.inner.switch.switches.selects.header)

    pub may_not : (LoopExit bs lv q → ⊥) → (lv ≤ sv → SwitchExit bs sv q → ⊥) → MayLeave bs p q → ⊥
    may_not no_loop no_switch (to_loop_merge l i e) = no_loop (loop_merge l.of l.by i.loop.continue_target (inner_is bs p lv zl l i) i.loop.loops e)
    may_not no_loop no_switch (to_continue l i e) = no_loop (loop_continue l.of l.by i.loop.continue_target (inner_is bs p lv zl l i) i.loop.loops e)
    may_not no_loop no_switch (to_switch_merge s i e) = (let (is, near) = switch_is bs p lv zl sv zs s i in no_switch near (record { header = s.of; by = s.by; switch_is = is; switches = i.switch.switches; is = e }))
    may_not no_loop no_switch (to_header l i e one) = (let f = i.loop.first_is in let h = i.holds.from in omega arith)

    pub may_tell : (t : Bool) → (LoopExit bs lv q → ⊥) → lv ≤ sv → Tells t (SwitchExit bs sv q) → Tells t (MayLeave bs p q)
    may_tell true no_loop near tells = may_by_switch near tells
    may_tell false no_loop near tells = may_not no_loop (λ h. tells)

  -- one more than a loop or a switch that holds a block is no more than the count
  pub loop_within : (p lv : ℕ) → p < length bs → LastOver (SpanOf (LoopOf bs)) 0 p lv → lv ≤ length bs
  loop_within p zero h z = omega arith
  loop_within p (suc l) h z = (let (e, has, early, over) = z.attained l (omega arith) in omega arith)

  pub switch_within : (p sv : ℕ) → p < length bs → LastOver (SpanOf (SwitchOf bs)) 0 p sv → sv ≤ length bs
  switch_within p zero h z = omega arith
  switch_within p (suc l) h z = (let (e, has, early, over) = z.attained l (omega arith) in omega arith)
