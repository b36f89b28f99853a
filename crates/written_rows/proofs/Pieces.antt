-- Rows that are put together from rows are rows, with the blocks that instructions make of them.
use Rattle.std.proofs.Common.{◌≡◌, ◌≢◌, ◌⊎◌, inl, inr, ℕ, zero, suc, ◌+◌, ◌<◌, ◌≤◌, Bool, true, List, [], ◌∷◌, ◌++◌, length, length-append, Some, None, refl, sym, ap, ◌∙◌, subst, arith}
use Rattle.std.proofs.lemmas.Bool.{cases_lt}
use Rattle.std.specs.Prelude.{slice_get, map, Contains}
use Rattle.spv_form.specs.declared.module.Inst.{Inst}
use Rattle.flow_rules.specs.Blocks.{BasicBlock}
use Rattle.flow_rules.specs.declared.block.Merge.{Merge}
use Rattle.flow_rules.specs.declared.block.MergeKind.TheVariants.{Selection, Loop}
use Rattle.flow_rules.specs.declared.block.Terminator.{Terminator}
use Rattle.flow_rules.specs.declared.block.Terminator.TheVariants.{Branch, BranchConditional, Return}
use Rattle.flow_rules.specs.Flow.{At, Loops}
use Rattle.flow_rules.specs.Rules.{Suits, selection_conditional, selection_switch, loop_branch, Forks, ClosesLoop}
use Rattle.flow_blocks.specs.Numbered.{numbered_block, numbered_merge}
use Rattle.row_laws.specs.Rows.{is_loop, continue_of, Branches, Heads, Looping, Goes, Fine, Neat}
use Rattle.row_laws.proofs.Basics.{none_some, some_inj, true_false, at_same, in_cons, first_in, next_in, only}
use Rattle.row_laws.proofs.Words as words
use Rattle.row_laws.proofs.Seq.{seq}
use Rattle.row_laws.proofs.Arms as arms
use Rattle.row_laws.proofs.Select as selections
use Rattle.row_laws.proofs.Cycle as cycles
use Rattle.written_rows.specs.Code.{label_inst, branch_inst, selection_inst, AreInner, labels, Parting, one_arm, two_arms, AreWays}
use Rattle.written_rows.proofs.Steps.{labels_append, inner_labels}
use Rattle.written_rows.proofs.Ends.{Forked, header_block}
use Rattle.written_rows.proofs.Standing.{contains_map, contains_mapped, contains_get, pushed, pushed_has, pushed_told, IsNeat, Good, no_neat, neat_on, neat_one}

-- ---- counts of labels

pub labels_more : (xs ys : List Inst) → AreInner ys → length (labels (xs ++ ys)) ≡ length (labels xs)
labels_more xs ys h =
    let one = ap length (labels_append xs ys) in
    let two = length-append (labels xs) (labels ys) in
    let three = ap length (inner_labels ys h) in
    omega (arith, one, two, three)

pub labels_onward : (xs : List Inst) (next : ℕ) (ys : List Inst) → length (labels (xs ++ (branch_inst next ∷ label_inst next ∷ ys))) ≡ length (labels xs) + 1 + length (labels ys)
labels_onward xs next ys =
    let one = ap length (labels_append xs (branch_inst next ∷ label_inst next ∷ ys)) in
    let two = length-append (labels xs) (next ∷ labels ys) in
    omega (arith, one, two)

pub labels_select : (xs : List Inst) (meet : ℕ) (x : Inst) (code : List Inst) → ((ys : List Inst) → labels (x ∷ ys) ≡ labels ys) → length (labels (xs ++ (selection_inst meet ∷ x ∷ (code ++ (label_inst meet ∷ []))))) ≡ length (labels xs) + length (labels code) + 1
labels_select xs meet x code plain =
    let tail = code ++ (label_inst meet ∷ []) in
    let one = ap length (labels_append xs (selection_inst meet ∷ x ∷ tail)) in
    let two = length-append (labels xs) (labels (x ∷ tail)) in
    let three = ap length (plain tail) in
    let four = ap length (labels_append code (label_inst meet ∷ [])) in
    let five = length-append (labels code) (meet ∷ []) in
    omega (arith, one, two, three, four, five)

module _ (bs : List BasicBlock) (number : ℕ → ℕ) where
  -- ---- blocks that end with a branch

  -- the block without a merge instruction that branches to a label
  abbrev pub branching : (l v w next : ℕ) → BasicBlock
  branching l v w next =
      numbered_block number (record { word = v; strays = []; merge = None; terminator = Branch; end_word = w; targets = next ∷ [] })

  branching_neat : (l v w next p : ℕ) → Neat bs p (branching l v w next) × (Branch ≡ Return → ⊥)
  branching_neat l v w next p =
      (record { tidy = refl; suits = λ g e. absurd (none_some g e); closes = λ forks e. absurd (no_fork forks); two = λ q e f. no_conditional e }, no_return)
    where
      no_conditional : Branch ≡ BranchConditional → ⊥
      no_conditional e = cc

      no_return : Branch ≡ Return → ⊥
      no_return e = cc

      no_fork : Forks Branch → ⊥
      no_fork h = elim h [ ]

  goes_to : (k m l v w next : ℕ) → At bs k (branching l v w next) → number next ≡ m → Goes bs k m
  goes_to k m l v w next at e = (branching l v w next, at, refl, ap (λ n. n ∷ []) e)

  not_header : (k m : ℕ) (g : Merge) → Goes bs k m → Looping bs k g → ⊥
  not_header k m g (b, at, none, ts) l =
      none_some g (sym none ∙ subst (λ (x : BasicBlock). x.merge ≡ Some g) (at_same bs k l.0.0 b l.0.1.0 at) l.0.1.1)

  -- ---- one row behind another

  pub onward_good : (b c : Bool) (k n m l v w next : ℕ) → Good bs number b k n → At bs (k + n) (branching l v w next) → number next ≡ k + n + 1 → Good bs number c (k + n + 1) m → Good bs number b k (n + 1 + m)
  onward_good b c k n m l v w next f at is g =
      let goes = goes_to (k + n) (k + n + 1) l v w next at is in
      let whole : k + n + 1 + m + 1 ≡ k + (n + 1 + m) + 1 = omega arith in
      let end : k + n + 1 + m ≡ k + (n + 1 + m) = omega arith in
      record {
        fine = subst (Fine bs k) whole (seq bs k (k + n) (k + n + 1 + m + 1) f.fine g.fine goes);
        neat = subst (IsNeat bs number k) end (neat_on bs number k (k + n) (k + n + 1 + m) f.neat (neat_on bs number (k + n) (k + n + 1) (k + n + 1 + m) (neat_one bs number (k + n) (branching l v w next) at (branching_neat l v w next (k + n))) g.neat));
        first = λ plain some h loop. elim (cases_lt 0 n) [
          | inl lt ↦ f.first plain lt h loop
          | inr le ↦ (let same : k + n ≡ k = omega (arith, le) in not_header (k + n) (k + n + 1) h goes (subst (λ p. Looping bs p h) (sym same) loop))
        ];
      }

  -- ---- arms

  -- what is promised of arms from block m on, of n blocks, that meet at x, behind those of the selection at block a - 1 that are there already
  pub record AreGood (a m n x : ℕ) (ids ts : List ℕ) : Type 0 where
    pub arms_are : arms.Arms bs a (m + n) x (pushed number ids ts)
    pub neat : IsNeat bs number m (m + n)
    pub low : (i id : ℕ) → slice_get ids i ≡ Some id → m ≤ number id
    pub high : (i id : ℕ) → slice_get ids i ≡ Some id → number id < m + n
    pub apart : (i j id other : ℕ) → slice_get ids i ≡ Some id → slice_get ids j ≡ Some other → i ≢ j → number id ≢ number other

  pub no_arms_good : (a m x : ℕ) (ts : List ℕ) → arms.Arms bs a m x ts → AreGood a m 0 x [] ts
  no_arms_good a m x ts h =
      let same : m ≡ m + 0 = omega arith in
      record {
        arms_are = subst (λ z. arms.Arms bs a z x ts) same h;
        neat = subst (IsNeat bs number m) same (no_neat bs number m);
        low = λ i id e. absurd (cc);
        high = λ i id e. absurd (cc);
        apart = λ i j id other e f. absurd (cc);
      }

  pub arm_good : (a m n k x label meet l v w : ℕ) (ids ts : List ℕ) (b : Bool) → arms.Arms bs a m x ts → a ≤ m → Good bs number b m n → number label ≡ m → At bs (m + n) (branching l v w meet) → number meet ≡ x → m + n < x → (arms.Arms bs a (m + n + 1) x (number label ∷ ts) → AreGood a (m + n + 1) k x ids (number label ∷ ts)) → AreGood a m (1 + n + k) x (label ∷ ids) ts
  arm_good a m n k x label meet l v w ids ts b before am body is at meets mx rest =
      let goes = goes_to (m + n) x l v w meet at meets in
      let now = subst (λ t. arms.Arms bs a (m + n + 1) x (t ∷ ts)) (sym is) (arms.arm bs a m (m + n) x ts before body.fine goes am mx) in
      let r = rest now in
      let end : m + n + 1 + k ≡ m + (1 + n + k) = omega arith in
      record {
        arms_are = subst (λ z. arms.Arms bs a z x (pushed number (label ∷ ids) ts)) end r.arms_are;
        neat = subst (IsNeat bs number m) end (neat_on bs number m (m + n) (m + n + 1 + k) body.neat (neat_on bs number (m + n) (m + n + 1) (m + n + 1 + k) (neat_one bs number (m + n) (branching l v w meet) at (branching_neat l v w meet (m + n))) r.neat));
        low = low_at r;
        high = high_at r;
        apart = apart_at r;
      }
    where
      inj : {p q : ℕ} → Some p ≡ Some q → p ≡ q
      inj e = cc

      low_at : AreGood a (m + n + 1) k x ids (number label ∷ ts) → (i id : ℕ) → slice_get (label ∷ ids) i ≡ Some id → m ≤ number id
      low_at r zero id e =
          let same = ap number (inj e) in
          omega (arith, same, is)
      low_at r (suc i) id e =
          let h = r.low i id e in
          omega (arith, h)

      high_at : AreGood a (m + n + 1) k x ids (number label ∷ ts) → (i id : ℕ) → slice_get (label ∷ ids) i ≡ Some id → number id < m + (1 + n + k)
      high_at r zero id e =
          let same = ap number (inj e) in
          omega (arith, same, is)
      high_at r (suc i) id e =
          let h = r.high i id e in
          omega (arith, h)

      apart_at : AreGood a (m + n + 1) k x ids (number label ∷ ts) → (i j id other : ℕ) → slice_get (label ∷ ids) i ≡ Some id → slice_get (label ∷ ids) j ≡ Some other → i ≢ j → number id ≢ number other
      apart_at r zero zero id other e f ne same = ne refl
      apart_at r zero (suc j) id other e f ne same =
          let first = ap number (inj e) in
          let h = r.low j other f in
          omega (arith, first, is, same, h)
      apart_at r (suc i) zero id other e f ne same =
          let first = ap number (inj f) in
          let h = r.low i id e in
          omega (arith, first, is, same, h)
      apart_at r (suc i) (suc j) id other e f ne same = r.apart i j id other e f (λ s. ne (ap suc s)) same

  -- ---- a selection

  abbrev meeting : (w meet : ℕ) → Merge
  meeting w meet = numbered_merge number (record { word = w; kind = Selection; merge_block = meet })

  abbrev pub heading : (l v w meet : ℕ) → Terminator → List ℕ → BasicBlock
  heading l v w meet kind ways = numbered_block number (header_block l v w meet kind ways).block

  heading_neat : (l v w meet p : ℕ) (ids ways : List ℕ) (x : Inst) (f : Forked meet ids x ways) → ((there other : ℕ) → Parting meet ids there other → number there ≢ number other) → Neat bs p (heading l v w meet f.kind ways) × (f.kind ≡ Return → ⊥)
  heading_neat l v w meet p ids ways x f parts = (
    record {
      tidy = refl;
      suits = λ g e. subst (λ (m : Merge). Suits m.kind f.kind) (some_inj (meeting w meet) g e) f.suits;
      closes = λ forks e. absurd (none_some (meeting w meet) (sym e));
      two = λ q k e. (let y = f.parts q number k e in parts y.0 y.1 y.2 y.3);
    },
    no_return f.kind f.suits,
  )
    where
      no_return : (t : Terminator) → Suits Selection t → t ≡ Return → ⊥
      no_return t (selection_conditional) e = cc
      no_return t (selection_switch) e = cc

  pub select_good : (b : Bool) (k n m l v w meet : ℕ) (ids ways : List ℕ) (x : Inst) (f : Forked meet ids x ways) → AreWays meet ids ways → Good bs number b k n → At bs (k + n) (heading l v w meet f.kind ways) → number meet ≡ k + n + 1 + m → AreGood (k + n + 1) (k + n + 1) m (k + n + 1 + m) ids [] → Good bs number b k (n + m + 1)
  select_good b k n m l v w meet ids ways x f are g at is h =
      let j = k + n in
      let z = k + n + 1 + m in
      let ts = pushed number ids [] in
      let whole : z + 1 ≡ k + (n + m + 1) + 1 = omega arith in
      let end : z ≡ k + (n + m + 1) = omega arith in
      record {
        fine = subst (Fine bs k) whole (selections.select bs k j z (meeting w meet) ts g.fine (heading l v w meet f.kind ways, at, refl) refl is out all (omega arith) h.arms_are);
        neat = subst (IsNeat bs number k) end (neat_on bs number k j z g.neat (neat_on bs number j (j + 1) z (neat_one bs number j (heading l v w meet f.kind ways) at (heading_neat l v w meet j ids ways x f parts)) h.neat));
        first = λ plain some c loop. elim (cases_lt 0 n) [
          | inl lt ↦ g.first plain lt c loop
          | inr le ↦ (let same : k + n ≡ k = omega (arith, le) in no_header c (subst (λ p. Looping bs p c) (sym same) loop))
        ];
      }
    where
      targets_at : (q : ℕ) → Branches bs (k + n) q → Contains (map number ways) q
      targets_at q (c, ct, has) =
          subst (λ (x : BasicBlock). Contains x.targets q) (at_same bs (k + n) c (heading l v w meet f.kind ways) ct at) has

      out : (q : ℕ) → Branches bs (k + n) q → (q ≡ k + n + 1 + m) ⊎ Contains (pushed number ids []) q
      out q ed =
          let y = contains_mapped number ways q (targets_at q ed) in
          elim (are.each y.0 y.1) [
            | inl e ↦ inl (sym y.2 ∙ ap number e ∙ is)
            | inr i ↦ inr (subst (Contains (pushed number ids [])) y.2 (pushed_has number ids [] y.0 i))
          ]

      all : (q : ℕ) → Contains (pushed number ids []) q → Branches bs (k + n) q
      all q has = elim (pushed_told number ids [] q has) [
        | inl i ↦ absurd (let y = i.1 in omega (arith, y))
        | inr y ↦ (heading l v w meet f.kind ways, at, subst (Contains (map number ways)) y.2 (contains_map number ways y.0 (are.all y.0 y.1)))
      ]

      parts : (there other : ℕ) → Parting meet ids there other → number there ≢ number other
      parts there other (one_arm has e) same =
          let y = contains_get ids there has in
          let low = h.high y.0 there y.1 in
          let there_is = ap number e in
          omega (arith, low, same, there_is, is)
      parts there other (two_arms i j e f ne) same = h.apart i j there other e f ne same

      no_header : (other : Merge) → Looping bs (k + n) other → ⊥
      no_header other loop =
          let e = some_inj (meeting w meet) other (ap (λ (x : BasicBlock). x.merge) (at_same bs (k + n) (heading l v w meet f.kind ways) loop.0.0 at loop.0.1.0) ∙ loop.0.1.1) in
          true_false (sym loop.1 ∙ sym (ap is_loop e))

  -- ---- a loop

  abbrev looping : (w meet next : ℕ) → Merge
  looping w meet next = numbered_merge number (record { word = w; kind = Loop next; merge_block = meet })

  -- the header
  abbrev pub entering : (v w meet next u first : ℕ) → BasicBlock
  entering v w meet next u first =
      numbered_block number (record { word = v; strays = []; merge = Some (record { word = w; kind = Loop next; merge_block = meet }); terminator = Branch; end_word = u; targets = first ∷ [] })

  entering_neat : (v w meet next u first p : ℕ) → Neat bs p (entering v w meet next u first) × (Branch ≡ Return → ⊥)
  entering_neat v w meet next u first p = (
    record {
      tidy = refl;
      suits = λ g e. subst (λ (m : Merge). Suits m.kind Branch) (some_inj (looping w meet next) g e) (loop_branch (number next));
      closes = λ forks e. absurd (none_some (looping w meet next) (sym e));
      two = λ q e f. no_conditional e;
    },
    no_return,
  )
    where
      no_conditional : Branch ≡ BranchConditional → ⊥
      no_conditional e = cc

      no_return : Branch ≡ Return → ⊥
      no_return e = cc

  -- the continue target
  abbrev pub testing : (v w there other : ℕ) → BasicBlock
  testing v w there other =
      numbered_block number (record { word = v; strays = []; merge = None; terminator = BranchConditional; end_word = w; targets = there ∷ other ∷ [] })

  -- its two ways, as numbers
  abbrev pub Round : (k z a b : ℕ) → Type 0
  Round k z a b = ((a ≡ k) × (b ≡ z)) ⊎ ((a ≡ z) × (b ≡ k))

  testing_neat : (v w there other k j z : ℕ) (g : Merge) → Looping bs k g → continue_of g ≡ j → g.merge_block ≡ z → Round k z (number there) (number other) → k ≤ j → k < z → Neat bs j (testing v w there other) × (BranchConditional ≡ Return → ⊥)
  testing_neat v w there other k j z g l next meets round low high =
      (record { tidy = refl; suits = λ f e. absurd (none_some f e); closes = λ forks e. closing; two = λ q e f. apart q f }, no_return)
    where
      no_return : BranchConditional ≡ Return → ⊥
      no_return e = cc

      loops : Loops bs k g (continue_of g)
      loops = words.loop bs k g l

      pair : (a b c d : ℕ) → a ≡ c → b ≡ d → a ∷ b ∷ [] ≡ c ∷ d ∷ []
      pair a b c d e f = cc

      closing : ClosesLoop bs j (testing v w there other)
      closing = record {
        header = k;
        by = g;
        continue_target = continue_of g;
        conditional_is = refl;
        loops = loops;
        back = low;
        targets = elim round [
          | inl r ↦ inl (pair (number there) (number other) k g.merge_block r.0 (r.1 ∙ sym meets))
          | inr r ↦ inr (pair (number there) (number other) g.merge_block k (r.0 ∙ sym meets) r.1)
        ];
      }

      first_same : {a b q : ℕ} → a ∷ b ∷ [] ≡ q ∷ q ∷ [] → a ≡ b
      first_same e = cc

      apart : (q : ℕ) → number there ∷ number other ∷ [] ≡ q ∷ q ∷ [] → ⊥
      apart q e =
          let same = first_same e in
          elim round [ inl r ↦ omega (arith, same, r.0, r.1, high) | inr r ↦ omega (arith, same, r.0, r.1, high) ]

  pub cycle_good : (b : Bool) (k n v w meet next u first : ℕ) (l1 v1 w1 : ℕ) (v2 w2 there other : ℕ) → At bs k (entering v w meet next u first) → number first ≡ k + 1 → Good bs number b (k + 1) n → At bs (k + 1 + n) (branching l1 v1 w1 next) → number next ≡ k + 1 + n + 1 → At bs (k + 1 + n + 1) (testing v2 w2 there other) → number meet ≡ k + 1 + n + 2 → Round k (k + 1 + n + 2) (number there) (number other) → Good bs number true k (n + 3)
  cycle_good b k n v w meet next u first l1 v1 w1 v2 w2 there other at first_is body ends next_is tests meet_is round =
      let j = k + 1 + n in
      let goes = goes_to j (j + 1) l1 v1 w1 next ends next_is in
      let whole : j + 3 ≡ k + (n + 3) + 1 = omega arith in
      let end : j + 1 + 1 ≡ k + (n + 3) = omega arith in
      let loop : Looping bs k (looping w meet next) = ((entering v w meet next u first, (at, refl)), refl) in
      let last = testing_neat v2 w2 there other k (j + 1) (j + 2) (looping w meet next) loop next_is meet_is round (omega arith) (omega arith) in
      record {
        fine = subst (Fine bs k) whole (cycles.cycle bs k j (looping w meet next) (entering v w meet next u first, at, refl) refl next_is meet_is into_only into body.fine goes free out again);
        neat = subst (IsNeat bs number k) end (neat_on bs number k (k + 1) (j + 1 + 1) (neat_one bs number k (entering v w meet next u first) at (entering_neat v w meet next u first k)) (neat_on bs number (k + 1) j (j + 1 + 1) body.neat (neat_on bs number j (j + 1) (j + 1 + 1) (neat_one bs number j (branching l1 v1 w1 next) ends (branching_neat l1 v1 w1 next j)) (neat_one bs number (j + 1) (testing v2 w2 there other) tests last))));
        first = λ plain some g loop. true_false plain;
      }
    where
      into_only : (q : ℕ) → Branches bs k q → q ≡ k + 1
      into_only q (c, ct, has) =
          only (number first) q (subst (λ (x : BasicBlock). Contains x.targets q) (at_same bs k c (entering v w meet next u first) ct at) has) ∙ first_is

      into : Branches bs k (k + 1)
      into = (entering v w meet next u first, at, subst (Contains (number first ∷ [])) first_is (first_in (number first) []))

      free : (c : BasicBlock) (f : Merge) → Heads bs (k + 1 + n + 1) c f → ⊥
      free c f h =
          none_some f (subst (λ (x : BasicBlock). x.merge ≡ Some f) (at_same bs (k + 1 + n + 1) c (testing v2 w2 there other) h.0 tests) h.1)

      ways : (q : ℕ) → Branches bs (k + 1 + n + 1) q → (q ≡ number there) ⊎ (q ≡ number other)
      ways q (c, ct, has) =
          let i = subst (λ (x : BasicBlock). Contains x.targets q) (at_same bs (k + 1 + n + 1) c (testing v2 w2 there other) ct tests) has in
          elim (in_cons q (number there) (number other ∷ []) i) [ inl e ↦ inl e | inr r ↦ inr (only (number other) q r) ]

      out : (q : ℕ) → Branches bs (k + 1 + n + 1) q → (q ≡ k) ⊎ (q ≡ k + 1 + n + 2)
      out q ed = elim (ways q ed) [
        | inl e ↦ elim round [ inl r ↦ inl (e ∙ r.0) | inr r ↦ inr (e ∙ r.0) ]
        | inr e ↦ elim round [ inl r ↦ inr (e ∙ r.1) | inr r ↦ inl (e ∙ r.1) ]
      ]

      again : Branches bs (k + 1 + n + 1) k
      again = (
        testing v2 w2 there other,
        tests,
        elim round [
          | inl r ↦ subst (Contains (number there ∷ number other ∷ [])) r.0 (first_in (number there) (number other ∷ []))
          | inr r ↦ subst (Contains (number there ∷ number other ∷ [])) r.1 (next_in (number there) (number other) (number other ∷ []) (first_in (number other) []))
        ],
      )
