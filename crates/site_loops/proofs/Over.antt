-- How many of the loops of some blocks hold a block.
use Rattle.std.proofs.Common.{◌≡◌, ℕ, zero, suc, ◌+◌, ◌<◌, ◌≤◌, Bool, true, false, cond, leb, ltb, List, Option, Some, None, refl, ap, ◌∙◌, subst, arith}
use Rattle.std.specs.Prelude.{slice_get, ◌&&◌}
use Rattle.flow_rules.specs.Blocks.{BasicBlock}
use Rattle.flow_rules.specs.declared.block.Merge.{Merge}
use Rattle.flow_rules.specs.declared.block.MergeKind.{MergeKind}
use Rattle.flow_rules.specs.declared.block.MergeKind.TheVariants as merge
use Rattle.row_laws.specs.Rows.{is_loop, continue_of, Looping, Within, Fine}
use Rattle.row_laws.proofs.Arms.{Arms}
use Rattle.site_loops.specs.Sites.{StandsIn}

-- a merge instruction of block h, whose loop construct holds block q
abbrev kind_holds : MergeKind → (h q : ℕ) → Bool
kind_holds merge.Selection h q = false
kind_holds (merge.Loop c) h q = leb h q && ltb q c

abbrev merge_holds : Option Merge → (h q : ℕ) → Bool
merge_holds None h q = false
merge_holds (Some g) h q = kind_holds g.kind h q

abbrev block_holds : Option BasicBlock → (h q : ℕ) → Bool
block_holds None h q = false
block_holds (Some b) h q = merge_holds b.merge h q

abbrev pub bit : Bool → ℕ
bit b = cond b 1 0

both_true : (a b : Bool) → (a && b) ≡ true → (a ≡ true) × (b ≡ true)
both_true true b e = (refl, e)
both_true false b e = absurd (let never : false ≡ true = e in cc)

not_true : (b : Bool) → (b ≡ true → ⊥) → b ≡ false
not_true true h = absurd (h refl)
not_true false h = refl

le_of : (a b : ℕ) → leb a b ≡ true → a ≤ b
le_of a b e = grind arith

lt_of : (a b : ℕ) → ltb a b ≡ true → a < b
lt_of a b e = grind arith

of_le : (a b : ℕ) → a ≤ b → leb a b ≡ true
of_le a b e = grind arith

of_lt : (a b : ℕ) → a < b → ltb a b ≡ true
of_lt a b e = grind arith

module _ (bs : List BasicBlock) where
  abbrev pub holds : (q h : ℕ) → Bool
  holds q h = block_holds (slice_get bs h) h q

  -- the test tells of each block whether it is a header whose loop construct holds block q
  pub holds_told : (q h : ℕ) → holds q h ≡ true → StandsIn bs q h
  holds_told q h e = by_block (slice_get bs h) refl e
    where
      by_kind : (b : BasicBlock) → slice_get bs h ≡ Some b → (g : Merge) → b.merge ≡ Some g → (k : MergeKind) → g.kind ≡ k → kind_holds k h q ≡ true → StandsIn bs q h
      by_kind b at g has merge.Selection is e = absurd (let never : false ≡ true = e in cc)
      by_kind b at g has (merge.Loop c) is e =
          let two = both_true (leb h q) (ltb q c) e in
          record { by = g; continue_target = c; loops = record { header = record { block = b; at = at; merge = has }; kind = is }; from = le_of h q two.0; before = lt_of q c two.1 }

      by_merge : (b : BasicBlock) → slice_get bs h ≡ Some b → (o : Option Merge) → b.merge ≡ o → merge_holds o h q ≡ true → StandsIn bs q h
      by_merge b at None has e = absurd (let never : false ≡ true = e in cc)
      by_merge b at (Some g) has e = by_kind b at g has g.kind refl e

      by_block : (o : Option BasicBlock) → slice_get bs h ≡ o → block_holds o h q ≡ true → StandsIn bs q h
      by_block None at e = absurd (let never : false ≡ true = e in cc)
      by_block (Some b) at e = by_merge b at b.merge refl e

  pub holds_there : (q h : ℕ) → StandsIn bs q h → holds q h ≡ true
  holds_there q h s =
      let low = s.from in
      let high = s.before in
      ap (λ o. block_holds o h q) s.loops.header.at ∙ ap (λ o. merge_holds o h q) s.loops.header.merge ∙ ap (λ k. kind_holds k h q) s.loops.kind ∙ ap (λ b. b && ltb q s.continue_target) (of_le h q low) ∙ of_lt q s.continue_target high

  looping_of : (q h : ℕ) (s : StandsIn bs q h) → Looping bs h s.by
  looping_of q h s =
      ((s.loops.header.block, (s.loops.header.at, s.loops.header.merge)), ap is_kind_loop s.loops.kind)
    where
      is_kind_loop : MergeKind → Bool
      is_kind_loop k = is_loop (record { word = 0; kind = k; merge_block = 0 })

  -- of n blocks from block k on
  abbrev pub over : (k n q : ℕ) → ℕ
  over k zero q = 0
  over k (suc n) q = over k n q + bit (holds q (k + n))

  pub over_split : (k m n q : ℕ) → over k (m + n) q ≡ over k m q + over (k + m) n q
  over_split k m zero q =
      let same = ap (λ j. over k j q) (more_none m) in
      omega (arith, same)
    where
      more_none : (m : ℕ) → m + 0 ≡ m
      more_none m = omega arith
  over_split k m (suc n) q =
      let rest = over_split k m n q in
      let same = ap (λ j. over k j q) (one_more m n) in
      let at = ap (λ h. bit (holds q h)) (same_place k m n) in
      omega (arith, rest, same, at)
    where
      one_more : (m n : ℕ) → m + suc n ≡ suc (m + n)
      one_more m n = omega arith

      same_place : (k m n : ℕ) → k + (m + n) ≡ k + m + n
      same_place k m n = omega arith

  -- none of them holds it
  pub over_none : (k n q : ℕ) → ((h : ℕ) → k ≤ h → h < k + n → StandsIn bs q h → ⊥) → over k n q ≡ 0
  over_none k zero q h = refl
  over_none k (suc n) q h =
      let rest = over_none k n q (λ j low high s. h j low (omega (arith, high)) s) in
      let one = ap bit (not_true (holds q (k + n)) (λ e. h (k + n) (omega arith) (omega arith) (holds_told q (k + n) e))) in
      omega (arith, rest, one)

  -- blocks from the block behind q on do not hold q, and q itself only where it is a loop's header
  pub over_behind : (k n q : ℕ) → q < k → over k n q ≡ 0
  over_behind k n q less =
      over_none k n q (λ h low high s. (let from = s.from in omega (arith, from, low, less)))

  pub over_self : (k n : ℕ) → ((g : Merge) → Looping bs k g → ⊥) → over k n k ≡ 0
  over_self k n plain =
      over_none k n k (λ h low high s. (let from = s.from in let same : h ≡ k = omega (arith, from, low) in plain s.by (subst (λ j. Looping bs j s.by) same (looping_of k h s))))

  -- a row does not hold what is behind it
  pub over_past : (k n q : ℕ) → Fine bs k (k + n + 1) → k + n ≤ q → over k n q ≡ 0
  over_past k n q f past =
      over_none k n q (λ h low high s. (let l = looping_of q h s in
      let w : Within k (k + n + 1) h = (low, omega (arith, high)) in
      let ahead = f.ahead h l.0.0 s.by w l.0.1 in
      let loop = f.loops h s.by w l in
      let before = s.before in
      let is = continue_is q h s in
      omega (arith, ahead.1, loop.1, before, is, past)))
    where
      target_of : MergeKind → ℕ
      target_of k = continue_of (record { word = 0; kind = k; merge_block = 0 })

      continue_is : (q h : ℕ) (s : StandsIn bs q h) → continue_of s.by ≡ s.continue_target
      continue_is q h s = ap target_of s.loops.kind

  continue_same : (q h : ℕ) (s : StandsIn bs q h) → continue_of s.by ≡ s.continue_target
  continue_same q h s = ap target_of s.loops.kind
    where
      target_of : MergeKind → ℕ
      target_of k = continue_of (record { word = 0; kind = k; merge_block = 0 })

  -- nor do arms
  pub arms_past : (a n q x : ℕ) (ts : List ℕ) → Arms bs a (a + n) x ts → a + n ≤ q → over a n q ≡ 0
  arms_past a n q x ts f past =
      over_none a n q (λ h low high s. (let l = looping_of q h s in
      let ahead = f.ahead h l.0.0 s.by (low, high) l.0.1 in
      let loop = f.loops h s.by (low, high) l in
      let before = s.before in
      let is = continue_same q h s in
      omega (arith, ahead.1, loop.1, before, is, past)))

  -- a block that is no loop's header
  abbrev pub Plain : ℕ → Type 0
  Plain q = (g : Merge) → Looping bs q g → ⊥

  pub over_one : (h q : ℕ) → Plain h → over h 1 q ≡ 0
  over_one h q plain =
      over_none h 1 q (λ j low high s. (let same : j ≡ h = omega (arith, low, high) in plain s.by (subst (λ i. Looping bs i s.by) same (looping_of q j s))))
