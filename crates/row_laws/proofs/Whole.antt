-- The blocks of a function that is one whole row break no rule.
use Rattle.std.proofs.Common.{◌≡◌, ◌≢◌, ℕ, ◌+◌, ◌<◌, ◌≤◌, inl, inr, List, refl, sym, ◌∙◌, ap, subst, arith, true, false, Some, Contains}
use Rattle.std.proofs.lemmas.Bool.{cases_lt, cases_order}
use Rattle.dx_base.specs.First.{IsSound}
use Rattle.flow_rules.specs.Blocks.{BasicBlock}
use Rattle.flow_rules.specs.declared.block.Merge.{Merge}
use Rattle.flow_rules.specs.Flow.{Row, In, At, Edge, Header, Loops, StructuralEdge, by_branch, by_merge, by_continue, SoleBack, IsLoop, InnermostLoop}
use Rattle.flow_rules.specs.Rules.{Cross, Strays, Merges, by_stray, by_header, MayLeave, to_continue, to_header, BreaksLabel, s12_unreached, s12_first, BreaksMerge, s2_stray, s2_kind, s3, s4, s5_before, s5_behind, s6, s7, s8_outside, s8_leaves, BreaksEdge, s6_target, s9, s10, s11, BreaksEnd, s1_none, s1_equal, by_target, Broken, at_label, at_merge, at_end}
use Rattle.row_laws.specs.Rows.{loops as kind_loops, continue_of, Branches, Heads, Looping, Holds, Construct, WholeLoop, Part, Within, Leaves, Whole}
use Rattle.row_laws.specs.Rows.Construct.{Selection, LoopPart, Continue}
use Rattle.row_laws.proofs.Basics.{none_some, some_inj, at_same, none, part_heads, true_false}
use Rattle.row_laws.proofs.Words as words

module _ (bs : List BasicBlock) (n : ℕ) (w : Whole bs n) where
  -- ---- a block with an edge or a merge instruction is not the last

  last_edge : (q : ℕ) → Branches bs n q → ⊥
  last_edge q (c, ct, has) =
      let e = w.returns in
      none q (subst (λ (l : List ℕ). Contains l q) e.3 (subst (λ (x : BasicBlock). Contains x.targets q) (at_same bs n c e.0 ct e.1) has))

  last_head : (c : BasicBlock) (g : Merge) → Heads bs n c g → ⊥
  last_head c g (ct, has) =
      let e = w.returns in
      none_some g (sym e.2 ∙ subst (λ (x : BasicBlock). x.merge ≡ Some g) (at_same bs n c e.0 ct e.1) has)

  edge_in : (p q : ℕ) → Branches bs p q → Within 0 (n + 1) p
  edge_in p q ed =
      let y = w.all p ed.0 ed.1 in
      elim (cases_order p n) [ inl i ↦ absurd (last_edge q (subst (λ z. Branches bs z q) i ed)) | inr o ↦ (omega arith, elim o [ inl l ↦ omega (arith, l) | inr l ↦ absurd (omega (arith, l, y)) ]) ]

  head_in : (h : ℕ) (c : BasicBlock) (g : Merge) → Heads bs h c g → Within 0 (n + 1) h
  head_in h c g x =
      let y = w.all h c x.0 in
      elim (cases_order h n) [ inl i ↦ absurd (last_head c g (subst (λ z. Heads bs z c g) i x)) | inr o ↦ (omega arith, elim o [ inl l ↦ omega (arith, l) | inr l ↦ absurd (omega (arith, l, y)) ]) ]

  loop_in : (h : ℕ) (g : Merge) → Looping bs h g → Within 0 (n + 1) h
  loop_in h g l = head_in h l.0.0 g l.0.1

  part_in : (r : Row) → Part bs r → Within 0 (n + 1) r.of
  part_in r pr =
      let h = part_heads bs r pr in
      head_in r.of h.0 r.by h.1

  -- ---- merge instructions

  no_stray : (p : ℕ) (f : Merge) → Strays bs p f → ⊥
  no_stray p f s = none f (subst (λ (l : List Merge). Contains l f) (w.neat p s.block s.at).tidy s.stray)

  merge_header : (p : ℕ) (f : Merge) → Merges bs p f → Header bs p f
  merge_header p f (by_stray s) = absurd (no_stray p f s)
  merge_header p f (by_header h) = h

  -- two merge instructions of one block are one
  header_same : (p : ℕ) (g f : Merge) → Header bs p g → Header bs p f → g ≡ f
  header_same p g f h k =
      some_inj g f (sym h.merge ∙ (ap (λ (b : BasicBlock). b.merge) (at_same bs p h.block k.block h.at k.at) ∙ k.merge))

  not_shared : (p q : ℕ) (f e : Merge) → Header bs p f → Header bs q e → e.word < f.word → e.merge_block ≡ f.merge_block → ⊥
  not_shared p q f e h k lt same =
      let i = w.row.single p q h.block k.block f e (head_in p h.block f (words.heads bs p f h)) (head_in q k.block e (words.heads bs q e k)) (words.heads bs p f h) (words.heads bs q e k) (sym same) in
      let one = header_same q f e (subst (λ z. Header bs z f) i h) k in
      let word : f.word ≡ e.word = ap (λ (g : Merge). g.word) one in
      omega (arith, word, lt)

  header_ahead : (p : ℕ) (f : Merge) → Header bs p f → p < f.merge_block
  header_ahead p f h = (w.row.ahead p h.block f (head_in p h.block f (words.heads bs p f h)) (words.heads bs p f h)).0

  -- a loop's continue target stands behind its header, and is the block before its merge block
  placed : (p : ℕ) (f : Merge) (c : ℕ) → Loops bs p f c → (p < c) × (f.merge_block ≡ c + 1)
  placed p f c l =
      let y = w.row.loops p f (loop_in p f (words.looping bs p f c l)) (words.looping bs p f c l) in
      let is = words.continues bs p f c l in
      (omega (arith, y.0, is), omega (arith, y.1, is))

  sole : (p : ℕ) (f : Merge) (c : ℕ) → Loops bs p f c → SoleBack bs p c
  sole p f c l =
      let y = w.row.loops p f (loop_in p f (words.looping bs p f c l)) (words.looping bs p f c l) in
      let is = words.continues bs p f c l in
      let at = placed p f c l in
      record {
        back = record { edge = words.edge bs c p (subst (λ z. Branches bs z p) is y.2); back = omega (arith, at.0) };
        only = λ r be. (let z = w.row.back r p (edge_in r p (words.branches bs r p be.edge)) (words.goes_back bs r p be) in
            let one = header_same p z.0 f (words.header bs p z.1.0.0 z.0 z.1.0.1) l.header in
            z.2 ∙ (ap continue_of one ∙ is));
      }

  sole_is : (p : ℕ) (f : Merge) (c b : ℕ) → Loops bs p f c → SoleBack bs p b → c ≡ b
  sole_is p f c b l s = s.only c (sole p f c l).back

  -- ---- rows

  not_crossed : (r s : Row) → Part bs r → Part bs s → Cross r s → ⊥
  not_crossed r s pr ps x =
      let a = x.in_first.from in
      let b = x.in_first.before in
      let c = x.in_second.from in
      let d = x.in_second.before in
      elim (w.row.nested r s pr ps (part_in r pr) (part_in s ps)) [
        | inl e ↦ omega (arith, e, b, c)
        | inr o ↦ elim o [
          | inl e ↦ omega (arith, e, a, d)
          | inr u ↦ elim u [
            | inl e ↦ (let f = x.of_second.from in let g = x.of_second.before in x.not_first (record { from = omega (arith, e.0, f); before = omega (arith, e.1, g) }))
            | inr e ↦ (let f = x.of_first.from in let g = x.of_first.before in x.not_second (record { from = omega (arith, e.0, f); before = omega (arith, e.1, g) }))
          ]
        ]
      ]

  -- no other block is in a loop's continue construct
  alone : (p : ℕ) (f : Merge) (c b q : ℕ) → Loops bs p f c → SoleBack bs p b → In (record { of = p; by = f; first = c; end = f.merge_block }) q → q ≡ b
  alone p f c b q l s i =
      let at = placed p f c l in
      let is = sole_is p f c b l s in
      let low = i.from in
      let high = i.before in
      omega (arith, at.1, is, low, high)

  no_merge : (p : ℕ) (f : Merge) (rule : ℕ) → Merges bs p f → BreaksMerge bs p f rule → ⊥
  no_merge p f rule m (s2_stray s) = no_stray p f s
  no_merge p f rule m (s2_kind h bad) = bad ((w.neat p h.block h.at).suits f h.merge)
  no_merge p f rule m (s3 q e k lt same) = not_shared p q f e (merge_header p f m) (merge_header q e k) lt same
  no_merge p f rule m (s4 h le) =
      let y = header_ahead p f h in
      omega (arith, y, le)
  no_merge p f rule m (s5_before c l lt) =
      let y = placed p f c l in
      omega (arith, y.0, lt)
  no_merge p f rule m (s5_behind c l le) =
      let y = placed p f c l in
      omega (arith, y.1, le)
  no_merge p f rule m (s6 c l bad) = bad c (sole p f c l)
  no_merge p f rule m (s7 r s ir is lt of_is by_is x) = not_crossed r s (words.part bs r ir) (words.part bs s is) x
  no_merge p f rule m (s8_outside r c b l e s out) =
      let at = placed p f c l in
      let is = sole_is p f c b l s in
      out (subst (λ (x : Row). In x b) (sym e) (record { from = omega (arith, is); before = omega (arith, at.1, is) }))
  no_merge p f rule m (s8_leaves r c b q l e s i other x) =
      other (alone p f c b q l s (subst (λ (x : Row). In x q) e i))

  -- ---- labels

  no_back : (p : ℕ) → Branches bs p 0 → ⊥
  no_back p ed =
      let y = w.row.back p 0 (edge_in p 0 ed) (ed, omega arith) in
      w.first y.0 y.1

  first_target : (p : ℕ) → StructuralEdge bs p 0 → ⊥
  first_target p (by_branch e) = no_back p (words.branches bs p 0 e)
  first_target p (by_merge g h e) =
      let y = header_ahead p g h in
      omega (arith, y, e)
  first_target p (by_continue g l) =
      let y = placed p g 0 l in
      omega (arith, y.0)

  no_label : (q : ℕ) (b : BasicBlock) (rule : ℕ) → At bs q b → BreaksLabel bs q rule → ⊥
  no_label q b rule at (s12_unreached low bad) =
      let z = w.all q b at in
      let y = w.row.entered q low (omega (arith, z)) in
      bad y.0 y.2 (words.structural_edge bs y.0 q y.3)
  no_label q b rule at (s12_first p i e) = first_target p (subst (StructuralEdge bs p) i e)

  -- ---- edges

  abbrev loop_row : ℕ → Merge → Row
  loop_row h g = record { of = h; by = g; first = h; end = g.merge_block }

  abbrev loop_part : (h : ℕ) (g : Merge) → Looping bs h g → IsLoop bs (loop_row h g)
  loop_part h g l = record { continue_target = continue_of g; loops = words.loop bs h g l; first_is = refl; end_is = refl }

  -- no loop that holds the continue target begins behind the header
  outermost : (h : ℕ) (g : Merge) (s : Row) → Looping bs h g → WholeLoop bs s → Holds s (continue_of g) → s.of ≤ h
  outermost h g s l k ins = elim (cases_lt h s.of) [
    | inr le ↦ le
    | inl lt ↦
        (let y = w.row.loops h g (loop_in h g l) l in
        let z = w.row.loops s.of s.by (loop_in s.of s.by k.0) k.0 in
        elim (w.row.nested (record { of = h; by = g; first = h; end = continue_of g }) s (inl (LoopPart h g l)) (inr (inl k)) (loop_in h g l) (loop_in s.of s.by k.0)) [
          | inl a ↦ elim (w.row.nested (loop_row h g) s (inr (inl (l, refl, refl))) (inr (inl k)) (loop_in h g l) (loop_in s.of s.by k.0)) [
            | inl b ↦ absurd (omega (arith, b, ins.0, y.1, k.1))
            | inr o ↦ elim o [
              | inl b ↦ absurd (omega (arith, b, ins.1, y.0))
              | inr u ↦ elim u [ inl b ↦ absurd (omega (arith, a, b.1, ins.0, y.1, z.0, z.1, k.1, k.2)) | inr b ↦ absurd (omega (arith, b.0, k.1, lt)) ]
            ]
          ]
          | inr o ↦ elim o [
            | inl a ↦ absurd (omega (arith, a, ins.1, y.0))
            | inr u ↦ elim u [ inl a ↦ absurd (omega (arith, a.1, ins.1)) | inr a ↦ absurd (omega (arith, a.0, k.1, lt)) ]
          ]
        ])
  ]

  -- the loop holds the block, and no loop that does begins behind its header
  abbrev innermost : (h : ℕ) (g : Merge) (p : ℕ) → Looping bs h g → h ≤ p → p < g.merge_block → ((m : Row) → IsLoop bs m → In m p → m.of ≤ h) → InnermostLoop bs p (loop_row h g)
  innermost h g p l low high last =
      record { loop = loop_part h g l; holds = record { from = low; before = high }; last = last }

  true_of : (g : Merge) → kind_loops g.kind ≡ true → kind_loops g.kind ≡ false → ⊥
  true_of g a b = true_false (sym a ∙ b)

  -- to another block than the construct's own merge block
  may : (p q : ℕ) (r : Row) → Construct bs r → Holds r p → (Holds r q → ⊥) → q ≢ r.by.merge_block → Leaves bs r p q → MayLeave bs p q
  may p q r pr inp out other (inl e) = absurd (other e)
  may p q r (Selection h b g sel) inp out other (inr (inl s)) = absurd (true_of g s.2 sel.1)
  may p q r (LoopPart h g l) inp out other (inr (inl s)) =
      let y = w.row.loops h g (loop_in h g l) l in
      let inner = innermost h g p l inp.0 (omega (arith, y.1, inp.1)) (λ m k i. (let low = i.from in let high = i.before in let first = k.first_is in let end = k.end_is in s.3 m.of m.by (words.looping bs m.of m.by k.continue_target k.loops) (omega (arith, first, low)) (omega (arith, end, high)))) in
      to_continue (loop_row h g) inner s.1
  may p q r (Continue h g l) inp out other (inr (inl s)) =
      let y = w.row.loops h g (loop_in h g l) l in
      absurd (omega (arith, y.0, s.0))
  may p q r (Selection h b g sel) inp out other (inr (inr s)) = absurd (true_of g s.2 sel.1)
  may p q r (LoopPart h g l) inp out other (inr (inr s)) = absurd (out (omega (arith, s.1), omega (arith, s.0, s.1, inp.1)))
  may p q r (Continue h g l) inp out other (inr (inr s)) =
      let y = w.row.loops h g (loop_in h g l) l in
      let inner = innermost h g p l (omega (arith, y.0, inp.0)) inp.1 (λ m k i. (let low = i.from in let high = i.before in outermost h g m l (words.whole_loop bs m k) (omega (arith, s.0, low), omega (arith, s.0, high)))) in
      to_header (loop_row h g) inner s.1 (subst (SoleBack bs h) s.0 (sole h g (continue_of g) (words.loop bs h g l)))

  no_edge : (p q : ℕ) (rule : ℕ) → Edge bs p q → BreaksEdge bs p q rule → ⊥
  no_edge p q rule ed (s6_target le bad) =
      let y = w.row.back p q (edge_in p q (words.branches bs p q ed)) (words.branches bs p q ed, le) in
      bad y.0 (continue_of y.0) (words.loop bs q y.0 y.1)
  no_edge p q rule ed (s9 r ir out inq other) =
      let b = words.branches bs p q ed in
      elim (w.row.entry p q r (edge_in p q b) (part_in r (words.part bs r ir)) b (words.part bs r ir) (words.holds r q inq)) [ inl i ↦ other i | inr i ↦ out (words.within r p i) ]
  no_edge p q rule ed (s10 r ir inp out other bad) =
      let b = words.branches bs p q ed in
      let c = words.construct bs r ir in
      elim (w.row.leaves p q r (edge_in p q b) (part_in r (inl c)) b c (words.holds r p inp)) [ inl i ↦ out (words.within r q i) | inr l ↦ bad (may p q r c (words.holds r p inp) (λ i. out (words.within r q i)) other l) ]
  no_edge p q rule ed (s11 r t cr ct same other inp e) =
      let b = subst (Branches bs p) e (words.branches bs p q ed) in
      let c = words.case bs r cr in
      other (sym (w.row.cases p r t (edge_in p t.first b) (part_in r (inr (inr c))) c (words.case bs t ct) same (words.holds r p inp) b))

  no_end : (p : ℕ) (b : BasicBlock) (rule : ℕ) → At bs p b → BreaksEnd bs p b rule → ⊥
  no_end p b rule at (s1_none forks m bad) = bad ((w.neat p b at).closes forks m)
  no_end p b rule at (s1_equal q conditional e) = (w.neat p b at).two q conditional e
  no_end p b rule at (by_target q ed x) = no_edge p q rule ed x

  no_broken : (rule word : ℕ) → Broken bs rule word → ⊥
  no_broken rule word (at_label p b at x) = no_label p b rule at x
  no_broken rule word (at_merge p f m x) = no_merge p f rule m x
  no_broken rule word (at_end p b at x) = no_end p b rule at x

  -- the whole claim
  pub sound : IsSound (Broken bs)
  sound = record { none = no_broken }
