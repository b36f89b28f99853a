-- The parts of rows are those of the rules.
use Rattle.std.proofs.Common.{◌≡◌, ℕ, inl, inr, List, refl, sym, ◌∙◌, ap, subst, true, false, Contains}
use Rattle.flow_rules.specs.Blocks.{BasicBlock}
use Rattle.flow_rules.specs.declared.block.Merge.{Merge}
use Rattle.flow_rules.specs.declared.block.MergeKind.{MergeKind}
use Rattle.flow_rules.specs.declared.block.MergeKind.TheVariants as merge
use Rattle.flow_rules.specs.Flow.{Row, In, Edge, Header, Selects, Loops, StructuralEdge, by_branch, by_merge, by_continue, BackEdge, IsConstruct, selection, loop_construct, continue_construct, IsLoop, CaseStart, IsCase, IsRow, is_construct, is_loop, is_case}
use Rattle.row_laws.specs.Rows.{loops, target, continue_of, Branches, Heads, Selecting, Looping, GoesBack, Holds, Construct, WholeLoop, BeginsCase, Case, Part, Structural}
use Rattle.row_laws.specs.Rows.Construct.{Selection, LoopPart, Continue}
use Rattle.row_laws.proofs.Basics.{at_same, true_false}

-- ---- kinds of merge instructions

kind_loop : (k : MergeKind) → loops k ≡ true → k ≡ merge.Loop (target k)
kind_loop merge.Selection e = absurd (true_false (sym e))
kind_loop (merge.Loop c) e = refl

kind_selection : (k : MergeKind) → loops k ≡ false → k ≡ merge.Selection
kind_selection merge.Selection e = refl
kind_selection (merge.Loop c) e = absurd (true_false e)

-- ---- rows

pub holds : (r : Row) (p : ℕ) → In r p → Holds r p
holds r p i = (i.from, i.before)

pub within : (r : Row) (p : ℕ) → Holds r p → In r p
within r p i = record { from = i.0; before = i.1 }

module _ (bs : List BasicBlock) where
  pub branches : (p q : ℕ) → Edge bs p q → Branches bs p q
  branches p q e = (e.block, e.at, e.target)

  pub edge : (p q : ℕ) → Branches bs p q → Edge bs p q
  edge p q (b, at, has) = record { block = b; at = at; target = has }

  pub goes_back : (p q : ℕ) → BackEdge bs p q → GoesBack bs p q
  goes_back p q e = (branches p q e.edge, e.back)

  pub heads : (h : ℕ) (g : Merge) (x : Header bs h g) → Heads bs h x.block g
  heads h g x = (x.at, x.merge)

  pub header : (h : ℕ) (b : BasicBlock) (g : Merge) → Heads bs h b g → Header bs h g
  header h b g x = record { block = b; at = x.0; merge = x.1 }

  pub looping : (h : ℕ) (g : Merge) (c : ℕ) → Loops bs h g c → Looping bs h g
  looping h g c l = ((l.header.block, heads h g l.header), ap loops l.kind)

  pub continues : (h : ℕ) (g : Merge) (c : ℕ) → Loops bs h g c → continue_of g ≡ c
  continues h g c l = ap target l.kind

  pub loop : (h : ℕ) (g : Merge) → Looping bs h g → Loops bs h g (continue_of g)
  loop h g l = record { header = header h l.0.0 g l.0.1; kind = kind_loop g.kind l.1 }

  pub selecting : (h : ℕ) (g : Merge) (s : Selects bs h g) → Selecting bs h s.header.block g
  selecting h g s = (heads h g s.header, ap loops s.kind)

  pub selects : (h : ℕ) (b : BasicBlock) (g : Merge) → Selecting bs h b g → Selects bs h g
  selects h b g s = record { header = header h b g s.0; kind = kind_selection g.kind s.1 }

  pub structural_edge : (p q : ℕ) → Structural bs p q → StructuralEdge bs p q
  structural_edge p q (inl e) = by_branch (edge p q e)
  structural_edge p q (inr (inl (b, g, x, e))) = by_merge g (header p b g x) (sym e)
  structural_edge p q (inr (inr (g, l, e))) = by_continue g (subst (Loops bs p g) (sym e) (loop p g l))

  -- ---- cases

  pub begins : (h : ℕ) (g : Merge) (t : ℕ) → CaseStart bs h g t → BeginsCase bs h g t
  begins h g t c =
      let head = c.switches.selects.header in
      (head.block, selecting h g c.switches.selects, c.switches.switch, subst (λ (b : BasicBlock). Contains b.targets t) (at_same bs h c.edge.block head.block c.edge.at head.at) c.edge.target, c.behind, c.before)

  pub start : (h : ℕ) (g : Merge) (t : ℕ) → BeginsCase bs h g t → CaseStart bs h g t
  unfolding selects header
  start h g t (b, s, switch, has, behind, before) =
      record { switches = record { selects = selects h b g s; switch = switch }; edge = record { block = b; at = s.0.0; target = has }; behind = behind; before = before }

  pub case : (r : Row) → IsCase bs r → Case bs r
  case r c =
      (begins r.of r.by r.first c.start, c.behind, elim c.end_is [ inl s ↦ inl (begins r.of r.by r.end s) | inr e ↦ inr e ], λ t b lt. c.next t (start r.of r.by t b) lt)

  -- ---- constructs and loops

  ends : (of first end : ℕ) (by : Merge) (f e : ℕ) → first ≡ f → end ≡ e → Construct bs (record { of = of; by = by; first = f; end = e }) → Construct bs (record { of = of; by = by; first = first; end = end })
  ends of first end by f e ff ee c =
      subst (λ x. Construct bs (record { of = of; by = by; first = x; end = end })) (sym ff) (subst (λ x. Construct bs (record { of = of; by = by; first = f; end = x })) (sym ee) c)

  pub construct : (r : Row) → IsConstruct bs r → Construct bs r
  construct r (selection s first end) = ends r.of r.first r.end r.by r.of r.by.merge_block first end (Selection r.of s.header.block r.by (selecting r.of r.by s))
  construct r (loop_construct c l first end) = ends r.of r.first r.end r.by r.of (continue_of r.by) first (end ∙ sym (continues r.of r.by c l)) (LoopPart r.of r.by (looping r.of r.by c l))
  construct r (continue_construct c l first end) = ends r.of r.first r.end r.by (continue_of r.by) r.by.merge_block (first ∙ sym (continues r.of r.by c l)) end (Continue r.of r.by (looping r.of r.by c l))

  pub whole_loop : (r : Row) → IsLoop bs r → WholeLoop bs r
  whole_loop r l = (looping r.of r.by l.continue_target l.loops, l.first_is, l.end_is)

  pub part : (r : Row) → IsRow bs r → Part bs r
  part r (is_construct c) = inl (construct r c)
  part r (is_loop l) = inr (inl (whole_loop r l))
  part r (is_case c) = inr (inr (case r c))
