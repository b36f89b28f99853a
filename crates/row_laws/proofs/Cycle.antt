-- A loop is a row.
use Rattle.std.proofs.Common.{◌≡◌, ℕ, ◌+◌, ◌<◌, ◌≤◌, ◌⊎◌, inl, inr, List, refl, sym, ◌∙◌, ap, subst, arith, true}
use Rattle.std.proofs.lemmas.Bool.{cases_lt, cases_order}
use Rattle.flow_rules.specs.Blocks.{BasicBlock}
use Rattle.flow_rules.specs.declared.block.Merge.{Merge}
use Rattle.flow_rules.specs.Flow.{Row}
use Rattle.row_laws.specs.Rows.{is_loop, continue_of, Branches, Heads, Selecting, Looping, Holds, Construct, Part, Within, Leaves, Goes, Nested, Fine}
use Rattle.row_laws.specs.Rows.Construct.{Selection, LoopPart, Continue}
use Rattle.row_laws.proofs.Basics.{Heading, true_false, heads_is, goes_edge, goes_heads, part_heads, part_bounds}
use Rattle.row_laws.proofs.Select.{turn}

-- ---- a loop: the header s, the body from s + 1 to j, the continue target j + 1, which goes back, and the merge block j + 2
pub data Place (s : ℕ) (j : ℕ) (p : ℕ) : Type 0 where
  AtHead : p ≡ s → Place s j p
  InBody : Within (s + 1) (j + 1) p → Place s j p
  AtEnd : p ≡ j → Place s j p
  AtBack : p ≡ j + 1 → Place s j p

pub place : (s j p : ℕ) → Within s (j + 3) p → Place s j p
place s j p w = elim (cases_order p s) [
  | inl i ↦ AtHead i
  | inr o ↦ elim o [
    | inl lt ↦ absurd (omega (arith, lt, w.0))
    | inr lt ↦ elim (cases_order p j)
        [ inl i ↦ AtEnd i | inr u ↦ elim u [ inl l ↦ InBody (omega (arith, lt), omega (arith, l)) | inr l ↦ AtBack (omega (arith, l, w.1)) ] ]
  ]
]

-- the three parts of the loop's header
pub data OwnLoop (s : ℕ) (j : ℕ) (r : Row) : Type 0 where
  Whole : r.first ≡ s → r.end ≡ j + 2 → OwnLoop s j r
  Front : r.first ≡ s → r.end ≡ j + 1 → OwnLoop s j r
  Back : r.first ≡ j + 1 → r.end ≡ j + 2 → OwnLoop s j r

pub is_g : (bs : List BasicBlock) (s h : ℕ) (g f : Merge) → Heading bs s g → Looping bs h f → h ≡ s → f ≡ g
is_g bs s h g f hd l i = heads_is bs s l.0.0 g f hd (subst (λ z. Heads bs z l.0.0 f) i l.0.1)

pub no_select : (bs : List BasicBlock) (s h : ℕ) (b : BasicBlock) (g f : Merge) → Heading bs s g → (is_loop g) ≡ true → Selecting bs h b f → h ≡ s → ⊥
no_select bs s h b g f hd yes_loop sel i =
    let e : f ≡ g = heads_is bs s b g f hd (subst (λ z. Heads bs z b f) i sel.0) in true_false (sym (ap (λ z. (is_loop z)) e ∙ yes_loop) ∙ sel.1)

pub own_loop : (bs : List BasicBlock) (s j : ℕ) (g : Merge) (r : Row) → Heading bs s g → (is_loop g) ≡ true → (continue_of g) ≡ j + 1 → g.merge_block ≡ j + 2
    → Part bs r → r.of ≡ s → OwnLoop s j r
own_loop bs s j g r hd il gc gm (inl (Selection h b f sel)) i = absurd (no_select bs s h b g f hd il sel i)
own_loop bs s j g r hd il gc gm (inl (LoopPart h f l)) i = Front i (ap (λ z. (continue_of z)) (is_g bs s h g f hd l i) ∙ gc)
own_loop bs s j g r hd il gc gm (inl (Continue h f l)) i = let e : _ = is_g bs s h g f hd l i in Back (ap (λ z. (continue_of z)) e ∙ gc) (ap (λ z. z.merge_block) e ∙ gm)
own_loop bs s j g r hd il gc gm (inr (inl l)) i = Whole (l.1 ∙ i) (l.2 ∙ (ap (λ z. z.merge_block) (is_g bs s r.of g r.by hd l.0 i) ∙ gm))
own_loop bs s j g r hd il gc gm (inr (inr c)) i = absurd (no_select bs s r.of c.0.0 g r.by hd il c.0.1 i)

pub pair_of : (s j : ℕ) (r t : Row) → s < j + 1 → OwnLoop s j r → OwnLoop s j t → Nested r t
pair_of s j r t lt (Whole a b) (Whole c d) = inr (inr (inl (omega (arith, a, c), omega (arith, b, d))))
pair_of s j r t lt (Whole a b) (Front c d) = inr (inr (inl (omega (arith, a, c), omega (arith, b, d))))
pair_of s j r t lt (Whole a b) (Back c d) = inr (inr (inl (omega (arith, a, c, lt), omega (arith, b, d))))
pair_of s j r t lt (Front a b) (Whole c d) = inr (inr (inr (omega (arith, a, c), omega (arith, b, d))))
pair_of s j r t lt (Front a b) (Front c d) = inr (inr (inl (omega (arith, a, c), omega (arith, b, d))))
pair_of s j r t lt (Front a b) (Back c d) = inl (omega (arith, b, c))
pair_of s j r t lt (Back a b) (Whole c d) = inr (inr (inr (omega (arith, a, c, lt), omega (arith, b, d))))
pair_of s j r t lt (Back a b) (Front c d) = inr (inl (omega (arith, a, d)))
pair_of s j r t lt (Back a b) (Back c d) = inr (inr (inl (omega (arith, a, c), omega (arith, b, d))))

pub with_body : (s j : ℕ) (r t : Row) → OwnLoop s j r → s < t.first → t.end < j + 1 → Nested r t
with_body s j r t (Whole a b) lo hi = inr (inr (inl (omega (arith, a, lo), omega (arith, b, hi))))
with_body s j r t (Front a b) lo hi = inr (inr (inl (omega (arith, a, lo), omega (arith, b, hi))))
with_body s j r t (Back a b) lo hi = inr (inl (omega (arith, a, hi)))

pub cycle : (bs : List BasicBlock) (s j : ℕ) (g : Merge) → Heading bs s g → (is_loop g) ≡ true → (continue_of g) ≡ j + 1 → g.merge_block ≡ j + 2
    → ((q : ℕ) → Branches bs s q → q ≡ s + 1) → Branches bs s (s + 1)
    → Fine bs (s + 1) (j + 1) → Goes bs j (j + 1)
    → ((c : BasicBlock) (f : Merge) → Heads bs (j + 1) c f → ⊥) → ((q : ℕ) → Branches bs (j + 1) q → (q ≡ s) ⊎ (q ≡ j + 2)) → Branches bs (j + 1) s
    → Fine bs s (j + 3)
cycle bs s j g hd il gc gm only_in into f go free out again = record {
  some = omega (arith, sj);
  edges = λ p q w ed. elim (place s j p w) [
    | AtHead i ↦ (let y : _ = only_in q (subst (λ z. Branches bs z q) i ed) in (omega (arith, y), omega (arith, y, sj)))
    | InBody v ↦ (let y : _ = f.edges p q v ed in (omega (arith, y.0), omega (arith, y.1)))
    | AtEnd i ↦ (let y : _ = goes_edge bs j (j + 1) q go (subst (λ z. Branches bs z q) i ed) in (omega (arith, y, sj), omega (arith, y)))
    | AtBack i ↦ elim (out q (subst (λ z. Branches bs z q) i ed)) [ inl y ↦ (omega (arith, y), omega (arith, y, sj)) | inr y ↦ (omega (arith, y, sj), omega (arith, y)) ]
  ];
  entered = λ q lo hi. elim (cases_order q (s + 1)) [
    | inl i ↦ (s, omega arith, omega arith, inl (subst (λ z. Branches bs s z) (sym i) into))
    | inr o ↦ elim o [
      | inl lt ↦ absurd (omega (arith, lt, lo))
      | inr gt ↦ elim (cases_order q (j + 1)) [
        | inl i ↦ (s, omega arith, omega arith, inr (inr (g, loop_here, i ∙ sym gc)))
        | inr u ↦ elim u [
          | inl lt ↦ (let y : _ = f.entered q gt lt in (y.0, omega (arith, y.1), y.2, y.3))
          | inr l ↦ (let y : q ≡ g.merge_block = omega (arith, gm, l, hi) in (s, omega arith, omega arith, inr (inl (loop_here.0.0, g, loop_here.0.1, y))))
        ]
      ]
    ]
  ];
  ahead = λ h b m w hh. elim (header h b m w hh) [
    | inl i ↦ (let e : m.merge_block ≡ j + 2 = ap (λ z. z.merge_block) (heads_is bs s b g m hd (subst (λ z. Heads bs z b m) i hh)) ∙ gm in (omega (arith, i, e, sj), omega (arith, e)))
    | inr v ↦ (let y : _ = f.ahead h b m v hh in (y.0, omega (arith, y.1)))
  ];
  loops = λ h m w l. elim (header h l.0.0 m w l.0.1) [
    | inl i ↦ (let e : m ≡ g = is_g bs s h g m hd l i in let ec : (continue_of m) ≡ j + 1 = ap (λ z. (continue_of z)) e ∙ gc in let em : m.merge_block ≡ j + 2 = ap (λ z. z.merge_block) e ∙ gm in
        (omega (arith, i, ec, sj), omega (arith, ec, em), subst (λ z. Branches bs z h) (sym ec) (subst (λ z. Branches bs (j + 1) z) (sym i) again)))
    | inr v ↦ f.loops h m v l
  ];
  back = λ p q w be. elim (place s j p w) [
    | AtHead i ↦ (let y : _ = only_in q (subst (λ z. Branches bs z q) i be.0) in absurd (omega (arith, y, i, be.1)))
    | InBody v ↦ f.back p q v be
    | AtEnd i ↦ (let y : _ = goes_edge bs j (j + 1) q go (subst (λ z. Branches bs z q) i be.0) in absurd (omega (arith, y, i, be.1)))
    | AtBack i ↦ elim (out q (subst (λ z. Branches bs z q) i be.0))
        [ inl y ↦ (g, subst (λ z. Looping bs z g) (sym y) loop_here, i ∙ sym gc) | inr y ↦ absurd (omega (arith, y, i, be.1)) ]
  ];
  single = λ h k b c m n wh wk hh hk same. elim (header h b m wh hh) [
    | inl i ↦ (let e : m.merge_block ≡ j + 2 = ap (λ z. z.merge_block) (heads_is bs s b g m hd (subst (λ z. Heads bs z b m) i hh)) ∙ gm in elim (header k c n wk hk)
        [ inl l ↦ i ∙ sym l | inr v ↦ (let y : _ = f.ahead k c n v hk in absurd (omega (arith, y.1, e, same))) ])
    | inr v ↦ (let y : _ = f.ahead h b m v hh in elim (header k c n wk hk) [
      | inl l ↦ (let e : n.merge_block ≡ j + 2 = ap (λ z. z.merge_block) (heads_is bs s c g n hd (subst (λ z. Heads bs z c n) l hk)) ∙ gm in absurd (omega (arith, y.1, e, same)))
      | inr u ↦ f.single h k b c m n v u hh hk same
    ])
  ];
  nested = λ r t pr pt wr wt. elim (part_of r wr pr) [
    | inl i ↦ elim (part_of t wt pt) [
      | inl l ↦ pair_of s j r t sj (own_loop bs s j g r hd il gc gm pr i) (own_loop bs s j g t hd il gc gm pt l)
      | inr vt ↦ (let y : _ = part_bounds bs (s + 1) (j + 1) t f pt vt in with_body s j r t (own_loop bs s j g r hd il gc gm pr i) (omega (arith, y.0, vt.0)) (omega (arith, y.1, y.2)))
    ]
    | inr vr ↦ (let y : _ = part_bounds bs (s + 1) (j + 1) r f pr vr in elim (part_of t wt pt) [
      | inl l ↦ turn t r (with_body s j t r (own_loop bs s j g t hd il gc gm pt l) (omega (arith, y.0, vr.0)) (omega (arith, y.1, y.2)))
      | inr vt ↦ f.nested r t pr pt vr vt
    ])
  ];
  entry = λ p q r w wr ed pr inq. elim (part_of r wr pr) [
    | inl i ↦ elim (own_loop bs s j g r hd il gc gm pr i) [
      | Whole a b ↦ inr (omega (arith, a, w.0), omega (arith, b, w.1))
      | Front a b ↦ elim (place s j p w) [
        | AtHead e ↦ inr (omega (arith, a, e), omega (arith, b, e, sj))
        | InBody v ↦ inr (omega (arith, a, v.0), omega (arith, b, v.1))
        | AtEnd e ↦ inr (omega (arith, a, e, sj), omega (arith, b, e))
        | AtBack e ↦ elim (out q (subst (λ z. Branches bs z q) e ed)) [ inl y ↦ inl (y ∙ sym a) | inr y ↦ absurd (omega (arith, y, b, inq.1)) ]
      ]
      | Back a b ↦ inl (omega (arith, a, b, inq.0, inq.1))
    ]
    | inr vr ↦ (let x : _ = part_bounds bs (s + 1) (j + 1) r f pr vr in elim (place s j p w) [
      | AtHead e ↦ (let y : _ = only_in q (subst (λ z. Branches bs z q) e ed) in inl (omega (arith, y, x.0, vr.0, inq.0)))
      | InBody v ↦ f.entry p q r v vr ed pr inq
      | AtEnd e ↦ (let y : _ = goes_edge bs j (j + 1) q go (subst (λ z. Branches bs z q) e ed) in absurd (omega (arith, y, x.1, x.2, inq.1)))
      | AtBack e ↦ elim (out q (subst (λ z. Branches bs z q) e ed)) [ inl y ↦ absurd (omega (arith, y, x.0, vr.0, inq.0)) | inr y ↦ absurd (omega (arith, y, x.1, x.2, inq.1)) ]
    ])
  ];
  leaves = λ p q r w wr ed pr inp. elim (part_of r wr (inl pr)) [
    | inl i ↦ own_leaves r p q pr i w ed inp
    | inr vr ↦ (let x : _ = part_bounds bs (s + 1) (j + 1) r f (inl pr) vr in f.leaves p q r (omega (arith, x.0, vr.0, inp.0), omega (arith, x.1, x.2, inp.1)) vr ed pr inp)
  ];
  cases = λ p r t w wr cr ct same inp ed. elim (part_of r wr (inr (inr cr))) [
    | inl i ↦ absurd (no_select bs s r.of cr.0.0 g r.by hd il cr.0.1 i)
    | inr vr ↦ (let x : _ = part_bounds bs (s + 1) (j + 1) r f (inr (inr cr)) vr in f.cases p r t (omega (arith, x.0, vr.0, inp.0), omega (arith, x.1, x.2, inp.1)) vr cr ct same inp ed)
  ];
}
  where
    sj : s < j + 1
    sj = let y : _ = f.some in omega (arith, y)

    loop_here : Looping bs s g
    loop_here = ((hd.0, (hd.1, hd.2)), il)

    header : (h : ℕ) (c : BasicBlock) (m : Merge) → Within s (j + 3) h → Heads bs h c m → (h ≡ s) ⊎ Within (s + 1) (j + 1) h
    header h c m w hh = elim (place s j h w) [
      | AtHead i ↦ inl i
      | InBody v ↦ inr v
      | AtEnd i ↦ absurd (goes_heads bs j (j + 1) c m go (subst (λ z. Heads bs z c m) i hh))
      | AtBack i ↦ absurd (free c m (subst (λ z. Heads bs z c m) i hh))
    ]

    part_of : (r : Row) → Within s (j + 3) r.of → Part bs r → (r.of ≡ s) ⊎ Within (s + 1) (j + 1) r.of
    part_of r w pr = let h : _ = part_heads bs r pr in header r.of h.0 r.by w h.1

    inner : (h : ℕ) (m : Merge) → Looping bs h m → h ≤ j → j < m.merge_block → h ≤ s
    inner h m l hj jm = elim (cases_lt s h) [
      | inl lt ↦ elim (header h l.0.0 m (omega (arith, lt), omega (arith, hj)) l.0.1)
          [ inl i ↦ omega (arith, i) | inr v ↦ (let y : _ = f.ahead h l.0.0 m v l.0.1 in absurd (omega (arith, y.1, jm))) ]
      | inr ge ↦ ge
    ]

    own_leaves : (r : Row) (p q : ℕ) → Construct bs r → r.of ≡ s → Within s (j + 3) p → Branches bs p q → Holds r p → Holds r q ⊎ Leaves bs r p q
    own_leaves r p q (Selection h b m sel) i w ed inp = absurd (no_select bs s h b g m hd il sel i)
    own_leaves r p q (LoopPart h m l) i w ed inp =
        let e : m ≡ g = is_g bs s h g m hd l i in let ec : (continue_of m) ≡ j + 1 = ap (λ z. (continue_of z)) e ∙ gc in
        elim (place s j p w) [
          | AtHead a ↦ (let y : _ = only_in q (subst (λ z. Branches bs z q) a ed) in let fs : _ = f.some in inl (omega (arith, y, i), omega (arith, y, ec, fs)))
          | InBody v ↦ (let y : _ = f.edges p q v ed in inl (omega (arith, y.0, i), omega (arith, y.1, ec)))
          | AtEnd a ↦ (let y : _ = goes_edge bs j (j + 1) q go (subst (λ z. Branches bs z q) a ed) in inr (inr (inl (
            refl,
            y ∙ sym ec,
            l.1,
            (λ k n lk kp pn. (let z : _ = inner k n lk (omega (arith, a, kp)) (omega (arith, a, pn)) in omega (arith, z, i))),
          ))))
          | AtBack a ↦ absurd (omega (arith, a, ec, inp.1))
        ]
    own_leaves r p q (Continue h m l) i w ed inp =
        let e : m ≡ g = is_g bs s h g m hd l i in let ec : (continue_of m) ≡ j + 1 = ap (λ z. (continue_of z)) e ∙ gc in let em : m.merge_block ≡ j + 2 = ap (λ z. z.merge_block) e ∙ gm in
        let a : p ≡ j + 1 = omega (arith, ec, em, inp.0, inp.1) in
        elim (out q (subst (λ z. Branches bs z q) a ed)) [ inl y ↦ inr (inr (inr (ec ∙ sym a, y ∙ sym i, l.1))) | inr y ↦ inr (inl (y ∙ sym em)) ]
