-- A selection is a row.
use Rattle.std.proofs.Common.{◌≡◌, ℕ, ◌+◌, ◌<◌, ◌≤◌, ◌⊎◌, inl, inr, List, sym, ◌∙◌, ap, subst, arith, false, Contains}
use Rattle.std.proofs.lemmas.Bool.{cases_lt, cases_order}
use Rattle.flow_rules.specs.Blocks.{BasicBlock}
use Rattle.flow_rules.specs.declared.block.Merge.{Merge}
use Rattle.flow_rules.specs.Flow.{Row, At}
use Rattle.row_laws.specs.Rows.{is_loop, Branches, Heads, Looping, Holds, Construct, BeginsCase, Case, Part, Within, Nested, Fine}
use Rattle.row_laws.specs.Rows.Construct.{Selection, LoopPart, Continue}
use Rattle.row_laws.proofs.Basics.{Heading, true_false, at_same, heads_is, part_heads, part_bounds}
use Rattle.row_laws.proofs.Arms.{Among, Arms, arm_bounds}

-- ---- a selection: the header k ends a row, its arms follow, and then the merge block x
pub no_loop : (bs : List BasicBlock) (k h : ℕ) (g f : Merge) → Heading bs k g → (is_loop g) ≡ false → Looping bs h f → h ≡ k → ⊥
no_loop bs k h g f hd nl l i =
    let e : f ≡ g = heads_is bs k l.0.0 g f hd (subst (λ z. Heads bs z l.0.0 f) i l.0.1) in
    true_false (sym l.1 ∙ (ap (λ z. (is_loop z)) e ∙ nl))

pub case_in : (bs : List BasicBlock) (k x : ℕ) (ts : List ℕ) (h : ℕ) (f : Merge) (t : ℕ) → ((q : ℕ) → Branches bs k q → (q ≡ x) ⊎ Contains ts q)
    → h ≡ k → f.merge_block ≡ x → BeginsCase bs h f t → Contains ts t
case_in bs k x ts h f t out i mx c =
    elim (out t (subst (λ z. Branches bs z t) i (c.0, c.1.0.0, c.3))) [ inl e ↦ absurd (omega (arith, e, mx, c.5)) | inr has ↦ has ]

-- the parts of the header itself
pub record Own (r : Row) (k : ℕ) (x : ℕ) (ts : List ℕ) : Type 0 where
  pub after : k < r.first
  pub some : r.first < r.end
  pub within : r.end ≤ x
  pub start : Contains ts r.first
  pub stop : Contains ts r.end ⊎ (r.end ≡ x)
  pub next : (t : ℕ) → Contains ts t → r.first < t → r.end ≤ t

pub own_sel : (bs : List BasicBlock) (k x : ℕ) (g : Merge) (r : Row) → Heading bs k g → (is_loop g) ≡ false → g.merge_block ≡ x
    → Construct bs r → r.of ≡ k → (r.first ≡ k) × (r.end ≡ x)
own_sel bs k x g r hd nl gx (Selection h b f sel) i =
    let e : f ≡ g = heads_is bs k b g f hd (subst (λ z. Heads bs z b f) i sel.0) in (i, ap (λ z. z.merge_block) e ∙ gx)
own_sel bs k x g r hd nl gx (LoopPart h f l) i = absurd (no_loop bs k h g f hd nl l i)
own_sel bs k x g r hd nl gx (Continue h f l) i = absurd (no_loop bs k h g f hd nl l i)

pub own_case : (bs : List BasicBlock) (k x : ℕ) (g : Merge) (ts : List ℕ) (r : Row) → Heading bs k g → g.merge_block ≡ x
    → ((q : ℕ) → Branches bs k q → (q ≡ x) ⊎ Contains ts q) → ((q : ℕ) → Contains ts q → Branches bs k q × (k < q) × (q < x))
    → Case bs r → r.of ≡ k → Own r k x ts
own_case bs k x g ts r hd gx out all c i =
    let e : r.by ≡ g = heads_is bs k c.0.0 g r.by hd (subst (λ z. Heads bs z c.0.0 r.by) i c.0.1.0) in
    let mx : r.by.merge_block ≡ x = ap (λ z. z.merge_block) e ∙ gx in
    record {
      after = omega (arith, i, c.0.4);
      some = c.1;
      within = elim c.2 [ inl t ↦ omega (arith, t.5, mx) | inr q ↦ omega (arith, q, mx) ];
      start = case_in bs k x ts r.of r.by r.first out i mx c.0;
      stop = elim c.2 [ inl t ↦ inl (case_in bs k x ts r.of r.by r.end out i mx t) | inr q ↦ inr (q ∙ mx) ];
      next = λ t has lt. (let y : _ = all t has in c.3 t (
        c.0.0,
        c.0.1,
        c.0.2,
        subst (λ z. Contains z.targets t) (at_same bs k y.0.0 c.0.0 y.0.1 (subst (λ z. At bs z c.0.0) i c.0.1.0.0)) y.0.2,
        omega (arith, i, y.1),
        omega (arith, mx, y.2),
      ) lt);
    }

pub own_part : (bs : List BasicBlock) (k x : ℕ) (g : Merge) (ts : List ℕ) (r : Row) → Heading bs k g → (is_loop g) ≡ false → g.merge_block ≡ x
    → ((q : ℕ) → Branches bs k q → (q ≡ x) ⊎ Contains ts q) → ((q : ℕ) → Contains ts q → Branches bs k q × (k < q) × (q < x))
    → Part bs r → r.of ≡ k → ((r.first ≡ k) × (r.end ≡ x)) ⊎ Own r k x ts
own_part bs k x g ts r hd nl gx out all (inl sel) i = inl (own_sel bs k x g r hd nl gx sel i)
own_part bs k x g ts r hd nl gx out all (inr (inl l)) i = absurd (no_loop bs k r.of g r.by hd nl l.0 i)
own_part bs k x g ts r hd nl gx out all (inr (inr c)) i = inr (own_case bs k x g ts r hd gx out all c i)

pub turn : (r t : Row) → Nested r t → Nested t r
turn r t (inl a) = inr (inl a)
turn r t (inr (inl a)) = inl a
turn r t (inr (inr (inl a))) = inr (inr (inr a))
turn r t (inr (inr (inr a))) = inr (inr (inl a))

-- two parts of the header itself
pub both : (k x : ℕ) (ts : List ℕ) (r t : Row) → ((r.first ≡ k) × (r.end ≡ x)) ⊎ Own r k x ts → ((t.first ≡ k) × (t.end ≡ x)) ⊎ Own t k x ts → Nested r t
both k x ts r t (inl z) (inl u) = inr (inr (inl (omega (arith, z.0, u.0), omega (arith, z.1, u.1))))
both k x ts r t (inl z) (inr u) = let y : _ = u.after in let w : _ = u.within in inr (inr (inl (omega (arith, z.0, y), omega (arith, z.1, w))))
both k x ts r t (inr z) (inl u) = let y : _ = z.after in let w : _ = z.within in inr (inr (inr (omega (arith, u.0, y), omega (arith, u.1, w))))
both k x ts r t (inr z) (inr u) = elim (cases_order r.first t.first) [
  | inl e ↦ inr (inr (inr (
    omega (arith, e),
    elim u.stop
        [ inl has ↦ (let y : _ = u.some in z.next t.end has (omega (arith, e, y))) | inr q ↦ (let y : _ = z.within in omega (arith, q, y)) ],
  )))
  | inr o ↦ elim o [ inl lt ↦ inl (z.next t.first u.start lt) | inr lt ↦ inr (inl (u.next r.first z.start lt)) ]
]

-- a part of the header itself, and one of an arm
pub over : (bs : List BasicBlock) (k x : ℕ) (ts : List ℕ) (r t : Row) → Arms bs (k + 1) x x ts → Part bs t → Among (k + 1) x t.of
    → ((r.first ≡ k) × (r.end ≡ x)) ⊎ Own r k x ts → Nested r t
over bs k x ts r t a pt vt (inl z) = let y : _ = arm_bounds bs (k + 1) x x ts t a pt vt in inr (inr (inl (omega (arith, z.0, y.0, vt.0), omega (arith, z.1, y.1, y.2))))
over bs k x ts r t a pt vt (inr z) = let y : _ = arm_bounds bs (k + 1) x x ts t a pt vt in elim (a.apart r.first t z.start pt vt) [
  | inl le ↦ inr (inl le)
  | inr le ↦ elim z.stop [
    | inl has ↦ elim (a.apart r.end t has pt vt) [ inl l ↦ inr (inr (inl (omega (arith, le, y.0), l))) | inr l ↦ inl (omega (arith, l, y.0)) ]
    | inr q ↦ inr (inr (inl (omega (arith, le, y.0), omega (arith, q, y.1, y.2))))
  ]
]

-- an edge of an arm that ends in a case begins in it
pub from_start : (bs : List BasicBlock) (k x : ℕ) (ts : List ℕ) (r : Row) (p q : ℕ) → Arms bs (k + 1) x x ts → Own r k x ts → Among (k + 1) x p → Branches bs p q → Holds r q → Holds r p
from_start bs k x ts r p q a z v ed inq = let w : _ = z.within in (
  elim (cases_lt p r.first) [
    | inl lt ↦ elim (a.forth r.first p q z.start v ed lt) [ inl l ↦ absurd (omega (arith, l, inq.0)) | inr e ↦ absurd (omega (arith, e, w, inq.1)) ]
    | inr ge ↦ ge
  ],
  elim (cases_lt p r.end) [
    | inl lt ↦ lt
    | inr ge ↦ elim z.stop [ inl has ↦ (let y : _ = a.keeps r.end p q has v ed ge in absurd (omega (arith, y, inq.1))) | inr e ↦ absurd (omega (arith, e, ge, v.1)) ]
  ],
)

-- no edge goes from a case to another
pub no_other : (bs : List BasicBlock) (k x : ℕ) (ts : List ℕ) (p : ℕ) (r t : Row) → Arms bs (k + 1) x x ts → Own r k x ts → Own t k x ts → Holds r p → Branches bs p t.first → t.first ≡ r.first
no_other bs k x ts p r t a z u inp ed = let za : _ = z.after in let zw : _ = z.within in let us : _ = u.some in let uw : _ = u.within in
    let v : Among (k + 1) x p = (omega (arith, za, inp.0), omega (arith, zw, inp.1)) in
    elim (cases_order t.first r.first) [
      | inl e ↦ e
      | inr o ↦ elim o [
        | inl lt ↦ (let y : _ = a.keeps r.first p t.first z.start v ed inp.0 in absurd (omega (arith, y, lt)))
        | inr lt ↦ (let y : _ = z.next t.first u.start lt in elim (a.forth t.first p t.first u.start v ed (omega (arith, y, inp.1))) [ inl l ↦ absurd (omega (arith, l)) | inr e ↦ absurd (omega (arith, e, us, uw)) ])
      ]
    ]

pub three : (s k x p : ℕ) → Within s (x + 1) p → (Within s (k + 1) p) ⊎ ((p ≡ k) ⊎ Among (k + 1) x p)
three s k x p w = elim (cases_order p k)
    [ inl i ↦ inr (inl i) | inr o ↦ elim o [ inl lt ↦ inl (w.0, omega arith) | inr lt ↦ inr (inr (omega arith, omega (arith, w.1))) ] ]

pub select : (bs : List BasicBlock) (s k x : ℕ) (g : Merge) (ts : List ℕ) → Fine bs s (k + 1) → Heading bs k g → (is_loop g) ≡ false → g.merge_block ≡ x
    → ((q : ℕ) → Branches bs k q → (q ≡ x) ⊎ Contains ts q) → ((q : ℕ) → Contains ts q → Branches bs k q)
    → k < x → Arms bs (k + 1) x x ts → Fine bs s (x + 1)
select bs s k x g ts f hd nl gx out all kx a = record {
  some = omega (arith, sk);
  edges = λ p q w ed. elim (three s k x p w) [
    | inl v ↦ (let y : _ = f.edges p q v ed in (y.0, omega (arith, y.1)))
    | inr o ↦ elim o [
      | inl i ↦ elim (out q (subst (λ z. Branches bs z q) i ed)) [ inl e ↦ (omega (arith, e, sk), omega (arith, e)) | inr has ↦ (let y : _ = a.starts q has in (omega (arith, y.0, sk), omega (arith, y.1))) ]
      | inr v ↦ elim (a.edges p q v ed) [ inl y ↦ (omega (arith, y.0, sk), omega (arith, y.1)) | inr e ↦ (omega (arith, e, sk), omega (arith, e)) ]
    ]
  ];
  entered = λ q lo hi. elim (cases_lt q (k + 1)) [
    | inl lt ↦ f.entered q lo lt
    | inr ge ↦ elim (cases_lt q x) [
      | inl lt ↦ elim (a.entered q (ge, lt)) [ inl has ↦ (k, sk, omega arith, inl (all q has)) | inr y ↦ (y.0, omega (arith, y.1, sk), y.2, y.3) ]
      | inr gt ↦ (let y : q ≡ g.merge_block = omega (arith, gx, hi) in (k, sk, omega arith, inr (inl (hd.0, g, (hd.1, hd.2), y))))
    ]
  ];
  ahead = λ h b m w hh. elim (three s k x h w) [
    | inl v ↦ (let y : _ = f.ahead h b m v hh in (y.0, omega (arith, y.1)))
    | inr o ↦ elim o [
      | inl i ↦ (let e : m ≡ g = heads_is bs k b g m hd (subst (λ z. Heads bs z b m) i hh) in let mx : m.merge_block ≡ x = ap (λ z. z.merge_block) e ∙ gx in (omega (arith, i, mx), omega (arith, mx)))
      | inr v ↦ (let y : _ = a.ahead h b m v hh in (y.0, omega (arith, y.1)))
    ]
  ];
  loops = λ h m w l. elim (three s k x h w)
      [ inl v ↦ f.loops h m v l | inr o ↦ elim o [ inl i ↦ absurd (no_loop bs k h g m hd nl l i) | inr v ↦ a.loops h m v l ] ];
  back = λ p q w be. elim (three s k x p w) [
    | inl v ↦ f.back p q v be
    | inr o ↦ elim o [
      | inl i ↦ elim (out q (subst (λ z. Branches bs z q) i be.0)) [ inl e ↦ absurd (omega (arith, e, i, be.1)) | inr has ↦ (let y : _ = a.starts q has in absurd (omega (arith, y.0, i, be.1))) ]
      | inr v ↦ a.back p q v be
    ]
  ];
  single = λ h j b c m n wh wj hh hj same. elim (three s k x h wh) [
    | inl vh ↦ (let y : _ = f.ahead h b m vh hh in elim (three s k x j wj) [
      | inl vj ↦ f.single h j b c m n vh vj hh hj same
      | inr o ↦ elim o [
        | inl i ↦ (let z : n.merge_block ≡ x = merge_at j c n i hj in absurd (omega (arith, y.1, z, same)))
        | inr vj ↦ (let z : _ = a.ahead j c n vj hj in absurd (omega (arith, y.1, z.0, vj.0, same)))
      ]
    ])
    | inr o ↦ elim o [
      | inl i ↦ (let y : m.merge_block ≡ x = merge_at h b m i hh in elim (three s k x j wj) [
        | inl vj ↦ (let z : _ = f.ahead j c n vj hj in absurd (omega (arith, z.1, y, same)))
        | inr u ↦ elim u [ inl l ↦ i ∙ sym l | inr vj ↦ (let z : _ = a.ahead j c n vj hj in absurd (omega (arith, z.1, y, same))) ]
      ])
      | inr vh ↦ (let y : _ = a.ahead h b m vh hh in elim (three s k x j wj) [
        | inl vj ↦ (let z : _ = f.ahead j c n vj hj in absurd (omega (arith, z.1, y.0, vh.0, same)))
        | inr u ↦ elim u [
          | inl l ↦ (let z : n.merge_block ≡ x = merge_at j c n l hj in absurd (omega (arith, y.1, z, same)))
          | inr vj ↦ a.single h j b c m n vh vj hh hj same
        ]
      ])
    ]
  ];
  nested = λ r t pr pt wr wt. elim (three s k x r.of wr) [
    | inl vr ↦ (let y : _ = part_bounds bs s (k + 1) r f pr vr in elim (three s k x t.of wt) [
      | inl vt ↦ f.nested r t pr pt vr vt
      | inr o ↦ elim o [
        | inl i ↦ elim (own t pt i) [ inl z ↦ inl (omega (arith, y.1, y.2, z.0)) | inr z ↦ (let u : _ = z.after in inl (omega (arith, y.1, y.2, u))) ]
        | inr vt ↦ (let z : _ = arm_bounds bs (k + 1) x x ts t a pt vt in inl (omega (arith, y.1, y.2, z.0, vt.0)))
      ]
    ])
    | inr o ↦ elim o [
      | inl i ↦ elim (three s k x t.of wt) [
        | inl vt ↦ (let y : _ = part_bounds bs s (k + 1) t f pt vt in elim (own r pr i) [ inl z ↦ inr (inl (omega (arith, y.1, y.2, z.0))) | inr z ↦ (let u : _ = z.after in inr (inl (omega (arith, y.1, y.2, u)))) ])
        | inr u ↦ elim u [ inl l ↦ both k x ts r t (own r pr i) (own t pt l) | inr vt ↦ over bs k x ts r t a pt vt (own r pr i) ]
      ]
      | inr vr ↦ (let y : _ = arm_bounds bs (k + 1) x x ts r a pr vr in elim (three s k x t.of wt) [
        | inl vt ↦ (let z : _ = part_bounds bs s (k + 1) t f pt vt in inr (inl (omega (arith, z.1, z.2, y.0, vr.0))))
        | inr u ↦ elim u [ inl l ↦ turn t r (over bs k x ts t r a pr vr (own t pt l)) | inr vt ↦ a.nested r t pr pt vr vt ]
      ])
    ]
  ];
  entry = λ p q r w wr ed pr inq. elim (three s k x r.of wr) [
    | inl vr ↦ (let y : _ = part_bounds bs s (k + 1) r f pr vr in elim (three s k x p w) [
      | inl v ↦ f.entry p q r v vr ed pr inq
      | inr o ↦ elim o [
        | inl i ↦ (let z : k < q = beyond q (subst (λ u. Branches bs u q) i ed) in absurd (omega (arith, y.1, y.2, z, inq.1)))
        | inr v ↦ elim (a.edges p q v ed) [ inl z ↦ absurd (omega (arith, y.1, y.2, z.0, inq.1)) | inr e ↦ absurd (omega (arith, y.1, y.2, e, kx, inq.1)) ]
      ]
    ])
    | inr j ↦ elim j [
      | inl l ↦ elim (own r pr l) [
        | inl z ↦ elim (three s k x p w) [
          | inl v ↦ (let y : _ = f.edges p q v ed in inl (omega (arith, y.1, z.0, inq.0)))
          | inr o ↦ elim o [ inl i ↦ inr (omega (arith, i, z.0), omega (arith, i, z.1, kx)) | inr v ↦ inr (omega (arith, v.0, z.0), omega (arith, v.1, z.1)) ]
        ]
        | inr z ↦ (let za : _ = z.after in let zw : _ = z.within in elim (three s k x p w) [
          | inl v ↦ (let y : _ = f.edges p q v ed in absurd (omega (arith, y.1, za, inq.0)))
          | inr o ↦ elim o [
            | inl i ↦ elim (out q (subst (λ u. Branches bs u q) i ed)) [
              | inl e ↦ absurd (omega (arith, e, zw, inq.1))
              | inr has ↦ elim (cases_order r.first q) [
                | inl e ↦ inl (sym e)
                | inr c ↦ elim c [ inl lt ↦ (let y : _ = z.next q has lt in absurd (omega (arith, y, inq.1))) | inr lt ↦ absurd (omega (arith, lt, inq.0)) ]
              ]
            ]
            | inr v ↦ inr (from_start bs k x ts r p q a z v ed inq)
          ]
        ])
      ]
      | inr vr ↦ (let y : _ = arm_bounds bs (k + 1) x x ts r a pr vr in elim (three s k x p w) [
        | inl v ↦ (let z : _ = f.edges p q v ed in absurd (omega (arith, z.1, y.0, vr.0, inq.0)))
        | inr o ↦ elim o [
          | inl i ↦ elim (out q (subst (λ u. Branches bs u q) i ed)) [
            | inl e ↦ absurd (omega (arith, e, y.1, y.2, inq.1))
            | inr has ↦ elim (a.apart q r has pr vr) [ inl le ↦ absurd (omega (arith, le, inq.1)) | inr le ↦ inl (omega (arith, le, y.0, inq.0)) ]
          ]
          | inr v ↦ a.entry p q r v vr ed pr inq
        ]
      ])
    ]
  ];
  leaves = λ p q r w wr ed pr inp. elim (three s k x r.of wr) [
    | inl vr ↦ (let y : _ = part_bounds bs s (k + 1) r f (inl pr) vr in f.leaves p q r (w.0, omega (arith, y.1, y.2, inp.1)) vr ed pr inp)
    | inr j ↦ elim j [
      | inl l ↦ (let z : _ = own_sel bs k x g r hd nl gx pr l in elim (goes_where p q ed (omega (arith, inp.0, z.0)) (omega (arith, inp.1, z.1))) [
        | inl y ↦ inl (omega (arith, y.0, z.0), omega (arith, y.1, z.1))
        | inr e ↦ (let hh : _ = part_heads bs r (inl pr) in let mx : _ = merge_at r.of hh.0 r.by l hh.1 in inr (inl (e ∙ sym mx)))
      ])
      | inr vr ↦ (let y : _ = arm_bounds bs (k + 1) x x ts r a (inl pr) vr in a.leaves p q r (omega (arith, y.0, vr.0, inp.0), omega (arith, y.1, y.2, inp.1)) vr ed pr inp)
    ]
  ];
  cases = λ p r t w wr cr ct same inp ed. elim (three s k x r.of wr) [
    | inl vr ↦ (let y : _ = part_bounds bs s (k + 1) r f (inr (inr cr)) vr in f.cases p r t (w.0, omega (arith, y.1, y.2, inp.1)) vr cr ct same inp ed)
    | inr j ↦ elim j [
      | inl l ↦ no_other bs k x ts p r t a (own_case bs k x g ts r hd gx out all2 cr l) (own_case bs k x g ts t hd gx out all2 ct (sym same ∙ l)) inp ed
      | inr vr ↦ (let y : _ = arm_bounds bs (k + 1) x x ts r a (inr (inr cr)) vr in a.cases p r t (omega (arith, y.0, vr.0, inp.0), omega (arith, y.1, y.2, inp.1)) vr cr ct same inp ed)
    ]
  ];
}
  where
    sk : s ≤ k
    sk = let y : _ = f.some in omega (arith, y)

    all2 : (q : ℕ) → Contains ts q → Branches bs k q × (k < q) × (q < x)
    all2 q has = let y : _ = a.starts q has in (all q has, omega (arith, y.0), y.1)

    own : (r : Row) → Part bs r → r.of ≡ k → ((r.first ≡ k) × (r.end ≡ x)) ⊎ Own r k x ts
    own r pr i = own_part bs k x g ts r hd nl gx out all2 pr i

    merge_at : (h : ℕ) (c : BasicBlock) (m : Merge) → h ≡ k → Heads bs h c m → m.merge_block ≡ x
    merge_at h c m i hh = ap (λ z. z.merge_block) (heads_is bs k c g m hd (subst (λ z. Heads bs z c m) i hh)) ∙ gx

    beyond : (q : ℕ) → Branches bs k q → k < q
    beyond q ed = elim (out q ed) [ inl e ↦ omega (arith, e, kx) | inr has ↦ (let y : _ = a.starts q has in omega (arith, y.0)) ]

    goes_where : (p q : ℕ) → Branches bs p q → k ≤ p → p < x → ((k < q) × (q < x)) ⊎ (q ≡ x)
    goes_where p q ed kp px = elim (cases_order p k) [
      | inl i ↦ elim (out q (subst (λ u. Branches bs u q) i ed)) [ inl e ↦ inr e | inr has ↦ (let y : _ = a.starts q has in inl (omega (arith, y.0), y.1)) ]
      | inr o ↦ elim o [ inl lt ↦ absurd (omega (arith, lt, kp)) | inr lt ↦ elim (a.edges p q (omega (arith, lt), px) ed) [ inl y ↦ inl (omega (arith, y.0), y.1) | inr e ↦ inr e ] ]
    ]
