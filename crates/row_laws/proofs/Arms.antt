-- The arms of a selection: rows one behind the other, each of which branches to one merge block.
use Rattle.std.proofs.Common.{◌≡◌, ℕ, ◌+◌, ◌<◌, ◌≤◌, ◌⊎◌, inl, inr, List, [], ◌∷◌, sym, subst, arith, Contains}
use Rattle.std.proofs.lemmas.Bool.{cases_lt, cases_order}
use Rattle.flow_rules.specs.Blocks.{BasicBlock}
use Rattle.flow_rules.specs.declared.block.Merge.{Merge}
use Rattle.flow_rules.specs.Flow.{Row}
use Rattle.row_laws.specs.Rows.{continue_of, Branches, Heads, Looping, GoesBack, Holds, Construct, Case, Part, Structural, Within, Leaves, Goes, Nested, Fine}
use Rattle.row_laws.specs.Rows.Construct.{Selection, LoopPart, Continue}
use Rattle.row_laws.proofs.Basics.{none, in_cons, first_in, next_in, goes_edge, goes_heads, part_heads, part_bounds}

-- rows one behind the other from a up to m, each ended by a branch to the block at x; ts are their first blocks
abbrev pub Among : ℕ → ℕ → ℕ → Type 0
Among a m p = (a ≤ p) × (p < m)

pub record Arms (bs : List BasicBlock) (a : ℕ) (m : ℕ) (x : ℕ) (ts : List ℕ) : Type 0 where
  pub before : m ≤ x
  pub starts : (t : ℕ) → Contains ts t → Among a m t
  pub edges : (p q : ℕ) → Among a m p → Branches bs p q → Among a m q ⊎ (q ≡ x)
  pub entered : (q : ℕ) → Among a m q → Contains ts q ⊎ ((p : ℕ) × (a ≤ p) × (p < q) × Structural bs p q)
  pub ahead : (h : ℕ) (b : BasicBlock) (g : Merge) → Among a m h → Heads bs h b g → (h < g.merge_block) × (g.merge_block < m)
  pub loops : (h : ℕ) (g : Merge) → Among a m h → Looping bs h g → (h < (continue_of g)) × (g.merge_block ≡ (continue_of g) + 1) × Branches bs (continue_of g) h
  pub back : (p q : ℕ) → Among a m p → GoesBack bs p q → (g : Merge) × Looping bs q g × (p ≡ (continue_of g))
  pub single : (h k : ℕ) (b c : BasicBlock) (g f : Merge) → Among a m h → Among a m k → Heads bs h b g → Heads bs k c f → g.merge_block ≡ f.merge_block → h ≡ k
  pub nested : (r t : Row) → Part bs r → Part bs t → Among a m r.of → Among a m t.of
      → Nested r t
  pub entry : (p q : ℕ) (r : Row) → Among a m p → Among a m r.of → Branches bs p q → Part bs r → Holds r q → (q ≡ r.first) ⊎ Holds r p
  pub leaves : (p q : ℕ) (r : Row) → Among a m p → Among a m r.of → Branches bs p q → Construct bs r → Holds r p → Holds r q ⊎ Leaves bs r p q
  pub cases : (p : ℕ) (r t : Row) → Among a m p → Among a m r.of → Case bs r → Case bs t → r.of ≡ t.of → Holds r p → Branches bs p t.first → t.first ≡ r.first
  -- no part and no edge goes over the first block of an arm
  pub apart : (t : ℕ) (r : Row) → Contains ts t → Part bs r → Among a m r.of → (r.end ≤ t) ⊎ (t ≤ r.of)
  pub forth : (t p q : ℕ) → Contains ts t → Among a m p → Branches bs p q → p < t → (q < t) ⊎ (q ≡ x)
  pub keeps : (t p q : ℕ) → Contains ts t → Among a m p → Branches bs p q → t ≤ p → t ≤ q

pub no_arm : (bs : List BasicBlock) (a x : ℕ) → a ≤ x → Arms bs a a x []
no_arm bs a x le = record {
  before = le;
  starts = λ t has. absurd (none t has);
  edges = λ p q w ed. absurd (omega (arith, w.0, w.1));
  entered = λ q w. absurd (omega (arith, w.0, w.1));
  ahead = λ h b g w hd. absurd (omega (arith, w.0, w.1));
  loops = λ h g w l. absurd (omega (arith, w.0, w.1));
  back = λ p q w be. absurd (omega (arith, w.0, w.1));
  single = λ h k b c g f w v hh hk same. absurd (omega (arith, w.0, w.1));
  nested = λ r t pr pt w v. absurd (omega (arith, w.0, w.1));
  entry = λ p q r w v ed pr inq. absurd (omega (arith, w.0, w.1));
  leaves = λ p q r w v ed pr inp. absurd (omega (arith, w.0, w.1));
  cases = λ p r t w v cr ct same inp ed. absurd (omega (arith, w.0, w.1));
  apart = λ t r has pr w. absurd (none t has);
  forth = λ t p q has w ed lt. absurd (none t has);
  keeps = λ t p q has w ed le. absurd (none t has);
}

pub arm_block : (a m j p : ℕ) → Among a (j + 1) p → (Among a m p) ⊎ ((p ≡ j) ⊎ (Within m (j + 1) p))
arm_block a m j p w = elim (cases_lt p m) [
  | inl lt ↦ inl (w.0, lt)
  | inr ge ↦ elim (cases_order p j)
      [ inl i ↦ inr (inl i) | inr o ↦ elim o [ inl lt ↦ inr (inr (ge, omega arith)) | inr lt ↦ absurd (omega (arith, w.1)) ] ]
]

pub arm_header : (bs : List BasicBlock) (a m j x h : ℕ) (c : BasicBlock) (g : Merge) → Goes bs j x → Among a (j + 1) h → Heads bs h c g
    → (Among a m h) ⊎ (Within m (j + 1) h)
arm_header bs a m j x h c g go w hd = elim (arm_block a m j h w)
    [ inl v ↦ inl v | inr o ↦ elim o [ inl i ↦ absurd (goes_heads bs j x c g go (subst (λ z. Heads bs z c g) i hd)) | inr v ↦ inr v ] ]

pub arm_part : (bs : List BasicBlock) (a m j x : ℕ) (r : Row) → Goes bs j x → Among a (j + 1) r.of → Part bs r
    → (Among a m r.of) ⊎ (Within m (j + 1) r.of)
arm_part bs a m j x r go w part = let h : _ = part_heads bs r part in arm_header bs a m j x r.of h.0 r.by go w h.1

pub arm_bounds : (bs : List BasicBlock) (a m x : ℕ) (ts : List ℕ) (r : Row) → Arms bs a m x ts → Part bs r → Among a m r.of
    → (r.of ≤ r.first) × (r.end ≤ r.by.merge_block) × (r.by.merge_block < m)
arm_bounds bs s e x ts r f (inl (Selection h b g sel)) w = let a : _ = f.ahead h b g w sel.0 in (omega arith, omega arith, a.1)
arm_bounds bs s e x ts r f (inl (LoopPart h g l)) w =
    let a : _ = f.ahead h l.0.0 g w l.0.1 in let b : _ = f.loops h g w l in (omega arith, omega (arith, b.1), a.1)
arm_bounds bs s e x ts r f (inl (Continue h g l)) w =
    let a : _ = f.ahead h l.0.0 g w l.0.1 in let b : _ = f.loops h g w l in (omega (arith, b.0), omega arith, a.1)
arm_bounds bs s e x ts r f (inr (inl l)) w =
    let a : _ = f.ahead r.of l.0.0.0 r.by w l.0.0.1 in (omega (arith, l.1), omega (arith, l.2), a.1)
arm_bounds bs s e x ts r f (inr (inr c)) w =
    let a : _ = f.ahead r.of c.0.0 r.by w c.0.1.0 in (omega (arith, c.0.4), elim c.2 [ inl t ↦ omega (arith, t.5) | inr q ↦ omega (arith, q) ], a.1)

-- one more arm: the row from m to j, whose last block j goes to x
pub arm : (bs : List BasicBlock) (a m j x : ℕ) (ts : List ℕ) → Arms bs a m x ts → Fine bs m (j + 1) → Goes bs j x → a ≤ m → j < x → Arms bs a (j + 1) x (m ∷ ts)
arm bs a m j x ts f g go am jx = let mj : m ≤ j = (let z : _ = g.some in omega (arith, z)) in record {
  before = omega arith;
  starts = λ t has. elim (in_cons t m ts has) [ inl i ↦ (omega (arith, i, am), omega (arith, i, mj)) | inr h ↦ (let z : _ = f.starts t h in (z.0, omega (arith, z.1, mj))) ];
  edges = λ p q w ed. elim (arm_block a m j p w) [
    | inl v ↦ elim (f.edges p q v ed) [ inl z ↦ inl (z.0, omega (arith, z.1, mj)) | inr z ↦ inr z ]
    | inr o ↦ elim o [
      | inl i ↦ inr (goes_edge bs j x q go (subst (λ z. Branches bs z q) i ed))
      | inr v ↦ (let z : _ = g.edges p q v ed in inl (omega (arith, z.0, am), z.1))
    ]
  ];
  entered = λ q w. elim (cases_order q m) [
    | inl i ↦ inl (subst (λ z. Contains (m ∷ ts) z) (sym i) (first_in m ts))
    | inr o ↦ elim o [
      | inl lt ↦ elim (f.entered q (w.0, lt)) [ inl h ↦ inl (next_in m q ts h) | inr z ↦ inr z ]
      | inr lt ↦ (let z : _ = g.entered q lt w.1 in inr (z.0, omega (arith, z.1, am), z.2, z.3))
    ]
  ];
  ahead = λ h b n w hd. elim (arm_header bs a m j x h b n go w hd)
      [ inl v ↦ (let z : _ = f.ahead h b n v hd in (z.0, omega (arith, z.1, mj))) | inr v ↦ g.ahead h b n v hd ];
  loops = λ h n w l. elim (arm_header bs a m j x h l.0.0 n go w l.0.1) [ inl v ↦ f.loops h n v l | inr v ↦ g.loops h n v l ];
  back = λ p q w be. elim (arm_block a m j p w) [
    | inl v ↦ f.back p q v be
    | inr o ↦ elim o [
      | inl i ↦ (let y : q ≡ x = goes_edge bs j x q go (subst (λ z. Branches bs z q) i be.0) in absurd (omega (arith, y, i, be.1)))
      | inr v ↦ g.back p q v be
    ]
  ];
  single = λ h k b c n l wh wk hh hk same. elim (arm_header bs a m j x h b n go wh hh) [
    | inl vh ↦ elim (arm_header bs a m j x k c l go wk hk) [
      | inl vk ↦ f.single h k b c n l vh vk hh hk same
      | inr vk ↦ (let y : _ = f.ahead h b n vh hh in let z : _ = g.ahead k c l vk hk in absurd (omega (arith, y.1, z.0, vk.0, same)))
    ]
    | inr vh ↦ elim (arm_header bs a m j x k c l go wk hk) [
      | inl vk ↦ (let y : _ = f.ahead k c l vk hk in let z : _ = g.ahead h b n vh hh in absurd (omega (arith, y.1, z.0, vh.0, same)))
      | inr vk ↦ g.single h k b c n l vh vk hh hk same
    ]
  ];
  nested = λ r t pr pt wr wt. elim (arm_part bs a m j x r go wr pr) [
    | inl vr ↦ elim (arm_part bs a m j x t go wt pt) [
      | inl vt ↦ f.nested r t pr pt vr vt
      | inr vt ↦ (let y : _ = arm_bounds bs a m x ts r f pr vr in let z : _ = part_bounds bs m (j + 1) t g pt vt in inl (omega (arith, y.1, y.2, z.0, vt.0)))
    ]
    | inr vr ↦ elim (arm_part bs a m j x t go wt pt) [
      | inl vt ↦ (let y : _ = arm_bounds bs a m x ts t f pt vt in let z : _ = part_bounds bs m (j + 1) r g pr vr in inr (inl (omega (arith, y.1, y.2, z.0, vr.0))))
      | inr vt ↦ g.nested r t pr pt vr vt
    ]
  ];
  entry = λ p q r w wr ed pr inq. elim (arm_part bs a m j x r go wr pr) [
    | inl vr ↦ (let y : _ = arm_bounds bs a m x ts r f pr vr in elim (arm_block a m j p w) [
      | inl v ↦ f.entry p q r v vr ed pr inq
      | inr o ↦ elim o [
        | inl i ↦ (let z : q ≡ x = goes_edge bs j x q go (subst (λ u. Branches bs u q) i ed) in absurd (omega (arith, y.1, y.2, z, mj, jx, inq.1)))
        | inr v ↦ (let z : _ = g.edges p q v ed in absurd (omega (arith, y.1, y.2, z.0, inq.1)))
      ]
    ])
    | inr vr ↦ (let y : _ = part_bounds bs m (j + 1) r g pr vr in elim (arm_block a m j p w) [
      | inl v ↦ elim (f.edges p q v ed) [
        | inl z ↦ absurd (omega (arith, y.0, vr.0, z.1, inq.0))
        | inr z ↦ absurd (omega (arith, y.1, y.2, z, jx, inq.1))
      ]
      | inr o ↦ elim o [
        | inl i ↦ (let z : q ≡ x = goes_edge bs j x q go (subst (λ u. Branches bs u q) i ed) in absurd (omega (arith, y.1, y.2, z, jx, inq.1)))
        | inr v ↦ g.entry p q r v vr ed pr inq
      ]
    ])
  ];
  leaves = λ p q r w wr ed pr inp. elim (arm_part bs a m j x r go wr (inl pr)) [
    | inl vr ↦ (let y : _ = arm_bounds bs a m x ts r f (inl pr) vr in f.leaves p q r (w.0, omega (arith, y.1, y.2, inp.1)) vr ed pr inp)
    | inr vr ↦ (let y : _ = part_bounds bs m (j + 1) r g (inl pr) vr in g.leaves p q r (omega (arith, y.0, vr.0, inp.0), omega (arith, y.1, y.2, inp.1)) vr ed pr inp)
  ];
  cases = λ p r t w wr cr ct same inp ed. elim (arm_part bs a m j x r go wr (inr (inr cr))) [
    | inl vr ↦ (let y : _ = arm_bounds bs a m x ts r f (inr (inr cr)) vr in f.cases p r t (w.0, omega (arith, y.1, y.2, inp.1)) vr cr ct same inp ed)
    | inr vr ↦ (let y : _ = part_bounds bs m (j + 1) r g (inr (inr cr)) vr in g.cases p r t (omega (arith, y.0, vr.0, inp.0), omega (arith, y.1, y.2, inp.1)) vr cr ct same inp ed)
  ];
  apart = λ t r has pr w. elim (in_cons t m ts has) [
    | inl i ↦ elim (arm_part bs a m j x r go w pr) [
      | inl vr ↦ (let y : _ = arm_bounds bs a m x ts r f pr vr in inl (omega (arith, i, y.1, y.2)))
      | inr vr ↦ inr (omega (arith, i, vr.0))
    ]
    | inr h ↦ (let u : _ = f.starts t h in elim (arm_part bs a m j x r go w pr) [
      | inl vr ↦ f.apart t r h pr vr
      | inr vr ↦ inr (omega (arith, u.1, vr.0))
    ])
  ];
  forth = λ t p q has w ed lt. elim (in_cons t m ts has) [
    | inl i ↦ elim (f.edges p q (w.0, omega (arith, i, lt)) ed) [ inl z ↦ inl (omega (arith, i, z.1)) | inr z ↦ inr z ]
    | inr h ↦ (let u : _ = f.starts t h in f.forth t p q h (w.0, omega (arith, u.1, lt)) ed lt)
  ];
  keeps = λ t p q has w ed le. elim (arm_block a m j p w) [
    | inl v ↦ elim (in_cons t m ts has) [ inl i ↦ absurd (omega (arith, i, v.1, le)) | inr h ↦ f.keeps t p q h v ed le ]
    | inr o ↦ elim o [
      | inl i ↦ (let y : q ≡ x = goes_edge bs j x q go (subst (λ z. Branches bs z q) i ed) in omega (arith, y, i, jx, le))
      | inr v ↦ (let y : _ = g.edges p q v ed in elim (in_cons t m ts has) [ inl i ↦ omega (arith, i, y.0) | inr h ↦ (let u : _ = f.starts t h in omega (arith, u.1, y.0)) ])
    ]
  ];
}
