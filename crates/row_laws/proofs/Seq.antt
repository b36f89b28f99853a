-- Two rows, one behind the other, are a row.
use Rattle.std.proofs.Common.{◌≡◌, ℕ, ◌+◌, ◌⊎◌, inl, inr, List, sym, subst, arith}
use Rattle.std.proofs.lemmas.Bool.{cases_order}
use Rattle.flow_rules.specs.Blocks.{BasicBlock}
use Rattle.flow_rules.specs.declared.block.Merge.{Merge}
use Rattle.flow_rules.specs.Flow.{Row}
use Rattle.row_laws.specs.Rows.{Branches, Heads, Part, Within, Goes, Fine}
use Rattle.row_laws.proofs.Basics.{goes_edge, header_side, part_heads, part_bounds, goes_along}

-- ---- one row behind another: the row from s to k, whose last block k goes to k + 1, and the row from k + 1 to e
pub header_sides : (bs : List BasicBlock) (s k e h : ℕ) (c : BasicBlock) (g : Merge) → Goes bs k (k + 1) → Within s e h → Heads bs h c g
    → (Within s (k + 1) h) ⊎ (Within (k + 1) e h)
header_sides bs s k e h c g go w hd =
    elim (header_side bs k (k + 1) h c g go hd) [ inl lt ↦ inl (w.0, omega arith) | inr lt ↦ inr (omega arith, w.1) ]

pub part_sides : (bs : List BasicBlock) (s k e : ℕ) (r : Row) → Goes bs k (k + 1) → Within s e r.of → Part bs r
    → (Within s (k + 1) r.of) ⊎ (Within (k + 1) e r.of)
part_sides bs s k e r go w part = let h : _ = part_heads bs r part in header_sides bs s k e r.of h.0 r.by go w h.1

pub block_sides : (s k e p : ℕ) → Within s e p → (Within s (k + 1) p) ⊎ ((p ≡ k) ⊎ (Within (k + 1) e p))
block_sides s k e p w = elim (cases_order p k) [ inl q ↦ inr (inl q) | inr o ↦ elim o [ inl lt ↦ inl (w.0, omega arith) | inr lt ↦ inr (inr (omega arith, w.1)) ] ]

pub seq : (bs : List BasicBlock) (s k e : ℕ) → Fine bs s (k + 1) → Fine bs (k + 1) e → Goes bs k (k + 1) → Fine bs s e
seq bs s k e f g go = record {
  some = let a : _ = f.some in let b : _ = g.some in omega (arith, a, b);
  edges = λ p q w ed. let b : _ = g.some in elim (block_sides s k e p w) [
    | inl v ↦ (let x : _ = f.edges p q v ed in (x.0, omega (arith, x.1, b)))
    | inr o ↦ elim o [
      | inl i ↦ (let x : q ≡ k + 1 = goes_edge bs k (k + 1) q go (subst (λ z. Branches bs z q) i ed) in let y : _ = f.some in (omega (arith, x, y), omega (arith, x, b)))
      | inr v ↦ (let x : _ = g.edges p q v ed in let y : _ = f.some in (omega (arith, x.0, y), x.1))
    ]
  ];
  entered = λ q lo hi. elim (cases_order q (k + 1)) [
    | inl i ↦ (k, (let x : _ = f.some in omega (arith, x)), omega (arith, i), inl (subst (λ z. Branches bs k z) (sym i) (goes_along bs k (k + 1) go)))
    | inr o ↦ elim o [
      | inl lt ↦ f.entered q lo lt
      | inr lt ↦ (let x : _ = g.entered q lt hi in let y : _ = f.some in (x.0, omega (arith, x.1, y), x.2, x.3))
    ]
  ];
  ahead = λ h b m w hd. let y : _ = f.some in let z : _ = g.some in elim (header_sides bs s k e h b m go w hd)
      [ inl v ↦ (let x : _ = f.ahead h b m v hd in (x.0, omega (arith, x.1, z))) | inr v ↦ g.ahead h b m v hd ];
  loops = λ h m w l. elim (header_sides bs s k e h l.0.0 m go w l.0.1) [ inl v ↦ f.loops h m v l | inr v ↦ g.loops h m v l ];
  back = λ p q w be. elim (block_sides s k e p w) [
    | inl v ↦ f.back p q v be
    | inr o ↦ elim o [
      | inl i ↦ (let x : q ≡ k + 1 = goes_edge bs k (k + 1) q go (subst (λ z. Branches bs z q) i be.0) in absurd (omega (arith, x, i, be.1)))
      | inr v ↦ g.back p q v be
    ]
  ];
  single = λ h j b c m n wh wj hh hj same. elim (header_sides bs s k e h b m go wh hh) [
    | inl vh ↦ elim (header_sides bs s k e j c n go wj hj) [
      | inl vj ↦ f.single h j b c m n vh vj hh hj same
      | inr vj ↦ (let x : _ = f.ahead h b m vh hh in let y : _ = g.ahead j c n vj hj in absurd (omega (arith, x.1, y.0, vj.0, same)))
    ]
    | inr vh ↦ elim (header_sides bs s k e j c n go wj hj) [
      | inl vj ↦ (let x : _ = f.ahead j c n vj hj in let y : _ = g.ahead h b m vh hh in absurd (omega (arith, x.1, y.0, vh.0, same)))
      | inr vj ↦ g.single h j b c m n vh vj hh hj same
    ]
  ];
  nested = λ r t pr pt wr wt. elim (part_sides bs s k e r go wr pr) [
    | inl vr ↦ elim (part_sides bs s k e t go wt pt) [
      | inl vt ↦ f.nested r t pr pt vr vt
      | inr vt ↦ (let x : _ = part_bounds bs s (k + 1) r f pr vr in let y : _ = part_bounds bs (k + 1) e t g pt vt in inl (omega (arith, x.1, x.2, y.0, vt.0)))
    ]
    | inr vr ↦ elim (part_sides bs s k e t go wt pt) [
      | inl vt ↦ (let x : _ = part_bounds bs s (k + 1) t f pt vt in let y : _ = part_bounds bs (k + 1) e r g pr vr in inr (inl (omega (arith, x.1, x.2, y.0, vr.0))))
      | inr vt ↦ g.nested r t pr pt vr vt
    ]
  ];
  entry = λ p q r w wr ed pr inq. elim (part_sides bs s k e r go wr pr) [
    | inl vr ↦ (let x : _ = part_bounds bs s (k + 1) r f pr vr in elim (block_sides s k e p w) [
      | inl v ↦ f.entry p q r v vr ed pr inq
      | inr o ↦ elim o [
        | inl i ↦ (let y : q ≡ k + 1 = goes_edge bs k (k + 1) q go (subst (λ z. Branches bs z q) i ed) in absurd (omega (arith, x.1, x.2, y, inq.1)))
        | inr v ↦ (let y : _ = g.edges p q v ed in absurd (omega (arith, x.1, x.2, y.0, inq.1)))
      ]
    ])
    | inr vr ↦ (let x : _ = part_bounds bs (k + 1) e r g pr vr in elim (block_sides s k e p w) [
      | inl v ↦ (let y : _ = f.edges p q v ed in absurd (omega (arith, x.0, vr.0, y.1, inq.0)))
      | inr o ↦ elim o [
        | inl i ↦ (let y : q ≡ k + 1 = goes_edge bs k (k + 1) q go (subst (λ z. Branches bs z q) i ed) in inl (omega (arith, x.0, vr.0, y, inq.0)))
        | inr v ↦ g.entry p q r v vr ed pr inq
      ]
    ])
  ];
  leaves = λ p q r w wr ed pr inp. elim (part_sides bs s k e r go wr (inl pr)) [
    | inl vr ↦ (let x : _ = part_bounds bs s (k + 1) r f (inl pr) vr in f.leaves p q r (w.0, omega (arith, x.1, x.2, inp.1)) vr ed pr inp)
    | inr vr ↦ (let x : _ = part_bounds bs (k + 1) e r g (inl pr) vr in g.leaves p q r (omega (arith, x.0, vr.0, inp.0), w.1) vr ed pr inp)
  ];
  cases = λ p r t w wr cr ct same inp ed. elim (part_sides bs s k e r go wr (inr (inr cr))) [
    | inl vr ↦ (let x : _ = part_bounds bs s (k + 1) r f (inr (inr cr)) vr in f.cases p r t (w.0, omega (arith, x.1, x.2, inp.1)) vr cr ct same inp ed)
    | inr vr ↦ (let x : _ = part_bounds bs (k + 1) e r g (inr (inr cr)) vr in g.cases p r t (omega (arith, x.0, vr.0, inp.0), w.1) vr cr ct same inp ed)
  ];
}
