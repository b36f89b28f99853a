-- Blocks, headers and their constructs.
use Rattle.std.proofs.Common.{◌≡◌, ℕ, zero, suc, ◌+◌, ◌<◌, ◌≤◌, ◌⊎◌, inl, inr, List, [], ◌∷◌, refl, sym, ◌∙◌, subst, arith, true, false, Some, None, Contains}
use Rattle.std.proofs.lemmas.Bool.{cases_order}
use Rattle.flow_rules.specs.Blocks.{BasicBlock}
use Rattle.flow_rules.specs.declared.block.Merge.{Merge}
use Rattle.flow_rules.specs.Flow.{Row, At}
use Rattle.row_laws.specs.Rows.{Branches, Heads, Part, Within, Goes, Fine}
use Rattle.row_laws.specs.Rows.Construct.{Selection, LoopPart, Continue}

-- the block at k has this merge instruction
abbrev pub Heading : List BasicBlock → ℕ → Merge → Type 0
Heading bs k g = (b : BasicBlock) × At bs k b × (b.merge ≡ Some g)

pub none_some : {A : Type 0} (a : A) → None ≡ Some a → ⊥
none_some a e = cc

pub some_inj : {A : Type 0} (a b : A) → Some a ≡ Some b → a ≡ b
some_inj a b e = cc

pub at_same : (bs : List BasicBlock) (p : ℕ) (b c : BasicBlock) → At bs p b → At bs p c → b ≡ c
at_same bs p b c h k = some_inj b c (sym h ∙ k)

pub only : (x q : ℕ) → Contains (x ∷ []) q → q ≡ x
only x q (zero, lt, e) = sym e
only x q (suc k, lt, e) = grind arith

pub none : {A : Type 0} (q : A) → Contains [] q → ⊥
none q (k, lt, e) = grind arith

pub goes_edge : (bs : List BasicBlock) (k m q : ℕ) → Goes bs k m → Branches bs k q → q ≡ m
goes_edge bs k m q (b, at, nm, ts) (c, ct, has) =
    only m q (subst (λ l. Contains l q) ts (subst (λ x. Contains x.targets q) (at_same bs k c b ct at) has))

pub goes_heads : (bs : List BasicBlock) (k m : ℕ) (c : BasicBlock) (g : Merge) → Goes bs k m → Heads bs k c g → ⊥
goes_heads bs k m c g (b, at, nm, ts) (ct, has) =
    none_some g (sym nm ∙ subst (λ x. x.merge ≡ Some g) (at_same bs k c b ct at) has)

-- a header is not at k
pub header_side : (bs : List BasicBlock) (k m h : ℕ) (c : BasicBlock) (g : Merge) → Goes bs k m → Heads bs h c g → (h < k) ⊎ (k < h)
header_side bs k m h c g go hd =
    elim (cases_order h k) [ inl e ↦ absurd (goes_heads bs k m c g go (subst (λ x. Heads bs x c g) e hd)) | inr lt ↦ lt ]

pub part_heads : (bs : List BasicBlock) (r : Row) → Part bs r → (b : BasicBlock) × Heads bs r.of b r.by
part_heads bs r (inl (Selection h b g sel)) = (b, sel.0)
part_heads bs r (inl (LoopPart h g l)) = l.0
part_heads bs r (inl (Continue h g l)) = l.0
part_heads bs r (inr (inl l)) = l.0.0
part_heads bs r (inr (inr c)) = (c.0.0, c.0.1.0)

-- a part of a header of the row lies between that header and the merge block
pub part_bounds : (bs : List BasicBlock) (s e : ℕ) (r : Row) → Fine bs s e → Part bs r → Within s e r.of
    → (r.of ≤ r.first) × (r.end ≤ r.by.merge_block) × (r.by.merge_block < e)
part_bounds bs s e r f (inl (Selection h b g sel)) w = let a : _ = f.ahead h b g w sel.0 in (omega arith, omega arith, a.1)
part_bounds bs s e r f (inl (LoopPart h g l)) w =
    let a : _ = f.ahead h l.0.0 g w l.0.1 in let b : _ = f.loops h g w l in (omega arith, omega (arith, b.1), a.1)
part_bounds bs s e r f (inl (Continue h g l)) w =
    let a : _ = f.ahead h l.0.0 g w l.0.1 in let b : _ = f.loops h g w l in (omega (arith, b.0), omega arith, a.1)
part_bounds bs s e r f (inr (inl l)) w =
    let a : _ = f.ahead r.of l.0.0.0 r.by w l.0.0.1 in (omega (arith, l.1), omega (arith, l.2), a.1)
part_bounds bs s e r f (inr (inr c)) w =
    let a : _ = f.ahead r.of c.0.0 r.by w c.0.1.0 in (omega (arith, c.0.4), elim c.2 [ inl t ↦ omega (arith, t.5) | inr q ↦ omega (arith, q) ], a.1)

pub goes_along : (bs : List BasicBlock) (k m : ℕ) → Goes bs k m → Branches bs k m
goes_along bs k m (b, at, nm, ts) = (b, at, subst (λ l. Contains l m) (sym ts) (0, omega arith, refl))

-- ---- lists

pub in_cons : (t x : ℕ) (ts : List ℕ) → Contains (x ∷ ts) t → (t ≡ x) ⊎ Contains ts t
in_cons t x ts (zero, lt, e) = inl (sym e)
in_cons t x ts (suc k, lt, e) = inr (k, grind arith, e)

pub first_in : (x : ℕ) (xs : List ℕ) → Contains (x ∷ xs) x
first_in x xs = (0, omega arith, refl)

pub next_in : (x t : ℕ) (xs : List ℕ) → Contains xs t → Contains (x ∷ xs) t
next_in x t xs (k, lt, e) = (suc k, omega arith, e)

-- ---- headers

pub heads_is : (bs : List BasicBlock) (k : ℕ) (c : BasicBlock) (g f : Merge) → Heading bs k g → Heads bs k c f → f ≡ g
heads_is bs k c g f (b, at, e) (ct, has) =
    some_inj f g (sym (subst (λ x. x.merge ≡ Some f) (at_same bs k c b ct at) has) ∙ e)

pub true_false : true ≡ false → ⊥
true_false e = cc

-- ---- a leaf of one block
pub one : (bs : List BasicBlock) (s : ℕ) → Fine bs s (s + 1)
one bs s = record {
  some = omega arith;
  edges = λ p q w ed. absurd (omega (arith, w.0, w.1));
  entered = λ q lo hi. absurd (omega (arith, lo, hi));
  ahead = λ h b g w hd. absurd (omega (arith, w.0, w.1));
  loops = λ h g w l. absurd (omega (arith, w.0, w.1));
  back = λ p q w be. absurd (omega (arith, w.0, w.1));
  single = λ h k b c g f w v hh hk same. absurd (omega (arith, w.0, w.1));
  nested = λ r t pr pt w v. absurd (omega (arith, w.0, w.1));
  entry = λ p q r w v ed pr inq. absurd (omega (arith, w.0, w.1));
  leaves = λ p q r w v ed pr inp. absurd (omega (arith, w.0, w.1));
  cases = λ p r t w v cr ct same inp ed. absurd (omega (arith, w.0, w.1));
}
