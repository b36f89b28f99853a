-- The choice of one edge of each kind.
use Rattle.std.proofs.Common.{◌≡◌, ◌≢◌, ◌⊎◌, inl, inr, ℕ, ◌+◌, ◌<◌, ◌≤◌, Bool, true, false, List, length, set, Option, Some, None, sym, ap, subst, ◌∙◌, arith, eqb-true, eq-eqb, get_or-set_same, get_or-set_other}
use Rattle.std.proofs.lemmas.Bool.{cases_eq, cases_lt, both_ways}
use Rattle.flow_graph.specs.declared.linked.Edge.{Edge}
use Rattle.flow_graph.specs.Links.{IsLast, first_of}
use Rattle.flow_graph.specs.Given.{edge_at, starts, chosen_at, Chosen, Choosing}

-- nothing is chosen at first
pub choice_start : (edges : List Edge) (seen : List (Option ℕ)) (chosen : List Bool) → ((y : ℕ) → first_of seen y ≡ None)
    → ((i : ℕ) → chosen_at chosen i ≡ false) → Chosen edges 0 seen chosen
choice_start edges seen chosen none empty = record {
  only = λ i t. absurd (both_ways _ (empty i) t);
  single = λ i k t. absurd (both_ways _ (empty i) t);
  all = λ i l h. absurd (omega arith);
  low = λ y b q. (let e = sym (none y) ∙ q in cc);
}

module _ (edges : List Edge) (a : ℕ) (seen : List (Option ℕ)) (chosen : List Bool) where
  pub choice_enter : Chosen edges a seen chosen → Choosing edges a (length edges) seen chosen
  choice_enter s = record {
    only = λ i t. (let (l, h) = s.only i t in (l, inl h));
    single = s.single;
    all = λ i l h. elim h [ inl o ↦ s.all i l o | inr o ↦ absurd (let r = o.1 in omega arith) ];
    low = λ y b q. (let h = s.low y b q in omega arith);
    known = λ y q. absurd (let h = s.low y a q in omega arith);
    told = λ k t q. absurd (let h = (s.only k t).1 in omega arith);
  }

  pub choice_leave : (n : ℕ) → Choosing edges a n seen chosen → IsLast (starts edges a) n None → Chosen edges (a + 1) seen chosen
  choice_leave n s none = record {
    only = λ i t. (let (l, h) = s.only i t in (l, elim h [ inl o ↦ omega arith | inr o ↦ (let e = o.0 in omega arith) ]));
    single = s.single;
    all = λ i l h. s.all i l (done i h);
    low = λ y b q. (let h = s.low y b q in omega arith);
  }
    where
      done : (i : ℕ) → (edge_at edges i).from < a + 1 → ((edge_at edges i).from < a) ⊎ (((edge_at edges i).from ≡ a) × (n ≤ i))
      done i h = elim (cases_eq (edge_at edges i).from a) [
        | inl q ↦ elim (cases_lt i n) [
          | inl l ↦ absurd (both_ways _ (none i l) (eq-eqb (edge_at edges i).from a q))
          | inr g ↦ inr (q, g)
        ]
        | inr o ↦ inl (omega arith)
      ]

  module _ (n i : ℕ) (s : Choosing edges a n seen chosen) (last : IsLast (starts edges a) n (Some i)) where
    -- an edge that comes in turn is the one at place i, or has come before
    turns : (x : ℕ) → ((edge_at edges x).from < a) ⊎ (((edge_at edges x).from ≡ a) × (i ≤ x))
        → (x ≡ i) ⊎ (((edge_at edges x).from < a) ⊎ (((edge_at edges x).from ≡ a) × (n ≤ x)))
    turns x (inl h) = inr (inl h)
    turns x (inr (q, h)) = elim (cases_eq x i) [
      | inl e ↦ inl e
      | inr o ↦ elim (cases_lt x n) [
        | inl l ↦ absurd (both_ways _ (last.2 x (omega arith) l) (eq-eqb (edge_at edges x).from a q))
        | inr g ↦ inr (inr (q, g))
      ]
    ]

    from_i : (edge_at edges i).from ≡ a
    from_i = eqb-true (edge_at edges i).from a last.1

    sooner : (x : ℕ) → ((edge_at edges x).from < a) ⊎ (((edge_at edges x).from ≡ a) × (n ≤ x))
        → ((edge_at edges x).from < a) ⊎ (((edge_at edges x).from ≡ a) × (i ≤ x))
    sooner x (inl h) = inl h
    sooner x (inr (q, h)) = inr (q, let l = last.0 in omega arith)

    -- an edge that is like a chosen one is not chosen
    pub choice_old : first_of seen (edge_at edges i).to ≡ Some a → Choosing edges a i seen chosen
    choice_old q = record {
      only = λ x t. (let (l, h) = s.only x t in (l, sooner x h));
      single = s.single;
      all = λ x l h. elim (turns x h) [
        | inl e ↦ (let (k, t, f, o) = s.known (edge_at edges i).to q in
            (k, t, f ∙ sym from_i ∙ ap (λ (z : ℕ). (edge_at edges z).from) (sym e), o ∙ ap (λ (z : ℕ). (edge_at edges z).to) (sym e)))
        | inr o ↦ s.all x l o
      ];
      low = s.low;
      known = s.known;
      told = s.told;
    }

    -- another is chosen
    pub choice_new : i < length edges → i < length chosen → (edge_at edges i).to < length seen → first_of seen (edge_at edges i).to ≢ Some a
        → Choosing edges a i (set seen (edge_at edges i).to (Some a)) (set chosen i true)
    choice_new il ic ti new = record {
      only = λ x t. elim (was x t) [
        | inl e ↦ (omega arith, inr (ap (λ (z : ℕ). (edge_at edges z).from) e ∙ from_i, omega arith))
        | inr o ↦ (let (l, h) = s.only x o in (l, sooner x h))
      ];
      single = λ x k t u p q. elim (was x t) [
        | inl e ↦ elim (was k u) [ inl o ↦ e ∙ sym o | inr o ↦ absurd (clash x k e o p q) ]
        | inr e ↦ elim (was k u) [ inl o ↦ absurd (clash k x o e (sym p) (sym q)) | inr o ↦ s.single x k e o p q ]
      ];
      all = λ x l h. elim (turns x h) [
        | inl e ↦ (i, at_i, ap (λ (z : ℕ). (edge_at edges z).from) (sym e), ap (λ (z : ℕ). (edge_at edges z).to) (sym e))
        | inr o ↦ (let (k, t, f, q) = s.all x l o in (k, wider k t, f, q))
      ];
      low = λ y b q. elim (cases_eq y (edge_at edges i).to) [
        | inl e ↦ (let r : Some a ≡ Some b = sym (at_y y e) ∙ q in let v : a ≡ b = cc in omega arith)
        | inr o ↦ s.low y b (sym (off_y y o) ∙ q)
      ];
      known = λ y q. elim (cases_eq y (edge_at edges i).to) [
        | inl e ↦ (i, at_i, from_i, sym e)
        | inr o ↦ (let (k, t, f, r) = s.known y (sym (off_y y o) ∙ q) in (k, wider k t, f, r))
      ];
      told = λ k t f. elim (was k t) [
        | inl e ↦ at_y (edge_at edges k).to (ap (λ (z : ℕ). (edge_at edges z).to) e)
        | inr o ↦ elim (cases_eq (edge_at edges k).to (edge_at edges i).to) [
          | inl e ↦ at_y (edge_at edges k).to e
          | inr m ↦ off_y (edge_at edges k).to m ∙ s.told k o f
        ]
      ];
    }
      where
        seen' : List (Option ℕ)
        seen' = set seen (edge_at edges i).to (Some a)

        at_y : (y : ℕ) → y ≡ (edge_at edges i).to → first_of (set seen (edge_at edges i).to (Some a)) y ≡ Some a
        at_y y e =
            let P : ℕ → Type 0 = λ z. first_of (set seen (edge_at edges i).to (Some a)) z ≡ Some a in
            subst P (sym e) (get_or-set_same seen (edge_at edges i).to (Some a) None ti)

        off_y : (y : ℕ) → y ≢ (edge_at edges i).to → first_of (set seen (edge_at edges i).to (Some a)) y ≡ first_of seen y
        off_y y o = get_or-set_other seen (edge_at edges i).to y (Some a) None o

        at_i : chosen_at (set chosen i true) i ≡ true
        at_i = get_or-set_same chosen i true false ic

        was : (x : ℕ) → chosen_at (set chosen i true) x ≡ true → (x ≡ i) ⊎ (chosen_at chosen x ≡ true)
        was x t = elim (cases_eq x i) [
          | inl e ↦ inl e
          | inr o ↦ inr (sym (get_or-set_other chosen i x true false o) ∙ t)
        ]

        wider : (x : ℕ) → chosen_at chosen x ≡ true → chosen_at (set chosen i true) x ≡ true
        wider x t = elim (cases_eq x i) [
          | inl e ↦ (let P : ℕ → Type 0 = λ z. chosen_at (set chosen i true) z ≡ true in subst P (sym e) at_i)
          | inr o ↦ get_or-set_other chosen i x true false o ∙ t
        ]

        clash : (x k : ℕ) → x ≡ i → chosen_at chosen k ≡ true → (edge_at edges x).from ≡ (edge_at edges k).from
            → (edge_at edges x).to ≡ (edge_at edges k).to → ⊥
        clash x k e t p q =
            let f : (edge_at edges k).from ≡ a = sym p ∙ ap (λ (z : ℕ). (edge_at edges z).from) e ∙ from_i in
            let r : (edge_at edges k).to ≡ (edge_at edges i).to = sym q ∙ ap (λ (z : ℕ). (edge_at edges z).to) e in
            new (ap (λ (z : ℕ). first_of seen z) (sym r) ∙ s.told k t f)
