-- The case constructs of a switch, and which branch edges go from one to another.
use Rattle.std.proofs.Common.{ℕ, zero, suc, ◌≡◌, ◌≢◌, ◌<◌, ◌≤◌, ◌-◌, ◌^◌, ◌⊎◌, inl, inr, refl, sym, subst, arith, List, [], ◌∷◌}
use Rattle.std.proofs.lemmas.Bool.{cases_lt}
use Rattle.std.specs.List.{Contains}
use Rattle.flow_rules.specs.Blocks.{BasicBlock}
use Rattle.flow_rules.specs.declared.block.Merge.{Merge}
use Rattle.flow_rules.specs.Flow.{Row, In, Loops, Switches, IsCase, CaseStart}
use Rattle.flow_rules.specs.Rules.{BreaksEdge, s11, IsClear}
use Rattle.flow_rules.specs.Lists.{LeastFirst, SpanOf, CaseFrom}
use Rattle.flow_rules.proofs.Blocks.{is_less, is_same, is_more, compared, header_same, at_same}
use Rattle.flow_rules.proofs.Crossing.{entering}

pub contains_cons : {X : Type 0} (x t : X) (xs : List X) → Contains (x ∷ xs) t → (x ≡ t) ⊎ Contains xs t
contains_cons x t xs (zero, lt, e) = inl e
contains_cons x t xs (suc k, lt, e) = inr (k, omega arith, e)

pub contains_none : {X : Type 0} (t : X) → Contains [] t → ⊥
contains_none t (k, lt, e) = omega arith

pub contains_head : {X : Type 0} (x : X) (xs : List X) → Contains (x ∷ xs) x
contains_head x xs = (zero, omega arith, refl)

pub contains_tail : {X : Type 0} (x t : X) (xs : List X) → Contains xs t → Contains (x ∷ xs) t
contains_tail x t xs (k, lt, e) = (suc k, omega arith, e)

-- of the numbers of a list between a and m the least one
pub data LeastIn (ts : List ℕ) (a m : ℕ) : Type 0 where
  none_in : ((t : ℕ) → Contains ts t → a < t → t < m → ⊥) → LeastIn ts a m
  least_in : (t : ℕ) → Contains ts t → a < t → t < m → ((s : ℕ) → Contains ts s → a < s → s < m → t ≤ s) → LeastIn ts a m

pub least_of : (ts : List ℕ) (a m : ℕ) → LeastIn ts a m
least_of [] a m = none_in (λ t h. absurd (contains_none t h))
least_of (x ∷ xs) a m = go (cases_lt a x) (cases_lt x m) (least_of xs a m) where
  kept : ((a < x) ⊎ (x ≤ a)) → (x ≤ a) ⊎ (m ≤ x) → LeastIn xs a m → LeastIn (x ∷ xs) a m
  kept k out (none_in none) = none_in (λ t h low high. elim (contains_cons x t xs h) [
    | inl e ↦ elim out [ inl o ↦ omega arith | inr o ↦ omega arith ]
    | inr g ↦ none t g low high
  ])
  kept k out (least_in t has low high least) = least_in t (contains_tail x t xs has) low high (λ s h l u. elim (contains_cons x s xs h) [
    | inl e ↦ elim out [ inl o ↦ absurd (omega arith) | inr o ↦ absurd (omega arith) ]
    | inr g ↦ least s g l u
  ])

  go : ((a < x) ⊎ (x ≤ a)) → ((x < m) ⊎ (m ≤ x)) → LeastIn xs a m → LeastIn (x ∷ xs) a m
  go (inr out) k rest = kept (inr out) (inl out) rest
  go (inl low) (inr out) rest = kept (inl low) (inr out) rest
  go (inl low) (inl high) (none_in none) = least_in x (contains_head x xs) low high (λ s h l u. elim (contains_cons x s xs h) [
    | inl e ↦ omega arith
    | inr g ↦ absurd (none s g l u)
  ])
  go (inl low) (inl high) (least_in t has tl th least) = elim (cases_lt x t) [
    | inl h ↦ least_in x (contains_head x xs) low high (λ s k l u. elim (contains_cons x s xs k) [
      | inl e ↦ omega arith
      | inr g ↦ omega (arith, least s g l u)
    ])
    | inr h ↦ least_in t (contains_tail x t xs has) tl th (λ s k l u. elim (contains_cons x s xs k) [
      | inl e ↦ omega arith
      | inr g ↦ least s g l u
    ])
  ]

-- of the numbers of a list behind a and up to p the greatest one
pub data GreatestIn (ts : List ℕ) (a p : ℕ) : Type 0 where
  none_to : ((t : ℕ) → Contains ts t → a < t → t ≤ p → ⊥) → GreatestIn ts a p
  greatest_to : (t : ℕ) → Contains ts t → a < t → t ≤ p → ((s : ℕ) → Contains ts s → a < s → s ≤ p → s ≤ t) → GreatestIn ts a p

pub greatest_of : (ts : List ℕ) (a p : ℕ) → GreatestIn ts a p
greatest_of [] a p = none_to (λ t h. absurd (contains_none t h))
greatest_of (x ∷ xs) a p = go (cases_lt a x) (cases_lt p x) (greatest_of xs a p) where
  kept : (x ≤ a) ⊎ (p < x) → GreatestIn xs a p → GreatestIn (x ∷ xs) a p
  kept out (none_to none) = none_to (λ t h low high. elim (contains_cons x t xs h) [
    | inl e ↦ elim out [ inl o ↦ omega arith | inr o ↦ omega arith ]
    | inr g ↦ none t g low high
  ])
  kept out (greatest_to t has low high most) = greatest_to t (contains_tail x t xs has) low high (λ s h l u. elim (contains_cons x s xs h) [
    | inl e ↦ elim out [ inl o ↦ absurd (omega arith) | inr o ↦ absurd (omega arith) ]
    | inr g ↦ most s g l u
  ])

  go : ((a < x) ⊎ (x ≤ a)) → ((p < x) ⊎ (x ≤ p)) → GreatestIn xs a p → GreatestIn (x ∷ xs) a p
  go (inr out) k rest = kept (inl out) rest
  go (inl low) (inl out) rest = kept (inr out) rest
  go (inl low) (inr high) (none_to none) = greatest_to x (contains_head x xs) low high (λ s h l u. elim (contains_cons x s xs h) [
    | inl e ↦ omega arith
    | inr g ↦ absurd (none s g l u)
  ])
  go (inl low) (inr high) (greatest_to t has tl th most) = elim (cases_lt t x) [
    | inl h ↦ greatest_to x (contains_head x xs) low high (λ s k l u. elim (contains_cons x s xs k) [
      | inl e ↦ omega arith
      | inr g ↦ omega (arith, most s g l u)
    ])
    | inr h ↦ greatest_to t (contains_tail x t xs has) tl th (λ s k l u. elim (contains_cons x s xs k) [
      | inl e ↦ omega arith
      | inr g ↦ most s g l u
    ])
  ]

-- a case construct of the switch at h
pub record CaseWith (bs : List BasicBlock) (h : ℕ) (g : Merge) (f : ℕ) : Type 0 where
  pub end : ℕ
  pub is_case : IsCase bs (record { of = h; by = g; first = f; end = end })

module _ (bs : List BasicBlock) where
  module _ (h : ℕ) (g : Merge) (sw : Switches bs h g) where
    block : BasicBlock
    block = sw.selects.header.block

    starts : (t : ℕ) → Contains block.targets t → h < t → t < g.merge_block → CaseStart bs h g t
    unfolding block
    starts t has low high = record { switches = sw; edge = record { block = sw.selects.header.block; at = sw.selects.header.at; target = has }; behind = low; before = high }

    listed : (t : ℕ) → CaseStart bs h g t → Contains block.targets t
    unfolding block
    listed t s = subst (λ (b : BasicBlock). Contains b.targets t) (at_same bs h s.edge.block sw.selects.header.block s.edge.at sw.selects.header.at) s.edge.target

    -- the case construct that begins at a start
    pub case_at : (f : ℕ) → CaseStart bs h g f → CaseWith bs h g f
    case_at f start = go (least_of block.targets f g.merge_block) where
      go : LeastIn block.targets f g.merge_block → CaseWith bs h g f
      go (none_in none) = record { end = g.merge_block; is_case = record { start = start; behind = start.before; end_is = inr refl; next = λ t s low. absurd (none t (listed t s) low s.before) } }
      go (least_in t has low high least) =
          record { end = t; is_case = record { start = start; behind = low; end_is = inl (starts t has (let b = start.behind in omega arith) high); next = λ s k later. least s (listed s k) later k.before } }

    -- the case construct that holds a block behind a start
    pub record CaseHolding (p : ℕ) : Type 0 where
      pub first : ℕ
      pub with : CaseWith bs h g first
      pub from : first ≤ p
      pub before : p < with.end

    pub case_holding : (t p : ℕ) → CaseStart bs h g t → t ≤ p → p < g.merge_block → CaseHolding p
    case_holding t p start low high = go (greatest_of block.targets h p) where
      go : GreatestIn block.targets h p → CaseHolding p
      go (none_to none) = absurd (none t (listed t start) start.behind low)
      go (greatest_to f has fl fh most) = within (case_at f (starts f has fl (omega arith))) where
        within : CaseWith bs h g f → CaseHolding p
        within w = record {
          first = f;
          with = w;
          from = fh;
          before = elim w.is_case.end_is [
            | inr e ↦ omega arith
            | inl s ↦ elim (cases_lt p w.end) [
              | inl less ↦ less
              | inr more ↦ absurd (let b = w.is_case.behind in let k = most w.end (listed w.end s) s.behind more in omega arith)
            ]
          ];
        }

    -- the first of its case constructs
    pub record FirstStart : Type 0 where
      pub at : ℕ
      pub start : CaseStart bs h g at
      pub least : (t : ℕ) → CaseStart bs h g t → at ≤ t

    pub first_start : (t : ℕ) → CaseStart bs h g t → FirstStart
    first_start t start = go (least_of block.targets h g.merge_block) where
      go : LeastIn block.targets h g.merge_block → FirstStart
      go (none_in none) = absurd (none t (listed t start) start.behind start.before)
      go (least_in f has low high least) = record { at = f; start = starts f has low high; least = λ s k. least s (listed s k) k.behind k.before }

  -- ---- S11
  pub crosses_cases : (p q v : ℕ) → p < q → p < 2 ^ 32 - 1 → LeastFirst (SpanOf (CaseFrom bs)) q v → v ≤ p → BreaksEdge bs p q 11
  crosses_cases p q v order small z near = go (z.attained (omega arith)) where
    go : (h : ℕ) × CaseFrom bs h v q → BreaksEdge bs p q 11
    go (h, c) = between (case_holding h c.by c.start.switches v p c.first_start near (let e = c.start.before in omega arith)) (case_at h c.by c.start.switches q c.start) where
      between : CaseHolding h c.by c.start.switches p → CaseWith bs h c.by q → BreaksEdge bs p q 11
      between r t =
          let f = r.from in let e = r.before in
          s11 (record { of = h; by = c.by; first = r.first; end = r.with.end }) (record { of = h; by = c.by; first = q; end = t.end }) r.with.is_case t.is_case refl (λ same. omega arith) (record { from = f; before = e }) refl

  pub same_start : (h k : ℕ) (g f : Merge) (t u : ℕ) → h ≡ k → CaseStart bs h g t → CaseStart bs k f u → CaseStart bs k f t
  same_start h k g f t u e a b =
      let a_at_k = subst (λ (x : ℕ). CaseStart bs x g t) e a in
      subst (λ (x : Merge). CaseStart bs k x t) (header_same bs k g f a_at_k.switches.selects.header b.switches.selects.header) a_at_k

  pub keeps_case : (p q v : ℕ) → LeastFirst (SpanOf (CaseFrom bs)) q v → p < v → (r t : Row) → IsCase bs r → IsCase bs t → r.of ≡ t.of → In r p → q ≡ t.first → ⊥
  keeps_case p q v z far r t ir it same hold to =
      let at = first_start t.of t.by it.start.switches t.first it.start in
      let low = at.least r.first (same_start r.of t.of r.by t.by r.first t.first same ir.start it.start) in
      let from = hold.from in
      omega (arith, z.least at.at (t.of, record { by = t.by; first_start = at.start; first = at.least; start = subst (λ (x : ℕ). CaseStart bs t.of t.by x) (sym to) it.start }))

  clear_less : (p q : ℕ) → q ≤ p → IsClear bs p → IsClear bs q
  clear_less p q h c = record {
    labels = λ k b rule low. c.labels k b rule (omega arith);
    merges = λ k f rule low. c.merges k f rule (omega arith);
    ends = λ k b rule low. c.ends k b rule (omega arith);
  }

  -- a back edge stays in its case construct
  pub back_keeps_case : (p q c : ℕ) (g : Merge) → IsClear bs p → q ≤ p → Loops bs q g c → p < g.merge_block → (r t : Row) → IsCase bs r → IsCase bs t → r.of ≡ t.of → r.first ≢ t.first → In r p → q ≡ t.first → ⊥
  back_keeps_case p q c g clear back loops over r t ir it same other hold to =
      let from = hold.from in let before = hold.before in
      let tb = it.start.behind in
      let fore = same_start t.of r.of t.by r.by t.first r.first (sym same) it.start ir.start in
      elim (compared r.first t.first) [
        | is_same e ↦ other e
        | is_less h ↦ let n = ir.next t.first fore h in omega arith
        | is_more h ↦ entering bs q r.of r.first g (clear_less p q back clear) loops.header (omega arith) ir.start.edge (omega arith) (omega arith)
      ]
