-- The case constructs of a switch, by its starts in order.
use Rattle.std.proofs.Common.{ℕ, zero, suc, ◌≡◌, ◌≢◌, ◌<◌, ◌≤◌, ◌+◌, ◌⊎◌, inl, inr, refl, sym, ap, subst, ◌∙◌, arith, List, [], ◌∷◌, length, get_or, Some, None}
use Rattle.std.proofs.lemmas.Bool.{cases_lt, cases_eq}
use Rattle.std.proofs.lemmas.List.Elements.{Contains-get_or}
use Rattle.std.specs.List.{Contains}
use Rattle.flow_scans.specs.declared.span.Span.{Span}
use Rattle.flow_rules.specs.Blocks.{BasicBlock}
use Rattle.flow_rules.specs.declared.block.Merge.{Merge}
use Rattle.flow_rules.specs.Flow.{At, CaseStart}
use Rattle.flow_rules.specs.Lists.{IsSpanOf, SwitchOf, Between, Starts, CasesTo, FromSpan, CaseOf, CaseFrom}
use Rattle.flow_rules.proofs.Blocks.{at_same, header_same}
use Rattle.flow_rules.proofs.Cases.{contains_none, same_start}

module _ (bs : List BasicBlock) (p : ℕ) where
  same_merge : (g f : Merge) (t u : ℕ) → CaseStart bs p g t → CaseStart bs p f u → g ≡ f
  same_merge g f t u a b = header_same bs p g f a.switches.selects.header b.switches.selects.header

  as_merge : (g f : Merge) (t u : ℕ) → CaseStart bs p g t → CaseStart bs p f u → CaseStart bs p f t
  as_merge g f t u a b = same_start bs p p g f t u refl a b

  pub starts_none : IsSpanOf None (SwitchOf bs p) → (xs : List ℕ) → xs ≡ [] → (last : ℕ) → Starts bs p xs last
  starts_none none xs is last = rw is (record {
    sound = λ t h. absurd (contains_none t h);
    complete = λ g t s. absurd (none p g.merge_block (record { by = g; switches = s.switches; first_is = refl; end_is = refl }));
    rises = λ i j a b. absurd (omega arith);
    last_is = λ g t s. absurd (none p g.merge_block (record { by = g; switches = s.switches; first_is = refl; end_is = refl }));
  })

  pub starts_some : (b : BasicBlock) (s : Span) (xs : List ℕ) → At bs p b → IsSpanOf (Some s) (SwitchOf bs p) → Between b.targets p s.end xs → Starts bs p xs s.end
  starts_some b s xs at (has, only) z = record {
    sound = λ t h. (let (a, low, high) = z.are.sound t h in (
      has.by,
      record {
        switches = has.switches;
        edge = record { block = b; at = at; target = a };
        behind = low;
        before = omega (arith, has.end_is);
      },
    ));
    complete = λ g t k. (
        let before = k.before in
        z.are.complete t (subst (λ (d : BasicBlock). Contains d.targets t) (at_same bs p k.edge.block b k.edge.at at) k.edge.target) k.behind (omega (arith, end_of g t k))
        );
    rises = z.rises;
    last_is = end_of;
  } where
    end_of : (g : Merge) (t : ℕ) → CaseStart bs p g t → s.end ≡ g.merge_block
    end_of g t k = has.end_is ∙ ap (λ (m : Merge). m.merge_block) (header_same bs p has.by g has.switches.selects.header k.switches.selects.header)

  module _ (xs : List ℕ) (last : ℕ) (z : Starts bs p xs last) where
    record LastAt (f : ℕ) : Type 0 where
      at : ℕ
      within : at < length xs
      is : get_or xs at 0 ≡ f
      next : at + 1 < length xs → get_or xs (at + 1) 0 ≢ f

    last_at : (f n j : ℕ) → length xs ≤ j + n → j < length xs → get_or xs j 0 ≡ f → LastAt f
    last_at f zero j room below is = absurd (omega arith)
    last_at f (suc n) j room below is = elim (cases_lt (j + 1) (length xs)) [
      | inr out ↦ record { at = j; within = below; is = is; next = λ h. absurd (omega arith) }
      | inl more ↦ elim (cases_eq (get_or xs (j + 1) 0) f) [
        | inl same ↦ last_at f n (j + 1) (omega arith) more same
        | inr other ↦ record { at = j; within = below; is = is; next = λ h. other }
      ]
    ]

    -- the place of a start
    record PlaceOf (t : ℕ) : Type 0 where
      at : ℕ
      within : at < length xs
      is : get_or xs at 0 ≡ t

    place_of : (t : ℕ) → Contains xs t → PlaceOf t
    place_of t (k, below, is) = record { at = k; within = below; is = by_default xs k below is } where
      by_default : (ys : List ℕ) (k : ℕ) → k < length ys → get_or ys k t ≡ t → get_or ys k 0 ≡ t
      by_default [] k h e = absurd (omega arith)
      by_default (y ∷ ys) zero h e = e
      by_default (y ∷ ys) (suc k) h e = by_default ys k (omega arith) e

    start_at : (i : ℕ) → i < length xs → (g : Merge) × CaseStart bs p g (get_or xs i 0)
    start_at i h = z.sound (get_or xs i 0) (Contains-get_or xs i 0 h)

    -- a start behind another stands behind it
    order : (i j t u : ℕ) → i < length xs → j < length xs → get_or xs i 0 ≡ t → get_or xs j 0 ≡ u → t < u → i < j
    order i j t u a b e k less = elim (cases_lt i j) [
      | inl h ↦ h
      | inr h ↦ absurd (elim (cases_eq i j) [
        | inl same ↦ (let s = ap (λ (x : ℕ). get_or xs x 0) same in omega arith)
        | inr other ↦ omega (arith, z.rises j i (omega arith) a)
      ])
    ]

    pub case_sound : (f e : ℕ) → CasesTo xs last (length xs) f e → CaseOf bs p f e
    case_sound f e c = go (start_at c.at c.before) where
      go : (g : Merge) × CaseStart bs p g (get_or xs c.at 0) → CaseOf bs p f e
      go (g, s) = record { by = g; is_case = record { start = start; behind = c.is.some; end_is = end; next = next } } where
        start : CaseStart bs p g f
        start = subst (λ (x : ℕ). CaseStart bs p g x) c.is.first_is s

        end : CaseStart bs p g e ⊎ (e ≡ g.merge_block)
        end = elim (cases_lt (c.at + 1) (length xs)) [
          | inl more ↦ (let (k, u) = start_at (c.at + 1) more in inl (subst (λ (x : ℕ). CaseStart bs p g x) (c.is.inner more) (as_merge k g _ f u start)))
          | inr out ↦ inr (sym (c.is.outer out) ∙ z.last_is g f start)
        ]

        next : (t : ℕ) → CaseStart bs p g t → f < t → e ≤ t
        next t u later =
            let at = place_of t (z.complete g t u) in
            let less : c.at < at.at = order c.at at.at f t c.before at.within c.is.first_is at.is later in
            let within = at.within in
            let inner = c.is.inner (omega arith) in
            elim (cases_eq (c.at + 1) at.at) [
              | inl same ↦ (let s = ap (λ (x : ℕ). get_or xs x 0) same in let i = at.is in omega arith)
              | inr other ↦ (let i = at.is in omega (arith, z.rises (c.at + 1) at.at (omega arith) within))
            ]

    pub case_complete : (f e : ℕ) → CaseOf bs p f e → CasesTo xs last (length xs) f e
    case_complete f e c = go (last_at f (length xs) place.at (omega arith) place.within place.is) where
      place : PlaceOf f
      place = place_of f (z.complete c.by f c.is_case.start)

      go : LastAt f → CasesTo xs last (length xs) f e
      go l = record { at = l.at; before = l.within; is = record { first_is = l.is; some = c.is_case.behind; inner = inner; outer = outer } } where
        inner : l.at + 1 < length xs → get_or xs (l.at + 1) 0 ≡ e
        inner more =
            let (k, u) = start_at (l.at + 1) more in
            let start = as_merge k c.by _ f u c.is_case.start in
            let rise = z.rises l.at (l.at + 1) (omega arith) more in
            let other = l.next more in
            let is = l.is in
            let later : f < get_or xs (l.at + 1) 0 = omega arith in
            let low = c.is_case.next _ start later in
            elim c.is_case.end_is [
              | inr at_merge ↦ (let b = start.before in absurd (omega arith))
              | inl t ↦
                  let place = place_of e (z.complete c.by e t) in
                  let less : l.at < place.at = order l.at place.at f e l.within place.within l.is place.is c.is_case.behind in
                  let i = place.is in
                  elim (cases_eq (l.at + 1) place.at) [
                    | inl same ↦ (let s = ap (λ (x : ℕ). get_or xs x 0) same in omega arith)
                    | inr other ↦ (let h = z.rises (l.at + 1) place.at (omega arith) place.within in omega arith)
                  ]
            ]

        outer : length xs ≤ l.at + 1 → last ≡ e
        outer out = elim c.is_case.end_is [
          | inr at_merge ↦ z.last_is c.by f c.is_case.start ∙ sym at_merge
          | inl t ↦
              let place = place_of e (z.complete c.by e t) in
              let less : l.at < place.at = order l.at place.at f e l.within place.within l.is place.is c.is_case.behind in
              let w = place.within in
              absurd (omega arith)
        ]

    pub from_sound : (f e : ℕ) → FromSpan xs f e → CaseFrom bs p f e
    from_sound f e c = go (start_at 0 c.within) (z.sound e c.start) where
      go : (g : Merge) × CaseStart bs p g (get_or xs 0 0) → (g : Merge) × CaseStart bs p g e → CaseFrom bs p f e
      go (g, s) (k, u) = record { by = g; first_start = first; first = least; start = as_merge k g e f u first } where
        first : CaseStart bs p g f
        first = subst (λ (x : ℕ). CaseStart bs p g x) c.first_is s

        least : (t : ℕ) → CaseStart bs p g t → f ≤ t
        least t v =
            let at = place_of t (z.complete g t v) in
            let is = at.is in
            let first_is = c.first_is in
            elim (cases_eq 0 at.at) [
              | inl same ↦ (let s = ap (λ (x : ℕ). get_or xs x 0) same in omega arith)
              | inr other ↦ omega (arith, z.rises 0 at.at (omega arith) at.within)
            ]

    pub from_complete : (f e : ℕ) → CaseFrom bs p f e → FromSpan xs f e
    from_complete f e c = go (place_of f (z.complete c.by f c.first_start)) where
      go : PlaceOf f → FromSpan xs f e
      go at = record { within = (let w = at.within in omega arith); first_is = first_is; start = z.complete c.by e c.start } where
        some : 0 < length xs
        some = let w = at.within in omega arith

        first_is : get_or xs 0 0 ≡ f
        first_is =
            let (k, u) = start_at 0 some in
            let low = c.first _ (as_merge k c.by _ f u c.first_start) in
            let is = at.is in
            elim (cases_eq 0 at.at) [
              | inl same ↦ (let s = ap (λ (x : ℕ). get_or xs x 0) same in omega arith)
              | inr other ↦ (let h = z.rises 0 at.at (omega arith) at.within in omega arith)
            ]
