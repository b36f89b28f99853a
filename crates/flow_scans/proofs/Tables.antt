-- How the tables grow span by span.
use Rattle.std.proofs.Common.{ℕ, ◌≡◌, ◌≢◌, ◌<◌, ◌≤◌, ◌+◌, ◌-◌, ◌^◌, ◌⊎◌, ◌∷◌, ◌++◌, [], inl, inr, sym, ap, subst, ◌∙◌, arith, List, length, take, get_or, set, replicate, get_or-set_other, get_or-set_same}
use Rattle.std.proofs.lemmas.Bool.{cases_lt}
use Rattle.std.proofs.lemmas.List.{take_more, get_or-replicate}
use Rattle.std.proofs.lemmas.List.Elements.{Contains-push, Contains-append_left, Contains-push_cases, Contains-get_or}
use Rattle.flow_scans.specs.declared.span.Span.{Span}
use Rattle.flow_scans.specs.Spans.{Has, Below, IsLeastFirst, IsGreatestEnd, IsFirstEnd, IsLastOver, FirstBehind, LastBefore, LastHolding, AreLeastFirsts, AreGreatestEnds, LowerStep, UpperStep}

pub data Compared (a b : ℕ) : Type 0 where
  is_less : a < b → Compared a b
  is_same : a ≡ b → Compared a b
  is_more : b < a → Compared a b

pub compared : (a b : ℕ) → Compared a b
compared a b = elim (cases_lt a b) [
  | inl h ↦ is_less h
  | inr h ↦ elim (cases_lt b a) [ inl g ↦ is_more g | inr g ↦ is_same (omega arith) ]
]

pub has_empty : (f e : ℕ) → Has [] f e → ⊥
has_empty f e (k, below, is) = omega arith

pub has_new : (xs : List Span) (s : Span) → Has (xs ++ s ∷ []) s.first s.end
has_new xs s = Contains-push xs s

pub has_old : (xs : List Span) (s : Span) (f e : ℕ) → Has xs f e → Has (xs ++ s ∷ []) f e
has_old xs s f e h = Contains-append_left xs (s ∷ []) _ h

pub has_cases : (xs : List Span) (s : Span) (f e : ℕ) → Has (xs ++ s ∷ []) f e → Has xs f e ⊎ ((s.first ≡ f) × (s.end ≡ e))
has_cases xs s f e h = elim (Contains-push_cases xs s (record { first = f; end = e }) h) [
  | inl old ↦ inl old
  | inr is ↦ inr (ap (λ (t : Span). t.first) is, ap (λ (t : Span). t.end) is)
]

-- the span at a place is in the list
pub has_at : (xs : List Span) (i : ℕ) (d : Span) → i < length xs → Has xs (get_or xs i d).first (get_or xs i d).end
has_at xs i d below = Contains-get_or xs i d below

pub none_least : (count : ℕ) → AreLeastFirsts [] count (replicate count (2 ^ 32 - 1))
none_least count e below = record {
  least = λ f h. absurd (has_empty f e h);
  attained = λ small. absurd (let is : get_or (replicate count (2 ^ 32 - 1)) e 0 ≡ 2 ^ 32 - 1 = get_or-replicate count e (2 ^ 32 - 1) 0 below in omega arith);
}

pub none_greatest : (count : ℕ) → AreGreatestEnds [] count (replicate count 0)
none_greatest count f below = record {
  greatest = λ e h. absurd (has_empty f e h);
  attained = λ small. absurd (let is : get_or (replicate count 0) f 0 ≡ 0 = get_or-replicate count f 0 0 below in let none : 0 < 0 = subst (λ (k : ℕ). 0 < k) is small in omega arith);
}

least_kept : (xs : List Span) (s : Span) (e v w : ℕ) → IsLeastFirst xs e v → w ≡ v → (s.end ≡ e → v ≤ s.first) → IsLeastFirst (xs ++ s ∷ []) e w
least_kept xs s e v w old is low = record {
  least = λ f h. elim (has_cases xs s f e h) [
    | inl g ↦ omega (arith, old.least f g)
    | inr (a, b) ↦ omega (arith, low b)
  ];
  attained = λ small. has_old xs s w e (subst (λ (k : ℕ). Has xs k e) (sym is) (old.attained (omega arith)));
}

least_written : (xs : List Span) (s : Span) (e v w : ℕ) → IsLeastFirst xs e v → w ≡ s.first → s.end ≡ e → s.first < v → IsLeastFirst (xs ++ s ∷ []) e w
least_written xs s e v w old is at low = record {
  least = λ f h. elim (has_cases xs s f e h) [
    | inl g ↦ omega (arith, old.least f g)
    | inr (a, b) ↦ omega arith
  ];
  attained = λ small. subst (λ (k : ℕ). Has (xs ++ s ∷ []) k e) (sym is) (subst (λ (k : ℕ). Has (xs ++ s ∷ []) s.first k) at (has_new xs s));
}

pub least_more : (xs : List Span) (s : Span) (count : ℕ) (old new : List ℕ) → s.end < length old → LowerStep old new s → AreLeastFirsts xs count old → AreLeastFirsts (xs ++ s ∷ []) count new
least_more xs s count old new inside step are e below = elim (cases_lt s.first (get_or old s.end 0)) [
  | inl low ↦
      let written = step.written low in
      elim (compared e s.end) [
        | is_less h ↦ let ne : e ≢ s.end = omega arith in least_kept xs s e _ _ (are e below) (ap (λ (t : List ℕ). get_or t e 0) written ∙ get_or-set_other old s.end e s.first 0 ne) (λ is. absurd (omega arith))
        | is_more h ↦ let ne : e ≢ s.end = omega arith in least_kept xs s e _ _ (are e below) (ap (λ (t : List ℕ). get_or t e 0) written ∙ get_or-set_other old s.end e s.first 0 ne) (λ is. absurd (omega arith))
        | is_same is ↦ least_written xs s e _ _ (are e below)
            (ap (λ (t : List ℕ). get_or t e 0) written ∙ ap (λ (k : ℕ). get_or (set old s.end s.first) k 0) is ∙ get_or-set_same old s.end s.first 0 inside)
            (sym is) (subst (λ (k : ℕ). s.first < get_or old k 0) (sym is) low)
      ]
  | inr high ↦ least_kept xs s e _ _ (are e below) (ap (λ (t : List ℕ). get_or t e 0) (step.kept high)) (λ is. subst (λ (k : ℕ). get_or old k 0 ≤ s.first) is high)
]

greatest_kept : (xs : List Span) (s : Span) (f v w : ℕ) → IsGreatestEnd xs f v → w ≡ v → (s.first ≡ f → s.end ≤ v) → IsGreatestEnd (xs ++ s ∷ []) f w
greatest_kept xs s f v w old is low = record {
  greatest = λ e h. elim (has_cases xs s f e h) [
    | inl g ↦ omega (arith, old.greatest e g)
    | inr (a, b) ↦ omega (arith, low a)
  ];
  attained = λ some. has_old xs s f w (subst (λ (k : ℕ). Has xs f k) (sym is) (old.attained (omega arith)));
}

greatest_written : (xs : List Span) (s : Span) (f v w : ℕ) → IsGreatestEnd xs f v → w ≡ s.end → s.first ≡ f → v < s.end → IsGreatestEnd (xs ++ s ∷ []) f w
greatest_written xs s f v w old is at low = record {
  greatest = λ e h. elim (has_cases xs s f e h) [
    | inl g ↦ omega (arith, old.greatest e g)
    | inr (a, b) ↦ omega arith
  ];
  attained = λ some. subst (λ (k : ℕ). Has (xs ++ s ∷ []) f k) (sym is) (subst (λ (k : ℕ). Has (xs ++ s ∷ []) k s.end) at (has_new xs s));
}

pub greatest_more : (xs : List Span) (s : Span) (count : ℕ) (old new : List ℕ) → s.first < length old → UpperStep old new s → AreGreatestEnds xs count old → AreGreatestEnds (xs ++ s ∷ []) count new
greatest_more xs s count old new inside step are f below = elim (cases_lt (get_or old s.first 0) s.end) [
  | inl low ↦
      let written = step.written low in
      elim (compared f s.first) [
        | is_less h ↦ let ne : f ≢ s.first = omega arith in greatest_kept xs s f _ _ (are f below) (ap (λ (t : List ℕ). get_or t f 0) written ∙ get_or-set_other old s.first f s.end 0 ne) (λ is. absurd (omega arith))
        | is_more h ↦ let ne : f ≢ s.first = omega arith in greatest_kept xs s f _ _ (are f below) (ap (λ (t : List ℕ). get_or t f 0) written ∙ get_or-set_other old s.first f s.end 0 ne) (λ is. absurd (omega arith))
        | is_same is ↦ greatest_written xs s f _ _ (are f below)
            (ap (λ (t : List ℕ). get_or t f 0) written ∙ ap (λ (k : ℕ). get_or (set old s.first s.end) k 0) is ∙ get_or-set_same old s.first s.end 0 inside)
            (sym is) (subst (λ (k : ℕ). get_or old k 0 < s.end) (sym is) low)
      ]
  | inr high ↦ greatest_kept xs s f _ _ (are f below) (ap (λ (t : List ℕ). get_or t f 0) (step.kept high)) (λ is. subst (λ (k : ℕ). s.end ≤ get_or old k 0) is high)
]

pub end_below : (count : ℕ) (spans : List Span) (i : ℕ) (d : Span) → Below count spans → i < length spans → (get_or spans i d).end < count
end_below count spans i d below inside = below.end _ _ (has_at spans i d inside)

pub first_below : (count : ℕ) (spans : List Span) (i : ℕ) (d : Span) → Below count spans → i < length spans → (get_or spans i d).first < count
first_below count spans i d below inside = below.first _ _ (has_at spans i d inside)

pub least_step : (spans : List Span) (i : ℕ) (d : Span) (count : ℕ) (old new : List ℕ) → i < length spans → (get_or spans i d).end < length old → LowerStep old new (get_or spans i d)
    → AreLeastFirsts (take i spans) count old → AreLeastFirsts (take (i + 1) spans) count new
least_step spans i d count old new inside within step are = rw (take_more spans i d inside) (least_more (take i spans) (get_or spans i d) count old new within step are)

pub greatest_step : (spans : List Span) (i : ℕ) (d : Span) (count : ℕ) (old new : List ℕ) → i < length spans → (get_or spans i d).first < length old → UpperStep old new (get_or spans i d)
    → AreGreatestEnds (take i spans) count old → AreGreatestEnds (take (i + 1) spans) count new
greatest_step spans i d count old new inside within step are = rw (take_more spans i d inside) (greatest_more (take i spans) (get_or spans i d) count old new within step are)

pub first_end_of : (spans : List Span) (gap count : ℕ) (near : List ℕ) (q found : ℕ) → Below count spans → count < 2 ^ 32 → length near ≡ count → AreLeastFirsts spans count near → q < count
    → FirstBehind near gap q found → IsFirstEnd spans gap count q found
first_end_of spans gap count near q found below small len are inside z = record {
  behind = z.behind;
  within = omega (arith, z.within, len);
  attained = λ within.
      let early : get_or near found 0 + gap ≤ q = z.early (omega arith) in
      (get_or near found 0, (are found within).attained (omega arith), early);
  least = λ f e h early over. elim (cases_lt e found) [
    | inl less ↦ absurd (let none : q < get_or near e 0 + gap = z.none e over less in let least : get_or near e 0 ≤ f = (are e (below.end f e h)).least f h in omega arith)
    | inr most ↦ most
  ];
}

pub last_over_of : (spans : List Span) (count : ℕ) (far : List ℕ) (q found : ℕ) → Below count spans → AreGreatestEnds spans count far → q < count → LastBefore far q found → IsLastOver spans 1 q found
last_over_of spans count far q found below are inside z = record {
  attained = λ f is.
      let over : q < get_or far f 0 = z.over f is in
      let before : found ≤ q = z.before in
      (get_or far f 0, (are f (omega arith)).attained (omega arith), omega arith, over);
  last = λ f e h early over. elim (cases_lt f found) [
    | inl less ↦ less
    | inr most ↦ absurd (let none : get_or far f 0 ≤ q = z.none f most (omega arith) in let greatest : e ≤ get_or far f 0 = (are f (below.first f e h)).greatest e h in omega arith)
  ];
}

pub last_holder_of : (spans : List Span) (count : ℕ) (far : List ℕ) (q found : ℕ) → Below count spans → AreGreatestEnds spans count far → q < count → LastHolding far q found → IsLastOver spans 0 q found
last_holder_of spans count far q found below are inside z = record {
  attained = λ f is.
      let over : q < get_or far f 0 = z.over f is in
      let before : found ≤ q + 1 = z.before in
      (get_or far f 0, (are f (omega arith)).attained (omega arith), omega arith, over);
  last = λ f e h early over. elim (cases_lt f found) [
    | inl less ↦ less
    | inr most ↦ absurd (let none : get_or far f 0 ≤ q = z.none f most (omega arith) in let greatest : e ≤ get_or far f 0 = (are f (below.first f e h)).greatest e h in omega arith)
  ];
}

pub below_none : (spans : List Span) (count : ℕ) → Below count (take 0 spans)
below_none spans count = record { first = λ f e h. absurd (none spans f e h); end = λ f e h. absurd (none spans f e h) } where
  none : (xs : List Span) (f e : ℕ) → Has (take 0 xs) f e → ⊥
  none [] f e h = has_empty f e h
  none (x ∷ xs) f e h = has_empty f e h

pub below_more : (spans : List Span) (i count : ℕ) (d : Span) → i < length spans → Below count (take i spans) → (get_or spans i d).first < count → (get_or spans i d).end < count → Below count (take (i + 1) spans)
below_more spans i count d inside b first end = rw (take_more spans i d inside) (record {
  first = λ f e h. elim (has_cases (take i spans) (get_or spans i d) f e h) [ inl old ↦ b.first f e old | inr (a, c) ↦ omega arith ];
  end = λ f e h. elim (has_cases (take i spans) (get_or spans i d) f e h) [ inl old ↦ b.end f e old | inr (a, c) ↦ omega arith ];
})
