-- How lists of spans grow.
use Rattle.std.proofs.Common.{ℕ, ◌≡◌, ◌<◌, ◌≤◌, ◌+◌, ◌⊎◌, inl, inr, refl, sym, subst, ◌∙◌, arith, List, [], ◌∷◌, ◌++◌, length, get_or, take, Some, None, Option}
use Rattle.std.proofs.lemmas.Bool.{cases_lt}
use Rattle.std.proofs.lemmas.List.{take_more}
use Rattle.std.proofs.lemmas.List.Elements.{Contains-push, Contains-append_left, Contains-push_cases}
use Rattle.std.specs.List.{Contains}
use Rattle.flow_scans.specs.declared.span.Span.{Span}
use Rattle.flow_scans.specs.Spans.{Has}
use Rattle.flow_scans.proofs.Tables.{has_new, has_old, has_cases}
use Rattle.std.specs.Ordering.{nat_cmp}
use Rattle.std.specs.List.Sorted.{IsSorted, IsPermutation}
use Rattle.std.proofs.lemmas.List.Sorted.{Contains-permutation, IsPermutation-sym, IsNonDecreasingBy-from_sort}
use Rattle.flow_rules.specs.Blocks.{BasicBlock}
use Rattle.flow_rules.specs.declared.block.Terminator.TheVariants.{Switch}
use Rattle.flow_rules.specs.Flow.{At}
use Rattle.flow_rules.specs.Lists.{Extends, IsSpanOf, with_span, TargetOf, BackTarget, BackSource, CaseAt, CasesTo, SelectionOf, SwitchOf, IsBetween, BetweenStep, Between}
use Rattle.flow_rules.proofs.Blocks.{at_same}
use Rattle.flow_rules.proofs.Cases.{contains_none}

pub extends_same : (P Q : ℕ → ℕ → Type 0) (old new : List Span) → Extends P old new → ((f e : ℕ) → P f e → Q f e) → ((f e : ℕ) → Q f e → P f e) → Extends Q old new
extends_same P Q old new x to from = record {
  kept = x.kept;
  added = λ f e q. x.added f e (from f e q);
  only = λ f e h. elim (x.only f e h) [ inl k ↦ inl k | inr p ↦ inr (to f e p) ];
}

pub extends_none : (P : ℕ → ℕ → Type 0) (old : List Span) → ((f e : ℕ) → P f e → ⊥) → Extends P old old
extends_none P old none = record { kept = λ f e h. h; added = λ f e p. absurd (none f e p); only = λ f e h. inl h }

pub extends_both : (P Q R : ℕ → ℕ → Type 0) (a b c : List Span) → Extends P a b → Extends Q b c → ((f e : ℕ) → P f e → R f e) → ((f e : ℕ) → Q f e → R f e) → ((f e : ℕ) → R f e → P f e ⊎ Q f e) → Extends R a c
extends_both P Q R a b c x y left right either = record {
  kept = λ f e h. y.kept f e (x.kept f e h);
  added = λ f e r. elim (either f e r) [ inl p ↦ y.kept f e (x.added f e p) | inr q ↦ y.added f e q ];
  only = λ f e h. elim (y.only f e h) [
    | inl k ↦ elim (x.only f e k) [ inl o ↦ inl o | inr p ↦ inr (left f e p) ]
    | inr q ↦ inr (right f e q)
  ];
}

pub extends_one : (P : ℕ → ℕ → Type 0) (old new : List Span) (s : Span) → new ≡ old ++ s ∷ [] → P s.first s.end → ((f e : ℕ) → P f e → (s.first ≡ f) × (s.end ≡ e)) → Extends P old new
extends_one P old new s is has only = subst (λ (xs : List Span). Extends P old xs) (sym is) (record {
  kept = λ f e h. has_old old s f e h;
  added = λ f e p. (let (a, b) = only f e p in subst (λ (x : ℕ). Has (old ++ s ∷ []) x e) a (subst (λ (x : ℕ). Has (old ++ s ∷ []) s.first x) b (has_new old s)));
  only = λ f e h. elim (has_cases old s f e h) [
    | inl k ↦ inl k
    | inr (a, b) ↦ inr (subst (λ (x : ℕ). P x e) a (subst (λ (x : ℕ). P s.first x) b has))
  ];
})

pub extends_span : (P : ℕ → ℕ → Type 0) (old new : List Span) (span : Option Span) → new ≡ with_span old span → IsSpanOf span P → Extends P old new
extends_span P old new None is none = subst (λ (xs : List Span). Extends P old xs) (sym is) (extends_none P old none)
extends_span P old new (Some s) is one = extends_one P old new s is one.0 one.1

pub taken_none : {X : Type 0} (xs : List X) (t : X) → Contains (take 0 xs) t → ⊥
taken_none [] t h = contains_none t h
taken_none (x ∷ xs) t h = contains_none t h

pub taken_cases : (xs : List ℕ) (i t : ℕ) → i < length xs → Contains (take (i + 1) xs) t → Contains (take i xs) t ⊎ (get_or xs i 0 ≡ t)
taken_cases xs i t inside h = Contains-push_cases (take i xs) (get_or xs i 0) t (rw (take_more xs i 0 inside) at h)

pub taken_old : (xs : List ℕ) (i t : ℕ) → i < length xs → Contains (take i xs) t → Contains (take (i + 1) xs) t
taken_old xs i t inside h = rw (take_more xs i 0 inside) (Contains-append_left (take i xs) (get_or xs i 0 ∷ []) t h)

pub taken_new : (xs : List ℕ) (i : ℕ) → i < length xs → Contains (take (i + 1) xs) (get_or xs i 0)
taken_new xs i inside = rw (take_more xs i 0 inside) (Contains-push (take i xs) (get_or xs i 0))

module _ (p : ℕ) (ts : List ℕ) where
  pub targets_none : (old : List Span) → Extends (TargetOf p (take 0 ts)) old old
  targets_none old = extends_none (TargetOf p (take 0 ts)) old (λ f e z. taken_none ts e z.target)

  pub targets_more : (old cur new : List Span) (i t : ℕ) → i < length ts → t ≡ get_or ts i 0 → Extends (TargetOf p (take i ts)) old cur → new ≡ cur ++ (record { first = p; end = t }) ∷ [] → Extends (TargetOf p (take (i + 1) ts)) old new
  targets_more old cur new i t inside t_is x is =
      extends_both (TargetOf p (take i ts)) (λ f e. (p ≡ f) × (t ≡ e)) (TargetOf p (take (i + 1) ts)) old cur new x
      (extends_one (λ f e. (p ≡ f) × (t ≡ e)) cur new (record { first = p; end = t }) is (refl, refl) (λ f e z. z))
      (λ f e z. record { target = taken_old ts i e inside z.target; first_is = z.first_is })
      (λ f e z. record { target = subst (λ (x : ℕ). Contains (take (i + 1) ts) x) (sym t_is ∙ z.1) (taken_new ts i inside); first_is = sym z.0 })
      (λ f e z. elim (taken_cases ts i e inside z.target) [ inl h ↦ inl (record { target = h; first_is = z.first_is }) | inr h ↦ inr (sym z.first_is, t_is ∙ h) ])

  pub backs_none : (old : List Span) → Extends (BackTarget p (take 0 ts)) old old
  backs_none old = extends_none (BackTarget p (take 0 ts)) old (λ f e z. taken_none ts e z.target)

  pub backs_more : (old cur new : List Span) (i t : ℕ) → i < length ts → t ≡ get_or ts i 0 → t ≤ p → Extends (BackTarget p (take i ts)) old cur → new ≡ cur ++ (record { first = p; end = t }) ∷ [] → Extends (BackTarget p (take (i + 1) ts)) old new
  backs_more old cur new i t inside t_is low x is =
      extends_both (BackTarget p (take i ts)) (λ f e. (p ≡ f) × (t ≡ e)) (BackTarget p (take (i + 1) ts)) old cur new x
      (extends_one (λ f e. (p ≡ f) × (t ≡ e)) cur new (record { first = p; end = t }) is (refl, refl) (λ f e z. z))
      (λ f e z. record { target = taken_old ts i e inside z.target; back = z.back; first_is = z.first_is })
      (λ f e z. record { target = subst (λ (x : ℕ). Contains (take (i + 1) ts) x) (sym t_is ∙ z.1) (taken_new ts i inside); back = omega (arith, z.1); first_is = sym z.0 })
      (λ f e z. elim (taken_cases ts i e inside z.target) [ inl h ↦ inl (record { target = h; back = z.back; first_is = z.first_is }) | inr h ↦ inr (sym z.first_is, t_is ∙ h) ])

  pub backs_pass : (old cur : List Span) (i t : ℕ) → i < length ts → t ≡ get_or ts i 0 → p < t → Extends (BackTarget p (take i ts)) old cur → Extends (BackTarget p (take (i + 1) ts)) old cur
  backs_pass old cur i t inside t_is high x =
      extends_same (BackTarget p (take i ts)) (BackTarget p (take (i + 1) ts)) old cur x
      (λ f e z. record { target = taken_old ts i e inside z.target; back = z.back; first_is = z.first_is })
      (λ f e z. elim (taken_cases ts i e inside z.target) [ inl h ↦ record { target = h; back = z.back; first_is = z.first_is } | inr h ↦ absurd (let b = z.back in omega arith) ])

  pub returns_none : (old : List Span) → Extends (BackSource p (take 0 ts)) old old
  returns_none old = extends_none (BackSource p (take 0 ts)) old (λ f e z. taken_none ts f z.target)

  pub returns_more : (old cur new : List Span) (i t : ℕ) → i < length ts → t ≡ get_or ts i 0 → t ≤ p → Extends (BackSource p (take i ts)) old cur → new ≡ cur ++ (record { first = t; end = p }) ∷ [] → Extends (BackSource p (take (i + 1) ts)) old new
  returns_more old cur new i t inside t_is low x is =
      extends_both (BackSource p (take i ts)) (λ f e. (t ≡ f) × (p ≡ e)) (BackSource p (take (i + 1) ts)) old cur new x
      (extends_one (λ f e. (t ≡ f) × (p ≡ e)) cur new (record { first = t; end = p }) is (refl, refl) (λ f e z. z))
      (λ f e z. record { target = taken_old ts i f inside z.target; back = z.back; end_is = z.end_is })
      (λ f e z. record { target = subst (λ (x : ℕ). Contains (take (i + 1) ts) x) (sym t_is ∙ z.0) (taken_new ts i inside); back = omega (arith, z.0); end_is = sym z.1 })
      (λ f e z. elim (taken_cases ts i f inside z.target) [ inl h ↦ inl (record { target = h; back = z.back; end_is = z.end_is }) | inr h ↦ inr (t_is ∙ h, sym z.end_is) ])

  pub returns_pass : (old cur : List Span) (i t : ℕ) → i < length ts → t ≡ get_or ts i 0 → p < t → Extends (BackSource p (take i ts)) old cur → Extends (BackSource p (take (i + 1) ts)) old cur
  returns_pass old cur i t inside t_is high x =
      extends_same (BackSource p (take i ts)) (BackSource p (take (i + 1) ts)) old cur x
      (λ f e z. record { target = taken_old ts i f inside z.target; back = z.back; end_is = z.end_is })
      (λ f e z. elim (taken_cases ts i f inside z.target) [ inl h ↦ record { target = h; back = z.back; end_is = z.end_is } | inr h ↦ absurd (let b = z.back in omega arith) ])

pub switch_span : (bs : List BasicBlock) (p : ℕ) (b : BasicBlock) (span : Option Span) → At bs p b → b.terminator ≡ Switch → IsSpanOf span (SelectionOf bs p) → IsSpanOf span (SwitchOf bs p)
switch_span bs p b None at is none = λ f e z. none f e (record { by = z.by; selects = z.switches.selects; first_is = z.first_is; end_is = z.end_is })
switch_span bs p b (Some s) at is (has, only) = (
  record {
    by = has.by;
    switches = record { selects = has.selects; switch = subst (λ (d : BasicBlock). d.terminator ≡ Switch) (at_same bs p b has.selects.header.block at has.selects.header.at) is };
    first_is = has.first_is;
    end_is = has.end_is;
  },
  λ f e z. only f e (record { by = z.by; selects = z.switches.selects; first_is = z.first_is; end_is = z.end_is }),
)

between_kept : (ts : List ℕ) (i low high t : ℕ) (old : List ℕ) → i < length ts → t ≡ get_or ts i 0 → (t ≤ low) ⊎ (high ≤ t) → IsBetween (take i ts) low high old → IsBetween (take (i + 1) ts) low high old
between_kept ts i low high t old inside t_is out b = record {
  sound = λ s h. (let (a, c, d) = b.sound s h in (taken_old ts i s inside a, c, d));
  complete = λ s h l u. elim (taken_cases ts i s inside h) [
    | inl g ↦ b.complete s g l u
    | inr e ↦ elim out [ inl o ↦ absurd (omega arith) | inr o ↦ absurd (omega arith) ]
  ];
}

between_taken : (ts : List ℕ) (i low high t : ℕ) (old : List ℕ) → i < length ts → t ≡ get_or ts i 0 → low < t → t < high → IsBetween (take i ts) low high old → IsBetween (take (i + 1) ts) low high (old ++ t ∷ [])
between_taken ts i low high t old inside t_is above below b = record {
  sound = λ s h. elim (Contains-push_cases old t s h) [
    | inl g ↦ (let (a, c, d) = b.sound s g in (taken_old ts i s inside a, c, d))
    | inr e ↦ (subst (λ (x : ℕ). Contains (take (i + 1) ts) x) (sym t_is ∙ e) (taken_new ts i inside), omega arith, omega arith)
  ];
  complete = λ s h l u. elim (taken_cases ts i s inside h) [
    | inl g ↦ Contains-append_left old (t ∷ []) s (b.complete s g l u)
    | inr e ↦ subst (λ (x : ℕ). Contains (old ++ t ∷ []) x) (t_is ∙ e) (Contains-push old t)
  ];
}

pub between_more : (ts : List ℕ) (i low high t : ℕ) (old new : List ℕ) → i < length ts → t ≡ get_or ts i 0 → BetweenStep low high t old new → IsBetween (take i ts) low high old → IsBetween (take (i + 1) ts) low high new
between_more ts i low high t old new inside t_is step b = elim (cases_lt low t) [
  | inr out ↦ subst (λ (x : List ℕ). IsBetween (take (i + 1) ts) low high x) (sym (step.out_low out)) (between_kept ts i low high t old inside t_is (inl out) b)
  | inl above ↦ elim (cases_lt t high) [
    | inr out ↦ subst (λ (x : List ℕ). IsBetween (take (i + 1) ts) low high x) (sym (step.out_high out)) (between_kept ts i low high t old inside t_is (inr out) b)
    | inl below ↦ subst (λ (x : List ℕ). IsBetween (take (i + 1) ts) low high x) (sym (step.taken above below)) (between_taken ts i low high t old inside t_is above below b)
  ]
]

pub between_sorted : (ts : List ℕ) (low high : ℕ) (old new : List ℕ) → IsBetween ts low high old → IsPermutation old new → IsSorted nat_cmp new → Between ts low high new
between_sorted ts low high old new b moved sorted = record {
  are = record {
    sound = λ t h. b.sound t (Contains-permutation new old t (IsPermutation-sym old new moved) h);
    complete = λ t h l u. Contains-permutation old new t moved (b.complete t h l u);
  };
  rises = λ i j order inside. IsNonDecreasingBy-from_sort (λ x. x) new sorted i j 0 (omega arith) inside;
}

pub cases_none : (starts : List ℕ) (last : ℕ) (old : List Span) → Extends (CasesTo starts last 0) old old
cases_none starts last old = extends_none (CasesTo starts last 0) old (λ f e z. (let h = z.before in omega arith))

pub cases_more : (starts : List ℕ) (last i : ℕ) (old cur new : List Span) (span : Option Span) → Extends (CasesTo starts last i) old cur → new ≡ with_span cur span → IsSpanOf span (CaseAt starts last i) → Extends (CasesTo starts last (i + 1)) old new
cases_more starts last i old cur new span x is one =
    extends_both (CasesTo starts last i) (CaseAt starts last i) (CasesTo starts last (i + 1)) old cur new x (extends_span (CaseAt starts last i) cur new span is one)
    (λ f e z. record { at = z.at; before = (let h = z.before in omega arith); is = z.is })
    (λ f e z. record { at = i; before = omega arith; is = z })
    (λ f e z. elim (cases_lt z.at i) [
      | inl h ↦ inl (record { at = z.at; before = h; is = z.is })
      | inr h ↦ inr (let b = z.before in let same : z.at ≡ i = omega arith in subst (λ (k : ℕ). CaseAt starts last k f e) same z.is)
    ])
