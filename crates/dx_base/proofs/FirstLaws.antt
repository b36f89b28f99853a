-- A reader that stops at the first place at which something is broken gives the layer's first refusal.
use Rattle.std.proofs.Common.{ℕ, ◌≡◌, ◌<◌, ◌≤◌, ◌⊎◌, inl, inr, refl, sym, subst, ◌∙◌, ap, arith, List, length, take, slice_get, Some, ◌+◌}
use Rattle.std.proofs.lemmas.Bool.{cases_lt}
use Rattle.std.proofs.lemmas.Option.{slice_get_within}
use Rattle.dx_base.specs.First.{IsFirst, IsSound, IsBroken, IsClear, Rises, IsLeast, IsUnbroken}

-- there is one first
pub first_unique : (Broken : ℕ → ℕ → Type 0) (r b s c : ℕ) → IsFirst Broken r b → IsFirst Broken s c → (r ≡ s) × (b ≡ c)
first_unique Broken r b s c x y = elim (x.least s c y.broken) [
  | inl h ↦ elim (y.least r b x.broken) [ inl g ↦ absurd (omega arith) | inr g ↦ absurd (omega (arith, g.0)) ]
  | inr h ↦ elim (y.least r b x.broken) [ inl g ↦ absurd (omega (arith, h.0)) | inr g ↦ (omega (arith, h.1, g.1), h.0) ]
]

cases_order : (i j : ℕ) → (i < j) ⊎ ((j < i) ⊎ (i ≡ j))
cases_order i j = elim (cases_lt i j) [
  | inl h ↦ inl h
  | inr h ↦ elim (cases_lt j i) [ inl g ↦ inr (inl g) | inr g ↦ inr (inr (omega arith)) ]
]

module _ {S : Type 0} (bit : S → ℕ) (Breaks : List S → S → ℕ → Type 0) (places : List S) where
  pub clear_none : IsClear bit Breaks places 0
  clear_none = record { none = λ i s r h e b. absurd (omega arith) }

  pub clear_more : (i : ℕ) (s : S) → IsClear bit Breaks places i → slice_get places i ≡ Some s → IsUnbroken Breaks (take i places) s → IsClear bit Breaks places (i + 1)
  clear_more i s c e u = record { none = cases } where
    cases : (j : ℕ) (t : S) (rule : ℕ) → j < i + 1 → slice_get places j ≡ Some t → Breaks (take j places) t rule → ⊥
    cases j t rule h g b = elim (cases_lt j i) [
      | inl below ↦ c.none j t rule below g b
      | inr above ↦
          let same : j ≡ i = omega arith in
          let found : Some t ≡ Some s = sym g ∙ ap (slice_get places) same ∙ e in
          let one : t ≡ s = cc in
          u.none rule (subst (λ (x : S). Breaks (take i places) x rule) one (subst (λ (k : ℕ). Breaks (take k places) t rule) same b))
    ]

  pub sound_of : IsClear bit Breaks places (length places) → IsSound (IsBroken bit Breaks places)
  sound_of c = record { none = λ rule at b. c.none b.index b.place rule (slice_get_within places b.index b.place b.stands) b.stands b.breaks }

  pub first_here : (i : ℕ) (s : S) (rule : ℕ) → Rises bit Breaks places → IsClear bit Breaks places i → slice_get places i ≡ Some s
      → IsLeast Breaks (take i places) s rule → IsFirst (IsBroken bit Breaks places) rule (bit s)
  first_here i s rule up clear stands here = record { broken = record { index = i; place = s; stands = stands; at_bit = refl; breaks = here.broken }; least = ordered } where
    ordered : (other at : ℕ) → IsBroken bit Breaks places other at → (bit s < at) ⊎ ((bit s ≡ at) × (rule ≤ other))
    ordered other at b = elim (cases_order i b.index) [
      | inl later ↦ inl (let h : bit s < bit b.place = up.rises i b.index s b.place later stands b.stands in let e : bit b.place ≡ at = b.at_bit in omega arith)
      | inr (inl earlier) ↦ absurd (clear.none b.index b.place other earlier b.stands b.breaks)
      | inr (inr same) ↦
          let found : Some b.place ≡ Some s = sym b.stands ∙ ap (slice_get places) (sym same) ∙ stands in
          let one : b.place ≡ s = cc in
          inr (sym (ap bit one) ∙ b.at_bit, here.least other (subst (λ (x : S). Breaks (take i places) x other) one (subst (λ (k : ℕ). Breaks (take k places) b.place other) (sym same) b.breaks)))
    ]
