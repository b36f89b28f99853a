-- The least bit of the places at fault, place by place.
use Rattle.std.proofs.Common.{ℕ, ◌≡◌, ◌<◌, ◌≤◌, ◌+◌, ◌⊎◌, inl, inr, refl, sym, subst, ◌∙◌, ap, arith, List, take, length, slice_get, Bool, true, false, not, Option, Some, None, min, if◌then◌else◌}
use Rattle.std.proofs.lemmas.Bool.{cases_lt}
use Rattle.std.proofs.lemmas.Option.{slice_get_within}
use Rattle.llvm_facts.specs.Faults.{IsFault, IsLeastBit, lesser, least_of}

-- the same property has the same least bit
pub least_same : (P Q : ℕ → Type 0) → ((at : ℕ) → P at → Q at) → ((at : ℕ) → Q at → P at) → (least : Option ℕ) → IsLeastBit P least → IsLeastBit Q least
least_same P Q to from None h = λ at q. h at (from at q)
least_same P Q to from (Some bit) h = (to bit h.0, λ at q. h.1 at (from at q))

-- with one bit more
pub least_with : (P Q : ℕ → Type 0) (bit : ℕ) → ((at : ℕ) → P at → Q at) → Q bit → ((at : ℕ) → Q at → P at ⊎ (bit ≡ at)) → (least : Option ℕ) → IsLeastBit P least → IsLeastBit Q (lesser least bit)
least_with P Q bit keep one split None h = (one, λ at q. elim (split at q) [ inl p ↦ absurd (h at p) | inr e ↦ omega (arith, e) ])
least_with P Q bit keep one split (Some least) h = (taken, below) where
  taken : Q (min least bit)
  taken = elim (cases_lt least bit) [
    | inl l ↦ let e : least ≡ min least bit = omega arith in subst Q e (keep least h.0)
    | inr g ↦ let e : bit ≡ min least bit = omega arith in subst Q e one
  ]

  below : (at : ℕ) → Q at → min least bit ≤ at
  below at q = elim (split at q) [ inl p ↦ (let l : least ≤ at = h.1 at p in omega arith) | inr e ↦ omega arith ]

module _ {S : Type 0} (bit : S → ℕ) (test : List S → S → Bool) (places : List S) where
  -- a fault among so many first places
  pub record IsBelow (count at : ℕ) : Type 0 where
    pub index : ℕ
    pub below : index < count
    pub place : S
    pub stands : slice_get places index ≡ Some place
    pub holds : test (take index places) place ≡ true
    pub at_bit : bit place ≡ at

  pub below_none : IsLeastBit (IsBelow 0) None
  below_none = λ at f. let h : f.index < 0 = f.below in absurd (omega arith)

  widen : (i at : ℕ) → IsBelow i at → IsBelow (i + 1) at
  widen i at f = let h : f.index < i = f.below in record { index = f.index; below = omega arith; place = f.place; stands = f.stands; holds = f.holds; at_bit = f.at_bit }

  split : (i at : ℕ) (x : S) → slice_get places i ≡ Some x → IsBelow (i + 1) at → IsBelow i at ⊎ ((test (take i places) x ≡ true) × (bit x ≡ at))
  split i at x e f = elim (cases_lt f.index i) [
    | inl h ↦ inl (record { index = f.index; below = h; place = f.place; stands = f.stands; holds = f.holds; at_bit = f.at_bit })
    | inr g ↦
        let w : f.index < i + 1 = f.below in
        let same : f.index ≡ i = omega arith in
        let found : Some f.place ≡ Some x = sym f.stands ∙ ap (slice_get places) same ∙ e in
        let one : f.place ≡ x = cc in
        inr (subst (λ (y : S). test (take i places) y ≡ true) one (subst (λ (k : ℕ). test (take k places) f.place ≡ true) same f.holds), sym (ap bit one) ∙ f.at_bit)
  ]

  pub below_more : (i : ℕ) (x : S) (least : Option ℕ) → slice_get places i ≡ Some x → IsLeastBit (IsBelow i) least → (b : Bool) → test (take i places) x ≡ b → IsLeastBit (IsBelow (i + 1)) (if b then lesser least (bit x) else least)
  below_more i x least e h true t =
      least_with (IsBelow i) (IsBelow (i + 1)) (bit x) (widen i) (record { index = i; below = omega arith; place = x; stands = e; holds = t; at_bit = refl })
      (λ at f. elim (split i at x e f) [ inl g ↦ inl g | inr p ↦ inr p.1 ]) least h
  below_more i x least e h false t =
      least_same (IsBelow i) (IsBelow (i + 1)) (widen i)
      (λ at f. elim (split i at x e f) [ inl g ↦ g | inr p ↦ (let c : true ≡ false = sym p.0 ∙ t in cc) ]) least h

  pub below_all : (least : Option ℕ) → IsLeastBit (IsBelow (length places)) least → IsLeastBit (IsFault bit test places) least
  below_all least h =
      least_same (IsBelow (length places)) (IsFault bit test places)
      (λ at f. record { index = f.index; place = f.place; stands = f.stands; holds = f.holds; at_bit = f.at_bit })
      (λ at f. record { index = f.index; below = slice_get_within places f.index f.place f.stands; place = f.place; stands = f.stands; holds = f.holds; at_bit = f.at_bit }) least h

-- either of two properties
pub least_either : (P Q : ℕ → Type 0) (a b : Option ℕ) → IsLeastBit P a → IsLeastBit Q b → IsLeastBit (λ at. P at ⊎ Q at) (least_of a b)
least_either P Q a None p q = least_same P (λ at. P at ⊎ Q at) (λ at h. inl h) (λ at h. elim h [ inl g ↦ g | inr g ↦ absurd (q at g) ]) a p
least_either P Q None (Some b) p q = (inr q.0, λ at h. elim h [ inl g ↦ absurd (p at g) | inr g ↦ q.1 at g ])
least_either P Q (Some a) (Some b) p q = (taken, below) where
  taken : P (min a b) ⊎ Q (min a b)
  taken = elim (cases_lt a b) [
    | inl l ↦ let e : a ≡ min a b = omega arith in inl (subst P e p.0)
    | inr g ↦ let e : b ≡ min a b = omega arith in inr (subst Q e q.0)
  ]

  below : (at : ℕ) → P at ⊎ Q at → min a b ≤ at
  below at h = elim h [ inl g ↦ (let l : a ≤ at = p.1 at g in omega arith) | inr g ↦ (let l : b ≤ at = q.1 at g in omega arith) ]

-- one bit, where a test fails
pub least_test : (b : Bool) (bit : ℕ) → IsLeastBit (λ at. (b ≡ false) × (at ≡ bit)) (if not b then lesser None bit else None)
least_test true bit = λ at h. let c : true ≡ false = h.0 in cc
least_test false bit = ((refl, refl), λ at h. omega (arith, h.1))
