-- How many numbers pass a test, where the test changes little.
use Rattle.std.proofs.Common.{◌≡◌, inl, inr, ℕ, zero, suc, ◌+◌, ◌<◌, ◌≤◌, Bool, true, false, cond, refl, subst, arith}
use Rattle.std.proofs.lemmas.Bool.{cases_eq, both_ways}
use Rattle.dxil_form.specs.Graphs.{count_below}

bit_within : (b d : Bool) → (b ≡ true → d ≡ true) → cond b 1 0 ≤ cond d 1 0
bit_within false d h = omega arith
bit_within true true h = omega arith
bit_within true false h = absurd (both_ways false refl (h refl))

bit_most : (b : Bool) → cond b 1 0 ≤ 1
bit_most true = omega arith
bit_most false = omega arith

pub count_within : (n : ℕ) (p q : ℕ → Bool) → ((x : ℕ) → p x ≡ true → q x ≡ true) → count_below n p ≤ count_below n q
count_within zero p q h = omega arith
count_within (suc n) p q h = let k = count_within n p q h in let l = bit_within (p n) (q n) (h n) in omega arith

-- one number no longer passes
pub count_less : (n : ℕ) (p q : ℕ → Bool) → ((x : ℕ) → p x ≡ true → q x ≡ true) → (y : ℕ) → y < n → p y ≡ false → q y ≡ true → count_below n p + 1 ≤ count_below n q
count_less zero p q h y l f t = absurd (omega arith)
count_less (suc n) p q h y l f t = elim (cases_eq y n) [
  | inl e ↦ (let P : ℕ → Type 0 = λ z. cond (p z) 1 0 + 1 ≤ cond (q z) 1 0 in
      let i : cond (p n) 1 0 + 1 ≤ cond (q n) 1 0 = subst P e (bits (p y) (q y) f t) in
      let k = count_within n p q h in omega arith)
  | inr ne ↦ (let k = count_less n p q h y (omega arith) f t in let i = bit_within (p n) (q n) (h n) in omega arith)
]
  where
    bits : (b d : Bool) → b ≡ false → d ≡ true → cond b 1 0 + 1 ≤ cond d 1 0
    bits false true f t = omega arith
    bits true d f t = cc
    bits false false f t = cc

-- at most one number more passes
pub count_one : (n : ℕ) (p q : ℕ → Bool) (a : ℕ) → ((x : ℕ) → (x ≡ a → ⊥) → p x ≡ true → q x ≡ true) → count_below n p ≤ count_below n q + 1
count_one zero p q a h = omega arith
count_one (suc n) p q a h = elim (cases_eq n a) [
  | inl e ↦ (let k = below n (omega arith) in let i = bit_most (p n) in omega arith)
  | inr ne ↦ (let k = count_one n p q a h in let i = bit_within (p n) (q n) (h n ne) in omega arith)
]
  where
    below : (m : ℕ) → m ≤ a → count_below m p ≤ count_below m q
    below zero l = omega arith
    below (suc m) l = let k = below m (omega arith) in let i = bit_within (p m) (q m) (h m (omega arith)) in omega arith

pub count_most : (n : ℕ) (p : ℕ → Bool) → count_below n p ≤ n
count_most zero p = omega arith
count_most (suc n) p = let k = count_most n p in let i = bit_most (p n) in omega arith

-- what passes counts
pub count_some : (n : ℕ) (p : ℕ → Bool) (y : ℕ) → y < n → p y ≡ true → 1 ≤ count_below n p
count_some n p y l t = let k = count_less n (λ x. false) p (λ x h. absurd (both_ways false refl h)) y l refl t in omega arith
