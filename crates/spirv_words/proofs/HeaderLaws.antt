-- The laws of the rules of a module's header.
use Rattle.std.proofs.Common.{◌≡◌, ℕ, ◌<◌, ◌≤◌, ◌⊎◌, inl, inr, List, length, get_or, refl, arith}
use Rattle.dx_base.specs.First.{IsFirst}
use Rattle.spv_form.specs.declared.module.Version.{Version}
use Rattle.spv_form.specs.Versions.{version_word}
use Rattle.spv_form.specs.Words.{magic}
use Rattle.spv_form.specs.WordRules.{Broken}
use Rattle.spirv_words.proofs.ModuleLaws.{begins_behind, stated}

-- the bytes are no whole words, or too few
pub first_is_cut : (words : List ℕ) (rest : ℕ) → Broken words rest 1 0 → IsFirst (Broken words rest) 1 0
first_is_cut words rest b = record { broken = b; least = cases } where
  cases : (rule at : ℕ) → Broken words rest rule at → (0 < at) ⊎ ((0 ≡ at) × (1 ≤ rule))
  cases rule at (Broken.bytes_left_over n) = inr (refl, omega arith)
  cases rule at (Broken.header_missing h) = inr (refl, omega arith)
  cases rule at (Broken.other_magic n) = inr (refl, omega arith)
  cases rule at (Broken.other_version n o) = inl (omega arith)
  cases rule at (Broken.other_schema n) = inl (omega arith)
  cases rule at (Broken.instruction g c) = inl (omega (arith, begins_behind words at g))

module _ (words : List ℕ) (long : 5 ≤ length words) where
  pub first_is_magic : (get_or words 0 0 ≡ magic → ⊥) → IsFirst (Broken words 0) 2 0
  first_is_magic b = record { broken = Broken.other_magic b; least = cases } where
    cases : (rule at : ℕ) → Broken words 0 rule at → (0 < at) ⊎ ((0 ≡ at) × (2 ≤ rule))
    cases rule at (Broken.bytes_left_over n) = absurd (n refl)
    cases rule at (Broken.header_missing h) = absurd (omega (arith, h, long))
    cases rule at (Broken.other_magic n) = inr (refl, omega arith)
    cases rule at (Broken.other_version n o) = inl (omega arith)
    cases rule at (Broken.other_schema n) = inl (omega arith)
    cases rule at (Broken.instruction g c) = inl (omega (arith, begins_behind words at g))

  pub first_is_version : get_or words 0 0 ≡ magic → (get_or words 1 0 ≡ 0x0001_0600 → ⊥) → (get_or words 1 0 ≡ 0x0001_0300 → ⊥) → IsFirst (Broken words 0) 3 1
  first_is_version m a b = record { broken = Broken.other_version a b; least = cases } where
    cases : (rule at : ℕ) → Broken words 0 rule at → (1 < at) ⊎ ((1 ≡ at) × (3 ≤ rule))
    cases rule at (Broken.bytes_left_over n) = absurd (n refl)
    cases rule at (Broken.header_missing h) = absurd (omega (arith, h, long))
    cases rule at (Broken.other_magic n) = absurd (n m)
    cases rule at (Broken.other_version n o) = inr (refl, omega arith)
    cases rule at (Broken.other_schema n) = inl (omega arith)
    cases rule at (Broken.instruction g c) = inl (omega (arith, begins_behind words at g))

  pub first_is_schema : get_or words 0 0 ≡ magic → (v : Version) → get_or words 1 0 ≡ version_word v → (get_or words 4 0 ≡ 0 → ⊥) → IsFirst (Broken words 0) 4 4
  first_is_schema m v e b = record { broken = Broken.other_schema b; least = cases } where
    cases : (rule at : ℕ) → Broken words 0 rule at → (4 < at) ⊎ ((4 ≡ at) × (4 ≤ rule))
    cases rule at (Broken.bytes_left_over n) = absurd (n refl)
    cases rule at (Broken.header_missing h) = absurd (omega (arith, h, long))
    cases rule at (Broken.other_magic n) = absurd (n m)
    cases rule at (Broken.other_version n o) = absurd (stated v (get_or words 1 0) e n o)
    cases rule at (Broken.other_schema n) = inr (refl, omega arith)
    cases rule at (Broken.instruction g c) = inl (omega (arith, begins_behind words at g))
