-- Places at fault, and the least bit of such a place.
use Rattle.std.specs.Prelude.{ℕ, ◌≡◌, ◌≤◌, List, take, slice_get, Bool, true, Option, Some, None, min}

-- A place of a list is at fault at a bit: the test is one of the place and of what stands before it.
module _ {S : Type 0} (bit : S → ℕ) (test : List S → S → Bool) where
  pub record IsFault (places : List S) (at : ℕ) : Type 0 where
    pub index : ℕ
    pub place : S
    pub stands : slice_get places index ≡ Some place
    pub holds : test (take index places) place ≡ true
    pub at_bit : bit place ≡ at

-- the least of the bits at which there is a fault, or None where there is none
abbrev pub IsLeastBit : (ℕ → Type 0) → Option ℕ → Type 0
IsLeastBit Fault None = (at : ℕ) → Fault at → ⊥
IsLeastBit Fault (Some bit) = Fault bit × ((at : ℕ) → Fault at → bit ≤ at)

-- the least bit so far, with one bit more
abbrev pub lesser : Option ℕ → ℕ → Option ℕ
lesser None bit = Some bit
lesser (Some least) bit = Some (min least bit)

-- the lesser of two bits, if there is one
abbrev pub least_of : Option ℕ → Option ℕ → Option ℕ
least_of least None = least
least_of least (Some bit) = lesser least bit
