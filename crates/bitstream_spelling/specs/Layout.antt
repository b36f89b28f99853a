-- What stands at a bit (LLVM 3.7 bitcode file format, "Primitives", "Abbreviation IDs", "Blocks", "Data Records" and "Abbreviations").
-- Bits past the last byte read as 0, so something stands at each bit; whether it passes the end is asked apart.
use Rattle.std.specs.Prelude.{ℕ, zero, suc, ◌≡◌, ◌+◌, ◌-◌, ◌*◌, ◌/◌, ◌≤◌, ◌⊎◌, List, [], ◌∷◌, length}
use Rattle.dx_base.specs.Bits.{num, IsVbr, char6 as character}
use Rattle.bitstream_spelling.specs.declared.operand.Operand.{Operand}
use Rattle.bitstream_spelling.specs.declared.operand.Operand.TheVariants.{Literal, Fixed, Vbr, Array, Char6, Blob, Faulty}

abbrev pub Abbreviation : Type 0
Abbreviation = List Operand

-- the least multiple of 32 bits from the start that is not before the bit
abbrev pub aligned : ℕ → ℕ → ℕ
aligned start i = start + (i - start + 31) / 32 * 32

-- What stands at a bit: a block's end, a block's entry with its id, width and words, a definition of an abbreviation, a record without an
-- abbreviation with its code and fields, the values of a record by an abbreviation, which the id counts from 4 on, or an id that no abbreviation has.
pub data Shape : Type 0 where
  closes : Shape
  enters : ℕ → ℕ → ℕ → Shape
  defines : Abbreviation → Shape
  plain : ℕ → List ℕ → Shape
  by : ℕ → List ℕ → Shape
  unknown : ℕ → Shape

module _ (bytes : List ℕ) (start : ℕ) where
  -- one value by a scalar operand, in the bits from i up to `after`
  abbrev pub IsValue : Operand → ℕ → ℕ → ℕ → Type 0
  IsValue (Literal n) i v after = (v ≡ n) × (after ≡ i)
  IsValue (Fixed w) i v after = (v ≡ num bytes i w) × (after ≡ i + w)
  IsValue (Vbr zero) i v after = (v ≡ 0) × (after ≡ i)
  IsValue (Vbr (suc w)) i v after = IsVbr bytes (suc w) i v after
  IsValue Char6 i v after = (v ≡ character (num bytes i 6)) × (after ≡ i + 6)
  IsValue Array i v after = ⊥
  IsValue Blob i v after = ⊥
  IsValue Faulty i v after = ⊥

  -- a row of values by one operand
  abbrev pub AreValues : Operand → ℕ → List ℕ → ℕ → Type 0
  AreValues op i [] after = after ≡ i
  AreValues op i (v ∷ vs) after = (next : ℕ) × IsValue op i v next × AreValues op next vs after

  -- a count, and so many values
  abbrev pub AreCounted : Operand → ℕ → List ℕ → ℕ → Type 0
  AreCounted op i vs after = (next : ℕ) × IsVbr bytes 6 i (length vs) next × AreValues op next vs after

  -- the values of a record by an abbreviation
  abbrev pub AreSpelled : Abbreviation → ℕ → List ℕ → ℕ → Type 0
  AreSpelled [] i vs after = (vs ≡ []) × (after ≡ i)
  AreSpelled (Array ∷ element ∷ _) i vs after = AreCounted element i vs after
  AreSpelled (Blob ∷ _) i vs after =
      (next ends : ℕ) × IsVbr bytes 6 i (length vs) next × AreValues (Fixed 8) (aligned start next) vs ends × (after ≡ aligned start ends)
  AreSpelled (op ∷ ops) i vs after = (v next : ℕ) × (rest : List ℕ) × IsValue op i v next × AreSpelled ops next rest after × (vs ≡ v ∷ rest)

  -- the code, the count and the fields of a record without an abbreviation
  pub record IsPlain (i code : ℕ) (fields : List ℕ) (after : ℕ) : Type 0 where
    pub next : ℕ
    pub last : ℕ
    pub is_code : IsVbr bytes 6 i code next
    pub is_count : IsVbr bytes 6 next (length fields) last
    pub are_fields : AreValues (Vbr 6) last fields after

  -- an operand of a definition
  abbrev pub IsWritten : ℕ → Operand → ℕ → Type 0
  IsWritten i (Literal n) after = (num bytes i 1 ≡ 1) × IsVbr bytes 8 (i + 1) n after
  IsWritten i (Fixed w) after = (num bytes i 1 ≡ 0) × (num bytes (i + 1) 3 ≡ 1) × IsVbr bytes 5 (i + 4) w after
  IsWritten i (Vbr w) after = (num bytes i 1 ≡ 0) × (num bytes (i + 1) 3 ≡ 2) × IsVbr bytes 5 (i + 4) w after
  IsWritten i Array after = (num bytes i 1 ≡ 0) × (num bytes (i + 1) 3 ≡ 3) × (after ≡ i + 4)
  IsWritten i Char6 after = (num bytes i 1 ≡ 0) × (num bytes (i + 1) 3 ≡ 4) × (after ≡ i + 4)
  IsWritten i Blob after = (num bytes i 1 ≡ 0) × (num bytes (i + 1) 3 ≡ 5) × (after ≡ i + 4)
  IsWritten i Faulty after = (num bytes i 1 ≡ 0) × ((num bytes (i + 1) 3 ≡ 0) ⊎ (6 ≤ num bytes (i + 1) 3)) × (after ≡ i + 4)

  abbrev pub AreWritten : ℕ → Abbreviation → ℕ → Type 0
  AreWritten i [] after = after ≡ i
  AreWritten i (op ∷ ops) after = (next : ℕ) × IsWritten i op next × AreWritten next ops after
