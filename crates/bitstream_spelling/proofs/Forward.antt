-- What stands at a bit ends behind it or there.
use Rattle.std.proofs.Common.{ℕ, zero, suc, ◌+◌, ◌≤◌, List, [], ◌∷◌, length, arith}
use Rattle.dx_base.proofs.VbrLaws.{vbr_takes}
use Rattle.bitstream_spelling.specs.declared.operand.Operand.{Operand}
use Rattle.bitstream_spelling.specs.declared.operand.Operand.TheVariants.{Literal, Fixed, Vbr, Array, Char6, Blob, Faulty}
use Rattle.bitstream_spelling.specs.Layout.{Abbreviation, aligned, IsValue, AreValues, AreCounted, AreSpelled, IsWritten, AreWritten}

pub above : (start i : ℕ) → i ≤ aligned start i
above start i = omega arith

module _ (bytes : List ℕ) (start : ℕ) where
  pub value_forward : (op : Operand) (i v j : ℕ) → IsValue bytes start op i v j → i ≤ j
  value_forward (Literal n) i v j h = omega (arith, h.1)
  value_forward (Fixed w) i v j h = omega (arith, h.1)
  value_forward (Vbr zero) i v j h = omega (arith, h.1)
  value_forward (Vbr (suc w)) i v j h = omega (arith, vbr_takes bytes (suc w) i v j h)
  value_forward Char6 i v j h = omega (arith, h.1)
  value_forward Array i v j h = absurd h
  value_forward Blob i v j h = absurd h
  value_forward Faulty i v j h = absurd h

  pub row_forward : (op : Operand) (i : ℕ) (vs : List ℕ) (j : ℕ) → AreValues bytes start op i vs j → i ≤ j
  row_forward op i [] j h = omega (arith, h)
  row_forward op i (v ∷ vs) j h = omega (arith, value_forward op i v h.0 h.1, row_forward op h.0 vs j h.2)

  pub counted_forward : (op : Operand) (i : ℕ) (vs : List ℕ) (j : ℕ) → AreCounted bytes start op i vs j → i ≤ j
  counted_forward op i vs j h = omega (arith, vbr_takes bytes 6 i (length vs) h.0 h.1, row_forward op h.0 vs j h.2)

  pub spelled_forward : (ops : Abbreviation) (i : ℕ) (vs : List ℕ) (j : ℕ) → AreSpelled bytes start ops i vs j → i ≤ j
  spelled_forward [] i vs j h = omega (arith, h.1)
  spelled_forward (Array ∷ element ∷ _) i vs j h = counted_forward element i vs j h
  spelled_forward (Blob ∷ _) i vs j h =
      omega (arith, vbr_takes bytes 6 i (length vs) h.0 h.2, above start h.0, row_forward (Fixed 8) (aligned start h.0) vs h.1 h.3, above start h.1, h.4)
  spelled_forward (op ∷ ops) i vs j h = omega (arith, value_forward op i h.0 h.1 h.3, spelled_forward ops h.1 h.2 j h.4)

  pub written_forward : (i : ℕ) (op : Operand) (j : ℕ) → IsWritten bytes start i op j → i ≤ j
  written_forward i (Literal n) j h = omega (arith, vbr_takes bytes 8 (i + 1) n j h.1)
  written_forward i (Fixed w) j h = omega (arith, vbr_takes bytes 5 (i + 4) w j h.2)
  written_forward i (Vbr w) j h = omega (arith, vbr_takes bytes 5 (i + 4) w j h.2)
  written_forward i Array j h = omega (arith, h.2)
  written_forward i Char6 j h = omega (arith, h.2)
  written_forward i Blob j h = omega (arith, h.2)
  written_forward i Faulty j h = omega (arith, h.2)

  pub all_written_forward : (i : ℕ) (ops : Abbreviation) (j : ℕ) → AreWritten bytes start i ops j → i ≤ j
  all_written_forward i [] j h = omega (arith, h)
  all_written_forward i (op ∷ ops) j h = omega (arith, written_forward i op h.0 h.1, all_written_forward h.0 ops j h.2)
