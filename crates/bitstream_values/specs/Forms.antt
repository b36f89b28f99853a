-- Whether operands make an abbreviation, one by one.
use Rattle.std.specs.Prelude.{[], ◌∷◌, ◌++◌}
use Rattle.bitstream_spelling.specs.Layout.{Abbreviation}
use Rattle.bitstream_spelling.specs.Rules.{IsScalar, AreSound, IsSound}
use Rattle.bitstream_spelling.specs.declared.operand.Operand.{Operand}
use Rattle.bitstream_values.specs.declared.form.Form.{Form}
use Rattle.bitstream_values.specs.declared.form.Form.TheVariants.{Empty, Plain, Array, Closed, Faulty}

-- one operand that takes one value, and nothing behind it
abbrev pub IsElement : Abbreviation → Type 0
IsElement (op ∷ []) = IsScalar op
IsElement _ = ⊥

abbrev pub IsNone : Abbreviation → Type 0
IsNone [] = Unit {0}
IsNone (op ∷ ops) = ⊥

-- what may follow the operands so far
abbrev pub MayFollow : Form → Abbreviation → Type 0
MayFollow Empty ops = IsSound ops
MayFollow Plain ops = AreSound ops
MayFollow Array ops = IsElement ops
MayFollow Closed ops = IsNone ops
MayFollow Faulty ops = ⊥

-- nothing may follow
abbrev pub Ends : Form → Type 0
Ends form = MayFollow form []

-- With one more operand the same may follow behind it.
pub record IsStep (form : Form) (op : Operand) (new_form : Form) : Type 0 where
  pub follows : (ops : Abbreviation) → MayFollow form (op ∷ ops) → MayFollow new_form ops
  pub followed : (ops : Abbreviation) → MayFollow new_form ops → MayFollow form (op ∷ ops)

-- the operands before have this form
pub record IsForm (form : Form) (before : Abbreviation) : Type 0 where
  pub follows : (ops : Abbreviation) → IsSound (before ++ ops) → MayFollow form ops
  pub followed : (ops : Abbreviation) → MayFollow form ops → IsSound (before ++ ops)
