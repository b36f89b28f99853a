-- What the operands of a definition came to, which are read to their end whatever they are.
use Rattle.std.specs.Prelude.{ℕ, ◌≡◌, ◌<◌, ◌≤◌, [], ◌∷◌, ◌++◌, length, All, Bool, true, false, Result, Ok, Err}
use Rattle.dx_base.specs.Bits.{IsVbr}
use Rattle.dx_base.specs.Cursor.{Cursor, moved}
use Rattle.bitstream_spelling.specs.Layout.{Abbreviation, AreWritten}
use Rattle.bitstream_spelling.specs.Rules.{IsSmallOperand}
use Rattle.bitstream_spelling.specs.declared.operand.Operand.{Operand}
use Rattle.bitstream_values.specs.Forms.{IsForm}
use Rattle.bitstream_values.specs.declared.definition.Definition.{Definition}
use Rattle.bitstream_values.specs.declared.form.Form.{Form}
use Rattle.bitstream_values.specs.declared.row.Stop.{Stop}
use Rattle.bitstream_values.specs.declared.row.Stop.TheVariants.{Ends, OutOfMemory}

-- an operand was kept where fewer than so many were taken
pub record IsKept (old new : Abbreviation) (op : Operand) (taken most : ℕ) : Type 0 where
  pub kept : taken < most → new ≡ old ++ op ∷ []

abbrev pub KeepAnswer : Result (Unit {0}) Stop → Abbreviation → Abbreviation → Operand → ℕ → ℕ → Type 0
KeepAnswer (Ok _) old new op taken most = IsKept old new op taken most
KeepAnswer (Err Ends) old new op taken most = ⊥
KeepAnswer (Err OutOfMemory) old new op taken most = Unit {0}

-- whether no number is 2 ^ 64 or more
abbrev pub AreSmall : Bool → Abbreviation → Type 0
AreSmall false ops = All IsSmallOperand ops
AreSmall true ops = All IsSmallOperand ops → ⊥

-- So many operands were taken. They are kept where there are at most so many and none is wide.
pub record AreOperands (old new : Cursor) (count most : ℕ) (kept : Abbreviation) (wide : Bool) (form : Form) : Type 0 where
  pub ops : Abbreviation
  pub lays : AreWritten old.bytes old.start old.place ops new.place
  pub counted : length ops ≡ count
  pub is : IsForm form ops
  pub small : AreSmall wide ops
  pub same : wide ≡ false → count ≤ most → kept ≡ ops
  pub moves : new ≡ moved old new.place
  pub within : new.place ≤ old.end

-- whatever so many operands are, they pass the end
pub record NoOperands (c : Cursor) (count : ℕ) : Type 0 where
  pub none : (ops : Abbreviation) (after : ℕ) → AreWritten c.bytes c.start c.place ops after → length ops ≡ count → c.end < after

abbrev pub OperandsAnswer : Result Definition Stop → Cursor → Cursor → ℕ → ℕ → Type 0
OperandsAnswer (Ok d) old new count most = AreOperands old new count most d.operands d.wide d.form × (d.count ≡ count)
OperandsAnswer (Err Ends) old new count most = NoOperands old count
OperandsAnswer (Err OutOfMemory) old new count most = Unit {0}

-- A definition was taken.
pub record IsDefinition (old new : Cursor) (most : ℕ) (d : Definition) : Type 0 where
  pub ops : Abbreviation
  pub next : ℕ
  pub is_count : IsVbr old.bytes 5 old.place (length ops) next
  pub lays : AreWritten old.bytes old.start next ops new.place
  pub counted : length ops ≡ d.count
  pub is : IsForm d.form ops
  pub small : AreSmall d.wide ops
  pub same : d.wide ≡ false → d.count ≤ most → d.operands ≡ ops
  pub moves : new ≡ moved old new.place
  pub within : new.place ≤ old.end

-- every definition passes the end
pub record NoDefinition (c : Cursor) : Type 0 where
  pub none : (ops : Abbreviation) (next after : ℕ) → IsVbr c.bytes 5 c.place (length ops) next → AreWritten c.bytes c.start next ops after → c.end < after

abbrev pub DefinitionAnswer : Result Definition Stop → Cursor → Cursor → ℕ → Type 0
DefinitionAnswer (Ok d) old new most = IsDefinition old new most d
DefinitionAnswer (Err Ends) old new most = NoDefinition old
DefinitionAnswer (Err OutOfMemory) old new most = Unit {0}
