-- What a definition of an abbreviation came to.
use Rattle.std.specs.Prelude.{ℕ, ◌≡◌, ◌+◌, ◌-◌, ◌≤◌, ◌^◌, List, length, false}
use Rattle.dx_base.specs.Bits.{num, IsVbr}
use Rattle.bitstream_spelling.specs.Layout.{Abbreviation, AreWritten}
use Rattle.bitstream_spelling.specs.Spelling.{Place, defined}
use Rattle.bitstream_values.specs.Forms.{IsForm}
use Rattle.bitstream_values.specs.Operands.{AreSmall}
use Rattle.bitstream_values.specs.declared.definition.Definition.{Definition}
use Rattle.dx_bitstream.specs.Places.{IsPlaceOf}
use Rattle.dx_bitstream.specs.declared.info.Info.{Info}
use Rattle.dx_bitstream.specs.declared.reader.Open.{Open}
use Rattle.dx_bitstream.specs.declared.reader.Reader.{Reader}

-- how many operands there may still be
abbrev pub room_of : Reader → ℕ
room_of r = 2 ^ 24 - r.operands - length r.fields

-- a definition was taken, whose id stands at a bit
pub record IsDefinitionAt (r : Reader) (bit : ℕ) (d : Definition) : Type 0 where
  pub ops : Abbreviation
  pub next : ℕ
  pub is : num r.cursor.bytes bit r.here.width ≡ 2
  pub is_count : IsVbr r.cursor.bytes 5 (bit + r.here.width) (length ops) next
  pub lays : AreWritten r.cursor.bytes r.cursor.start next ops r.cursor.place
  pub counted : length ops ≡ d.count
  pub form : IsForm d.form ops
  pub small : AreSmall d.wide ops
  pub same : d.wide ≡ false → d.count ≤ room_of r → d.operands ≡ ops

-- an abbreviation was filed where the definition of a place belongs
pub record IsFiled (g : Info) (o : Open) (ops : Abbreviation) (new_g : Info) (new_o : Open) : Type 0 where
  pub width : new_o.width ≡ o.width
  pub content : new_o.content ≡ o.content
  pub filed : (p : Place) (os : List Open) (after : ℕ) → IsPlaceOf g o os p → IsPlaceOf new_g new_o os (defined p ops after)
