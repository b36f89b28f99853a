use Rattle.std.proofs.Common.{arith, refl, ap, ◌∙◌, ℕ, [], ◌∷◌, ◌++◌}
use Rattle.bitstream_spelling.specs.declared.item.Item.TheVariants.{Enter}
use Rattle.dx_bitstream.specs.declared.reader.Open.{Open}
use Rattle.dx_bitstream.proofs.EntryLaws.{open_wide, open_narrow, open_step}
use Rattle.dx_bitstream.proofs.Halting.{refuses}
use Rattle.dx_bitstream.proofs.PlaceLaws.{untrue, where_ok}
use Rattle.dx_bitstream.proofs.entry.open_block.Goals as goal

pub returns-in_default : goal.returns-in_default
returns-in_default c = refuses _ _ _ _ _ _ c.refused.ensures (omega arith) (open_wide _ _ _ c.requires.entry c.requires.steady _ c.requires.kind c.in_default.ensures)

pub returns-then-not-is_width : goal.returns-then-not-is_width
returns-then-not-is_width c = refuses _ _ _ _ _ _ c.refused-then-not-is_width.ensures (omega arith) (open_narrow _ _ _ c.requires.entry c.requires.steady _ c.requires.kind _ c.in-Some.ensures (untrue _ c.if-not-is_width.true c.is_width.ensures))

pub returns : goal.returns
returns c =
    open_step _ _ _ c.requires.entry c.requires.steady _ c.requires.kind _ _ _ c.in-Some.ensures (c.is_width.ensures.0 c.if-not-is_width.false) c.at.ensures refl
    (c.replace-outer.ensures.after ∙ rw (c.len.ensures, c.given.ensures, c.new.ensures) refl)
    (where_ok _ _ c.is_err.ensures.value c.if-is_err.false c.push.ensures ∙ ap (λ (o : Open). o ∷ c.args.reader.now.around) c.replace-outer.ensures.value) refl refl refl
    (where_ok _ _ c.is_err-2.ensures.value c.if-is_err-2.false c.keep.ensures ∙ ap (λ (n : ℕ). c.args.reader.now.list ++ Enter n c.in-Some.width c.args.bit ∷ []) c.number_of.ensures) refl
