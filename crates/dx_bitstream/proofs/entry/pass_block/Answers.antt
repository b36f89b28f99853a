use Rattle.std.proofs.Common.{arith, refl}
use Rattle.dx_bitstream.proofs.EntryLaws.{pass_short, pass_wide_id, pass_wide, pass_step}
use Rattle.dx_bitstream.proofs.Halting.{refuses}
use Rattle.dx_bitstream.proofs.PlaceLaws.{where_ok}
use Rattle.dx_bitstream.proofs.entry.pass_block.Goals as goal

pub returns-in_default : goal.returns-in_default
returns-in_default c = refuses _ _ _ _ _ _ c.refused.ensures (omega arith) (pass_short _ _ _ c.requires.entry c.requires.steady c.requires.passed c.in_default.ensures.0)

pub returns-in_default-small_of : goal.returns-in_default-small_of
returns-in_default-small_of c = refuses _ _ _ _ _ _ c.refused-in_default-small_of.ensures (omega arith) (pass_wide_id _ _ _ c.requires.entry c.requires.steady c.requires.passed c.in-Some.ensures.0 c.in_default-small_of.ensures)

pub returns-in_default-small_of-2 : goal.returns-in_default-small_of-2
returns-in_default-small_of-2 c = refuses _ _ _ _ _ _ c.refused-in_default-small_of-2.ensures (omega arith) (pass_wide _ _ _ c.requires.entry c.requires.steady c.requires.passed c.in-Some.ensures.0 c.in_default-small_of-2.ensures)

pub returns : goal.returns
returns c =
    pass_step _ _ _ c.requires.entry c.requires.steady c.requires.passed c.in-Some.ensures.0 _ _ _ c.in-Some-small_of.ensures c.in-Some-small_of-2.ensures c.in-Some.ensures.1 refl refl refl refl refl
    (where_ok _ _ c.is_err.ensures.value c.if-is_err.false c.keep.ensures) refl
