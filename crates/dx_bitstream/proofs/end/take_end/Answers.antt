use Rattle.std.proofs.Common.{arith, refl, sym, ap, ◌∙◌}
use Rattle.dx_base.specs.Cursor.{Cursor}
use Rattle.dx_bitstream.proofs.EndLaws.{end_short, end_top, end_length, end_step}
use Rattle.dx_bitstream.proofs.Halting.{refuses}
use Rattle.dx_bitstream.proofs.PlaceLaws.{untrue, where_ok}
use Rattle.dx_bitstream.proofs.end.take_end.Goals as goal

pub returns-in_default : goal.returns-in_default
returns-in_default c = refuses _ _ _ _ _ _ c.refused.ensures (omega arith) (end_short _ _ c.requires.id c.requires.steady c.in_default.ensures.0)

pub returns-in_default-pop : goal.returns-in_default-pop
returns-in_default-pop c = refuses _ _ _ _ _ _ c.refused-in_default-pop.ensures (omega arith) (end_top _ _ c.requires.id c.requires.steady c.in-Some.ensures.0 c.in_default-pop.ensures)

pub returns-then-not-is_full : goal.returns-then-not-is_full
returns-then-not-is_full c =
    let stands = c.at.ensures ∙ ap (λ (x : Cursor). x.place) c.in-Some.ensures.1 in
    refuses _ _ _ _ _ _ c.refused-then-not-is_full.ensures (omega arith)
    (end_length _ _ c.requires.id c.requires.steady _ _ c.in-Some.ensures.0 c.in-Some-pop.ensures (λ e. untrue _ c.if-not-is_full.true c.is_full.ensures (stands ∙ e)))

pub returns : goal.returns
returns c =
    let stands = c.at.ensures ∙ ap (λ (x : Cursor). x.place) c.in-Some.ensures.1 in
    end_step _ _ c.requires.id c.requires.steady _ _ _ c.in-Some.ensures.0 c.in-Some-pop.ensures (sym stands ∙ c.is_full.ensures.0 c.if-not-is_full.false) c.is_last-over.ensures c.in-Some.ensures.1 refl refl refl refl
    (where_ok _ _ c.is_err.ensures.value c.if-is_err.false c.keep.ensures) refl
