use Rattle.std.proofs.Common.{arith, refl}
use Rattle.dx_bitstream.proofs.DefinitionLaws.{def_faulty, def_unnamed, def_wide, def_top, def_many, def_step}
use Rattle.dx_bitstream.proofs.Halting.{refuses, passes_fields}
use Rattle.dx_bitstream.proofs.PlaceLaws.{untrue, true_of, where_ok}
use Rattle.dx_bitstream.proofs.definition.keep_definition.Goals as goal

pub returns-then-not-may_end : goal.returns-then-not-may_end
returns-then-not-may_end c = refuses _ _ _ _ _ _ c.refused.ensures (omega arith) (def_faulty _ _ _ c.requires.definition c.requires.steady (untrue _ c.if-not-may_end.true c.may_end.ensures))

pub returns-then-is_unnamed : goal.returns-then-is_unnamed
returns-then-is_unnamed c = refuses _ _ _ _ _ _ c.refused-then-is_unnamed.ensures (omega arith) (def_unnamed _ _ _ c.requires.definition c.requires.steady (c.may_end.ensures.0 c.if-not-may_end.false) (true_of _ c.if-is_unnamed.true c.is_unnamed.ensures))

pub returns-then-found : goal.returns-then-found
returns-then-found c =
    refuses _ _ _ _ _ _ c.refused-then-found.ensures (omega arith)
    (def_wide _ _ _ c.requires.definition c.requires.steady (c.may_end.ensures.0 c.if-not-may_end.false) (untrue _ c.if-is_unnamed.false c.is_unnamed.ensures) c.if-found.true)

pub returns-then-is_empty : goal.returns-then-is_empty
returns-then-is_empty c =
    refuses _ _ _ _ _ _ c.refused-then-is_empty.ensures (omega arith)
    (def_top _ _ _ c.requires.definition c.requires.steady (c.may_end.ensures.0 c.if-not-may_end.false) (untrue _ c.if-is_unnamed.false c.is_unnamed.ensures) c.if-found.false (true_of _ c.if-is_empty.true c.is_empty.ensures))

pub returns-then-found-room : goal.returns-then-found-room
returns-then-found-room c =
    passes_fields _ _ _ _ _ c.limit.ensures
    (def_many _ _ _ c.requires.definition c.requires.steady (c.may_end.ensures.0 c.if-not-may_end.false) (untrue _ c.if-is_unnamed.false c.is_unnamed.ensures) c.if-found.false (untrue _ c.if-is_empty.false c.is_empty.ensures)
    (omega (arith, c.if-found-room.true, c.room.ensures)))

pub returns : goal.returns
returns c =
    def_step _ _ _ c.requires.definition c.requires.steady (c.may_end.ensures.0 c.if-not-may_end.false) (untrue _ c.if-is_unnamed.false c.is_unnamed.ensures) c.if-found.false _ _ (untrue _ c.if-is_empty.false c.is_empty.ensures)
    (λ h. absurd (omega (arith, c.if-found-room.false, c.room.ensures, h))) c.new-form.ensures (where_ok _ _ c.is_err.ensures.value c.if-is_err.false c.file.ensures) refl refl refl refl refl refl
