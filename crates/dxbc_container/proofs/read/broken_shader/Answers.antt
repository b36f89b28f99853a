use Rattle.std.proofs.Common.{ℕ, List, ◌≡◌, arith}
use Rattle.std.specs.Prelude.{codes}
use Rattle.dxbc_container.specs.Layout.{IsProgram, IsDxilVersion}
use Rattle.dxbc_container.proofs.Firsts.{first_c8_short, first_c8_program, first_c8_magic, first_c8_dxil, first_c9}
use Rattle.dxbc_container.proofs.Tables.{shader_is, not_at, so_at}
use Rattle.dxbc_container.proofs.read.broken_shader.Goals as goal

abbrev IsDxil : List ℕ → Type 0
IsDxil name = name ≡ codes "DXIL"

pub returns-then-part-lt24 : goal.returns-then-part-lt24
returns-then-part-lt24 c = shader_is _ _ _ _ _ c.breaks_at.ensures (first_c8_short _ _ (omega (arith, c.requires.data)))

pub returns-then-not-is_program : goal.returns-then-not-is_program
returns-then-not-is_program c =
    shader_is _ _ _ _ _ c.breaks_at-then-not-is_program.ensures (first_c8_program _ _ (omega (arith, c.requires.data)) (not_at IsProgram _ _ _ c.if-not-is_program.true c.is_program.ensures c.number-program.ensures))

pub returns-then-not-is_dxil : goal.returns-then-not-is_dxil
returns-then-not-is_dxil c =
    shader_is _ _ _ _ _ c.breaks_at-then-not-is_dxil.ensures
    (first_c8_magic _ _ (omega (arith, c.requires.data)) (so_at IsProgram _ _ _ c.if-not-is_program.false c.is_program.ensures c.number-program.ensures) (not_at IsDxil _ _ _ c.if-not-is_dxil.true c.is_dxil.ensures c.name_at.ensures))

pub returns-then-not-is_dxil_version : goal.returns-then-not-is_dxil_version
returns-then-not-is_dxil_version c =
    shader_is _ _ _ _ _ c.breaks_at-then-not-is_dxil_version.ensures
    (first_c8_dxil _ _ (omega (arith, c.requires.data)) (so_at IsProgram _ _ _ c.if-not-is_program.false c.is_program.ensures c.number-program.ensures) (so_at IsDxil _ _ _ c.if-not-is_dxil.false c.is_dxil.ensures c.name_at.ensures)
    (not_at IsDxilVersion _ _ _ c.if-not-is_dxil_version.true c.is_dxil_version.ensures c.number-dxil.ensures))

pub returns-then-offset-size : goal.returns-then-offset-size
returns-then-offset-size c =
    shader_is _ _ _ _ _ c.breaks_at-then-offset-size.ensures
    (first_c9 _ _ (omega (arith, c.requires.data)) (so_at IsProgram _ _ _ c.if-not-is_program.false c.is_program.ensures c.number-program.ensures) (so_at IsDxil _ _ _ c.if-not-is_dxil.false c.is_dxil.ensures c.name_at.ensures)
    (so_at IsDxilVersion _ _ _ c.if-not-is_dxil_version.false c.is_dxil_version.ensures c.number-dxil.ensures) (omega (arith, c.requires.data, c.number-offset.ensures, c.number-size.ensures)))
