use Rattle.dxbc_container.proofs.Tables.{refused_is, no_dxil, parts_failed, carried}
use Rattle.dxbc_container.proofs.read.parts_of.Goals as goal

pub returns-in_default : goal.returns-in_default
returns-in_default c = no_dxil _ _ _ _ c.requires.fixed c.requires.parts c.in_default.is c.requires.count c.refused.ensures

pub returns-in-Some-earlier : goal.returns-in-Some-earlier
returns-in-Some-earlier c = refused_is _ _ _ _ c.refused-in-Some-earlier.ensures
    (parts_failed _ _ _ _ _ c.requires.fixed c.requires.parts c.in-Some.is c.part_of-part.ensures c.broken_shader.ensures _ c.in-Some-earlier.ensures)

pub returns-in-None : goal.returns-in-None
returns-in-None c =
    carried _ _ _ _ _ c.requires.fixed c.requires.parts c.in-Some.is c.part_of-part.ensures c.broken_shader.ensures c.in-None.ensures _ _ c.bitcode_of-from.ensures.from c.bitcode_of-from.ensures.to
