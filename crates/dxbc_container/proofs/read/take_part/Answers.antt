use Rattle.std.proofs.Common.{arith, rules}
use Rattle.dxbc_container.proofs.Firsts.{first_c4_offset}
use Rattle.dxbc_container.proofs.Tables.{refused_is, not_so, named_more, long_more, table_more, second, to_named, to_long}
use Rattle.dxbc_container.proofs.read.take_part.Goals as goal

pub returns-in_default : goal.returns-in_default
returns-in_default c = refused_is _ _ _ _ c.refused.ensures (first_c4_offset _ _ c.requires.fixed c.requires.before.placed _ c.requires.before.named (omega (arith, c.requires.count)) c.in_default.ensures)

pub returns-then-is_second : goal.returns-then-is_second
returns-then-is_second c =
    let s = c.is_second.ensures.0 c.if-is_second.true in
    refused_is _ _ _ _ c.refused-then-is_second.ensures
    (second _ _ _ c.requires.fixed c.requires.before.placed c.requires.before.named (omega (arith, c.requires.count)) c.in-Some.ensures.0 _ c.in-Some.ensures.1.name (c.is_dxil-named.ensures.0 s.0) s.1)

pub returns : goal.returns
returns c =
    let before = c.requires.before in
    let h = c.in-Some.ensures in
    let named = named_more _ _ _ _ _ before.named h.1.name c.is_dxil-named.ensures (not_so _ c.if-is_second.false c.is_second.ensures) in
    let long = long_more _ _ _ _ _ c.requires.size h.1 before.long in
    table_more _ _ _ _ c.in-Some.part before h.0 h.1 (search rules) (to_named _ _ _ _ c.dxil_with-table.ensures named) (to_long _ _ _ _ c.long_with-table.ensures long)
