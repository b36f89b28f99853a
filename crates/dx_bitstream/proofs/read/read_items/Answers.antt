use Rattle.std.proofs.Common.{refl, arith}
use Rattle.dx_bitstream.proofs.FrontLaws.{magic_missing, come_first, exact_here, only_here, framed_here, fault_here, behind_of, magic_of}
use Rattle.dx_bitstream.proofs.read.read_items.Goals as goal

pub returns-then-not-has_magic-clause-exact : goal.returns-then-not-has_magic-clause-exact
returns-then-not-has_magic-clause-exact c = magic_missing _ _ _ _ _ _ c.new-cursor.ensures c.if-not-has_magic.true c.has_magic.ensures.test c.refused.ensures

pub read_all-requires : goal.read_all-requires
read_all-requires c =
    let behind = behind_of _ _ _ _ _ _ c.new-cursor.ensures c.if-not-has_magic.false c.has_magic.ensures.behind in
    let magic = magic_of _ _ _ _ _ c.new-cursor.ensures c.if-not-has_magic.false c.has_magic.ensures.test in
    come_first _ _ _ _ behind (rw c.new.ensures refl) c.new-2.ensures c.new-3.ensures refl refl c.new-4.ensures c.new-5.ensures magic (omega arith)

pub returns-in-Ok-clause-exact : goal.returns-in-Ok-clause-exact
returns-in-Ok-clause-exact c =
    let behind = behind_of _ _ _ _ _ _ c.new-cursor.ensures c.if-not-has_magic.false c.has_magic.ensures.behind in
    exact_here _ _ _ _ _ behind _ _ c.in-Ok.ensures

pub returns-in-Ok-clause-only : goal.returns-in-Ok-clause-only
returns-in-Ok-clause-only c =
    let behind = behind_of _ _ _ _ _ _ c.new-cursor.ensures c.if-not-has_magic.false c.has_magic.ensures.behind in
    only_here _ _ _ _ _ behind _ _ c.in-Ok.ensures

pub returns-in-Ok-clause-framed : goal.returns-in-Ok-clause-framed
returns-in-Ok-clause-framed c =
    let behind = behind_of _ _ _ _ _ _ c.new-cursor.ensures c.if-not-has_magic.false c.has_magic.ensures.behind in
    framed_here _ _ _ _ _ behind _ _ (omega arith) c.in-Ok.ensures

pub returns-in-Err-clause-exact : goal.returns-in-Err-clause-exact
returns-in-Err-clause-exact c =
    let behind = behind_of _ _ _ _ _ _ c.new-cursor.ensures c.if-not-has_magic.false c.has_magic.ensures.behind in
    fault_here _ _ _ _ _ behind _ c.in-Err.ensures
