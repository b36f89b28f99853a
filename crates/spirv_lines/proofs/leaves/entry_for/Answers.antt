use Rattle.std.proofs.Common.{Some, None}
use Rattle.spirv_lines.proofs.Taken.{taken}
use Rattle.spirv_lines.proofs.leaves.entry_for.Goals as goal

pub returns-in-Some : goal.returns-in-Some
returns-in-Some c =
    taken c.args.s.now.program.now.blocks c.args.s.now.entries.now c.args.k c.args.n c.args.from c.args.phi.now (Some c.in-Some.value) c.requires.entries.entries c.requires.stands c.in-Some.ensures

pub returns-in-None : goal.returns-in-None
returns-in-None c =
    taken c.args.s.now.program.now.blocks c.args.s.now.entries.now c.args.k c.args.n c.args.from c.args.phi.now None c.requires.entries.entries c.requires.stands c.in-None.ensures
