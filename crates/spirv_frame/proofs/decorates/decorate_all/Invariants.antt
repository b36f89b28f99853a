use Rattle.std.proofs.Common.{◌≡◌, ◌++◌, ◌+◌, drop, map}
use Rattle.resource_map.specs.Pairs.{pair_of}
use Rattle.spirv_code.specs.Frame.{decorations}
use Rattle.spirv_frame.proofs.decorates.decorate_all.Given as goal

abbrev pub invariant-loop-i : goal.invariant-loop-i
invariant-loop-i l =
    l.code ++ decorations l.s.program.now (map pair_of l.bindings) (l.from + l.i) (drop l.i l.s.tables.now.table.keys) ≡ l.initial.code ++ decorations l.s.program.now (map pair_of l.bindings) l.from l.s.tables.now.table.keys
