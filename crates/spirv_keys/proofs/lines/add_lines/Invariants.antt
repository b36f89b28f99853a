use Rattle.std.proofs.Common.{◌≡◌, drop}
use Rattle.spirv_code.specs.Needed.{add_all, lines_keys}
use Rattle.spirv_keys.proofs.lines.add_lines.Given as goal

abbrev pub invariant-loop-line : goal.invariant-loop-line
invariant-loop-line l =
    add_all l.p l.table.keys (lines_keys l.p (drop l.line-index l.lines)) ≡ add_all l.p l.initial.table.keys (lines_keys l.p l.lines)
