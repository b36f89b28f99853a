use Rattle.std.proofs.Common.{◌≡◌, false, drop}
use Rattle.spirv_code.specs.Further.{add_slots, behind_lines, lines_slots}
use Rattle.spirv_lower.proofs.variables.add_lines.Given as goal

abbrev pub invariant-loop-line : goal.invariant-loop-line
invariant-loop-line l =
    (add_slots l.slots.keys (lines_slots l.behind (drop l.line-index l.lines)) ≡ add_slots l.initial.slots.keys (lines_slots false l.lines))
    × (behind_lines l.behind (drop l.line-index l.lines) ≡ behind_lines false l.lines)
