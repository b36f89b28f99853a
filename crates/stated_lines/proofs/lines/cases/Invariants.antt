use Rattle.std.proofs.Common.{◌≡◌, map, take}
use Rattle.stated_program.specs.Instructions.{case_of}
use Rattle.stated_lines.proofs.lines.cases.Given as goal

abbrev pub invariant-loop-pair : goal.invariant-loop-pair
invariant-loop-pair l = l.cases ≡ map (case_of l.placed) (take l.pair-index l.pairs)
