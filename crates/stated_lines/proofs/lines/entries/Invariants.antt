use Rattle.std.proofs.Common.{◌≡◌, map, take}
use Rattle.stated_program.specs.Instructions.{entry_of}
use Rattle.stated_lines.proofs.lines.entries.Given as goal

abbrev pub invariant-loop-pair : goal.invariant-loop-pair
invariant-loop-pair l = l.entries ≡ map (entry_of l.placed) (take l.pair-index l.pairs)
