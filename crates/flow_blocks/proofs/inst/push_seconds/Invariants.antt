use Rattle.std.proofs.Common.{◌≡◌, ◌≤◌, ◌<◌, ◌+◌, ◌-◌, ◌++◌, length, drop, map}
use Rattle.flow_blocks.specs.Blocks.{every_second}
use Rattle.flow_blocks.specs.Passes.{number_in}
use Rattle.flow_blocks.proofs.inst.push_seconds.Given as goal

abbrev pub invariant-loop-at : goal.invariant-loop-at
invariant-loop-at l =
    (0 < l.at) × (l.at ≤ length l.words + 1)
    × (l.targets ++ map (number_in l.labels) (every_second (drop (l.at - 1) l.words)) ≡ l.fn.targets ++ map (number_in l.labels) (every_second l.words))

abbrev pub decreases-loop-at : goal.decreases-loop-at
decreases-loop-at l = length l.words + 1 - l.at
