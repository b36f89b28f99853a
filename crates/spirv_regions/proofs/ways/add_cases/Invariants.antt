use Rattle.std.proofs.Common.{◌≡◌, ◌+◌, ◌≤◌, drop, length, map}
use Rattle.spirv_code.specs.Leaves.{add_new}
use Rattle.spirv_regions.proofs.ways.add_cases.Given as goal

abbrev pub invariant-loop-arm : goal.invariant-loop-arm
invariant-loop-arm l =
    (add_new l.blocks.keys (map (λ arm. arm.1) (drop l.arm-index l.cases)) ≡ add_new l.initial.blocks.keys (map (λ arm. arm.1) l.cases))
    × (length l.blocks.keys ≤ length l.initial.blocks.keys + l.arm-index)
