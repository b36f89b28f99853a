use Rattle.std.proofs.Common.{◌≡◌, take}
use Rattle.region_builder.specs.Absorbing.{arms_of}
use Rattle.region_builder.proofs.builder.arms_for.Given as goal

abbrev pub invariant-loop-j : goal.invariant-loop-j
invariant-loop-j l = l.arms ≡ arms_of l.blocks l.places (take l.j-index l.nodes)
