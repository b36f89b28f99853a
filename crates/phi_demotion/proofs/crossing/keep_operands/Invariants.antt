use Rattle.std.proofs.Common.{◌≡◌, ◌++◌, take}
use Rattle.std.specs.List.{flat_map}
use Rattle.std.specs.BTreeSet as tree
use Rattle.phi_demotion.specs.Reads as stated
use Rattle.phi_demotion.proofs.crossing.keep_operands.Given as goal

abbrev pub invariant-loop-operand : goal.invariant-loop-operand
invariant-loop-operand l =
    l.reads ≡ l.initial.reads ++ flat_map (stated.unset (λ q. tree.contains stated.key_cmp l.settled q)) (take l.operand-index l.operand-items)
