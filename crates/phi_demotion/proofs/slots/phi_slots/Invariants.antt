use Rattle.std.proofs.Common.{◌≡◌, [], take, length}
use Rattle.phi_demotion.specs.Slots.{phis_of, slots_of_phis}
use Rattle.phi_demotion.proofs.slots.phi_slots.Given as goal

abbrev pub invariant-loop-block : goal.invariant-loop-block
invariant-loop-block l =
    record {
      counted : length l.slots ≡ length (phis_of (take l.block-index l.block-items));
      slots : l.slots ≡ slots_of_phis [] (phis_of (take l.block-index l.block-items));
    }
