use Rattle.std.proofs.Common.{◌≡◌, ◌+◌, take, length, fold}
use Rattle.phi_demotion.specs.Slots.{with_phi}
use Rattle.phi_demotion.proofs.slots.add_phis.Given as goal

abbrev pub invariant-loop-phi : goal.invariant-loop-phi
invariant-loop-phi l =
    record {
      counted : length l.slots ≡ length l.initial.slots + l.phi-index;
      slots : l.slots ≡ fold with_phi l.initial.slots (take l.phi-index l.phi-items);
    }
