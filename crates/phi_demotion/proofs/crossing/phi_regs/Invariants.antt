use Rattle.std.proofs.Common.{◌≡◌, ℕ, take}
use Rattle.std.specs.BTreeSet as tree
use Rattle.phi_demotion.specs.Reads as stated
use Rattle.phi_demotion.proofs.crossing.phi_regs.Given as goal

abbrev pub invariant-loop-slot : goal.invariant-loop-slot
invariant-loop-slot l =
    (q : ℕ × ℕ) → tree.contains stated.key_cmp l.regs q ≡ stated.is_phi (take l.slot-index l.slot-items) q
