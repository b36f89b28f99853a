use Rattle.std.proofs.Common.{◌≡◌, ◌≤◌, ◌||◌, [], ℕ, take, length, fold}
use Rattle.std.specs.List.{list_any}
use Rattle.std.specs.BTreeSet as tree
use Rattle.phi_demotion.specs.Reads as stated
use Rattle.phi_demotion.proofs.crossing.crossing_slots.Given as goal

abbrev pub invariant-loop-read : goal.invariant-loop-read
invariant-loop-read l =
    record {
      few : length l.slots ≤ l.read-index;
      slots : l.slots ≡ fold (stated.with_read (stated.is_phi l.phis) l.first) [] (take l.read-index l.read-items);
      taken : (q : ℕ × ℕ) → tree.contains stated.key_cmp l.taken q ≡ (stated.is_phi l.phis q || list_any (λ s. stated.is_key (stated.key_of s.reg) q) l.slots);
    }
