use Rattle.std.proofs.Common.{◌≡◌, ◌++◌, take}
use Rattle.std.specs.List.{flat_map}
use Rattle.std.specs.BTreeSet as tree
use Rattle.phi_demotion.specs.Reads as stated
use Rattle.phi_demotion.proofs.crossing.keep_entries.Given as goal

abbrev pub invariant-loop-entry : goal.invariant-loop-entry
invariant-loop-entry l =
    l.reads ≡ l.initial.reads ++ flat_map (λ e. stated.named e.value) (take l.entry-index l.entry-items)
