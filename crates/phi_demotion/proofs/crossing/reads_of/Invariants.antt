use Rattle.std.proofs.Common.{◌≡◌, ◌++◌, take}
use Rattle.std.specs.List.{flat_map}
use Rattle.std.specs.BTreeSet as tree
use Rattle.phi_demotion.specs.Reads as stated
use Rattle.phi_demotion.proofs.crossing.reads_of.Given as goal

abbrev pub invariant-loop-block : goal.invariant-loop-block
invariant-loop-block l =
    l.reads ≡ flat_map stated.block_reads (take l.block-index l.block-items)
