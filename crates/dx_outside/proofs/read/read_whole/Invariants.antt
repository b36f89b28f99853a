use Rattle.std.proofs.Common.{◌≡◌, ◌+◌, ◌-◌, ◌^◌, length}
use Rattle.dx_outside.specs.Outside.{FilesNeverFell}
use Rattle.dx_outside.proofs.Reading.{IsReadSoFar}
use Rattle.dx_outside.proofs.read.read_whole.Given as goal

abbrev pub invariant-pieces : goal.invariant-pieces
invariant-pieces g l = record {
  read : IsReadSoFar (g.F.Files.seen l.fn.files).store l.name l.bytes;
  same : (g.F.Files.seen l.files).store ≡ (g.F.Files.seen l.fn.files).store;
  counts : FilesNeverFell (g.F.Files.seen l.fn.files) (g.F.Files.seen l.files);
}

abbrev pub decreases-pieces : goal.decreases-pieces
decreases-pieces g l = 2 ^ 26 + 1 - length l.bytes
