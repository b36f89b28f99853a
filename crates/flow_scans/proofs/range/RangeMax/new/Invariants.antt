use Rattle.std.proofs.Common.{length}
use Rattle.flow_scans.specs.Ranges.{AreMaxima, AreLevels}
use Rattle.flow_scans.proofs.range.RangeMax.new.Given as goal

abbrev pub invariant-loop-alloc : goal.invariant-loop-alloc
invariant-loop-alloc l = record {
  next : AreMaxima l.values.items l.width l.maxima.items;
  levels : AreLevels l.values.items l.levels.items;
}

abbrev pub decreases-loop-alloc : goal.decreases-loop-alloc
decreases-loop-alloc l = length l.maxima.items
