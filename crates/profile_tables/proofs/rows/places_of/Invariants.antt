use Rattle.std.proofs.Common.{◌≤◌, drop, length}
use Rattle.std.specs.Ordering.{nat_cmp}
use Rattle.std.specs.BTreeMap as tree
use Rattle.profile_tables.specs.Tables.{ArePlaces}
use Rattle.profile_tables.proofs.rows.places_of.Given as goal

abbrev pub invariant-loop-left : goal.invariant-loop-left
invariant-loop-left l = (l.left ≤ length l.rows) × ArePlaces (drop l.left l.rows) l.class l.left (tree.get nat_cmp l.map)

abbrev pub decreases-loop-left : goal.decreases-loop-left
decreases-loop-left l = l.left
