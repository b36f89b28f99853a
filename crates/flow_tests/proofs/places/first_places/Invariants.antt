use Rattle.key_places.proofs.PlaceLaws.{ArePlaced}
use Rattle.flow_tests.proofs.places.first_places.Given as goal

abbrev pub invariant-loop-place : goal.invariant-loop-place
invariant-loop-place l = ArePlaced l.pairs.items l.place
