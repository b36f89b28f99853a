use Rattle.std.proofs.Common.{◌≡◌, map}
use Rattle.std.specs.List.{range_with_len}
use Rattle.program_maker.specs.Order.{keyed_at}
use Rattle.program_maker.proofs.order.keyed_rows.Given as goal

abbrev pub invariant-loop-place : goal.invariant-loop-place
invariant-loop-place l = l.keyed.items ≡ map (keyed_at l.rows) (range_with_len 0 l.place)
