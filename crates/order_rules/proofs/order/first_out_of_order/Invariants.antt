use Rattle.std.proofs.Common.{◌≡◌, take, Some}
use Rattle.order_rules.specs.Order.{phase_behind}
use Rattle.order_rules.proofs.order.first_out_of_order.Given as goal

abbrev pub invariant-loop-at : goal.invariant-loop-at
invariant-loop-at l = phase_behind (take l.at l.insts) ≡ Some l.phase
