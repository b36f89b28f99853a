use Rattle.std.proofs.Common.{arith}
use Rattle.dx_show.proofs.Digits.{on_ok, first_digit, last_digit}
use Rattle.dx_show.proofs.text.+push_number.Goals as goal

pub returns-then-number-lt10 : goal.returns-then-number-lt10
returns-then-number-lt10 t c = on_ok _ (first_digit c.args.text.now c.push.new.text c.args.number (omega arith)) c.push.ensures

pub returns : goal.returns
returns t c = on_ok _ (last_digit c.args.text.now c.push_number.new.text c.push-2.new.text c.args.number (omega arith) (omega arith) c.in_ok-push_number.ensures) c.push-2.ensures
