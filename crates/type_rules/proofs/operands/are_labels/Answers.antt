use Rattle.std.proofs.Common.{sym, arith}
use Rattle.std.proofs.lemmas.Grind.{common_steps}
use Rattle.type_rules.specs.Values.{is_label}
use Rattle.type_rules.proofs.PairLaws.{seconds_pass, second_fails}
use Rattle.type_rules.proofs.operands.are_labels.Goals as goal

pub returns-then-not-is_label : goal.returns-then-not-is_label
returns-then-not-is_label c = sym (second_fails (is_label c.args.ids.now) c.args.pairs.now c.loop-at.at (omega arith) (grind arith) (grind (arith, common_steps)))

pub returns : goal.returns
returns c = sym (seconds_pass (is_label c.args.ids.now) c.args.pairs.now (λ k below odd. c.loop-at.invariant k (omega arith) odd))
