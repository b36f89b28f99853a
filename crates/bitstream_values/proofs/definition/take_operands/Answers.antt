use Rattle.bitstream_values.proofs.Written.{none_read, one_read, none_more}
use Rattle.bitstream_values.proofs.definition.take_operands.Goals as goal

pub loop-taken-init : goal.loop-taken-init
loop-taken-init c = none_read _ _ _ c.new-operands.ensures c.requires

pub returns-in_default : goal.returns-in_default
returns-in_default c = none_more _ _ _ _ _ _ _ _ c.loop-taken.invariant c.loop-taken-test.true c.in_default.ensures

pub loop-taken-preserved : goal.loop-taken-preserved
loop-taken-preserved c = one_read _ _ _ _ _ _ _ _ _ _ _ c.in-Some.given c.loop-taken.invariant c.in-Some.ensures c.either-wide.ensures c.form_with-form.ensures c.in-Ok.ensures
