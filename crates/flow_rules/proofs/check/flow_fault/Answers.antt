use Rattle.flow_rules.proofs.Firsts.{sound_all}
use Rattle.flow_rules.proofs.check.flow_fault.Goals as goal

pub returns : goal.returns
returns c = sound_all c.args.blocks.now c.loop-p.p c.loop-p-test.false c.loop-p.invariant
