use Rattle.std.proofs.Common.{arith, refl}
use Rattle.flow_rules.specs.Flow.StructuralEdge.{by_merge}
use Rattle.flow_rules.proofs.Deciding.{outside_low, outside_high, leaves_before, leaves_tell, true_tells, false_tells}
use Rattle.flow_rules.proofs.check.leaves_continue.Goals as goal

pub returns-then-back-continue_target : goal.returns-then-back-continue_target
returns-then-back-continue_target c =
    outside_low c.args.blocks.now c.requires.small c.args.p c.args.continue_target c.args.back c.args.merge c.requires.loops c.requires.some c.requires.sole c.if-back-continue_target.true

pub returns-then-end-back : goal.returns-then-end-back
returns-then-end-back c =
    outside_high c.args.blocks.now c.requires.small c.args.p c.args.continue_target c.args.back c.args.merge c.requires.loops c.requires.some c.requires.sole c.if-end-back.true

pub returns-then-escapes : goal.returns-then-escapes
returns-then-escapes c =
    leaves_before c.args.blocks.now c.requires.small c.args.p c.args.continue_target c.args.back c.args.merge c.requires.loops c.requires.some c.requires.sole c.if-back-continue_target.false c.if-end-back.false
    (true_tells _ c.escapes.result (c.escapes.ensures c.args.p c.args.merge) c.if-escapes.true)

pub escapes-requires-2-clause-within : goal.escapes-requires-2-clause-within
escapes-requires-2-clause-within c =
    let below = c.requires.numbered.targets c.args.p c.args.merge.merge_block (by_merge c.args.merge c.requires.loops.header refl) in
    omega arith

pub returns : goal.returns
returns c =
    leaves_tell c.args.blocks.now c.requires.small c.args.p c.args.continue_target c.args.back c.args.merge c.requires.loops c.requires.some c.requires.sole c.if-back-continue_target.false c.if-end-back.false c.escapes-2.result
    (false_tells _ c.escapes.result (c.escapes.ensures c.args.p c.args.merge) c.if-escapes.false) (c.escapes-2.ensures c.args.p c.args.merge)
