use Rattle.std.proofs.Common.{arith}
use Rattle.flow_rules.proofs.Deciding.{escapes_low, escapes_rest}
use Rattle.flow_rules.proofs.check.escapes.Goals as goal

pub returns-then-exceeds : goal.returns-then-exceeds
returns-then-exceeds c = λ of by.
    escapes_low c.args.blocks.now c.requires.small of by c.args.first c.args.end c.args.from c.args.to c.requires.some (omega arith) c.requires.within c.args.tables.now.lows c.args.tables.now.highs
    c.requires.tables.lows c.requires.tables.highs (c.exceeds.ensures.0 c.if-exceeds.true)

pub returns : goal.returns
returns c = λ of by.
    escapes_rest c.args.blocks.now c.requires.small of by c.args.first c.args.end c.args.from c.args.to c.requires.some (omega arith) c.requires.within c.args.tables.now.lows c.args.tables.now.highs
    c.requires.tables.lows c.requires.tables.highs c.exceeds.result c.exceeds-2.result c.exceeds.ensures c.exceeds-2.ensures c.if-exceeds.false
