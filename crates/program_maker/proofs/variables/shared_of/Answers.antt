use Rattle.std.proofs.Common.{refl}
use Rattle.program_maker.proofs.MarkLaws.{words_next}
use Rattle.program_maker.proofs.variables.shared_of.Goals as goal

pub loop-variable-preserved : goal.loop-variable-preserved
loop-variable-preserved c = words_next c.args.pool.now c.args.named.now c.loop-variable.variable _ c.loop-variable.shared _ c.loop-variable.invariant refl c.in_ok-add_words.ensures
