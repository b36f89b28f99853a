use Rattle.id_rules.proofs.BlockLaws.{IsCounting}
use Rattle.id_rules.proofs.blocks.labels_before.Given as goal

abbrev pub invariant-loop-inst : goal.invariant-loop-inst
invariant-loop-inst l = IsCounting l.insts l.inst-index l.before.items l.labels
