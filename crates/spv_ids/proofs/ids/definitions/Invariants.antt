use Rattle.spv_ids.proofs.IdLaws.{AreDefinedBefore}
use Rattle.spv_ids.proofs.ids.definitions.Given as goal

abbrev pub invariant-loop-at : goal.invariant-loop-at
invariant-loop-at l = AreDefinedBefore l.insts l.at l.pairs.items
