use Rattle.program_maker.proofs.RankLaws.{IsRanking}
use Rattle.program_maker.proofs.ranks.rank_all.Given as goal

abbrev pub invariant-loop-entry : goal.invariant-loop-entry
invariant-loop-entry l = IsRanking l.named l.order l.entry-index l.count l.ranks
