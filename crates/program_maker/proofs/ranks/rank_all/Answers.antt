use Rattle.std.proofs.Common.{refl}
use Rattle.std.proofs.lemmas.Option.{slice_get-get_or}
use Rattle.program_maker.proofs.RankLaws.{ranking_none, ranking_more, ranking_whole}
use Rattle.program_maker.proofs.ranks.rank_all.Goals as goal

pub loop-entry-init : goal.loop-entry-init
loop-entry-init c = ranking_none _ _ _ c.requires.same_length

pub loop-entry-preserved : goal.loop-entry-preserved
loop-entry-preserved c = ranking_more c.args.named.now c.args.order.now c.loop-entry.entry-index c.loop-entry.count _ c.loop-entry.ranks _ _ c.requires.places c.loop-entry.invariant
    (slice_get-get_or c.args.order.now c.loop-entry.entry-index ((0, 0), 0) c.loop-entry-test.true) c.counted-count.ensures refl

pub returns : goal.returns
returns c = ranking_whole _ _ _ _ _ c.loop-entry.invariant c.loop-entry-test.false
