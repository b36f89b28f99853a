use Rattle.std.proofs.Common.{arith, ℕ, List, ◌≡◌, ◌++◌, ◌∷◌, [], ◌<◌, ◌+◌, ◌*◌, ◌-◌, subst, sym, get_or}
use Rattle.std.proofs.lemmas.Grind.{common_steps}
use Rattle.flow_scans.specs.Ranges.{IsMost}
use Rattle.flow_scans.proofs.Chunks.{chunks_more, most_of_part}
use Rattle.flow_scans.proofs.range.chunk_maxima.Goals as goal

pub loop-i-preserved : goal.loop-i-preserved
loop-i-preserved c =
    let most = c.greatest-most.result in
    let i = c.loop-i.i in
    let pushed : c.push.new.self.items ≡ c.loop-i.maxima.items ++ most ∷ [] = grind (arith, common_steps) in
    let new : IsMost c.args.numbers.now (i * 16) 16 most = most_of_part c.args.numbers.now (i * 16) (i * 16 + 16 - i * 16) 16 most (omega arith) (omega (arith, c.loop-i-test.true)) c.greatest-most.ensures in
    record {
      count = grind (arith, common_steps);
      each = subst (λ (items : List ℕ). (k : ℕ) → k < i + 1 → IsMost c.args.numbers.now (k * 16) 16 (get_or items k 0)) (sym pushed)
          (chunks_more c.args.numbers.now c.loop-i.maxima.items i most c.loop-i.invariant.count c.loop-i.invariant.each new);
    }
