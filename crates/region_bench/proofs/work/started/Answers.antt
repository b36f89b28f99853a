use Rattle.std.proofs.Common.{arith}
use Rattle.region_leaves.proofs.Rooted.{few_blocks}
use Rattle.region_bench.proofs.work.started.Goals as goal

pub start-requires-clause-few : goal.start-requires-clause-few
start-requires-clause-few c blocks are =
    let f = few_blocks c.args.p.now c.requires.sound blocks are in
    let m = c.requires.few in omega arith
