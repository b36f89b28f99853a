use Rattle.std.proofs.Common.{arith}
use Rattle.std.proofs.lemmas.Result.{on_ok_weaker}
use Rattle.spirv_emit.specs.Scenes.{context_in}
use Rattle.spirv_regions.proofs.Selections.{chunks_written}
use Rattle.spirv_regions.proofs.splits.+chunks.Goals as goal

pub returns : goal.returns
returns t c =
    on_ok_weaker c.chunks.result (λ e. chunks_written (context_in c.args.s.now) c.args.code.now c.chunk.new.code c.chunks.new.code c.args.n c.args.cases.now c.split_front.result.0.now c.split_front.result.1.now (omega arith) c.split_front.ensures.front c.split_front.ensures.rest c.in_ok-chunk.ensures e) c.chunks.ensures
