use Rattle.std.proofs.Common.{◌++◌, length, ap, ◌∙◌}
use Rattle.spirv_code.proofs.Follows.{followed_more}
use Rattle.spirv_code.specs.Leaves.{block_env, edges_code, inner_code, next_blocks}
use Rattle.spirv_emit.specs.Scenes.{context_in}
use Rattle.spirv_lines.proofs.leaves.write_block.Goals as goal

pub returns-clause-code : goal.returns-clause-code
returns-clause-code c =
    let ctx = context_in c.args.s.now in
    let place = length c.args.code.now in
    let block = c.args.block.now in
    followed_more c.args.code.now c.write_inner.new.code c.write_edges.new.code (inner_code ctx place block) (λ p. edges_code ctx (block_env ctx place block) p c.args.from (next_blocks block.term)) c.in_ok-write_inner.ensures.code
    (c.in_ok-write_edges.ensures
    ∙ ap (λ env. c.write_inner.new.code ++ edges_code ctx env (length c.write_inner.new.code) c.args.from c.args.targets.now) c.in_ok-write_inner.ensures.env
    ∙ ap (λ ks. c.write_inner.new.code ++ edges_code ctx (block_env ctx place block) (length c.write_inner.new.code) c.args.from ks) c.requires.targets)
