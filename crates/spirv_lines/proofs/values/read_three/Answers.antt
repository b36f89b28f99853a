use Rattle.std.proofs.Common.{◌++◌, ◌+◌, length, ap, ◌∙◌, append_assoc}
use Rattle.spirv_code.specs.Reads.{read_code, read_size, two_code}
use Rattle.spirv_table.specs.Known.{env_of}
use Rattle.spirv_emit.specs.Scenes.{context_in}
use Rattle.spirv_lines.proofs.values.read_three.Goals as goal

pub returns-clause-code : goal.returns-clause-code
returns-clause-code c =
    let ctx = context_in c.args.s.now in
    let env = env_of c.args.known.now in
    let place = length c.args.code.now in
    c.in_ok-second.ensures.code
    ∙ ap (λ n. c.read.new.code ++ two_code ctx env n c.args.a c.args.b) c.in_ok-first.ensures.size
    ∙ ap (λ o. o ++ two_code ctx env (place + read_size ctx env c.args.x) c.args.a c.args.b) c.in_ok-first.ensures.code
    ∙ append_assoc c.args.code.now (read_code ctx env place c.args.x) (two_code ctx env (place + read_size ctx env c.args.x) c.args.a c.args.b)
