use Rattle.std.proofs.Common.{◌∙◌, ap, ◌++◌, ◌+◌, length, append_assoc}
use Rattle.std.proofs.lemmas.Result.{on_ok_weaker}
use Rattle.spirv_code.specs.Reads.{no_register}
use Rattle.spirv_code.specs.Accesses.{guard_code, test_id, test_size}
use Rattle.spirv_table.specs.Known.{env_of}
use Rattle.spirv_emit.specs.Scenes.{context_in}
use Rattle.spirv_emit.proofs.events.tested.Goals as goal

pub returns-clause-code : goal.returns-clause-code
returns-clause-code c =
    on_ok_weaker c.guard.result (λ e.
    e ∙ ap (λ env. c.test.new.code ++ guard_code (context_in c.args.s.now) env (length c.test.new.code) c.in_ok-id.id c.args.target c.args.addr c.args.part c.args.event) c.clear.ensures
    ∙ ap (λ n. c.test.new.code ++ guard_code (context_in c.args.s.now) no_register n c.in_ok-id.id c.args.target c.args.addr c.args.part c.args.event) c.in_ok-id.ensures.size
    ∙ ap (λ id. c.test.new.code ++ guard_code (context_in c.args.s.now) no_register (length c.args.code.now + test_size (context_in c.args.s.now) (env_of c.args.known.now) c.args.addr c.args.part) id c.args.target c.args.addr c.args.part c.args.event) c.in_ok-id.ensures.id
    ∙ ap (λ o. o ++ guard_code (context_in c.args.s.now) no_register (length c.args.code.now + test_size (context_in c.args.s.now) (env_of c.args.known.now) c.args.addr c.args.part) (test_id (context_in c.args.s.now) (env_of c.args.known.now) (length c.args.code.now) c.args.addr c.args.part) c.args.target c.args.addr c.args.part c.args.event) c.in_ok-id.ensures.code
    ∙ append_assoc c.args.code.now _ _) c.guard.ensures
