use Rattle.std.proofs.Common.{refl}
use Rattle.dx_run.specs.Commands.{translate}
use Rattle.dx_run.specs.Answers.{too_long, of_bytes}
use Rattle.dx_run.proofs.Leaving.{earlier, limited_leaves}
use Rattle.dx_run.proofs.top.translate_file.Goals as goal

pub returns-in-Ok-clause-leaves : goal.returns-in-Ok-clause-leaves
returns-in-Ok-clause-leaves g c = earlier (translate c.args.version c.args.from.now c.args.to.now) (g.F.Files.seen c.args.files.now) (g.F.Files.seen c.read_whole.new.files)
    (g.S.Sink.seen c.args.out.now) (g.F.Files.seen c.finish.new.files) (g.S.Sink.seen c.finish.new.out) c.read_whole.ensures.same c.read_whole.ensures.counts c.finish.result
    (c.finish.ensures.leaves.leaves (translate c.args.version c.args.from.now c.args.to.now) c.in-Read.bytes (rw c.read_whole.ensures.same c.in-Read.ensures.answer.1) refl
    (of_bytes c.in-Read.ensures.answer.0 ((rw c.as_slice.ensures at c.in-Ok.ensures).translated c.args.to.now)))

pub returns-in-TooLong-clause-leaves : goal.returns-in-TooLong-clause-leaves
returns-in-TooLong-clause-leaves g c = limited_leaves (translate c.args.version c.args.from.now c.args.to.now) c.args.from.now _ (g.F.Files.seen c.args.files.now) (g.F.Files.seen c.read_whole.new.files)
    (g.S.Sink.seen c.args.out.now) (g.S.Sink.seen c.conclude.new.out) c.conclude.result refl (λ bytes long. too_long long refl) refl c.read_whole.ensures.same c.in-TooLong.ensures.answer c.conclude.ensures.answer
