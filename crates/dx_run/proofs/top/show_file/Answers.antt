use Rattle.std.proofs.Common.{refl}
use Rattle.dx_run.specs.Commands.{show}
use Rattle.dx_run.specs.Answers.{too_long}
use Rattle.dx_run.proofs.Leaving.{limited_leaves, listed_leaves}
use Rattle.dx_run.proofs.top.show_file.Goals as goal

pub returns-in-Ok-clause-leaves : goal.returns-in-Ok-clause-leaves
returns-in-Ok-clause-leaves g c = listed_leaves c.args.from.now c.in-Read.bytes c.in-Ok.output (g.F.Files.seen c.args.files.now) (g.F.Files.seen c.read_whole.new.files) (g.S.Sink.seen c.args.out.now) (g.S.Sink.seen c.conclude.new.out)
    c.conclude.result c.read_whole.ensures.same c.in-Read.ensures.answer.1 c.in-Read.ensures.answer.0 (rw c.as_slice.ensures at c.in-Ok.ensures) (rw c.as_slice-in-Ok.ensures at c.conclude.ensures.answer)

pub returns-in-TooLong-clause-leaves : goal.returns-in-TooLong-clause-leaves
returns-in-TooLong-clause-leaves g c = limited_leaves (show c.args.from.now) c.args.from.now _ (g.F.Files.seen c.args.files.now) (g.F.Files.seen c.read_whole.new.files)
    (g.S.Sink.seen c.args.out.now) (g.S.Sink.seen c.conclude-in-TooLong.new.out) c.conclude-in-TooLong.result refl (λ bytes long. too_long long refl) refl c.read_whole.ensures.same c.in-TooLong.ensures.answer c.conclude-in-TooLong.ensures.answer
