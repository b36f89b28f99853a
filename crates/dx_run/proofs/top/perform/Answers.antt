use Rattle.std.proofs.Common.{refl, sym}
use Rattle.dx_run.proofs.Leaving.{usage_leaves}
use Rattle.dx_run.proofs.top.perform.Goals as goal

pub returns-in-Unknown-clause-leaves : goal.returns-in-Unknown-clause-leaves
returns-in-Unknown-clause-leaves g c =
    usage_leaves _ _ (g.F.Files.seen c.args.files.now) (g.S.Sink.seen c.args.out.now) (g.S.Sink.seen c.conclude.new.out) _ (sym c.in-Unknown.ensures) refl c.conclude.ensures.answer
