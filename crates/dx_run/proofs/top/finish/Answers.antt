use Rattle.std.proofs.Common.{◌∙◌, ap, sym, Some}
use Rattle.dx_run.proofs.Leaving.{finished_none, finished_some}
use Rattle.dx_run.proofs.top.finish.Goals as goal

pub returns-in_default-clause-leaves : goal.returns-in_default-clause-leaves
returns-in_default-clause-leaves g c = finished_none _ _ _ _ _ _ c.in_default.is (rw c.as_slice.ensures at c.conclude.ensures.answer)

pub returns-in-Ok-clause-leaves : goal.returns-in-Ok-clause-leaves
returns-in-Ok-clause-leaves g c = finished_some _ _ c.as_slice-2.result.now _ _ _ _ _ (c.in-Some.is ∙ ap Some (sym c.as_slice-2.ensures)) c.in-Ok.ensures.whole (rw c.as_slice-in-Ok.ensures at c.conclude-in-Ok.ensures.answer)
