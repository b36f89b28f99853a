use Rattle.std.proofs.Common.{◌∙◌}
use Rattle.dx_outside.proofs.Entries.{put_over, put_behind}
use Rattle.dx_outside.proofs.memory.put_entry.Goals as goal
use Rattle.dx_outside.proofs.memory.put_entry.Goals.{in-Ok, in-Err}

pub returns-in-Some-clause-ok : goal.returns-in-Some-clause-ok
returns-in-Some-clause-ok c = put_over c.args.name.now c.as_slice.ensures.value c.in-Some.ensures c.index_mut.ensures.value c.in_ok-bytes.ensures

pub returns-after-push-clause-ok : goal.returns-after-push-clause-ok
returns-after-push-clause-ok c = elim c.match-push.branch [
  | in-Ok w ↦ rw w.result-is (w.in-Ok.ensures.items ∙ put_behind c.args.name.now c.as_slice.ensures.value c.in-None.ensures (c.in_ok-name-in-None.ensures ∙ c.as_bytes.ensures.value) c.in_ok-bytes.ensures)
  | in-Err w ↦ rw w.result-is tt
]
