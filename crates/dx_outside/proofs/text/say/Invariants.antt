use Rattle.std.proofs.Common.{◌≡◌, ◌-◌, ◌≤◌, length, take}
use Rattle.dx_outside.specs.Outside.{with_more, SinkNeverFell}
use Rattle.dx_outside.proofs.text.say.Given as goal

abbrev pub invariant-loop-said : goal.invariant-loop-said
invariant-loop-said g l = record {
  within : l.said ≤ length l.text;
  taken : (g.S.Sink.seen l.out).taken ≡ with_more (g.S.Sink.seen l.fn.out).taken (take l.said l.text);
  counts : SinkNeverFell (g.S.Sink.seen l.fn.out) (g.S.Sink.seen l.out);
}

abbrev pub decreases-loop-said : goal.decreases-loop-said
decreases-loop-said g l = length l.text - l.said
