use Rattle.std.proofs.Common.{rules, ◌∙◌, arith}
use Rattle.dx_outside.proofs.Reading.{at_end, goes_on}
use Rattle.dx_outside.proofs.read.read_whole.Goals as goal

pub returns-in-Ok-eq0-clause-answer : goal.returns-in-Ok-eq0-clause-answer
returns-in-Ok-eq0-clause-answer g c =
    (c.pieces.invariant.read.short, at_end c.len-at.result c.in-Ok-eq0.field-0 c.pieces.invariant.read c.pieces.invariant.same c.len-at.ensures c.in-Ok-eq0.field-0-test c.in-Ok-eq0.ensures.bytes)

pub pieces-preserved : goal.pieces-preserved
pieces-preserved g c = record {
  read = goes_on c.len-at.result c.in-Ok.n c.read_at.new.into c.append.new.list c.pieces.invariant.read c.pieces.invariant.same c.len-at.ensures
      c.in-Ok.ensures.bytes c.in-Ok.ensures.bound c.if-n-at.false (search rules);
  same = c.read_at.ensures.same ∙ c.pieces.invariant.same;
  counts = record {
    reads = λ name. omega (arith, c.pieces.invariant.counts.reads name, c.read_at.ensures.counts.reads name);
    writes = λ name. omega (arith, c.pieces.invariant.counts.writes name, c.read_at.ensures.counts.writes name);
  };
}
