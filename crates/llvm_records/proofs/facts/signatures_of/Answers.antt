use Rattle.std.proofs.Common.{arith}
use Rattle.llvm_records.proofs.FactLaws.{signatures_more}
use Rattle.llvm_records.proofs.facts.signatures_of.Goals as goal

pub loop-number-preserved : goal.loop-number-preserved
loop-number-preserved c = signatures_more _ _ _ _ _ c.loop-number.invariant (omega (arith, c.loop-number-test.true, c.len-number-end.ensures)) c.signature_of.ensures c.in-Ok.ensures.ok
