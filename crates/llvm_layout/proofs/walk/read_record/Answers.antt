use Rattle.llvm_layout.proofs.Unique.{only_reading}
use Rattle.llvm_layout.proofs.walk.read_record.Goals as goal

pub returns-then-code-eq-CALL-clause-only : goal.returns-then-code-eq-CALL-clause-only
returns-then-code-eq-CALL-clause-only c = only_reading c.args.x c.args.fields.now c.args.code

pub returns-else-code-eq-CALL-clause-only : goal.returns-else-code-eq-CALL-clause-only
returns-else-code-eq-CALL-clause-only c = only_reading c.args.x c.args.fields.now c.args.code
