use Rattle.std.proofs.Common.{◌≡◌, ◌++◌, take}
use Rattle.llvm_facts.specs.Rows.{rows_of}
use Rattle.llvm_facts.proofs.rows.add_rows.Given as goal

abbrev pub invariant-loop-row : goal.invariant-loop-row
invariant-loop-row l = l.list ≡ l.initial.list ++ rows_of l.lookup l.class (take l.row-index l.rows)
