use Rattle.std.specs.Ordering.{nat_cmp}
use Rattle.std.specs.BTreeSet as tree
use Rattle.llvm_facts.proofs.RowLaws.{IsAsking}
use Rattle.llvm_facts.proofs.rows.rows_fault.Given as goal

abbrev pub invariant-loop-row : goal.invariant-loop-row
invariant-loop-row l = IsAsking l.lookup l.bit l.class l.rows l.row-index (λ q. tree.contains nat_cmp l.taken q) l.least
