use Rattle.std.specs.Ordering.{nat_cmp}
use Rattle.std.specs.BTreeSet as tree
use Rattle.llvm_facts.proofs.RowLaws.{asking_more, asking_ends}
use Rattle.llvm_facts.proofs.rows.rows_fault.Goals as goal

pub loop-row-preserved : goal.loop-row-preserved
loop-row-preserved c =
    asking_more c.args.lookup.now c.args.bit c.args.class c.args.rows.now c.loop-row.row-index (λ q. tree.contains nat_cmp c.loop-row.taken q) c.loop-row.least (λ q. tree.contains nat_cmp c.is_faulty.new.taken q) c.in_ok-fault.fault _ _
    c.loop-row.invariant c.loop-row-test.true c.in_ok-fault.ensures.was c.in_ok-fault.ensures.takes c.row_bit.ensures c.told-least.ensures

pub returns : goal.returns
returns c = asking_ends c.args.lookup.now c.args.bit c.args.class c.args.rows.now c.loop-row.row-index _ c.loop-row.least c.loop-row.invariant c.loop-row-test.false c.loop-row.auto.row-index-end
