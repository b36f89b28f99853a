use Rattle.llvm_facts.proofs.RowLaws.{list_ends}
use Rattle.llvm_facts.proofs.rows.list_fault.Goals as goal

pub returns : goal.returns
returns c =
    list_ends c.args.lookup.now c.args.entry.now c.args.bit c.rows_at.result.now c.rows_at-2.result.now c.rows_at-3.result.now c.has_lists.result _ c.in_ok-srvs.srvs c.in_ok-uavs.uavs c.in_ok-cbvs.cbvs _ _ _ c.has_lists.ensures
    c.told-lists.ensures c.rows_at.ensures c.rows_at-2.ensures c.rows_at-3.ensures c.in_ok-srvs.ensures c.in_ok-uavs.ensures c.in_ok-cbvs.ensures c.least_of.ensures c.least_of-2.ensures c.least_of-3.ensures
