use Rattle.dxbc_container.specs.Reading.{AreParts}
use Rattle.dxbc_container.proofs.read.read_table.Given as goal

abbrev pub invariant-loop-index : goal.invariant-loop-index
invariant-loop-index l = AreParts l.bytes l.index l.table
