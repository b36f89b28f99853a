use Rattle.dxbc_container.proofs.Tables.{container_failed, container_of, lies_in}
use Rattle.dxbc_container.proofs.read.read_container.Goals as goal

pub returns-in-Err-clause-parts : goal.returns-in-Err-clause-parts
returns-in-Err-clause-parts c = container_failed _ _ c.in-Err.ensures

pub returns-in-Ok-read_table-clause-parts : goal.returns-in-Ok-read_table-clause-parts
returns-in-Ok-read_table-clause-parts c = container_of _ _ c.parts_of.ensures

pub returns-in-Ok-read_table-clause-range : goal.returns-in-Ok-read_table-clause-range
returns-in-Ok-read_table-clause-range c = lies_in _ _ c.parts_of.ensures

pub returns-in-Err-read_table-clause-parts : goal.returns-in-Err-read_table-clause-parts
returns-in-Err-read_table-clause-parts c = container_failed _ _ c.in-Err-read_table.ensures
