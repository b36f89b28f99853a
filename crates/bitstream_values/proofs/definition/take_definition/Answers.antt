use Rattle.bitstream_values.proofs.Written.{definition_of, large_definition, short_definition}
use Rattle.bitstream_values.proofs.definition.take_definition.Goals as goal

pub returns-in-Small : goal.returns-in-Small
returns-in-Small c = definition_of _ _ _ _ _ _ c.in-Small.ensures c.take_operands.ensures

pub returns-in-Large : goal.returns-in-Large
returns-in-Large c = large_definition _ _ c.requires c.in-Large.ensures

pub returns-in-Short : goal.returns-in-Short
returns-in-Short c = short_definition _ c.in-Short.ensures
