use Rattle.bitstream_values.proofs.Parts.{one_of, one_large}
use Rattle.bitstream_values.proofs.values.take_one.Goals as goal

pub returns-in-Small : goal.returns-in-Small
returns-in-Small c = one_of _ _ _ _ _ _ _ _ _ c.in-Small.ensures c.add.ensures

pub returns-in-Large : goal.returns-in-Large
returns-in-Large c = one_large _ _ _ _ _ _ c.in-Large.ensures
