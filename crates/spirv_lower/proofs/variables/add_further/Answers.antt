use Rattle.spirv_code.specs.Further.{block_slots}
use Rattle.spirv_lower.proofs.Adding.{slots_next}
use Rattle.spirv_lower.proofs.variables.add_further.Goals as goal

pub loop-block-preserved : goal.loop-block-preserved
loop-block-preserved c =
    slots_next block_slots c.args.blocks.now c.loop-block.block-index c.block-item.result c.loop-block.slots.keys c.add_block.new.slots.keys _ c.loop-block-test.true c.block-item.is c.in_ok-add_block.ensures c.loop-block.invariant
