use Rattle.std.proofs.Common.{◌*◌, ◌<◌, ◌^◌, length, List, sym, subst, ap}
use Rattle.dxil_form.specs.declared.block.Block.{Block}
use Rattle.phi_demotion.specs.Slots.{phis_of}
use Rattle.phi_demotion.proofs.Counts.{phis_fit, phis_more}
use Rattle.phi_demotion.proofs.slots.phi_slots.Goals as goal

pub add_phis-requires : goal.add_phis-requires
add_phis-requires c =
    phis_fit c.as_slice-block-items.result.now c.loop-block.block-index c.block-item.result c.loop-block.slots (subst (λ (bs : List Block). 2 * length (phis_of bs) < 2 ^ 32) (sym c.as_slice-block-items.ensures) c.requires) c.loop-block-test.true c.block-item.is c.loop-block.invariant.counted

pub loop-block-preserved : goal.loop-block-preserved
loop-block-preserved c =
    phis_more c.as_slice-block-items.result.now c.loop-block.block-index c.block-item.result c.loop-block.slots c.add_phis.new.slots c.loop-block-test.true c.block-item.is c.loop-block.invariant.counted c.loop-block.invariant.slots c.in_ok-add_phis.ensures
