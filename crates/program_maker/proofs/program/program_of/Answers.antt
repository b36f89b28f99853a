use Rattle.program_maker.proofs.TableLaws.{small_words, slice_places, slice_few, slice_placed, placed_fit, same_shared, same_resources, same_blocks, same_program}
use Rattle.program_maker.proofs.program.program_of.Goals as goal

pub shared_of-requires-clause-small : goal.shared_of-requires-clause-small
shared_of-requires-clause-small c = small_words c.args.scope.now c.args.counts c.requires.read c.requires.sound _ _ _ c.in_ok-variables.ensures c.as_slice.ensures.value c.pool-2.ensures

pub ranks_of-requires-clause-places : goal.ranks_of-requires-clause-places
ranks_of-requires-clause-places c = slice_places c.args.scope.now c.args.counts c.requires.read c.requires.sound _ _ c.in_ok-order.ensures c.rows.ensures _ c.in_ok-rows.ensures _ _ c.as_slice-6.ensures.value c.as_slice-5.ensures.value

pub ranks_of-requires-clause-few : goal.ranks_of-requires-clause-few
ranks_of-requires-clause-few c = slice_few c.args.scope.now c.args.counts c.requires.read c.requires.sound _ _ c.in_ok-order.ensures c.rows.ensures _ c.in_ok-rows.ensures _ _ c.as_slice-6.ensures.value c.as_slice-5.ensures.value

pub new-placed-requires : goal.new-placed-requires
new-placed-requires c = slice_placed c.args.scope.now c.args.counts c.requires.read c.requires.sound _ _ c.in_ok-order.ensures c.rows.ensures _ c.in_ok-rows.ensures _ _ _ _ _ _ c.as_slice-6.ensures.value c.as_slice-5.ensures.value
    c.in_ok-variables.ensures c.as_slice-2.ensures.value c.in_ok-ranks.ensures c.in_ok-arrays.ensures

pub blocks_of-requires-clause-fit : goal.blocks_of-requires-clause-fit
blocks_of-requires-clause-fit c = placed_fit c.args.scope.now c.args.counts c.requires.read c.requires.sound _ c.new-placed.ensures

pub returns : goal.returns
returns c =
    let made = same_resources c.args.scope.now c.args.counts c.requires.read c.requires.sound _ _ c.in_ok-order.ensures c.rows.ensures _ c.in_ok-rows.ensures _ _ _ _ c.rows-2.ensures c.as_slice-4.ensures.value c.as_slice-3.ensures.value c.in_ok-resources.ensures in
    let words = same_shared c.args.scope.now c.args.counts c.requires.read c.requires.sound _ _ _ _ c.in_ok-variables.ensures c.as_slice.ensures.value c.pool-2.ensures c.in_ok-shared.ensures in
    let blocks = same_blocks c.args.scope.now c.args.counts c.requires.read c.requires.sound _ _ c.new-placed.ensures c.in_ok-blocks.ensures in
    same_program c.args.scope.now c.args.counts c.requires.read c.requires.sound _ _ _ made words blocks
