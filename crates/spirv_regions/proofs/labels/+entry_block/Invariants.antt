use Rattle.spirv_regions.proofs.labels.+entry_block.Given as goal

abbrev pub decreases-entry_block : goal.decreases-entry_block
decreases-entry_block l = l.place
