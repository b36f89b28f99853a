use Rattle.spirv_regions.proofs.labels.+leaf_at.Given as goal

abbrev pub decreases-leaf_at : goal.decreases-leaf_at
decreases-leaf_at l = l.place
