use Rattle.spirv_regions.proofs.splits.+chunks.Given as goal

abbrev pub decreases-chunks : goal.decreases-chunks
decreases-chunks l = l.n
