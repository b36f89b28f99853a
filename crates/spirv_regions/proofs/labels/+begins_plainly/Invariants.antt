use Rattle.spirv_regions.proofs.labels.+begins_plainly.Given as goal

abbrev pub decreases-begins_plainly : goal.decreases-begins_plainly
decreases-begins_plainly l = l.place
