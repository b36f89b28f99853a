use Rattle.spirv_regions.proofs.labels.+entry_label.Given as goal

abbrev pub decreases-entry_label : goal.decreases-entry_label
decreases-entry_label l = l.place
