use Rattle.spirv_meaning.specs.Sought.{Describes, LabelBelow}
use Rattle.spirv_meaning.proofs.site.labels_of.Given as goal

abbrev pub invariant-loop-at : goal.invariant-loop-at
invariant-loop-at l = Describes (LabelBelow l.insts l.id l.at) l.sought
