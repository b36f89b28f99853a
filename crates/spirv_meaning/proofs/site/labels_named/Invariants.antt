use Rattle.spirv_meaning.specs.Names.{text_words}
use Rattle.spirv_meaning.specs.Sought.{Describes, NamedBelow}
use Rattle.spirv_meaning.proofs.site.labels_named.Given as goal

abbrev pub invariant-loop-inst : goal.invariant-loop-inst
invariant-loop-inst l = Describes (NamedBelow l.insts (text_words l.name) l.inst-index) l.sought
