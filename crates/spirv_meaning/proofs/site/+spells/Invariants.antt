use Rattle.std.proofs.Common.{length}
use Rattle.spirv_meaning.proofs.site.+spells.Given as goal

abbrev pub decreases-spells : goal.decreases-spells
decreases-spells l = length l.text.now
