use Rattle.std.proofs.Common.{length}
use Rattle.spirv_frame.proofs.names.+push_text.Given as goal

abbrev pub decreases-push_text : goal.decreases-push_text
decreases-push_text l = length l.text.now
