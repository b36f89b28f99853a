use Rattle.dx_file.proofs.Answering.{content_sound}
use Rattle.dx_file.proofs.content_has_no_refusal.Goals as goal

pub returns : goal.returns
returns c = content_sound
