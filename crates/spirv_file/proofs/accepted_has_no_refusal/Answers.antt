use Rattle.spirv_file.proofs.Refusals.{accepted_sound}
use Rattle.spirv_file.proofs.accepted_has_no_refusal.Goals as goal

pub returns : goal.returns
returns c = accepted_sound
