use Rattle.spirv_file.proofs.Refusals.{refusal_unique}
use Rattle.spirv_file.proofs.one_refusal.Goals as goal

pub returns : goal.returns
returns c = refusal_unique
