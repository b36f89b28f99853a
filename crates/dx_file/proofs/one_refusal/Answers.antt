use Rattle.dx_file.proofs.Answering.{refusal_unique}
use Rattle.dx_file.proofs.one_refusal.Goals as goal

pub returns : goal.returns
returns c = refusal_unique
