use Rattle.dxil_profile.proofs.Answering.{refusal_unique}
use Rattle.dxil_profile.proofs.one_refusal.Goals as goal

pub returns : goal.returns
returns c = refusal_unique
