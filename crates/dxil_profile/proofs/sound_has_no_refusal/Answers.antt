use Rattle.dxil_profile.proofs.Answering.{sound_no_refusal}
use Rattle.dxil_profile.proofs.sound_has_no_refusal.Goals as goal

pub returns : goal.returns
returns c = sound_no_refusal
