use Rattle.llvm_shader.proofs.Uniqueness.{sound_no_refusal}
use Rattle.llvm_shader.proofs.sound_has_no_refusal.Goals as goal

pub returns : goal.returns
returns c = sound_no_refusal
