use Rattle.llvm_shader.proofs.Uniqueness.{refusal_unique}
use Rattle.llvm_shader.proofs.one_refusal.Goals as goal

pub returns : goal.returns
returns c = refusal_unique
