use Rattle.llvm_shader.proofs.Uniqueness.{shader_unique}
use Rattle.llvm_shader.proofs.one_shader.Goals as goal

pub returns : goal.returns
returns c = shader_unique
