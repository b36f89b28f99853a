use Rattle.dxil_profile.proofs.Answering.{program_unique}
use Rattle.dxil_profile.proofs.one_program.Goals as goal

pub returns : goal.returns
returns c = program_unique
