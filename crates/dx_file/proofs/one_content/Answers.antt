use Rattle.dx_file.proofs.Answering.{content_unique}
use Rattle.dx_file.proofs.one_content.Goals as goal

pub returns : goal.returns
returns c = content_unique
