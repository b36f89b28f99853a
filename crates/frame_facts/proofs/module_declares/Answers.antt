use Rattle.frame_facts.proofs.Declares.{declares}
use Rattle.frame_facts.proofs.module_declares.Goals as goal

pub returns : goal.returns
returns c = declares
