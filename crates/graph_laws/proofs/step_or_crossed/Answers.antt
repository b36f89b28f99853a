use Rattle.graph_laws.proofs.Public.{step_or_crossed as proved}
use Rattle.graph_laws.proofs.step_or_crossed.Goals as goal

pub returns : goal.returns
returns c = proved
