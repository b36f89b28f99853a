use Rattle.graph_laws.proofs.Public.{heads_by_walks as proved}
use Rattle.graph_laws.proofs.heads_by_walks.Goals as goal

pub returns : goal.returns
returns c = proved
