use Rattle.graph_laws.proofs.Public.{fold_reached as proved}
use Rattle.graph_laws.proofs.fold_keeps_reached.Goals as goal

pub returns : goal.returns
returns c = proved
