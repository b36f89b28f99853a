use Rattle.graph_laws.proofs.Public.{fold_ends as proved}
use Rattle.graph_laws.proofs.fold_ends_head.Goals as goal

pub returns : goal.returns
returns c = proved
