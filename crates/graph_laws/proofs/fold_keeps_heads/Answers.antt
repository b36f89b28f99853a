use Rattle.graph_laws.proofs.Public.{fold_heads as proved}
use Rattle.graph_laws.proofs.fold_keeps_heads.Goals as goal

pub returns : goal.returns
returns c = proved
