use Rattle.graph_laws.proofs.Rewrites.{fold_keeps as proved}
use Rattle.graph_laws.proofs.fold_keeps_crossed.Goals as goal

pub returns : goal.returns
returns c = proved
