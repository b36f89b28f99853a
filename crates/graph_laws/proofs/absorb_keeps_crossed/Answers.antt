use Rattle.graph_laws.proofs.Rewrites.{absorb_keeps as proved}
use Rattle.graph_laws.proofs.absorb_keeps_crossed.Goals as goal

pub returns : goal.returns
returns c = proved
