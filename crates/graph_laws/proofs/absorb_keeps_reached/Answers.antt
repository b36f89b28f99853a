use Rattle.graph_laws.proofs.Public.{absorb_reached as proved}
use Rattle.graph_laws.proofs.absorb_keeps_reached.Goals as goal

pub returns : goal.returns
returns c = proved
