use Rattle.graph_laws.proofs.Public.{absorb_heads as proved}
use Rattle.graph_laws.proofs.absorb_keeps_heads.Goals as goal

pub returns : goal.returns
returns c = proved
