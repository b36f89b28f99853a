use Rattle.region_laws.proofs.Turning.{closed_passes_all as proved}
use Rattle.region_laws.proofs.closed_passes_all.Goals as goal

pub returns : goal.returns
returns c = proved
