use Rattle.region_laws.proofs.Closing.{closed_is_wired as proved}
use Rattle.region_laws.proofs.closed_is_wired.Goals as goal

pub returns : goal.returns
returns c = proved
