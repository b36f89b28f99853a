use Rattle.spirv_meaning.proofs.Sites.{sites_are_below, sites_begin as sites_begin_there, sites_rise}
use Rattle.spirv_meaning.proofs.laws.sites_begin.Goals as goal

pub returns : goal.returns
returns c = record { below = sites_are_below; begin = sites_begin_there; rise = sites_rise }
