use Rattle.site_form.proofs.Whole.{modules_have_sites}
use Rattle.site_form.proofs.module_has_sites.Goals as goal

pub returns : goal.returns
returns c = modules_have_sites
