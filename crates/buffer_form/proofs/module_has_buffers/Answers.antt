use Rattle.buffer_form.proofs.Whole.{modules_have_buffers}
use Rattle.buffer_form.proofs.module_has_buffers.Goals as goal

pub returns : goal.returns
returns c = modules_have_buffers
