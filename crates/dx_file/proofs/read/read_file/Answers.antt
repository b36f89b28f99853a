use Rattle.dx_file.proofs.Answering.{container_fault, bitcode_fault, content_of, only_content}
use Rattle.dx_file.proofs.read.read_file.Goals as goal

pub returns-in-Err-clause-exact : goal.returns-in-Err-clause-exact
returns-in-Err-clause-exact c = container_fault _ _ c.in-Err.ensures.parts

pub returns-in-Ok-read_items-clause-exact : goal.returns-in-Ok-read_items-clause-exact
returns-in-Ok-read_items-clause-exact c = content_of _ _ c.in-Ok.ensures.parts.0 _ c.in-Ok-read_items.ensures.exact

pub returns-in-Ok-read_items-clause-only : goal.returns-in-Ok-read_items-clause-only
returns-in-Ok-read_items-clause-only c = only_content _ _ c.in-Ok.ensures.parts.0 _ c.in-Ok-read_items.ensures.exact

pub returns-in-Err-read_items-clause-exact : goal.returns-in-Err-read_items-clause-exact
returns-in-Err-read_items-clause-exact c = bitcode_fault _ _ c.in-Ok.ensures.parts.0 _ c.in-Err-read_items.ensures.exact
