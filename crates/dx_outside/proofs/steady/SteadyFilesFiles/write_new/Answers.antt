use Rattle.std.proofs.Common.{rules}
use Rattle.dx_outside.proofs.Entries.{put-steady}
use Rattle.dx_outside.proofs.steady.SteadyFilesFiles.write_new.Goals as goal

pub returns-in-Ok-clause-whole : goal.returns-in-Ok-clause-whole
returns-in-Ok-clause-whole c = put-steady _ _ c.args.name.now c.args.bytes.now (search rules)
