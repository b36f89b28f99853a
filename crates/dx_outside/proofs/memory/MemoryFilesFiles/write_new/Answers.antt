use Rattle.std.proofs.Common.{rules}
use Rattle.dx_outside.proofs.Entries.{put-whole}
use Rattle.dx_outside.proofs.memory.MemoryFilesFiles.write_new.Goals as goal

pub returns-in-Ok-clause-whole : goal.returns-in-Ok-clause-whole
returns-in-Ok-clause-whole c = put-whole _ _ c.args.name.now c.args.bytes.now (search rules)
