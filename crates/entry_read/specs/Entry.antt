-- The body of the entry function of a shader.
use Rattle.std.specs.Prelude.{[], slice_get, Option, Some, None}
use Rattle.llvm_types.specs.declared.kind.Types.{Types}
use Rattle.llvm_bodies.specs.declared.line.Body.{Body}
use Rattle.llvm_records.specs.declared.read.Records.{Records}
use Rattle.llvm_facts.specs.declared.facts.Facts.{Facts}
use Rattle.profile_tables.specs.EntryBody.{EntryBody}

abbrev pub body_of : Types → Records → Facts → Option Body → EntryBody
body_of types records facts None = record { pool = record { types = types.list; globals = records.globals; constants = [] }; values = 0; lines = []; blocks = 0; rows = facts.rows }
body_of types records facts (Some body) = record {
  pool = record { types = types.list; globals = records.globals; constants = body.constants };
  values = body.values;
  lines = body.lines;
  blocks = body.blocks;
  rows = facts.rows;
}

-- the body of the entry function, with the types and values of its module and the resources that the metadata declare
abbrev pub entry_body : Types → Records → Facts → EntryBody
entry_body types records facts = body_of types records facts (slice_get records.bodies facts.body)
