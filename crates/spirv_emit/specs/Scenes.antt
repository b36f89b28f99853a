-- What the code of a scene needs to know.
use Rattle.spirv_code.specs.Plans.{Context, context_of}
use Rattle.spirv_table.specs.Tables.{plan_of}
use Rattle.spirv_emit.specs.declared.scene.Scene.{Scene}

abbrev pub context_in : Scene → Context
context_in s = context_of s.program.now (plan_of s.tables.now)
