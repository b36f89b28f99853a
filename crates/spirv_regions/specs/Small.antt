-- Programs and lists of regions whose ids fit in a word.
use Rattle.std.specs.Prelude.{◌≤◌, ◌<◌, ◌^◌, List, length}
use Rattle.dxil_form.specs.declared.region.Region.{Region}
use Rattle.spirv_code.specs.Trees.{AreEarlier}
use Rattle.spirv_table.specs.Tables.{AreFew}
use Rattle.spirv_emit.specs.declared.scene.Scene.{Scene}
use Rattle.spirv_lines.specs.Entered.{HasEntries}

pub record IsSmall (s : Scene) (list : List Region) : Type 0 where
  pub few : AreFew s.tables.now
  pub blocks : length s.program.now.blocks < 2 ^ 32
  pub entries : HasEntries s
  pub regions : length list ≤ 0x0001_0000
  -- each region stands behind its parts
  pub earlier : AreEarlier list
