-- Programs and lists of regions whose counts fit in words.
use Rattle.std.specs.Prelude.{◌≤◌, List, length}
use Rattle.dxil_form.specs.declared.program.Program.{Program}
use Rattle.dxil_form.specs.declared.region.Region.{Region}
use Rattle.phi_entries.specs.Entries.{ArePlaces}
use Rattle.spirv_code.specs.Trees.{AreEarlier}
use Rattle.spirv_code.specs.Needed.{AreWords}

-- the counts of a program and of its regions fit in words, and each region stands behind its parts
pub record AreCounted (p : Program) (list : List Region) : Type 0 where
  pub words : AreWords p
  pub places : ArePlaces p.blocks
  pub regions : length list ≤ 0x0001_0000
  pub earlier : AreEarlier list
