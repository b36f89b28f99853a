-- A scene that has what the phis of its program take.
use Rattle.std.specs.Prelude.{ℕ, Option, Some, None, slice_get}
use Rattle.dxil_form.specs.declared.block.Phi.{Phi}
use Rattle.dxil_form.specs.declared.block.Block.{Block}
use Rattle.phi_entries.specs.Entries.{AreEntries, ArePlaces}
use Rattle.spirv_emit.specs.declared.scene.Scene.{Scene}

-- the n-th phi of a block
abbrev pub phi_at : Option Block → ℕ → Option Phi
phi_at None n = None
phi_at (Some block) n = slice_get block.phis n

pub record HasEntries (s : Scene) : Type 0 where
  pub places : ArePlaces s.program.now.blocks
  pub entries : AreEntries s.program.now.blocks s.entries.now
