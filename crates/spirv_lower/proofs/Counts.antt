-- The counts of a program and of its regions fit in words.
use Rattle.std.proofs.Common.{◌<◌, ◌^◌, List, [], ◌∷◌, length, arith}
use Rattle.std.specs.Prelude.{All}
use Rattle.std.proofs.lemmas.List.Elements.{All-cons, All-nil}
use Rattle.dxil_form.specs.declared.program.Program.{Program}
use Rattle.dxil_form.specs.declared.region.Region.{Region}
use Rattle.dxil_form.specs.declared.block.Block.{Block}
use Rattle.dxil_form.specs.Sound.{Sound, lines_of}
use Rattle.phi_entries.specs.Entries.{AreEntries, ArePlaces}
use Rattle.dxil_form.specs.Wired.{Wired}
use Rattle.spirv_code.specs.Needed.{AreWords}
use Rattle.module_formed.proofs.Interface.{few_items}
use Rattle.spirv_lower.specs.Counted.{AreCounted}
use Rattle.spirv_table.specs.Tables.{AreFew}
use Rattle.spirv_emit.specs.declared.scene.Scene.{Scene}
use Rattle.spirv_regions.specs.Small.{IsSmall}

words : (p : Program) → Sound p → AreWords p
words p sound =
    record {
      blocks = omega (arith, sound.counts.blocks);
      shared = omega (arith, few_items p.shared sound.shared.least, sound.shared.most);
    }

few_phis : (blocks : List Block) → lines_of blocks < 2 ^ 32 → All (λ (block : Block). length block.phis < 2 ^ 32) blocks
few_phis [] h = All-nil (λ (block : Block). length block.phis < 2 ^ 32)
few_phis (block ∷ blocks) h =
    All-cons (λ (block : Block). length block.phis < 2 ^ 32) block blocks (omega (arith, h)) (few_phis blocks (omega (arith, h)))

places : (p : Program) → Sound p → ArePlaces p.blocks
places p sound =
    record {
      blocks_fit = omega (arith, sound.counts.blocks);
      phis_fit = few_phis p.blocks (omega (arith, sound.counts.instructions));
    }

pub counted : (p : Program) (list : List Region) → Sound p → Wired p list → AreCounted p list
counted p list sound wired =
    record {
      words = words p sound;
      places = places p sound;
      regions = omega (arith, wired.few, sound.counts.blocks);
      earlier = wired.later;
    }

pub small : (s : Scene) (list : List Region) → AreFew s.tables.now → AreCounted s.program.now list → AreEntries s.program.now.blocks s.entries.now → IsSmall s list
small s list few counted entries =
    record {
      few = few;
      blocks = counted.words.blocks;
      entries = record { places = counted.places; entries = entries };
      regions = counted.regions;
      earlier = counted.earlier;
    }
