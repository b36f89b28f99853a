use Rattle.std.proofs.Common.{◌≡◌}
use Rattle.std.specs.Option.{option_map}
use Rattle.spv_form.specs.Words.{start_of}
use Rattle.flow_blocks.specs.Numbered.{each_numbered}
use Rattle.flow_blocks.specs.Passes.{number_in, open_numbered}
use Rattle.flow_blocks.proofs.Steps.{open_to, blocks_to}
use Rattle.flow_blocks.proofs.read.numbered_blocks.Given as goal

abbrev pub invariant-loop-at : goal.invariant-loop-at
invariant-loop-at l =
    (l.word ≡ start_of l.insts l.at) × (l.current ≡ option_map (open_numbered (number_in l.labels)) (open_to l.insts l.at))
    × (l.blocks.items ≡ each_numbered (number_in l.labels) (blocks_to l.insts l.at))
