use Rattle.std.proofs.Common.{◌≡◌}
use Rattle.flow_blocks.proofs.Steps.{open_to, blocks_to}
use Rattle.flow_blocks.proofs.TableLaws.{AreFirst, label_of}
use Rattle.flow_blocks.proofs.labels.Labels.of.Given as goal

abbrev pub invariant-loop-inst : goal.invariant-loop-inst
invariant-loop-inst l = (l.current ≡ label_of (open_to l.insts l.inst-index)) × AreFirst l.blocks.items (blocks_to l.insts l.inst-index)
