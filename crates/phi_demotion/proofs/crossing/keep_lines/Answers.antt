use Rattle.std.specs.BTreeSet as tree
use Rattle.phi_demotion.specs.Reads.{key_cmp}
use Rattle.phi_demotion.proofs.Scans.{lines_more}
use Rattle.phi_demotion.proofs.crossing.keep_lines.Goals as goal

pub loop-instr-preserved : goal.loop-instr-preserved
loop-instr-preserved c =
    lines_more c.as_slice-instr-items.result.now c.loop-instr.instr-index _ c.new-operands.result c.keep_line.new.list c.args.reads.now c.loop-instr.reads c.keep_operands.new.reads (λ q. tree.contains key_cmp c.loop-instr.settled q) (λ q. tree.contains key_cmp c.settle_line.new.settled q)
    c.loop-instr-test.true c.new-operands.ensures c.in_ok-keep_line.ensures c.loop-instr.invariant.reads c.loop-instr.invariant.settled c.in_ok-keep_operands.ensures c.in_ok-settle_line.ensures
