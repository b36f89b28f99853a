use Rattle.std.specs.BTreeSet as tree
use Rattle.phi_demotion.specs.Reads.{key_cmp}
use Rattle.phi_demotion.proofs.Scans.{reads_more}
use Rattle.phi_demotion.proofs.crossing.crossing_slots.Goals as goal

pub loop-read-preserved : goal.loop-read-preserved
loop-read-preserved c =
    reads_more c.args.phis.now c.args.first c.as_slice-read-items.result.now c.loop-read.read-index _ c.loop-read.slots c.add_read.new.slots (λ q. tree.contains key_cmp c.loop-read.taken q) (λ q. tree.contains key_cmp c.add_read.new.taken q)
    c.loop-read-test.true c.loop-read.invariant.few c.loop-read.invariant.slots c.loop-read.invariant.taken c.in_ok-add_read.ensures.slots c.in_ok-add_read.ensures.taken
