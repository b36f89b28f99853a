use Rattle.std.proofs.Common.{arith, ℕ, ◌≡◌, ◌+◌, ◌-◌, ◌<◌, length}
use Rattle.flow_rules.proofs.Blocks.{at_index}
use Rattle.flow_rules.proofs.Ends.{exit_switch}
use Rattle.flow_rules.proofs.check.leaves_switch.Goals as goal

pub returns : goal.returns
returns c =
    let h : ℕ = c.args.switch - 1 in
    let is : c.args.switch ≡ h + 1 = omega arith in
    let inside : h < length c.args.blocks.now = omega arith in
    let at = at_index c.args.blocks.now h c.index-blocks-header.result inside c.index-blocks-header.is in
    exit_switch c.args.blocks.now c.args.switch h c.args.q c.switch_of.result c.ends_at.result is (c.switch_of.ensures c.args.blocks.now at) c.ends_at.ensures
