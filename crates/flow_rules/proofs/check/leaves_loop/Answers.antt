use Rattle.std.proofs.Common.{arith, ℕ, subst, ◌≡◌, ◌+◌, ◌-◌, ◌<◌, length}
use Rattle.flow_rules.specs.Answers.{LoopExit}
use Rattle.flow_rules.proofs.Blocks.{at_index}
use Rattle.flow_rules.proofs.Deciding.{true_tells, false_tells}
use Rattle.flow_rules.proofs.Ends.{exit_loop_end, exit_loop}
use Rattle.flow_rules.proofs.check.leaves_loop.Goals as goal

pub returns-then-ends_at : goal.returns-then-ends_at
returns-then-ends_at c =
    let h : ℕ = c.args.inner - 1 in
    let is : h + 1 ≡ c.args.inner = omega arith in
    let inside : h < length c.args.blocks.now = omega arith in
    let at = at_index c.args.blocks.now h c.index-blocks-header.result inside c.index-blocks-header.is in
    subst (λ (n : ℕ). LoopExit c.args.blocks.now n c.args.q) is
    (exit_loop_end c.args.blocks.now h c.args.q c.loop_of.result (c.loop_of.ensures c.args.blocks.now at) (true_tells _ c.ends_at.result c.ends_at.ensures c.if-ends_at.true))

pub returns : goal.returns
returns c =
    let h : ℕ = c.args.inner - 1 in
    let is : c.args.inner ≡ h + 1 = omega arith in
    let inside : h < length c.args.blocks.now = omega arith in
    let at = at_index c.args.blocks.now h c.index-blocks-header.result inside c.index-blocks-header.is in
    exit_loop c.args.blocks.now c.args.inner h c.args.q c.loop_of.result c.body_of.result c.ends_at-2.result is (c.loop_of.ensures c.args.blocks.now at) (c.body_of.ensures c.args.blocks.now at)
    (false_tells _ c.ends_at.result c.ends_at.ensures c.if-ends_at.false) c.ends_at-2.ensures
