use Rattle.std.proofs.Common.{sym, ◌∙◌}
use Rattle.flow_rules.proofs.Deciding.{true_tells, false_tells}
use Rattle.flow_rules.proofs.Ends.{fork_switch, fork_doubled, fork_open}
use Rattle.flow_rules.proofs.check.breaks_fork.Goals as goal

pub returns-then-is_doubled : goal.returns-then-is_doubled
returns-then-is_doubled c = fork_doubled c.args.blocks.now c.args.p c.args.block.now (sym c.terminator.ensures ∙ c.in-BranchConditional.is) (true_tells _ c.is_doubled.result c.is_doubled.ensures c.if-is_doubled.true)

pub returns-in-Switch : goal.returns-in-Switch
returns-in-Switch c = fork_switch c.args.blocks.now c.args.p c.args.block.now c.has_no_merge.result (sym c.terminator.ensures ∙ c.in-Switch.is) c.has_no_merge.ensures

pub returns-else-not-has_no_merge : goal.returns-else-not-has_no_merge
returns-else-not-has_no_merge c =
    fork_open c.args.blocks.now c.args.p c.args.block.now (sym c.terminator.ensures ∙ c.in-BranchConditional.is) c.closes_loop.result (false_tells _ c.is_doubled.result c.is_doubled.ensures c.if-is_doubled.false)
    (true_tells _ c.has_no_merge-in-BranchConditional.result c.has_no_merge-in-BranchConditional.ensures c.if-not-has_no_merge.false) c.closes_loop.ensures
