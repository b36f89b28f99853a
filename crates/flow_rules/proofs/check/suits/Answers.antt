use Rattle.flow_rules.specs.Rules.Suits.{selection_conditional, selection_switch, loop_branch, loop_conditional}
use Rattle.flow_rules.proofs.check.suits.Goals as goal

pub returns-in-BranchConditional : goal.returns-in-BranchConditional
returns-in-BranchConditional c = rw (c.in-Selection.is, c.in-BranchConditional.is) selection_conditional

pub returns-in-Switch : goal.returns-in-Switch
returns-in-Switch c = rw (c.in-Selection.is, c.in-Switch.is) selection_switch

pub returns-in-Branch : goal.returns-in-Branch
returns-in-Branch c = rw (c.in-Loop.is, c.in-Branch.is) (loop_branch _)

pub returns-in-BranchConditional-terminator : goal.returns-in-BranchConditional-terminator
returns-in-BranchConditional-terminator c = rw (c.in-Loop.is, c.in-BranchConditional-terminator.is) (loop_conditional _)
