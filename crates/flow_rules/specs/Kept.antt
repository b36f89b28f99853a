-- How the end and the merge instructions of a block are kept.
use Rattle.std.specs.Prelude.{ℕ, List, [], Option, Some, None}
use Rattle.flow_rules.specs.declared.block.Merge.{Merge}
use Rattle.flow_rules.specs.declared.block.BlockEnd.{BlockEnd}
use Rattle.flow_rules.specs.declared.block.BlockEnd.TheVariants.{Plain, Header, Strays}
use Rattle.flow_rules.specs.declared.block.Ending.{Ending}
use Rattle.flow_rules.specs.declared.block.Ending.TheVariants.{Return as Returns, Branch as Branches, BranchConditional as Forks, Switch as Switches}
use Rattle.flow_rules.specs.declared.block.Terminator.{Terminator}
use Rattle.flow_rules.specs.declared.block.Terminator.TheVariants.{Branch, BranchConditional, Switch, Return}

abbrev pub terminator_of : Ending → Terminator
terminator_of Returns = Return
terminator_of (Branches targets) = Branch
terminator_of (Forks targets) = BranchConditional
terminator_of (Switches targets) = Switch

-- the blocks to which the terminator branches
abbrev pub targets_of : Ending → List ℕ
targets_of Returns = []
targets_of (Branches targets) = targets
targets_of (Forks targets) = targets
targets_of (Switches targets) = targets.value

-- the merge instructions that do not stand directly before the terminator
abbrev pub strays_of : BlockEnd → List Merge
strays_of (Plain ending) = []
strays_of (Header end) = []
strays_of (Strays end) = end.value.strays

-- the merge instruction that stands directly before the terminator
abbrev pub merge_of : BlockEnd → Option Merge
merge_of (Plain ending) = None
merge_of (Header end) = Some end.value.merge
merge_of (Strays end) = end.value.merge

abbrev pub ending_of : BlockEnd → Ending
ending_of (Plain ending) = ending
ending_of (Header end) = end.value.ending
ending_of (Strays end) = end.value.ending
