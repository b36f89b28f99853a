use Rattle.module_counts.proofs.Whole.{loops_are_regions, switches_are_terminators, few_switches, no_ring_no_loop}
use Rattle.module_counts.proofs.modules_have_few_branches.Goals as goal

pub returns-clause-loops : goal.returns-clause-loops
returns-clause-loops c = loops_are_regions

pub returns-clause-switches : goal.returns-clause-switches
returns-clause-switches c = switches_are_terminators

pub returns-clause-few : goal.returns-clause-few
returns-clause-few c = few_switches

pub returns-clause-rings : goal.returns-clause-rings
returns-clause-rings c = no_ring_no_loop
