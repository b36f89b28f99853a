use Rattle.flow_rules.proofs.tables.construct_tables.Goals as goal

pub returns : goal.returns
returns c = record {
  left_ends = c.in_ok-left_ends.ensures;
  body_ends = c.in_ok-body_ends.ensures;
  loops = c.in_ok-loops.ensures;
  switches = c.in_ok-switches.ensures;
}
