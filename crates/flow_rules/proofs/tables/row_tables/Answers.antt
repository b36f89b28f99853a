use Rattle.flow_rules.proofs.tables.row_tables.Goals as goal

pub returns : goal.returns
returns c = record {
  mergers = c.in_ok-mergers.ensures;
  nested_ends = c.in_ok-nested_ends.ensures;
  row_ends = c.in_ok-row_ends.ensures;
  row_overs = c.in_ok-row_overs.ensures;
  case_froms = c.in_ok-case_froms.ensures;
}
