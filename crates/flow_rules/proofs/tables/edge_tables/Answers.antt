use Rattle.flow_rules.proofs.tables.edge_tables.Goals as goal

pub returns : goal.returns
returns c = record {
  sources = c.in_ok-sources.ensures;
  first_backs = c.in_ok-first_backs.ensures;
  last_backs = c.in_ok-last_backs.ensures;
  lows = c.in_ok-lows.ensures;
  highs = c.in_ok-highs.ensures;
}
