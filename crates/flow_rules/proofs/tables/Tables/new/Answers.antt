use Rattle.flow_rules.proofs.tables.Tables.new.Goals as goal

pub returns : goal.returns
returns c =
    let edges = c.in_ok-edges.ensures in
    let rows = c.in_ok-rows.ensures in
    let constructs = c.in_ok-constructs.ensures in
    record {
      sources = edges.sources;
      mergers = rows.mergers;
      first_backs = edges.first_backs;
      last_backs = edges.last_backs;
      nested_ends = rows.nested_ends;
      row_ends = rows.row_ends;
      row_overs = rows.row_overs;
      left_ends = constructs.left_ends;
      body_ends = constructs.body_ends;
      loops = constructs.loops;
      switches = constructs.switches;
      case_froms = rows.case_froms;
      lows = edges.lows;
      highs = edges.highs;
    }
