use Rattle.std.proofs.Common.{◌≡◌, length, arith}
use Rattle.std.proofs.lemmas.List.{with_items_is}
use Rattle.flow_graph.proofs.Made.{choice_end}
use Rattle.flow_graph.proofs.making.chosen_edges.Goals as goal

pub returns : goal.returns
returns c =
    let n : length c.choose.new.chosen ≡ c.in_ok-chosen.chosen.len = omega arith in
    let sources : length c.deref.result.now ≡ c.args.count = omega (arith, c.in_ok-first.ensures.len) in
    let places : length c.choose.new.chosen ≡ length c.args.edges.now = omega (arith, c.in_ok-chosen.ensures.len) in
    rw (with_items_is c.in_ok-chosen.chosen c.choose.new.chosen n) (choice_end c.args.edges.now c.args.count (length c.deref.result.now) c.choose.new.seen c.choose.new.chosen
    c.requires.within sources places c.choose.ensures)
