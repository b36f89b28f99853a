use Rattle.std.proofs.Common.{◌≡◌, ◌<◌, ◌∙◌, length, Some, None, arith}
use Rattle.flow_graph.proofs.Moves.{move_below, move_first, above_kept}
use Rattle.flow_graph.proofs.cells.relabel.Goals as goal

pub returns-in-Some-clause-lists : goal.returns-in-Some-clause-lists
returns-in-Some-clause-lists c =
    let len : length c.cut_from.new.cells ≡ length c.args.cells.now = omega arith in
    let inside : c.args.c < length c.cut_from.new.cells = omega arith in
    move_below c.cut_from.new.cells c.cut_from.new.first c.args.c c.args.a c.cut_from.ensures.lists inside
    (c.cut_from.ensures.same.used c.args.c ∙ c.requires.used) c.in-Some.p
    (above_kept c.args.cells.now c.cut_from.new.cells c.cut_from.ensures.same len c.args.a c.args.c (Some c.in-Some.p) c.in-Some.ensures)

pub returns-in-None-clause-lists : goal.returns-in-None-clause-lists
returns-in-None-clause-lists c =
    let len : length c.cut_from.new.cells ≡ length c.args.cells.now = omega arith in
    let inside : c.args.c < length c.cut_from.new.cells = omega arith in
    let fits : c.args.a < length c.cut_from.new.first = omega arith in
    move_first c.cut_from.new.cells c.cut_from.new.first c.args.c c.args.a c.cut_from.ensures.lists inside
    (c.cut_from.ensures.same.used c.args.c ∙ c.requires.used) fits
    (above_kept c.args.cells.now c.cut_from.new.cells c.cut_from.ensures.same len c.args.a c.args.c None c.in-None.ensures)
