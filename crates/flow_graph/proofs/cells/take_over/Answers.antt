use Rattle.std.proofs.Common.{◌≡◌, ◌<◌, ℕ, Option, Some, None, length, get_or, arith, sym, subst}
use Rattle.std.proofs.lemmas.Bool.{both_ways}
use Rattle.flow_graph.specs.Links.{IsLast, leaves, cell_at, left}
use Rattle.flow_graph.proofs.Steps.{step_remove, step_move, remove_sound, move_sound, last_own, merging_remove, merging_move, falls_move}
use Rattle.flow_graph.proofs.cells.take_over.Goals as goal

pub loop-first_from-preserved-then-marks-to : goal.loop-first_from-preserved-then-marks-to
loop-first_from-preserved-then-marks-to c =
    let now = c.loop-first_from.cells in
    let i = c.loop-first_from.invariant in
    let fits : c.args.j < length c.loop-first_from.first_from = omega arith in
    let (inside, own) = last_own now c.loop-first_from.first_from c.loop-first_from.first_to c.args.j c.in-Some.c i.sound fits c.in-Some.is in
    let len : length c.remove.new.cells ≡ length now = omega arith in
    record {
      sound = remove_sound now c.remove.new.cells c.in-Some.c c.loop-first_from.first_from c.loop-first_from.first_to c.remove.new.first_from c.remove.new.first_to
          c.remove.ensures.gone i.sound (omega arith) (omega arith) c.remove.ensures.from_lists c.remove.ensures.to_lists;
      moved = step_remove c.args.a c.args.j c.requires.apart c.args.cells.now now c.remove.new.cells i.moved c.in-Some.c inside len own
          c.remove.ensures.gone (i.merging.targets (cell_at now c.in-Some.c).to c.if-marks-to.true);
      merging = merging_remove c.args.a c.args.j c.requires.apart c.args.cells.now now c.remove.new.cells i.moved c.in-Some.c inside len own
          c.remove.ensures.gone c.args.marks.now c.loop-first_from.hint i.merging;
    }

pub loop-first_from-smaller : goal.loop-first_from-smaller
loop-first_from-smaller c =
    let now = c.loop-first_from.cells in
    let i = c.loop-first_from.invariant in
    let fits : c.args.j < length c.loop-first_from.first_from = omega arith in
    let new_fits : c.args.j < length c.relabel.new.first = omega arith in
    let (inside, own) = last_own now c.loop-first_from.first_from c.loop-first_from.first_to c.args.j c.in-Some.c i.sound fits c.in-Some.is in
    let len : length c.relabel.new.cells ≡ length now = omega arith in
    let P : Option ℕ → Type 0 = λ o. IsLast (leaves now c.args.j) (length now) o in
    let last : IsLast (leaves now c.args.j) (length now) (Some c.in-Some.c) = subst P c.in-Some.is (i.sound.from_lists.heads c.args.j fits) in
    let Q : Option ℕ → Type 0 = λ o. left (get_or c.relabel.new.first c.args.j None) < left o in
    subst Q (sym c.in-Some.is) (falls_move c.args.a c.args.j c.requires.apart c.args.cells.now now c.relabel.new.cells i.moved c.in-Some.c inside len own
    c.relabel.ensures.same c.relabel.new.first c.relabel.ensures.lists new_fits last)

pub loop-first_from-preserved : goal.loop-first_from-preserved
loop-first_from-preserved c =
    let now = c.loop-first_from.cells in
    let i = c.loop-first_from.invariant in
    let fits : c.args.j < length c.loop-first_from.first_from = omega arith in
    let (inside, own) = last_own now c.loop-first_from.first_from c.loop-first_from.first_to c.args.j c.in-Some.c i.sound fits c.in-Some.is in
    let len : length c.relabel.new.cells ≡ length now = omega arith in
    let P : Option ℕ → Type 0 = λ o. IsLast (leaves now c.args.j) (length now) o in
    let last : IsLast (leaves now c.args.j) (length now) (Some c.in-Some.c) = subst P c.in-Some.is (i.sound.from_lists.heads c.args.j fits) in
    record {
      sound = move_sound c.args.a c.args.j c.requires.apart c.args.cells.now now c.relabel.new.cells i.moved c.in-Some.c inside len own
          c.relabel.ensures.same c.loop-first_from.first_from c.loop-first_from.first_to c.relabel.new.first i.sound
          (omega arith) (omega arith) c.relabel.ensures.lists
          (λ d l t q. both_ways _ c.if-marks-to.false (i.merging.doubled d c.in-Some.c t own q));
      moved = step_move c.args.a c.args.j c.requires.apart c.args.cells.now now c.relabel.new.cells i.moved c.in-Some.c inside len own
          c.relabel.ensures.same;
      merging = merging_move c.args.a c.args.j c.requires.apart c.args.cells.now now c.relabel.new.cells i.moved c.in-Some.c inside len own
          c.relabel.ensures.same c.args.marks.now c.loop-first_from.hint i.merging i.sound.single last;
    }
