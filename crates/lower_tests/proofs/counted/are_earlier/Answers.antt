use Rattle.std.proofs.Common.{sym, ap, ◌∙◌, arith}
use Rattle.std.proofs.lemmas.List.{drop_all}
use Rattle.lower_tests.specs.Counted.{are_behind}
use Rattle.lower_tests.proofs.Behind.{behind}
use Rattle.lower_tests.proofs.counted.are_earlier.Goals as goal

pub returns : goal.returns
returns c = λ t.
    behind c.args.list.now (sym c.loop-place.invariant ∙ ap (are_behind c.loop-place.place) (drop_all c.loop-place.place c.args.list.now (omega arith)))
