use Rattle.std.proofs.Common.{length, sym, ◌∙◌, arith}
use Rattle.std.proofs.lemmas.List.{take_all, drop_all}
use Rattle.spirv_regions.proofs.splits.split_front.Goals as goal

pub returns-then-cases-le-MOST_PAIRS-clause-front : goal.returns-then-cases-le-MOST_PAIRS-clause-front
returns-then-cases-le-MOST_PAIRS-clause-front c =
    c.split_at.ensures.front ∙ take_all (length c.args.cases.now) c.args.cases.now (omega arith) ∙ sym (take_all 16383 c.args.cases.now (omega arith))

pub returns-then-cases-le-MOST_PAIRS-clause-rest : goal.returns-then-cases-le-MOST_PAIRS-clause-rest
returns-then-cases-le-MOST_PAIRS-clause-rest c =
    c.split_at.ensures.back ∙ drop_all (length c.args.cases.now) c.args.cases.now (omega arith) ∙ sym (drop_all 16383 c.args.cases.now (omega arith))
