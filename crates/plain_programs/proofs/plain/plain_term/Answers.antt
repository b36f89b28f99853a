use Rattle.std.proofs.Common.{length, refl, sym, arith}
use Rattle.std.proofs.lemmas.Bool.{eqb-false}
use Rattle.plain_programs.proofs.PlainSound.{switch_plain}
use Rattle.plain_programs.proofs.plain.plain_term.Goals as goal

pub returns-clause-plain : goal.returns-clause-plain
returns-clause-plain c =
    let e = eqb-false (length c.args.targets.now) 0 (sym c.if-is_empty.ensures) in
    switch_plain c.args.count c.args.targets.now c.requires.targets c.in_ok-cases.cases c.in_ok-cases.ensures (omega arith) _ refl
