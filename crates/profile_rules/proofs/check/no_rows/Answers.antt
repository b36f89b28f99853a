use Rattle.std.proofs.Common.{◌∙◌, ap, length, replicate, false}
use Rattle.profile_rules.proofs.CheckLaws.{no_rows}
use Rattle.profile_rules.proofs.check.no_rows.Goals as goal

pub returns-clause-rows : goal.returns-clause-rows
returns-clause-rows c = no_rows c.args.scope.now c.in_ok-named.named.items (c.in_ok-named.ensures ∙ ap (λ rows. replicate (length rows) false) c.rows.ensures)
