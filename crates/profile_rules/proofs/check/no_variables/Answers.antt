use Rattle.std.proofs.Common.{◌∙◌, ap, length, replicate, false}
use Rattle.profile_lines.specs.Pool.{Pool}
use Rattle.profile_rules.proofs.CheckLaws.{no_variables}
use Rattle.profile_rules.proofs.check.no_variables.Goals as goal

pub returns : goal.returns
returns c = no_variables c.args.scope.now c.in_ok-named.named.items (c.in_ok-named.ensures ∙ ap (λ globals. replicate (length globals) false) (c.globals.ensures ∙ ap (λ (p : Pool). p.globals) c.pool.ensures))
