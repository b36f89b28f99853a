use Rattle.std.proofs.Common.{ℕ, ◌≡◌, ◌∙◌, ◌||◌, subst, List, not, is_some, IfOk}
use Rattle.std.specs.List.{list_any}
use Rattle.profile_lines.specs.Pool.{constant}
use Rattle.profile_rules.specs.Rules.{have_equals}
use Rattle.profile_rules.proofs.switch.are_bad_cases.Goals as goal

pub returns : goal.returns
returns c =
    let pool = c.args.pool.now in
    subst (λ (cases : List (ℕ × ℕ)). IfOk c.are_at_fault.result (λ bad. bad ≡ (list_any (λ d. not (is_some (constant pool 32 d.0))) cases || have_equals pool cases)))
    (c.as_slice.ensures ∙ c.in_ok-cases.ensures) c.are_at_fault.ensures
