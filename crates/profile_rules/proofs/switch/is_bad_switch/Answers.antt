use Rattle.std.proofs.Common.{◌≡◌, ◌∙◌, ◌||◌, sym, ap, subst, not, is_some, true, IfOk}
use Rattle.std.specs.List.{list_any}
use Rattle.profile_lines.specs.Calls.{carried}
use Rattle.profile_lines.specs.Pool.{Pool, constant}
use Rattle.profile_lines.specs.declared.known.ValueKind.{ValueKind}
use Rattle.profile_lines.specs.declared.known.ValueKind.TheVariants.{Int}
use Rattle.profile_tables.specs.Kinds.{is_kind}
use Rattle.profile_tables.specs.Parts.{cases_of}
use Rattle.profile_rules.specs.Asked.{kind_stated}
use Rattle.profile_rules.specs.Rules.{have_equals}
use Rattle.profile_rules.proofs.switch.is_bad_switch.Goals as goal

pub returns-then-is_kind : goal.returns-then-is_kind
returns-then-is_kind c =
    let x = c.args.scope.now in
    let line = c.args.line.now in
    let good : is_kind (kind_stated x (carried line 0)) Int ≡ true =
    ap (λ (k : ValueKind). is_kind k Int) (ap (kind_stated x) (sym c.carried.ensures) ∙ sym c.kind_stated.ensures) ∙ sym c.is_kind.ensures ∙ c.if-is_kind.true in
    rw good (subst (λ (p : Pool). IfOk c.are_bad_cases.result (λ bad. bad ≡ (list_any (λ d. not (is_some (constant p 32 d.0))) (cases_of line) || have_equals p (cases_of line)))) c.pool.ensures c.are_bad_cases.ensures)
