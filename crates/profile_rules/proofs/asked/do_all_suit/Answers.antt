use Rattle.std.proofs.Common.{ℕ, ◌∙◌, sym, ap, nat_lt, length, not, ◌||◌}
use Rattle.std.specs.List.{list_all}
use Rattle.profile_lines.specs.Calls.{operand}
use Rattle.profile_lines.specs.Values.{kind_by}
use Rattle.profile_tables.specs.EntryBody.{kind_at}
use Rattle.profile_rules.specs.Asked.{suits}
use Rattle.profile_rules.proofs.ListLaws.{all_filter}
use Rattle.profile_rules.proofs.asked.do_all_suit.Goals as goal

pub returns : goal.returns
returns c =
    let x = c.args.scope.now in
    let line = c.args.line.now in
    let good = λ (p : ℕ × ℕ). suits (kind_at x (operand line p.0)) (kind_by x.pool p.1) in
    let there = λ (p : ℕ × ℕ). nat_lt p.0 (length line.numbers) in
    c.do_present_suit.ensures ∙ ap (list_all (λ p. not (there p) || good p)) c.as_slice.ensures ∙ sym (all_filter good there line.types)
