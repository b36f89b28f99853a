use Rattle.std.proofs.Common.{ℕ, ◌∙◌, sym, ap, nat_lt}
use Rattle.std.specs.List.{list_all}
use Rattle.profile_tables.specs.Parts.{pairs_of}
use Rattle.profile_rules.proofs.ListLaws.{all_map}
use Rattle.profile_rules.proofs.asked.are_pair_values.Goals as goal

pub returns : goal.returns
returns c =
    let below = λ (v : ℕ). nat_lt v c.args.scope.now.values in
    c.are_firsts_below.ensures ∙ ap (list_all (λ (p : ℕ × ℕ). below p.0)) (c.as_slice.ensures ∙ c.in_ok-pairs.ensures) ∙ sym (all_map below (λ (p : ℕ × ℕ). p.0) (pairs_of c.args.line.now.numbers))
