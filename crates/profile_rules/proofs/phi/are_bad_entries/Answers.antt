use Rattle.std.proofs.Common.{ℕ, ◌≡◌, ◌∙◌, ◌||◌, sym, ap, subst, List, map, Bool, false, IfOk}
use Rattle.std.specs.List.{list_any}
use Rattle.profile_rules.specs.Rules.{differ, lacks_entry, are_at_odds}
use Rattle.profile_rules.proofs.FromLaws.{stranger_by, lacking_by}
use Rattle.profile_rules.proofs.phi.are_bad_entries.Goals as goal

pub returns-then-branch : goal.returns-then-branch
returns-then-branch c =
    let x = c.args.scope.now in
    let line = c.args.line.now in
    let blocks = c.as_slice-2.ensures ∙ c.in_ok-blocks.ensures ∙ ap (map (λ (e : ℕ × ℕ). e.1)) (c.as_slice.ensures ∙ c.in_ok-entries.ensures) in
    let stranger = stranger_by x line c.froms-froms.result.now c.as_slice-2.result.now c.froms-froms.ensures blocks c.in_ok-is_any_missing.field-0 c.in_ok-is_any_missing.ensures ∙ c.if-branch.true in
    sym (ap (λ (b : Bool). b || lacks_entry x line || are_at_odds x line) stranger)

pub returns-then-branch-2 : goal.returns-then-branch-2
returns-then-branch-2 c =
    let x = c.args.scope.now in
    let line = c.args.line.now in
    let blocks = c.as_slice-2.ensures ∙ c.in_ok-blocks.ensures ∙ ap (map (λ (e : ℕ × ℕ). e.1)) (c.as_slice.ensures ∙ c.in_ok-entries.ensures) in
    let again = c.as_slice-3.ensures ∙ c.in_ok-blocks.ensures ∙ ap (map (λ (e : ℕ × ℕ). e.1)) (c.as_slice.ensures ∙ c.in_ok-entries.ensures) in
    let stranger = stranger_by x line c.froms-froms.result.now c.as_slice-2.result.now c.froms-froms.ensures blocks c.in_ok-is_any_missing.field-0 c.in_ok-is_any_missing.ensures ∙ c.if-branch.false in
    let lacking = lacking_by x line c.froms-froms.result.now c.as_slice-3.result.now c.froms-froms.ensures again c.in_ok-is_any_missing-2.field-0 c.in_ok-is_any_missing-2.ensures ∙ c.if-branch-2.true in
    sym (ap (λ (b : Bool). b || lacks_entry x line || are_at_odds x line) stranger ∙ ap (λ (b : Bool). false || b || are_at_odds x line) lacking)

pub returns : goal.returns
returns c =
    let x = c.args.scope.now in
    let line = c.args.line.now in
    let blocks = c.as_slice-2.ensures ∙ c.in_ok-blocks.ensures ∙ ap (map (λ (e : ℕ × ℕ). e.1)) (c.as_slice.ensures ∙ c.in_ok-entries.ensures) in
    let again = c.as_slice-3.ensures ∙ c.in_ok-blocks.ensures ∙ ap (map (λ (e : ℕ × ℕ). e.1)) (c.as_slice.ensures ∙ c.in_ok-entries.ensures) in
    let stranger = stranger_by x line c.froms-froms.result.now c.as_slice-2.result.now c.froms-froms.ensures blocks c.in_ok-is_any_missing.field-0 c.in_ok-is_any_missing.ensures ∙ c.if-branch.false in
    let lacking = lacking_by x line c.froms-froms.result.now c.as_slice-3.result.now c.froms-froms.ensures again c.in_ok-is_any_missing-2.field-0 c.in_ok-is_any_missing-2.ensures ∙ c.if-branch-2.false in
    let whole = ap (λ (es : List (ℕ × ℕ)). list_any (λ e. list_any (differ x e) es) es) (c.as_slice-4.ensures ∙ c.in_ok-entries.ensures)
    ∙ sym (ap (λ (b : Bool). b || lacks_entry x line || are_at_odds x line) stranger ∙ ap (λ (b : Bool). false || b || are_at_odds x line) lacking) in
    subst (λ (b : Bool). IfOk c.are_at_odds.result (λ bad. bad ≡ b)) whole c.are_at_odds.ensures
