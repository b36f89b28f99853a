use Rattle.std.proofs.Common.{ℕ, ◌≡◌, ◌%◌, ◌<◌, true, get_or}
use Rattle.type_rules.specs.Values.{is_label}
use Rattle.type_rules.proofs.operands.are_labels.Given as goal

abbrev pub invariant-loop-at : goal.invariant-loop-at
invariant-loop-at l = (k : ℕ) → k < l.at → k % 2 ≡ 1 → is_label l.ids (get_or l.pairs k 0) ≡ true
