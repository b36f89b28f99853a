use Rattle.std.proofs.Common.{◌≡◌, ℕ, ◌<◌, get_or, true}
use Rattle.spv_form.specs.Operands.{is_id}
use Rattle.spv_form.specs.Formed.{IsIdBelow}
use Rattle.spirv_words.proofs.operands.bad_id.Given as goal

abbrev pub invariant-loop-at : goal.invariant-loop-at
invariant-loop-at l = (k : ℕ) → k < l.at → is_id l.shape l.operands k ≡ true → IsIdBelow l.bound (get_or l.operands k 0)
