-- A file has at most one first refusal, and none where it is accepted.
use Rattle.std.specs.Prelude.{ℕ, ◌≡◌, List}
use Rattle.spv_form.specs.declared.fault.WordRule.{WordRule}
use Rattle.spirv_file.specs.Checking.{IsAccepted, IsFirstRefusal}

abbrev pub OneRefusal : Type 0
OneRefusal = (bytes : List ℕ) (one other : WordRule) (word at : ℕ) → IsFirstRefusal bytes one word → IsFirstRefusal bytes other at → (one ≡ other) × (word ≡ at)

abbrev pub AcceptedHasNoRefusal : Type 0
AcceptedHasNoRefusal = (bytes : List ℕ) (rule : WordRule) (word : ℕ) → IsAccepted bytes → IsFirstRefusal bytes rule word → ⊥
