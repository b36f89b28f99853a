-- The operand words that a value holds, in itself or on the heap.
use Rattle.std.specs.Prelude.{ℕ, ◌≤◌, List, take}
use Rattle.spv_form.specs.declared.operands.Held.{Held}
use Rattle.spv_form.specs.declared.operands.Held.TheVariants.{Few, Many}

abbrev pub held_words : Held → List ℕ
held_words (Few count words) = take count words
held_words (Many words) = words.value.items

-- Three stand in the value at most.
abbrev pub IsHeld : Held → Type 0
IsHeld (Few count words) = count ≤ 3
IsHeld (Many words) = Unit {0}
