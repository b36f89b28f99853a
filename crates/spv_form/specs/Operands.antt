-- What the operand words of an instruction are, by the shape of its opcode: ids, numbers and the words of a string.
use Rattle.std.specs.Prelude.{ℕ, ◌+◌, ◌-◌, ◌%◌, ◌==◌, ◌||◌, ◌&&◌, nat_le, nat_lt, Bool, true, false, List, length, drop, get_or, Option, None, option_map, position, if◌then◌else◌}
use Rattle.std.specs.Option.{option_map_or}
use Rattle.std.specs.List.{list_any, list_all, after_first}
use Rattle.std.specs.Int.{bit_at, to_le_bytes, w32}
use Rattle.spv_form.specs.declared.shape.Shape.{Shape}
use Rattle.spv_form.specs.declared.shape.Shape.TheVariants.{Plain, Text, Pairs}

-- how many words stand before the operands that a shape counts: a type, a result, both or none
abbrev pub front : Bool → Bool → ℕ
front has_type has_id = (if has_type then 1 else 0) + (if has_id then 1 else 0)

-- a byte of the word is zero
unfoldable pub has_zero : ℕ → Bool
has_zero word = list_any (λ b. b == 0) (to_le_bytes w32 word)

-- each byte behind its first zero byte is zero
unfoldable pub is_filled : ℕ → Bool
is_filled word = list_all (λ b. b == 0) (after_first (λ b. b == 0) (to_le_bytes w32 word))

-- Where a string's last word stands: it is the first word, from the string's place on, that has a zero byte. None where no word has one.
abbrev pub string_last : List ℕ → ℕ → Option ℕ
string_last operands before = option_map (λ k. before + k) (position has_zero (drop before operands))

-- The words are as many as the operands take. Of a string there is at least one word, and where nothing may follow it none does.
abbrev pub fits : Shape → List ℕ → Bool
fits (Plain has_type has_id least most numbers) operands = nat_le (front has_type has_id + least) (length operands) && nat_le (length operands) (front has_type has_id + most)
fits (Text before after numbers) operands = nat_lt before (length operands) && (after || option_map_or (λ last. last + 1 == length operands) (string_last operands before) true)
fits Pairs operands = nat_le 2 (length operands) && length operands % 2 == 0

-- The string has a zero byte, and from there to the end of the word it is filled with zeros.
abbrev pub string_ends : Shape → List ℕ → Bool
string_ends (Plain has_type has_id least most numbers) operands = true
string_ends (Text before after numbers) operands = option_map_or (λ last. is_filled (get_or operands last 0)) (string_last operands before) false
string_ends Pairs operands = true

-- where the string's last word stands, for a shape that has a string with an end
abbrev pub last_of : Shape → List ℕ → Option ℕ
last_of (Plain has_type has_id least most numbers) operands = None
last_of (Text before after numbers) operands = string_last operands before
last_of Pairs operands = None

-- a bit of a mask is clear
abbrev pub is_clear : ℕ → ℕ → Bool
is_clear mask bit = bit_at mask bit == 0

-- The operand word at a place is an id, where the string's last word stands at `last`.
abbrev pub is_id_at : Shape → Option ℕ → ℕ → Bool
is_id_at (Plain has_type has_id least most numbers) last at = nat_lt at (front has_type has_id) || is_clear numbers (at - front has_type has_id)
is_id_at (Text before after numbers) last at = if nat_lt at before then is_clear numbers at else option_map_or (λ place. nat_lt place at) last false
is_id_at Pairs last at = at == 0 || at % 2 == 1

abbrev pub is_id : Shape → List ℕ → ℕ → Bool
is_id shape operands at = is_id_at shape (last_of shape operands) at
