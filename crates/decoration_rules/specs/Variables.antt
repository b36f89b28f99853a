-- What the decorations of a variable and of its type have to be.
use Rattle.std.specs.Prelude.{ℕ, ◌≡◌, ◌+◌, ◌^◌, ◌<◌, ◌==◌, ◌&&◌, ◌||◌, nat_lt, List, Bool, true, false, Option, None, option_map, option_and_then, IfSome, count_by, if◌then◌else◌}
use Rattle.std.specs.Option.{option_map_or, unwrap_or}
use Rattle.std.specs.Ordering.{nat_cmp, ordering_then}
use Rattle.std.specs.declared.cmp.Ordering.{Ordering}
use Rattle.spv_form.specs.declared.module.Inst.{Inst}
use Rattle.spv_ids.specs.Roles.{operand}
use Rattle.type_rules.specs.Types.{is_defined_as}
use Rattle.type_rules.specs.Values.{pointer_type}
use Rattle.decoration_rules.specs.Decorations.{marks_of}

-- Variable: type, result, storage class. A buffer variable is of class Uniform or StorageBuffer.
unfoldable pub is_buffer : Inst → Bool
is_buffer x = x.opcode == 59 && (operand x 2 == 2 || operand x 2 == 12)

-- the set and the binding, where both are there
abbrev pub both : Option ℕ → Option ℕ → Option (ℕ × ℕ)
both set binding = option_and_then (λ s. option_map (λ b. (s, b)) binding) set

-- the set and the binding of a buffer variable
unfoldable pub seat_of : List Inst → Inst → Option (ℕ × ℕ)
seat_of insts x = if is_buffer x then both (marks_of insts (operand x 1)).set (marks_of insts (operand x 1)).binding else None

abbrev pub is_at : ℕ × ℕ → Option (ℕ × ℕ) → Bool
is_at seat o = option_map_or (λ q. q.0 == seat.0 && q.1 == seat.1) o false

-- how many of these instructions are buffer variables with this set and binding
abbrev pub crowd_among : List Inst → List Inst → ℕ × ℕ → ℕ
crowd_among insts among seat = count_by (λ x. is_at seat (seat_of insts x)) among

unfoldable pub crowd : List Inst → ℕ × ℕ → ℕ
crowd insts seat = crowd_among insts insts seat

-- the type is a pointer to a structure that has Block and Offset 0, and whose array has ArrayStride 4 or 16
unfoldable pub is_block_of_array : List Inst → ℕ → Bool
is_block_of_array insts t = option_map_or (λ p. is_defined_as insts (operand p 2) (λ s. s.opcode == 30
    && ((marks_of insts (operand p 2)).block && ((marks_of insts (operand p 2)).first_offset && (marks_of insts (operand s 1)).stride)))) (pointer_type insts t) false

-- A buffer variable has DescriptorSet and Binding, shares both with no other one, and is a Block of such an array.
abbrev pub is_sound_buffer : List Inst → Inst → Bool
is_sound_buffer insts x = option_map_or (λ seat. nat_lt (crowd insts seat) 2 && is_block_of_array insts (operand x 0)) (seat_of insts x) false

-- V8 of a variable: a buffer variable as above; an Input variable has one of the four built-ins.
unfoldable pub is_sound : List Inst → Inst → Bool
is_sound insts x =
    if is_buffer x then is_sound_buffer insts x
    else if x.opcode == 59 && operand x 2 == 1 then (marks_of insts (operand x 1)).built_in
    else true

-- ---- a table that counts the buffer variables of each set and binding

abbrev pub pair_cmp : ℕ × ℕ → ℕ × ℕ → Ordering
pair_cmp p q = ordering_then (nat_cmp p.0 q.0) (nat_cmp p.1 q.1)

pub record AreCrowds (count : ℕ × ℕ → Option ℕ) (insts among : List Inst) : Type 0 where
  pub are : (seat : ℕ × ℕ) → unwrap_or (count seat) 0 ≡ crowd_among insts among seat

-- one more where the instruction is a buffer variable of this set and binding
pub record IsSeated (old new : ℕ × ℕ → Option ℕ) (o : Option (ℕ × ℕ)) : Type 0 where
  pub seated : (seat : ℕ × ℕ) → unwrap_or (new seat) 0 ≡ unwrap_or (old seat) 0 + (if is_at seat o then 1 else 0)

abbrev pub HasRoom : (ℕ × ℕ → Option ℕ) → Option (ℕ × ℕ) → Type 0
HasRoom count o = IfSome o (λ seat. unwrap_or (count seat) 0 + 1 < 2 ^ 32)
