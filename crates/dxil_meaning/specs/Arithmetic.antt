-- Arithmetic on words of 32 bits, each below 2 ^ 32. A word is read with a sign, in two's complement, by `signed`.
--
-- These are the operations of the LLVM 3.7 Language Reference on `i32` (add, sub, mul, shl, lshr, ashr, sdiv, srem, icmp), of DXIL.rst (Bfrev, Countbits, IMax, IMin), and of SPIR-V 1.6 on integers of 32 bits (Arithmetic, Bit, Relational and Logical, and Atomic Instructions). Both machines are stated with them, each by a table of its own.
use Rattle.std.specs.Prelude.{ℕ, ◌+◌, ◌-◌, ◌*◌, ◌/◌, ◌%◌, ◌^◌, min, max, Bool, ℤ, Option, Some, None, nat_eq, ◌&&◌, if◌then◌else◌, bit_and, bit_or, bit_xor, count_ones, int_lt, int_div, int_rem}
use Rattle.std.specs.Int.{w32, cast_signed, cast_unsigned, reverse_bits, int_shr}
use Rattle.dxil_form.specs.declared.instr.AtomicOp.{AtomicOp}
use Rattle.dxil_form.specs.declared.instr.AtomicOp.TheVariants.{Add, Sub, And, Or, Xor, SMin, SMax, UMin, UMax, Exchange}

abbrev pub signed : ℕ → ℤ
signed x = cast_signed w32 x

abbrev pub word_add : ℕ → ℕ → ℕ
word_add x y = (x + y) % 2 ^ 32

abbrev pub word_sub : ℕ → ℕ → ℕ
word_sub x y = (x + (2 ^ 32 - y)) % 2 ^ 32

abbrev pub word_mul : ℕ → ℕ → ℕ
word_mul x y = (x * y) % 2 ^ 32

abbrev pub word_shl : ℕ → ℕ → ℕ
word_shl x k = (x * 2 ^ k) % 2 ^ 32

abbrev pub word_shr : ℕ → ℕ → ℕ
word_shr x k = x / 2 ^ k

-- the shift that copies the sign
abbrev pub word_sar : ℕ → ℕ → ℕ
word_sar x k = cast_unsigned w32 (int_shr (signed x) k)

-- the quotient is rounded towards zero
abbrev pub word_sdiv : ℕ → ℕ → ℕ
word_sdiv x y = cast_unsigned w32 (int_div (signed x) (signed y))

-- the remainder has the sign of the first operand
abbrev pub word_srem : ℕ → ℕ → ℕ
word_srem x y = cast_unsigned w32 (int_rem (signed x) (signed y))

abbrev pub signed_lt : ℕ → ℕ → Bool
signed_lt x y = int_lt (signed x) (signed y)

abbrev pub signed_min : ℕ → ℕ → ℕ
signed_min x y = if signed_lt y x then y else x

abbrev pub signed_max : ℕ → ℕ → ℕ
signed_max x y = if signed_lt x y then y else x

-- the bits in the other order
abbrev pub word_reverse : ℕ → ℕ
word_reverse x = reverse_bits w32 x

-- how many bits stand
abbrev pub word_count : ℕ → ℕ
word_count x = count_ones x

-- the smallest number by -1
abbrev pub is_overflowing : ℕ → ℕ → Bool
is_overflowing x y = nat_eq x (2 ^ 31) && nat_eq y (2 ^ 32 - 1)

-- none where it is undefined
abbrev pub unless : Bool → ℕ → Option ℕ
unless wrong x = if wrong then None else Some x

-- what an atomic leaves in memory, of what stood there and the value
abbrev pub atomic : AtomicOp → ℕ → ℕ → ℕ
atomic Add old v = word_add old v
atomic Sub old v = word_sub old v
atomic And old v = bit_and old v
atomic Or old v = bit_or old v
atomic Xor old v = bit_xor old v
atomic SMin old v = signed_min old v
atomic SMax old v = signed_max old v
atomic UMin old v = min old v
atomic UMax old v = max old v
atomic Exchange old v = v
