-- A byte list as a list of bits, and the numbers that stand in it.
use Rattle.std.specs.Prelude.{ℕ, zero, suc, ◌≡◌, ◌+◌, ◌-◌, ◌*◌, ◌/◌, ◌%◌, ◌^◌, ◌<◌, List, get_or, nat_lt, ◌==◌, if◌then◌else◌}
use Rattle.std.specs.Int.{bit_at}

-- bit i is bit i mod 8, from the least significant, of byte i / 8
abbrev pub bit : List ℕ → ℕ → ℕ
bit bytes i = bit_at (get_or bytes (i / 8) 0) (i % 8)

-- the sum of 2 ^ j over each j below w for which bit i + j stands
unfoldable pub num : List ℕ → ℕ → ℕ → ℕ
num bytes i zero = 0
num bytes i (suc w) = num bytes i w + bit bytes (i + w) * 2 ^ w

-- A vbr of width w at bit i is a row of chunks of w bits: where chunk j begins.
abbrev pub chunk : ℕ → ℕ → ℕ → ℕ
chunk w i j = i + j * w

-- the top bit of chunk j
abbrev pub more : List ℕ → ℕ → ℕ → ℕ → ℕ
more bytes w i j = bit bytes (chunk w i j + (w - 1))

-- every chunk before `last` has its top bit set, and `last` has not
pub record IsLastChunk (bytes : List ℕ) (w i last : ℕ) : Type 0 where
  pub before : (j : ℕ) → j < last → more bytes w i j ≡ 1
  pub at : more bytes w i last ≡ 0

-- the low w - 1 bits of chunk j times 2 ^ (j * (w - 1)), over the first n chunks
unfoldable pub chunks_value : List ℕ → ℕ → ℕ → ℕ → ℕ
chunks_value bytes w i zero = 0
chunks_value bytes w i (suc j) = chunks_value bytes w i j + num bytes (chunk w i j) (w - 1) * 2 ^ (j * (w - 1))

-- a vbr of width w stands in the bits from i up to `after`, and its value is n
pub record IsVbr (bytes : List ℕ) (w i n after : ℕ) : Type 0 where
  pub last : ℕ
  pub chunks : IsLastChunk bytes w i last
  pub value : n ≡ chunks_value bytes w i (last + 1)
  pub ends : after ≡ chunk w i (last + 1)

-- the characters of 6 bits, as bytes: a to z, A to Z, 0 to 9, the dot and the underscore
abbrev pub char6 : ℕ → ℕ
char6 code =
    if nat_lt code 26 then code + 97
    else if nat_lt code 52 then code - 26 + 65
    else if nat_lt code 62 then code - 52 + 48
    else if code == 62 then 46
    else 95
