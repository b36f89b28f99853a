-- The words in the bytes of a file, four bytes each, the least significant first.
use Rattle.std.specs.Prelude.{ℕ, ◌+◌, ◌*◌, ◌/◌, List, [], ◌∷◌, length, get_or, map}
use Rattle.std.specs.List.{range_with_len}
use Rattle.std.specs.Int.{from_le_bytes, w32}

-- the word of the four bytes from byte 4 * i on
abbrev pub word_of : List ℕ → ℕ → ℕ
word_of bytes i = from_le_bytes w32 (get_or bytes (4 * i) 0 ∷ get_or bytes (4 * i + 1) 0 ∷ get_or bytes (4 * i + 2) 0 ∷ get_or bytes (4 * i + 3) 0 ∷ [])

-- the whole words; up to three bytes may be left over
unfoldable pub words_of : List ℕ → List ℕ
words_of bytes = map (word_of bytes) (range_with_len 0 (length bytes / 4))
