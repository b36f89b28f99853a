-- The laws of words in bytes.
use Rattle.std.proofs.Common.{◌≡◌, ℕ, ◌/◌, ◌<◌, List, length, get_or, arith}
use Rattle.std.proofs.lemmas.List.FromFn.{length-map-range_with_len, get_or-map-range_with_len}
use Rattle.spirv_words.specs.FileWords.{word_of, words_of}

pub length-words_of : (bytes : List ℕ) → length (words_of bytes) ≡ length bytes / 4
unfolding words_of
length-words_of bytes = length-map-range_with_len (word_of bytes) 0 (length bytes / 4)

pub get_or-words_of : (bytes : List ℕ) (i : ℕ) → i < length bytes / 4 → get_or (words_of bytes) i 0 ≡ word_of bytes i
unfolding words_of
get_or-words_of bytes i h = get_or-map-range_with_len (word_of bytes) 0 (length bytes / 4) i i 0 h (omega arith)

pub ruleset file_words = (length-words_of, get_or-words_of)
