-- The file of the words holds their module.
use Rattle.std.proofs.Common.{◌≡◌, ℕ, ◌*◌, ◌%◌, List, [], ◌∷◌, ◌++◌, length, refl, sym, ap, subst, arith, length-append}
use Rattle.std.specs.Int.{to_le_bytes, w32}
use Rattle.std.proofs.lemmas.List.Concat.{flat_map-cons}
use Rattle.dx_base.specs.WordBytes.{bytes_of_words}
use Rattle.spv_form.specs.WordRules.{IsModule}
use Rattle.spirv_words.proofs.RoundTrip.{words_of-bytes_of_words}
use Rattle.accepted_words.specs.Laws.{WordsAreAccepted}

bytes_length : (words : List ℕ) → length (bytes_of_words words) ≡ 4 * length words
bytes_length [] = refl
bytes_length (w ∷ ws) =
    let bytes : length (bytes_of_words (w ∷ ws)) ≡ length (to_le_bytes w32 w ++ bytes_of_words ws) = ap length (flat_map-cons (to_le_bytes w32) w ws) in
    let more = bytes_length ws in
    omega (arith, bytes, length-append (to_le_bytes w32 w) (bytes_of_words ws), more)

whole : (words : List ℕ) → length (bytes_of_words words) % 4 ≡ 0
whole words =
    let long = bytes_length words in
    omega (arith, long)

pub words_are_accepted : WordsAreAccepted
words_are_accepted p version words are is = record {
  m = is.made;
  holds = record {
    whole = whole words;
    is_module = subst (λ ws. IsModule ws is.made) (sym (words_of-bytes_of_words words are)) is.spelled;
    formed = is.formed;
  };
  rules = is.keeps.rules;
  structure = is.keeps.structure;
}
