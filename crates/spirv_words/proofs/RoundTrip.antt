-- The words of a module are read as this module again.
use Rattle.std.proofs.Common.{◌≡◌, ℕ, ◌+◌, ◌*◌, ◌%◌, ◌^◌, ◌<◌, ◌≤◌, inl, inr, List, [], ◌∷◌, ◌++◌, length, take, get_or, refl, sym, ◌∙◌, ap, subst, arith, All, Result, Ok, Err, length-append, length-take, lit<}
use Rattle.std.specs.Int.{to_le_bytes, w32}
use Rattle.std.specs.List.{flat_map}
use Rattle.std.proofs.lemmas.Bool.{cases_lt}
use Rattle.std.proofs.lemmas.Nat.{from_le_bytes-to_le_bytes_4}
use Rattle.std.proofs.lemmas.List.{ext_get_or}
use Rattle.std.proofs.lemmas.List.Concat.{get_or-flat_map, flat_map-cons}
use Rattle.std.proofs.lemmas.Grind.{same_number_lists}
use Rattle.std.proofs.lemmas.Option.{get_or_from_slice_get}
use Rattle.dx_base.specs.First.{IsFirst, IsSound}
use Rattle.dx_base.specs.WordBytes.{bytes_of_words}
use Rattle.spv_form.specs.declared.module.Inst.{Inst}
use Rattle.spv_form.specs.declared.module.Version.{Version}
use Rattle.spv_form.specs.declared.module.Version.TheVariants.{V13, V16}
use Rattle.spv_form.specs.Versions.{version_word}
use Rattle.spv_form.specs.declared.module.Module.{Module}
use Rattle.spv_form.specs.declared.fault.CheckFault.{CheckFault}
use Rattle.spv_form.specs.declared.fault.CheckFault.TheVariants.{Refused, OutOfMemory}
use Rattle.spv_form.specs.declared.fault.WordRule.TheVariants.{W, V, S}
use Rattle.spv_form.specs.Formed.{IsFormed}
use Rattle.spv_form.specs.Words.{magic, start_of, IsLayout}
use Rattle.spv_form.specs.WordRules.{inst_at, Broken}
use Rattle.spirv_words.specs.FileWords.{word_of, words_of}
use Rattle.spirv_words.specs.Reading.{AreRead, IsHeader, ReadAnswer, WordsAnswer, ReadsBack, IsReadAs}
use Rattle.spirv_words.proofs.FileWordLaws.{length-words_of, get_or-words_of}
use Rattle.spirv_words.proofs.ModuleLaws.{nothing, is_there, begin-start, sound_of_insts}

-- ---- the words of the bytes of words
length-bytes_of_words : (words : List ℕ) → length (bytes_of_words words) ≡ 4 * length words
length-bytes_of_words [] = refl
length-bytes_of_words (w ∷ ws) =
    let bytes : length (bytes_of_words (w ∷ ws)) ≡ length (to_le_bytes w32 w ++ bytes_of_words ws) = ap length (flat_map-cons (to_le_bytes w32) w ws) in
    let more = length-bytes_of_words ws in
    omega (arith, bytes, length-append (to_le_bytes w32 w) (bytes_of_words ws), more)

byte-at : (words : List ℕ) (k j n : ℕ) → k < length words → j < 4 → n ≡ 4 * k + j → get_or (bytes_of_words words) n 0 ≡ get_or (to_le_bytes w32 (get_or words k 0)) j 0
byte-at words k j n h b e =
    let before : length (flat_map (to_le_bytes w32) (take k words)) ≡ 4 * length (take k words) = length-bytes_of_words (take k words) in
    let place : n ≡ length (flat_map (to_le_bytes w32) (take k words)) + j = omega (arith, before, length-take k words, e, h) in
    rw place (get_or-flat_map (to_le_bytes w32) words k j 0 0 h b)

four-bytes : (bytes : List ℕ) (w i : ℕ) → w < 2 ^ 32 → get_or bytes (4 * i) 0 ≡ get_or (to_le_bytes w32 w) 0 0 → get_or bytes (4 * i + 1) 0 ≡ get_or (to_le_bytes w32 w) 1 0
    → get_or bytes (4 * i + 2) 0 ≡ get_or (to_le_bytes w32 w) 2 0 → get_or bytes (4 * i + 3) 0 ≡ get_or (to_le_bytes w32 w) 3 0 → word_of bytes i ≡ w
four-bytes bytes w i h a b c d = rw (a, b, c, d) (from_le_bytes-to_le_bytes_4 w h)

pub words_of-bytes_of_words : (words : List ℕ) → All (λ w. w < 2 ^ 32) words → words_of (bytes_of_words words) ≡ words
words_of-bytes_of_words words small =
    let bytes : length (bytes_of_words words) ≡ 4 * length words = length-bytes_of_words words in
    let long : length (words_of (bytes_of_words words)) ≡ length words = omega (arith, length-words_of (bytes_of_words words), bytes) in
    same_number_lists (words_of (bytes_of_words words)) words long
    (λ k h.
    let within : k < length words = omega (arith, long, h) in
    get_or-words_of (bytes_of_words words) k (omega (arith, bytes, within))
    ∙ four-bytes (bytes_of_words words) (get_or words k 0) k (small k 0 within) (byte-at words k 0 (4 * k) within (lit< tt) (omega arith)) (byte-at words k 1 (4 * k + 1) within (lit< tt) refl) (byte-at words k 2 (4 * k + 2) within (lit< tt) refl) (byte-at words k 3 (4 * k + 3) within (lit< tt) refl))

-- ---- one module has these words
module _ (words : List ℕ) (bound other : ℕ) (xs ys : List Inst) (r : AreRead words bound xs) (q : AreRead words other ys) where
  no_longer : length words ≡ start_of ys (length ys) → length xs ≤ length ys
  no_longer e = elim (cases_lt (length ys) (length xs)) [
    | inl h ↦
        let there = is_there words bound xs r (length ys) nothing h in
        let one = begin-start words bound xs r (length ys) (omega arith) in
        let two = begin-start words other ys q (length ys) (omega arith) in
        absurd (let far = there.ends in omega (arith, far, one, two, e))
    | inr h ↦ h
  ]

  same-inst : (i : ℕ) → i < length xs → i < length ys → get_or xs i nothing ≡ get_or ys i nothing
  same-inst i h k =
      let start : start_of xs i ≡ start_of ys i = sym (begin-start words bound xs r i (omega arith)) ∙ begin-start words other ys q i (omega arith) in
      sym (is_there words bound xs r i nothing h).inst ∙ ap (inst_at words) start ∙ (is_there words other ys q i nothing k).inst

same_insts : (words : List ℕ) (bound other : ℕ) (xs ys : List Inst) → AreRead words bound xs → AreRead words other ys → length words ≡ start_of xs (length xs) → length words ≡ start_of ys (length ys) → xs ≡ ys
same_insts words bound other xs ys r q e f =
    let up : length xs ≤ length ys = no_longer words bound other xs ys r q f in
    let down : length ys ≤ length xs = no_longer words other bound ys xs q r e in
    ext_get_or nothing xs ys (omega arith) (λ i h. same-inst words bound other xs ys r q i h (omega arith))

same_module : (v w : Version) (a b : ℕ) (xs ys : List Inst) → v ≡ w → a ≡ b → xs ≡ ys → ◌≡◌ {A = Module} (record { version = v; bound = a; insts = xs }) (record { version = w; bound = b; insts = ys })
same_module v w a b xs ys e f g = cc

same_version : (v w : Version) → version_word v ≡ version_word w → v ≡ w
same_version V13 V13 e = refl
same_version V13 V16 e = absurd (omega arith)
same_version V16 V13 e = absurd (omega arith)
same_version V16 V16 e = refl

read_of : (words : List ℕ) (m : Module) → IsLayout words m → IsFormed m → AreRead words m.bound m.insts
read_of words m l f = record { each = l.each; formed = f }

header_of : (words : List ℕ) (m : Module) → IsLayout words m → IsHeader words m.version m.bound
header_of words m l = record {
  long = omega (arith, l.ends);
  magic = get_or_from_slice_get words 0 magic 0 l.magic;
  states = get_or_from_slice_get words 1 (version_word m.version) 0 l.version;
  limit = get_or_from_slice_get words 3 m.bound 0 l.bound;
  schema = get_or_from_slice_get words 4 0 0 l.schema;
}

pub same_layout : (words : List ℕ) (m n : Module) → IsLayout words m → IsFormed m → IsLayout words n → IsFormed n → m ≡ n
same_layout words m n l f k g =
    same_module m.version n.version m.bound n.bound m.insts n.insts (same_version m.version n.version (sym (get_or_from_slice_get words 1 (version_word m.version) 0 l.version) ∙ get_or_from_slice_get words 1 (version_word n.version) 0 k.version))
    (sym (get_or_from_slice_get words 3 m.bound 0 l.bound) ∙ get_or_from_slice_get words 3 n.bound 0 k.bound) (same_insts words m.bound n.bound m.insts n.insts (read_of words m l f) (read_of words n k g) l.ends k.ends)

-- ---- the words of a module break no rule, and are read as it
pub sound_of_layout : (words : List ℕ) (m : Module) → IsLayout words m → IsFormed m → IsSound (Broken words 0)
sound_of_layout words m l f = sound_of_insts words m.bound m.insts (read_of words m l f) m.version (header_of words m l) l.ends

module _ (bytes words : List ℕ) (m : Module) (small : All (λ w. w < 2 ^ 32) words) (e : bytes ≡ bytes_of_words words) (l : IsLayout words m) (f : IsFormed m) where
  words-are : words_of bytes ≡ words
  words-are = ap words_of e ∙ words_of-bytes_of_words words small

  none-over : length bytes % 4 ≡ 0
  none-over = let long : length bytes ≡ 4 * length words = ap length e ∙ length-bytes_of_words words in omega (arith, long)

  read_as : (result : Result Module CheckFault) → ReadAnswer result bytes → IsReadAs result m
  read_as (Ok r) a = let k : IsLayout words r = subst (λ ws. IsLayout ws r) words-are a.1.layout in same_layout words r m k a.2 l f
  read_as (Err (Refused (W rule) word)) a =
      absurd ((sound_of_layout words m l f).none rule word (subst (λ n. Broken words n rule word) none-over (subst (λ ws. Broken ws (length bytes % 4) rule word) words-are a.broken)))
  read_as (Err (Refused (V rule) word)) a = absurd a
  read_as (Err (Refused (S rule) word)) a = absurd a
  read_as (Err OutOfMemory) a = refl

pub reads_back : (result : Result Module CheckFault) (bytes : List ℕ) → ReadAnswer result bytes → ReadsBack result bytes
reads_back result bytes a = λ m words small e l f. read_as bytes words m small e l f result a

-- the answer over the bytes is the one over their words, where no byte is left over
pub read_of_words : (result : Result Module CheckFault) (bytes : List ℕ) → length bytes % 4 ≡ 0 → WordsAnswer result (words_of bytes) → ReadAnswer result bytes
read_of_words (Ok m) bytes e a = (e, a.0, a.1)
read_of_words (Err (Refused (W rule) word)) bytes e a = subst (λ n. IsFirst (Broken (words_of bytes) n) rule word) (sym e) a
read_of_words (Err (Refused (V rule) word)) bytes e a = a
read_of_words (Err (Refused (S rule) word)) bytes e a = a
read_of_words (Err OutOfMemory) bytes e a = tt
