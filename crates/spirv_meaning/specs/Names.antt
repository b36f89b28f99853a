-- The labels of a module at which the blocks of its program begin.
use Rattle.std.specs.Prelude.{ℕ, zero, suc, ◌+◌, ◌-◌, ◌*◌, ◌/◌, ◌%◌, ◌^◌, max, Bool, true, false, ◌&&◌, List, [], ◌∷◌, ◌++◌, drop, Option, Some, None, nat_eq, nat_lt, if◌then◌else◌, slice_get, get_or}
use Rattle.std.specs.List.{list_any}
use Rattle.spv_form.specs.declared.module.Inst.{Inst}
use Rattle.spv_form.specs.declared.module.Module.{Module}

-- the words of a string (SPIR-V 1.6, Literal, under Instructions): four bytes in each, the least significant first, with a zero byte and a fill of zeros
abbrev pub text_words : List ℕ → List ℕ
text_words [] = 0 ∷ []
text_words (a ∷ []) = a ∷ []
text_words (a ∷ b ∷ []) = (a + 256 * b) ∷ []
text_words (a ∷ b ∷ c ∷ []) = (a + 256 * b + 65536 * c) ∷ []
text_words (a ∷ b ∷ c ∷ d ∷ rest) = (a + 256 * b + 65536 * c + 16777216 * d) ∷ text_words rest

-- the first four bytes as a word, with zeros for those that are missing
abbrev pub word_of : List ℕ → ℕ
word_of bytes = get_or bytes 0 0 + 256 * get_or bytes 1 0 + 65536 * get_or bytes 2 0 + 16777216 * get_or bytes 3 0

-- the decimal digits of a number that has at most this many, as bytes, before those that follow
abbrev pub digits : ℕ → ℕ → List ℕ → List ℕ
digits zero n after = after
digits (suc most) n after =
    if nat_lt n 10 then (48 + n) ∷ after else digits most (n / 10) ((48 + n % 10) ∷ after)

-- `b` and the decimal number, which is below 2 ^ 32, as bytes
abbrev pub block_text : ℕ → List ℕ
block_text k = 98 ∷ digits 10 k []

-- the words of the name of block k
abbrev pub block_name : ℕ → List ℕ
block_name k = text_words (block_text k)

abbrev pub same_words : List ℕ → List ℕ → Bool
same_words [] [] = true
same_words (x ∷ xs) (y ∷ ys) = nat_eq x y && same_words xs ys
same_words [] (y ∷ ys) = false
same_words (x ∷ xs) [] = false

abbrev pub named_in : List ℕ → List ℕ → Option ℕ
named_in name [] = None
named_in name (id ∷ text) = if same_words text name then Some id else None

-- the id that an OpName gives this name
abbrev pub named_by : List ℕ → Inst → Option ℕ
named_by name inst = if nat_eq inst.opcode 5 then named_in name inst.operands else None

-- the id of an OpLabel
abbrev pub label_of : Inst → Option ℕ
label_of inst = if nat_eq inst.opcode 248 then slice_get inst.operands 0 else None

abbrev pub is_some_at : Option ℕ → ℕ → Bool
is_some_at None id = false
is_some_at (Some x) id = nat_eq x id

-- an OpName of the module gives this name to the id
abbrev pub is_named : List Inst → List ℕ → Option ℕ → Bool
is_named insts name None = false
is_named insts name (Some id) = list_any (λ inst. is_some_at (named_by name inst) id) insts

-- The place at which the one instruction stands that passes, counted from n. There is none where no instruction passes or several do.
abbrev pub only_place : (Inst → Bool) → ℕ → List Inst → Option ℕ
only_place test n [] = None
only_place test n (i ∷ is) =
    if test i then (if list_any test is then None else Some n) else only_place test (suc n) is

-- the label is one that an OpName calls `b` and the number
abbrev pub is_label_of : Module → ℕ → Inst → Bool
is_label_of m k inst = is_named m.insts (block_name k) (label_of inst)

-- the site of block k: the place of the one label that an OpName calls `b` and the number; no number from 2 ^ 32 on has a site
abbrev pub site : Module → ℕ → Option ℕ
site m k = if nat_lt k (2 ^ 32) then only_place (is_label_of m k) 0 m.insts else None

-- by rising number, the numbers below n that pass
abbrev pub those_below : ℕ → (ℕ → Bool) → List ℕ
those_below zero test = []
those_below (suc n) test = those_below n test ++ (if test n then n ∷ [] else [])

-- a further digit of a number; other bytes are passed over
abbrev pub digit : ℕ → ℕ → ℕ
digit byte n = if nat_lt 47 byte && nat_lt byte 58 then 10 * n + (byte - 48) else n

-- the number that the digits in words spell
abbrev pub number_in : List ℕ → ℕ → ℕ
number_in [] n = n
number_in (w ∷ ws) n =
    number_in ws (digit (w / 16777216) (digit (w / 65536 % 256) (digit (w / 256 % 256) (digit (w % 256) n))))

-- a number above all those that a name spells, so that no block from there on has a site
abbrev pub above_names : List Inst → ℕ
above_names [] = 0
above_names (i ∷ is) = max (if nat_eq i.opcode 5 then suc (number_in (drop 1 i.operands) 0) else 0) (above_names is)

-- the blocks that begin where the label at this place is passed, by rising number: each whose site it is
abbrev pub begun_at : Module → ℕ → List ℕ
begun_at m place = those_below (above_names m.insts) (λ k. is_some_at (site m k) place)
