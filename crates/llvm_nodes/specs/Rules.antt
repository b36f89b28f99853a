-- The rules of the metadata, N1 to N4: which of them is broken, at which bit. Where several are, the one of least bit counts, and at one bit the one of
-- least number.
use Rattle.std.specs.Prelude.{ℕ, ◌==◌, ◌&&◌, ◌+◌, List, [], ◌∷◌, length, drop, get_or, Bool, true, false, not, nat_lt, None, is_some, if◌then◌else◌}
use Rattle.std.specs.List.{list_all}
use Rattle.llvm_items.specs.Sites.{Site, sites, is_record, is_record_of, code_of, fields_of, bit_at}
use Rattle.bitstream_spelling.specs.declared.item.Item.{Item}
use Rattle.dx_base.specs.First.{IsBroken}
use Rattle.dx_base.specs.Sentences.{Stated}
use Rattle.llvm_nodes.specs.Metadata.{is_listed, is_skip, name_behind, numbered}

-- Directly behind a record of the metadata a NAMED_NODE of the same block follows: these are the items behind it, of which skipped blocks do not count.
-- No block is read in a block of metadata.
abbrev pub is_followed : List Item → Bool
is_followed [] = false
is_followed (i ∷ is) = if is_skip i then is_followed is else is_record i && code_of i == 10

-- A VALUE has two fields, a NAMED_NODE follows directly behind a NAME, and a NAME stands directly before a NAMED_NODE.
abbrev pub is_formed : Bool → Bool → ℕ → List ℕ → Bool
is_formed named followed code fields =
    if code == 2 then length fields == 2
    else if code == 4 then followed
    else if code == 10 then named
    else true

-- The ids of a NODE or DISTINCT_NODE, which stand plus one, and of a NAMED_NODE are below `count`.
abbrev pub has_ids : ℕ → ℕ → List ℕ → Bool
has_ids count code fields =
    if code == 3 then list_all (λ id. nat_lt id (count + 1)) fields
    else if code == 5 then list_all (λ id. nat_lt id (count + 1)) fields
    else if code == 10 then list_all (λ id. nat_lt id count) fields
    else true

-- The numbers of a VALUE are those of a type and of a value of the module, which has so many of them.
abbrev pub has_value : ℕ → ℕ → ℕ → List ℕ → Bool
has_value types values code fields =
    if code == 2 then nat_lt (get_or fields 0 0) types && nat_lt (get_or fields 1 0) values
    else true

-- N1: the code of a record in a block of metadata is not listed.
abbrev pub n1 : Site → Bool
n1 s = is_record_of 15 s && not (is_listed (code_of s.item))

-- N2: a VALUE has not two fields, a NAME is not directly followed by a NAMED_NODE, or a NAMED_NODE does not directly follow a NAME.
abbrev pub n2 : List ℕ → Bool → List Item → Site → Bool
n2 fs named behind s = is_record_of 15 s && not (is_formed named (is_followed behind) (code_of s.item) (fields_of fs s.item))

-- N3: an id is not below the number of records that take one.
abbrev pub n3 : List ℕ → ℕ → Site → Bool
n3 fs count s = is_record_of 15 s && not (has_ids count (code_of s.item) (fields_of fs s.item))

-- N4: the type number or the value number of a VALUE is none of the module.
abbrev pub n4 : List ℕ → ℕ → ℕ → Site → Bool
n4 fs types values s = is_record_of 15 s && not (has_value types values (code_of s.item) (fields_of fs s.item))

abbrev pub tests : List ℕ → ℕ → ℕ → ℕ → Bool → List Item → Site → List Bool
tests fs count types values named behind s = n1 s ∷ n2 fs named behind s ∷ n3 fs count s ∷ n4 fs types values s ∷ []

-- the sentences at a place of these items, behind these sites
abbrev pub sentences : List Item → List ℕ → ℕ → ℕ → List Site → Site → List Bool
sentences is fs types values before s =
    tests fs (length (numbered is)) types values (is_some (name_behind fs None before)) (drop (length before + 1) is) s

-- A rule is broken at a bit of a file's items, where the module has so many types and values.
abbrev pub Broken : List Item → List ℕ → ℕ → ℕ → ℕ → ℕ → Type 0
Broken is fs types values rule bit = IsBroken bit_at (Stated (sentences is fs types values)) (sites is) rule bit
