-- The table of layouts (LLVM 3.7 bitcode file format, "FUNCTION_BLOCK Contents"): of each record code its alternatives, a row of letters and the row
-- that may follow any number of times.
use Rattle.std.specs.Prelude.{ℕ, List, [], ◌∷◌, ◌==◌, ◌^◌, ◌/◌, ◌%◌, if◌then◌else◌, Bool, true, false}
use Rattle.llvm_layout.specs.declared.letter.Letter.{Letter}
use Rattle.llvm_layout.specs.declared.letter.Form.{Form}
use Rattle.llvm_layout.specs.declared.letter.Letter.TheVariants.{Typed, Back, Signed, Absolute, TypeNumber, BlockNumber, Plain}

pub record Row : Type 0 where
  pub head : List Letter
  pub again : List Letter

abbrev pub once : List Letter → Row
once letters = record { head = letters; again = [] }

abbrev pub then_many : List Letter → List Letter → Row
then_many letters more = record { head = letters; again = more }

abbrev pub seen : Form → Row
seen f = record { head = f.head.now; again = f.again.now }

abbrev pub forms : ℕ → List Row
forms code =
    -- DECLAREBLOCKS
    if code == 1 then once (Plain ∷ []) ∷ [] else
    -- BINOP
    if code == 2 then once (Typed ∷ Back ∷ Plain ∷ []) ∷ once (Typed ∷ Back ∷ Plain ∷ Plain ∷ []) ∷ [] else
    -- CAST
    if code == 3 then once (Typed ∷ TypeNumber ∷ Plain ∷ []) ∷ [] else
    -- RET
    if code == 10 then once ([]) ∷ once (Typed ∷ []) ∷ [] else
    -- BR
    if code == 11 then once (BlockNumber ∷ []) ∷ once (BlockNumber ∷ BlockNumber ∷ Back ∷ []) ∷ [] else
    -- SWITCH
    if code == 12 then then_many (TypeNumber ∷ Back ∷ BlockNumber ∷ []) (Absolute ∷ BlockNumber ∷ []) ∷ [] else
    -- UNREACHABLE
    if code == 15 then once ([]) ∷ [] else
    -- PHI
    if code == 16 then then_many (TypeNumber ∷ []) (Signed ∷ BlockNumber ∷ []) ∷ [] else
    -- ALLOCA
    if code == 19 then then_many ([]) (Plain ∷ []) ∷ [] else
    -- LOAD
    if code == 20 then once (Typed ∷ Plain ∷ Plain ∷ []) ∷ once (Typed ∷ TypeNumber ∷ Plain ∷ Plain ∷ []) ∷ [] else
    -- EXTRACTVAL
    if code == 26 then then_many (Typed ∷ Plain ∷ []) (Plain ∷ []) ∷ [] else
    -- CMP2
    if code == 28 then once (Typed ∷ Back ∷ Plain ∷ []) ∷ once (Typed ∷ Back ∷ Plain ∷ Plain ∷ []) ∷ [] else
    -- VSELECT
    if code == 29 then once (Typed ∷ Back ∷ Typed ∷ []) ∷ [] else
    -- DEBUG_LOC_AGAIN
    if code == 33 then then_many ([]) (Plain ∷ []) ∷ [] else
    -- DEBUG_LOC
    if code == 35 then then_many ([]) (Plain ∷ []) ∷ [] else
    -- ATOMICRMW
    if code == 38 then once (Typed ∷ Back ∷ Plain ∷ Plain ∷ Plain ∷ Plain ∷ []) ∷ [] else
    -- GEP
    if code == 43 then then_many (Plain ∷ TypeNumber ∷ Typed ∷ []) (Typed ∷ []) ∷ [] else
    -- STORE
    if code == 44 then once (Typed ∷ Typed ∷ Plain ∷ Plain ∷ []) ∷ [] else
    -- CMPXCHG
    if code == 46 then once (Typed ∷ Typed ∷ Back ∷ Plain ∷ Plain ∷ Plain ∷ []) ∷ once (Typed ∷ Typed ∷ Back ∷ Plain ∷ Plain ∷ Plain ∷ Plain ∷ []) ∷ once (Typed ∷ Typed ∷ Back ∷ Plain ∷ Plain ∷ Plain ∷ Plain ∷ Plain ∷ []) ∷ [] else
    []

-- the codes of the table
abbrev pub is_listed : ℕ → Bool
is_listed code =
    if code == 1 then true
    else if code == 2 then true
    else if code == 3 then true
    else if code == 10 then true
    else if code == 11 then true
    else if code == 12 then true
    else if code == 15 then true
    else if code == 16 then true
    else if code == 19 then true
    else if code == 20 then true
    else if code == 26 then true
    else if code == 28 then true
    else if code == 29 then true
    else if code == 33 then true
    else if code == 34 then true
    else if code == 35 then true
    else if code == 38 then true
    else if code == 43 then true
    else if code == 44 then true
    else if code == 46 then true
    else false

-- CALL: a call, whose convention says whether it states its callee's type
abbrev pub call_forms : Bool → List Row
call_forms states = if states then then_many (Plain ∷ Plain ∷ TypeNumber ∷ Typed ∷ []) (Back ∷ []) ∷ [] else then_many (Plain ∷ Plain ∷ Typed ∷ []) (Back ∷ []) ∷ []

-- whether the convention of a call, its second field, has bit 15, which says that the callee's type is stated
abbrev pub states : List ℕ → Bool
states (attributes ∷ convention ∷ rest) = convention / 2 ^ 15 % 2 == 1
states fields = false

-- the layouts that a record may have
abbrev pub rows_of : ℕ → List ℕ → List Row
rows_of code fields = if code == 34 then call_forms (states fields) else forms code
