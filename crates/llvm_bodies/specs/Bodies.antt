-- The bodies of a module (LLVM 3.7 bitcode file format, "FUNCTION_BLOCK Contents"): the instructions of each, with the values that they give and name.
use Rattle.std.specs.Prelude.{ℕ, ◌≡◌, ◌+◌, ◌-◌, ◌/◌, ◌==◌, ◌&&◌, ◌||◌, List, [], ◌∷◌, length, get_or, map, Option, Some, None, Bool, true, false, not, if◌then◌else◌}
use Rattle.std.specs.List.{list_any, filter, count_by, sum_by}
use Rattle.llvm_items.specs.Sites.{Site, enters, ends, is_record_of, is_record_inside, code_of, fields_of, bit_at}
use Rattle.llvm_layout.specs.Table.{states, rows_of}
use Rattle.llvm_layout.specs.Reads.{back, HasLayout}
use Rattle.llvm_layout.specs.declared.letter.Around.{Around}
use Rattle.llvm_values.specs.Values.{constant_of, type_behind}
use Rattle.llvm_values.specs.declared.global.Global.{Global}
use Rattle.llvm_bodies.specs.Lists.{has_some, behind_last, last_passes, Each, Place, places}
use Rattle.llvm_bodies.specs.declared.facts.Signature.{Signature}
use Rattle.llvm_bodies.specs.declared.facts.ModuleFacts.{ModuleFacts}
use Rattle.llvm_bodies.specs.declared.line.Line.{Line}
use Rattle.llvm_bodies.specs.declared.line.Body.{Body}
use Rattle.llvm_bodies.specs.declared.progress.Progress.{Progress}

-- RET, BR, SWITCH and UNREACHABLE end a block
abbrev pub is_terminator : ℕ → Bool
is_terminator code =
    if code == 10 then true
    else if code == 11 then true
    else if code == 12 then true
    else if code == 15 then true
    else false

-- all records but DECLAREBLOCKS and the two of debug places are instructions
abbrev pub is_instruction : ℕ → Bool
is_instruction code =
    if code == 1 then false
    else if code == 33 then false
    else if code == 35 then false
    else true

-- all instructions but RET, BR, SWITCH, UNREACHABLE and STORE give a value, calls aside
abbrev pub has_value : ℕ → Bool
has_value code =
    if code == 1 then false
    else if code == 10 then false
    else if code == 11 then false
    else if code == 12 then false
    else if code == 15 then false
    else if code == 33 then false
    else if code == 35 then false
    else if code == 44 then false
    else true

-- a record of a block of constants of a body that takes a value number: all but SETTYPE
abbrev pub is_constant : Site → Bool
is_constant s = is_record_inside 12 11 s && not (code_of s.item == 1)

-- the instructions of a body
abbrev pub is_line : Site → Bool
is_line s = is_record_of 12 s && is_instruction (code_of s.item)

-- the sites of the last body that was begun, and of what follows it
abbrev pub part : List Site → List Site
part ss = behind_last (enters 12) ss

abbrev pub records : List Site → List Site
records ss = filter (is_record_of 12) (part ss)

abbrev pub codes : List Site → List ℕ
codes rs = map (λ (s : Site). code_of s.item) rs

-- the cases of a SWITCH and the entries of a PHI
abbrev pub cases_in : ℕ → List ℕ → ℕ
cases_in code fields = if code == 12 then (length fields - 3) / 2 else 0

abbrev pub entries_in : ℕ → List ℕ → ℕ
entries_in code fields = if code == 16 then (length fields - 1) / 2 else 0

-- the bit of the last one
abbrev pub last_bit : List Site → ℕ
last_bit [] = 0
last_bit (s ∷ []) = bit_at s
last_bit (s ∷ t ∷ ss) = last_bit (t ∷ ss)

-- the places of the instructions of the body that is open behind these sites
abbrev pub lines_in : List Site → List (Place Site)
lines_in before = filter (λ (p : Place Site). is_line p.item) (behind_last (λ (p : Place Site). enters 12 p.item || ends 12 p.item) (places before))

-- the constants of this body, each of the type that its block has set before it
abbrev pub constant_at : List ℕ → Place Site → Global
constant_at fs p = constant_of (type_behind fs p.before) (code_of p.item.item) (fields_of fs p.item.item) (bit_at p.item)

abbrev pub constants_in : List ℕ → List Site → List Global
constants_in fs before = map (constant_at fs) (filter (λ (p : Place Site). is_constant p.item) (behind_last (λ (p : Place Site). enters 12 p.item || ends 12 p.item) (places before)))

-- what stands before the end of each body
abbrev pub ended : List Site → List (List Site)
ended ss = map (λ (p : Place Site). p.before) (filter (λ (p : Place Site). ends 12 p.item) (places ss))

abbrev pub no_function : Signature
no_function = record { is_function = false; vararg = false; is_void = false; params = 0 }

module _ (m : ModuleFacts) where
  -- the signature of a value of the module and of a type
  abbrev pub called : ℕ → Signature
  called number = get_or m.callees number no_function

  abbrev pub typed : ℕ → Signature
  typed number = get_or m.types number no_function

  -- The callee of a CALL stands in its third field, or in its fourth where the third states the callee's type.
  abbrev pub callee_of : ℕ → List ℕ → ℕ
  callee_of now fields = back now (get_or fields (if states fields then 3 else 2) 0)

  abbrev pub signature_of : ℕ → List ℕ → Signature
  signature_of now fields = if states fields then typed (get_or fields 2 0) else called (callee_of now fields)

  -- whether a record gives a value; a CALL gives none whose result is void
  abbrev pub gives : ℕ → ℕ → List ℕ → Bool
  gives now code fields = has_value code && not (code == 34 && (signature_of now fields).is_void)

  abbrev pub value_of : ℕ → ℕ → List ℕ → Option ℕ
  value_of now code fields = if gives now code fields then Some now else None

  -- The values of a body are those of the module, its arguments, its constants and those of its instructions, in this order. A body past the last
  -- function with a body has no arguments.
  abbrev pub first_number : ℕ → ℕ
  first_number k = length m.callees + get_or m.arguments k 0

  module _ (fs : List ℕ) where
    abbrev pub number_after : ℕ → Site → ℕ
    number_after now s =
        if is_record_of 12 s then (if gives now (code_of s.item) (fields_of fs s.item) then now + 1 else now)
        else if is_constant s then now + 1
        else now

    abbrev pub number_from : ℕ → List Site → ℕ
    number_from now [] = now
    number_from now (s ∷ ss) = number_from (number_after now s) ss

    -- the current value number behind these sites
    abbrev pub current : List Site → ℕ
    current before = number_from (first_number (count_by (enters 12) before - 1)) (part before)

    -- the blocks that a body's first record declares
    abbrev pub declared_by : List Site → ℕ
    declared_by [] = 0
    declared_by (r ∷ rs) = get_or (fields_of fs r.item) 0 0

    -- What is known behind these sites of the last body that was begun, whose records are `rs`: how many bodies were begun, and the bit of the last
    -- one's entry; the current value number; whether it has a record, and the blocks that the first one declares; the number of the open block, which
    -- is that of the terminators; whether an instruction that is no PHI stands behind the last terminator; whether the last instruction is one; and
    -- how many instructions, cases and entries there are.
    abbrev pub known_by : List Site → List Site → Progress
    known_by ss rs = record {
      bodies = count_by (enters 12) ss;
      bit = last_bit (filter (enters 12) ss);
      now = current ss;
      started = has_some rs;
      blocks = declared_by rs;
      block = count_by is_terminator (codes rs);
      busy = list_any (λ c. is_instruction c && not (c == 16)) (behind_last is_terminator (codes rs));
      closed = last_passes is_terminator (filter is_instruction (codes rs));
      instructions = count_by is_instruction (codes rs);
      cases = sum_by (λ (r : Site). cases_in (code_of r.item) (fields_of fs r.item)) rs;
      entries = sum_by (λ (r : Site). entries_in (code_of r.item) (fields_of fs r.item)) rs;
    }

    abbrev pub known : List Site → Progress
    known before = known_by before (records before)

    -- what the fields of a body's record are read against
    abbrev pub around_of : Progress → Around
    around_of p = record { now = p.now; types = length m.types; blocks = p.blocks }

    -- a line is the instruction here, where this is known before it
    pub record IsLineAt (p : Progress) (s : Site) (line : Line) : Type 0 where
      pub bit : line.bit ≡ bit_at s
      pub block : line.block ≡ p.block
      pub value : line.value ≡ value_of p.now (code_of s.item) (fields_of fs s.item)
      pub code : line.code ≡ code_of s.item
      pub parts : HasLayout (around_of p) (rows_of (code_of s.item) (fields_of fs s.item)) (fields_of fs s.item) (record { numbers = line.numbers; types = line.types; plain = line.plain })

    abbrev pub IsLine : Place Site → Line → Type 0
    IsLine place line = IsLineAt (known place.before) place.item line

    -- a body is the one whose block ends behind these sites
    pub record IsBody (before : List Site) (body : Body) : Type 0 where
      pub bit : body.bit ≡ (known before).bit
      pub blocks : body.blocks ≡ (known before).blocks
      pub values : body.values ≡ (known before).now
      pub constants : body.constants ≡ constants_in fs before
      pub lines : Each IsLine (lines_in before) body.lines

    -- The bodies by position: the k-th is that of the k-th block.
    abbrev pub AreBodies : List Site → List Body → Type 0
    AreBodies ss bodies = Each IsBody (ended ss) bodies
