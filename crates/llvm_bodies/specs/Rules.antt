-- The rules of the bodies, M7 to M11, and their limits: which of them is broken or reached, at which bit. Where several are, the one of least bit counts,
-- and at one bit the one of least number. The limits of declared blocks, instructions, cases and phi entries have the numbers 12 to 15.
use Rattle.std.specs.Prelude.{ℕ, ◌≡◌, ◌+◌, ◌==◌, ◌&&◌, ◌||◌, List, [], ◌∷◌, length, get_or, Option, Some, None, Bool, true, false, not, nat_lt, if◌then◌else◌}
use Rattle.llvm_items.specs.Sites.{Site, sites, ends, ends_module, is_record_of, code_of, fields_of, bit_at}
use Rattle.bitstream_spelling.specs.declared.item.Item.{Item}
use Rattle.dx_base.specs.First.{IsBroken}
use Rattle.dx_base.specs.Sentences.{holds}
use Rattle.llvm_layout.specs.Table.{rows_of, is_listed}
use Rattle.llvm_layout.specs.Reads.{HasLayout, NoLayout}
use Rattle.llvm_layout.specs.declared.letter.Around.{Around}
use Rattle.llvm_layout.specs.declared.letter.Parts.{Parts}
use Rattle.llvm_bodies.specs.declared.facts.ModuleFacts.{ModuleFacts}
use Rattle.llvm_bodies.specs.declared.progress.Progress.{Progress}
use Rattle.llvm_bodies.specs.Bodies.{called, callee_of, signature_of, is_instruction, cases_in, entries_in, known, around_of}

-- what the fields of a record say by a layout of its code; None where they have none
abbrev pub Says : Around → ℕ → List ℕ → Option Parts → Type 0
Says x code fields None = NoLayout x (rows_of code fields) fields
Says x code fields (Some parts) = HasLayout x (rows_of code fields) fields parts

-- how many operands it names
abbrev pub operands_of : Option Parts → ℕ
operands_of None = 0
operands_of (Some parts) = length parts.numbers

abbrev pub has_parts : Option Parts → Bool
has_parts None = false
has_parts (Some parts) = true

-- the count is within the limit and passes it with this record, which adds so many
abbrev pub passes : ℕ → ℕ → ℕ → Bool
passes limit count more = not (nat_lt limit count) && nat_lt limit (count + more)

module _ (m : ModuleFacts) (p : Progress) (code : ℕ) (fields : List ℕ) where
  -- M7: the code is not listed, or the first record is not DECLAREBLOCKS with a count of 1 or more, or another one is.
  abbrev pub m7 : Bool
  m7 = not (is_listed code) || (if p.started then code == 1 else not (code == 1 && nat_lt 0 (get_or fields 0 0)))

  -- the callee is no function, or the type that is stated is no function type, or this type is variadic
  abbrev pub is_bad_call : Bool
  is_bad_call = not (called m (callee_of m p.now fields)).is_function || not (signature_of m p.now fields).is_function || (signature_of m p.now fields).vararg

  -- M8: the fields have no layout of the code, a PHI stands behind another instruction of its block, or a CALL whose callee is right has not one
  -- argument for each parameter.
  abbrev pub m8 : Option Parts → Bool
  m8 parts = not (has_parts parts) || (code == 16 && p.busy)
      || (code == 34 && not is_bad_call && not (operands_of parts == (signature_of m p.now fields).params + 1))

  -- M9: a CALL's callee is wrong.
  abbrev pub m9 : Bool
  m9 = code == 34 && is_bad_call

  -- The limits: a body declares at most 8,192 blocks, it has at most 32,768 instructions, and at most 65,536 cases of its switches and 262,144 entries
  -- of its phis.
  abbrev pub many_blocks : Bool
  many_blocks = code == 1 && nat_lt 8192 (get_or fields 0 0)

  abbrev pub many_instructions : Bool
  many_instructions = passes 32768 p.instructions (if is_instruction code then 1 else 0)

  abbrev pub many_cases : Bool
  many_cases = passes 65536 p.cases (cases_in code fields)

  abbrev pub many_entries : Bool
  many_entries = passes 262144 p.entries (entries_in code fields)

-- M10: a body has not as many terminators as declared blocks, or its last instruction is none.
abbrev pub m10 : Progress → Bool
m10 p = not (p.block == p.blocks) || not p.closed

-- M11: the module has not as many bodies as functions that have one.
abbrev pub m11 : ModuleFacts → Progress → Bool
m11 m p = not (p.bodies == length m.arguments)

-- the sentences at a place in number order; the first six are those of the module's records
abbrev pub tests : ModuleFacts → List ℕ → Progress → Option Parts → Site → List Bool
tests m fs p parts s =
    false ∷ false ∷ false ∷ false ∷ false ∷ false
    ∷ (is_record_of 12 s && m7 m p (code_of s.item) (fields_of fs s.item))
    ∷ (is_record_of 12 s && m8 m p (code_of s.item) (fields_of fs s.item) parts)
    ∷ (is_record_of 12 s && m9 m p (code_of s.item) (fields_of fs s.item))
    ∷ (ends 12 s && m10 p)
    ∷ (ends_module s && m11 m p)
    ∷ (is_record_of 12 s && many_blocks m p (code_of s.item) (fields_of fs s.item))
    ∷ (is_record_of 12 s && many_instructions m p (code_of s.item) (fields_of fs s.item))
    ∷ (is_record_of 12 s && many_cases m p (code_of s.item) (fields_of fs s.item))
    ∷ (is_record_of 12 s && many_entries m p (code_of s.item) (fields_of fs s.item))
    ∷ []

module _ (m : ModuleFacts) (fs : List ℕ) where
  -- a rule is broken at a place behind these sites
  pub record Breaks (before : List Site) (s : Site) (rule : ℕ) : Type 0 where
    pub parts : Option Parts
    pub says : is_record_of 12 s ≡ true → Says (around_of m fs (known m fs before)) (code_of s.item) (fields_of fs s.item) parts
    pub breaks : holds (tests m fs (known m fs before) parts s) rule ≡ true

-- A rule is broken at a bit of a file's items.
abbrev pub Broken : ModuleFacts → List Item → List ℕ → ℕ → ℕ → Type 0
Broken m is fs rule bit = IsBroken bit_at (Breaks m fs) (sites is) rule bit
