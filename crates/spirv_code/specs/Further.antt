-- Which variables the code of a program has besides those of phis and of crossing registers.
use Rattle.std.specs.Prelude.{Bool, true, false, ◌||◌, List, [], ◌∷◌, ◌++◌, map, Option, Some, None, slice_get, nat_lt, if◌then◌else◌}
use Rattle.std.specs.List.{flat_map, list_any}
use Rattle.dxil_form.specs.declared.value.Ty.TheVariants as ty
use Rattle.dxil_form.specs.declared.value.Operand.{Operand}
use Rattle.dxil_form.specs.declared.value.Operand.TheVariants as operand
use Rattle.dxil_form.specs.declared.instr.Instr.{Instr}
use Rattle.dxil_form.specs.declared.instr.Instr.TheVariants.{Load, Store, Atomic, Swap}
use Rattle.dxil_form.specs.declared.block.Term.{Term}
use Rattle.dxil_form.specs.declared.block.Block.{Block}
use Rattle.dxil_form.specs.declared.program.Program.{Program}
use Rattle.dxil_form.specs.declared.region.Region.{Region}
use Rattle.dxil_form.specs.declared.region.Region.TheVariants as region
use Rattle.dxil_form.specs.Registers.{part_of, parts_of, reads, term_operands}
use Rattle.dxil_form.specs.Sound.{cases_in}
use Rattle.spirv_code.specs.declared.key.Slot.{Slot}
use Rattle.spirv_code.specs.declared.key.Slot.TheVariants.{Want, Pick}
use Rattle.spirv_code.specs.Keys.{same_slot}
use Rattle.spirv_code.specs.Plans.{kept}
use Rattle.spirv_code.specs.Leaves.{most_pairs}

-- ---- registers: those that an access sets or reads, and those that are read in a block behind an access

-- a range test stands in the code of the instruction, and no register is known behind it
abbrev pub is_access : Instr → Bool
is_access (Load to mask target addr) = true
is_access (Store mask target addr x y z w) = true
is_access (Atomic to op target addr value) = true
is_access (Swap to target addr compare value) = true
is_access _ = false

-- the register that an operand names
abbrev pub named : Operand → List Slot
named (operand.Reg reg t) = kept reg t ∷ []
named (operand.Int n) = []
named (operand.Bool b) = []
named (operand.Undef t) = []

-- the registers that an access sets
abbrev pub access_sets : Instr → List Slot
access_sets (Load to mask target addr) = map (λ c. kept (part_of to c) ty.Int) (parts_of mask)
access_sets (Atomic to op target addr value) = kept to ty.Int ∷ []
access_sets (Swap to target addr compare value) =
    kept (part_of to 0) ty.Int ∷ kept (part_of to 1) ty.Bool ∷ []
access_sets _ = []

abbrev pub named_all : List Operand → List Slot
named_all operands = flat_map named operands

abbrev pub line_slots : (behind : Bool) → Instr → List Slot
line_slots behind line =
    access_sets line ++ (if is_access line || behind then named_all (reads line) else [])

abbrev pub lines_slots : (behind : Bool) → List Instr → List Slot
lines_slots behind [] = []
lines_slots behind (line ∷ lines) = line_slots behind line ++ lines_slots (is_access line || behind) lines

-- whether an access stands before the end
abbrev pub behind_lines : (behind : Bool) → List Instr → Bool
behind_lines behind [] = behind
behind_lines behind (line ∷ lines) = behind_lines (is_access line || behind) lines

abbrev pub end_slots : (behind : Bool) → Term → List Slot
end_slots behind term = if behind then named_all (map (λ a. a.item) (term_operands term)) else []

abbrev pub block_slots : Block → List Slot
block_slots block =
    lines_slots false block.instrs ++ end_slots (behind_lines false block.instrs) block.term

abbrev pub further_slots : List Block → List Slot
further_slots blocks = flat_map block_slots blocks

-- ---- the block that is wanted, and the value of a switch that several selections test

abbrev pub many_cases : Option Block → Bool
many_cases None = false
many_cases (Some block) = nat_lt most_pairs (cases_in block.term)

abbrev pub is_split : Program → Region → Bool
is_split p (region.Leaf b) = many_cases (slice_get p.blocks b)
is_split p _ = false

-- a switch of a leaf has more cases than one selection takes
abbrev pub picks : Program → List Region → Bool
picks p list = list_any (is_split p) list

-- the region goes on by which block is wanted
abbrev pub passes : Region → Bool
passes (region.Leaf b) = false
passes (region.Then first second target) = true
passes (region.Loop body head) = true
passes (region.Dispatch arms) = true
passes (region.Arms first arms) = false

abbrev pub wants : Program → List Region → Bool
wants p list = list_any passes list || picks p list

abbrev pub want_slots : Program → List Region → List Slot
want_slots p list = (if wants p list then Want ∷ [] else []) ++ (if picks p list then Pick ∷ [] else [])

-- ---- a list of variables, each once

abbrev pub has_slot : List Slot → Slot → Bool
has_slot [] s = false
has_slot (r ∷ slots) s = same_slot s r || has_slot slots s

abbrev pub add_slot : List Slot → Slot → List Slot
add_slot slots s = if has_slot slots s then slots else slots ++ s ∷ []

abbrev pub add_slots : List Slot → List Slot → List Slot
add_slots slots [] = slots
add_slots slots (s ∷ more) = add_slots (add_slot slots s) more
