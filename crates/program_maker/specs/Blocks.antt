-- The blocks of a body, as they are made line by line.
use Rattle.std.specs.Prelude.{ℕ, ◌≡◌, [], ◌∷◌, ◌++◌, slice_get, take, Some, if◌then◌else◌, option_to_list}
use Rattle.std.specs.List.{count_by}
use Rattle.llvm_bodies.specs.declared.line.Line.{Line}
use Rattle.profile_tables.specs.EntryBody.{EntryBody}
use Rattle.profile_tables.specs.Places.{place_named}
use Rattle.stated_program.specs.Instructions.{phi_of, instruction_of, end_of}
use Rattle.stated_program.specs.Stated.{ends}
use Rattle.stated_lines.specs.Places.{IsNarrow, IsInModule}
use Rattle.program_maker.specs.declared.blocks.Draft.{Draft}

-- a line stands in the block of the terminators before it, and there are as many as declared blocks
pub record AreNumbered (x : EntryBody) : Type 0 where
  pub block : (i : ℕ) (line : Line) → slice_get x.lines i ≡ Some line → line.block ≡ count_by ends (take i x.lines)
  pub blocks : x.blocks ≡ count_by ends x.lines

-- the parts, components and places of the lines are such as a program may have
pub record AreFit (x : EntryBody) : Type 0 where
  pub narrow : (i : ℕ) (line : Line) → slice_get x.lines i ≡ Some line → IsNarrow x line
  pub inside : (i : ℕ) (line : Line) → slice_get x.lines i ≡ Some line → IsInModule x (place_named x line)

-- a line that ends no block goes into the open one
abbrev pub grown : EntryBody → Line → Draft → Draft
grown x line d = record {
  blocks = d.blocks;
  phis = d.phis ++ option_to_list (phi_of x line);
  instrs = d.instrs ++ option_to_list (instruction_of x line);
}

-- a terminator closes the open block
abbrev pub closed : EntryBody → Line → Draft → Draft
closed x line d = record {
  blocks = d.blocks ++ (record { phis = d.phis; instrs = d.instrs; term = end_of x line }) ∷ [];
  phis = [];
  instrs = [];
}

abbrev pub drafted : EntryBody → Line → Draft → Draft
drafted x line d = if ends line then closed x line d else grown x line d
