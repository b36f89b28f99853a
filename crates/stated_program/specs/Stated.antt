-- The program that the records of an entry body state.
use Rattle.std.specs.Prelude.{ℕ, ◌==◌, List, map, Bool, Option, Some, None, find, filter, filter_map}
use Rattle.std.specs.List.{range_with_len}
use Rattle.dxil_form.specs.declared.block.Term.{Term}
use Rattle.dxil_form.specs.declared.block.Term.TheVariants.{Unreachable}
use Rattle.dxil_form.specs.declared.block.Block.{Block}
use Rattle.dxil_form.specs.declared.program.Program.{Program}
use Rattle.llvm_bodies.specs.Bodies.{is_terminator}
use Rattle.llvm_bodies.specs.declared.line.Line.{Line}
use Rattle.profile_tables.specs.EntryBody.{EntryBody}
use Rattle.stated_program.specs.Accesses.{resources, shared}
use Rattle.stated_program.specs.Instructions.{phi_of, instruction_of, end_of}

-- the lines of a block: those behind the terminator of the block before it, up to its own terminator
abbrev pub stands_in : ℕ → Line → Bool
stands_in k line = line.block == k

abbrev pub lines_of : EntryBody → ℕ → List Line
lines_of x k = filter (stands_in k) x.lines

abbrev pub ends : Line → Bool
ends line = is_terminator line.code

abbrev pub end_by : EntryBody → Option Line → Term
end_by x None = Unreachable
end_by x (Some line) = end_of x line

abbrev pub block_of : EntryBody → List Line → Block
block_of x lines = record { phis = filter_map (phi_of x) lines; instrs = filter_map (instruction_of x) lines; term = end_by x (find ends lines) }

abbrev pub block_at : EntryBody → ℕ → Block
block_at x k = block_of x (lines_of x k)

-- The program of a body with these thread counts: the blocks that the body declares, by number.
unfoldable pub program_of : EntryBody → List ℕ → Program
program_of x counts = record {
  local = counts;
  resources = resources x;
  shared = shared x;
  blocks = map (block_at x) (range_with_len 0 x.blocks);
}
