-- The rows of resources that the handles of a body name.
use Rattle.std.specs.Prelude.{ℕ, ◌==◌, ◌&&◌, List, slice_get, length, Bool, true, false, if◌then◌else◌, Option, Some, None}
use Rattle.std.specs.List.{list_any, position_from, count_by, range_with_len}
use Rattle.dxil_form.specs.declared.op.OpKind.{OpKind}
use Rattle.dxil_form.specs.declared.op.OpKind.TheVariants.{CreateHandle}
use Rattle.dxil_form.specs.declared.program.Class.{Class}
use Rattle.dxil_form.specs.declared.program.Class.TheVariants.{Srv, Uav, Cbv}
use Rattle.llvm_bodies.specs.declared.line.Line.{Line}
use Rattle.llvm_facts.specs.declared.facts.Row.{Row}
use Rattle.profile_lines.specs.Pool.{constant_given}
use Rattle.profile_lines.specs.Calls.{argument, operation}
use Rattle.profile_tables.specs.EntryBody.{EntryBody, setter}

abbrev pub class_number : Class → ℕ
class_number Srv = 0
class_number Uav = 1
class_number Cbv = 2

-- a row of this class and id
abbrev pub has_key : ℕ → ℕ → Row → Bool
has_key class id row = class_number row.class == class && row.id == id

-- the place of such a row
abbrev pub row_place : List Row → Option ℕ → Option ℕ → Option ℕ
row_place rows None id = None
row_place rows (Some class) None = None
row_place rows (Some class) (Some id) = position_from (has_key class id) 0 rows

abbrev pub makes_handle : Option OpKind → Bool
makes_handle (Some CreateHandle) = true
makes_handle other = false

-- The row that a line names, by its place: a CreateHandle with a constant class and row id. Any other line names none.
unfoldable pub row_named : EntryBody → Line → Option ℕ
row_named x line =
    if makes_handle (operation x.pool line) then row_place x.rows (constant_given x.pool 8 (argument line 1)) (constant_given x.pool 32 (argument line 2)) else None

abbrev pub row_set : EntryBody → Option Line → Option ℕ
row_set x None = None
row_set x (Some line) = row_named x line

abbrev pub row_by : EntryBody → Option ℕ → Option ℕ
row_by x None = None
row_by x (Some v) = row_set x (setter x v)

abbrev pub row_at : EntryBody → Option ℕ → Option Row
row_at x None = None
row_at x (Some r) = slice_get x.rows r

-- the row that the handle of a call names: its second argument is the result of a CreateHandle
abbrev pub handle_row : EntryBody → Line → Option ℕ
handle_row x line = row_by x (argument line 1)

abbrev pub is_row : ℕ → Option ℕ → Bool
is_row r None = false
is_row r (Some place) = place == r

abbrev pub names_row : EntryBody → ℕ → Line → Bool
names_row x r line = is_row r (row_named x line)

abbrev pub is_row_named : EntryBody → List Line → ℕ → Bool
is_row_named x lines r = list_any (names_row x r) lines

-- how many different rows some lines name
abbrev pub rows_named : EntryBody → List Line → ℕ
rows_named x lines = count_by (is_row_named x lines) (range_with_len 0 (length x.rows))
