-- The resources and groupshared arrays of a program, and the accesses to them.
use Rattle.std.specs.Prelude.{ℕ, ◌+◌, ◌/◌, ◌==◌, ◌&&◌, ◌||◌, List, map, length, slice_get, Bool, true, false, nat_lt, if◌then◌else◌, Option, Some, None, option_map, find, filter_map}
use Rattle.std.specs.List.{count_by, range_with_len}
use Rattle.dxil_form.specs.declared.value.Operand.{Operand}
use Rattle.dxil_form.specs.declared.value.Operand.TheVariants as operand
use Rattle.dxil_form.specs.declared.instr.Addr.{Addr}
use Rattle.dxil_form.specs.declared.instr.Addr.TheVariants.{Byte, Element, Row as RowAddr, Index}
use Rattle.dxil_form.specs.declared.instr.Target.{Target}
use Rattle.dxil_form.specs.declared.instr.Target.TheVariants.{Buffer, Shared}
use Rattle.dxil_form.specs.declared.program.Class.{Class}
use Rattle.dxil_form.specs.declared.program.Class.TheVariants.{Srv, Uav, Cbv}
use Rattle.dxil_form.specs.declared.program.Kind.{Kind}
use Rattle.dxil_form.specs.declared.program.Kind.TheVariants.{Raw, Structured, Constant}
use Rattle.dxil_form.specs.declared.program.Resource.{Resource}
use Rattle.llvm_bodies.specs.declared.line.Line.{Line}
use Rattle.llvm_facts.specs.declared.facts.Row.{Row}
use Rattle.profile_tables.specs.EntryBody.{EntryBody}
use Rattle.profile_tables.specs.Places.{variables, place_among, words_at}
use Rattle.profile_tables.specs.Resources.{class_number, is_row_named, rows_named, row_at}
use Rattle.profile_tables.specs.Operands.{operand_of}
use Rattle.profile_tables.specs.declared.place.Place.{Place}

-- ---- resources

-- The layout of a row: a constant buffer has as many rows of 16 bytes as its bytes begin.
abbrev pub kind_of : Row → Kind
kind_of row = by_class row.class row where
  by_class : Class → Row → Kind
  by_class Cbv row = Constant ((row.size + 15) / 16)
  by_class other row = if row.kind == 11 then Raw else Structured row.size

abbrev pub resource_of : Row → Resource
resource_of row = record { class = row.class; id = row.id; space = row.space; lower = row.lower; kind = kind_of row }

-- by class, then by id
abbrev pub is_before : Row → Row → Bool
is_before a b = nat_lt (class_number a.class) (class_number b.class) || (class_number a.class == class_number b.class && nat_lt a.id b.id)

abbrev pub stands_before : List Row → ℕ → Option Row → Bool
stands_before rows s None = false
stands_before rows s (Some row) = precedes (slice_get rows s) row where
  precedes : Option Row → Row → Bool
  precedes None row = false
  precedes (Some other) row = is_before other row

-- The place of a row in the program: how many of the rows that the body names stand before it, by class, then id.
unfoldable pub rank : EntryBody → ℕ → ℕ
rank x r = count_by (λ s. is_row_named x x.lines s && stands_before x.rows s (slice_get x.rows r)) (range_with_len 0 (length x.rows))

-- the row that the body names with this place
abbrev pub ranked : EntryBody → ℕ → Option ℕ
ranked x k = find (λ r. is_row_named x x.lines r && rank x r == k) (range_with_len 0 (length x.rows))

-- the rows that the body names, by class, then id
abbrev pub resources : EntryBody → List Resource
resources x = filter_map (λ k. option_map resource_of (row_at x (ranked x k))) (range_with_len 0 (rows_named x x.lines))

-- the words of the groupshared variables that the body names, in module order
abbrev pub shared : EntryBody → List ℕ
shared x = map (words_at x.pool) (variables x)

-- ---- accesses to buffers

abbrev pub buffer : EntryBody → Option ℕ → Target
buffer x None = Buffer 0
buffer x (Some r) = Buffer (rank x r)

-- an address by its two coordinates, of which a raw buffer and a constant buffer read the first
abbrev pub address_in : Kind → Operand → Operand → Addr
address_in Raw first second = Byte first
address_in (Structured stride) first second = Element first second stride
address_in (Constant rows) first second = RowAddr first

abbrev pub address : Option Row → Operand → Operand → Addr
address None first second = Byte first
address (Some row) first second = address_in (kind_of row) first second

-- ---- accesses to groupshared arrays

abbrev pub array : EntryBody → Option Place → Target
array x None = Shared 0
array x (Some place) = Shared (place_among x place.variable)

-- the index of a place; a variable that is named without a GEP is its first word
abbrev pub index_operand : EntryBody → Option ℕ → Operand
index_operand x None = operand.Int 0
index_operand x (Some v) = operand_of x v

abbrev pub index : EntryBody → Option Place → Addr
index x None = Index (operand.Int 0)
index x (Some place) = Index (index_operand x place.index)
