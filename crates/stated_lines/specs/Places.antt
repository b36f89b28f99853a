-- Where resources and groupshared arrays stand in the program, as tables.
use Rattle.std.specs.Prelude.{ℕ, ◌≡◌, ◌<◌, List, length, get_or, Bool, true, false, Option, Some, None}
use Rattle.dxil_form.specs.declared.op.OpKind.{OpKind}
use Rattle.dxil_form.specs.declared.op.OpKind.TheVariants.{ThreadId, GroupId, ThreadIdInGroup}
use Rattle.llvm_bodies.specs.declared.line.Line.{Line}
use Rattle.profile_lines.specs.Calls.{plain, operation}
use Rattle.profile_tables.specs.EntryBody.{EntryBody}
use Rattle.profile_tables.specs.Places.{place_among}
use Rattle.profile_tables.specs.declared.place.Place.{Place}
use Rattle.stated_program.specs.Accesses.{rank}
use Rattle.stated_program.specs.Instructions.{constant_at}

-- the place of each row and of each variable
pub record ArePlaced (x : EntryBody) (ranks arrays : List ℕ) : Type 0 where
  pub ranks_are : (r : ℕ) → get_or ranks r 0 ≡ rank x r
  pub arrays_length : length arrays ≡ length x.pool.globals
  pub arrays_are : (v : ℕ) → v < length arrays → get_or arrays v 0 ≡ place_among x v

-- a place is in a variable of the module
abbrev pub IsInModule : EntryBody → Option Place → Type 0
IsInModule x None = Unit {0}
IsInModule x (Some place) = place.variable < length x.pool.globals

abbrev pub is_id : OpKind → Bool
is_id ThreadId = true
is_id GroupId = true
is_id ThreadIdInGroup = true
is_id other = false

-- the part and the component of a line have 8 bits
pub record IsNarrow (x : EntryBody) (line : Line) : Type 0 where
  pub part : line.code ≡ 26 → plain line 0 < 256
  pub component : (op : OpKind) → operation x.pool line ≡ Some op → is_id op ≡ true → constant_at x line 1 32 < 256
