-- Files and sinks in memory.
use Rattle.std.specs.Prelude.{◌-◌, ℕ, List, [], ◌∷◌, Option, Some, None, min, length, if◌then◌else◌, unwrap_or}
use Rattle.std.specs.Str.{bytes_eq}
use Rattle.dx_outside.specs.Outside.{Store, FilesSeen, SinkSeen, next}
use Rattle.dx_outside.specs.declared.entry.Entry.{Entry}

-- the bytes of the file of a name, if there is one
abbrev pub file_at : List Entry → Store
file_at [] name = None
file_at (entry ∷ entries) name = if bytes_eq entry.name name then Some entry.bytes else file_at entries name

-- a file of this name and these bytes put in place of the one of the name, or behind all
abbrev pub put_file : List Entry → List ℕ → List ℕ → List Entry
put_file [] name bytes = record { name = name; bytes = bytes } ∷ []
put_file (entry ∷ entries) name bytes =
    if bytes_eq entry.name name then record entry { bytes = bytes } ∷ entries else entry ∷ put_file entries name bytes

-- how many bytes of a file there are from a place on, at most so many as there is room for
abbrev pub readable : Option (List ℕ) → ℕ → ℕ → ℕ
readable file at room = min room (length (unwrap_or file []) - at)

-- Files of which the calls in `fails` fail, numbered from 0 on.
pub record MemoryState : Type 0 where
  pub entries : List Entry
  pub fails : List ℕ
  pub calls : ℕ
  pub read_faults : ℕ
  pub write_faults : ℕ

-- all files, and one count for all names
abbrev pub memory_seen : MemoryState → FilesSeen
memory_seen m = record { store = Some (file_at m.entries); read_faults = λ name. m.read_faults; write_faults = λ name. m.write_faults }

-- after a call
abbrev pub called : MemoryState → MemoryState
called m = record m { calls = next m.calls }

-- after a read that failed
abbrev pub read_failed : MemoryState → MemoryState
read_failed m = record m { calls = next m.calls; read_faults = next m.read_faults }

-- after a write that failed
abbrev pub write_failed : MemoryState → MemoryState
write_failed m = record m { calls = next m.calls; write_faults = next m.write_faults }

-- every name; the file of a missing one is empty
abbrev pub steady_store : List Entry → Store
steady_store entries name = Some (unwrap_or (file_at entries name) [])

-- files that never fail
abbrev pub steady_seen : List Entry → FilesSeen
steady_seen entries = record { store = Some (steady_store entries); read_faults = λ name. 0; write_faults = λ name. 0 }

-- A sink of which the calls in `fails` fail, numbered from 0 on.
pub record SinkState : Type 0 where
  pub bytes : List ℕ
  pub fails : List ℕ
  pub calls : ℕ
  pub faults : ℕ
  pub lacks : ℕ

abbrev pub sink_seen : SinkState → SinkSeen
sink_seen m = record { taken = Some m.bytes; faults = m.faults; lacks = m.lacks }

-- A sink that never fails.
pub record SteadyState : Type 0 where
  pub bytes : List ℕ
  pub lacks : ℕ

abbrev pub steady_sink_seen : SteadyState → SinkSeen
steady_sink_seen m = record { taken = Some m.bytes; faults = 0; lacks = m.lacks }
