-- Files and standard output of the host, of which no content is told.
use Rattle.std.specs.Prelude.{ℕ, None}
use Rattle.dx_outside.specs.Outside.{FilesSeen, SinkSeen}

-- how many reads and writes failed, of all names
pub record FileFaults : Type 0 where
  pub reads : ℕ
  pub writes : ℕ

abbrev pub host_files_seen : FileFaults → FilesSeen
host_files_seen m = record { store = None; read_faults = λ name. m.reads; write_faults = λ name. m.writes }

-- how many writes failed, and how many met want of memory
pub record SinkFaults : Type 0 where
  pub faults : ℕ
  pub lacks : ℕ

abbrev pub host_sink_seen : SinkFaults → SinkSeen
host_sink_seen m = record { taken = None; faults = m.faults; lacks = m.lacks }
