-- What the tables stand for.
use Rattle.std.specs.Prelude.{◌≤◌, length}
use Rattle.spirv_code.specs.Plans.{Plan}
use Rattle.spirv_table.specs.declared.tables.Tables.{Tables}

abbrev pub plan_of : Tables → Plan
plan_of t = record { regions = t.regions; slots = t.slots.keys; table = t.table.keys }

-- the ids fit in a word: there are at most 2 ^ 16 regions, and 2 ^ 24 variables and declarations each
pub record AreFew (t : Tables) : Type 0 where
  pub regions : t.regions ≤ 0x0001_0000
  pub slots : length t.slots.keys ≤ 0x0100_0000
  pub table : length t.table.keys ≤ 0x0100_0000
