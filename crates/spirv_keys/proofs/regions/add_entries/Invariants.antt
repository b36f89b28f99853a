use Rattle.std.proofs.Common.{◌≡◌, drop}
use Rattle.spirv_code.specs.Needed.{add_all, entries_keys}
use Rattle.spirv_keys.proofs.regions.add_entries.Given as goal

abbrev pub invariant-loop-entry : goal.invariant-loop-entry
invariant-loop-entry l =
    add_all l.p l.table.keys (entries_keys (drop l.entry-index l.entries)) ≡ add_all l.p l.initial.table.keys (entries_keys l.entries)
