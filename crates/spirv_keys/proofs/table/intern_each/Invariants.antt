use Rattle.std.proofs.Common.{◌≡◌, drop}
use Rattle.spirv_code.specs.Needed.{add_each}
use Rattle.spirv_keys.proofs.table.intern_each.Given as goal

abbrev pub invariant-loop-key : goal.invariant-loop-key
invariant-loop-key l =
    add_each l.table.keys (drop l.key-index l.keys) ≡ add_each l.initial.table.keys l.keys
