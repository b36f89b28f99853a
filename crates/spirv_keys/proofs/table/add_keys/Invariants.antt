use Rattle.std.proofs.Common.{◌≡◌, drop}
use Rattle.spirv_code.specs.Needed.{add_all}
use Rattle.spirv_keys.proofs.table.add_keys.Given as goal

abbrev pub invariant-loop-key : goal.invariant-loop-key
invariant-loop-key l =
    add_all l.p l.table.keys (drop l.key-index l.keys) ≡ add_all l.p l.initial.table.keys l.keys
