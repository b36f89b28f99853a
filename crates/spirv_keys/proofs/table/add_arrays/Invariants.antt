use Rattle.std.proofs.Common.{◌≡◌}
use Rattle.spirv_code.specs.Needed.{add_each, arrays_keys}
use Rattle.spirv_keys.proofs.table.add_arrays.Given as goal

abbrev pub invariant-loop-a : goal.invariant-loop-a
invariant-loop-a l =
    l.table.keys ≡ add_each l.initial.table.keys (arrays_keys l.p l.a)
