use Rattle.std.proofs.Common.{◌≡◌, drop}
use Rattle.spirv_code.specs.Needed.{add_all, phis_keys}
use Rattle.spirv_keys.proofs.regions.add_phis.Given as goal

abbrev pub invariant-loop-phi : goal.invariant-loop-phi
invariant-loop-phi l =
    add_all l.p l.table.keys (phis_keys (drop l.phi-index l.phis)) ≡ add_all l.p l.initial.table.keys (phis_keys l.phis)
