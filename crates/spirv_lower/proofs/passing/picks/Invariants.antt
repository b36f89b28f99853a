use Rattle.std.proofs.Common.{◌≡◌, drop}
use Rattle.spirv_code.specs.Further.{picks}
use Rattle.spirv_lower.proofs.passing.picks.Given as goal

abbrev pub invariant-loop-region : goal.invariant-loop-region
invariant-loop-region l = picks l.p (drop l.region-index l.list) ≡ picks l.p l.list
