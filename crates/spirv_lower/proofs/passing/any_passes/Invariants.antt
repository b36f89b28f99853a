use Rattle.std.proofs.Common.{◌≡◌, drop}
use Rattle.std.specs.List.{list_any}
use Rattle.spirv_code.specs.Further.{passes}
use Rattle.spirv_lower.proofs.passing.any_passes.Given as goal

abbrev pub invariant-loop-region : goal.invariant-loop-region
invariant-loop-region l = list_any passes (drop l.region-index l.list) ≡ list_any passes l.list
