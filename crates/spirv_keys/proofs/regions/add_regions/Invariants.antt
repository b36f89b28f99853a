use Rattle.std.proofs.Common.{◌≡◌, drop}
use Rattle.spirv_code.specs.Needed.{add_all, regions_keys}
use Rattle.spirv_keys.proofs.regions.add_regions.Given as goal

abbrev pub invariant-loop-region : goal.invariant-loop-region
invariant-loop-region l =
    add_all l.p l.table.keys (regions_keys l.p l.wants (drop l.region-index l.list)) ≡ add_all l.p l.initial.table.keys (regions_keys l.p l.wants l.list)
