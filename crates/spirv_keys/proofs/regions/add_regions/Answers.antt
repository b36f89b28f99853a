use Rattle.std.proofs.Common.{refl}
use Rattle.spirv_code.specs.Needed.{region_keys, regions_keys}
use Rattle.spirv_keys.proofs.Adding.{next_keys}
use Rattle.spirv_keys.proofs.regions.add_regions.Goals as goal

pub loop-region-preserved : goal.loop-region-preserved
loop-region-preserved c =
    next_keys c.args.p.now (regions_keys c.args.p.now c.args.wants) (region_keys c.args.p.now c.args.wants) c.args.list.now c.loop-region.region-index c.region-item.result c.loop-region.table.keys c.add_region.new.table.keys _ (λ y ys. refl) c.loop-region-test.true c.region-item.is c.in_ok-add_region.ensures c.loop-region.invariant
