use Rattle.std.proofs.Common.{refl}
use Rattle.spirv_code.specs.Needed.{phi_keys, phis_keys}
use Rattle.spirv_keys.proofs.Adding.{next_keys}
use Rattle.spirv_keys.proofs.regions.add_phis.Goals as goal

pub loop-phi-preserved : goal.loop-phi-preserved
loop-phi-preserved c =
    next_keys c.args.p.now phis_keys phi_keys c.args.phis.now c.loop-phi.phi-index c.phi-item.result c.loop-phi.table.keys c.add_phi.new.table.keys _ (λ y ys. refl) c.loop-phi-test.true c.phi-item.is c.in_ok-add_phi.ensures c.loop-phi.invariant
