use Rattle.spirv_meaning.proofs.SameByMatching.{same_by}
use Rattle.spirv_meaning.proofs.laws.same_by_matching.Goals as goal

pub returns : goal.returns
returns g c =
    let m = g.M.StepMatching in
    same_by m.program m.at m.module_of m.local (λ l fits. record { R = m.relation l; matched = m.matched l fits; starting = m.starting l fits })
