-- The program and the module do the same.
use Rattle.std.proofs.Common.{refl}
use Rattle.dxil_meaning.specs.Source.{Launch}
use Rattle.spirv_code.specs.Plans.{context_of}
use Rattle.spirv_code.specs.Further.{wants}
use Rattle.region_runs.proofs.Whole.{regions_stand}
use Rattle.plan_ready.proofs.Whole.{plans_are_ready}
use Rattle.leaf_runs.specs.Laws.{setting_of, BlocksStand}
use Rattle.leaf_runs.proofs.Starts.{same_by_leaves}
use Rattle.module_runs.specs.Stands.{SameByPlan}
use Rattle.module_runs.proofs.Opening.{begins_at}

pub same_by_plan : SameByPlan
same_by_plan p list plan m at sound wired has table stands =
    same_by_leaves p m at (context_of p plan) plan.table sound (λ l. (stands l).declares) (λ l fits. blocks l) (λ l fits. begins_at (setting_of p m at (context_of p plan) plan.table l) sound list wired (stands l))
  where
    blocks : (l : Launch) → BlocksStand (setting_of p m at (context_of p plan) plan.table l)
    blocks l =
        record {
          blocks = refl;
          leaves = λ i b block reached there. (let all = regions_stand (setting_of p m at (context_of p plan) plan.table l) (stands l).declares sound list wired (stands l).head (stands l).place (stands l).regions i in
              all.leaves b block reached there);
          ready = λ b block place reached there. plans_are_ready p list (wants p list) plan sound wired has table m at l b block place reached there;
        }
