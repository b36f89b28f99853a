use Rattle.std.proofs.Common.{refl, ℕ, List, subst}
use Rattle.std.proofs.lemmas.List.{take_all}
use Rattle.flow_rules.specs.Lists.{IsBetween}
use Rattle.flow_rules.proofs.Listing.{between_more, between_sorted}
use Rattle.flow_rules.proofs.lists.between.Goals as goal

pub loop-target-preserved : goal.loop-target-preserved
loop-target-preserved c =
    between_more c.args.targets.now c.loop-target.target-index c.args.low c.args.high _ c.loop-target.found.items c.push_between.new.found.items c.loop-target-test.true refl c.in_ok-push_between.ensures c.loop-target.invariant

pub returns-in-Ok : goal.returns-in-Ok
returns-in-Ok c =
    let whole = subst (λ (ts : List ℕ). IsBetween ts c.args.low c.args.high c.loop-target.found.items) (take_all c.loop-target.target-index c.args.targets.now c.loop-target-test.false) c.loop-target.invariant in
    between_sorted c.args.targets.now c.args.low c.args.high c.loop-target.found.items c.sort.new.self.items whole c.sort.ensures.permutation c.in-Ok.ensures.sorted
