use Rattle.std.proofs.Common.{arith, ◌<◌, length, ℕ, List, subst, get_or}
use Rattle.std.specs.List.{Contains}
use Rattle.flow_rules.specs.Flow.StructuralEdge.{by_branch}
use Rattle.flow_rules.proofs.Ends.{index_contains, listed_edge}
use Rattle.flow_rules.proofs.check.closes_loop.Goals as goal

pub closes-requires : goal.closes-requires
closes-requires c =
    let xs = c.targets-targets.result.now in
    let inside : 0 < length xs = omega (arith, c.if-targets-ne2.false) in
    let has = subst (λ (l : List ℕ). Contains l (get_or xs 0 0)) c.targets-targets.ensures (index_contains xs 0 inside) in
    c.requires.numbered.targets c.args.p _ (by_branch (listed_edge c.args.blocks.now c.args.p _ c.args.block.now c.requires.at has))

pub closes-requires-2 : goal.closes-requires-2
closes-requires-2 c =
    let xs = c.targets-targets.result.now in
    let inside : 1 < length xs = omega (arith, c.if-targets-ne2.false) in
    let has = subst (λ (l : List ℕ). Contains l (get_or xs 1 0)) c.targets-targets.ensures (index_contains xs 1 inside) in
    c.requires.numbered.targets c.args.p _ (by_branch (listed_edge c.args.blocks.now c.args.p _ c.args.block.now c.requires.at has))
