use Rattle.std.proofs.Common.{ap, ◌||◌, subst, if◌then◌else◌, Some, Bool}
use Rattle.llvm_facts.specs.Faults.{IsLeastBit}
use Rattle.llvm_facts.specs.Roots.{IsRootFault}
use Rattle.llvm_facts.proofs.RootLaws.{asking_more, root_ends}
use Rattle.llvm_facts.proofs.roots.root_fault.Goals as goal

pub loop-node-preserved : goal.loop-node-preserved
loop-node-preserved c = asking_more _ _ _ _ _ _ c.node-item.result _ _ c.loop-node.invariant c.loop-node-test.true c.node-item.is c.told-least.ensures (ap (λ b. c.loop-node.stands || b) c.has_name-stands.ensures)

pub returns-then-stands : goal.returns-then-stands
returns-then-stands c =
    subst (λ (b : Bool). IsLeastBit (IsRootFault c.args.lookup.now c.args.root c.args.named.now c.args.end) (if b then c.loop-node.least else Some c.args.end)) c.if-stands.true
    (root_ends _ _ _ _ c.args.end _ _ c.loop-node.invariant c.loop-node-test.false c.loop-node.auto.node-index-end)

pub returns-else-stands : goal.returns-else-stands
returns-else-stands c =
    subst (λ (b : Bool). IsLeastBit (IsRootFault c.args.lookup.now c.args.root c.args.named.now c.args.end) (if b then c.loop-node.least else Some c.args.end)) c.if-stands.false
    (root_ends _ _ _ _ c.args.end _ _ c.loop-node.invariant c.loop-node-test.false c.loop-node.auto.node-index-end)
