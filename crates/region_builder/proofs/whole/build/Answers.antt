use Rattle.std.proofs.Common.{◌≡◌, ◌↔◌, length, List, sym, subst}
use Rattle.std.proofs.lemmas.Result.{IfOk-weaker}
use Rattle.dxil_form.specs.declared.program.Program.{Program}
use Rattle.dxil_form.specs.Graphs.{Graph, Crossed}
use Rattle.dxil_form.specs.Branches.{IsBranchGraph}
use Rattle.flow_graph.specs.Shapes.{plain}
use Rattle.region_builder.specs.declared.partial.Partial.{Partial}
use Rattle.region_builder.specs.Started.{IsStarted, IsPartial}
use Rattle.dxil_form.specs.declared.region.Region.{Region}
use Rattle.region_builder.specs.Bare.{IsTree, NoThen}
use Rattle.region_builder.specs.Loops.{LoopsAreHeads}
use Rattle.region_builder.specs.Built.{BuiltBy}
use Rattle.region_builder.proofs.Finding.{settled_plain}
use Rattle.region_builder.proofs.ByBlocks.{tree_of}
use Rattle.region_builder.proofs.whole.build.Goals as goal
use Rattle.region_builder.proofs.whole.build.Goals.{In_ok-reduce-2}

built : (c : In_ok-reduce-2) (p : Program) → IsStarted p c.args.partial → BuiltBy p c.args.partial c.reduce-2.new.self
built c p is =
    c.in_ok-reduce-2.ensures.built p c.args.partial (c.forget.ensures.built p c.args.partial (c.in_ok-reduce.ensures.built p c.args.partial (c.in_ok-builder.ensures.built p is)))

pub forget-requires-clause-built : goal.forget-requires-clause-built
forget-requires-clause-built c = let (p, is) = c.requires in (p, c.args.partial, c.in_ok-reduce.ensures.built p c.args.partial (c.in_ok-builder.ensures.built p is))

pub reduce-requires-2 : goal.reduce-requires-2
reduce-requires-2 c = record {
  built = (let (p, is) = c.requires in (p, c.args.partial, c.forget.ensures.built p c.args.partial (c.in_ok-reduce.ensures.built p c.args.partial (c.in_ok-builder.ensures.built p is))));
}

pub shut-requires-clause-built : goal.shut-requires-clause-built
shut-requires-clause-built c =
    let (p, is) = c.requires in
    (p, c.args.partial, c.in_ok-reduce-2.ensures.built p c.args.partial (c.forget.ensures.built p c.args.partial (c.in_ok-reduce.ensures.built p c.args.partial (c.in_ok-builder.ensures.built p is))))

pub shut-requires-clause-settled : goal.shut-requires-clause-settled
shut-requires-clause-settled c =
    settled_plain c.reduce-2.new.self.heads (plain c.reduce-2.new.self.graph) (λ h b. c.in_ok-reduce-2.ensures.fewer h b (c.forget.ensures.cleared h b)) c.in_ok-reduce-2.ensures.settled

pub returns-clause-partial : goal.returns-clause-partial
returns-clause-partial c =
    let d = (goal.at.returns-clause-partial c).In_ok-reduce-2 in
    IfOk-weaker {X = Partial} c.shut.result (λ left. (p : Program) (first : Partial) → BuiltBy p first c.reduce-2.new.self → IsPartial p left) (λ left. (p : Program) → IsStarted p c.args.partial → IsPartial p left)
    (λ left h p is. h p c.args.partial (built d p is)) c.shut.ensures.partial

pub returns-clause-single : goal.returns-clause-single
returns-clause-single c =
    let d = (goal.at.returns-clause-single c).In_ok-reduce-2 in
    IfOk-weaker {X = Partial} c.shut.result
    (λ left. (p : Program) (first : Partial) (g : Graph) → BuiltBy p first c.reduce-2.new.self → IsBranchGraph p g → (length left.roots ≡ 1) ↔ (Crossed g → ⊥))
    (λ left. (p : Program) (g : Graph) → IsStarted p c.args.partial → IsBranchGraph p g → (length left.roots ≡ 1) ↔ (Crossed g → ⊥))
    (λ left h p g is. h p c.args.partial g (built d p is)) c.shut.ensures.single

pub returns-clause-loops : goal.returns-clause-loops
returns-clause-loops c =
    let d = (goal.at.returns-clause-loops c).In_ok-reduce-2 in
    IfOk-weaker {X = Partial} c.shut.result
    (λ left. (p : Program) (first : Partial) (g : Graph) → BuiltBy p first c.reduce-2.new.self → IsBranchGraph p g → (Crossed g → ⊥) → LoopsAreHeads g left.list)
    (λ left. (p : Program) (g : Graph) → IsStarted p c.args.partial → IsBranchGraph p g → (Crossed g → ⊥) → LoopsAreHeads g left.list)
    (λ left h p g is. h p c.args.partial g (built d p is)) c.shut.ensures.loops

pub returns-clause-no_then : goal.returns-clause-no_then
returns-clause-no_then c =
    IfOk-weaker {X = Partial} c.shut.result (λ left. left.list ≡ c.reduce-2.new.self.list)
    (λ left. (p : Program) (g : Graph) → IsStarted p c.args.partial → IsBranchGraph p g → IsTree g → NoThen left.list)
    (λ left e p g is branch tree. (
    let first = c.in_ok-builder.ensures.built p is in
    let second = c.in_ok-reduce.ensures.built p c.args.partial first in
    let third = c.forget.ensures.built p c.args.partial second in
    let own = tree_of p is.sound is.blocks is.reachable is.few (plain c.args.partial.graph) is.graph g branch tree in
    let P : List Region → Type 0 = λ l. NoThen l in
    subst P (sym e) (c.in_ok-reduce-2.ensures.bare p c.args.partial third own (c.forget.ensures.bare p c.args.partial second own
    (c.in_ok-reduce.ensures.bare p c.args.partial first own c.in_ok-builder.ensures.bare))).no_then)) c.shut.ensures.list
