use Rattle.std.proofs.Common.{◌≡◌, ◌+◌, ℕ, Bool, true, false, get_or, subst}
use Rattle.std.proofs.lemmas.Bool.{both_ways}
use Rattle.std.specs.Result.{OnOk}
use Rattle.std.proofs.lemmas.Result.{IfOk-weaker}
use Rattle.flow_graph.specs.Shapes.{plain}
use Rattle.head_table.specs.Table.{over}
use Rattle.region_builder.specs.Settled.{IsSettledBy}
use Rattle.region_builder.specs.Advancing.{Advances}
use Rattle.region_builder.proofs.Finding.{went_nowhere}
use Rattle.region_builder.proofs.Bareness.{idle_at}
use Rattle.region_builder.proofs.builder.Builder.visit_at.Goals as goal

pub returns-then-has_rank-clause-bare : goal.returns-then-has_rank-clause-bare
returns-then-has_rank-clause-bare c =
    let P : ℕ → Type 0 = λ r. OnOk c.visit.result (Advances c.args.self.now c.visit.new.self r c.args.a (c.args.a + 1)) in
    subst P (c.has_rank.ensures.0 c.if-has_rank.true) c.visit.ensures.bare

pub returns-then-has_rank-clause-settled : goal.returns-then-has_rank-clause-settled
returns-then-has_rank-clause-settled c =
    IfOk-weaker {X = Bool} c.visit.result
    (λ done. done ≡ false → (plain c.args.self.now.graph).live c.args.a ≡ true → IsSettledBy (over c.args.self.now.heads) (plain c.args.self.now.graph) c.args.a)
    (λ done. done ≡ false → get_or c.args.self.now.ranks.items c.args.a 0 ≡ c.args.rank → (plain c.args.self.now.graph).live c.args.a ≡ true
    → IsSettledBy (over c.args.self.now.heads) (plain c.args.self.now.graph) c.args.a)
    (λ done h f q live. h f live) c.visit.ensures.settled

pub returns-else-has_rank-clause-went : goal.returns-else-has_rank-clause-went
returns-else-has_rank-clause-went c = went_nowhere c.args.self.now

pub returns-else-has_rank-clause-bare : goal.returns-else-has_rank-clause-bare
returns-else-has_rank-clause-bare c p first is tree from =
    idle_at (plain first.graph) c.args.self.now c.args.rank c.args.a (λ e. both_ways c.has_rank.result c.if-has_rank.false (c.has_rank.ensures.1 e)) from

pub returns-else-has_rank-clause-settled : goal.returns-else-has_rank-clause-settled
returns-else-has_rank-clause-settled c f q live = absurd (both_ways c.has_rank.result c.if-has_rank.false (c.has_rank.ensures.1 q))
