use Rattle.std.proofs.Common.{get_or, refl}
use Rattle.std.proofs.lemmas.Bool.{both_ways}
use Rattle.flow_graph.specs.Shapes.{plain}
use Rattle.region_builder.proofs.Finding.{went_nowhere}
use Rattle.region_builder.proofs.Bareness.{visited}
use Rattle.region_builder.proofs.builder.Builder.visit.Goals as goal

pub returns-else-is_live-clause-went : goal.returns-else-is_live-clause-went
returns-else-is_live-clause-went c = went_nowhere c.args.self.now

pub returns-else-is_live-clause-bare : goal.returns-else-is_live-clause-bare
returns-else-is_live-clause-bare c p first is tree from =
    visited (plain first.graph) c.args.self.now c.args.self.now (get_or c.args.self.now.ranks.items c.args.a 0) c.args.a refl from from.bare (λ x y e. e)
    (λ _ y e. both_ways c.is_live.result c.if-is_live.false (c.is_live.ensures.1 (is.built.formed.from c.args.a y e)))
