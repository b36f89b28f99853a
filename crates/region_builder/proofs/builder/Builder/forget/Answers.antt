use Rattle.std.proofs.Common.{refl}
use Rattle.flow_graph.specs.Shapes.{plain}
use Rattle.region_builder.proofs.Finishing.{traced_clear}
use Rattle.region_builder.proofs.Bareness.{bare_same}
use Rattle.region_builder.proofs.builder.Builder.forget.Goals as goal

pub returns-clause-built : goal.returns-clause-built
returns-clause-built c p f b = record {
  built = b.built;
  walked = b.walked;
  traced = traced_clear p c.args.self.now.list c.args.self.now.blocks.items c.args.self.now.places.items (plain c.args.self.now.graph) b.built f c.args.self.now.firsts.items c.args.self.now.heads b.traced
      c.requires.settled c.clear.new.self c.clear.ensures.count c.clear.ensures.cleared;
  fixed = b.fixed;
}

pub returns-clause-rings : goal.returns-clause-rings
returns-clause-rings c = record { count = refl; crossed = (λ k. k, λ k. k) }

pub returns-clause-bare : goal.returns-clause-bare
returns-clause-bare c p f is tree b = bare_same (plain f.graph) c.args.self.now _ refl refl refl b
