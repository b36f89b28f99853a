use Rattle.std.proofs.Common.{◌≡◌, [], ◌∷◌, ◌++◌, get_or, arith, ap, refl, ◌∙◌}
use Rattle.std.proofs.lemmas.List.{get_or_default}
use Rattle.dxil_form.specs.declared.region.Region.{Region}
use Rattle.dxil_form.specs.declared.region.Region.TheVariants.{Then}
use Rattle.dxil_form.specs.Graphs.{absorbed}
use Rattle.flow_graph.specs.Shapes.{Shape, plain}
use Rattle.graph_laws.proofs.Rewrites.{absorb_keeps}
use Rattle.region_builder.proofs.Steps.{join_left}
use Rattle.region_builder.proofs.Walking.{join_walks}
use Rattle.region_builder.proofs.Tracing.{traced_join, traced_left, fixed_left}
use Rattle.region_builder.proofs.Sizes.{absorb_less, less_of, rings_of}
use Rattle.region_builder.proofs.builder.Builder.join.Goals as goal

pub returns-clause-built : goal.returns-clause-built
returns-clause-built c p f b =
    let pred = c.requires.sole in
    let count = b.built.count in
    let same = b.built.places_count in
    let x = b.built.formed.within c.args.a (b.built.formed.from c.args.a c.args.j pred.edge) in
    let y = b.built.formed.within c.args.j (b.built.formed.to c.args.a c.args.j pred.edge) in
    let first : c.index-first.result.now ≡ get_or c.args.self.now.places.items c.args.a 0 = c.index-first.ensures ∙ get_or_default c.args.self.now.places.items c.args.a _ 0 (omega arith) in
    let second : c.index-second.result.now ≡ get_or c.args.self.now.places.items c.args.j 0 = c.index-second.ensures ∙ get_or_default c.args.self.now.places.items c.args.j _ 0 (omega arith) in
    let target : c.index-target.result.now ≡ get_or c.args.self.now.blocks.items c.args.j 0 = c.index-target.ensures ∙ get_or_default c.args.self.now.blocks.items c.args.j _ 0 (omega arith) in
    let region : Then c.index-first.result.now c.index-second.result.now c.index-target.result.now
    ≡ Then (get_or c.args.self.now.places.items c.args.a 0) (get_or c.args.self.now.places.items c.args.j 0) (get_or c.args.self.now.blocks.items c.args.j 0) = cc in
    let graph : plain c.absorb.new.self ≡ absorbed (plain c.args.self.now.graph) c.args.a c.args.j =
    c.absorb.ensures ∙ ap (λ (s : Shape). absorbed (plain s) c.args.a c.args.j) c.in_ok-add.ensures.graph in
    record {
      built = join_left p c.args.self.now.list c.args.self.now.blocks.items c.args.self.now.places.items (plain c.args.self.now.graph) b.built c.args.a c.args.j c.requires.entry pred
          _ region _ _ _ _ c.in_ok-add.ensures.list c.in_ok-add.ensures.blocks c.in_ok-add.ensures.places graph;
      walked = join_walks p c.args.self.now.list c.args.self.now.blocks.items c.args.self.now.places.items (plain c.args.self.now.graph) b.built b.walked c.args.a c.args.j c.requires.entry pred
          _ region _ _ _ _ c.in_ok-add.ensures.list c.in_ok-add.ensures.blocks c.in_ok-add.ensures.places graph;
      traced = traced_left p f _ _ _ _ _ _ _ _ _ _ _ _
          (c.in_ok-add.ensures.list ∙ ap (λ (r : Region). c.args.self.now.list ++ r ∷ []) region) c.in_ok-add.ensures.blocks c.in_ok-add.ensures.places graph
          (ap (λ v. v.items) c.in_ok-add.ensures.firsts) c.in_ok-add.ensures.heads
          (traced_join p c.args.self.now.list c.args.self.now.blocks.items c.args.self.now.places.items (plain c.args.self.now.graph) b.built f c.args.self.now.firsts.items c.args.self.now.heads b.traced
          c.args.a c.args.j c.requires.entry pred c.requires.allowed);
      fixed = fixed_left (plain f.graph) _ c.args.self.now.blocks.items _ c.args.self.now.firsts.items _ c.args.self.now.ranks.items c.in_ok-add.ensures.blocks
          (ap (λ v. v.items) c.in_ok-add.ensures.firsts) (ap (λ v. v.items) c.in_ok-add.ensures.ranks) b.fixed;
    }

pub returns-clause-rings : goal.returns-clause-rings
returns-clause-rings c =
    let graph : plain c.absorb.new.self ≡ absorbed (plain c.args.self.now.graph) c.args.a c.args.j =
    c.absorb.ensures ∙ ap (λ (s : Shape). absorbed (plain s) c.args.a c.args.j) c.in_ok-add.ensures.graph in
    rings_of _ c.args.self.now.graph c.absorb.new.self graph refl (absorb_keeps (plain c.args.self.now.graph) c.args.a c.args.j c.requires.entry c.requires.sole)

pub returns-clause-smaller : goal.returns-clause-smaller
returns-clause-smaller c =
    let (p, f, b) = c.requires.built in
    let graph : plain c.absorb.new.self ≡ absorbed (plain c.args.self.now.graph) c.args.a c.args.j =
    c.absorb.ensures ∙ ap (λ (s : Shape). absorbed (plain s) c.args.a c.args.j) c.in_ok-add.ensures.graph in
    less_of _ c.args.self.now.graph c.absorb.new.self graph (absorb_less (plain c.args.self.now.graph) b.built.formed c.args.a c.args.j c.requires.entry c.requires.sole)

pub returns-clause-ranks : goal.returns-clause-ranks
returns-clause-ranks c = ap (λ v. v.items) c.in_ok-add.ensures.ranks
