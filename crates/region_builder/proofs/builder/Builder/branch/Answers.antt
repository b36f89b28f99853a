use Rattle.std.proofs.Common.{◌≡◌, ℕ, List, [], ◌∷◌, ◌++◌, get_or, length, arith, ap, refl, subst, ◌∙◌}
use Rattle.std.proofs.lemmas.List.{get_or_default}
use Rattle.dxil_form.specs.declared.region.Region.{Region}
use Rattle.dxil_form.specs.declared.region.Region.TheVariants.{Arms}
use Rattle.flow_graph.specs.Shapes.{Shape, plain}
use Rattle.region_builder.specs.Absorbing.{AreAbsorbed, arms_of}
use Rattle.region_builder.proofs.Branching.{branch_left, parent_inside, child_inside}
use Rattle.region_builder.proofs.ArmsWalking.{branch_walks}
use Rattle.region_builder.proofs.Tracing.{traced_branch, traced_left, fixed_left}
use Rattle.region_builder.proofs.Sizes.{branch_less}
use Rattle.region_builder.proofs.builder.Builder.branch.Goals as goal

pub index-first-requires : goal.index-first-requires
index-first-requires c = let (p, f, b) = c.requires.built in let (_, l) = parent_inside p _ _ _ _ b.built c.args.a c.args.nodes.now c.requires.children in omega arith

pub arms_for-requires-clause-blocks : goal.arms_for-requires-clause-blocks
arms_for-requires-clause-blocks c n l =
    let (p, f, b) = c.requires.built in
    let (i, _) = child_inside p _ _ _ _ b.built c.args.a c.args.nodes.now c.requires.children n l in
    let e = ap (λ (z : List ℕ). length z) c.deref.ensures.value in omega arith

pub arms_for-requires-clause-places : goal.arms_for-requires-clause-places
arms_for-requires-clause-places c n l =
    let (p, f, b) = c.requires.built in
    let (_, i) = child_inside p _ _ _ _ b.built c.args.a c.args.nodes.now c.requires.children n l in
    let e = ap (λ (z : List ℕ). length z) c.deref-2.ensures.value in omega arith

pub add-requires-clause-a : goal.add-requires-clause-a
add-requires-clause-a c = let (p, f, b) = c.requires.built in let (_, l) = parent_inside p _ _ _ _ b.built c.args.a c.args.nodes.now c.requires.children in omega arith

pub returns-clause-built : goal.returns-clause-built
returns-clause-built c p f b =
    let (_, l) = parent_inside p _ _ _ _ b.built c.args.a c.args.nodes.now c.requires.children in
    let (block, leaf) = c.requires.leaf in
    let first : c.index-first.result.now ≡ get_or c.args.self.now.places.items c.args.a 0 = c.index-first.ensures ∙ get_or_default c.args.self.now.places.items c.args.a _ 0 l in
    let arms : c.in_ok-arms.arms ≡ arms_of c.args.self.now.blocks.items c.args.self.now.places.items c.args.nodes.now =
    c.in_ok-arms.ensures ∙ ap (λ (z : List ℕ). arms_of z c.deref-2.result.now c.args.nodes.now) c.deref.ensures.value
    ∙ ap (λ (z : List ℕ). arms_of c.args.self.now.blocks.items z c.args.nodes.now) c.deref-2.ensures.value in
    let region : Arms c.index-first.result.now c.in_ok-arms.arms ≡ Arms (get_or c.args.self.now.places.items c.args.a 0) (arms_of c.args.self.now.blocks.items c.args.self.now.places.items c.args.nodes.now) = cc in
    let P : Shape → Type 0 = λ s. AreAbsorbed (plain s) c.args.a c.args.nodes.now (plain c.absorb_all.new.graph) in
    let are = subst P c.in_ok-add.ensures.graph c.absorb_all.ensures in
    record {
      built = branch_left p c.args.self.now.list c.args.self.now.blocks.items c.args.self.now.places.items (plain c.args.self.now.graph) b.built c.args.a c.args.nodes.now c.requires.children
          block leaf _ region _ _ _ (plain c.absorb_all.new.graph) c.in_ok-add.ensures.list c.in_ok-add.ensures.blocks c.in_ok-add.ensures.places are;
      walked = branch_walks p c.args.self.now.list c.args.self.now.blocks.items c.args.self.now.places.items (plain c.args.self.now.graph) b.built b.walked c.args.a c.args.nodes.now c.requires.children
          block leaf (plain c.absorb_all.new.graph) are _ region _ _ _ c.in_ok-add.ensures.list c.in_ok-add.ensures.blocks c.in_ok-add.ensures.places;
      traced = traced_left p f _ _ _ _ _ _ _ _ _ _ _ _
          (c.in_ok-add.ensures.list ∙ ap (λ (r : Region). c.args.self.now.list ++ r ∷ []) region) c.in_ok-add.ensures.blocks c.in_ok-add.ensures.places refl
          (ap (λ v. v.items) c.in_ok-add.ensures.firsts) c.in_ok-add.ensures.heads
          (traced_branch p c.args.self.now.list c.args.self.now.blocks.items c.args.self.now.places.items (plain c.args.self.now.graph) b.built f c.args.self.now.firsts.items c.args.self.now.heads b.traced
          c.args.a c.args.nodes.now c.requires.children block leaf (plain c.absorb_all.new.graph) are c.requires.own c.requires.allowed);
      fixed = fixed_left (plain f.graph) _ c.args.self.now.blocks.items _ c.args.self.now.firsts.items _ c.args.self.now.ranks.items c.in_ok-add.ensures.blocks
          (ap (λ v. v.items) c.in_ok-add.ensures.firsts) (ap (λ v. v.items) c.in_ok-add.ensures.ranks) b.fixed;
    }

pub returns-clause-rings : goal.returns-clause-rings
returns-clause-rings c =
    let P : Shape → Type 0 = λ s. AreAbsorbed (plain s) c.args.a c.args.nodes.now (plain c.absorb_all.new.graph) in
    let are = subst P c.in_ok-add.ensures.graph c.absorb_all.ensures in record { count = are.count; crossed = are.crossed }

pub returns-clause-smaller : goal.returns-clause-smaller
returns-clause-smaller c =
    let (p, f, b) = c.requires.built in
    let P : Shape → Type 0 = λ s. AreAbsorbed (plain s) c.args.a c.args.nodes.now (plain c.absorb_all.new.graph) in
    branch_less (plain c.args.self.now.graph) b.built.formed c.args.a c.args.nodes.now (plain c.absorb_all.new.graph) c.requires.children (subst P c.in_ok-add.ensures.graph c.absorb_all.ensures)

pub returns-clause-ranks : goal.returns-clause-ranks
returns-clause-ranks c = ap (λ v. v.items) c.in_ok-add.ensures.ranks

pub returns-clause-arms : goal.returns-clause-arms
returns-clause-arms c = record { first = c.index-first.result.now; arms = c.in_ok-arms.arms; list = c.in_ok-add.ensures.list; places = c.in_ok-add.ensures.places }
