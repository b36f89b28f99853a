use Rattle.std.proofs.Common.{◌≡◌, ℕ, [], ◌∷◌, ◌++◌, get_or, eqb, not, arith, ap, sym, subst, refl, true, false, ◌∙◌}
use Rattle.std.proofs.lemmas.Bool.{and_left, false≢true}
use Rattle.std.proofs.lemmas.List.{get_or_default}
use Rattle.dxil_form.specs.declared.region.Region.{Region}
use Rattle.dxil_form.specs.declared.region.Region.TheVariants.{Loop}
use Rattle.dxil_form.specs.Graphs.{Graph, folded}
use Rattle.graph_laws.proofs.Rewrites.{fold_keeps}
use Rattle.flow_graph.specs.Shapes.{plain}
use Rattle.head_table.specs.declared.table.HeadTable.{HeadTable}
use Rattle.head_table.specs.Table.{over}
use Rattle.region_builder.specs.Settled.{MayRepeat}
use Rattle.region_builder.specs.Built.{Keeps}
use Rattle.region_builder.proofs.Steps.{loop_left}
use Rattle.region_builder.proofs.Walking.{loop_walks}
use Rattle.region_builder.proofs.Tracing.{traced_loop, traced_left, fixed_left}
use Rattle.region_builder.proofs.Sizes.{fold_lessens, less_of, rings_of}
use Rattle.region_builder.proofs.Finding.{went_nowhere}
use Rattle.region_builder.proofs.builder.Builder.repeat.Goals as goal
use Rattle.region_builder.proofs.builder.Builder.repeat.Goals.{In_ok-add}

pub returns-then-not-may_repeat-clause-went : goal.returns-then-not-may_repeat-clause-went
returns-then-not-may_repeat-clause-went c = went_nowhere c.args.self.now

may : (c : In_ok-add) → MayRepeat (over c.args.self.now.heads) (plain c.args.self.now.graph) c.args.a
may c = c.may_repeat.ensures.0 c.if-not-may_repeat.false

graph : (c : In_ok-add) → plain c.add.new.self.graph ≡ folded (plain c.args.self.now.graph) c.args.a
graph c = ap plain c.in_ok-add.ensures.graph ∙ c.fold.ensures.exact

keeps : (c : In_ok-add) → Keeps c.args.self.now c.add.new.self
keeps c p f b =
    let self = (may c).edge in
    let count = b.built.count in
    let same = b.built.places_count in
    let x = b.built.formed.within c.args.a c.requires.live in
    let body : c.index-body.result.now ≡ get_or c.args.self.now.places.items c.args.a 0 = c.index-body.ensures ∙ get_or_default c.args.self.now.places.items c.args.a _ 0 (omega arith) in
    let head : c.index-head.result.now ≡ get_or c.args.self.now.blocks.items c.args.a 0 = c.index-head.ensures ∙ get_or_default c.args.self.now.blocks.items c.args.a _ 0 (omega arith) in
    let region : Loop c.index-body.result.now c.index-head.result.now ≡ Loop (get_or c.args.self.now.places.items c.args.a 0) (get_or c.args.self.now.blocks.items c.args.a 0) = cc in
    record {
      built = loop_left p c.args.self.now.list c.args.self.now.blocks.items c.args.self.now.places.items (plain c.args.self.now.graph) b.built c.args.a self
          _ region _ _ _ _ c.in_ok-add.ensures.list c.in_ok-add.ensures.blocks c.in_ok-add.ensures.places (graph c);
      walked = loop_walks p c.args.self.now.list c.args.self.now.blocks.items c.args.self.now.places.items (plain c.args.self.now.graph) b.built b.walked c.args.a self
          _ region _ _ _ _ c.in_ok-add.ensures.list c.in_ok-add.ensures.blocks c.in_ok-add.ensures.places (graph c);
      traced = traced_left p f _ _ _ _ _ _ _ _ _ _ _ _
          (c.in_ok-add.ensures.list ∙ ap (λ (r : Region). c.args.self.now.list ++ r ∷ []) region) c.in_ok-add.ensures.blocks c.in_ok-add.ensures.places (graph c)
          (ap (λ v. v.items) c.in_ok-add.ensures.firsts) c.in_ok-add.ensures.heads
          (traced_loop p c.args.self.now.list c.args.self.now.blocks.items c.args.self.now.places.items (plain c.args.self.now.graph) b.built f c.args.self.now.firsts.items c.args.self.now.heads b.traced
          c.args.a self (may c).alone c.end_head.new.self c.end_head.ensures.count c.end_head.ensures.ended);
      fixed = fixed_left (plain f.graph) _ c.args.self.now.blocks.items _ c.args.self.now.firsts.items _ c.args.self.now.ranks.items c.in_ok-add.ensures.blocks
          (ap (λ v. v.items) c.in_ok-add.ensures.firsts) (ap (λ v. v.items) c.in_ok-add.ensures.ranks) b.fixed;
    }

fewer : (c : In_ok-add) (h k : ℕ) → over c.args.self.now.heads h k ≡ false → over c.add.new.self.heads h k ≡ false
fewer c h k z =
    ap (λ (t : HeadTable). over t h k) c.in_ok-add.ensures.heads ∙ c.end_head.ensures.ended h k ∙ and_left (over c.args.self.now.heads h k) (not (eqb h c.args.a)) z

pub returns-clause-went : goal.returns-clause-went
returns-clause-went c =
    let d = (goal.at.returns-clause-went c).In_ok-add in
    let (p, f, b) = c.requires.built in
    record {
      keeps = keeps d;
      rings = rings_of _ c.args.self.now.graph c.add.new.self.graph (graph d) refl (fold_keeps (plain c.args.self.now.graph) c.args.a);
      smaller = λ t. less_of _ c.args.self.now.graph c.add.new.self.graph (graph d) (fold_lessens (plain c.args.self.now.graph) b.built.formed c.args.a (may d).edge);
      same = λ z. absurd (false≢true (sym z));
      told = λ z. absurd (false≢true (sym z));
      list = λ z. absurd (false≢true (sym z));
      places = λ z. absurd (false≢true (sym z));
      ranks = ap (λ v. v.items) c.in_ok-add.ensures.ranks;
      fewer = fewer d;
    }

pub returns-clause-live : goal.returns-clause-live
returns-clause-live c =
    let d = (goal.at.returns-clause-live c).In_ok-add in
    let P : Graph → Type 0 = λ g. g.live c.args.a ≡ true in subst P (sym (graph d)) c.requires.live

pub returns-then-not-may_repeat-clause-did : goal.returns-then-not-may_repeat-clause-did
returns-then-not-may_repeat-clause-did c t = absurd (false≢true t)

pub returns-clause-did : goal.returns-clause-did
returns-clause-did c t = may (goal.at.returns-clause-did c).In_ok-add
