use Rattle.std.proofs.Common.{◌+◌, ◌-◌, inl, inr, ℕ, Bool, false, List, length, get_or, ap, sym, subst, ◌∙◌, arith}
use Rattle.std.proofs.lemmas.Bool.{cases_eq}
use Rattle.flow_graph.specs.Shapes.{plain}
use Rattle.region_builder.specs.Built.{Went}
use Rattle.region_builder.proofs.Finding.{went_nowhere, went_on, kept_built, same_blocks, or_false, settled_went}
use Rattle.region_builder.proofs.Bareness.{above_first, above_from, from_above}
use Rattle.region_builder.proofs.builder.Builder.round.Goals as goal

pub loop-seen-init : goal.loop-seen-init
loop-seen-init c = record {
  went = went_nowhere c.args.self.now;
  settled = λ f a l live. (
      let (p, first, b) = c.requires.built in
      let i = b.built.formed.within a live in
      let e = b.built.count in
      let k = b.fixed.low a (omega arith) in absurd (omega arith));
  bare = λ p first is tree bare. above_first p first c.args.self.now is _ (omega arith) bare;
}

pub visit_rank-requires : goal.visit_rank-requires
visit_rank-requires c = record { built = kept_built c.args.self.now c.loop-seen.self c.loop-seen.invariant.went.keeps c.requires.built }

pub loop-seen-preserved : goal.loop-seen-preserved
loop-seen-preserved c = record {
  went = (let P : Bool → Type 0 = λ d. Went c.args.self.now c.visit_rank.new.self d in
      subst P (sym c.either-changed.ensures) (went_on c.args.self.now c.loop-seen.self c.visit_rank.new.self c.loop-seen.changed c.in_ok-done.done c.loop-seen.invariant.went c.in_ok-done.ensures.went));
  settled = λ f a l live. (
      let (x, y) = or_false c.loop-seen.changed c.in_ok-done.done (sym c.either-changed.ensures ∙ f) in
      let P : Bool → Type 0 = λ d. Went c.args.self.now c.loop-seen.self d in
      let w : Went c.args.self.now c.loop-seen.self false = subst P x c.loop-seen.invariant.went in
      elim (cases_eq (get_or c.args.self.now.ranks.items a 0) (c.len.result + 1 - c.loop-seen.seen)) [
        | inl e ↦ settled_went c.args.self.now c.loop-seen.self w a (c.in_ok-done.ensures.settled y a (ap (λ (m : List ℕ). get_or m a 0) w.ranks ∙ e)) live
        | inr n ↦ c.loop-seen.invariant.settled x a (omega arith) live
      ]);
  bare = λ p first is tree bare. (
      let now = c.loop-seen.invariant.went.keeps p first is in
      let new = c.in_ok-done.ensures.went.keeps p first now in
      let e = same_blocks c.loop-seen.self c.visit_rank.new.self (p, first, now) c.in_ok-done.ensures.went.keeps c.in_ok-done.ensures.went.rings in
      from_above p first c.visit_rank.new.self new _ (length c.loop-seen.self.blocks.items) _ (sym e) (omega arith)
      (c.in_ok-done.ensures.bare p first now tree (above_from (plain first.graph) c.loop-seen.self _ _ (omega arith) (c.loop-seen.invariant.bare p first is tree bare))));
}

pub returns-clause-settled : goal.returns-clause-settled
returns-clause-settled c f a live = c.loop-seen.invariant.settled f a (omega arith) live

pub returns-clause-bare : goal.returns-clause-bare
returns-clause-bare c p first is tree bare = (c.loop-seen.invariant.bare p first is tree bare).bare
