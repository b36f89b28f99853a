use Rattle.std.proofs.Common.{arith, ◌/◌, ◌∙◌, ℕ, subst, sym}
use Rattle.std.proofs.lemmas.Grind.{get_or_default_zero}
use Rattle.flow_scans.specs.declared.range.Level.{Level}
use Rattle.flow_scans.specs.Ranges.{IsMost, IsLevel}
use Rattle.flow_scans.proofs.Chunks.{chunk_of_level}
use Rattle.flow_scans.proofs.range.chunk_at.Goals as goal

pub index-requires : goal.index-requires
index-requires c =
    let level = c.level-item.result in
    let is : IsLevel c.args.values.now level = subst (λ (l : Level). IsLevel c.args.values.now l) (sym c.level-item.is) (c.requires.levels c.loop-level.level-index level (omega arith)) in
    let found = chunk_of_level c.args.values.now level.maxima.items level.width c.args.place is (omega arith) (omega arith) in
    omega (arith, found.0)

pub loop-level-preserved : goal.loop-level-preserved
loop-level-preserved c =
    let level = c.level-item.result in
    let is : IsLevel c.args.values.now level = subst (λ (l : Level). IsLevel c.args.values.now l) (sym c.level-item.is) (c.requires.levels c.loop-level.level-index level (omega arith)) in
    let found = chunk_of_level c.args.values.now level.maxima.items level.width c.args.place is (omega arith) (omega arith) in
    let most = c.index.ensures ∙ get_or_default_zero level.maxima.items (c.args.place / level.width) c.index.result.now found.0 in
    record {
      most = subst (λ (m : ℕ). IsMost c.args.values.now c.args.place level.width m) (sym most) found.1;
      fits = omega arith;
      some = is.some;
    }
