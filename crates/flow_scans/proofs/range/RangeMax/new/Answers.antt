use Rattle.std.proofs.Common.{arith, ◌≡◌, ◌<◌, ◌++◌, ◌∷◌, [], subst, sym, ℕ, List, length}
use Rattle.std.proofs.lemmas.Grind.{common_steps}
use Rattle.std.proofs.lemmas.List.Elements.{All-push}
use Rattle.flow_scans.specs.declared.range.Level.{Level}
use Rattle.flow_scans.specs.Ranges.{AreMaxima, IsLevel, AreLevels}
use Rattle.flow_scans.proofs.Chunks.{fewer_maxima, maxima_of_maxima}
use Rattle.flow_scans.proofs.range.RangeMax.new.Goals as goal

pub overflow_mul-width : goal.overflow_mul-width
overflow_mul-width c =
    let some : 0 < length c.loop-alloc.maxima.items = grind (arith, common_steps) in
    omega (arith, (c.loop-alloc.invariant.next.whole 0).0 some)

pub loop-alloc-smaller : goal.loop-alloc-smaller
loop-alloc-smaller c =
    let some : 0 < length c.loop-alloc.maxima.items = grind (arith, common_steps) in
    let wider : AreMaxima c.loop-alloc.maxima.items 16 c.in_ok-wider.wider.items = subst (λ (items : List ℕ). AreMaxima items 16 c.in_ok-wider.wider.items) c.as_slice-in-loop-alloc.ensures.value c.in_ok-wider.ensures in
    fewer_maxima c.loop-alloc.maxima.items c.in_ok-wider.wider.items wider some

pub loop-alloc-preserved : goal.loop-alloc-preserved
loop-alloc-preserved c =
    let level : Level = record { width = c.loop-alloc.width; maxima = c.loop-alloc.maxima } in
    let pushed : c.push.new.self.items ≡ c.loop-alloc.levels.items ++ level ∷ [] = grind (arith, common_steps) in
    let wider : AreMaxima c.loop-alloc.maxima.items 16 c.in_ok-wider.wider.items = subst (λ (items : List ℕ). AreMaxima items 16 c.in_ok-wider.wider.items) c.as_slice-in-loop-alloc.ensures.value c.in_ok-wider.ensures in
    record {
      next = maxima_of_maxima c.args.values.items c.loop-alloc.maxima.items c.in_ok-wider.wider.items c.loop-alloc.width c.loop-alloc.invariant.next wider;
      levels = subst (λ (levels : List Level). AreLevels c.args.values.items levels) (sym pushed)
          (All-push (IsLevel c.args.values.items) c.loop-alloc.levels.items level c.loop-alloc.invariant.levels c.loop-alloc.invariant.next);
    }
