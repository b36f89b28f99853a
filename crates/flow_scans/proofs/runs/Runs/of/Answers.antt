use Rattle.std.proofs.Common.{arith, ◌≡◌, ◌+◌, ◌++◌, ◌∷◌, [], refl, sym, subst, length, List, get_or}
use Rattle.std.proofs.lemmas.Bool.{false≢true}
use Rattle.std.proofs.lemmas.Grind.{common_steps}
use Rattle.std.proofs.lemmas.List.FromFn.{fill_by_all}
use Rattle.flow_scans.specs.Runs.{number_at, AreRuns}
use Rattle.flow_scans.specs.declared.runs.Run.{Run}
use Rattle.flow_scans.proofs.Places.{AreSame, runs_kept, runs_more}
use Rattle.flow_scans.proofs.runs.Runs.of.Goals as goal
use Rattle.flow_scans.proofs.runs.Runs.of.Goals.{then-begins+else-is_err, else-begins}

pub loop-place-preserved : goal.loop-place-preserved
loop-place-preserved c =
    let numbers = c.args.numbers.now in
    let place = c.loop-place.place in
    let runs = c.loop-place.runs.items in
    elim c.if-begins.branch [
      | then-begins+else-is_err w ↦ (
          let run : Run = record { first = place; number = get_or numbers place 0 } in
          let pushed : c.if-begins.runs.items ≡ runs ++ run ∷ [] = grind (arith, common_steps) in
          let more = runs_more numbers runs run place (w.if-begins.ensures.0 refl) refl refl c.loop-place.invariant.runs c.loop-place.invariant.same in
          record {
            runs = subst (λ (items : List Run). AreRuns items (place + 1)) (sym pushed) more.0;
            same = subst (λ (items : List Run). AreSame numbers items (place + 1)) (sym pushed) more.1;
          })
      | else-begins w ↦ (
          let kept = runs_kept numbers runs place (λ begins. false≢true (w.if-begins.ensures.1 begins)) c.loop-place.invariant.runs c.loop-place.invariant.same in
          rw w.runs-is (record { runs = kept.0; same = kept.1 }))
    ]

pub returns : goal.returns
returns c = sym (fill_by_all (number_at c.loop-place.runs.items) c.args.numbers.now (length c.args.numbers.now) 0 refl (λ k h. sym (c.loop-place.invariant.same k (omega arith))))
