use Rattle.std.proofs.Common.{arith, ◌++◌, ◌∷◌, [], ◌∙◌, ap, map, ℕ}
use Rattle.flow_blocks.specs.Blocks.{every_second}
use Rattle.flow_blocks.specs.Passes.{number_in}
use Rattle.flow_blocks.proofs.Seconds.{seconds_more, seconds_all}
use Rattle.flow_blocks.proofs.inst.push_seconds.Goals as goal

pub loop-at-preserved : goal.loop-at-preserved
loop-at-preserved c =
    let number = number_in c.args.labels.now in
    let all = c.args.targets.now ++ map number (every_second c.args.words.now) in (
      omega arith,
      omega arith,
      seconds_more number c.args.words.now all c.loop-at.targets c.push_number.new.numbers c.loop-at.at c.loop-at.invariant.0 c.loop-at-test.true
          (c.in_ok-push_number.ensures ∙ ap (λ (n : ℕ). c.loop-at.targets ++ n ∷ []) c.number.ensures) c.loop-at.invariant.2,
    )

pub returns : goal.returns
returns c =
    let number = number_in c.args.labels.now in
    let all = c.args.targets.now ++ map number (every_second c.args.words.now) in
    seconds_all number c.args.words.now all c.loop-at.targets c.loop-at.at c.loop-at.invariant.0 c.loop-at-test.false c.loop-at.invariant.2
