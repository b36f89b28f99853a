use Rattle.std.proofs.Common.{◌≡◌, ◌≤◌, ◌-◌, ◌∙◌, ap, arith, length, take, drop, length-drop}
use Rattle.std.proofs.lemmas.Grind.{common_steps}
use Rattle.dx_outside.specs.Outside.{with_more}
use Rattle.dx_outside.proofs.Reading.{with_more-take, rest_all}
use Rattle.dx_outside.proofs.text.say.Goals as goal

pub loop-said-preserved : goal.loop-said-preserved
loop-said-preserved g c =
    let within : c.in-Ok.n ≤ length (drop c.loop-said.said c.args.text.now) = rw rest_all at c.in-Ok.ensures.bytes.within in
    let taken = rw rest_all at c.in-Ok.ensures.bytes.taken in
    let len : length (drop c.loop-said.said c.args.text.now) ≡ length c.args.text.now - c.loop-said.said = length-drop _ _ in
    record {
      within = omega (arith, within, len, c.loop-said.invariant.within);
      taken = taken ∙ ap (λ w. with_more w (take c.in-Ok.n (drop c.loop-said.said c.args.text.now))) c.loop-said.invariant.taken
          ∙ with_more-take _ c.args.text.now c.loop-said.said c.in-Ok.n;
      counts = grind (arith, common_steps);
    }
