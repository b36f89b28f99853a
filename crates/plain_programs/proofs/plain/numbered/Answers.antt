use Rattle.std.proofs.Common.{◌≡◌, ◌+◌, ℕ, List, length, subst, sym, arith}
use Rattle.plain_programs.specs.Plain.{AreNumbered}
use Rattle.plain_programs.proofs.PlainSound.{numbered_on, none_numbered}
use Rattle.plain_programs.proofs.plain.numbered.Goals as goal

pub loop-i-init : goal.loop-i-init
loop-i-init c = let P : List (ℕ × ℕ) → Type 0 = λ l. AreNumbered c.args.targets.now 0 l in subst P (sym c.new-cases.ensures) (none_numbered c.args.targets.now)

pub loop-i-preserved : goal.loop-i-preserved
loop-i-preserved c =
    let P : List (ℕ × ℕ) → Type 0 = λ l. AreNumbered c.args.targets.now (c.loop-i.i + 1) l in
    subst P (sym c.in_ok-add_case.ensures) (numbered_on c.args.targets.now c.loop-i.i c.loop-i.cases c.loop-i.invariant)

pub returns : goal.returns
returns c = let e : c.loop-i.i ≡ length c.args.targets.now = omega (arith, c.loop-i.auto.i-end) in let P : ℕ → Type 0 = λ n. AreNumbered c.args.targets.now n c.loop-i.cases in subst P e c.loop-i.invariant
