use Rattle.std.proofs.Common.{sym, subst}
use Rattle.llvm_bodies.specs.Reading.{IsStopped, Tells}
use Rattle.llvm_bodies.proofs.Keeping.{tells_of}
use Rattle.llvm_bodies.proofs.read.step.Goals as goal

pub returns-in-Some : goal.returns-in-Some
returns-in-Some c =
    let P = IsStopped c.args.facts.now c.args.fields.now c.args.reader.now c.args.item in
    subst (Tells P) (sym c.fault_of.ensures)
    (tells_of P _ _ c.in-Some.ensures.small (record { parts = c.in-Ok.parts; says = c.in-Ok.ensures; first = c.in-Some.ensures.rule.0; positive = c.in-Some.ensures.rule.1; at = c.bit_of.ensures }))
