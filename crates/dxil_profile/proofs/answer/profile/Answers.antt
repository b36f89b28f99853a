use Rattle.std.proofs.Common.{ℕ, sym, subst, Option}
use Rattle.dx_base.specs.First.{IsFirst}
use Rattle.profile_tables.specs.EntryBody.{EntryBody}
use Rattle.profile_rules.specs.Rules.{Broken}
use Rattle.profile_rules.specs.Checking.{AreInBlocks, FaultAnswer}
use Rattle.entry_read.specs.Entry.{entry_body}
use Rattle.dxil_profile.proofs.Answering.{in_blocks, refused}
use Rattle.dxil_profile.proofs.answer.profile.Goals as goal

pub first_fault-requires-clause-blocks : goal.first_fault-requires-clause-blocks
first_fault-requires-clause-blocks c = subst AreInBlocks (sym c.in-Ok.ensures) (in_blocks (entry_body c.args.types.now c.args.records.now c.args.facts.now) c.args.facts.now.local c.requires)

pub returns-in-Ok-Some : goal.returns-in-Ok-Some
returns-in-Ok-Some c =
    let f = subst (λ (o : Option (ℕ × ℕ)). FaultAnswer o c.in-Ok.scope) c.in-Ok-Some.field-0-is c.in-Ok-Some.ensures in
    refused c.args.types.now c.args.records.now c.args.facts.now c.in-Ok-Some.rule c.in-Ok-Some.bit c.fault_of.result c.fault_of.ensures f.0
    (subst (λ (x : EntryBody). IsFirst (Broken x) c.in-Ok-Some.rule c.in-Ok-Some.bit) c.in-Ok.ensures f.1)
