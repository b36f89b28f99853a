use Rattle.std.proofs.Common.{sym}
use Rattle.phi_entries.specs.Entries.{edge_for, entry_of}
use Rattle.phi_entries.proofs.Noted.{added, stays}
use Rattle.phi_entries.proofs.entries.Entries.add.Goals as goal

pub returns-in-Some : goal.returns-in-Some
unfolding entry_of
returns-in-Some c = λ k n from.
    stays c.args.self.now.first.entries c.args.edge k n from c.args.value c.in-Some.field-0.now (sym c.in-Some.ensures.value)

pub returns-in-Ok : goal.returns-in-Ok
unfolding entry_of
returns-in-Ok c = λ k n from.
    added c.args.self.now.first.entries c.args.edge k n from c.insert.new.self.entries c.args.value (sym c.in-None.ensures.value) (c.in-Ok.ensures.updates.0 (edge_for k n from))
