use Rattle.std.proofs.Common.{◌&&◌, None, length, nat_eq, if◌then◌else◌, refl, ap, ◌∙◌, arith}
use Rattle.std.specs.Option.{option_or}
use Rattle.std.proofs.lemmas.Option.{slice_get_read}
use Rattle.phi_entries.specs.Entries.{entry_of, first_entry}
use Rattle.phi_entries.proofs.Made.{all_phis, phis_next}
use Rattle.phi_entries.proofs.entries.Entries.add_block.Goals as goal

pub loop-n-preserved : goal.loop-n-preserved
loop-n-preserved c = λ k n from.
    let stands = slice_get_read c.args.phis.now (length c.args.phis.now) c.loop-n.n c.index-phis-n.result refl c.loop-n-test.true c.index-phis-n.is in
    let added = c.in_ok-add_phi.ensures k n from ∙ ap (λ es. option_or (entry_of c.loop-n.self k n from) (if nat_eq k c.args.block && nat_eq n c.loop-n.n then first_entry from es else None)) c.as_slice.ensures in
    phis_next (entry_of c.args.self.now k n from) (entry_of c.loop-n.self k n from) (entry_of c.add_phi.new.self k n from) (nat_eq k c.args.block) c.args.phis.now c.loop-n.n n from c.index-phis-n.result stands (c.loop-n.invariant k n from) added

pub returns : goal.returns
returns c = λ k n from.
    c.loop-n.invariant k n from ∙ ap (λ o. option_or (entry_of c.args.self.now k n from) (if nat_eq k c.args.block then o else None)) (all_phis c.args.phis.now c.loop-n.n n from (omega arith))
