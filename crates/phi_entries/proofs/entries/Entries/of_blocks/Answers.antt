use Rattle.std.proofs.Common.{None, length, nat_eq, if◌then◌else◌, refl, ap, ◌∙◌, arith}
use Rattle.std.specs.Prelude.{slice_get}
use Rattle.std.specs.Option.{option_or}
use Rattle.std.proofs.lemmas.Option.{slice_get_read}
use Rattle.phi_entries.specs.Entries.{entry_in, entry_of}
use Rattle.phi_entries.proofs.Made.{all_blocks, blocks_next}
use Rattle.phi_entries.proofs.entries.Entries.of_blocks.Goals as goal

pub loop-k-preserved : goal.loop-k-preserved
loop-k-preserved c = λ k n from.
    let stands = slice_get_read c.args.blocks.now (length c.args.blocks.now) c.loop-k.k c.index-blocks-k.result refl c.loop-k-test.true c.index-blocks-k.is in
    let added = c.in_ok-add_block.ensures k n from ∙ ap (λ ps. option_or (entry_of c.loop-k.entries k n from) (if nat_eq k c.loop-k.k then entry_in from (slice_get ps n) else None)) c.as_slice.ensures in
    blocks_next (entry_of c.loop-k.entries k n from) (entry_of c.add_block.new.self k n from) c.args.blocks.now c.loop-k.k k n from c.index-blocks-k.result stands (c.loop-k.invariant k n from) added

pub returns : goal.returns
returns c = λ k n from.
    c.loop-k.invariant k n from ∙ all_blocks c.args.blocks.now c.loop-k.k k n from (omega arith)
