use Rattle.std.proofs.Common.{rules, ◌∙◌, ap, true, false, Some, None, List, ℕ}
use Rattle.llvm_facts.specs.Entry.{counts_bit}
use Rattle.llvm_facts.proofs.NumberLaws.{refusal, threads_at, outside_at, rows_at, first_model, first_entry, first_threads, first_counts, first_rows, sound}
use Rattle.llvm_facts.proofs.read.check.Goals as goal

pub returns-in-Some : goal.returns-in-Some
returns-in-Some c = refusal _ _ _ _ _ c.refused.ensures (first_model _ _ _ c.in-Some.ensures)

pub returns-in-Some-fault_of : goal.returns-in-Some-fault_of
returns-in-Some-fault_of c = refusal _ _ _ _ _ c.refused-in-Some-fault_of.ensures (first_entry c.args.lookup.now c.args.meta.now c.in-None.ensures _ c.in-Some-fault_of.ensures)

pub returns-then-not-tells_threads : goal.returns-then-not-tells_threads
returns-then-not-tells_threads c =
    refusal _ _ _ _ _ c.refused-then-not-tells_threads.ensures
    (first_threads c.args.lookup.now c.args.meta.now c.in-None.ensures c.in-None-fault_of.ensures c.args.bit c.requires.bit (threads_at c.args.lookup.now c.args.meta.now c.args.entry.now false c.requires.entry (search rules)))

pub returns-then-are_outside : goal.returns-then-are_outside
returns-then-are_outside c =
    refusal _ _ _ _ _ c.refused-then-are_outside.ensures
    (first_counts c.args.lookup.now c.args.meta.now c.in-None.ensures c.in-None-fault_of.ensures (threads_at c.args.lookup.now c.args.meta.now c.args.entry.now true c.requires.entry (search rules)) c.counts_bit.result
    (c.counts_bit.ensures ∙ ap (λ (l : List ℕ). counts_bit c.args.lookup.now l) c.requires.entry) (outside_at c.args.lookup.now c.args.meta.now c.args.entry.now true c.requires.entry (search rules)))

pub returns-in-Some-fault : goal.returns-in-Some-fault
returns-in-Some-fault c =
    refusal _ _ _ _ _ c.refused-in-Some-fault.ensures
    (first_rows c.args.lookup.now c.args.meta.now c.in-None.ensures c.in-None-fault_of.ensures (threads_at c.args.lookup.now c.args.meta.now c.args.entry.now true c.requires.entry (search rules))
    (outside_at c.args.lookup.now c.args.meta.now c.args.entry.now false c.requires.entry (search rules)) c.in-Some-fault.at
    (rows_at c.args.lookup.now c.args.meta.now c.args.entry.now c.args.bit c.in-Ok.fault (Some c.in-Some-fault.at) c.requires.entry c.requires.bit c.in-Some-fault.is c.in-Ok.ensures))

pub returns-in-None-fault : goal.returns-in-None-fault
returns-in-None-fault c =
    sound c.args.lookup.now c.args.meta.now c.in-None.ensures c.in-None-fault_of.ensures (threads_at c.args.lookup.now c.args.meta.now c.args.entry.now true c.requires.entry (search rules))
    (outside_at c.args.lookup.now c.args.meta.now c.args.entry.now false c.requires.entry (search rules))
    (rows_at c.args.lookup.now c.args.meta.now c.args.entry.now c.args.bit c.in-Ok.fault None c.requires.entry c.requires.bit c.in-None-fault.is c.in-Ok.ensures)
