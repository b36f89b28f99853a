use Rattle.std.proofs.Common.{◌≡◌, ◌++◌, [], ℕ, take}
use Rattle.std.specs.BTreeSet as tree
use Rattle.phi_demotion.specs.Reads as stated
use Rattle.phi_demotion.proofs.crossing.keep_lines.Given as goal

abbrev pub invariant-loop-instr : goal.invariant-loop-instr
invariant-loop-instr l =
    record {
      reads : l.reads ≡ l.initial.reads ++ stated.line_reads [] (take l.instr-index l.instr-items);
      settled : (q : ℕ × ℕ) → tree.contains stated.key_cmp l.settled q ≡ stated.has_key (stated.settled (take l.instr-index l.instr-items)) q;
    }
