use Rattle.std.proofs.Common.{◌≡◌, take}
use Rattle.dx_run.proofs.output.bytes_of_text.Given as goal

abbrev pub invariant-loop-byte : goal.invariant-loop-byte
invariant-loop-byte l = l.bytes ≡ take l.byte-index l.text
