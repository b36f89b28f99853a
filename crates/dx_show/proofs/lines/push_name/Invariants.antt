use Rattle.std.proofs.Common.{◌≡◌, ◌++◌, take, map}
use Rattle.dx_show.specs.Lines.{shown}
use Rattle.dx_show.proofs.lines.push_name.Given as goal

abbrev pub invariant-loop-byte : goal.invariant-loop-byte
invariant-loop-byte l = l.text ≡ l.initial.text ++ map shown (take l.byte-index l.name)
