use Rattle.std.proofs.Common.{◌≡◌, ◌+◌, ◌≤◌, length}
use Rattle.dxil_form.specs.Sound.{cases_of}
use Rattle.plain_programs.specs.Plain.{ArePlain}
use Rattle.plain_programs.proofs.plain.plain_blocks.Given as goal

abbrev pub invariant-loop-i : goal.invariant-loop-i
invariant-loop-i l = record { len : length l.blocks ≡ l.i; plain : ArePlain l.count l.blocks; cases : cases_of l.blocks + l.left ≤ 65536 }
