use Rattle.std.proofs.Common.{◌≡◌, ◌≤◌, ◌-◌, length}
use Rattle.spv_form.specs.Words.{start_of}
use Rattle.spirv_words.specs.Reading.{AreRead}
use Rattle.spirv_words.proofs.read.read_insts.Given as goal

abbrev pub invariant-loop-at : goal.invariant-loop-at
invariant-loop-at l = record {
  read : AreRead l.words l.header.bound l.insts;
  place : l.at ≡ start_of l.insts (length l.insts);
  within : l.at ≤ length l.words;
}

abbrev pub decreases-loop-at : goal.decreases-loop-at
decreases-loop-at l = length l.words - l.at
