use Rattle.std.proofs.Common.{◌≡◌}
use Rattle.spv_form.specs.Words.{start_of}
use Rattle.flow_tests.proofs.blocks.expect_short.Given as goal

abbrev pub invariant-loop-at : goal.invariant-loop-at
invariant-loop-at g l = l.word ≡ start_of l.insts l.at
