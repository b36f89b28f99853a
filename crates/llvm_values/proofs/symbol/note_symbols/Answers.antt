use Rattle.std.proofs.Common.{arith}
use Rattle.llvm_values.proofs.Symbols.{noting_more}
use Rattle.llvm_values.proofs.symbol.note_symbols.Goals as goal

pub loop-item-preserved : goal.loop-item-preserved
loop-item-preserved c = noting_more _ _ _ _ _ _ _ _ c.requires.framed c.loop-item.invariant c.loop-item-test.true (omega (arith, c.note_symbol.auto.symbols)) c.note_symbol.ensures c.in_ok-pass.ensures.ok
