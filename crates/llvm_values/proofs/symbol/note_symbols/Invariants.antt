use Rattle.llvm_values.proofs.Symbols.{IsNoting}
use Rattle.llvm_values.proofs.symbol.note_symbols.Given as goal

abbrev pub invariant-loop-item : goal.invariant-loop-item
invariant-loop-item l = IsNoting l.list l.fields l.item-index l.around l.symbols
