use Rattle.llvm_values.proofs.Listing.{IsListing}
use Rattle.llvm_values.proofs.list.values_in.Given as goal

abbrev pub invariant-loop-item : goal.invariant-loop-item
invariant-loop-item l = IsListing l.list l.fields l.types.list l.item-index l.reader
