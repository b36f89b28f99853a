use Rattle.llvm_facts.proofs.Numbers.{cut_wide, fits_wide}
use Rattle.llvm_facts.proofs.lookup.cut.Goals as goal

pub returns-else-width-lt64-clause-value : goal.returns-else-width-lt64-clause-value
returns-else-width-lt64-clause-value c = cut_wide c.args.width c.args.bits c.if-width-lt64.false c.ranges.bits.fits

pub returns-else-width-lt64-clause-below : goal.returns-else-width-lt64-clause-below
returns-else-width-lt64-clause-below c = fits_wide c.args.width c.args.bits c.if-width-lt64.false c.ranges.bits.fits
