use Rattle.std.proofs.Common.{◌==◌, ap}
use Rattle.llvm_facts.proofs.Numbers.{cut_wide}
use Rattle.profile_lines.proofs.pool.is_multiple.Goals as goal

pub returns-else-width-lt64 : goal.returns-else-width-lt64
returns-else-width-lt64 c = ap (λ n. n == 0) (cut_wide c.args.width c.args.bits c.if-width-lt64.false c.ranges.bits.fits)
