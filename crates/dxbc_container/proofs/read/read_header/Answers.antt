use Rattle.std.proofs.Common.{arith}
use Rattle.dxbc_container.proofs.Firsts.{first_c1_short, first_c1_magic, first_c2, first_c3_low, first_c3_high, first_c4_table}
use Rattle.dxbc_container.proofs.Tables.{refused_is, not_so}
use Rattle.dxbc_container.proofs.read.read_header.Goals as goal

pub returns-then-bytes-lt32 : goal.returns-then-bytes-lt32
returns-then-bytes-lt32 c = refused_is _ _ _ _ c.refused.ensures (first_c1_short _ (omega arith))

pub returns-then-not-has_magic : goal.returns-then-not-has_magic
returns-then-not-has_magic c = refused_is _ _ _ _ c.refused-then-not-has_magic.ensures (first_c1_magic _ (not_so _ c.if-not-has_magic.true c.has_magic.ensures))

pub returns-then-number-ne1 : goal.returns-then-number-ne1
returns-then-number-ne1 c = refused_is _ _ _ _ c.refused-then-number-ne1.ensures (first_c2 _ (omega arith) (c.has_magic.ensures.0 c.if-not-has_magic.false) (λ e. absurd (omega (arith, c.number.ensures, c.if-number-ne1.true))))

pub returns-then-size-lt32 : goal.returns-then-size-lt32
returns-then-size-lt32 c = refused_is _ _ _ _ c.refused-then-size-lt32.ensures (first_c3_low _ (omega arith) (c.has_magic.ensures.0 c.if-not-has_magic.false) (omega (arith, c.number.ensures)) (omega (arith, c.number-size.ensures)))

pub returns-then-size-bytes : goal.returns-then-size-bytes
returns-then-size-bytes c = refused_is _ _ _ _ c.refused-then-size-bytes.ensures (first_c3_high _ (omega arith) (c.has_magic.ensures.0 c.if-not-has_magic.false) (omega (arith, c.number.ensures)) (omega (arith, c.number-size.ensures)))

pub returns-then-count-size : goal.returns-then-count-size
returns-then-count-size c = refused_is _ _ _ _ c.refused-then-count-size.ensures (first_c4_table _ (omega arith) (c.has_magic.ensures.0 c.if-not-has_magic.false) (omega (arith, c.number.ensures)) (omega (arith, c.number-size.ensures)) (omega (arith, c.number-size.ensures)) (omega (arith, c.number-size.ensures, c.number-count.ensures)))
