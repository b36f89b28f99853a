use Rattle.std.proofs.Common.{◌≡◌, ◌*◌, arith, add-zero}
use Rattle.dx_base.proofs.BitLaws.{num-bytes}
use Rattle.dxbc_container.proofs.read.number.Goals as goal

pub returns : goal.returns
returns c =
    let place : c.args.at * 8 ≡ 8 * c.args.at = omega arith in
    omega (arith, rw (place, add-zero) at (num-bytes c.args.bytes.now c.args.at 4 (λ k. omega (arith, c.type_inv.bytes k))))
