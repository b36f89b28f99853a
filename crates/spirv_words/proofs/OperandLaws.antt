-- The laws of operand words.
use Rattle.std.proofs.Common.{◌≡◌, ℕ, ◌/◌, ◌^◌, ◌<◌, ◌≤◌, true, arith, refl}
use Rattle.std.proofs.lemmas.Nat.{div_below, pow_pos}
use Rattle.std.proofs.Math.Pow.{pow_mono}
use Rattle.spv_form.specs.Operands.{is_clear}

-- a mask of 16 bits has no bit from 16 on
pub is_clear_above : (mask bit : ℕ) → mask < 2 ^ 16 → 16 ≤ bit → is_clear mask bit ≡ true
is_clear_above mask bit m h =
    let wide : 2 ^ 16 ≤ 2 ^ bit = pow_mono h in
    let none : mask / 2 ^ bit ≡ 0 = omega (arith, div_below mask (2 ^ bit) 1 (pow_pos bit) (omega arith)) in
    rw none refl
