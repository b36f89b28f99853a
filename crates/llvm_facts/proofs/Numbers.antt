-- Numbers modulo powers of 2.
use Rattle.std.proofs.Common.{ℕ, ◌≡◌, ◌<◌, ◌≤◌, ◌%◌, ◌^◌, arith, sym}
use Rattle.std.proofs.Math.Nat.{mod-eq_of_lt}
use Rattle.std.proofs.Math.Pow.{pow_mono}

pub fits_wide : (width bits : ℕ) → 64 ≤ width → bits < 2 ^ 64 → bits < 2 ^ width
fits_wide width bits wide few = let p : 2 ^ 64 ≤ 2 ^ width = pow_mono wide in omega (arith, p)

pub cut_wide : (width bits : ℕ) → 64 ≤ width → bits < 2 ^ 64 → bits ≡ bits % 2 ^ width
cut_wide width bits wide few = sym (mod-eq_of_lt (fits_wide width bits wide few))
