-- Code that is formed where the results of its places are ids.
use Rattle.std.proofs.Common.{ℕ, ◌+◌, List, ◌++◌, length, refl}
use Rattle.spv_form.specs.declared.module.Inst.{Inst}
use Rattle.spv_form.specs.Formed.{IsIdBelow}
use Rattle.spirv_code.specs.declared.key.Slot.{Slot}
use Rattle.spirv_code.specs.Plans.{Context, variable}
use Rattle.formed_lines.specs.Formed.{Upto}
use Rattle.formed_lines.proofs.Lists.{AreFormed, join, upto_front, upto_back}

abbrev pub Forms : ℕ → Context → ℕ → List Inst → Type 0
Forms b c place code = Upto b c (place + length code) → AreFormed b code

pub behind : (b : ℕ) (c : Context) (place : ℕ) (front back : List Inst) → Forms b c place front → Forms b c (place + length front) back → Forms b c place (front ++ back)
behind b c place front back h k upto =
    join b front back (h (upto_front b c place (length front) front back refl upto)) (k (upto_back b c place (length front) front back refl upto))

-- the variable is there
abbrev pub IsThere : ℕ → Context → Slot → Type 0
IsThere b c s = IsIdBelow b (variable c s)
