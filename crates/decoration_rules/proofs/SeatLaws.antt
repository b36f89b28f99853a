-- How many buffer variables have a set and a binding.
use Rattle.std.proofs.Common.{ℕ, ◌≡◌, List, Option, unwrap_or}
use Rattle.spv_form.specs.declared.module.Inst.{Inst}
use Rattle.decoration_rules.specs.Variables.{crowd, AreCrowds}

pub crowd_of : (count : ℕ × ℕ → Option ℕ) (insts : List Inst) (seat : ℕ × ℕ) → AreCrowds count insts insts → unwrap_or (count seat) 0 ≡ crowd insts seat
unfolding crowd
crowd_of count insts seat a = a.are seat
