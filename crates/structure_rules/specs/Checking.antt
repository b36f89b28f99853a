-- What the check of a module answers.
use Rattle.std.specs.Prelude.{Result, Ok, Err}
use Rattle.dx_base.specs.First.{IsFirst, IsSound}
use Rattle.spv_form.specs.declared.module.Module.{Module}
use Rattle.spv_form.specs.declared.fault.CheckFault.{CheckFault}
use Rattle.spv_form.specs.declared.fault.CheckFault.TheVariants.{Refused, OutOfMemory}
use Rattle.spv_form.specs.declared.fault.WordRule.TheVariants.{W, V, S}
use Rattle.module_rules.specs.Rules.{Broken as BrokenModule}
use Rattle.structure_rules.specs.Blocks.{Broken as BrokenStructure}

-- Ok exactly where no rule V and no rule S is broken. A refusal is the rule V of least word, and there of least number; or, where no rule V is broken, the
-- rule S of least word, and there of least number.
abbrev pub CheckAnswer : Result (Unit {0}) CheckFault → Module → Type 0
CheckAnswer (Ok u) m = IsSound (BrokenModule m) × IsSound (BrokenStructure m)
CheckAnswer (Err (Refused (W rule) word)) m = ⊥
CheckAnswer (Err (Refused (V rule) word)) m = IsFirst (BrokenModule m) rule word
CheckAnswer (Err (Refused (S rule) word)) m = IsSound (BrokenModule m) × IsFirst (BrokenStructure m) rule word
CheckAnswer (Err OutOfMemory) m = Unit {0}
