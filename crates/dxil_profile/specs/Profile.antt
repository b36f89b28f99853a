-- The profile of a shader: the program that its records state, where the entry body breaks no rule.
use Rattle.std.specs.Prelude.{ℕ, ◌≡◌, ◌≤◌, ◌==◌, if◌then◌else◌, Result, Ok, Err}
use Rattle.dx_base.specs.First.{IsFirst, IsSound}
use Rattle.dx_base.specs.declared.fault.Fault.{Fault}
use Rattle.dx_base.specs.declared.fault.Fault.TheVariants.{Refused, Limit, OutOfMemory}
use Rattle.dx_base.specs.declared.fault.Rule.TheVariants.{P}
use Rattle.dx_base.specs.declared.fault.Which.TheVariants.{Resources}
use Rattle.dxil_form.specs.declared.program.Program.{Program}
use Rattle.dxil_form.specs.Sound.{Sound}
use Rattle.llvm_types.specs.declared.kind.Types.{Types}
use Rattle.llvm_records.specs.declared.read.Records.{Records}
use Rattle.llvm_facts.specs.declared.facts.Facts.{Facts}
use Rattle.entry_read.specs.Entry.{entry_body}
use Rattle.profile_rules.specs.Rules.{Broken}
use Rattle.stated_program.specs.Stated.{program_of}

-- The program that the records state, where no rule is broken and the limit is not passed.
pub record Meets (types : Types) (records : Records) (facts : Facts) (p : Program) : Type 0 where
  pub keeps : IsSound (Broken (entry_body types records facts))
  pub stated : p ≡ program_of (entry_body types records facts) facts.local

-- The program that the records state, or the first rule that is broken or the limit, with its bit.
abbrev pub ProfileAnswer : Result Program Fault → Types → Records → Facts → Type 0
ProfileAnswer (Ok p) types records facts = Meets types records facts p × Sound p
ProfileAnswer (Err (Refused (P rule) bit)) types records facts = (rule ≤ 22) × IsFirst (Broken (entry_body types records facts)) rule bit
ProfileAnswer (Err (Limit Resources bit)) types records facts = IsFirst (Broken (entry_body types records facts)) 23 bit
ProfileAnswer (Err OutOfMemory) types records facts = Unit {0}
ProfileAnswer (Err e) types records facts = ⊥

-- ---- of the parts

-- the fault of a rule's number; the limit of resources has the number 23
abbrev pub fault_by : ℕ → ℕ → Fault
fault_by rule bit = if rule == 23 then Limit Resources bit else Refused (P rule) bit
