-- The records of a shader state at most one program, have at most one first refusal, and not both.
use Rattle.std.specs.Prelude.{ℕ, ◌≡◌}
use Rattle.dx_base.specs.First.{IsFirst}
use Rattle.dxil_form.specs.declared.program.Program.{Program}
use Rattle.llvm_types.specs.declared.kind.Types.{Types}
use Rattle.llvm_records.specs.declared.read.Records.{Records}
use Rattle.llvm_facts.specs.declared.facts.Facts.{Facts}
use Rattle.profile_rules.specs.Rules.{Broken}
use Rattle.entry_read.specs.Entry.{entry_body}
use Rattle.dxil_profile.specs.Profile.{Meets}

abbrev pub OneProgram : Type 0
OneProgram = (types : Types) (records : Records) (facts : Facts) (one other : Program) → Meets types records facts one → Meets types records facts other → one ≡ other

abbrev pub OneRefusal : Type 0
OneRefusal = (types : Types) (records : Records) (facts : Facts) (rule bit other at : ℕ) → IsFirst (Broken (entry_body types records facts)) rule bit → IsFirst (Broken (entry_body types records facts)) other at
    → (rule ≡ other) × (bit ≡ at)

abbrev pub SoundHasNoRefusal : Type 0
SoundHasNoRefusal = (types : Types) (records : Records) (facts : Facts) (p : Program) (rule bit : ℕ) → Meets types records facts p → IsFirst (Broken (entry_body types records facts)) rule bit → ⊥
