-- The law of the profile: where no rule is broken, the program that the records state is sound.
use Rattle.std.specs.Prelude.{ℕ, List}
use Rattle.dx_base.specs.First.{IsSound}
use Rattle.dxil_form.specs.Sound.{Sound}
use Rattle.profile_tables.specs.EntryBody.{EntryBody}
use Rattle.profile_tables.specs.Read.{IsRead}
use Rattle.profile_rules.specs.Rules.{Broken}
use Rattle.stated_program.specs.Stated.{program_of}

abbrev pub ProgramIsSound : Type 0
ProgramIsSound = (x : EntryBody) (counts : List ℕ) → IsRead x counts → IsSound (Broken x) → Sound (program_of x counts)
