-- The answer of the search for the first rule, as that on the shader.
use Rattle.std.proofs.Common.{ℕ, ◌≡◌, ◌≤◌, ◌<◌, ◌^◌, ◌∙◌, sym, refl, ap, subst, arith, List, length, true, false, Bool, ◌==◌, if◌then◌else◌, Ok, Err}
use Rattle.std.proofs.lemmas.Bool.{eqb-true, eqb-false}
use Rattle.dx_base.specs.First.{IsFirst, IsSound, Rises}
use Rattle.dx_base.specs.Sentences.{Stated}
use Rattle.dx_base.proofs.FirstLaws.{first_unique}
use Rattle.dx_base.specs.declared.fault.Fault.{Fault}
use Rattle.dx_base.specs.declared.fault.Fault.TheVariants.{Refused, Limit}
use Rattle.dx_base.specs.declared.fault.Rule.TheVariants.{P}
use Rattle.dx_base.specs.declared.fault.Which.TheVariants.{Resources}
use Rattle.dxil_form.specs.declared.program.Program.{Program}
use Rattle.dxil_form.specs.Sound.{Sound}
use Rattle.llvm_types.specs.declared.kind.Types.{Types}
use Rattle.llvm_records.specs.declared.read.Records.{Records}
use Rattle.llvm_facts.specs.declared.facts.Facts.{Facts}
use Rattle.profile_tables.specs.EntryBody.{EntryBody}
use Rattle.profile_tables.specs.Read.{IsRead}
use Rattle.profile_rules.specs.Rules.{Broken, bit_of_line, sentences}
use Rattle.profile_rules.specs.Checking.{AreInBlocks}
use Rattle.stated_program.specs.Stated.{program_of}
use Rattle.program_sound.specs.Law.{ProgramIsSound}
use Rattle.program_sound.proofs.Ends.{block_below}
use Rattle.entry_read.specs.Entry.{entry_body}
use Rattle.dxil_profile.specs.Profile.{Meets, ProfileAnswer, fault_by}

-- ---- what the search asks of a body

pub rising : (x : EntryBody) (counts : List ℕ) → IsRead x counts → Rises bit_of_line (Stated (sentences x)) x.lines
rising x counts read = record { rises = λ i j s t h a b. read.rises i j s t h a b }

pub in_blocks : (x : EntryBody) (counts : List ℕ) → IsRead x counts → AreInBlocks x
in_blocks x counts read = record { each = λ i line at. block_below x counts read i line at }

pub few_lines : (x : EntryBody) (counts : List ℕ) → IsRead x counts → length x.lines < 2 ^ 32
few_lines x counts read = omega (arith, read.few_lines)

-- ---- what it answers

module _ (types : Types) (records : Records) (facts : Facts) where
  pub refused : (rule bit : ℕ) (e : Fault) → e ≡ fault_by rule bit → rule ≤ 23 → IsFirst (Broken (entry_body types records facts)) rule bit → ProfileAnswer (Err e) types records facts
  refused rule bit e is few first = subst (λ (f : Fault). ProfileAnswer (Err f) types records facts) (sym is) (by_number (rule == 23) (λ h. eqb-true rule 23 h) (λ h. eqb-false rule 23 h)) where
    by_number : (b : Bool) → (b ≡ true → rule ≡ 23) → (b ≡ false → rule ≡ 23 → ⊥) → ProfileAnswer (Err (if b then Limit Resources bit else Refused (P rule) bit)) types records facts
    by_number true f g = subst (λ (k : ℕ). IsFirst (Broken (entry_body types records facts)) k bit) (f refl) first
    by_number false f g = (omega (arith, few, g refl), first)

  pub accepted : (x : EntryBody) (p : Program) → x ≡ entry_body types records facts → p ≡ program_of x facts.local → ProgramIsSound → IsRead (entry_body types records facts) facts.local → IsSound (Broken x)
      → ProfileAnswer (Ok p) types records facts
  accepted x p same is law read keeps =
      let kept : IsSound (Broken (entry_body types records facts)) = subst (λ (y : EntryBody). IsSound (Broken y)) same keeps in
      let stated : p ≡ program_of (entry_body types records facts) facts.local = is ∙ ap (λ (y : EntryBody). program_of y facts.local) same in
      (record { keeps = kept; stated = stated }, subst Sound (sym stated) (law (entry_body types records facts) facts.local read kept))

-- ---- laws

pub program_unique : (types : Types) (records : Records) (facts : Facts) (one other : Program) → Meets types records facts one → Meets types records facts other → one ≡ other
program_unique types records facts one other x y = x.stated ∙ sym y.stated

pub refusal_unique : (types : Types) (records : Records) (facts : Facts) (rule bit other at : ℕ) → IsFirst (Broken (entry_body types records facts)) rule bit → IsFirst (Broken (entry_body types records facts)) other at → (rule ≡ other) × (bit ≡ at)
refusal_unique types records facts rule bit other at x y = first_unique (Broken (entry_body types records facts)) rule bit other at x y

pub sound_no_refusal : (types : Types) (records : Records) (facts : Facts) (p : Program) (rule bit : ℕ) → Meets types records facts p → IsFirst (Broken (entry_body types records facts)) rule bit → ⊥
sound_no_refusal types records facts p rule bit m f = m.keeps.none rule bit f.broken
