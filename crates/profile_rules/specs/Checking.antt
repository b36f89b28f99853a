-- The search for the first rule that a body breaks.
use Rattle.std.specs.Prelude.{ℕ, ◌≡◌, ◌<◌, ◌≤◌, List, [], ◌∷◌, slice_get, nat_lt, Bool, Option, Some, None}
use Rattle.std.specs.BTreeMap as tree
use Rattle.dx_base.specs.First.{IsFirst, IsSound}
use Rattle.llvm_bodies.specs.declared.line.Line.{Line}
use Rattle.profile_tables.specs.EntryBody.{EntryBody}
use Rattle.profile_tables.specs.Places.{place_named}
use Rattle.profile_tables.specs.Resources.{row_named, row_at}
use Rattle.profile_rules.specs.Rules.{p1, p2, p3, p4, p5, p6, p7, p8, p9, p10, p12, p13, p14, p15, p16, p17, p18, p19, p21, p22, Broken}
use Rattle.profile_rules.specs.Seen.{AreVariables, AreRows, AreOwners, IsPlaceNoted, IsRowNoted, IsOwned, meets_owner, key_cmp}
use Rattle.profile_rules.specs.declared.check.Seen.{Seen}
use Rattle.profile_rules.specs.declared.check.Step.{Step}

-- the sentences of one line in number order, in parts
abbrev pub operand_tests : EntryBody → Line → List Bool
operand_tests x line = p1 x line ∷ p2 x line ∷ p3 x line ∷ p4 x line ∷ []

abbrev pub block_tests : EntryBody → Line → List Bool
block_tests x line = p5 x line ∷ p6 line ∷ p7 x line ∷ p8 line ∷ p9 line ∷ []

abbrev pub place_tests : EntryBody → Line → Bool → List Bool
place_tests x line full = p10 x line ∷ full ∷ p12 x line ∷ []

abbrev pub call_tests : EntryBody → Line → List Bool
call_tests x line = p13 x line ∷ p14 x line ∷ p15 x line ∷ p16 x line ∷ p17 x line ∷ []

abbrev pub row_tests : EntryBody → Line → Bool → Bool → List Bool
row_tests x line met many = p18 x line ∷ p19 x line ∷ met ∷ p21 x line ∷ p22 x line ∷ many ∷ []

-- all of them, where this is known of the lines before it
abbrev pub listed : EntryBody → Line → Bool → Bool → Bool → List Bool
listed x line full met many =
    p1 x line ∷ p2 x line ∷ p3 x line ∷ p4 x line ∷ p5 x line ∷ p6 line ∷ p7 x line ∷ p8 line ∷ p9 line
    ∷ p10 x line ∷ full ∷ p12 x line ∷ p13 x line ∷ p14 x line ∷ p15 x line ∷ p16 x line ∷ p17 x line
    ∷ p18 x line ∷ p19 x line ∷ met ∷ p21 x line ∷ p22 x line ∷ many ∷ []

abbrev pub tests : EntryBody → Line → Step → List Bool
tests x line step = listed x line step.full step.met step.many

-- what is kept of some lines
pub record IsSeen (x : EntryBody) (lines : List Line) (seen : Seen) : Type 0 where
  pub variables : AreVariables x lines seen.variables.named.items seen.variables.words
  pub rows : AreRows x lines seen.rows.named.items seen.rows.count
  pub owners : AreOwners x lines (tree.get key_cmp seen.rows.owners)

-- one line more was seen
pub record IsStep (x : EntryBody) (line : Line) (old new : Seen) (step : Step) : Type 0 where
  pub place : IsPlaceNoted x.pool (place_named x line) old.variables.named.items new.variables.named.items old.variables.words new.variables.words
  pub row : IsRowNoted (row_named x line) old.rows.named.items new.rows.named.items old.rows.count new.rows.count
  pub owned : IsOwned (row_named x line) (row_at x (row_named x line)) (tree.get key_cmp old.rows.owners) (tree.get key_cmp new.rows.owners)
  pub full : step.full ≡ nat_lt 8192 new.variables.words
  pub met : step.met ≡ meets_owner (row_named x line) (row_at x (row_named x line)) (tree.get key_cmp old.rows.owners)
  pub many : step.many ≡ nat_lt 1024 new.rows.count

-- every line stands in a block that the body declares
pub record AreInBlocks (x : EntryBody) : Type 0 where
  pub each : (i : ℕ) (line : Line) → slice_get x.lines i ≡ Some line → line.block < x.blocks

abbrev pub FaultAnswer : Option (ℕ × ℕ) → EntryBody → Type 0
FaultAnswer None x = IsSound (Broken x)
FaultAnswer (Some found) x = (found.0 ≤ 23) × IsFirst (Broken x) found.0 found.1
