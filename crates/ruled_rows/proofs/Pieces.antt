-- How code that keeps the rules where it stands goes together.
use Rattle.std.proofs.Common.{ℕ, ◌+◌, List, ◌++◌, length}
use Rattle.spv_form.specs.declared.module.Inst.{Inst}
use Rattle.spirv_code.specs.Rows.{onwards}
use Rattle.line_runs.specs.Held.{Setting, Has}
use Rattle.line_runs.proofs.Pieces.{has_front, has_back}
use Rattle.ruled_lines.specs.Kept.{AreKept, StandsAhead}
use Rattle.ruled_lines.proofs.Going.{kept_append}
use Rattle.ruled_lines.proofs.Jumps.{label_rules, branch_rules}

-- code that keeps the rules where it stands
abbrev pub Keeps : Setting → ℕ → List Inst → Type 0
Keeps s place code = Has s.made place code → AreKept s.made.insts place code

pub behind : (s : Setting) (place : ℕ) (front back : List Inst) → Keeps s place front → Keeps s (place + length front) back → Keeps s place (front ++ back)
behind s place front back h k has =
    kept_append s.made.insts place front back (h (has_front s.made place front back has)) (k (has_back s.made place front back has))

-- a branch to the label that stands behind it
pub onwards_kept : (s : Setting) (low : ℕ) (ahead : StandsAhead s low) → (place id : ℕ) → Keeps s place (onwards id)
onwards_kept s low ahead place id has =
    (branch_rules s low ahead place (place + 1) id has.1.0, (label_rules s.made.insts (place + 1) id, tt))
