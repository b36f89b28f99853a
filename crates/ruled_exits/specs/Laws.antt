-- How a block is left keeps the rules of the ids.
use Rattle.std.specs.Prelude.{◌≡◌, ℕ, ◌≤◌, true, Option, Some, None}
use Rattle.dxil_form.specs.declared.block.Term.{Term}
use Rattle.dxil_form.specs.Branches.{has, targets}
use Rattle.spirv_code.specs.declared.key.Slot.TheVariants.{Pick}
use Rattle.spirv_code.specs.declared.way.Way.TheVariants.{Chooses, Splits}
use Rattle.spirv_code.specs.Reads.{Env}
use Rattle.spirv_code.specs.Leaves.{way_of, next_blocks, followed}
use Rattle.spirv_code.specs.Exits.{loose, choose_code, split_code, tested, tested_code, tested_id}
use Rattle.spirv_code.specs.Needed.{tested_keys}
use Rattle.line_runs.specs.Held.{Setting, Has}
use Rattle.leaf_runs.specs.BlockReady.{HasVariable, TestedReady}
use Rattle.ruled_lines.specs.Kept.{AreKept, KnownAt, AreUsed, StandsAhead}
use Rattle.ruled_exits.specs.Exits.{Stands, CanWant}

-- Let the code of a selection among the next blocks stand at a place of a module, where what is tested can be read. The labels of the arms and the one where they meet stand somewhere, and a block without an arm can be wanted. Then each of its instructions keeps the rules.
abbrev pub ChoicesKeepRules : Type 0
ChoicesKeepRules =
    (s : Setting) (low : ℕ) → StandsAhead s low → (term : Term) (env : Env) (place meet : ℕ) (labels : ℕ → Option ℕ) → low ≤ place → way_of term ≡ Chooses → TestedReady s env term → AreUsed s (tested_keys (tested term)) → KnownAt s env place → Stands s.made.insts meet → ((k id : ℕ) → labels k ≡ Some id → Stands s.made.insts id) → ((k : ℕ) → has k (targets term) ≡ true → labels k ≡ None → CanWant s k) → Has s.made place (followed place (tested_code s.context env place (tested term)) (λ p. choose_code s.context p meet (tested_id s.context env place (tested term)) term labels (loose labels (next_blocks term)))) → AreKept s.made.insts place (followed place (tested_code s.context env place (tested term)) (λ p. choose_code s.context p meet (tested_id s.context env place (tested term)) term labels (loose labels (next_blocks term))))

-- The same of a switch whose cases are tested chunk after chunk: there is a variable for its value, and each next block can be wanted.
abbrev pub SplitsKeepRules : Type 0
SplitsKeepRules =
    (s : Setting) (low : ℕ) → StandsAhead s low → (term : Term) (env : Env) (place : ℕ) → low ≤ place → way_of term ≡ Splits → TestedReady s env term → AreUsed s (tested_keys (tested term)) → KnownAt s env place → HasVariable s Pick → ((k : ℕ) → has k (targets term) ≡ true → CanWant s k) → Has s.made place (followed place (tested_code s.context env place (tested term)) (λ p. split_code s.context p (tested_id s.context env place (tested term)) term)) → AreKept s.made.insts place (followed place (tested_code s.context env place (tested term)) (λ p. split_code s.context p (tested_id s.context env place (tested term)) term))
