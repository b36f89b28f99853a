-- Programs of blocks without instructions.
use Rattle.std.specs.Prelude.{◌≡◌, ◌⊎◌, ℕ, ◌<◌, ◌≤◌, true, false, List, [], length, Some, slice_get, slice_index}
use Rattle.dxil_form.specs.declared.value.Ty.TheVariants.{Int, Bool}
use Rattle.dxil_form.specs.declared.value.Operand.{Operand}
use Rattle.dxil_form.specs.declared.value.Operand.TheVariants as operand
use Rattle.dxil_form.specs.declared.block.Block.{Block}
use Rattle.dxil_form.specs.declared.block.Term.{Term}
use Rattle.dxil_form.specs.Branches.{targets, has}
use Rattle.dxil_form.specs.Registers.{Typed, term_operands}
use Rattle.dxil_form.specs.Sound.{TermFits}

-- each number is that of a block other than block 0
abbrev pub AreTargets : ℕ → List ℕ → Type 0
AreTargets count ks = (i : ℕ) → i < length ks → (1 ≤ slice_index ks i) × (slice_index ks i < count)

-- the numbers below n, each with its target
pub record AreNumbered (ks : List ℕ) (n : ℕ) (cases : List (ℕ × ℕ)) : Type 0 where
  pub count : length cases ≡ n
  pub each : (i : ℕ) → i < n → slice_get cases i ≡ Some (i, slice_index ks i)

-- a literal: the number 0, or the truth value false
abbrev pub IsLiteral : Typed Operand → Type 0
IsLiteral a =
    ((a.item ≡ operand.Int 0) × (a.ty ≡ Int)) ⊎ ((a.item ≡ operand.Bool false) × (a.ty ≡ Bool))

-- the terminator goes to blocks other than block 0, and reads literals alone
pub record IsPlainTerm (count : ℕ) (term : Term) : Type 0 where
  pub goes : (k : ℕ) → has k (targets term) ≡ true → (1 ≤ k) × (k < count)
  pub reads : (n : ℕ) (a : Typed Operand) → slice_get (term_operands term) n ≡ Some a → IsLiteral a
  pub fits : TermFits term

pub record IsPlain (count : ℕ) (block : Block) : Type 0 where
  pub no_phis : block.phis ≡ []
  pub no_lines : block.instrs ≡ []
  pub ends : IsPlainTerm count block.term

abbrev pub ArePlain : ℕ → List Block → Type 0
ArePlain count blocks = (b : ℕ) (block : Block) → slice_get blocks b ≡ Some block → IsPlain count block
