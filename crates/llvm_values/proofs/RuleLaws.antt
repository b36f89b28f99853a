-- The rules of this layer are the first six of a module's records.
use Rattle.std.proofs.Common.{ℕ, ◌≡◌, ◌<◌, ◌≤◌, refl, arith, List, [], ◌∷◌, length, take, Bool, true, zero, suc}
use Rattle.dx_base.specs.Sentences.{holds}
use Rattle.bitstream_spelling.specs.declared.item.Item.{Item}
use Rattle.llvm_items.specs.Sites.{Site, sites}
use Rattle.llvm_types.specs.Types.{types_of}
use Rattle.llvm_types.specs.declared.kind.LlvmType.{LlvmType}
use Rattle.llvm_values.specs.Rules.{sentences, Broken}

pub six_tests : (is : List Item) (fs : List ℕ) (types : List LlvmType) (before : List Site) (s : Site) → length (sentences is fs types before s) ≡ 6
six_tests is fs types before s = refl

-- a sentence that holds has a number of the list
pub holds_within : (bs : List Bool) (n : ℕ) → holds bs n ≡ true → (0 < n) × (n ≤ length bs)
holds_within [] n e = cc
holds_within (b ∷ bs) zero e = cc
holds_within (b ∷ bs) (suc zero) e = (omega arith, omega arith)
holds_within (b ∷ bs) (suc (suc n)) e = let h = holds_within bs (suc n) e in (omega arith, omega (arith, h.1))

pub rule_within : (is : List Item) (fs : List ℕ) (rule bit : ℕ) → Broken is fs rule bit → (0 < rule) × (rule ≤ 6)
rule_within is fs rule bit b = holds_within (sentences is fs (types_of is fs) (take b.index (sites is)) b.place) rule b.breaks
