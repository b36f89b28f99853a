-- The layers C and B of a whole file: what it carries, and its first refusal.
use Rattle.std.specs.Prelude.{ℕ, ◌*◌, ◌≤◌, List}
use Rattle.dx_base.specs.First.{IsFirst}
use Rattle.dx_base.specs.declared.fault.Rule.{Rule}
use Rattle.dx_base.specs.declared.fault.Rule.TheVariants.{C, B}
use Rattle.dx_base.specs.declared.fault.Which.{Which}
use Rattle.dx_base.specs.declared.fault.Which.TheVariants.{Records, Fields}
use Rattle.dxbc_container.specs.Layout.{Carries}
use Rattle.dxbc_container.specs.Rules.{IsBroken as BreaksContainer}
use Rattle.dxbc_container.specs.declared.part.Parts.{Parts}
use Rattle.bitstream_spelling.specs.Rules.{IsWhole, IsBroken as BreaksBitstream}
use Rattle.bitstream_spelling.specs.declared.item.Item.{Item}

-- a broken rule or a passed limit, with its bit
pub data Refusal : Type 0 where
  refused : Rule → ℕ → Refusal
  limited : Which → ℕ → Refusal

module _ (bytes : List ℕ) where
  -- The bytes carry a container with these parts, and the range of its bitcode spells these items and fields, within the limits.
  pub record IsContent (parts : Parts) (is : List Item) (fs : List ℕ) : Type 0 where
    pub container : Carries bytes parts
    pub bitcode : IsWhole bytes (8 * parts.from) (8 * parts.to) is fs

  -- of the rules and limits of the bitcode of a container with these parts, the first by its number
  pub record IsFirstOfBitcode (parts : Parts) (number bit : ℕ) : Type 0 where
    pub container : Carries bytes parts
    pub first : IsFirst (BreaksBitstream bytes (8 * parts.from) (8 * parts.to)) number bit

  -- The first refusal: that of the container; the bitcode is asked only where the bytes carry a container. Its numbers up to 8 are those of rules, 9
  -- is the limit of records and 10 that of fields.
  pub data IsFirstRefusal : Refusal → Type 0 where
    of_container : (rule bit : ℕ) → IsFirst (BreaksContainer bytes) rule bit → IsFirstRefusal (refused (C rule) bit)
    of_bitcode : (parts : Parts) (rule bit : ℕ) → rule ≤ 8 → IsFirstOfBitcode parts rule bit → IsFirstRefusal (refused (B rule) bit)
    of_records : (parts : Parts) (bit : ℕ) → IsFirstOfBitcode parts 9 bit → IsFirstRefusal (limited Records bit)
    of_fields : (parts : Parts) (bit : ℕ) → IsFirstOfBitcode parts 10 bit → IsFirstRefusal (limited Fields bit)
