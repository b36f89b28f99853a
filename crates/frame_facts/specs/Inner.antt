-- What an instruction behind the variables of a function can be: it declares nothing, and a label stands at its own place or is one of a region's.
use Rattle.std.specs.Prelude.{◌≡◌, ℕ, ◌+◌, ◌<◌, true, Bool, not, ◌&&◌, nat_eq, nat_lt, List, [], ◌∷◌}
use Rattle.spv_form.specs.declared.module.Inst.{Inst}
use Rattle.spirv_code.specs.Plans.{Context, result, label}
use Rattle.spirv_code.specs.Exits.{label_inst}
use Rattle.spirv_code.specs.Trees.{Tree, Missing, Leaf, Then, Loop, Dispatch, Arms, No_arm, Arm}

-- an opcode of what is no declaration, no decoration, no label and no return
abbrev pub is_plain : ℕ → Bool
is_plain opcode =
    nat_lt 60 opcode && (not (nat_eq opcode 71) && (not (nat_eq opcode 248) && not (nat_eq opcode 253)))

-- an instruction at a place; `Mine` tells the regions whose labels may stand there
pub data Inner (c : Context) (Mine : ℕ → Type 0) (place : ℕ) (i : Inst) : Type 0 where
  plain : is_plain i.opcode ≡ true → Inner c Mine place i
  own : i ≡ label_inst (result c place) → Inner c Mine place i
  of_region : (r kind : ℕ) → Mine r → kind < 8 → i ≡ label_inst (label r kind) → Inner c Mine place i

-- each of the instructions from a place on
abbrev pub AreInner : Context → (ℕ → Type 0) → ℕ → List Inst → Type 0
AreInner c Mine place [] = Unit {0}
AreInner c Mine place (i ∷ is) = Inner c Mine place i × AreInner c Mine (place + 1) is

abbrev mutual
  -- all regions of a tree are such
  pub Owns : (ℕ → Type 0) → Tree → Type 0
  Owns Mine Missing = ⊥
  Owns Mine (Leaf place block arms) = Mine place × OwnsArms Mine arms
  Owns Mine (Then place first second target) = Mine place × Owns Mine first × Owns Mine second
  Owns Mine (Loop place body head) = Mine place × Owns Mine body
  Owns Mine (Dispatch place arms) = Mine place × OwnsArms Mine arms

  pub OwnsArms : (ℕ → Type 0) → Arms → Type 0
  OwnsArms Mine No_arm = Unit {0}
  OwnsArms Mine (Arm target tree arms) = Owns Mine tree × OwnsArms Mine arms
