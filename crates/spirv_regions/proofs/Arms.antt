-- The arms of a list of regions, as the functions that write them find them.
use Rattle.std.proofs.Common.{◌≡◌, ℕ, ◌<◌, Bool, true, false, List, [], ◌∷◌, map, Option, Some, None, refl, ap, sym, subst, nat_eq, if◌then◌else◌, get_or, length}
use Rattle.std.specs.Prelude.{All}
use Rattle.std.proofs.lemmas.List.Elements.{All-get_or, All-map}
use Rattle.spv_form.specs.declared.module.Inst.{Inst}
use Rattle.spirv_code.specs.Plans.{Context}
use Rattle.spirv_code.specs.Leaves.{followed}
use Rattle.spirv_code.specs.Exits.{want_inst}
use Rattle.spirv_code.specs.Rows.{one_arm, onwards, row_code}
use Rattle.spirv_code.specs.Trees.{Tree, Arm, arms_of, entered_arms, entry_of, label_at}
use Rattle.spirv_regions.specs.Ways.{arm_place}

-- the code of the arm at a place, or of a store that the block is wanted
abbrev pub arm_at : Context → (ℕ → Tree) → (k place : ℕ) → Option ℕ → List Inst
arm_at c part k place None = want_inst c k ∷ []
arm_at c part k place (Some a) = followed place (onwards (label_at (part a))) (λ p. row_code c p (part a))

pub one_arm_is : (c : Context) (part : ℕ → Tree) (k place : ℕ) (arms : List (ℕ × ℕ)) → one_arm c k place (arms_of part arms) ≡ arm_at c part k place (arm_place k arms)
one_arm_is c part k place [] = refl
one_arm_is c part k place (arm ∷ arms) = by_test (nat_eq k arm.0) (one_arm_is c part k place arms)
  where
    by_test : (b : Bool) → one_arm c k place (arms_of part arms) ≡ arm_at c part k place (arm_place k arms) → (if b then followed place (onwards (label_at (part arm.1))) (λ p. row_code c p (part arm.1)) else one_arm c k place (arms_of part arms)) ≡ arm_at c part k place (if b then Some arm.1 else arm_place k arms)
    by_test true rest = refl
    by_test false rest = rest

-- a dispatch's arms, each with the block that enters it
pub entered_is : (part : ℕ → Tree) (arms : List ℕ) → arms_of part (map (λ a. (entry_of (part a), a)) arms) ≡ entered_arms part arms
entered_is part [] = refl
entered_is part (a ∷ arms) = ap (Arm (entry_of (part a)) (part a)) (entered_is part arms)

-- ---- the places of arms

pub arm_below : (arms : List (ℕ × ℕ)) (i under : ℕ) (d : ℕ × ℕ) → i < length arms → All (λ arm. arm.1 < under) arms → (get_or arms i d).1 < under
arm_below arms i under d within all = All-get_or (λ (arm : ℕ × ℕ). arm.1 < under) arms i d within all

pub entered_below : (part : ℕ → Tree) (under : ℕ) (arms : List ℕ) (pairs : List (ℕ × ℕ)) → pairs ≡ map (λ a. (entry_of (part a), a)) arms → All (λ a. a < under) arms → All (λ arm. arm.1 < under) pairs
entered_below part under arms pairs is all =
    subst (All (λ (arm : ℕ × ℕ). arm.1 < under)) (sym is) (All-map (λ (arm : ℕ × ℕ). arm.1 < under) (λ (a : ℕ). (entry_of (part a), a)) arms all)
