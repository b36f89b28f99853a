-- Which slots a program's registers have.
use Rattle.std.specs.Prelude.{◌≡◌, ℕ, ◌+◌, ◌*◌, ◌<◌, List, [], ◌∷◌, ◌++◌, length, map, fold, Some, slice_get}
use Rattle.std.specs.List.{flat_map}
use Rattle.dxil_form.specs.declared.value.Ty.{Ty}
use Rattle.dxil_form.specs.declared.value.Reg.{Reg}
use Rattle.dxil_form.specs.declared.block.Phi.{Phi}
use Rattle.dxil_form.specs.declared.block.Block.{Block}
use Rattle.dxil_form.specs.declared.program.Program.{Program}
use Rattle.dxil_form.specs.Registers.{Typed, typed, Spot, Sets, IsCrossing}
use Rattle.phi_demotion.specs.declared.slots.PhiSlot.{PhiSlot}
use Rattle.phi_demotion.specs.declared.slots.CrossSlot.{CrossSlot}
use Rattle.phi_demotion.specs.declared.slots.Slots.{Slots}

-- the phis of all blocks, in block order and then in the order of the records
abbrev pub phis_of : List Block → List Phi
phis_of blocks = flat_map (λ block. block.phis) blocks

abbrev pub of_phi : Phi → Typed Reg
of_phi phi = typed phi.to phi.ty

abbrev pub of_slot : PhiSlot → Typed Reg
of_slot slot = typed slot.reg slot.ty

abbrev pub both : PhiSlot → List ℕ
both slot = slot.next ∷ slot.now ∷ []

-- the numbers of all slots
abbrev pub numbers : Slots → List ℕ
numbers slots = flat_map both slots.phis ++ map (λ s. s.slot) slots.crossing

-- the slots that the registers of a program need
pub record AreSlots (p : Program) (slots : Slots) : Type 0 where
  -- each phi has two slots, which have its register and its type
  pub phis : map of_slot slots.phis ≡ map of_phi (phis_of p.blocks)
  -- each crossing register has a slot, which is the only one with it; no other register has one; it has the type with which the register is set
  pub kept : (reg : Reg) → IsCrossing p reg → (k : ℕ) × (s : CrossSlot) × (slice_get slots.crossing k ≡ Some s) × (s.reg ≡ reg)
  pub once : (j k : ℕ) (s t : CrossSlot) → slice_get slots.crossing j ≡ Some s → slice_get slots.crossing k ≡ Some t → s.reg ≡ t.reg → j ≡ k
  pub only : (k : ℕ) (s : CrossSlot) → slice_get slots.crossing k ≡ Some s → IsCrossing p s.reg
  pub types : (k : ℕ) (s : CrossSlot) → slice_get slots.crossing k ≡ Some s → (b : ℕ) × (spot : Spot) × Sets p b spot s.reg s.ty
  -- no two slots have one number, and the numbers are below the count
  pub apart : (i j n : ℕ) → slice_get (numbers slots) i ≡ Some n → slice_get (numbers slots) j ≡ Some n → i ≡ j
  pub below : (i n : ℕ) → slice_get (numbers slots) i ≡ Some n → n < slots.count
  pub count : slots.count ≡ 2 * length slots.phis + length slots.crossing

-- one more phi, with the next two numbers
abbrev pub with_phi : List PhiSlot → Phi → List PhiSlot
with_phi slots phi =
    slots ++ (record { reg = phi.to; ty = phi.ty; next = 2 * length slots; now = 2 * length slots + 1 }) ∷ []

abbrev pub slots_of_phis : List PhiSlot → List Phi → List PhiSlot
slots_of_phis slots phis = fold with_phi slots phis
