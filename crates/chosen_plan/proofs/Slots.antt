-- The variables of a plan: those of phis, of crossing registers, and those that range tests ask for, and of these only registers that are set.
use Rattle.std.proofs.Common.{◌≡◌, ℕ, List, [], ◌∷◌, map, refl, sym, ap, ◌∙◌, subst, arith, inl, inr, ⊎_elim}
use Rattle.std.specs.Prelude.{slice_get}
use Rattle.std.specs.List.{flat_map}
use Rattle.dxil_form.specs.declared.value.Ty.{Ty}
use Rattle.dxil_form.specs.declared.value.Ty.TheVariants as ty
use Rattle.dxil_form.specs.declared.value.Reg.{Reg}
use Rattle.dxil_form.specs.declared.instr.Instr.{Instr}
use Rattle.dxil_form.specs.declared.instr.Instr.TheVariants.{Bin, Cmp, Cast, Select, Copy, One, Two, Mad, Id, Size, Load, Store, Atomic, Swap, Barrier, Nothing}
use Rattle.dxil_form.specs.declared.block.Phi.{Phi}
use Rattle.dxil_form.specs.declared.block.Block.{Block}
use Rattle.dxil_form.specs.declared.program.Program.{Program}
use Rattle.dxil_form.specs.Registers.{Typed, Spot, At_phi, At_line, Sets, IsCrossing, typed, set_by, part_of, parts_of, cast_to}
use Rattle.dxil_form.specs.Sound.{Sound, PhiAt}
use Rattle.phi_demotion.specs.declared.slots.PhiSlot.{PhiSlot}
use Rattle.phi_demotion.specs.declared.slots.CrossSlot.{CrossSlot}
use Rattle.phi_demotion.specs.declared.slots.Slots.{Slots}
use Rattle.phi_demotion.specs.Slots.{AreSlots, phis_of, of_phi, of_slot}
use Rattle.spirv_code.specs.declared.key.Slot.{Slot}
use Rattle.spirv_code.specs.declared.key.Slot.TheVariants.{Kept, Want}
use Rattle.spirv_code.specs.Plans.{kept, coming}
use Rattle.spirv_code.specs.Further.{further_slots}
use Rattle.line_runs.specs.Declared.{held_type}
use Rattle.line_runs.proofs.Tests.{some_inj}
use Rattle.plan_ready.proofs.Among.{Among, among_front, among_back, among_at, among_flat, among_map, contains_among}
use Rattle.plan_ready.proofs.Lines.{one_type, loaded_type}
use Rattle.chosen_plan.specs.Chosen.{phi_variables, cross_variable, register_variables}
use Rattle.chosen_plan.proofs.Members.{among_either, among_get, flat_among, map_among}
use Rattle.chosen_plan.proofs.Kept.{IsKept, further_kept}

-- ---- a register has one type where it is set

item_part : (reg : Reg) (to part : ℕ) (t u : Ty) → typed reg t ≡ typed (part_of to part) u → reg.part ≡ part
item_part reg to part t u e = ap (λ (x : Typed Reg). x.item.part) e

swapped_types : (to : ℕ) (reg : Reg) (t u : Ty) → Among (typed reg t) (typed (part_of to 0) ty.Int ∷ typed (part_of to 1) ty.Bool ∷ []) → Among (typed reg u) (typed (part_of to 0) ty.Int ∷ typed (part_of to 1) ty.Bool ∷ []) → t ≡ u
swapped_types to reg t u (inl e) (inl f) = ap (λ (x : Typed Reg). x.ty) e ∙ sym (ap (λ (x : Typed Reg). x.ty) f)
swapped_types to reg t u (inl e) (inr (inl f)) =
    let first : reg.part ≡ 0 = item_part reg to 0 t ty.Int e in
    let second : reg.part ≡ 1 = item_part reg to 1 u ty.Bool f in
    absurd (omega (arith, first, second))
swapped_types to reg t u (inr (inl e)) (inl f) =
    let second : reg.part ≡ 1 = item_part reg to 1 t ty.Bool e in
    let first : reg.part ≡ 0 = item_part reg to 0 u ty.Int f in
    absurd (omega (arith, first, second))
swapped_types to reg t u (inr (inl e)) (inr (inl f)) = ap (λ (x : Typed Reg). x.ty) e ∙ sym (ap (λ (x : Typed Reg). x.ty) f)
swapped_types to reg t u (inr (inr none)) k = absurd none
swapped_types to reg t u (inl e) (inr (inr none)) = absurd none
swapped_types to reg t u (inr (inl e)) (inr (inr none)) = absurd none

same_types : (reg to : Reg) (type t u : Ty) → Among (typed reg t) (typed to type ∷ []) → Among (typed reg u) (typed to type ∷ []) → t ≡ u
same_types reg to type t u h k = one_type reg to type t h ∙ sym (one_type reg to type u k)

line_types : (instr : Instr) (reg : Reg) (t u : Ty) → Among (typed reg t) (set_by instr) → Among (typed reg u) (set_by instr) → t ≡ u
line_types (Bin to op type a b) reg t u h k = same_types reg to type t u h k
line_types (Cmp to op type a b) reg t u h k = same_types reg to ty.Bool t u h k
line_types (Cast to op a) reg t u h k = same_types reg to (cast_to op) t u h k
line_types (Select to type c a b) reg t u h k = same_types reg to type t u h k
line_types (Copy to type a) reg t u h k = same_types reg to type t u h k
line_types (One to op a) reg t u h k = same_types reg to ty.Int t u h k
line_types (Two to op a b) reg t u h k = same_types reg to ty.Int t u h k
line_types (Mad to a b c) reg t u h k = same_types reg to ty.Int t u h k
line_types (Id to op part) reg t u h k = same_types reg to ty.Int t u h k
line_types (Size to buffer) reg t u h k = same_types reg to ty.Int t u h k
line_types (Load to mask target addr) reg t u h k =
    loaded_type reg to (parts_of mask) t h ∙ sym (loaded_type reg to (parts_of mask) u k)
line_types (Atomic to op target addr value) reg t u h k = same_types reg to ty.Int t u h k
line_types (Swap to target addr compare value) reg t u h k = swapped_types to reg t u h k
line_types (Store mask target addr x y z w) reg t u h k = absurd h
line_types (Barrier sync scope uav shared) reg t u h k = absurd h
line_types Nothing reg t u h k = absurd h

set_types : (p : Program) → Sound p → (a b : ℕ) (x y : Spot) (reg : Reg) (t u : Ty) → Sets p a x reg t → Sets p b y reg u → t ≡ u
set_types p sound a b (At_phi m) (At_phi n) reg t u f g =
    let same = sound.set_once a b (At_phi m) (At_phi n) reg t u f g in
    let spot : At_phi m ≡ At_phi n = same.1 in
    let m_is : m ≡ n = cc in
    let block_is : f.block ≡ g.block = some_inj (sym f.stands ∙ ap (slice_get p.blocks) same.0 ∙ g.stands) in
    let phi_is : f.sets.0 ≡ g.sets.0 = some_inj (sym f.sets.1 ∙ ap (λ (c : Block). slice_get c.phis m) block_is ∙ ap (slice_get g.block.phis) m_is ∙ g.sets.1) in
    sym f.sets.3 ∙ ap (λ (c : Phi). c.ty) phi_is ∙ g.sets.3
set_types p sound a b (At_line m) (At_line n) reg t u f g =
    let same = sound.set_once a b (At_line m) (At_line n) reg t u f g in
    let spot : At_line m ≡ At_line n = same.1 in
    let m_is : m ≡ n = cc in
    let block_is : f.block ≡ g.block = some_inj (sym f.stands ∙ ap (slice_get p.blocks) same.0 ∙ g.stands) in
    let line_is : f.sets.0 ≡ g.sets.0 = some_inj (sym f.sets.1 ∙ ap (λ (c : Block). slice_get c.instrs m) block_is ∙ ap (slice_get g.block.instrs) m_is ∙ g.sets.1) in
    line_types g.sets.0 reg t u (subst (λ (x : Instr). Among (typed reg t) (set_by x)) line_is (contains_among (typed reg t) (set_by f.sets.0) f.sets.2)) (contains_among (typed reg u) (set_by g.sets.0) g.sets.2)
set_types p sound a b (At_phi m) (At_line n) reg t u f g =
    let same = sound.set_once a b (At_phi m) (At_line n) reg t u f g in
    let spot : At_phi m ≡ At_line n = same.1 in
    absurd (cc)
set_types p sound a b (At_line m) (At_phi n) reg t u f g =
    let same = sound.set_once a b (At_line m) (At_phi n) reg t u f g in
    let spot : At_line m ≡ At_phi n = same.1 in
    absurd (cc)

-- ---- the variables of registers

kept_type : (reg : Reg) (type : Ty) → held_type (kept reg type) ≡ type
kept_type reg ty.Int = refl
kept_type reg ty.Bool = refl

abbrev reg_in : Slot → Reg → Reg
reg_in (Kept value part truth) other = record { value = value; part = part }
reg_in _ other = other

-- ---- of the slots of a program

module _ (p : Program) (sound : Sound p) (slots : Slots) (are : AreSlots p slots) where
  -- the slot of a phi has the phi's register and type
  record Phi_slot (phi : Phi) : Type 0 where
    slot : PhiSlot
    among : Among slot slots.phis
    is : typed phi.to phi.ty ≡ typed slot.reg slot.ty

  phi_slot : (b n : ℕ) (phi : Phi) → PhiAt p b n phi → Phi_slot phi
  phi_slot b n phi at =
      let here : Among phi (phis_of p.blocks) = among_flat (λ (c : Block). c.phis) at.block phi p.blocks (among_at at.block p.blocks b at.stands) (among_at phi at.block.phis n at.line) in
      let mapped : Among (of_phi phi) (map of_slot slots.phis) = subst (λ (xs : List (Typed Reg)). Among (of_phi phi) xs) (sym are.phis) (among_map of_phi phi (phis_of p.blocks) here) in
      let m = map_among of_slot slots.phis (of_phi phi) mapped in
      record { slot = m.x; among = m.among; is = m.is }

  pub next_among : (b n : ℕ) (phi : Phi) → PhiAt p b n phi → Among (coming phi.to phi.ty) (register_variables p slots)
  next_among b n phi at =
      let s = phi_slot b n phi at in
      among_front (coming phi.to phi.ty) (flat_map phi_variables slots.phis) _ (among_flat phi_variables s.slot (coming phi.to phi.ty) slots.phis s.among (inl (ap (λ (x : Typed Reg). coming x.item x.ty) s.is)))

  pub own_among : (b n : ℕ) (phi : Phi) → PhiAt p b n phi → Among (kept phi.to phi.ty) (register_variables p slots)
  own_among b n phi at =
      let s = phi_slot b n phi at in
      among_front (kept phi.to phi.ty) (flat_map phi_variables slots.phis) _ (among_flat phi_variables s.slot (kept phi.to phi.ty) slots.phis s.among (inr (inl (ap (λ (x : Typed Reg). kept x.item x.ty) s.is))))

  pub crossing_among : (b : ℕ) (spot : Spot) (reg : Reg) (type : Ty) → IsCrossing p reg → Sets p b spot reg type → Among (kept reg type) (register_variables p slots)
  crossing_among b spot reg type crosses sets =
      let k = are.kept reg crosses in
      let slot : CrossSlot = k.1 in
      let set = are.types k.0 slot k.2 in
      let type_is : slot.ty ≡ type = set_types p sound set.0 b set.1 spot reg slot.ty type (subst (λ r. Sets p set.0 set.1 r slot.ty) k.3 set.2) sets in
      let variable : cross_variable slot ≡ kept reg type = ap (λ r. kept r slot.ty) k.3 ∙ ap (kept reg) type_is in
      let here : Among (cross_variable slot) (map cross_variable slots.crossing) = among_map cross_variable slot slots.crossing (among_at slot slots.crossing k.0 k.2) in
      subst (λ s. Among s (register_variables p slots)) variable (among_back (cross_variable slot) (flat_map phi_variables slots.phis) _ (among_front (cross_variable slot) (map cross_variable slots.crossing) (further_slots p.blocks) here))

  pub further_among : (slot : Slot) → Among slot (further_slots p.blocks) → Among slot (register_variables p slots)
  further_among slot h =
      among_back slot (flat_map phi_variables slots.phis) _ (among_back slot (map cross_variable slots.crossing) (further_slots p.blocks) h)

  -- ---- what these variables are

  -- that of a phi's next value, or that of a register that is set with its type
  pub data Register_slot (slot : Slot) : Type 0 where
    reads_next : (reg : Reg) (type : Ty) → slot ≡ coming reg type → Register_slot slot
    holds : IsKept p slot → Register_slot slot

  phi_sets : (s : PhiSlot) → Among s slots.phis → (b : ℕ) × (spot : Spot) × Sets p b spot s.reg s.ty
  phi_sets s h =
      let mapped : Among (of_slot s) (map of_phi (phis_of p.blocks)) = subst (λ (xs : List (Typed Reg)). Among (of_slot s) xs) are.phis (among_map of_slot s slots.phis h) in
      let m = map_among of_phi (phis_of p.blocks) (of_slot s) mapped in
      let c = flat_among (λ (c : Block). c.phis) p.blocks m.x m.among in
      let b = among_get c.x p.blocks c.among in
      let n = among_get m.x c.x.phis c.made in
      (b.0, At_phi n.0, record { block = c.x; stands = b.1; sets = (m.x, n.1, sym (ap (λ (x : Typed Reg). x.item) m.is), sym (ap (λ (x : Typed Reg). x.ty) m.is)) })

  pub register_slot : (slot : Slot) → Among slot (register_variables p slots) → Register_slot slot
  register_slot slot h =
      ⊎_elim of_phis (λ rest. ⊎_elim of_crossing (λ further. holds (further_kept p sound slot further)) (among_either slot (map cross_variable slots.crossing) (further_slots p.blocks) rest)) (among_either slot (flat_map phi_variables slots.phis) _ h)
    where
      of_two : (s : PhiSlot) → Among s slots.phis → Among slot (phi_variables s) → Register_slot slot
      of_two s among (inl e) = reads_next s.reg s.ty e
      of_two s among (inr (inl e)) = holds (record { reg = s.reg; type = s.ty; is = e; set = phi_sets s among })
      of_two s among (inr (inr none)) = absurd none

      of_phis : Among slot (flat_map phi_variables slots.phis) → Register_slot slot
      of_phis h =
          let m = flat_among phi_variables slots.phis slot h in
          of_two m.x m.among m.made

      of_crossing : Among slot (map cross_variable slots.crossing) → Register_slot slot
      of_crossing h =
          let m = map_among cross_variable slots.crossing slot h in
          let k = among_get m.x slots.crossing m.among in
          holds (record { reg = m.x.reg; type = m.x.ty; is = m.is; set = are.types k.0 m.x k.1 })

  -- the variable of a register is that of one that is set with its type
  pub kept_set : (reg : Reg) (type : Ty) → Among (kept reg type) (register_variables p slots) → (b : ℕ) × (spot : Spot) × Sets p b spot reg type
  kept_set reg type h = by_slot (register_slot (kept reg type) h)
    where
      by_slot : Register_slot (kept reg type) → (b : ℕ) × (spot : Spot) × Sets p b spot reg type
      by_slot (reads_next r t e) = absurd (cc)
      by_slot (holds k) =
          let type_is : type ≡ k.type = sym (kept_type reg type) ∙ ap held_type k.is ∙ kept_type k.reg k.type in
          let reg_is : reg ≡ k.reg = ap (λ s. reg_in s reg) k.is in
          (k.set.0, k.set.1, subst (λ t. Sets p k.set.0 k.set.1 reg t) (sym type_is) (subst (λ r. Sets p k.set.0 k.set.1 r k.type) (sym reg_is) k.set.2))

  -- the block that is wanted is no register
  pub no_want : Among Want (register_variables p slots) → ⊥
  no_want h = by_slot (register_slot Want h)
    where
      by_slot : Register_slot Want → ⊥
      by_slot (reads_next r t e) = absurd (cc)
      by_slot (holds k) = (let e : Want ≡ kept k.reg k.type = k.is in absurd (cc))
