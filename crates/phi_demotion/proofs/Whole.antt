-- The slots that are made are those that the registers of a program need.
use Rattle.std.proofs.Common.{◌≡◌, ℕ, ◌+◌, ◌*◌, ◌<◌, Bool, true, false, ◌⊎◌, inl, inr, List, [], ◌∷◌, ◌++◌, length, map, Some, refl, ap, sym, ◌∙◌, subst, arith, length-append}
use Rattle.std.specs.Prelude.{slice_get, Contains}
use Rattle.std.specs.List.{flat_map, list_any}
use Rattle.std.proofs.lemmas.List.{length-map}
use Rattle.std.proofs.lemmas.Option.{slice_get_within}
use Rattle.dxil_form.specs.declared.value.Ty.{Ty}
use Rattle.dxil_form.specs.declared.value.Reg.{Reg}
use Rattle.dxil_form.specs.declared.value.Operand.{Operand}
use Rattle.dxil_form.specs.declared.value.Operand.TheVariants as operand
use Rattle.dxil_form.specs.declared.instr.Instr.{Instr}
use Rattle.dxil_form.specs.declared.block.Term.{Term}
use Rattle.dxil_form.specs.declared.block.Phi.{Phi}
use Rattle.dxil_form.specs.declared.block.Block.{Block}
use Rattle.dxil_form.specs.declared.program.Program.{Program}
use Rattle.dxil_form.specs.Registers.{Typed, typed, Spot, At_phi, At_line, SetsAt, Sets, Crosses, by_entry, by_line, by_end, IsCrossing, reads, operands_of, term_operands}
use Rattle.dxil_form.specs.Sound.{Sound, HasType, LineAt, PhiAt, EndAt}
use Rattle.phi_demotion.specs.declared.slots.PhiSlot.{PhiSlot}
use Rattle.phi_demotion.specs.declared.slots.CrossSlot.{CrossSlot}
use Rattle.phi_demotion.specs.declared.slots.Slots.{Slots}
use Rattle.phi_demotion.specs.Reads.{key_of, is_key, is_phi, program_reads, slots_of_reads}
use Rattle.phi_demotion.specs.Slots.{phis_of, of_phi, of_slot, both, numbers, slots_of_phis, AreSlots}
use Rattle.phi_demotion.proofs.Keys.{same_key, own_key}
use Rattle.phi_demotion.proofs.Members.{In, Place, get_in, in_get, in_contains, From, in_flat, flat_in, in_map, Made, map_in, Passes, any_passes, passes_any}
use Rattle.phi_demotion.proofs.Crossings.{key_reg, not_true, crosses_is, is_crosses, ReadWith, TypedRead, typed_read}
use Rattle.phi_demotion.proofs.Numbers.{IsCounting, count_is, phis_count, length_numbers, phis_have, crossing_count}
use Rattle.phi_demotion.proofs.Chosen.{Chosen, chosen, has_slot, in_slots}

-- ---- registers of phis

-- a phi of the program that sets the register
pub record PhiSets (p : Program) (reg : Reg) : Type 0 where
  pub block : ℕ
  pub at : ℕ
  pub ty : Ty
  pub sets : Sets p block (At_phi at) reg ty

phi_sets : (p : Program) (phis : List PhiSlot) (reg : Reg) → map of_slot phis ≡ map of_phi (phis_of p.blocks) → is_phi phis (key_of reg) ≡ true → PhiSets p reg
phi_sets p phis reg same holds =
    let w = any_passes (λ (s : PhiSlot). is_key (key_of s.reg) (key_of reg)) phis holds in
    let own : w.element.reg ≡ reg = key_reg w.element.reg reg (same_key (key_of w.element.reg) (key_of reg) w.passes) in
    let i : In (of_slot w.element) (map of_phi (phis_of p.blocks)) = subst (λ (xs : List (Typed Reg)). In (of_slot w.element) xs) same (in_map of_slot phis w.at w.element w.stands) in
    let m = map_in of_phi (phis_of p.blocks) (of_slot w.element) i in
    let f = in_flat (λ (block : Block). block.phis) p.blocks m.element (in_get (phis_of p.blocks) m.at m.element m.stands) in
    let q = get_in f.member in
    let to : m.element.to ≡ reg = ap (λ (t : Typed Reg). t.item) m.same ∙ own in
    record { block = f.at; at = q.at; ty = m.element.ty; sets = record { block = f.element; stands = f.stands; sets = (m.element, q.is, to, refl) } }

sets_phi : (p : Program) (phis : List PhiSlot) (reg : Reg) → map of_slot phis ≡ map of_phi (phis_of p.blocks) → PhiSets p reg → is_phi phis (key_of reg) ≡ true
sets_phi p phis reg same w =
    let s = w.sets in
    let phi : Phi = s.sets.0 in
    let i = flat_in (λ (block : Block). block.phis) p.blocks w.block s.block phi s.stands (in_get s.block.phis w.at phi s.sets.1) in
    let q = get_in i in
    let j : In (of_phi phi) (map of_slot phis) = subst (λ (xs : List (Typed Reg)). In (of_phi phi) xs) (sym same) (in_map of_phi (phis_of p.blocks) q.at phi q.is) in
    let m = map_in of_slot phis (of_phi phi) j in
    let reg_is : m.element.reg ≡ reg = ap (λ (t : Typed Reg). t.item) m.same ∙ s.sets.2 in
    passes_any (λ (s : PhiSlot). is_key (key_of s.reg) (key_of reg)) phis m.at m.element m.stands (ap (λ (r : Reg). is_key (key_of r) (key_of reg)) reg_is ∙ own_key (key_of reg))

-- ---- the whole

module _ (p : Program) (sound : Sound p) (phis : List PhiSlot) (crossing : List CrossSlot) (made : phis ≡ slots_of_phis [] (phis_of p.blocks)) (chose : crossing ≡ slots_of_reads (is_phi phis) (2 * length phis) (program_reads p.blocks)) where
  abbrev all : Slots
  all = record { phis = phis; crossing = crossing; count = 2 * length phis + length crossing }

  have_phis : map of_slot phis ≡ map of_phi (phis_of p.blocks)
  have_phis = ap (map of_slot) made ∙ phis_have (phis_of p.blocks)

  the_chosen : Chosen (is_phi phis) (2 * length phis) (program_reads p.blocks) crossing
  the_chosen =
      subst (λ (s : List CrossSlot). Chosen (is_phi phis) (2 * length phis) (program_reads p.blocks) s) (sym chose) (chosen (is_phi phis) (2 * length phis) (program_reads p.blocks))

  counting : IsCounting (numbers all)
  counting =
      let before : IsCounting (flat_map both phis) = subst (λ (s : List PhiSlot). IsCounting (flat_map both s)) (sym made) (phis_count (phis_of p.blocks)) in
      subst (λ (s : List CrossSlot). IsCounting (flat_map both phis ++ map (λ s. s.slot) s)) (sym chose) (crossing_count (is_phi phis) (2 * length phis) (flat_map both phis) (length_numbers phis) before (program_reads p.blocks))

  how_many : length (numbers all) ≡ 2 * length phis + length crossing
  how_many =
      let first = length_numbers phis in
      let second : length (map (λ (s : CrossSlot). s.slot) crossing) ≡ length crossing = length-map crossing (λ (s : CrossSlot). s.slot) in
      let sum = length-append (flat_map both phis) (map (λ (s : CrossSlot). s.slot) crossing) in
      omega arith

  is_crossing : (k : ℕ) (s : CrossSlot) → slice_get crossing k ≡ Some s → IsCrossing p s.reg
  is_crossing k s e =
      record {
        crosses = crosses_is p s.reg s.ty (the_chosen.read k s e);
        no_phi = λ b n ty sets.
            let yes = sets_phi p phis s.reg have_phis (record { block = b; at = n; ty = ty; sets = sets }) in
            let free = the_chosen.no_phi k s e in
            let wrong : true ≡ false = sym yes ∙ free in
            cc;
      }

  -- a slot of the register
  record Kept (reg : Reg) : Type 0 where
    at : ℕ
    slot : CrossSlot
    stands : slice_get crossing at ≡ Some slot
    own : slot.reg ≡ reg

  is_kept : (reg : Reg) → IsCrossing p reg → Kept reg
  is_kept reg c =
      let r = is_crosses p reg c.crosses in
      let free : is_phi phis (key_of reg) ≡ false = not_true (is_phi phis (key_of reg)) (λ yes. let w = phi_sets p phis reg have_phis yes in c.no_phi w.block w.at w.ty w.sets) in
      let yes : in_slots crossing (key_of reg) ≡ true = ap (λ (s : List CrossSlot). in_slots s (key_of reg)) chose ∙ has_slot (is_phi phis) (2 * length phis) [] (program_reads p.blocks) reg r.ty r.member free in
      let w = any_passes (λ (s : CrossSlot). is_key (key_of s.reg) (key_of reg)) crossing yes in
      record { at = w.at; slot = w.element; stands = w.stands; own = key_reg w.element.reg reg (same_key (key_of w.element.reg) (key_of reg) w.passes) }

  pub are_slots : AreSlots p all
  are_slots =
      record {
        phis = have_phis;
        kept = λ reg c. let w = is_kept reg c in (w.at, w.slot, w.stands, w.own);
        once = the_chosen.once;
        only = is_crossing;
        types = λ k s e. typed_read p sound s.reg s.ty (the_chosen.read k s e);
        apart = λ i j n e f. sym (count_is (numbers all) counting i n e) ∙ count_is (numbers all) counting j n f;
        below = λ i n e.
            let at = count_is (numbers all) counting i n e in
            let within = slice_get_within (numbers all) i n e in
            let many = how_many in
            omega arith;
        count = refl;
      }

pub made_slots : (p : Program) → Sound p → (phis : List PhiSlot) (crossing : List CrossSlot) (list : List (Reg × Ty)) (n m : ℕ) → phis ≡ slots_of_phis [] (phis_of p.blocks) → list ≡ program_reads p.blocks → n ≡ length phis → m ≡ length crossing → crossing ≡ slots_of_reads (is_phi phis) (2 * n) list → AreSlots p (record { phis = phis; crossing = crossing; count = 2 * n + m })
made_slots p sound phis crossing list n m made read en em chose =
    let chose' : crossing ≡ slots_of_reads (is_phi phis) (2 * length phis) (program_reads p.blocks) = chose ∙ ap (λ (k : ℕ). slots_of_reads (is_phi phis) (2 * k) list) en ∙ ap (slots_of_reads (is_phi phis) (2 * length phis)) read in
    let same : 2 * length phis + length crossing ≡ 2 * n + m = omega arith in
    subst (λ (k : ℕ). AreSlots p (record { phis = phis; crossing = crossing; count = k })) same (are_slots p sound phis crossing made chose')
