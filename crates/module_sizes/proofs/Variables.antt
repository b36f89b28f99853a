-- How many variables the function has: two for each phi, one for each other register at most, and two for the regions.
use Rattle.std.proofs.Common.{◌≡◌, ℕ, ◌+◌, ◌≤◌, Bool, true, false, List, [], ◌∷◌, ◌++◌, length, map, Some, refl, sym, ap, ◌∙◌, subst, arith, inl, inr, ⊎_elim}
use Rattle.std.specs.Prelude.{slice_get, if◌then◌else◌}
use Rattle.std.specs.List.{flat_map}
use Rattle.dxil_form.specs.declared.value.Ty.{Ty}
use Rattle.dxil_form.specs.declared.value.Reg.{Reg}
use Rattle.dxil_form.specs.declared.instr.Instr.{Instr}
use Rattle.dxil_form.specs.declared.block.Phi.{Phi}
use Rattle.dxil_form.specs.declared.block.Block.{Block}
use Rattle.dxil_form.specs.declared.program.Program.{Program}
use Rattle.dxil_form.specs.declared.region.Region.{Region}
use Rattle.dxil_form.specs.Registers.{Typed, typed, Spot, At_phi, At_line, Sets, set_by}
use Rattle.dxil_form.specs.Sound.{Sound}
use Rattle.phi_demotion.specs.declared.slots.PhiSlot.{PhiSlot}
use Rattle.phi_demotion.specs.declared.slots.Slots.{Slots}
use Rattle.phi_demotion.specs.Slots.{AreSlots, phis_of, of_phi, of_slot}
use Rattle.spirv_code.specs.declared.key.Slot.{Slot}
use Rattle.spirv_code.specs.declared.key.Slot.TheVariants.{Want, Pick}
use Rattle.spirv_code.specs.Keys.{same_slot}
use Rattle.spirv_code.specs.Plans.{kept, coming}
use Rattle.spirv_code.specs.Further.{further_slots, picks, wants, want_slots}
use Rattle.plan_ready.proofs.Among.{Among, among_front, among_back, among_at, among_flat, among_map, contains_among}
use Rattle.chosen_plan.specs.Chosen.{phi_variables, cross_variable, register_variables, variables}
use Rattle.chosen_plan.proofs.Members.{among_either, among_get, flat_among, map_among, adds_told}
use Rattle.chosen_plan.proofs.Kept.{IsKept, further_kept}
use Rattle.module_sizes.specs.Sizes.{Measure, amount}
use Rattle.module_sizes.proofs.Totals.{total, total_append, total_map, total_flat, total_less, total_same, total_within, times}
use Rattle.module_sizes.proofs.Apart.{slots_tell, slots_apart}
use Rattle.module_sizes.proofs.Blocks.{set_most, kept_most}

-- the variables of a phi, of a register, and of all registers of a block
abbrev phi_two : Phi → List Slot
phi_two phi = coming phi.to phi.ty ∷ kept phi.to phi.ty ∷ []

abbrev kept_of : Typed Reg → Slot
kept_of r = kept r.item r.ty

abbrev line_kept : Instr → List Slot
line_kept line = map kept_of (set_by line)

abbrev block_slots : Block → List Slot
block_slots block = flat_map phi_two block.phis ++ flat_map line_kept block.instrs

-- all that there may be
abbrev all_slots : Program → List Slot
all_slots p = flat_map block_slots p.blocks ++ (Want ∷ Pick ∷ [])

module _ (p : Program) (sound : Sound p) (slots : Slots) (are : AreSlots p slots) where
  in_block : (s : Slot) (b : ℕ) (block : Block) → slice_get p.blocks b ≡ Some block → Among s (block_slots block) → Among s (all_slots p)
  in_block s b block e h =
      among_front s (flat_map block_slots p.blocks) (Want ∷ Pick ∷ []) (among_flat block_slots block s p.blocks (among_at block p.blocks b e) h)

  of_block_phi : (s : Slot) (b n : ℕ) (block : Block) (phi : Phi) → slice_get p.blocks b ≡ Some block → slice_get block.phis n ≡ Some phi → Among s (phi_two phi) → Among s (all_slots p)
  of_block_phi s b n block phi e f h =
      in_block s b block e (among_front s (flat_map phi_two block.phis) (flat_map line_kept block.instrs) (among_flat phi_two phi s block.phis (among_at phi block.phis n f) h))

  -- a register that is set
  of_set : (s : Slot) (reg : Reg) (type : Ty) (b : ℕ) (spot : Spot) → Sets p b spot reg type → s ≡ kept reg type → Among s (all_slots p)
  of_set s reg type b (At_phi n) set is =
      let phi : Phi = set.sets.0 in
      let same : s ≡ kept phi.to phi.ty = is ∙ ap (λ r. kept r type) (sym set.sets.2) ∙ ap (kept phi.to) (sym set.sets.3) in
      of_block_phi s b n set.block phi set.stands set.sets.1 (inr (inl same))
  of_set s reg type b (At_line n) set is =
      let line : Instr = set.sets.0 in
      let there : Among (kept_of (typed reg type)) (line_kept line) = among_map kept_of (typed reg type) (set_by line) (contains_among (typed reg type) (set_by line) set.sets.2) in
      let here : Among s (line_kept line) = subst (λ x. Among x (line_kept line)) (sym is) there in
      in_block s b set.block set.stands (among_back s (flat_map phi_two set.block.phis) (flat_map line_kept set.block.instrs) (among_flat line_kept line s set.block.instrs (among_at line set.block.instrs n set.sets.1) here))

  of_kept : (s : Slot) → IsKept p s → Among s (all_slots p)
  of_kept s k = of_set s k.reg k.type k.set.0 k.set.1 k.set.2 k.is

  -- the slots of a phi
  of_phi_slot : (s : Slot) (x : PhiSlot) → Among x slots.phis → Among s (phi_variables x) → Among s (all_slots p)
  of_phi_slot s x among h =
      let mapped : Among (of_slot x) (map of_phi (phis_of p.blocks)) = subst (λ (xs : List (Typed Reg)). Among (of_slot x) xs) are.phis (among_map of_slot x slots.phis among) in
      let m = map_among of_phi (phis_of p.blocks) (of_slot x) mapped in
      let c = flat_among (λ (c : Block). c.phis) p.blocks m.x m.among in
      let b = among_get c.x p.blocks c.among in
      let n = among_get m.x c.x.phis c.made in
      of_block_phi s b.0 n.0 c.x m.x b.1 n.1 (two m.x m.is h)
    where
      two : (phi : Phi) → of_slot x ≡ of_phi phi → Among s (phi_variables x) → Among s (phi_two phi)
      two phi is (inl e) = inl (e ∙ ap (λ (y : Typed Reg). coming y.item y.ty) is)
      two phi is (inr (inl e)) = inr (inl (e ∙ ap (λ (y : Typed Reg). kept y.item y.ty) is))
      two phi is (inr (inr none)) = absurd none

  of_register : (s : Slot) → Among s (register_variables p slots) → Among s (all_slots p)
  of_register s h =
      ⊎_elim phis (λ rest. ⊎_elim crossing (λ further. of_kept s (further_kept p sound s further)) (among_either s (map cross_variable slots.crossing) (further_slots p.blocks) rest)) (among_either s (flat_map phi_variables slots.phis) _ h)
    where
      phis : Among s (flat_map phi_variables slots.phis) → Among s (all_slots p)
      phis h =
          let m = flat_among phi_variables slots.phis s h in
          of_phi_slot s m.x m.among m.made

      crossing : Among s (map cross_variable slots.crossing) → Among s (all_slots p)
      crossing h =
          let m = map_among cross_variable slots.crossing s h in
          let k = among_get m.x slots.crossing m.among in
          let set = are.types k.0 m.x k.1 in
          of_set s m.x.reg m.x.ty set.0 set.1 set.2 m.is

  of_wanted : (list : List Region) (s : Slot) → Among s (want_slots p list) → Among s (Want ∷ Pick ∷ [])
  of_wanted list s h = by_two (wants p list) (picks p list) h
    where
      by_two : (a b : Bool) → Among s ((if a then Want ∷ [] else []) ++ (if b then Pick ∷ [] else [])) → Among s (Want ∷ Pick ∷ [])
      by_two true true h = h
      by_two true false (inl e) = inl e
      by_two true false (inr none) = absurd none
      by_two false true h = inr h
      by_two false false h = absurd h

  there : (list : List Region) (s : Slot) → Among s (variables p list slots) → Among s (all_slots p)
  there list s h =
      ⊎_elim (λ no. absurd no) (λ made. ⊎_elim (of_register s) (λ want. among_back s (flat_map block_slots p.blocks) (Want ∷ Pick ∷ []) (of_wanted list s want)) (among_either s (register_variables p slots) (want_slots p list) made)) (adds_told (register_variables p slots ++ want_slots p list) [] s h)

  -- ---- how many

  phis_take : (m : Measure) (phis : List Phi) → total (λ s. amount m 4) (flat_map phi_two phis) ≡ times (length phis) (amount m 4 + amount m 4)
  phis_take m [] = refl
  phis_take m (phi ∷ phis) =
      let rest = phis_take m phis in
      let e : amount m 4 + (amount m 4 + total (λ s. amount m 4) (flat_map phi_two phis)) ≡ amount m 4 + amount m 4 + times (length phis) (amount m 4 + amount m 4) = omega (arith, rest) in
      e

  lines_take : (m : Measure) (lines : List Instr) → total (λ s. amount m 4) (flat_map line_kept lines) ≡ total (set_most m) lines
  lines_take m [] = refl
  lines_take m (line ∷ lines) =
      total_append (λ s. amount m 4) (line_kept line) (flat_map line_kept lines)
      ∙ ap (λ n. n + total (λ s. amount m 4) (flat_map line_kept lines)) (total_map (λ s. amount m 4) kept_of (set_by line))
      ∙ ap (λ n. set_most m line + n) (lines_take m lines)

  block_takes : (m : Measure) (block : Block) → total (λ s. amount m 4) (block_slots block) ≡ kept_most m block
  block_takes m block =
      let split = total_append (λ s. amount m 4) (flat_map phi_two block.phis) (flat_map line_kept block.instrs) in
      let one = phis_take m block.phis in
      let two = lines_take m block.instrs in
      let e : total (λ s. amount m 4) (block_slots block) ≡ kept_most m block = omega (arith, split, one, two) in
      e

  pub variables_fit : (m : Measure) (list : List Region) → times (length (variables p list slots)) (amount m 4) ≤ total (kept_most m) p.blocks + (amount m 4 + amount m 4)
  variables_fit m list =
      let count = total_same (amount m 4) (variables p list slots) in
      let within = total_within same_slot slots_tell (all_slots p) (variables p list slots) (λ s. amount m 4) (slots_apart (register_variables p slots ++ want_slots p list) [] tt) (λ s among. inr (there list s among)) in
      let split = total_append (λ s. amount m 4) (flat_map block_slots p.blocks) (Want ∷ Pick ∷ []) in
      let flat = total_flat (λ s. amount m 4) block_slots p.blocks in
      let less = total_less (λ block. total (λ s. amount m 4) (block_slots block)) (kept_most m) p.blocks (λ block among. (let e = block_takes m block in omega (arith, e))) in
      omega (arith, count, within, split, flat, less)
