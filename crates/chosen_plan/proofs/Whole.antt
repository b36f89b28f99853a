-- The slots of a program make a plan of it.
use Rattle.std.proofs.Common.{◌≡◌, ℕ, zero, suc, Bool, true, false, List, [], ◌∷◌, ◌++◌, length, Option, Some, None, refl, sym, ap, subst, inl, inr, ⊎_elim}
use Rattle.std.specs.Prelude.{◌⊎◌, slice_get, if◌then◌else◌}
use Rattle.dxil_form.specs.declared.value.Ty.{Ty}
use Rattle.dxil_form.specs.declared.value.Reg.{Reg}
use Rattle.dxil_form.specs.declared.block.Block.{Block}
use Rattle.dxil_form.specs.declared.program.Program.{Program}
use Rattle.dxil_form.specs.declared.region.Region.{Region}
use Rattle.dxil_form.specs.declared.region.Region.TheVariants as region
use Rattle.dxil_form.specs.Branches.{has, targets, targets_in, branches}
use Rattle.dxil_form.specs.Registers.{Spot, Sets}
use Rattle.dxil_form.specs.Sound.{Sound}
use Rattle.dxil_form.specs.Wired.{Wired}
use Rattle.phi_demotion.specs.declared.slots.Slots.{Slots}
use Rattle.phi_demotion.specs.Slots.{AreSlots}
use Rattle.spirv_code.specs.declared.key.Global.{Global}
use Rattle.spirv_code.specs.declared.key.Global.TheVariants.{Pointer, Number}
use Rattle.spirv_code.specs.declared.key.Storage.TheVariants as storage
use Rattle.spirv_code.specs.declared.key.Slot.{Slot}
use Rattle.spirv_code.specs.declared.key.Slot.TheVariants.{Next, Kept, Want, Pick}
use Rattle.spirv_code.specs.Keys.{has_key}
use Rattle.spirv_code.specs.Plans.{kept, slots_from, slot_id}
use Rattle.spirv_code.specs.Frame.{slot_sort, slot_start}
use Rattle.spirv_code.specs.Needed.{slot_keys, slots_keys, want_keys, region_keys, regions_keys, block_keys, end_keys, lines_keys, phis_keys, numbers_keys, tested_keys, table_of}
use Rattle.spirv_code.specs.Exits.{tested}
use Rattle.spirv_code.specs.Further.{want_slots, wants, picks}
use Rattle.line_runs.proofs.Tests.{some_inj}
use Rattle.leaf_runs.proofs.Targets.{has_in}
use Rattle.dxil_form.specs.Graphs.{In}
use Rattle.frame_facts.specs.Serves.{Serves}
use Rattle.frame_facts.proofs.Tables.{slot_stands}
use Rattle.frame_facts.proofs.Tabled.{IsKnown, in_order}
use Rattle.plan_ready.specs.Planned.{HasVariables}
use Rattle.plan_ready.proofs.Among.{Among, among_front, among_back, among_at}
use Rattle.plan_ready.proofs.Tables.{all_have, leaf_among}
use Rattle.plan_ready.proofs.Base.{among_has, has_place}
use Rattle.chosen_plan.specs.Chosen.{register_variables, variables, plan_for}
use Rattle.chosen_plan.specs.IsPlan.{IsPlan, PlansAreChosen}
use Rattle.chosen_plan.proofs.Members.{among_either, has_among, adds_have, adds_told}
use Rattle.chosen_plan.proofs.Slots.{next_among, own_among, crossing_among, further_among, kept_set, no_want}

-- ---- keys of the table

slot_among : (slots : List Slot) (s : Slot) (g : Global) → Among s slots → Among g (slot_keys s) → Among g (slots_keys slots)
slot_among [] s g h k = absurd h
slot_among (x ∷ slots) s g (inl e) k = among_front g (slot_keys x) (slots_keys slots) (subst (λ y. Among g (slot_keys y)) e k)
slot_among (x ∷ slots) s g (inr h) k = among_back g (slot_keys x) (slots_keys slots) (slot_among slots s g h k)

region_among : (p : Program) (w : Bool) (list : List Region) (r : ℕ) (x : Region) (g : Global) → slice_get list r ≡ Some x → Among g (region_keys p w x) → Among g (regions_keys p w list)
region_among p w [] r x g e h = absurd (cc)
region_among p w (y ∷ list) zero x g e h =
    among_front g (region_keys p w y) (regions_keys p w list) (subst (λ z. Among g (region_keys p w z)) (sym (some_inj e)) h)
region_among p w (y ∷ list) (suc r) x g e h =
    among_back g (region_keys p w y) (regions_keys p w list) (region_among p w list r x g e h)

number_among : (ks : List ℕ) (k : ℕ) → In k ks → Among (Number k) (numbers_keys ks)
number_among [] k h = absurd h
number_among (x ∷ ks) k (inl e) = inl (ap Number e)
number_among (x ∷ ks) k (inr h) = inr (number_among ks k h)

start_declared : (p : Program) (s : Slot) → IsKnown p (slot_start s)
start_declared p (Next value part true) = tt
start_declared p (Next value part false) = tt
start_declared p (Kept value part true) = tt
start_declared p (Kept value part false) = tt
start_declared p Want = tt
start_declared p Pick = tt

-- ---- the variables of the regions

abbrev two_slots : Bool → Bool → List Slot
two_slots a b = (if a then Want ∷ [] else []) ++ (if b then Pick ∷ [] else [])

kept_no_two : (a b : Bool) (reg : Reg) (type : Ty) → Among (kept reg type) (two_slots a b) → ⊥
kept_no_two true b reg type (inl e) = absurd (cc)
kept_no_two true true reg type (inr (inl e)) = absurd (cc)
kept_no_two true true reg type (inr (inr none)) = none
kept_no_two true false reg type (inr none) = none
kept_no_two false true reg type (inl e) = absurd (cc)
kept_no_two false true reg type (inr none) = none
kept_no_two false false reg type none = none

kept_no_region : (p : Program) (list : List Region) (reg : Reg) (type : Ty) → Among (kept reg type) (want_slots p list) → ⊥
kept_no_region p list reg type h = kept_no_two (wants p list) (picks p list) reg type h

want_told : (p : Program) (list : List Region) → Among Want (want_slots p list) → wants p list ≡ true
want_told p list h = by_two (wants p list) (picks p list) h
  where
    by_two : (a b : Bool) → Among Want (two_slots a b) → a ≡ true
    by_two true b h = refl
    by_two false true (inl e) = absurd (cc)
    by_two false true (inr none) = absurd none
    by_two false false none = absurd none

want_there : (p : Program) (list : List Region) → wants p list ≡ true → Among Want (want_slots p list)
want_there p list e = subst (λ a. Among Want (two_slots a (picks p list))) (sym e) (inl refl)

pick_there : (p : Program) (list : List Region) → picks p list ≡ true → Among Pick (want_slots p list)
pick_there p list e =
    among_back Pick (if wants p list then Want ∷ [] else []) (if picks p list then Pick ∷ [] else []) (subst (λ b. Among Pick (if b then Pick ∷ [] else [])) (sym e) (inl refl))

module _ (p : Program) (list : List Region) (slots : Slots) (sound : Sound p) (wired : Wired p list) (are : AreSlots p slots) where
  abbrev all : List Slot
  all = variables p list slots

  abbrev table : List Global
  table = table_of p list (wants p list) all

  -- a variable is that of a register, or one of the regions
  all_told : (s : Slot) → Among s all → Among s (register_variables p slots) ⊎ Among s (want_slots p list)
  all_told s h =
      ⊎_elim (λ none. absurd none) (λ more. among_either s (register_variables p slots) (want_slots p list) more) (adds_told (register_variables p slots ++ want_slots p list) [] s h)

  register_in : (s : Slot) → Among s (register_variables p slots) → Among s all
  register_in s h = adds_have (register_variables p slots ++ want_slots p list) [] s (among_front s (register_variables p slots) (want_slots p list) h)

  region_in : (s : Slot) → Among s (want_slots p list) → Among s all
  region_in s h = adds_have (register_variables p slots ++ want_slots p list) [] s (among_back s (register_variables p slots) (want_slots p list) h)

  has_variables : HasVariables p all
  has_variables =
      record {
        next = λ b n phi at. among_has all _ (register_in _ (next_among p sound slots are b n phi at));
        own = λ b n phi at. among_has all _ (register_in _ (own_among p sound slots are b n phi at));
        crossing = λ b spot reg type crosses sets. among_has all _ (register_in _ (crossing_among p sound slots are b spot reg type crosses sets));
        further = λ slot h. among_has all slot (register_in slot (further_among p sound slots are slot (has_among _ slot h)));
      }

  -- ---- the table

  -- what is named by the variables, by the regions, or by their blocks
  abbrev named_keys : List Global
  named_keys = slots_keys all ++ (want_keys p (wants p list) ++ regions_keys p (wants p list) list)

  in_table : (g : Global) → Among g named_keys → IsKnown p g → has_key table g ≡ true
  in_table g h d = all_have p named_keys [] g h d

  by_slot : (s : Slot) (g : Global) → Among s all → Among g (slot_keys s) → IsKnown p g → has_key table g ≡ true
  by_slot s g h k d = in_table g (among_front g (slots_keys all) _ (slot_among all s g h k)) d

  by_want : (g : Global) → Among g (want_keys p (wants p list)) → IsKnown p g → has_key table g ≡ true
  by_want g h d =
      in_table g (among_back g (slots_keys all) _ (among_front g (want_keys p (wants p list)) (regions_keys p (wants p list) list) h)) d

  by_region : (g : Global) → Among g (regions_keys p (wants p list) list) → IsKnown p g → has_key table g ≡ true
  by_region g h d =
      in_table g (among_back g (slots_keys all) _ (among_back g (want_keys p (wants p list)) (regions_keys p (wants p list) list) h)) d

  serves : Serves p list (plan_for p list slots)
  serves =
      let order = in_order p named_keys in
      record {
        regions = refl;
        closed = order.closed;
        arrays = order.numbered.order;
        variables = λ k s at. (let h = among_at s all k at in
            (by_slot s (Pointer storage.Function (slot_sort s)) h (inl refl) tt, (by_slot s (slot_start s) h (inr (inl refl)) (start_declared p s), tt)));
        set = λ k reg type at. set_of reg type (all_told (kept reg type) (among_at (kept reg type) all k at));
      }
    where
      set_of : (reg : Reg) (type : Ty) → Among (kept reg type) (register_variables p slots) ⊎ Among (kept reg type) (want_slots p list) → (b : ℕ) × (spot : Spot) × Sets p b spot reg type
      set_of reg type (inl h) = kept_set p sound slots are reg type h
      set_of reg type (inr h) = absurd (kept_no_region p list reg type h)

  -- ---- the variables and the numbers of the regions

  placed : (s : Slot) → Among s all → (id : ℕ) × (slot_id (plan_for p list slots) s ≡ Some id)
  placed s h = has_place (slots_from (plan_for p list slots)) all s (among_has all s h)

  wanted : (id : ℕ) → slot_id (plan_for p list slots) Want ≡ Some id → wants p list ≡ true
  wanted id e =
      let at = slot_stands (slots_from (plan_for p list slots)) all Want id e in
      ⊎_elim (λ none. absurd (no_want p sound slots are none)) (λ h. want_told p list h) (all_told Want (among_at Want all at.k at.here))

  next_number : wants p list ≡ true → (r b k : ℕ) → slice_get list r ≡ Some (region.Leaf b) → branches p b k ≡ true → has_key table (Number k) ≡ true
  next_number e r b k leaf branch = by_block (slice_get p.blocks b) refl branch
    where
      by_block : (o : Option Block) → slice_get p.blocks b ≡ o → has k (targets_in o) ≡ true → has_key table (Number k) ≡ true
      by_block None stands branch = absurd (cc)
      by_block (Some block) stands branch =
          let numbers : Among (Number k) (if wants p list then numbers_keys (targets block.term) else []) = subst (λ c. Among (Number k) (if c then numbers_keys (targets block.term) else [])) (sym e) (number_among (targets block.term) k (has_in k (targets block.term) branch)) in
          let ends : Among (Number k) (end_keys (wants p list) block.term) = among_back (Number k) (tested_keys (tested block.term)) _ numbers in
          let in_block : Among (Number k) (block_keys p (wants p list) block) = among_back (Number k) (phis_keys block.phis) _ (among_back (Number k) (lines_keys p block.instrs) (end_keys (wants p list) block.term) ends) in
          by_region (Number k) (leaf_among p (wants p list) list r b block (Number k) leaf stands in_block) tt

  pub is_plan : IsPlan p list (plan_for p list slots)
  is_plan =
      record {
        serves = serves;
        variables = has_variables;
        table = refl;
        want = λ e. placed Want (region_in Want (want_there p list e));
        wanted = wanted;
        pick = λ e. placed Pick (region_in Pick (pick_there p list e));
        no_number = λ e. by_want (Number (length p.blocks)) (subst (λ c. Among (Number (length p.blocks)) (want_keys p c)) (sym e) (inr (inr (inl refl)))) tt;
        next_numbers = next_number;
        then_numbers = λ r first second target e. by_region (Number target) (region_among p (wants p list) list r (region.Then first second target) (Number target) e (inl refl)) tt;
        loop_numbers = λ r body head e. by_region (Number head) (region_among p (wants p list) list r (region.Loop body head) (Number head) e (inl refl)) tt;
      }

pub plans_are_chosen : PlansAreChosen
plans_are_chosen p list slots sound wired are = is_plan p list slots sound wired are
