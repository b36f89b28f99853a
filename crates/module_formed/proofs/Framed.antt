-- All that stands before the code of the regions is formed, and so is what stands behind it.
use Rattle.std.proofs.Common.{◌≡◌, ℕ, suc, ◌+◌, ◌<◌, true, List, [], ◌∷◌, ◌++◌, length, Some, sym, subst, arith}
use Rattle.std.specs.Prelude.{slice_get}
use Rattle.dxil_form.specs.declared.program.Program.{Program}
use Rattle.dxil_form.specs.declared.region.Region.{Region}
use Rattle.dxil_form.specs.declared.region.Region.TheVariants as region
use Rattle.dxil_form.specs.Sound.{Sound}
use Rattle.spv_form.specs.declared.module.Version.{Version}
use Rattle.spv_form.specs.Formed.{IsIdBelow, IsFormedInst}
use Rattle.spirv_meaning.specs.Bindings.{Bindings}
use Rattle.spirv_code.specs.declared.key.Global.{Global}
use Rattle.spirv_code.specs.Keys.{has_key, index_of}
use Rattle.spirv_code.specs.Plans.{Plan, inst, site_label, slots_from, table_from, global_id}
use Rattle.spirv_code.specs.Trees.{root_of}
use Rattle.spirv_code.specs.Frame.{opening_label, head, name_of, names, decorations, declarations, opening, frame, closing, interface}
use Rattle.spirv_code.specs.Needed.{slots_keys, want_keys, regions_keys}
use Rattle.spirv_code.specs.Further.{wants}
use Rattle.frame_facts.proofs.Tabled.{global_self}
use Rattle.frame_facts.proofs.Tables.{key_below}
use Rattle.formed_lines.proofs.Lists.{AreFormed, join}
use Rattle.formed_lines.proofs.Shapes.{label_formed}
use Rattle.buffer_form.proofs.Fitting.{KeysFit, table_fits}
use Rattle.buffer_form.proofs.Standing.{has_at}
use Rattle.chosen_plan.specs.IsPlan.{IsPlan}
use Rattle.module_formed.proofs.Forms.{capability_formed, model_formed, mode_formed, void_formed, function_type_formed, function_formed, return_formed, end_formed}
use Rattle.module_formed.proofs.Texts.{name_formed}
use Rattle.module_formed.proofs.Counting.{Distinct, distinct_all}
use Rattle.module_formed.proofs.Interface.{short_interface, interface_ids, entry_formed}
use Rattle.module_formed.proofs.Declared.{IdsFrom, declarations_formed, slots_formed, decorations_formed}

-- the ids of the frame are below a bound: the function, its types, the names' labels, the first label, the variables and the table
pub record Holds (b : ℕ) (list : List Region) (plan : Plan) : Type 0 where
  pub types : 3 < b
  pub sites : (r : ℕ) → r < length list → IsIdBelow b (site_label r)
  pub opens : IsIdBelow b (opening_label (root_of list))
  pub slots : IdsFrom b (slots_from plan) plan.slots
  pub table : IdsFrom b (table_from plan) plan.table

-- LocalSize
size_formed : (b : ℕ) (local : List ℕ) → 1 < b → length local ≡ 3 → IsFormedInst b (inst 16 (1 ∷ 17 ∷ local))
size_formed b [] h three = absurd (omega (arith, three))
size_formed b (x ∷ []) h three = absurd (omega (arith, three))
size_formed b (x ∷ y ∷ []) h three = absurd (omega (arith, three))
size_formed b (x ∷ y ∷ z ∷ []) h three = mode_formed b 1 17 x y z (omega arith, h)
size_formed b (x ∷ y ∷ z ∷ u ∷ rest) h three = absurd (omega (arith, three))

names_formed : (b r : ℕ) (list : List Region) → ((k : ℕ) → k < length list → IsIdBelow b (site_label (r + k))) → AreFormed b (names r list)
names_formed b r [] h = tt
names_formed b r (x ∷ list) h = join b (name_of r x) (names (suc r) list) (by_region x) (names_formed b (suc r) list later)
  where
    own : IsIdBelow b (site_label r)
    own = let same : r + 0 ≡ r = omega arith in subst (λ k. IsIdBelow b (site_label k)) same (h 0 (omega arith))

    later : (k : ℕ) → k < length list → IsIdBelow b (site_label (suc r + k))
    later k lt =
        let same : r + suc k ≡ suc r + k = omega arith in
        subst (λ j. IsIdBelow b (site_label j)) same (h (suc k) (omega (arith, lt)))

    by_region : (x : Region) → AreFormed b (name_of r x)
    by_region (region.Leaf k) = (name_formed b (site_label r) k own, tt)
    by_region (region.Then first second target) = tt
    by_region (region.Loop body head) = tt
    by_region (region.Dispatch arms) = tt
    by_region (region.Arms first arms) = tt

module _ (p : Program) (list : List Region) (at : Bindings) (v : Version) (plan : Plan) (sound : Sound p) (is_plan : IsPlan p list plan) (b : ℕ) (holds : Holds b list plan) where
  distinct : Distinct plan.table
  distinct =
      subst Distinct (sym is_plan.table) (distinct_all p [] (slots_keys plan.slots ++ (want_keys p (wants p list) ++ regions_keys p (wants p list) list)) tt)

  fits : KeysFit p plan.table
  fits = subst (KeysFit p) (sym is_plan.table) (table_fits p sound list (wants p list) plan.slots)

  function : IsIdBelow b 1
  function = (omega arith, omega (arith, holds.types))

  void : IsIdBelow b 2
  void = (omega arith, omega (arith, holds.types))

  function_type : IsIdBelow b 3
  function_type = (omega arith, holds.types)

  head_formed : AreFormed b (head p v plan)
  head_formed =
      let ids = interface_ids b v (table_from plan) plan.table holds.table in
      let short = short_interface p sound v (table_from plan) plan.table distinct fits in
      (capability_formed b 1, (model_formed b 0 1, (entry_formed b 1 (interface v (table_from plan) plan.table) function ids short, (size_formed b p.local (omega (arith, holds.types)) sound.local.three, tt))))

  sites_formed : AreFormed b (names 0 list)
  sites_formed =
      names_formed b 0 list (λ k lt. (let same : k ≡ 0 + k = omega arith in subst (λ j. IsIdBelow b (site_label j)) same (holds.sites k lt)))

  -- what is declared has an id
  known : (g : Global) → has_key plan.table g ≡ true → IsIdBelow b (global_id plan g)
  known g h = holds.table (index_of plan.table g) (key_below plan.table g h)

  table_formed : AreFormed b (declarations p (global_id plan) (table_from plan) plan.table)
  table_formed =
      declarations_formed b p (global_id plan) plan.table known (table_from plan) plan.table holds.table (λ k g e. is_plan.serves.closed g (there k g e))
    where
      there : (k : ℕ) (g : Global) → slice_get plan.table k ≡ Some g → has_key plan.table g ≡ true
      there k g e = has_at plan.table k g (global_self g) e

  opening_formed : AreFormed b (opening plan (root_of list))
  opening_formed =
      (function_formed b 2 1 0 3 void function function_type, (label_formed b (opening_label (root_of list)) holds.opens, slots_formed b p (global_id plan) plan.table known (slots_from plan) plan.slots holds.slots is_plan.serves.variables))

  pub frame_formed : AreFormed b (frame p list at v plan)
  frame_formed =
      join b (head p v plan) _ head_formed (join b (names 0 list) _ sites_formed (join b (decorations p at (table_from plan) plan.table) _ (decorations_formed b p at (table_from plan) plan.table holds.table) (void_formed b 2 void, (function_type_formed b 3 2 function_type void, join b (declarations p (global_id plan) (table_from plan) plan.table) (opening plan (root_of list)) table_formed opening_formed))))

pub closing_formed : (b : ℕ) → AreFormed b closing
closing_formed b = (return_formed b, (end_formed b, tt))
