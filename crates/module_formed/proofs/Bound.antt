-- The bound of a module that declares something is above the labels of its regions, its variables, its table and the results of its code.
use Rattle.std.proofs.Common.{◌≡◌, ℕ, suc, ◌+◌, ◌≤◌, ◌<◌, false, List, [], ◌∷◌, ◌++◌, length, length-append, refl, sym, ap, subst, arith}
use Rattle.std.specs.Prelude.{if◌then◌else◌}
use Rattle.dxil_form.specs.declared.program.Program.{Program}
use Rattle.dxil_form.specs.declared.region.Region.{Region}
use Rattle.dxil_form.specs.Wired.{Wired}
use Rattle.spv_form.specs.declared.module.Version.{Version}
use Rattle.spv_form.specs.Formed.{IsIdBelow}
use Rattle.spirv_meaning.specs.Bindings.{Bindings}
use Rattle.spirv_code.specs.declared.key.Global.{Global}
use Rattle.spirv_code.specs.declared.key.Slot.{Slot}
use Rattle.spirv_code.specs.Plans.{Plan, slots_from, table_from, results_from, global_id, context_of}
use Rattle.spirv_code.specs.Trees.{root_of, label_at}
use Rattle.spirv_code.specs.Frame.{head, names, decorations, function_types, declarations, slot_variables, opening, opening_label, frame, body_code, closing, insts_of, is_bare, bound_of}
use Rattle.frame_facts.specs.Inner.{Owns}
use Rattle.frame_facts.proofs.InnerRows.{IsLabelOf, label_owned}
use Rattle.frame_facts.proofs.Spread.{opening_owned, label_below}
use Rattle.frame_facts.proofs.Wiring.{root_owned}
use Rattle.formed_lines.specs.Formed.{Upto}
use Rattle.chosen_plan.specs.IsPlan.{IsPlan}
use Rattle.formed_rows.specs.Rowed.{Room}
use Rattle.module_formed.proofs.Framed.{Holds}

declarations_length : (p : Program) (ids : Global → ℕ) (n : ℕ) (table : List Global) → length (declarations p ids n table) ≡ length table
declarations_length p ids n [] = refl
declarations_length p ids n (g ∷ table) = let rest = declarations_length p ids (suc n) table in omega (arith, rest)

slots_length : (ids : Global → ℕ) (n : ℕ) (slots : List Slot) → length (slot_variables ids n slots) ≡ length slots
slots_length ids n [] = refl
slots_length ids n (s ∷ slots) = let rest = slots_length ids (suc n) slots in omega (arith, rest)

module _ (p : Program) (list : List Region) (at : Bindings) (v : Version) (plan : Plan) where
  abbrev pub count : ℕ
  count = length (insts_of p list at v plan)

  -- the variables and the table stand among the instructions
  long : length plan.slots + length plan.table < count
  long =
      let decls = declarations p (global_id plan) (table_from plan) plan.table in
      let opens = opening plan (root_of list) in
      let decs = decorations p at (table_from plan) plan.table in
      let ends = body_code p plan (root_of list) (length (frame p list at v plan)) ++ closing in
      let a = length-append (frame p list at v plan) ends in
      let b = length-append (head p v plan) (names 0 list ++ (decs ++ (function_types ++ (decls ++ opens)))) in
      let c = length-append (names 0 list) (decs ++ (function_types ++ (decls ++ opens))) in
      let d = length-append decs (function_types ++ (decls ++ opens)) in
      let e = length-append decls opens in
      let f = declarations_length p (global_id plan) (table_from plan) plan.table in
      let g = slots_length (global_id plan) (slots_from plan) plan.slots in
      omega (arith, a, b, c, d, e, f, g)

  -- the bound of a module that is not bare
  abbrev pub full : ℕ
  full = results_from plan + count

  pub bound_full : is_bare plan ≡ false → bound_of plan count ≡ full
  bound_full e = ap (λ t. if t then 5 else results_from plan + count) e

  pub room : Room full plan
  room = omega (arith, long)

  pub upto_end : (place : ℕ) → place ≤ count → Upto full (context_of p plan) place
  upto_end place few k lt = (omega arith, omega (arith, few, lt))

  module _ (wired : Wired p list) (is_plan : IsPlan p list plan) where
    owned : Owns (λ r. r < plan.regions) (root_of list)
    owned = subst (λ n. Owns (λ r. r < n) (root_of list)) (sym is_plan.serves.regions) (root_owned p list wired)

    label_there : (id : ℕ) → IsLabelOf (λ r. r < plan.regions) id → IsIdBelow full id
    label_there id h =
        let low = label_below p list at v plan id h in
        (omega (arith, h.is), omega (arith, low, long))

    pub root_label : IsIdBelow full (label_at (root_of list))
    root_label = label_there (label_at (root_of list)) (label_owned (λ r. r < plan.regions) (root_of list) owned)

    pub holds_full : Holds full list plan
    holds_full =
        record {
          types = omega arith;
          sites = λ r lt. (omega arith, omega (arith, lt, long, is_plan.serves.regions));
          opens = label_there (opening_label (root_of list)) (opening_owned p list at v plan (λ r. r < plan.regions) owned);
          slots = λ k lt. (omega arith, omega (arith, lt, long));
          table = λ k lt. (omega arith, omega (arith, lt, long));
        }
