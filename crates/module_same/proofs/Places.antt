-- Where the pieces of a program's module stand: the function, its variables, the code of the regions, and the return.
use Rattle.std.proofs.Common.{◌≡◌, ℕ, zero, suc, ◌+◌, ◌-◌, ◌<◌, true, false, List, [], ◌∷◌, ◌++◌, length, length-append, Some, refl, sym, ap, ◌∙◌, subst, arith}
use Rattle.std.specs.Prelude.{slice_get}
use Rattle.std.proofs.lemmas.List.{append_assoc}
use Rattle.dxil_form.specs.declared.program.Program.{Program}
use Rattle.dxil_form.specs.declared.region.Region.{Region}
use Rattle.spv_form.specs.declared.module.Inst.{Inst}
use Rattle.spv_form.specs.declared.module.Module.{Module}
use Rattle.spv_form.specs.declared.module.Version.{Version}
use Rattle.spirv_meaning.specs.Bindings.{Bindings}
use Rattle.spirv_meaning.specs.Target.{first_of}
use Rattle.spirv_code.specs.declared.key.Global.{Global}
use Rattle.spirv_code.specs.declared.key.Slot.{Slot}
use Rattle.spirv_code.specs.Plans.{Plan, inst, global_id, context_of, first_label, table_from, slots_from}
use Rattle.spirv_code.specs.Trees.{Tree, label_at, begins_plainly, place_of, root_of}
use Rattle.spirv_code.specs.Exits.{label_inst, branch_inst}
use Rattle.spirv_code.specs.Rows.{onwards, row_code}
use Rattle.spirv_code.specs.Frame.{head, names, function_types, opening, opening_label, slot_variables, frame, body_code, closing, insts_of, module_of}
use Rattle.line_runs.specs.Held.{Has}
use Rattle.frame_facts.proofs.Searches.{Each, IsNot, each_append, each_weaker, first_skip, get_past, get_front, if_so, if_not}
use Rattle.frame_facts.proofs.Declarations.{IsQuiet, IsRemark, declarations_quiet, decorations_remarks}
use Rattle.frame_facts.proofs.Spread.{decs, decls, variables, ending, from_slots, from_function, is_spread, names_each}

-- code stands where each of its instructions does
pub has_each : (m : Module) (place : ℕ) (code : List Inst) → ((k : ℕ) (x : Inst) → slice_get code k ≡ Some x → slice_get m.insts (place + k) ≡ Some x) → Has m place code
has_each m place [] each = tt
has_each m place (x ∷ code) each =
    let here : place + 0 ≡ place = omega arith in
    (subst (λ n. slice_get m.insts n ≡ Some x) here (each 0 x refl), has_each m (place + 1) code (λ k y at. (let e : place + suc k ≡ place + 1 + k = omega arith in subst (λ n. slice_get m.insts n ≡ Some y) e (each (suc k) y at))))

-- the variables of the function
variable_at : (ids : Global → ℕ) (n : ℕ) (slots : List Slot) (rest : List Inst) (k : ℕ) → k < length (slot_variables ids n slots) → (operands : List ℕ) × (slice_get (slot_variables ids n slots ++ rest) k ≡ Some (inst 59 operands))
variable_at ids n [] rest k lt = absurd (omega (arith, lt))
variable_at ids n (s ∷ slots) rest zero lt = (_, refl)
variable_at ids n (s ∷ slots) rest (suc k) lt = variable_at ids (suc n) slots rest k (omega (arith, lt))

module _ (p : Program) (list : List Region) (at : Bindings) (v : Version) (plan : Plan) where
  abbrev pub tree : Tree
  tree = root_of list

  -- all before the function
  abbrev pub before : List Inst
  before = head p v plan ++ (names 0 list ++ (decs p list at v plan ++ (function_types ++ decls p list at v plan)))

  abbrev pub all : List Inst
  all = insts_of p list at v plan

  abbrev pub function : ℕ
  function = length before

  -- behind the variables of the function
  abbrev pub body_at : ℕ
  body_at = length (frame p list at v plan)

  abbrev pub body : List Inst
  body = body_code p plan tree body_at

  regroup : (a b c d e x : List Inst) → (a ++ (b ++ (c ++ (d ++ e)))) ++ x ≡ a ++ (b ++ (c ++ (d ++ (e ++ x))))
  regroup a b c d e x = simp append_assoc

  all_is : all ≡ before ++ from_function p list at v plan
  all_is =
      is_spread p list at v plan ∙ sym (regroup (head p v plan) (names 0 list) (decs p list at v plan) function_types (decls p list at v plan) (from_function p list at v plan))

  frame_is : frame p list at v plan ≡ before ++ opening plan tree
  frame_is = sym (regroup (head p v plan) (names 0 list) (decs p list at v plan) function_types (decls p list at v plan) (opening plan tree))

  pub body_behind : body_at ≡ function + 2 + length (variables p list at v plan)
  body_behind =
      let e : body_at ≡ length (before ++ opening plan tree) = ap length frame_is in
      let f : length (before ++ opening plan tree) ≡ function + length (opening plan tree) = length-append before (opening plan tree) in
      omega (arith, e, f)

  -- ---- the function

  quiet_before : Each (IsNot 54) before
  quiet_before =
      let declared = each_weaker IsQuiet (IsNot 54) (λ i q. q.no_function) (decls p list at v plan) (declarations_quiet p (global_id plan) (table_from plan) plan.table) in
      let types : Each (IsNot 54) (function_types ++ decls p list at v plan) = (refl, (refl, declared)) in
      let decorated = each_append (IsNot 54) (decs p list at v plan) _ (each_weaker IsRemark (IsNot 54) (λ i r. r.no_function) (decs p list at v plan) (decorations_remarks p at (table_from plan) plan.table)) types in
      let named = each_append (IsNot 54) (names 0 list) _ (names_each p list at v plan 0 list (IsNot 54) (λ operands. refl)) decorated in
      (refl, (refl, (refl, (refl, named))))

  pub first_is : first_of 54 all ≡ function
  first_is = ap (first_of 54) all_is ∙ first_skip before (label_inst (opening_label tree) ∷ from_slots p list at v plan) quiet_before (2 ∷ 1 ∷ 0 ∷ 3 ∷ [])

  behind_before : (k : ℕ) → slice_get all (function + k) ≡ slice_get (from_function p list at v plan) k
  behind_before k = ap (λ xs. slice_get xs (function + k)) all_is ∙ get_past before (from_function p list at v plan) k

  pub function_at : slice_get all function ≡ Some (inst 54 (2 ∷ 1 ∷ 0 ∷ 3 ∷ []))
  function_at =
      let e : function + 0 ≡ function = omega arith in
      subst (λ n. slice_get all n ≡ Some (inst 54 (2 ∷ 1 ∷ 0 ∷ 3 ∷ []))) e (behind_before 0)

  pub first_label_at : slice_get all (function + 1) ≡ Some (label_inst (opening_label tree))
  first_label_at = behind_before 1

  pub variables_at : (n : ℕ) → function + 1 < n → n < body_at → (operands : List ℕ) × (slice_get all n ≡ Some (inst 59 operands))
  variables_at n from to = by_place (n - (function + 2)) (omega (arith, from))
    where
      by_place : (k : ℕ) → function + suc (suc k) ≡ n → (operands : List ℕ) × (slice_get all n ≡ Some (inst 59 operands))
      by_place k e =
          let lt : k < length (variables p list at v plan) = omega (arith, e, to, body_behind) in
          let w = variable_at (global_id plan) (slots_from plan) plan.slots (ending p list at v plan) k lt in
          (w.0, ap (slice_get all) (sym e) ∙ behind_before (suc (suc k)) ∙ w.1)

  -- ---- the code of the regions

  behind_frame : (k : ℕ) → slice_get all (body_at + k) ≡ slice_get (body ++ closing) k
  behind_frame k = get_past (frame p list at v plan) (body ++ closing) k

  abbrev pub row : ℕ → List Inst
  row place = row_code (context_of p plan) place tree

  body_plain : begins_plainly tree ≡ true → body ≡ row body_at
  body_plain e = if_so (begins_plainly tree) e _ _

  body_other : begins_plainly tree ≡ false → body ≡ onwards (label_at tree) ++ row (body_at + 2)
  body_other e = if_not (begins_plainly tree) e _ _

  returns_at : (place : ℕ) → place ≡ body_at + length body → slice_get all place ≡ Some (inst 253 [])
  returns_at place e =
      let f : length body + 0 ≡ length body = omega arith in
      ap (slice_get all) e ∙ behind_frame (length body) ∙ ap (slice_get (body ++ closing)) (sym f) ∙ get_past body closing 0

  pub row_plain : begins_plainly tree ≡ true → Has (module_of p list at v plan) body_at (row body_at)
  row_plain e = has_each (module_of p list at v plan) body_at (row body_at) (λ k x there. behind_frame k ∙ get_front body closing k x (ap (λ xs. slice_get xs k) (body_plain e) ∙ there))

  pub returns_plain : begins_plainly tree ≡ true → slice_get all (body_at + length (row body_at)) ≡ Some (inst 253 [])
  returns_plain e = returns_at (body_at + length (row body_at)) (ap (λ xs. body_at + length xs) (sym (body_plain e)))

  other_at : begins_plainly tree ≡ false → (k : ℕ) (x : Inst) → slice_get (onwards (label_at tree) ++ row (body_at + 2)) k ≡ Some x → slice_get all (body_at + k) ≡ Some x
  other_at e k x there = behind_frame k ∙ get_front body closing k x (ap (λ xs. slice_get xs k) (body_other e) ∙ there)

  pub branch_at : begins_plainly tree ≡ false → slice_get all body_at ≡ Some (branch_inst (label_at tree))
  branch_at e =
      let f : body_at + 0 ≡ body_at = omega arith in
      ap (slice_get all) (sym f) ∙ other_at e 0 (branch_inst (label_at tree)) refl

  pub root_at : begins_plainly tree ≡ false → slice_get all (body_at + 1) ≡ Some (label_inst (label_at tree))
  root_at e = other_at e 1 (label_inst (label_at tree)) refl

  pub row_other : begins_plainly tree ≡ false → Has (module_of p list at v plan) (body_at + 2) (row (body_at + 2))
  row_other e = has_each (module_of p list at v plan) (body_at + 2) (row (body_at + 2)) (λ k x there. (let f : body_at + suc (suc k) ≡ body_at + 2 + k = omega arith in
      ap (slice_get all) (sym f) ∙ other_at e (suc (suc k)) x there))

  pub returns_other : begins_plainly tree ≡ false → slice_get all (body_at + 2 + length (row (body_at + 2))) ≡ Some (inst 253 [])
  returns_other e =
      let size : length body ≡ length (onwards (label_at tree) ++ row (body_at + 2)) = ap length (body_other e) in
      let two : length (onwards (label_at tree) ++ row (body_at + 2)) ≡ length (onwards (label_at tree)) + length (row (body_at + 2)) = length-append (onwards (label_at tree)) (row (body_at + 2)) in
      returns_at (body_at + 2 + length (row (body_at + 2))) (omega (arith, size, two))

  pub opening_plain : begins_plainly tree ≡ true → opening_label tree ≡ label_at tree
  opening_plain e = if_so (begins_plainly tree) e _ _

  pub opening_other : begins_plainly tree ≡ false → opening_label tree ≡ first_label (place_of tree)
  opening_other e = if_not (begins_plainly tree) e _ _
