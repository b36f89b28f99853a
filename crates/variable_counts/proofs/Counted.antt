-- The Function variables of a module are those of its plan.
use Rattle.std.proofs.Common.{◌≡◌, ℕ, suc, ◌+◌, ◌<◌, Bool, true, false, cond, List, [], ◌∷◌, ◌++◌, length, refl, sym, ap, ◌∙◌, subst, arith, append-nil}
use Rattle.std.proofs.lemmas.List.Sums.{sum_by-cons}
use Rattle.std.specs.Prelude.{count_by, nat_eq, ◌==◌, ◌&&◌, if◌then◌else◌}
use Rattle.dxil_form.specs.declared.program.Program.{Program}
use Rattle.dxil_form.specs.declared.region.Region.{Region}
use Rattle.dxil_form.specs.Wired.{Wired}
use Rattle.spv_form.specs.declared.module.Inst.{Inst}
use Rattle.spv_form.specs.declared.module.Version.{Version}
use Rattle.spv_ids.specs.Roles.{operand}
use Rattle.id_rules.specs.Uses.{is_function_variable}
use Rattle.spirv_meaning.specs.Bindings.{Bindings}
use Rattle.spirv_code.specs.declared.key.Sort.TheVariants as sort
use Rattle.spirv_code.specs.declared.key.Global.{Global}
use Rattle.spirv_code.specs.declared.key.Global.TheVariants.{Plain, Pointer, Number, Truth, Input, Buffer, Shared}
use Rattle.spirv_code.specs.declared.key.Slot.{Slot}
use Rattle.spirv_code.specs.Keys.{storage_class}
use Rattle.spirv_code.specs.Plans.{Plan, inst, slots_from, table_from, global_id}
use Rattle.spirv_code.specs.Trees.{root_of}
use Rattle.spirv_code.specs.Frame.{rowed, buffer_storage, words_declaration, declaration, declarations, names, slot_variables, insts_of}
use Rattle.frame_facts.specs.Inner.{Owns}
use Rattle.frame_facts.proofs.Searches.{each_weaker, if_not}
use Rattle.frame_facts.proofs.Spread.{body, decs, variables, names_each}
use Rattle.frame_facts.proofs.Wiring.{root_owned}
use Rattle.module_form.specs.Form.{gather}
use Rattle.module_form.proofs.Gathered.{gather_none, apart_by, is_decoration, decorations_each, is_inner, gather_spread, body_each}

-- the instruction, if it is such a variable
abbrev chosen : Inst → List Inst
chosen x = if is_function_variable x then x ∷ [] else []

counted : (xs : List Inst) → count_by is_function_variable xs ≡ length (gather chosen xs)
counted [] = refl
counted (x ∷ xs) =
    let sum = sum_by-cons (λ y. cond (is_function_variable y) 1 0) x xs in
    let rest = counted xs in
    let here = by_test (is_function_variable x) in
    omega (arith, sum, rest, here)
  where
    by_test : (b : Bool) → length ((if b then x ∷ [] else []) ++ gather chosen xs) ≡ cond b 1 0 + length (gather chosen xs)
    by_test true = omega arith
    by_test false = omega arith

other : (x : Inst) → nat_eq x.opcode 59 ≡ false → chosen x ≡ []
other x e = if_not (is_function_variable x) (ap (λ b. b && operand x 2 == 7) e) (x ∷ []) []

slots_count : (ids : Global → ℕ) (n : ℕ) (slots : List Slot) → length (gather chosen (slot_variables ids n slots)) ≡ length slots
slots_count ids n [] = refl
slots_count ids n (s ∷ slots) = ap suc (slots_count ids (suc n) slots)

words_other : (p : Program) (ids : Global → ℕ) (n r : ℕ) (b : Bool) → chosen (words_declaration p ids n b r) ≡ []
words_other p ids n r true = refl
words_other p ids n r false = refl

buffer_other : (ids : Global → ℕ) (n r : ℕ) (b : Bool) → chosen (inst 59 (ids (Pointer (buffer_storage b) (sort.Block r)) ∷ n ∷ storage_class (buffer_storage b) ∷ [])) ≡ []
buffer_other ids n r true = refl
buffer_other ids n r false = refl

key_other : (p : Program) (ids : Global → ℕ) (n : ℕ) (g : Global) → chosen (declaration p ids n g) ≡ []
key_other p ids n (Plain sort.Int) = refl
key_other p ids n (Plain sort.Bool) = refl
key_other p ids n (Plain sort.Triple) = refl
key_other p ids n (Plain sort.Row) = refl
key_other p ids n (Plain (sort.Words r)) = words_other p ids n r (rowed p r)
key_other p ids n (Plain (sort.Block r)) = refl
key_other p ids n (Plain (sort.Array a)) = refl
key_other p ids n (Pointer s to) = refl
key_other p ids n (Number x) = refl
key_other p ids n (Truth true) = refl
key_other p ids n (Truth false) = refl
key_other p ids n (Input b) = refl
key_other p ids n (Buffer r) = buffer_other ids n r (rowed p r)
key_other p ids n (Shared a) = refl

table_other : (p : Program) (ids : Global → ℕ) (n : ℕ) (table : List Global) → gather chosen (declarations p ids n table) ≡ []
table_other p ids n [] = refl
table_other p ids n (g ∷ table) = ap (λ xs. xs ++ gather chosen (declarations p ids (suc n) table)) (key_other p ids n g) ∙ table_other p ids (suc n) table

module _ (p : Program) (list : List Region) (at : Bindings) (v : Version) (plan : Plan) (w : Wired p list) (regions : plan.regions ≡ length list) where
  owned : Owns (λ r. r < plan.regions) (root_of list)
  owned = subst (λ n. Owns (λ r. r < n) (root_of list)) (sym regions) (root_owned p list w)

  no_names : gather chosen (names 0 list) ≡ []
  no_names = gather_none chosen (names 0 list) (names_each p list at v plan 0 list (λ i. chosen i ≡ []) (λ operands. refl))

  no_decorations : gather chosen (decs p list at v plan) ≡ []
  no_decorations =
      gather_none chosen (decs p list at v plan) (each_weaker (λ i. is_decoration i.opcode ≡ true) (λ i. chosen i ≡ []) (λ i t. other i (apart_by is_decoration i.opcode 59 t refl)) (decs p list at v plan) (decorations_each p at (table_from plan) plan.table))

  no_body : gather chosen (body p list at v plan) ≡ []
  no_body =
      gather_none chosen (body p list at v plan) (each_weaker (λ i. is_inner i.opcode ≡ true) (λ i. chosen i ≡ []) (λ i t. other i (apart_by is_inner i.opcode 59 t refl)) (body p list at v plan) (body_each p list at v plan owned))

  pub variables_are : count_by is_function_variable (insts_of p list at v plan) ≡ length plan.slots
  variables_are =
      counted (insts_of p list at v plan)
      ∙ ap (λ (xs : List Inst). length xs) (gather_spread p list at v plan chosen [] [] [] (gather chosen (variables p list at v plan)) [] no_names no_decorations (table_other p (global_id plan) (table_from plan) plan.table) refl no_body ∙ append-nil (gather chosen (variables p list at v plan)))
      ∙ slots_count (global_id plan) (slots_from plan) plan.slots
