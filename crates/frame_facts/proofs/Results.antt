-- The result of an instruction is declared nowhere: no instruction before the body has one, and there is an id for each of them behind those of the table.
use Rattle.std.proofs.Common.{◌≡◌, ⊎_elim, ℕ, suc, ◌+◌, ◌<◌, ◌≤◌, Bool, true, false, List, [], ◌∷◌, ◌++◌, length, Option, Some, None, refl, sym, ap, ◌∙◌, arith, length-append}
use Rattle.std.specs.Prelude.{slice_get}
use Rattle.dxil_form.specs.declared.program.Class.{Class}
use Rattle.dxil_form.specs.declared.program.Class.TheVariants.{Srv, Uav, Cbv}
use Rattle.dxil_form.specs.declared.program.Resource.{Resource}
use Rattle.dxil_form.specs.declared.program.Program.{Program}
use Rattle.dxil_form.specs.declared.region.Region.{Region}
use Rattle.spv_form.specs.declared.module.Inst.{Inst}
use Rattle.spv_form.specs.declared.module.Version.{Version}
use Rattle.spirv_meaning.specs.Bindings.{Bindings}
use Rattle.spirv_meaning.specs.Target.{Kind, kind_of, declared, fixed_value}
use Rattle.spirv_code.specs.declared.key.Sort.TheVariants as sort
use Rattle.spirv_code.specs.declared.key.Global.{Global}
use Rattle.spirv_code.specs.declared.key.Global.TheVariants.{Plain, Pointer, Number, Truth, Input, Buffer, Shared}
use Rattle.spirv_code.specs.declared.key.Slot.{Slot}
use Rattle.spirv_code.specs.Plans.{Plan, slots_from, table_from, results_from}
use Rattle.spirv_code.specs.Trees.{root_of}
use Rattle.spirv_code.specs.Frame.{rowed, words_declaration, declaration, declarations, read_only, read_only_of, decorations_of, decorations, names, head, function_types, opening, frame, insts_of, slot_variables}
use Rattle.line_runs.specs.Declared.{gives_result}
use Rattle.frame_facts.specs.Inner.{Owns}
use Rattle.frame_facts.proofs.Searches.{Each, each_append, each_at}
use Rattle.frame_facts.proofs.Spread.{ids, decs, decls, variables, ending, names_each, fixed_beyond}
use Rattle.frame_facts.proofs.Labels.{get_either}

-- ---- what stands before the body has no result

abbrev some_gives : Option Kind → Bool
some_gives None = false
some_gives (Some kind) = gives_result kind

abbrev Silent : Inst → Type 0
Silent i = some_gives (kind_of i.opcode) ≡ false

silent_words : (p : Program) (key : Global → ℕ) (id r : ℕ) (b : Bool) → Silent (words_declaration p key id b r)
silent_words p key id r true = refl
silent_words p key id r false = refl

declaration_silent : (p : Program) (key : Global → ℕ) (id : ℕ) (g : Global) → Silent (declaration p key id g)
declaration_silent p key id (Plain sort.Int) = refl
declaration_silent p key id (Plain sort.Bool) = refl
declaration_silent p key id (Plain sort.Triple) = refl
declaration_silent p key id (Plain sort.Row) = refl
declaration_silent p key id (Plain (sort.Words r)) = silent_words p key id r (rowed p r)
declaration_silent p key id (Plain (sort.Block r)) = refl
declaration_silent p key id (Plain (sort.Array a)) = refl
declaration_silent p key id (Pointer s to) = refl
declaration_silent p key id (Number n) = refl
declaration_silent p key id (Truth true) = refl
declaration_silent p key id (Truth false) = refl
declaration_silent p key id (Input b) = refl
declaration_silent p key id (Buffer r) = refl
declaration_silent p key id (Shared a) = refl

declarations_silent : (p : Program) (key : Global → ℕ) (n : ℕ) (table : List Global) → Each Silent (declarations p key n table)
declarations_silent p key n [] = tt
declarations_silent p key n (g ∷ table) = (declaration_silent p key n g, declarations_silent p key (suc n) table)

read_only_silent : (n : ℕ) (o : Option Resource) → Each Silent (read_only_of n o)
read_only_silent n None = tt
read_only_silent n (Some resource) = by_class resource.class
  where
    by_class : (class : Class) → Each Silent (read_only n class)
    by_class Srv = (refl, tt)
    by_class Uav = tt
    by_class Cbv = tt

decorations_of_silent : (p : Program) (at : Bindings) (n : ℕ) (g : Global) → Each Silent (decorations_of p at n g)
decorations_of_silent p at n (Plain sort.Int) = tt
decorations_of_silent p at n (Plain sort.Bool) = tt
decorations_of_silent p at n (Plain sort.Triple) = tt
decorations_of_silent p at n (Plain sort.Row) = tt
decorations_of_silent p at n (Plain (sort.Words r)) = (refl, tt)
decorations_of_silent p at n (Plain (sort.Block r)) = (refl, (refl, tt))
decorations_of_silent p at n (Plain (sort.Array a)) = tt
decorations_of_silent p at n (Pointer s to) = tt
decorations_of_silent p at n (Number x) = tt
decorations_of_silent p at n (Truth b) = tt
decorations_of_silent p at n (Input b) = (refl, tt)
decorations_of_silent p at n (Buffer r) = (refl, (refl, read_only_silent n (slice_get p.resources r)))
decorations_of_silent p at n (Shared a) = tt

decorations_silent : (p : Program) (at : Bindings) (n : ℕ) (table : List Global) → Each Silent (decorations p at n table)
decorations_silent p at n [] = tt
decorations_silent p at n (g ∷ table) =
    each_append Silent (decorations_of p at n g) (decorations p at (suc n) table) (decorations_of_silent p at n g) (decorations_silent p at (suc n) table)

slots_silent : (key : Global → ℕ) (n : ℕ) (slots : List Slot) → Each Silent (slot_variables key n slots)
slots_silent key n [] = tt
slots_silent key n (s ∷ slots) = (refl, slots_silent key (suc n) slots)

-- ---- how much stands before the body

slots_length : (key : Global → ℕ) (n : ℕ) (slots : List Slot) → length (slot_variables key n slots) ≡ length slots
slots_length key n [] = refl
slots_length key n (s ∷ slots) = ap suc (slots_length key (suc n) slots)

declarations_length : (p : Program) (key : Global → ℕ) (n : ℕ) (table : List Global) → length (declarations p key n table) ≡ length table
declarations_length p key n [] = refl
declarations_length p key n (g ∷ table) = ap suc (declarations_length p key (suc n) table)

module _ (p : Program) (list : List Region) (at : Bindings) (v : Version) (plan : Plan) where
  abbrev from_decls : List Inst
  from_decls = decls p list at v plan ++ opening plan (root_of list)

  abbrev from_decs : List Inst
  from_decs = decs p list at v plan ++ (function_types ++ from_decls)

  -- an instruction stands there for each variable and each declaration
  pub frame_long : length plan.slots + length plan.table ≤ length (frame p list at v plan)
  frame_long =
      let vars = slots_length (ids p list at v plan) (slots_from plan) plan.slots in
      let keys = declarations_length p (ids p list at v plan) (table_from plan) plan.table in
      let four = length-append (decls p list at v plan) (opening plan (root_of list)) in
      let three = length-append (decs p list at v plan) (function_types ++ from_decls) in
      let two = length-append (names 0 list) from_decs in
      let one = length-append (head p v plan) (names 0 list ++ from_decs) in
      omega (arith, vars, keys, four, three, two, one)

  frame_silent : Each Silent (frame p list at v plan)
  frame_silent =
      let opens : Each Silent (opening plan (root_of list)) = (refl, (refl, slots_silent (ids p list at v plan) (slots_from plan) plan.slots)) in
      let types : Each Silent from_decls = each_append Silent (decls p list at v plan) (opening plan (root_of list)) (declarations_silent p (ids p list at v plan) (table_from plan) plan.table) opens in
      let rest : Each Silent from_decs = each_append Silent (decs p list at v plan) _ (decorations_silent p at (table_from plan) plan.table) (refl, (refl, types)) in
      (refl, (refl, (refl, (refl, each_append Silent (names 0 list) _ (names_each p list at v plan 0 list Silent (λ operands. refl)) rest))))

  -- so an instruction with a result stands in the body
  pub in_body : (place : ℕ) (i : Inst) (kind : Kind) → slice_get (insts_of p list at v plan) place ≡ Some i → kind_of i.opcode ≡ Some kind → gives_result kind ≡ true → length (frame p list at v plan) ≤ place
  in_body place i kind here known gives =
      ⊎_elim (λ f. absurd (before f)) (λ r. omega (arith, r.1)) (get_either (frame p list at v plan) (ending p list at v plan) place i here)
    where
      before : slice_get (frame p list at v plan) place ≡ Some i → ⊥
      before f =
          let none = each_at Silent (frame p list at v plan) place i frame_silent f in
          let clash : true ≡ false = sym gives ∙ sym (ap some_gives known) ∙ none in
          absurd (cc)

  pub fixed_result : Owns (λ r. r < plan.regions) (root_of list) → (place : ℕ) (i : Inst) (kind : Kind) → slice_get (insts_of p list at v plan) place ≡ Some i → kind_of i.opcode ≡ Some kind → gives_result kind ≡ true → fixed_value (declared (insts_of p list at v plan) (results_from plan + place)) (results_from plan + place) ≡ None
  fixed_result mine place i kind here known gives =
      let behind = in_body place i kind here known gives in
      let long = frame_long in
      fixed_beyond p list at v plan mine (results_from plan + place) (omega (arith, behind, long))
