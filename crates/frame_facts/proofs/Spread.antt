-- The pieces of a module, one behind another, and what is declared in it.
use Rattle.std.proofs.Common.{◌≡◌, ◌⊎◌, inl, inr, ⊎_elim, ℕ, suc, ◌+◌, ◌<◌, ◌≤◌, Bool, true, false, List, [], ◌∷◌, ◌++◌, length, Some, None, refl, sym, ap, ◌∙◌, arith, append_assoc, ne_eqb}
use Rattle.std.specs.Prelude.{slice_get, nat_eq, nat_le, if◌then◌else◌, ◌&&◌, ◌||◌}
use Rattle.dxil_form.specs.declared.program.Program.{Program}
use Rattle.dxil_form.specs.declared.region.Region.{Region}
use Rattle.dxil_form.specs.declared.region.Region.TheVariants as region
use Rattle.spv_form.specs.declared.module.Inst.{Inst}
use Rattle.spv_form.specs.declared.module.Version.{Version}
use Rattle.spirv_meaning.specs.Names.{is_some_at}
use Rattle.spirv_meaning.specs.Bindings.{Bindings}
use Rattle.spirv_meaning.specs.Target.{result_of, declared, fixed_value}
use Rattle.spirv_code.specs.declared.key.Global.{Global}
use Rattle.spirv_code.specs.declared.key.Slot.{Slot}
use Rattle.spirv_code.specs.Keys.{index_of, has_key}
use Rattle.spirv_code.specs.Plans.{Plan, Context, inst, label, first_label, result, slots_from, table_from, global_id, context_of}
use Rattle.spirv_code.specs.Leaves.{followed}
use Rattle.spirv_code.specs.Exits.{label_inst}
use Rattle.spirv_code.specs.Trees.{Tree, label_at, begins_plainly, place_of, root_of}
use Rattle.spirv_code.specs.Rows.{onwards, row_code}
use Rattle.spirv_code.specs.Frame.{declaration, declarations, decorations, name_of, names, head, opening_label, opening, frame, body_code, closing, insts_of, slot_variable, slot_variables}
use Rattle.frame_facts.specs.Inner.{is_plain, Inner, plain, own, of_region, AreInner, Owns}
use Rattle.frame_facts.proofs.Searches.{Each, each_append, each_weaker, if_not, DeclaresNot, declared_skip}
use Rattle.frame_facts.proofs.Tables.{key_stands}
use Rattle.frame_facts.proofs.Declarations.{own_result, declared_at, declarations_apart, slot_at, slots_apart, IsRemark, decorations_remarks}
use Rattle.frame_facts.proofs.InnerRows.{IsLabelOf, label_owned, place_owned, label_inner, row_inner, followed_inner}

-- ---- what an instruction of the body is not

plain_big : (opcode : ℕ) → is_plain opcode ≡ true → 60 < opcode
plain_big opcode e = grind arith

-- an instruction of the body declares nothing, or is a label
pub data Declares_label (i : Inst) : Type 0 where
  nothing : result_of i ≡ None → Declares_label i
  a_label : (id : ℕ) → i ≡ label_inst id → Declares_label i

no_result : (i : Inst) → is_plain i.opcode ≡ true → result_of i ≡ None
no_result i e =
    let big = plain_big i.opcode e in
    let low : (nat_le i.opcode 33 && nat_le 19 i.opcode || nat_eq i.opcode 248) ≡ false = below i.opcode e in
    let high : (nat_eq i.opcode 41 || nat_eq i.opcode 42 || nat_eq i.opcode 43 || nat_eq i.opcode 59) ≡ false = others i.opcode e in
    if_not _ low _ _ ∙ if_not _ high _ _
  where
    below : (n : ℕ) → is_plain n ≡ true → (nat_le n 33 && nat_le 19 n || nat_eq n 248) ≡ false
    below n e = grind arith

    others : (n : ℕ) → is_plain n ≡ true → (nat_eq n 41 || nat_eq n 42 || nat_eq n 43 || nat_eq n 59) ≡ false
    others n e = grind arith

pub inner_declares : (c : Context) (M : ℕ → Type 0) (place : ℕ) (i : Inst) → Inner c M place i → Declares_label i
inner_declares c M place i (plain e) = nothing (no_result i e)
inner_declares c M place i (own e) = a_label (result c place) e
inner_declares c M place i (of_region r kind mine few e) = a_label (label r kind) e

-- what a search for a declaration finds in the body
pub body_declares : (c : Context) (M : ℕ → Type 0) (place : ℕ) (code rest : List Inst) (id : ℕ) → AreInner c M place code → fixed_value (declared rest id) id ≡ None → fixed_value (declared (code ++ rest) id) id ≡ None
body_declares c M place [] rest id h e = e
body_declares c M place (i ∷ code) rest id h e =
    by_inst (inner_declares c M place i h.0) (is_some_at (result_of i) id) refl (body_declares c M (place + 1) code rest id h.1 e)
  where
    by_inst : Declares_label i → (b : Bool) → is_some_at (result_of i) id ≡ b → fixed_value (declared (code ++ rest) id) id ≡ None → fixed_value (if b then Some i else declared (code ++ rest) id) id ≡ None
    by_inst x false t ih = ih
    by_inst (nothing none) true t ih =
        absurd (let clash : false ≡ true = sym (ap (λ o. is_some_at o id) none) ∙ t in grind arith)
    by_inst (a_label x is) true t ih = ap (λ j. fixed_value (Some j) id) is

-- ---- the pieces

module _ (p : Program) (list : List Region) (at : Bindings) (v : Version) (plan : Plan) where
  abbrev pub ids : Global → ℕ
  ids = global_id plan

  abbrev pub tree : Tree
  tree = root_of list

  abbrev pub body : List Inst
  body = body_code p plan tree (length (frame p list at v plan))

  abbrev pub ending : List Inst
  ending = body ++ closing

  abbrev pub decs : List Inst
  decs = decorations p at (table_from plan) plan.table

  abbrev pub decls : List Inst
  decls = declarations p ids (table_from plan) plan.table

  abbrev pub variables : List Inst
  variables = slot_variables ids (slots_from plan) plan.slots

  -- each piece, with all that is behind it
  abbrev pub from_slots : List Inst
  from_slots = variables ++ ending

  abbrev pub from_function : List Inst
  from_function = inst 54 (2 ∷ 1 ∷ 0 ∷ 3 ∷ []) ∷ label_inst (opening_label tree) ∷ from_slots

  abbrev pub from_types : List Inst
  from_types = inst 19 (2 ∷ []) ∷ inst 33 (3 ∷ 2 ∷ []) ∷ (decls ++ from_function)

  abbrev pub from_names : List Inst
  from_names = names 0 list ++ (decs ++ from_types)

  abbrev pub spread : List Inst
  spread = head p v plan ++ from_names

  pub is_spread : insts_of p list at v plan ≡ spread
  is_spread =
      let three = append_assoc decls (opening plan tree) ending in
      let two = append_assoc decs (inst 19 (2 ∷ []) ∷ inst 33 (3 ∷ 2 ∷ []) ∷ (decls ++ opening plan tree)) ending in
      let one = append_assoc (names 0 list) (decs ++ (inst 19 (2 ∷ []) ∷ inst 33 (3 ∷ 2 ∷ []) ∷ (decls ++ opening plan tree))) ending in
      ap (λ xs. head p v plan ++ xs) (one ∙ ap (λ xs. names 0 list ++ xs) (two ∙ ap (λ xs. decs ++ (inst 19 (2 ∷ []) ∷ inst 33 (3 ∷ 2 ∷ []) ∷ xs)) three))

  -- ---- names

  name_remarks : (n : ℕ) (x : Region) (P : Inst → Type 0) → ((operands : List ℕ) → P (inst 5 operands)) → Each P (name_of n x)
  name_remarks n (region.Leaf b) P h = (h _, tt)
  name_remarks n (region.Then first second target) P h = tt
  name_remarks n (region.Loop inner entry) P h = tt
  name_remarks n (region.Dispatch arms) P h = tt
  name_remarks n (region.Arms first arms) P h = tt

  pub names_each : (n : ℕ) (xs : List Region) (P : Inst → Type 0) → ((operands : List ℕ) → P (inst 5 operands)) → Each P (names n xs)
  names_each n [] P h = tt
  names_each n (x ∷ xs) P h = each_append P (name_of n x) (names (suc n) xs) (name_remarks n x P h) (names_each (suc n) xs P h)

  -- ---- what is declared

  remark_declares : (id : ℕ) (i : Inst) → result_of i ≡ None → DeclaresNot id i
  remark_declares id i h = ap (λ o. is_some_at o id) h

  -- down to the types
  to_types : (id : ℕ) → 3 < id → declared (insts_of p list at v plan) id ≡ declared (decls ++ from_function) id
  to_types id big =
      ap (λ xs. declared xs id) is_spread ∙ declared_skip id (names 0 list) (decs ++ from_types) (names_each 0 list (DeclaresNot id) (λ operands. refl)) ∙ declared_skip id decs from_types (each_weaker IsRemark (DeclaresNot id) (λ i h. remark_declares id i h.no_result) decs (decorations_remarks p at (table_from plan) plan.table)) ∙ if_not (nat_eq 2 id) (ne_eqb 2 id (λ e. omega arith)) _ _ ∙ if_not (nat_eq 3 id) (ne_eqb 3 id (λ e. omega arith)) _ _

  pub declared_global : (g : Global) → has_key plan.table g ≡ true → declared (insts_of p list at v plan) (ids g) ≡ Some (declaration p ids (ids g) g)
  declared_global g h =
      to_types (ids g) (omega arith) ∙ declared_at p ids (table_from plan) plan.table (index_of plan.table g) g from_function (key_stands plan.table g h)

  -- what comes behind the ids of the table
  abbrev pub top : ℕ
  top = table_from plan + length plan.table

  -- down to the function: the ids between those of the labels and those of the table are of its variables
  to_function : (id : ℕ) → 3 < id → (id < table_from plan) ⊎ (top ≤ id) → declared (insts_of p list at v plan) id ≡ declared from_function id
  to_function id big out = to_types id big ∙ declared_skip id decls from_function (apart out)
    where
      below : (n : ℕ) (table : List Global) → id < n → Each (DeclaresNot id) (declarations p ids n table)
      below n [] h = tt
      below n (g ∷ table) h = (differs n g h, below (suc n) table (omega arith))
        where
          differs : (n : ℕ) (g : Global) → id < n → DeclaresNot id (declaration p ids n g)
          differs n g h = ap (λ o. is_some_at o id) (own_result p ids n g) ∙ ne_eqb n id (λ e. omega arith)

      apart : (id < table_from plan) ⊎ (top ≤ id) → Each (DeclaresNot id) decls
      apart out = ⊎_elim (λ less. below (table_from plan) plan.table less) (λ more. declarations_apart p ids (table_from plan) plan.table id more) out

  -- the label of the function's first block is one of a region
  pub opening_owned : (M : ℕ → Type 0) → Owns M tree → IsLabelOf M (opening_label tree)
  opening_owned M h = by_test (begins_plainly tree)
    where
      by_test : (b : Bool) → IsLabelOf M (if b then label_at tree else first_label (place_of tree))
      by_test true = label_owned M tree h
      by_test false =
          let seven : 7 < 8 = omega arith in
          record { region = place_of tree; kind = 7; mine = place_owned M tree h; few = seven; is = refl }

  pub label_below : (id : ℕ) → IsLabelOf (λ r. r < plan.regions) id → id < slots_from plan
  label_below id h =
      let mine : h.region < plan.regions = h.mine in
      omega (arith, h.is, mine, h.few)

  -- what the body is made of
  pub body_inner : (M : ℕ → Type 0) → Owns M tree → AreInner (context_of p plan) M (length (frame p list at v plan)) body
  body_inner M h = by_test (begins_plainly tree)
    where
      n : ℕ
      n = length (frame p list at v plan)

      by_test : (b : Bool) → AreInner (context_of p plan) M n (if b then row_code (context_of p plan) n tree else followed n (onwards (label_at tree)) (λ q. row_code (context_of p plan) q tree))
      by_test true = row_inner (context_of p plan) M tree n h
      by_test false =
          followed_inner (context_of p plan) M n (onwards (label_at tree)) (λ q. row_code (context_of p plan) q tree) (plain refl, (label_inner (context_of p plan) M (n + 1) (label_at tree) (label_owned M tree h), tt)) (row_inner (context_of p plan) M tree (n + length (onwards (label_at tree))) h)

  module _ (mine : Owns (λ r. r < plan.regions) (root_of list)) where
    first_below : opening_label tree < slots_from plan
    first_below = label_below (opening_label tree) (opening_owned (λ r. r < plan.regions) mine)

    -- past the label of the function's first block
    to_slots : (id : ℕ) → slots_from plan ≤ id → declared from_function id ≡ declared from_slots id
    to_slots id big =
        if_not (nat_eq (opening_label tree) id) (ne_eqb (opening_label tree) id (λ e. omega (arith, first_below, e))) _ _

    pub declared_slot : (k : ℕ) (s : Slot) → k < length plan.slots → slice_get plan.slots k ≡ Some s → declared (insts_of p list at v plan) (slots_from plan + k) ≡ Some (slot_variable ids (slots_from plan + k) s)
    declared_slot k s few h =
        to_function (slots_from plan + k) (omega arith) (inl (omega (arith, few))) ∙ to_slots (slots_from plan + k) (omega arith) ∙ slot_at ids (slots_from plan) plan.slots k s ending h

    -- nothing beyond the ids of the table has a value
    pub fixed_beyond : (id : ℕ) → top ≤ id → fixed_value (declared (insts_of p list at v plan) id) id ≡ None
    fixed_beyond id far =
        let found = to_function id (omega (arith, far)) (inr far) ∙ to_slots id (omega (arith, far)) ∙ declared_skip id variables ending (slots_apart ids (slots_from plan) plan.slots id (omega (arith, far))) in
        ap (λ o. fixed_value o id) found ∙ body_declares (context_of p plan) (λ r. r < plan.regions) (length (frame p list at v plan)) body closing id (body_inner (λ r. r < plan.regions) mine) refl
