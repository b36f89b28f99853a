-- The module of a program keeps the rules V5, V9 and V10.
use Rattle.std.proofs.Common.{◌≡◌, ⊎_elim, ℕ, suc, ◌+◌, ◌<◌, Bool, true, false, not, List, [], ◌∷◌, ◌++◌, length, Some, refl, sym, ap, ◌∙◌, subst, arith, append_assoc}
use Rattle.std.specs.Prelude.{◌==◌, ◌&&◌, ◌||◌, nat_lt, slice_get, option_and_then}
use Rattle.std.specs.List.{list_all}
use Rattle.std.specs.Option.{option_map_or}
use Rattle.dxil_form.specs.declared.program.Program.{Program}
use Rattle.dxil_form.specs.declared.region.Region.{Region}
use Rattle.dxil_form.specs.Wired.{Wired}
use Rattle.spv_form.specs.declared.module.Inst.{Inst}
use Rattle.spv_form.specs.declared.module.Version.{Version}
use Rattle.spv_form.specs.declared.module.Version.TheVariants.{V13, V16}
use Rattle.spv_ids.specs.Roles.{operand}
use Rattle.spv_ids.specs.Places.{is_op}
use Rattle.type_rules.specs.Types.{is_listed}
use Rattle.module_rules.specs.Entry as entry
use Rattle.module_rules.specs.Entry.{is_listed_variable, lists_each_once, is_input, lists_another, is_wrong_interface, is_void_function, function, is_entry, is_wrong_entry}
use Rattle.spirv_meaning.specs.Bindings.{Bindings}
use Rattle.spirv_code.specs.declared.key.Sort.TheVariants as sort
use Rattle.spirv_code.specs.declared.key.Global.{Global}
use Rattle.spirv_code.specs.declared.key.Global.TheVariants.{Plain, Pointer, Number, Truth, Input, Buffer, Shared}
use Rattle.spirv_code.specs.declared.key.Slot.{Slot}
use Rattle.spirv_code.specs.Plans.{Plan, inst, slots_from, table_from, global_id}
use Rattle.spirv_code.specs.Exits.{label_inst}
use Rattle.spirv_code.specs.Trees.{root_of}
use Rattle.spirv_code.specs.Frame.{rowed, words_declaration, head, names, declaration, declarations, slot_variables, interface, entry_point, opening_label, closing, insts_of}
use Rattle.frame_facts.specs.Serves.{Serves}
use Rattle.frame_facts.specs.Inner.{Owns}
use Rattle.frame_facts.proofs.Searches.{Each, each_append, each_weaker, each_at, if_not, get_past}
use Rattle.frame_facts.proofs.Labels.{get_either}
use Rattle.frame_facts.proofs.Spread.{ids, body, ending, decs, decls, variables, from_function, from_types, from_names, is_spread, names_each}
use Rattle.frame_facts.proofs.Wiring.{root_owned}
use Rattle.module_form.proofs.Gathered.{is_inner, is_decoration, decorations_each, body_each}
use Rattle.ruled_ids.proofs.Lists.{position_is}
use Rattle.frame_rules.specs.Laws.{KeepsFrame, ModulesKeepFrames}
use Rattle.frame_rules.proofs.Defined.{defined_as, insts, function_defined, place_defined}
use Rattle.frame_rules.proofs.Types.{void_is, listed_at, function_listed}
use Rattle.frame_rules.proofs.Interfaces.{interface_is, once, other_once, local_once, key_once, all_listed, input_listed}

-- ---- instructions of which nothing is asked

-- no type that must be a listed one, no entry point and no variable
abbrev is_quiet : ℕ → Bool
is_quiet n = nat_lt 33 n && not (n == 59) || n == 5

-- what is asked of each instruction of a module with this list of ids
record Fine (all : List Inst) (v : Version) (listing : List ℕ) (x : Inst) : Type 0 where
  types : is_listed all x ≡ true
  listed : once v listing x ≡ true

-- and of each that is no entry point
record Other (all : List Inst) (v : Version) (listing : List ℕ) (x : Inst) : Type 0 where
  fine : Fine all v listing x
  other : (x.opcode == 15) ≡ false

quiet_fine : (all : List Inst) (v : Version) (listing : List ℕ) (x : Inst) → is_quiet x.opcode ≡ true → Fine all v listing x
unfolding is_listed
quiet_fine all v listing x e =
    record {
      types = if_not _ (no_21 x.opcode e) _ _ ∙ if_not _ (no_23 x.opcode e) _ _ ∙ if_not _ (no_28 x.opcode e) _ _ ∙ if_not _ (no_29 x.opcode e) _ _ ∙ if_not _ (no_30 x.opcode e) _ _ ∙ if_not _ (no_32 x.opcode e) _ _ ∙ if_not _ (no_33 x.opcode e) _ _;
      listed = other_once v listing x (no_59 x.opcode e);
    }
  where
    no_21 : (n : ℕ) → is_quiet n ≡ true → (n == 21) ≡ false
    no_21 n e = grind arith

    no_23 : (n : ℕ) → is_quiet n ≡ true → (n == 23) ≡ false
    no_23 n e = grind arith

    no_28 : (n : ℕ) → is_quiet n ≡ true → (n == 28) ≡ false
    no_28 n e = grind arith

    no_29 : (n : ℕ) → is_quiet n ≡ true → (n == 29) ≡ false
    no_29 n e = grind arith

    no_30 : (n : ℕ) → is_quiet n ≡ true → (n == 30) ≡ false
    no_30 n e = grind arith

    no_32 : (n : ℕ) → is_quiet n ≡ true → (n == 32) ≡ false
    no_32 n e = grind arith

    no_33 : (n : ℕ) → is_quiet n ≡ true → (n == 33) ≡ false
    no_33 n e = grind arith

    no_59 : (n : ℕ) → is_quiet n ≡ true → (n == 59) ≡ false
    no_59 n e = grind arith

quiet : (all : List Inst) (v : Version) (listing : List ℕ) (x : Inst) → is_quiet x.opcode ≡ true → Other all v listing x
quiet all v listing x e = record { fine = quiet_fine all v listing x e; other = no_15 x.opcode e }
  where
    no_15 : (n : ℕ) → is_quiet n ≡ true → (n == 15) ≡ false
    no_15 n e = grind arith

quiet_decoration : (n : ℕ) → is_decoration n ≡ true → is_quiet n ≡ true
quiet_decoration n e = grind arith

quiet_inner : (n : ℕ) → is_inner n ≡ true → is_quiet n ≡ true
quiet_inner n e = grind arith

-- ---- the opcodes of declarations

-- a type, a constant or a variable
abbrev is_key : ℕ → Bool
is_key n = nat_lt 18 n && nat_lt n 44 || n == 59

words_opcode : (p : Program) (key : Global → ℕ) (id r : ℕ) (b : Bool) → is_key (words_declaration p key id b r).opcode ≡ true
words_opcode p key id r true = refl
words_opcode p key id r false = refl

key_opcode : (p : Program) (key : Global → ℕ) (id : ℕ) (g : Global) → is_key (declaration p key id g).opcode ≡ true
key_opcode p key id (Plain sort.Int) = refl
key_opcode p key id (Plain sort.Bool) = refl
key_opcode p key id (Plain sort.Triple) = refl
key_opcode p key id (Plain sort.Row) = refl
key_opcode p key id (Plain (sort.Words r)) = words_opcode p key id r (rowed p r)
key_opcode p key id (Plain (sort.Block r)) = refl
key_opcode p key id (Plain (sort.Array a)) = refl
key_opcode p key id (Pointer s to) = refl
key_opcode p key id (Number n) = refl
key_opcode p key id (Truth true) = refl
key_opcode p key id (Truth false) = refl
key_opcode p key id (Input b) = refl
key_opcode p key id (Buffer r) = refl
key_opcode p key id (Shared a) = refl

keys_opcode : (p : Program) (key : Global → ℕ) (n : ℕ) (table : List Global) → Each (λ x. is_key x.opcode ≡ true) (declarations p key n table)
keys_opcode p key n [] = tt
keys_opcode p key n (g ∷ table) = (key_opcode p key n g, keys_opcode p key (suc n) table)

key_not_entry : (n : ℕ) → is_key n ≡ true → (n == 15) ≡ false
key_not_entry n e = grind arith

key_not_function : (n : ℕ) → is_key n ≡ true → (n == 54) ≡ false
key_not_function n e = grind arith

decoration_not_function : (n : ℕ) → is_decoration n ≡ true → (n == 54) ≡ false
decoration_not_function n e = grind arith

-- ---- what holds of each of a list, as a test

all_pass : (test : Inst → Bool) (xs : List Inst) → Each (λ x. test x ≡ true) xs → list_all test xs ≡ true
all_pass test [] h = refl
all_pass test (x ∷ xs) h = ap (λ b. b && list_all test xs) h.0 ∙ all_pass test xs h.1

-- ---- the module

module _ (p : Program) (list : List Region) (at : Bindings) (v : Version) (plan : Plan) (w : Wired p list) (serves : Serves p list plan) where
  abbrev all : List Inst
  all = insts p list at v plan w serves

  abbrev listing : List ℕ
  listing = interface v (table_from plan) plan.table

  abbrev Good : Inst → Type 0
  Good = Other all v listing

  abbrev begin : Inst
  begin = inst 54 (2 ∷ 1 ∷ 0 ∷ 3 ∷ [])

  abbrev hushed : (x : Inst) → is_quiet x.opcode ≡ true → Good x
  hushed = quiet all v listing

  -- ---- the declarations

  key_good : (k n : ℕ) (g : Global) → n ≡ table_from plan + k → slice_get plan.table k ≡ Some g → Good (declaration p (global_id plan) n g)
  key_good k n g same e =
      record {
        fine = record {
          types = listed_at p list at v plan w serves k n g e;
          listed = subst (λ m. once v listing (declaration p (global_id plan) m g) ≡ true) (sym same) (key_once v p (global_id plan) (table_from plan) plan.table k g e);
        };
        other = key_not_entry (declaration p (global_id plan) n g).opcode (key_opcode p (global_id plan) n g);
      }

  keys_good : (k n : ℕ) (rest : List Global) → n ≡ table_from plan + k → ((j : ℕ) (g : Global) → slice_get rest j ≡ Some g → slice_get plan.table (k + j) ≡ Some g) → Each Good (declarations p (global_id plan) n rest)
  keys_good k n [] same h = tt
  keys_good k n (g ∷ rest) same h =
      let here : k + 0 ≡ k = omega arith in
      let next : suc n ≡ table_from plan + suc k = omega (arith, same) in
      (key_good k n g same (subst (λ i. slice_get plan.table i ≡ Some g) here (h 0 g refl)), keys_good (suc k) (suc n) rest next (λ j x e. let moved : k + suc j ≡ suc k + j = omega arith in subst (λ i. slice_get plan.table i ≡ Some x) moved (h (suc j) x e)))

  decls_good : Each Good (decls p list at v plan)
  decls_good =
      let same : table_from plan ≡ table_from plan + 0 = omega arith in
      keys_good 0 (table_from plan) plan.table same (λ j g e. let here : j ≡ 0 + j = omega arith in subst (λ i. slice_get plan.table i ≡ Some g) here e)

  locals_good : (n : ℕ) (slots : List Slot) → Each Good (slot_variables (global_id plan) n slots)
  unfolding is_listed
  locals_good n [] = tt
  locals_good n (s ∷ slots) = (record { fine = record { types = refl; listed = local_once v listing _ n _ }; other = refl }, locals_good (suc n) slots)

  head_fine : Each (Fine all v listing) (head p v plan)
  unfolding is_listed
  head_fine =
      (record { types = refl; listed = other_once v listing _ refl }, (record { types = refl; listed = other_once v listing _ refl }, (record { types = refl; listed = other_once v listing _ refl }, (record { types = refl; listed = other_once v listing _ refl }, tt))))

  void_good : Good (inst 19 (2 ∷ []))
  unfolding is_listed
  void_good = record { fine = record { types = refl; listed = other_once v listing _ refl }; other = refl }

  function_good : Good (inst 33 (3 ∷ 2 ∷ []))
  function_good = record { fine = record { types = function_listed p list at v plan w serves; listed = other_once v listing _ refl }; other = refl }

  -- ---- all of them

  owned : Owns (λ r. r < plan.regions) (root_of list)
  owned = subst (λ n. Owns (λ r. r < n) (root_of list)) (sym serves.regions) (root_owned p list w)

  names_quiet : Each (λ x. is_quiet x.opcode ≡ true) (names 0 list)
  names_quiet = names_each p list at v plan 0 list (λ x. is_quiet x.opcode ≡ true) (λ operands. refl)

  decs_quiet : Each (λ x. is_quiet x.opcode ≡ true) (decs p list at v plan)
  decs_quiet =
      each_weaker (λ x. is_decoration x.opcode ≡ true) (λ x. is_quiet x.opcode ≡ true) (λ x e. quiet_decoration x.opcode e) (decs p list at v plan) (decorations_each p at (table_from plan) plan.table)

  ending_quiet : Each (λ x. is_quiet x.opcode ≡ true) (ending p list at v plan)
  ending_quiet =
      each_append (λ x. is_quiet x.opcode ≡ true) (body p list at v plan) closing (each_weaker (λ x. is_inner x.opcode ≡ true) (λ x. is_quiet x.opcode ≡ true) (λ x e. quiet_inner x.opcode e) (body p list at v plan) (body_each p list at v plan owned)) (refl, (refl, tt))

  function_on : Each Good (from_function p list at v plan)
  function_on =
      (hushed begin refl, (hushed (label_inst (opening_label (root_of list))) refl, each_append Good (variables p list at v plan) (ending p list at v plan) (locals_good (slots_from plan) plan.slots) (each_weaker (λ x. is_quiet x.opcode ≡ true) Good hushed (ending p list at v plan) ending_quiet)))

  behind_head : Each Good (from_names p list at v plan)
  behind_head =
      each_append Good (names 0 list) (decs p list at v plan ++ from_types p list at v plan) (each_weaker (λ x. is_quiet x.opcode ≡ true) Good hushed (names 0 list) names_quiet) (each_append Good (decs p list at v plan) (from_types p list at v plan) (each_weaker (λ x. is_quiet x.opcode ≡ true) Good hushed (decs p list at v plan) decs_quiet) (void_good, (function_good, each_append Good (decls p list at v plan) (from_function p list at v plan) decls_good function_on)))

  all_fine : Each (Fine all v listing) all
  all_fine =
      subst (Each (Fine all v listing)) (sym (is_spread p list at v plan)) (each_append (Fine all v listing) (head p v plan) (from_names p list at v plan) head_fine (each_weaker Good (Fine all v listing) (λ x h. h.fine) (from_names p list at v plan) behind_head))

  -- ---- the interface

  each_once : lists_each_once v all listing ≡ true
  each_once = all_pass (once v listing) all (each_weaker (Fine all v listing) (λ x. once v listing x ≡ true) (λ x h. h.listed) all all_fine)

-- no other id is listed
no_other : (p : Program) (list : List Region) (at : Bindings) (v : Version) (plan : Plan) (w : Wired p list) (serves : Serves p list plan) → lists_another v (insts_of p list at v plan) (interface v (table_from plan) plan.table) ≡ false
unfolding is_input
no_other p list at V16 plan w serves = refl
no_other p list at V13 plan w serves =
    ap not (all_listed (is_input (insts_of p list at V13 plan)) V13 (table_from plan) plan.table (λ k g e t. defined_as (insts_of p list at V13 plan) (table_from plan + k) _ (is_listed_variable V13) (place_defined p list at V13 plan w serves k g e) (input_listed p (global_id plan) (table_from plan + k) g t)))

-- the first function of a list
first_function : (a : List Inst) (x : Inst) (b : List Inst) → is_op 54 x ≡ true → Each (λ y. is_op 54 y ≡ false) a → function (a ++ x ∷ b) ≡ Some x
first_function a x b t h =
    ap (option_and_then (slice_get (a ++ x ∷ b))) (position_is (is_op 54) (a ++ x ∷ b) (length a) x there t before) ∙ there
  where
    there : slice_get (a ++ x ∷ b) (length a) ≡ Some x
    there =
        let same : length a ≡ length a + 0 = omega arith in
        ap (slice_get (a ++ x ∷ b)) same ∙ get_past a (x ∷ b) 0

    before : (j : ℕ) (y : Inst) → j < length a → slice_get (a ++ x ∷ b) j ≡ Some y → is_op 54 y ≡ false
    before j y less e =
        ⊎_elim (λ f. each_at (λ y. is_op 54 y ≡ false) a j y h f) (λ r. absurd (let far = r.1 in omega (arith, less, far))) (get_either a (x ∷ b) j y e)

-- ---- the entry point

module _ (p : Program) (list : List Region) (at : Bindings) (v : Version) (plan : Plan) (w : Wired p list) (serves : Serves p list plan) where
  abbrev whole : List Inst
  whole = insts_of p list at v plan

  abbrev start : Inst
  start = inst 54 (2 ∷ 1 ∷ 0 ∷ 3 ∷ [])

  abbrev types : List Inst
  types = inst 19 (2 ∷ []) ∷ inst 33 (3 ∷ 2 ∷ []) ∷ decls p list at v plan

  abbrev front : List Inst
  front = head p v plan ++ (names 0 list ++ (decs p list at v plan ++ types))

  front_is : whole ≡ front ++ from_function p list at v plan
  front_is =
      let rest = from_function p list at v plan in
      let three = append_assoc (decs p list at v plan) types rest in
      let two = append_assoc (names 0 list) (decs p list at v plan ++ types) rest in
      is_spread p list at v plan ∙ ap (λ xs. head p v plan ++ xs) (sym (two ∙ ap (λ xs. names 0 list ++ xs) three))

  -- no function stands in front of it
  abbrev Before : Inst → Type 0
  Before x = is_op 54 x ≡ false

  front_before : Each Before front
  front_before =
      (refl, (refl, (refl, (refl, each_append Before (names 0 list) (decs p list at v plan ++ types) (names_each p list at v plan 0 list Before (λ operands. refl)) (each_append Before (decs p list at v plan) types (each_weaker (λ x. is_decoration x.opcode ≡ true) Before (λ x e. decoration_not_function x.opcode e) (decs p list at v plan) (decorations_each p at (table_from plan) plan.table)) (refl, (refl, each_weaker (λ x. is_key x.opcode ≡ true) Before (λ x e. key_not_function x.opcode e) (decls p list at v plan) (keys_opcode p (global_id plan) (table_from plan) plan.table))))))))

  function_is : function whole ≡ Some start
  function_is = ap function front_is ∙ first_function front start _ refl front_before

  void_function : is_void_function whole 3 ≡ true
  unfolding is_void_function
  void_function = defined_as whole 3 (inst 33 (3 ∷ 2 ∷ [])) _ (function_defined p list at v plan w serves) (void_is p list at v plan w serves)

  entry_is : is_entry whole 1 ≡ true
  unfolding is_entry
  entry_is = ap (λ o. option_map_or (λ f. operand f 1 == 1 && is_void_function whole (operand f 3)) o false) function_is ∙ void_function

  entry_right : is_wrong_entry whole (entry_point v plan) ≡ false
  unfolding is_wrong_entry
  entry_right = ap not entry_is

  interface_right : is_wrong_interface v whole (entry_point v plan) ≡ false
  unfolding is_wrong_interface
  interface_right =
      ap (λ ids. not (lists_each_once v whole ids) || lists_another v whole ids) (interface_is v plan) ∙ ap (λ b. not b || lists_another v whole (interface v (table_from plan) plan.table)) (each_once p list at v plan w serves) ∙ no_other p list at v plan w serves

  -- ---- all of them

  record Right (x : Inst) : Type 0 where
    interfaces : is_wrong_interface v whole x ≡ false
    entries : is_wrong_entry whole x ≡ false

  other_right : (x : Inst) → (x.opcode == 15) ≡ false → Right x
  unfolding is_wrong_interface is_wrong_entry
  other_right x e =
      record {
        interfaces = ap (λ b. b && (not (lists_each_once v whole (entry.interface x)) || lists_another v whole (entry.interface x))) e;
        entries = ap (λ b. b && not (is_entry whole (operand x 1))) e;
      }

  all_right : Each Right whole
  all_right =
      subst (Each Right) (sym (is_spread p list at v plan)) (other_right _ refl, (other_right _ refl, (record { interfaces = interface_right; entries = entry_right }, (other_right _ refl, each_weaker (Other whole v (interface v (table_from plan) plan.table)) Right (λ x h. other_right x h.other) (from_names p list at v plan) (behind_head p list at v plan w serves)))))

  keeps_frame : KeepsFrame v whole
  keeps_frame =
      record {
        types = λ j x e. (each_at (Fine whole v (interface v (table_from plan) plan.table)) whole j x (all_fine p list at v plan w serves) e).types;
        interfaces = λ j x e. (each_at Right whole j x all_right e).interfaces;
        entries = λ j x e. (each_at Right whole j x all_right e).entries;
      }

pub modules_keep_frames : ModulesKeepFrames
modules_keep_frames p list at v plan w serves = keeps_frame p list at v plan w serves
