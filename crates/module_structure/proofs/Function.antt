-- The function of a module is a row between its label and its return.
use Rattle.std.proofs.Common.{◌≡◌, ℕ, suc, ◌+◌, ◌<◌, ◌≤◌, Bool, true, false, List, [], ◌∷◌, ◌++◌, length, append_assoc, Option, Some, None, refl, sym, ap, ◌∙◌, subst, arith}
use Rattle.std.specs.Prelude.{slice_get, if◌then◌else◌}
use Rattle.dx_base.specs.First.{IsSound}
use Rattle.dxil_form.specs.declared.program.Class.{Class}
use Rattle.dxil_form.specs.declared.program.Class.TheVariants.{Srv, Uav, Cbv}
use Rattle.dxil_form.specs.declared.program.Resource.{Resource}
use Rattle.dxil_form.specs.declared.program.Program.{Program}
use Rattle.dxil_form.specs.declared.region.Region.{Region}
use Rattle.dxil_form.specs.declared.region.Region.TheVariants as region
use Rattle.dxil_form.specs.Wired.{Wired}
use Rattle.spv_form.specs.declared.module.Inst.{Inst}
use Rattle.spv_form.specs.declared.module.Version.{Version}
use Rattle.flow_rules.specs.Rules.{Broken}
use Rattle.flow_blocks.specs.Numbered.{blocks_of}
use Rattle.spirv_meaning.specs.Bindings.{Bindings}
use Rattle.spirv_code.specs.declared.key.Sort.TheVariants as sort
use Rattle.spirv_code.specs.declared.key.Global.{Global}
use Rattle.spirv_code.specs.declared.key.Global.TheVariants.{Plain, Pointer, Number, Truth, Input, Buffer, Shared}
use Rattle.spirv_code.specs.declared.key.Slot.{Slot}
use Rattle.spirv_code.specs.Plans.{Plan, Context, context_of, inst, table_from, slots_from, global_id}
use Rattle.spirv_code.specs.Trees.{Tree, label_at, begins_plainly, root_of}
use Rattle.spirv_code.specs.Rows.{onwards, row_code}
use Rattle.spirv_code.specs.Frame.{rowed, words_declaration, declaration, declarations, read_only, read_only_of, decorations_of, decorations, name_of, names, slot_variables, head, opening_label, opening, function_types, frame, body_code, closing, insts_of, module_of}
use Rattle.frame_facts.proofs.Regions.{once}
use Rattle.written_rows.specs.Code.{label_inst, AreInner, labels, RowCode}
use Rattle.written_rows.specs.Laws.{EachOnce}
use Rattle.written_rows.proofs.Steps.{get_front, get_past}
use Rattle.written_rows.proofs.Function.{broken_none}
use Rattle.module_structure.proofs.Inner.{inner_append}
use Rattle.module_structure.proofs.Tails.{Tail, inner_tail, tail_then, tail_onward, row_of}
use Rattle.module_structure.proofs.Trees.{is_loop, row_is, plain_tail}
use Rattle.module_structure.proofs.Wiring.{root_fits}
use Rattle.module_structure.proofs.Labelled.{row_ids, LabelsOnce, each_once}
use Rattle.module_structure.specs.Depth.{depth_of}
use Rattle.module_structure.specs.Laws.{ModulesKeepStructure}

-- ---- no label stands before the function

declaration_low : (p : Program) (ids : Global → ℕ) (id : ℕ) (g : Global) → (declaration p ids id g).opcode < 246
declaration_low p ids id (Plain sort.Int) = omega arith
declaration_low p ids id (Plain sort.Bool) = omega arith
declaration_low p ids id (Plain sort.Triple) = omega arith
declaration_low p ids id (Plain sort.Row) = omega arith
declaration_low p ids id (Plain (sort.Words r)) = by_rows (rowed p r)
  where
    by_rows : (b : Bool) → (words_declaration p ids id b r).opcode < 246
    by_rows true = omega arith
    by_rows false = omega arith
declaration_low p ids id (Plain (sort.Block r)) = omega arith
declaration_low p ids id (Plain (sort.Array a)) = omega arith
declaration_low p ids id (Pointer s to) = omega arith
declaration_low p ids id (Number n) = omega arith
declaration_low p ids id (Truth true) = omega arith
declaration_low p ids id (Truth false) = omega arith
declaration_low p ids id (Input b) = omega arith
declaration_low p ids id (Buffer r) = omega arith
declaration_low p ids id (Shared a) = omega arith

declarations_low : (p : Program) (ids : Global → ℕ) (n : ℕ) (table : List Global) → AreInner (declarations p ids n table)
declarations_low p ids n [] = tt
declarations_low p ids n (g ∷ table) = (declaration_low p ids n g, declarations_low p ids (suc n) table)

read_only_low : (id : ℕ) (o : Option Resource) → AreInner (read_only_of id o)
read_only_low id None = tt
read_only_low id (Some resource) = by_class resource.class
  where
    by_class : (class : Class) → AreInner (read_only id class)
    by_class Srv = (omega arith, tt)
    by_class Uav = tt
    by_class Cbv = tt

decorated_low : (p : Program) (at : Bindings) (id : ℕ) (g : Global) → AreInner (decorations_of p at id g)
decorated_low p at id (Plain sort.Int) = tt
decorated_low p at id (Plain sort.Bool) = tt
decorated_low p at id (Plain sort.Triple) = tt
decorated_low p at id (Plain sort.Row) = tt
decorated_low p at id (Plain (sort.Words r)) = (omega arith, tt)
decorated_low p at id (Plain (sort.Block r)) = (omega arith, (omega arith, tt))
decorated_low p at id (Plain (sort.Array a)) = tt
decorated_low p at id (Pointer s to) = tt
decorated_low p at id (Number n) = tt
decorated_low p at id (Truth b) = tt
decorated_low p at id (Input b) = (omega arith, tt)
decorated_low p at id (Buffer r) = (omega arith, (omega arith, read_only_low id (slice_get p.resources r)))
decorated_low p at id (Shared a) = tt

decorations_low : (p : Program) (at : Bindings) (n : ℕ) (table : List Global) → AreInner (decorations p at n table)
decorations_low p at n [] = tt
decorations_low p at n (g ∷ table) =
    inner_append (decorations_of p at n g) (decorations p at (suc n) table) (decorated_low p at n g) (decorations_low p at (suc n) table)

name_low : (r : ℕ) (x : Region) → AreInner (name_of r x)
name_low r (region.Leaf b) = (omega arith, tt)
name_low r (region.Then first second target) = tt
name_low r (region.Loop body head) = tt
name_low r (region.Dispatch arms) = tt
name_low r (region.Arms first arms) = tt

names_low : (r : ℕ) (list : List Region) → AreInner (names r list)
names_low r [] = tt
names_low r (x ∷ list) = inner_append (name_of r x) (names (suc r) list) (name_low r x) (names_low (suc r) list)

pub slots_low : (ids : Global → ℕ) (n : ℕ) (slots : List Slot) → AreInner (slot_variables ids n slots)
slots_low ids n [] = tt
slots_low ids n (s ∷ slots) = (omega arith, slots_low ids (suc n) slots)

-- the end of a list, behind one more list before it
nest : (a b c d : List Inst) → b ≡ c ++ d → a ++ b ≡ (a ++ c) ++ d
nest a b c d e = ap (λ is. a ++ is) e ∙ sym (append_assoc a c d)

module _ (p : Program) (list : List Region) (at : Bindings) (v : Version) (plan : Plan) (w : Wired p list) (regions : plan.regions ≡ length list) where
  abbrev c : Context
  c = context_of p plan

  abbrev tree : Tree
  tree = root_of list

  abbrev pub label : ℕ
  label = opening_label tree

  abbrev pub slots : List Inst
  slots = slot_variables (global_id plan) (slots_from plan) plan.slots

  abbrev pub place : ℕ
  place = length (frame p list at v plan)

  abbrev pub body : List Inst
  body = body_code p plan tree place

  abbrev declared : List Inst
  declared = declarations p (global_id plan) (table_from plan) plan.table

  abbrev decorated : List Inst
  decorated = decorations p at (table_from plan) plan.table

  abbrev function : List Inst
  function = inst 54 (2 ∷ 1 ∷ 0 ∷ 3 ∷ []) ∷ []

  abbrev pub front : List Inst
  front = head p v plan ++ (names 0 list ++ (decorated ++ (function_types ++ (declared ++ function))))

  pub front_low : AreInner front
  front_low =
      inner_append (head p v plan) _ (omega arith, (omega arith, (omega arith, (omega arith, tt)))) (inner_append (names 0 list) _ (names_low 0 list) (inner_append decorated _ (decorations_low p at (table_from plan) plan.table) (inner_append function_types (declared ++ function) (omega arith, (omega arith, tt)) (inner_append declared function (declarations_low p (global_id plan) (table_from plan) plan.table) (omega arith, tt)))))

  frame_is : frame p list at v plan ≡ front ++ (label_inst label ∷ slots)
  frame_is =
      let rest : List Inst = label_inst label ∷ slots in
      let five = nest declared (opening plan tree) function rest refl in
      let four = nest function_types (declared ++ opening plan tree) (declared ++ function) rest five in
      let three = nest decorated (function_types ++ (declared ++ opening plan tree)) (function_types ++ (declared ++ function)) rest four in
      let two = nest (names 0 list) (decorated ++ (function_types ++ (declared ++ opening plan tree))) (decorated ++ (function_types ++ (declared ++ function))) rest three in
      nest (head p v plan) (names 0 list ++ (decorated ++ (function_types ++ (declared ++ opening plan tree)))) (names 0 list ++ (decorated ++ (function_types ++ (declared ++ function)))) rest two

  pub insts_are : insts_of p list at v plan ≡ front ++ (label_inst label ∷ ((slots ++ body) ++ closing))
  insts_are =
      ap (λ is. is ++ (body ++ closing)) frame_is ∙ append_assoc front (label_inst label ∷ slots) (body ++ closing) ∙ ap (λ is. front ++ (label_inst label ∷ is)) (sym (append_assoc slots body closing))

  body_tail : (d : ℕ) → depth_of tree ≤ d → (b : Bool) → begins_plainly tree ≡ b → Tail d (if b then row_code c place tree else (onwards (label_at tree) ++ row_code c (place + length (onwards (label_at tree))) tree))
  body_tail d low true plain = plain_tail c d tree (root_fits p list plan w) low plain place
  body_tail d low false plain =
      let q = place + length (onwards (label_at tree)) in
      tail_onward d (is_loop tree) (label_at tree) (row_code c q tree) (row_is c d tree (root_fits p list plan w) low q)

  pub row : (d : ℕ) → depth_of tree ≤ d → RowCode d false label (slots ++ body)
  row d low =
      row_of d label (slots ++ body) (tail_then d slots body (inner_tail d slots (slots_low (global_id plan) (slots_from plan) plan.slots)) (body_tail d low (begins_plainly tree) refl))

  abbrev pub deepest : ℕ
  deepest = depth_of tree

  pub itself : depth_of tree ≤ deepest
  itself = omega arith

  -- ---- labels

  function_once : LabelsOnce (label_inst label ∷ (slots ++ body))
  function_once j k id x y ex ey hx hy =
      let n = length front in
      let same = once p list at v plan w regions (n + j) (n + k) id x y (there j x ex) (there k y ey) hx hy in
      omega (arith, same)
    where
      there : (i : ℕ) (z : Inst) → slice_get (label_inst label ∷ (slots ++ body)) i ≡ Some z → slice_get (insts_of p list at v plan) (length front + i) ≡ Some z
      there i z e =
          ap (λ is. slice_get is (length front + i)) insts_are ∙ get_past front (label_inst label ∷ ((slots ++ body) ++ closing)) i ∙ get_front (label_inst label ∷ (slots ++ body)) closing i z e

  pub labels_once : EachOnce (label ∷ labels (slots ++ body))
  labels_once =
      each_once (label_inst label ∷ (slots ++ body)) ((λ e. refl), row_ids deepest false label (slots ++ body) (row deepest itself)) function_once

  pub kept : IsSound (Broken (blocks_of (module_of p list at v plan).insts))
  kept =
      subst (λ is. IsSound (Broken (blocks_of is))) (sym insts_are) (broken_none deepest front (slots ++ body) (inst 56 [] ∷ []) label front_low (row deepest itself) (omega arith, tt) labels_once)

pub keeps_structure : ModulesKeepStructure
keeps_structure p list at v plan w regions = kept p list at v plan w regions
