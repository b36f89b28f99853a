-- How much a module takes, by the tree of its regions, their names, its table and its variables.
use Rattle.std.proofs.Common.{◌≡◌, ℕ, zero, suc, ◌+◌, ◌*◌, ◌/◌, ◌%◌, ◌≤◌, Bool, true, false, List, [], ◌∷◌, ◌++◌, length, Option, Some, None, refl, ap, ◌∙◌, arith}
use Rattle.std.specs.Prelude.{slice_get, nat_lt, if◌then◌else◌}
use Rattle.dxil_form.specs.declared.program.Class.{Class}
use Rattle.dxil_form.specs.declared.program.Class.TheVariants.{Srv, Uav, Cbv}
use Rattle.dxil_form.specs.declared.program.Resource.{Resource}
use Rattle.dxil_form.specs.declared.program.Program.{Program}
use Rattle.dxil_form.specs.declared.region.Region.{Region}
use Rattle.dxil_form.specs.declared.region.Region.TheVariants as region
use Rattle.spv_form.specs.declared.module.Inst.{Inst}
use Rattle.spv_form.specs.declared.module.Version.{Version}
use Rattle.spv_form.specs.declared.module.Version.TheVariants.{V13, V16}
use Rattle.spirv_meaning.specs.Bindings.{Bindings}
use Rattle.spirv_meaning.specs.Names.{text_words, digits, block_text, block_name}
use Rattle.spirv_code.specs.declared.key.Sort.TheVariants as sort
use Rattle.spirv_code.specs.declared.key.Global.{Global}
use Rattle.spirv_code.specs.declared.key.Global.TheVariants.{Plain, Pointer, Number, Truth, Input, Buffer, Shared}
use Rattle.spirv_code.specs.declared.key.Slot.{Slot}
use Rattle.spirv_code.specs.Plans.{Plan, slots_from, table_from, global_id, context_of}
use Rattle.spirv_code.specs.Trees.{Tree, label_at, begins_plainly, root_of}
use Rattle.spirv_code.specs.Leaves.{followed}
use Rattle.spirv_code.specs.Rows.{onwards, row_code}
use Rattle.spirv_code.specs.Frame.{rowed, words_declaration, declaration, declarations, read_only, read_only_of, decorations_of, decorations, name_of, names, is_listed, interface, slot_variables, head, opening, function_types, frame, body_code, closing, insts_of}
use Rattle.module_sizes.specs.Sizes.{Measure, amount, size}
use Rattle.module_sizes.proofs.Totals.{total, times}
use Rattle.module_sizes.proofs.Common.{extra, weight}
use Rattle.module_sizes.proofs.Reading.{size_append}
use Rattle.module_sizes.proofs.Exits.{amount_sum, extra_sum}
use Rattle.module_sizes.proofs.Rows.{LeafFits, takes, row_fits}
use Rattle.module_sizes.proofs.Regions.{further_most}

pub amount_up : (m : Measure) (a b : ℕ) → a ≤ b → amount m a ≤ amount m b
amount_up Measure.Places a b h = omega arith
amount_up Measure.Words a b h = omega (arith, h)

-- ---- names of blocks

digits_few : (most n : ℕ) (after : List ℕ) → length (digits most n after) ≤ most + length after
digits_few zero n after = omega arith
digits_few (suc most) n after = by_test (nat_lt n 10) (digits_few most (n / 10) ((48 + n % 10) ∷ after))
  where
    by_test : (b : Bool) → length (digits most (n / 10) ((48 + n % 10) ∷ after)) ≤ most + suc (length after) → length (if b then (48 + n) ∷ after else digits most (n / 10) ((48 + n % 10) ∷ after)) ≤ suc most + length after
    by_test true ih = omega arith
    by_test false ih = omega (arith, ih)

text_few : (text : List ℕ) → 4 * length (text_words text) ≤ 4 + length text
text_few [] = omega arith
text_few (a ∷ []) = omega arith
text_few (a ∷ b ∷ []) = omega arith
text_few (a ∷ b ∷ c ∷ []) = omega arith
text_few (a ∷ b ∷ c ∷ d ∷ rest) = let ih = text_few rest in omega (arith, ih)

name_short : (k : ℕ) → length (block_name k) ≤ 3
name_short k =
    let few : length (block_text k) ≤ 11 = omega (arith, digits_few 10 k []) in
    let words = text_few (block_text k) in
    omega (arith, few, words)

-- the number of the block for which a region runs
abbrev pub number_most : Measure → Region → ℕ
number_most m (region.Leaf b) = 0
number_most m (region.Then first second target) = amount m 3
number_most m (region.Loop body head) = amount m 3
number_most m (region.Dispatch arms) = 0
number_most m (region.Arms first arms) = 0

name_fits : (m : Measure) (r : ℕ) (x : Region) → size m (name_of r x) + number_most m x ≤ further_most m x
name_fits m r (region.Leaf b) =
    let short = name_short b in
    let up = amount_up m (suc (length (block_name b))) 4 (omega (arith, short)) in
    omega (arith, up)
name_fits m r (region.Then first second target) = omega arith
name_fits m r (region.Loop body head) = omega arith
name_fits m r (region.Dispatch arms) = omega arith
name_fits m r (region.Arms first arms) = omega arith

pub names_fit : (m : Measure) (r : ℕ) (list : List Region) → size m (names r list) + total (number_most m) list ≤ total (further_most m) list
names_fit m r [] = omega arith
names_fit m r (x ∷ list) =
    let both = size_append m (name_of r x) (names (suc r) list) in
    let here = name_fits m r x in
    let rest = names_fit m (suc r) list in
    omega (arith, both, here, rest)

-- ---- what is declared

-- a variable that the entry point lists
abbrev listed_most : Measure → Global → ℕ
listed_most m (Plain s) = 0
listed_most m (Pointer s to) = 0
listed_most m (Number n) = 0
listed_most m (Truth b) = 0
listed_most m (Input b) = extra m 1
listed_most m (Buffer r) = extra m 1
listed_most m (Shared a) = extra m 1

listed_fits : (m : Measure) (v : Version) (g : Global) → is_listed v g ≡ true → extra m 1 ≤ listed_most m g
listed_fits m v (Input b) e = omega arith
listed_fits m v (Buffer r) e = omega arith
listed_fits m v (Shared a) e = omega arith
listed_fits m V13 (Plain s) e = absurd (cc)
listed_fits m V16 (Plain s) e = absurd (cc)
listed_fits m V13 (Pointer s to) e = absurd (cc)
listed_fits m V16 (Pointer s to) e = absurd (cc)
listed_fits m V13 (Number n) e = absurd (cc)
listed_fits m V16 (Number n) e = absurd (cc)
listed_fits m V13 (Truth b) e = absurd (cc)
listed_fits m V16 (Truth b) e = absurd (cc)

module _ (p : Program) (m : Measure) (ids : Global → ℕ) where
  words_fit : (id r : ℕ) (b : Bool) → amount m (length (words_declaration p ids id b r).operands) ≤ amount m 3
  words_fit id r true = omega arith
  words_fit id r false = amount_up m 2 3 (omega arith)

  truth_fits : (id : ℕ) (b : Bool) → amount m (length (declaration p ids id (Truth b)).operands) ≤ amount m 3
  truth_fits id true = amount_up m 2 3 (omega arith)
  truth_fits id false = amount_up m 2 3 (omega arith)

  read_only_fits : (id : ℕ) (o : Option Resource) → size m (read_only_of id o) ≤ amount m 3
  read_only_fits id None = omega arith
  read_only_fits id (Some resource) = by_class resource.class
    where
      by_class : (class : Class) → size m (read_only id class) ≤ amount m 3
      by_class Srv = let h = amount_up m 2 3 (omega arith) in omega (arith, h)
      by_class Uav = omega arith
      by_class Cbv = omega arith

  -- the declaration of a key, its decorations, and its place in the interface
  key_fits : (at : Bindings) (id k : ℕ) (g : Global) → amount m (length (declaration p ids id g).operands) + size m (decorations_of p at k g) + listed_most m g ≤ weight m g
  key_fits at id k (Plain sort.Int) = omega arith
  key_fits at id k (Plain sort.Bool) = let h = amount_up m 1 3 (omega arith) in omega (arith, h)
  key_fits at id k (Plain sort.Triple) = omega arith
  key_fits at id k (Plain sort.Row) = omega arith
  key_fits at id k (Plain (sort.Words r)) = let h = words_fit id r (rowed p r) in omega (arith, h)
  key_fits at id k (Plain (sort.Block r)) = omega arith
  key_fits at id k (Plain (sort.Array a)) = omega arith
  key_fits at id k (Pointer s to) = omega arith
  key_fits at id k (Number n) = omega arith
  key_fits at id k (Truth b) = let h = truth_fits id b in omega (arith, h)
  key_fits at id k (Input b) = omega arith
  key_fits at id k (Buffer r) = let h = read_only_fits k (slice_get p.resources r) in omega (arith, h)
  key_fits at id k (Shared a) = omega arith

  listed : (v : Version) (l : ℕ) (g : Global) (table : List Global) → extra m (length (interface v l (g ∷ table))) ≤ listed_most m g + extra m (length (interface v (suc l) table))
  listed v l g table = by_test (is_listed v g) refl
    where
      by_test : (b : Bool) → is_listed v g ≡ b → extra m (length (if b then l ∷ interface v (suc l) table else interface v (suc l) table)) ≤ listed_most m g + extra m (length (interface v (suc l) table))
      by_test true e =
          let one = listed_fits m v g e in
          let long : suc (length (interface v (suc l) table)) ≡ 1 + length (interface v (suc l) table) = omega arith in
          let sum : extra m (suc (length (interface v (suc l) table))) ≡ extra m 1 + extra m (length (interface v (suc l) table)) = ap (extra m) long ∙ extra_sum m 1 (length (interface v (suc l) table)) in
          omega (arith, one, sum)
      by_test false e = omega arith

  interface_none : (v : Version) (l : ℕ) → extra m (length (interface v l [])) ≡ 0
  interface_none v l = by_measure m
    where
      by_measure : (m : Measure) → extra m 0 ≡ 0
      by_measure Measure.Places = refl
      by_measure Measure.Words = refl

  pub declared_fit : (at : Bindings) (v : Version) (n k l : ℕ) (table : List Global) → size m (declarations p ids n table) + size m (decorations p at k table) + extra m (length (interface v l table)) ≤ total (weight m) table
  declared_fit at v n k l [] = let none = interface_none v l in omega (arith, none)
  declared_fit at v n k l (g ∷ table) =
      let both = size_append m (decorations_of p at k g) (decorations p at (suc k) table) in
      let here = key_fits at n k g in
      let list = listed v l g table in
      let rest = declared_fit at v (suc n) (suc k) (suc l) table in
      omega (arith, both, here, list, rest)

slots_take : (m : Measure) (ids : Global → ℕ) (n : ℕ) (slots : List Slot) → size m (slot_variables ids n slots) ≡ times (length slots) (amount m 4)
slots_take m ids n [] = refl
slots_take m ids n (s ∷ slots) = ap (λ k. amount m 4 + k) (slots_take m ids (suc n) slots)

-- ---- the module

-- what is there in each
abbrev pub frame_most : Measure → ℕ
frame_most m =
    amount m 1 + amount m 2 + amount m 4 + amount m 5 + (amount m 1 + amount m 2) + (amount m 4 + amount m 1) + (amount m 1 + amount m 1) + (amount m 0 + amount m 0)

module _ (p : Program) (m : Measure) (list : List Region) (at : Bindings) (v : Version) (plan : Plan) (f : ℕ → ℕ) (leaf : LeafFits m (context_of p plan) f) where
  abbrev listed_ids : List ℕ
  listed_ids = interface v (table_from plan) plan.table

  head_fits : length p.local ≡ 3 → size m (head p v plan) ≡ amount m 1 + amount m 2 + (amount m 4 + extra m (length listed_ids)) + amount m 5
  head_fits three =
      let long : suc (suc (suc (suc (length listed_ids)))) ≡ 4 + length listed_ids = omega arith in
      let one : amount m (suc (suc (suc (suc (length listed_ids))))) ≡ amount m 4 + extra m (length listed_ids) = ap (amount m) long ∙ amount_sum m 4 (length listed_ids) in
      let two : amount m (suc (suc (length p.local))) ≡ amount m 5 = ap (λ n. amount m (suc (suc n))) three in
      let e : amount m 1 + (amount m 2 + (amount m (suc (suc (suc (suc (length listed_ids))))) + (amount m (suc (suc (length p.local))) + 0))) ≡ amount m 1 + amount m 2 + (amount m 4 + extra m (length listed_ids)) + amount m 5 = omega (arith, one, two) in
      e

  body_fits : (tree : Tree) (place : ℕ) → size m (body_code p plan tree place) ≤ amount m 1 + amount m 1 + takes m f tree
  body_fits tree place = by_test (begins_plainly tree)
    where
      by_test : (b : Bool) → size m (if b then row_code (context_of p plan) place tree else followed place (onwards (label_at tree)) (λ q. row_code (context_of p plan) q tree)) ≤ amount m 1 + amount m 1 + takes m f tree
      by_test true = let h = row_fits m (context_of p plan) f leaf tree place in omega (arith, h)
      by_test false =
          let front : List Inst = onwards (label_at tree) in
          let both = size_append m front (row_code (context_of p plan) (place + length front) tree) in
          let h = row_fits m (context_of p plan) f leaf tree (place + length front) in
          omega (arith, both, h)

  pub module_fits : length p.local ≡ 3 → size m (insts_of p list at v plan) ≤ frame_most m + (takes m f (root_of list) + size m (names 0 list)) + total (weight m) plan.table + times (length plan.slots) (amount m 4)
  module_fits three =
      let ids : Global → ℕ = global_id plan in
      let tree : Tree = root_of list in
      let front : List Inst = frame p list at v plan in
      let body : List Inst = body_code p plan tree (length front) in
      let decls : List Inst = declarations p ids (table_from plan) plan.table in
      let decs : List Inst = decorations p at (table_from plan) plan.table in
      let opens : List Inst = opening plan tree in
      let a = size_append m front (body ++ closing) in
      let b = size_append m body closing in
      let c = size_append m (head p v plan) (names 0 list ++ (decs ++ (function_types ++ (decls ++ opens)))) in
      let d = size_append m (names 0 list) (decs ++ (function_types ++ (decls ++ opens))) in
      let e = size_append m decs (function_types ++ (decls ++ opens)) in
      let g = size_append m decls opens in
      let heads = head_fits three in
      let bodies = body_fits tree (length front) in
      let declared = declared_fit p m ids at v (table_from plan) (table_from plan) (table_from plan) plan.table in
      let slots = slots_take m ids (slots_from plan) plan.slots in
      omega (arith, a, b, c, d, e, g, heads, bodies, declared, slots)
