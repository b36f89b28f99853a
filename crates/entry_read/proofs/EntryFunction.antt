-- The entry function has a body, and takes no arguments.
use Rattle.std.proofs.Common.{ℕ, zero, suc, ◌≡◌, ◌+◌, inl, inr, refl, sym, ◌∙◌, ap, arith, List, [], ◌∷◌, ◌++◌, length, map, take, get_or, slice_get, unwrap_or, Option, Some, None, is_some, Bool, true, false, not, nat_le, if◌then◌else◌, ◌==◌, ◌&&◌, ◌||◌, find}
use Rattle.std.specs.List.{list_any, count_by, filter}
use Rattle.std.proofs.lemmas.Bool.{cases_Bool, and_parts, eqb-true}
use Rattle.std.proofs.lemmas.Option.{same_Some}
use Rattle.std.proofs.lemmas.List.Sums.{sum_by-cons}
use Rattle.dx_base.specs.First.{IsSound}
use Rattle.bitstream_spelling.specs.Framed.{bit_of}
use Rattle.bitstream_spelling.specs.declared.item.Item.{Item}
use Rattle.llvm_items.specs.Sites.{Site, sites, is_record_of_module, code_of, fields_of}
use Rattle.llvm_types.specs.declared.kind.LlvmType.{LlvmType}
use Rattle.llvm_types.specs.declared.kind.LlvmType.TheVariants as types
use Rattle.llvm_values.specs.Values.{states_variable, states_function, states_constant, takes_value, has_body as body_stated, is_defined, through, type_behind, value_of, values_from, values_of, variable_of, function_of, constant_of, name_of}
use Rattle.llvm_values.specs.declared.global.Global.{Global}
use Rattle.llvm_values.specs.declared.global.Global.TheVariants.{Variable, Function, Constant}
use Rattle.llvm_bodies.proofs.ListLaws.{count_more}
use Rattle.llvm_records.specs.Facts.{signature_of, params_of, has_body, facts_of}
use Rattle.llvm_nodes.specs.declared.item.Meta.{Meta}
use Rattle.llvm_nodes.specs.declared.item.MetaItem.{MetaItem}
use Rattle.llvm_nodes.specs.declared.item.MetaItem.TheVariants.{Text, Value, Node}
use Rattle.llvm_nodes.specs.declared.item.Named.{Named}
use Rattle.llvm_facts.specs.Module.{Module}
use Rattle.llvm_facts.specs.Values.{item_at, value_of as value_named, body_of, body_at, takes_nothing, is_void, node_by}
use Rattle.llvm_facts.specs.Roots.{has_name, is_formed, names_root, names_entry, first_node}
use Rattle.llvm_facts.specs.Rules.{Broken, entry_points, entry_of}
use Rattle.llvm_facts.specs.declared.roots.Root.TheVariants.{EntryPoints}

-- ---- the function with a body's number

count_cons : {A : Type 0} (p : A → Bool) (x : A) (xs : List A) → count_by p (x ∷ xs) ≡ (if p x then 1 else 0) + count_by p xs
count_cons p x xs = sum_by-cons (λ y. if p y then 1 else 0) x xs

filter_from : {A : Type 0} (p : A → Bool) (xs : List A) (i : ℕ) (x : A) → slice_get xs i ≡ Some x → p x ≡ true → slice_get (filter p xs) (count_by p (take i xs)) ≡ Some x
filter_from p [] i x e t = cc
filter_from p (y ∷ xs) zero x e t = ap (λ b. slice_get (if b then y ∷ filter p xs else filter p xs) 0) (ap p (same_Some y x e) ∙ t) ∙ e
filter_from p (y ∷ xs) (suc i) x e t = by (p y) refl (filter_from p xs i x e t) where
  by : (b : Bool) → p y ≡ b → slice_get (filter p xs) (count_by p (take i xs)) ≡ Some x → slice_get (filter p (y ∷ xs)) (count_by p (y ∷ take i xs)) ≡ Some x
  by true f rest =
      let n : count_by p (y ∷ take i xs) ≡ suc (count_by p (take i xs)) = let c = count_cons p y (take i xs) in let one : ◌≡◌ {A = ℕ} (if p y then 1 else 0) 1 = ap (λ b. if b then 1 else 0) f in omega (arith, c, one) in
      ap (λ b. slice_get (if b then y ∷ filter p xs else filter p xs) (count_by p (y ∷ take i xs))) f ∙ ap (slice_get (y ∷ filter p xs)) n ∙ rest
  by false f rest =
      let n : count_by p (y ∷ take i xs) ≡ count_by p (take i xs) = let c = count_cons p y (take i xs) in let none : ◌≡◌ {A = ℕ} (if p y then 1 else 0) 0 = ap (λ b. if b then 1 else 0) f in omega (arith, c, none) in
      ap (λ b. slice_get (if b then y ∷ filter p xs else filter p xs) (count_by p (y ∷ take i xs))) f ∙ ap (slice_get (filter p xs)) n ∙ rest

variable_no : (all : List LlvmType) (fields : List ℕ) (bit : ℕ) → has_body (variable_of all fields bit) ≡ false
unfolding variable_of
variable_no all fields bit = refl

constant_no : (ty : Option ℕ) (code : ℕ) (fields : List ℕ) (bit : ℕ) → has_body (constant_of ty code fields bit) ≡ false
unfolding constant_of
constant_no ty code fields bit = refl

function_has : (all : List LlvmType) (fields : List ℕ) (bodies : ℕ) (name : List ℕ) (bit : ℕ) → has_body (function_of all fields bodies name bit) ≡ is_defined fields
unfolding function_of
function_has all fields bodies name bit = by (is_defined fields) where
  by : (b : Bool) → has_body (Function (through (slice_get all (get_or fields 0 0)) (get_or fields 0 0)).0 (if b then Some bodies else None) name bit) ≡ b
  by true = refl
  by false = refl

abbrev body_number : Global → Option ℕ
body_number (Function ty body name bit) = body
body_number (Variable ty space init bit) = None
body_number (Constant ty kind bit) = None

variable_number : (all : List LlvmType) (fields : List ℕ) (bit : ℕ) → body_number (variable_of all fields bit) ≡ None
unfolding variable_of
variable_number all fields bit = refl

constant_number : (ty : Option ℕ) (code : ℕ) (fields : List ℕ) (bit : ℕ) → body_number (constant_of ty code fields bit) ≡ None
unfolding constant_of
constant_number ty code fields bit = refl

function_number : (all : List LlvmType) (fields : List ℕ) (bodies : ℕ) (name : List ℕ) (bit : ℕ) → body_number (function_of all fields bodies name bit) ≡ (if is_defined fields then Some bodies else None)
unfolding function_of
function_number all fields bodies name bit = refl

told_number : (g : Global) (ty b : ℕ) (name : List ℕ) (bit : ℕ) → g ≡ Function ty (Some b) name bit → body_number g ≡ Some b
told_number g ty b name bit e = ap body_number e

module _ (is : List Item) (fs : List ℕ) (all : List LlvmType) where
  seven_eight : (s : Site) → states_variable s ≡ true → states_function s ≡ false
  seven_eight s e =
      let c = eqb-true (code_of s.item) 7 (and_parts _ _ e).1 in
      ap (λ n. is_record_of_module s && n == 8) c ∙ and_false (is_record_of_module s) where
        and_false : (b : Bool) → (b && false) ≡ false
        and_false true = refl
        and_false false = refl

  -- a value has a body where its record states one
  body_same : (before : List Site) (s : Site) → has_body (value_of is fs all before s) ≡ body_stated fs s
  body_same before s = by (states_variable s) (states_function s) refl refl where
    by : (b c : Bool) → states_variable s ≡ b → states_function s ≡ c → has_body (value_of is fs all before s) ≡ body_stated fs s
    by true c e f =
        ap (λ k. has_body (if k then variable_of all (fields_of fs s.item) (bit_of s.item) else if states_function s then function_of all (fields_of fs s.item) (count_by (body_stated fs) before) (name_of is fs (count_by takes_value before)) (bit_of s.item) else constant_of (type_behind fs before) (code_of s.item) (fields_of fs s.item) (bit_of s.item))) e
        ∙ variable_no all (fields_of fs s.item) (bit_of s.item) ∙ sym (ap (λ k. k && is_defined (fields_of fs s.item)) (seven_eight s e))
    by false true e f =
        ap (λ k. has_body (if k then variable_of all (fields_of fs s.item) (bit_of s.item) else if states_function s then function_of all (fields_of fs s.item) (count_by (body_stated fs) before) (name_of is fs (count_by takes_value before)) (bit_of s.item) else constant_of (type_behind fs before) (code_of s.item) (fields_of fs s.item) (bit_of s.item))) e
        ∙ ap (λ k. has_body (if k then function_of all (fields_of fs s.item) (count_by (body_stated fs) before) (name_of is fs (count_by takes_value before)) (bit_of s.item) else constant_of (type_behind fs before) (code_of s.item) (fields_of fs s.item) (bit_of s.item))) f
        ∙ function_has all (fields_of fs s.item) (count_by (body_stated fs) before) (name_of is fs (count_by takes_value before)) (bit_of s.item) ∙ sym (ap (λ k. k && is_defined (fields_of fs s.item)) f)
    by false false e f =
        ap (λ k. has_body (if k then variable_of all (fields_of fs s.item) (bit_of s.item) else if states_function s then function_of all (fields_of fs s.item) (count_by (body_stated fs) before) (name_of is fs (count_by takes_value before)) (bit_of s.item) else constant_of (type_behind fs before) (code_of s.item) (fields_of fs s.item) (bit_of s.item))) e
        ∙ ap (λ k. has_body (if k then function_of all (fields_of fs s.item) (count_by (body_stated fs) before) (name_of is fs (count_by takes_value before)) (bit_of s.item) else constant_of (type_behind fs before) (code_of s.item) (fields_of fs s.item) (bit_of s.item))) f
        ∙ constant_no (type_behind fs before) (code_of s.item) (fields_of fs s.item) (bit_of s.item) ∙ sym (ap (λ k. k && is_defined (fields_of fs s.item)) f)

  if_some : (b : Bool) (n k : ℕ) → (if b then Some n else None) ≡ Some k → k ≡ n
  if_some true n k e = sym (same_Some n k e)
  if_some false n k e = cc

  -- its number is that of the bodies before it
  number_here : (before : List Site) (s : Site) (b : ℕ) → body_number (value_of is fs all before s) ≡ Some b → b ≡ count_by (body_stated fs) before
  number_here before s b h = by (states_variable s) (states_function s) refl refl where
    none : None ≡ Some b → b ≡ count_by (body_stated fs) before
    none e = cc

    by : (c d : Bool) → states_variable s ≡ c → states_function s ≡ d → b ≡ count_by (body_stated fs) before
    by true d e f =
        none (sym (variable_number all (fields_of fs s.item) (bit_of s.item))
        ∙ sym (ap (λ k. body_number (if k then variable_of all (fields_of fs s.item) (bit_of s.item) else if states_function s then function_of all (fields_of fs s.item) (count_by (body_stated fs) before) (name_of is fs (count_by takes_value before)) (bit_of s.item) else constant_of (type_behind fs before) (code_of s.item) (fields_of fs s.item) (bit_of s.item))) e) ∙ h)
    by false true e f =
        if_some (is_defined (fields_of fs s.item)) (count_by (body_stated fs) before) b
        (sym (function_number all (fields_of fs s.item) (count_by (body_stated fs) before) (name_of is fs (count_by takes_value before)) (bit_of s.item))
        ∙ sym (ap (λ k. body_number (if k then function_of all (fields_of fs s.item) (count_by (body_stated fs) before) (name_of is fs (count_by takes_value before)) (bit_of s.item) else constant_of (type_behind fs before) (code_of s.item) (fields_of fs s.item) (bit_of s.item))) f)
        ∙ sym (ap (λ k. body_number (if k then variable_of all (fields_of fs s.item) (bit_of s.item) else if states_function s then function_of all (fields_of fs s.item) (count_by (body_stated fs) before) (name_of is fs (count_by takes_value before)) (bit_of s.item) else constant_of (type_behind fs before) (code_of s.item) (fields_of fs s.item) (bit_of s.item))) e) ∙ h)
    by false false e f =
        none (sym (constant_number (type_behind fs before) (code_of s.item) (fields_of fs s.item) (bit_of s.item))
        ∙ sym (ap (λ k. body_number (if k then function_of all (fields_of fs s.item) (count_by (body_stated fs) before) (name_of is fs (count_by takes_value before)) (bit_of s.item) else constant_of (type_behind fs before) (code_of s.item) (fields_of fs s.item) (bit_of s.item))) f)
        ∙ sym (ap (λ k. body_number (if k then variable_of all (fields_of fs s.item) (bit_of s.item) else if states_function s then function_of all (fields_of fs s.item) (count_by (body_stated fs) before) (name_of is fs (count_by takes_value before)) (bit_of s.item) else constant_of (type_behind fs before) (code_of s.item) (fields_of fs s.item) (bit_of s.item))) e) ∙ h)

  -- a function without a record that takes a number has no body
  no_body : (s : Site) → takes_value s ≡ false → body_stated fs s ≡ false
  no_body s e = by (states_variable s) (states_function s) (states_constant s) refl e where
    or_true : (a c : Bool) → (a || true || c) ≡ false → ⊥
    or_true true c g = cc
    or_true false c g = cc

    by : (a b c : Bool) → states_function s ≡ b → (a || b || c) ≡ false → body_stated fs s ≡ false
    by a true c f g = absurd (or_true a c g)
    by a false c f g = ap (λ k. k && is_defined (fields_of fs s.item)) f

  number_at : (before xs : List Site) (i b : ℕ) (g : Global) → slice_get (values_from is fs all before xs) i ≡ Some g → body_number g ≡ Some b
      → b ≡ count_by (body_stated fs) before + count_by has_body (take i (values_from is fs all before xs))
  number_at before [] i b g e h = cc
  number_at before (s ∷ xs) i b g e h = by (takes_value s) refl (λ j q. number_at (before ++ s ∷ []) xs j b g q h) i e where
    more_stated : count_by (body_stated fs) (before ++ s ∷ []) ≡ count_by (body_stated fs) before + (if body_stated fs s then 1 else 0)
    more_stated = count_more (body_stated fs) before s ∙ summed (body_stated fs s) (count_by (body_stated fs) before) where
      summed : (c : Bool) (n : ℕ) → (if c then n + 1 else n) ≡ n + (if c then 1 else 0)
      summed true n = refl
      summed false n = omega arith

    by : (t : Bool) → takes_value s ≡ t
        → ((j : ℕ) → slice_get (values_from is fs all (before ++ s ∷ []) xs) j ≡ Some g → b ≡ count_by (body_stated fs) (before ++ s ∷ []) + count_by has_body (take j (values_from is fs all (before ++ s ∷ []) xs)))
        → (j : ℕ) → slice_get ((if takes_value s then value_of is fs all before s ∷ [] else []) ++ values_from is fs all (before ++ s ∷ []) xs) j ≡ Some g
        → b ≡ count_by (body_stated fs) before + count_by has_body (take j ((if takes_value s then value_of is fs all before s ∷ [] else []) ++ values_from is fs all (before ++ s ∷ []) xs))
    by false f behind j e =
        let r = behind j (sym (ap (λ k. slice_get ((if k then value_of is fs all before s ∷ [] else []) ++ values_from is fs all (before ++ s ∷ []) xs) j) f) ∙ e) in
        let z : ◌≡◌ {A = ℕ} (if body_stated fs s then 1 else 0) 0 = ap (λ c. if c then 1 else 0) (no_body s f) in
        let w = ap (λ k. count_by has_body (take j ((if k then value_of is fs all before s ∷ [] else []) ++ values_from is fs all (before ++ s ∷ []) xs))) f in
        omega (arith, r, z, w, more_stated)
    by true f behind zero e =
        let w = ap (λ k. count_by has_body (take 0 ((if k then value_of is fs all before s ∷ [] else []) ++ values_from is fs all (before ++ s ∷ []) xs))) f in
        let v : value_of is fs all before s ≡ g = same_Some (value_of is fs all before s) g (sym (ap (λ k. slice_get ((if k then value_of is fs all before s ∷ [] else []) ++ values_from is fs all (before ++ s ∷ []) xs) 0) f) ∙ e) in
        let n = number_here before s b (ap body_number v ∙ h) in
        let z : count_by has_body [] ≡ 0 = refl in
        omega (arith, n, w, z)
    by true f behind (suc j) e =
        let r = behind j (sym (ap (λ k. slice_get ((if k then value_of is fs all before s ∷ [] else []) ++ values_from is fs all (before ++ s ∷ []) xs) (suc j)) f) ∙ e) in
        let w = ap (λ k. count_by has_body (take (suc j) ((if k then value_of is fs all before s ∷ [] else []) ++ values_from is fs all (before ++ s ∷ []) xs))) f in
        let c = count_cons has_body (value_of is fs all before s) (take j (values_from is fs all (before ++ s ∷ []) xs)) in
        let z : ◌≡◌ {A = ℕ} (if has_body (value_of is fs all before s) then 1 else 0) (if body_stated fs s then 1 else 0) = ap (λ k. if k then 1 else 0) (body_same before s) in
        omega (arith, r, w, c, z, more_stated)

  -- ---- the arguments of a body

  params_none : (lists : Module) (o : Option LlvmType) → takes_nothing lists o ≡ true → (signature_of all o).params ≡ 0
  params_none lists None e = cc
  params_none lists (Some types.Void) e = cc
  params_none lists (Some types.Float) e = cc
  params_none lists (Some types.Double) e = cc
  params_none lists (Some types.Half) e = cc
  params_none lists (Some types.Label) e = cc
  params_none lists (Some types.Opaque) e = cc
  params_none lists (Some types.Metadata) e = cc
  params_none lists (Some (types.Integer width)) e = cc
  params_none lists (Some (types.Pointer to space)) e = cc
  params_none lists (Some (types.Array count of)) e = cc
  params_none lists (Some (types.Vector count of)) e = cc
  params_none lists (Some (types.Struct fields)) e = cc
  params_none lists (Some (types.Function vararg ret params)) e = eqb-true (length params) 0 (second (not vararg) (length params == 0) (is_void (slice_get lists.types ret)) e) where
    second : (a b c : Bool) → (a && b && c) ≡ true → b ≡ true
    second true true c e = refl
    second true false c e = cc
    second false b c e = cc

  map_from : {A B : Type 0} (f : A → B) (xs : List A) (k : ℕ) (x : A) → slice_get xs k ≡ Some x → slice_get (map f xs) k ≡ Some (f x)
  map_from f [] k x e = cc
  map_from f (w ∷ xs) zero x e = ap (λ v. Some (f v)) (same_Some w x e)
  map_from f (w ∷ xs) (suc k) x e = map_from f xs k x e

  pub no_arguments : (lists : Module) (i ty b : ℕ) (name : List ℕ) (bit : ℕ) → slice_get (values_of is fs all) i ≡ Some (Function ty (Some b) name bit) → takes_nothing lists (slice_get all ty) ≡ true
      → slice_get (facts_of all (values_of is fs all)).arguments b ≡ Some 0
  no_arguments lists i ty b name bit at e =
      let values = values_of is fs all in
      let g = Function ty (Some b) name bit in
      let n = number_at [] (sites is) i b g at (told_number g ty b name bit refl) in
      let z : count_by (body_stated fs) [] ≡ 0 = refl in
      let k : count_by has_body (take i values) ≡ b = omega (arith, n, z) in
      let found = filter_from has_body values i g at refl in
      map_from (params_of all) (filter has_body values) b g (sym (ap (slice_get (filter has_body values)) k) ∙ found) ∙ ap Some (params_none lists (slice_get all ty) e)

-- ---- the entry node

record First {A : Type 0} (p : A → Bool) (xs : List A) : Type 0 where
  i : ℕ
  y : A
  at : slice_get xs i ≡ Some y
  passes : p y ≡ true
  is : find p xs ≡ Some y

find_first : {A : Type 0} (p : A → Bool) (xs : List A) → list_any p xs ≡ true → First p xs
find_first p [] e = cc
find_first {A} p (x ∷ xs) e = by (p x) refl (λ h. find_first p xs h) e where
  by : (b : Bool) → p x ≡ b → (list_any p xs ≡ true → First p xs) → (b || list_any p xs) ≡ true → First p (x ∷ xs)
  by true f r h = record { i = 0; y = x; at = refl; passes = f; is = ap (λ c. if c then Some x else find p xs) f }
  by false f r h = let s = r h in record { i = suc s.i; y = s.y; at = s.at; passes = s.passes; is = ap (λ c. if c then Some x else find p xs) f ∙ s.is }

some_there : {A : Type 0} (o : Option A) → is_some o ≡ true → (x : A) × (o ≡ Some x)
some_there None e = cc
some_there (Some x) e = (x, refl)

module _ (lists : Module) (meta : Meta) (sound : IsSound (Broken lists meta)) where
  entry_named : First (has_name EntryPoints) meta.named
  entry_named = find_first (has_name EntryPoints) meta.named (elim (cases_Bool (list_any (has_name EntryPoints) meta.named)) [
    | inl t ↦ t
    | inr f ↦ absurd (sound.none 6 meta.end (entry_points refl (inl (f, refl))))
  ])

  formed : is_formed lists EntryPoints entry_named.y.nodes ≡ true
  formed = elim (cases_Bool (is_formed lists EntryPoints entry_named.y.nodes)) [
    | inl t ↦ t
    | inr f ↦ absurd (sound.none 6 entry_named.y.bit (entry_points refl (inr (record {
      index = entry_named.i;
      place = entry_named.y;
      stands = entry_named.at;
      at_bit = refl;
      holds = ap (λ b. b && (list_any (has_name EntryPoints) (take entry_named.i meta.named) || not (is_formed lists EntryPoints entry_named.y.nodes))) entry_named.passes
          ∙ ap (λ b. list_any (has_name EntryPoints) (take entry_named.i meta.named) || not b) f ∙ or_yes (list_any (has_name EntryPoints) (take entry_named.i meta.named));
    }))))
  ] where
    or_yes : (b : Bool) → (b || true) ≡ true
    or_yes true = refl
    or_yes false = refl

  of_fields : (o : Option (List ℕ)) → names_entry lists o ≡ true → is_some (body_at lists (get_or (unwrap_or o []) 0 0)) ≡ true
  of_fields None e = cc
  of_fields (Some fields) e = (and_parts (nat_le 5 (length fields)) (is_some (body_at lists (get_or fields 0 0))) e).1

  entry_is : entry_of lists meta ≡ unwrap_or (node_by lists (get_or entry_named.y.nodes 0 0)) []
  entry_is = ap (λ (o : Option Named). unwrap_or (node_by lists (first_node o)) []) entry_named.is

  pub entry_body_of : (b : ℕ) × (body_at lists (get_or (entry_of lists meta) 0 0) ≡ Some b)
  entry_body_of =
      let h = of_fields (node_by lists (get_or entry_named.y.nodes 0 0)) (and_parts (length entry_named.y.nodes == 1) (names_root lists EntryPoints (node_by lists (get_or entry_named.y.nodes 0 0))) formed).1 in
      some_there (body_at lists (get_or (entry_of lists meta) 0 0)) (ap (λ (fields : List ℕ). is_some (body_at lists (get_or fields 0 0))) entry_is ∙ h)

  pub record IsNamed (b : ℕ) : Type 0 where
    pub i : ℕ
    pub ty : ℕ
    pub name : List ℕ
    pub bit : ℕ
    pub at : slice_get lists.values i ≡ Some (Function ty (Some b) name bit)
    pub nothing : takes_nothing lists (slice_get lists.types ty) ≡ true

  by_type : (c : Bool) (body : Option ℕ) (b : ℕ) → (if c then body else None) ≡ Some b → (c ≡ true) × (body ≡ Some b)
  by_type true body b e = (refl, e)
  by_type false body b e = cc

  of_value : (i : ℕ) (o : Option Global) (b : ℕ) → slice_get lists.values i ≡ o → body_of lists o ≡ Some b → IsNamed b
  of_value i None b at e = cc
  of_value i (Some (Variable ty space init bit)) b at e = cc
  of_value i (Some (Constant ty kind bit)) b at e = cc
  of_value i (Some (Function ty body name bit)) b at e =
      let c = by_type (takes_nothing lists (slice_get lists.types ty)) body b e in
      record { i = i; ty = ty; name = name; bit = bit; at = at ∙ ap (λ (o : Option ℕ). Some (Function ty o name bit)) c.1; nothing = c.0 }

  of_item : (o : Option MetaItem) (b : ℕ) → body_of lists (value_named lists o) ≡ Some b → IsNamed b
  of_item None b e = cc
  of_item (Some (Text text)) b e = cc
  of_item (Some (Node ids)) b e = cc
  of_item (Some (Value ty value)) b e = of_value value (slice_get lists.values value) b refl e

  pub entry_function : (field b : ℕ) → body_at lists field ≡ Some b → IsNamed b
  unfolding body_at
  entry_function field b e = of_item (item_at lists field) b e
