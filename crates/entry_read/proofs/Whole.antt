-- The body of the entry function is as the profile's layer takes it.
use Rattle.std.proofs.Common.{ℕ, zero, suc, ◌≡◌, ◌<◌, ◌≤◌, ◌+◌, ◌-◌, refl, sym, subst, ◌∙◌, ap, arith, List, [], ◌∷◌, length, map, take, get_or, slice_get, unwrap_or, Option, Some, None, Bool, true, false, not, if◌then◌else◌, ◌==◌}
use Rattle.std.specs.List.{count_by}
use Rattle.std.proofs.lemmas.Bool.{or_parts, eqb-true}
use Rattle.std.proofs.lemmas.List.{length-map}
use Rattle.std.proofs.lemmas.List.Sums.{sum_by-cons}
use Rattle.std.proofs.lemmas.Option.{same_Some, slice_get-get_or, slice_get_within, get_or_from_slice_get}
use Rattle.dx_base.specs.First.{IsSound}
use Rattle.dxil_form.specs.Sound.{LocalFits}
use Rattle.bitstream_spelling.specs.Framed.{IsFramed}
use Rattle.bitstream_spelling.specs.declared.item.Item.{Item}
use Rattle.llvm_items.specs.Sites.{Site, sites, code_of, fields_of}
use Rattle.llvm_layout.specs.Table.{rows_of}
use Rattle.llvm_layout.specs.Reads.{HasLayout}
use Rattle.llvm_types.specs.Types.{types_of}
use Rattle.llvm_types.specs.declared.kind.LlvmType.{LlvmType}
use Rattle.llvm_values.specs.Values.{values_of, constant_of}
use Rattle.llvm_values.specs.declared.global.Global.{Global}
use Rattle.llvm_bodies.specs.Lists.{Each, none, more, last_passes}
use Rattle.llvm_bodies.specs.Bodies.{known, around_of, gives, first_number, constants_in, constant_at, ended, IsBody}
use Rattle.llvm_bodies.specs.declared.facts.ModuleFacts.{ModuleFacts}
use Rattle.llvm_bodies.specs.declared.line.Line.{Line}
use Rattle.llvm_bodies.specs.declared.line.Body.{Body}
use Rattle.llvm_records.specs.Facts.{called_by}
use Rattle.llvm_records.specs.Reading.{facts_in}
use Rattle.llvm_facts.specs.Module.{Module}
use Rattle.llvm_facts.specs.Values.{body_at}
use Rattle.llvm_facts.specs.Entry.{local as counts_of}
use Rattle.llvm_facts.specs.Facts.{all_rows}
use Rattle.llvm_facts.specs.Rules.{Broken, entry_of}
use Rattle.llvm_facts.specs.declared.facts.Row.{Row}
use Rattle.llvm_shader.specs.Shader.{IsShader, AreSound, module_with}
use Rattle.llvm_shader.specs.declared.read.Shader.{Shader}
use Rattle.profile_tables.specs.EntryBody.{EntryBody}
use Rattle.profile_tables.specs.Parts.{has_target}
use Rattle.profile_tables.specs.Resources.{class_number}
use Rattle.profile_tables.specs.Read.{IsRead, ends_block, gives_value, is_constant}
use Rattle.entry_read.specs.Entry.{entry_body, body_of}
use Rattle.entry_read.proofs.Lines.{Holds}
use Rattle.entry_read.proofs.Walk.{HasEnded}
use Rattle.entry_read.proofs.Reach.{all_ended, body_count}
use Rattle.entry_read.proofs.Targets.{target_below}
use Rattle.entry_read.proofs.Calls.{given}
use Rattle.entry_read.proofs.EntryFunction.{entry_body_of, entry_function, no_arguments}
use Rattle.entry_read.proofs.Facts.{counts_fit, rows_apart}

-- ---- words

each_get : {A B : Type 0} (R : A → B → Type 0) (xs : List A) (ys : List B) (k : ℕ) (x : A) → Each R xs ys → slice_get xs k ≡ Some x → (y : B) × (slice_get ys k ≡ Some y) × R x y
each_get R [] [] k x none e = cc
each_get R (a ∷ xs) (b ∷ ys) zero x (more r rs) e = (b, refl, subst (λ z. R z b) (same_Some a x e) r)
each_get R (a ∷ xs) (b ∷ ys) (suc k) x (more r rs) e = each_get R xs ys k x rs e
each_get R [] (b ∷ ys) k x d e = elim d [ ]
each_get R (a ∷ xs) [] k x d e = elim d [ ]

map_at : {X Y : Type 0} (f : X → Y) (xs : List X) (k : ℕ) (y : Y) → slice_get (map f xs) k ≡ Some y → (x : X) × (slice_get xs k ≡ Some x) × (f x ≡ y)
map_at f [] k y e = cc
map_at f (x ∷ xs) zero y e = (x, refl, same_Some (f x) y e)
map_at f (x ∷ xs) (suc k) y e = map_at f xs k y e

last_at : {A : Type 0} (p : A → Bool) (xs : List A) (i : ℕ) (x : A) → slice_get xs i ≡ Some x → i + 1 ≡ length xs → last_passes p xs ≡ p x
last_at p [] i x e h = cc
last_at p (y ∷ []) zero x e h = ap p (same_Some y x e)
last_at p (y ∷ []) (suc i) x e h = cc
last_at p (y ∷ z ∷ xs) zero x e h = absurd (let g : 0 + 1 ≡ suc (suc (length xs)) = h in omega (arith, g))
last_at p (y ∷ z ∷ xs) (suc i) x e h = last_at p (z ∷ xs) i x e (let g : suc i + 1 ≡ suc (suc (length xs)) = h in let f : i + 1 ≡ suc (length xs) = omega (arith, g) in f)

some_last : {A : Type 0} (p : A → Bool) (xs : List A) → last_passes p xs ≡ true → 1 ≤ count_by p xs
some_last p [] e = cc
some_last p (x ∷ []) e = let c = sum_by-cons (λ y. if p y then 1 else 0) x [] in let one : ◌≡◌ {A = ℕ} (if p x then 1 else 0) 1 = ap (λ b. if b then 1 else 0) e in omega (arith, c, one)
some_last p (x ∷ y ∷ xs) e = let r = some_last p (y ∷ xs) e in let c = sum_by-cons (λ z. if p z then 1 else 0) x (y ∷ xs) in omega (arith, c, r)

if_some : (b : Bool) (n k : ℕ) → (if b then Some n else None) ≡ Some k → k ≡ n
if_some true n k e = sym (same_Some n k e)
if_some false n k e = cc

negated : (b : Bool) → not b ≡ false → b ≡ true
negated true e = refl
negated false e = cc

constant_is : (ty : Option ℕ) (code : ℕ) (fields : List ℕ) (bit : ℕ) → is_constant (constant_of ty code fields bit) ≡ true
unfolding constant_of
constant_is ty code fields bit = refl

-- ---- a body whose function takes no arguments

module _ (is : List Item) (fs : List ℕ) (b : ℕ) (before : List Site) (body : Body) (none_taken : slice_get (facts_in is fs).arguments b ≡ Some 0) (e : HasEnded (facts_in is fs) fs b before) (is_body : IsBody (facts_in is fs) fs before body)
    (rows : List Row) (counts : List ℕ) where
  abbrev m : ModuleFacts
  m = facts_in is fs

  abbrev all : List LlvmType
  all = types_of is fs

  abbrev values : List Global
  values = values_of is fs all

  abbrev y : EntryBody
  y = record { pool = record { types = all; globals = values; constants = body.constants }; values = body.values; lines = body.lines; blocks = body.blocks; rows = rows }

  abbrev base : ℕ
  base = first_number m ((known m fs before).bodies - 1) + length (constants_in fs before)

  h : Holds m fs (known m fs before) (length (constants_in fs before)) before body.lines
  h = e.inside.all body.lines is_body.lines

  base_is : base ≡ length values + length body.constants
  base_is =
      let n : (known m fs before).bodies - 1 ≡ b = let c = e.count in omega (arith, c) in
      let f : first_number m ((known m fs before).bodies - 1) ≡ first_number m b = ap (first_number m) n in
      let z : get_or m.arguments b 0 ≡ 0 = get_or_from_slice_get m.arguments b 0 0 none_taken in
      let l : length m.callees ≡ length values = length-map values (called_by all) in
      let c : length body.constants ≡ length (constants_in fs before) = ap length is_body.constants in
      omega (arith, f, z, l, c)

  block_parts : ((known m fs before).block ≡ (known m fs before).blocks) × ((known m fs before).closed ≡ true)
  block_parts =
      let p = or_parts (not ((known m fs before).block == (known m fs before).blocks)) (not (known m fs before).closed) e.finished in
      (eqb-true _ _ (negated ((known m fs before).block == (known m fs before).blocks) p.0), negated (known m fs before).closed p.1)

  numbered_at : (i v : ℕ) (line : Line) → slice_get body.lines i ≡ Some line → line.value ≡ Some v → v ≡ (length values + length body.constants) + count_by gives_value (take i body.lines)
  numbered_at i v line at f =
      let g = h.each i line at in
      let w = g.placed in
      let k = if_some (gives m (known m fs w.front).now (code_of w.place.item) (fields_of fs w.place.item)) (known m fs w.front).now v (sym w.is.value ∙ f) in
      let n = g.now in
      omega (arith, k, n, base_is)

  given_at : (i : ℕ) (line : Line) (at : slice_get body.lines i ≡ Some line) → length values ≤ (known m fs (h.each i line at).placed.front).now
  given_at i line at = let n = (h.each i line at).now in omega (arith, n, base_is)

  target_at : (i k : ℕ) (line : Line) → slice_get body.lines i ≡ Some line → has_target k line ≡ true → k < body.blocks
  target_at i k line at f =
      let g = h.each i line at in
      let w = g.placed in
      let t = target_below (around_of m fs (known m fs w.front)) (fields_of fs w.place.item) line k
      (subst (λ (c : ℕ). HasLayout (around_of m fs (known m fs w.front)) (rows_of c (fields_of fs w.place.item)) (fields_of fs w.place.item) (record { numbers = line.numbers; types = line.types; plain = line.plain })) (sym w.is.code) w.is.parts) f in
      let s = g.same_blocks in
      let d = is_body.blocks in
      omega (arith, t, s, d)

  constants_are : (i : ℕ) (value : Global) → slice_get body.constants i ≡ Some value → is_constant value ≡ true
  constants_are i value at =
      let p = map_at (constant_at fs) _ i value (ap (λ (l : List Global). slice_get l i) (sym is_body.constants) ∙ at) in
      sym (ap is_constant p.2) ∙ constant_is _ _ _ _

  pub read : LocalFits counts → ((r s : ℕ) (a b : Row) → slice_get rows r ≡ Some a → slice_get rows s ≡ Some b → class_number a.class ≡ class_number b.class → a.id ≡ b.id → r ≡ s) → IsRead y counts
  read local apart = record {
    constants = constants_are;
    rises = h.rises;
    gives = λ i line at. given all values body.constants fs line (h.each i line at).placed (given_at i line at);
    numbered = numbered_at;
    values = let v = is_body.values in let n = h.now in omega (arith, v, n, base_is);
    block = λ i line at. (h.each i line at).block;
    blocks = is_body.blocks ∙ sym block_parts.0 ∙ h.ended;
    last = λ i line at f. sym (last_at ends_block body.lines i line at f) ∙ sym h.closed ∙ block_parts.1;
    begins = let c = some_last ends_block body.lines (sym h.closed ∙ block_parts.1) in let d = is_body.blocks ∙ sym block_parts.0 ∙ h.ended in omega (arith, c, d);
    targets = target_at;
    few_blocks = let f = h.few_blocks in let d = is_body.blocks in omega (arith, f, d);
    few_lines = h.few;
    few_cases = h.few_cases;
    few_entries = h.few_entries;
    apart = apart;
    local = local;
  }

-- ---- the entry function's

module _ (is : List Item) (fs : List ℕ) (shader : Shader) (framed : IsFramed is fs) (s : IsShader is fs shader) (a : AreSound is fs) where
  abbrev lists : Module
  lists = module_with is fs s.meta

  sound : IsSound (Broken lists s.meta)
  sound = a.facts s.meta s.is_meta

  abbrev entry : List ℕ
  entry = entry_of lists s.meta

  found : (b : ℕ) × (body_at lists (get_or entry 0 0) ≡ Some b)
  found = entry_body_of lists s.meta sound

  number_is : shader.facts.body ≡ found.0
  number_is = s.facts.body ∙ ap (λ (o : Option ℕ). unwrap_or o 0) found.1

  none_taken : slice_get (facts_in is fs).arguments found.0 ≡ Some 0
  none_taken =
      let f = entry_function lists s.meta sound (get_or entry 0 0) found.0 found.1 in
      no_arguments is fs (types_of is fs) lists f.i f.ty found.0 f.name f.bit f.at f.nothing

  within : found.0 < length (ended (sites is))
  within = let w = slice_get_within (facts_in is fs).arguments found.0 0 none_taken in let c = body_count is fs framed a.records in omega (arith, w, c)

  abbrev before : List Site
  before = get_or (ended (sites is)) found.0 []

  its_body : (body : Body) × (slice_get shader.records.bodies found.0 ≡ Some body) × IsBody (facts_in is fs) fs before body
  its_body = each_get (IsBody (facts_in is fs) fs) (ended (sites is)) shader.records.bodies found.0 before s.records.bodies (slice_get-get_or (ended (sites is)) found.0 [] within)

  core : IsRead (y is fs found.0 before its_body.0 none_taken (all_ended is fs framed a.records found.0 before (slice_get-get_or (ended (sites is)) found.0 [] within)) its_body.2 (all_rows lists entry) (counts_of lists entry)) (counts_of lists entry)
  core = read is fs found.0 before its_body.0 none_taken (all_ended is fs framed a.records found.0 before (slice_get-get_or (ended (sites is)) found.0 [] within)) its_body.2 (all_rows lists entry) (counts_of lists entry)
      (counts_fit lists s.meta sound) (rows_apart lists s.meta sound)

  pub entry_read : IsRead (entry_body shader.types shader.records shader.facts) shader.facts.local
  entry_read =
      subst (λ (o : Option Body). IsRead (body_of shader.types shader.records shader.facts o) shader.facts.local) (sym (ap (slice_get shader.records.bodies) number_is ∙ its_body.1))
      (subst (λ (ts : List LlvmType). IsRead (record { pool = record { types = ts; globals = shader.records.globals; constants = its_body.0.constants }; values = its_body.0.values; lines = its_body.0.lines; blocks = its_body.0.blocks; rows = shader.facts.rows }) shader.facts.local) (sym s.types)
      (subst (λ (vs : List Global). IsRead (record { pool = record { types = types_of is fs; globals = vs; constants = its_body.0.constants }; values = its_body.0.values; lines = its_body.0.lines; blocks = its_body.0.blocks; rows = shader.facts.rows }) shader.facts.local) (sym s.records.globals)
      (subst (λ (rs : List Row). IsRead (record { pool = record { types = types_of is fs; globals = values_of is fs (types_of is fs); constants = its_body.0.constants }; values = its_body.0.values; lines = its_body.0.lines; blocks = its_body.0.blocks; rows = rs }) shader.facts.local) (sym s.facts.rows)
      (subst (λ (cs : List ℕ). IsRead (record { pool = record { types = types_of is fs; globals = values_of is fs (types_of is fs); constants = its_body.0.constants }; values = its_body.0.values; lines = its_body.0.lines; blocks = its_body.0.blocks; rows = all_rows lists entry }) cs) (sym s.facts.local) core))))
