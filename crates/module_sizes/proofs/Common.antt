-- The keys that a module has once at most, however long the program is: types, small numbers, and what belongs to resources and arrays. Any other key is a number.
use Rattle.std.proofs.Common.{◌≡◌, ℕ, zero, suc, ◌+◌, ◌<◌, ◌≤◌, Bool, true, false, List, [], ◌∷◌, ◌++◌, length, Option, Some, None, refl, ap, arith}
use Rattle.std.specs.Prelude.{nat_eq, nat_le, nat_lt, ◌||◌, slice_get, slice_index, if◌then◌else◌, sum}
use Rattle.std.proofs.lemmas.List.Sums.{sum_by-cons}
use Rattle.dxil_form.specs.declared.program.Kind.{Kind}
use Rattle.dxil_form.specs.declared.program.Kind.TheVariants.{Raw, Structured, Constant}
use Rattle.dxil_form.specs.declared.program.Class.{Class}
use Rattle.dxil_form.specs.declared.program.Resource.{Resource}
use Rattle.dxil_form.specs.declared.program.Program.{Program}
use Rattle.dxil_form.specs.Sound.{Sound, KindFits}
use Rattle.spirv_code.specs.declared.key.Sort.{Sort}
use Rattle.spirv_code.specs.declared.key.Sort.TheVariants as sort
use Rattle.spirv_code.specs.declared.key.Storage.{Storage}
use Rattle.spirv_code.specs.declared.key.Storage.TheVariants as storage
use Rattle.spirv_code.specs.declared.key.BuiltIn.{BuiltIn}
use Rattle.spirv_code.specs.declared.key.BuiltIn.TheVariants as builtin
use Rattle.spirv_code.specs.declared.key.Global.{Global}
use Rattle.spirv_code.specs.declared.key.Global.TheVariants.{Plain, Pointer, Number, Truth, Input, Buffer, Shared}
use Rattle.spirv_code.specs.Plans.{rows_of}
use Rattle.spirv_code.specs.Frame.{rowed, buffer_storage, input_sort}
use Rattle.spirv_code.specs.Needed.{words_keys, sort_keys, array_keys, arrays_keys, whole}
use Rattle.module_sizes.specs.Sizes.{Measure, amount}
use Rattle.module_sizes.proofs.Totals.{total, total_append}

abbrev pub most_number : ℕ
most_number = 8192

abbrev pub is_small : ℕ → Bool
is_small n = nat_le n most_number || nat_eq n 0xFFFF_FFFF

abbrev pub is_common : Program → Global → Bool
is_common p (Plain sort.Int) = true
is_common p (Plain sort.Bool) = true
is_common p (Plain sort.Triple) = true
is_common p (Plain sort.Row) = true
is_common p (Plain (sort.Words r)) = nat_lt r (length p.resources)
is_common p (Plain (sort.Block r)) = nat_lt r (length p.resources)
is_common p (Plain (sort.Array a)) = nat_lt a (length p.shared)
is_common p (Pointer s sort.Int) = true
is_common p (Pointer s sort.Bool) = true
is_common p (Pointer s sort.Triple) = true
is_common p (Pointer s sort.Row) = true
is_common p (Pointer s (sort.Words r)) = false
is_common p (Pointer storage.Uniform (sort.Block r)) = nat_lt r (length p.resources)
is_common p (Pointer storage.StorageBuffer (sort.Block r)) = nat_lt r (length p.resources)
is_common p (Pointer storage.Input (sort.Block r)) = false
is_common p (Pointer storage.Workgroup (sort.Block r)) = false
is_common p (Pointer storage.Function (sort.Block r)) = false
is_common p (Pointer storage.Workgroup (sort.Array a)) = nat_lt a (length p.shared)
is_common p (Pointer storage.Input (sort.Array a)) = false
is_common p (Pointer storage.Uniform (sort.Array a)) = false
is_common p (Pointer storage.Function (sort.Array a)) = false
is_common p (Pointer storage.StorageBuffer (sort.Array a)) = false
is_common p (Number n) = is_small n
is_common p (Truth b) = true
is_common p (Input b) = true
is_common p (Buffer r) = nat_lt r (length p.resources)
is_common p (Shared a) = nat_lt a (length p.shared)

-- words of operands
abbrev pub extra : Measure → ℕ → ℕ
extra Measure.Places n = 0
extra Measure.Words n = n

-- what a key takes at most: its declaration, its decorations, and its place in the interface
abbrev pub weight : Measure → Global → ℕ
weight m (Plain sort.Int) = amount m 3
weight m (Plain sort.Bool) = amount m 3
weight m (Plain sort.Triple) = amount m 3
weight m (Plain sort.Row) = amount m 3
weight m (Plain (sort.Words r)) = amount m 3 + amount m 3
weight m (Plain (sort.Block r)) = amount m 2 + (amount m 2 + amount m 4)
weight m (Plain (sort.Array a)) = amount m 3
weight m (Pointer s to) = amount m 3
weight m (Number n) = amount m 3
weight m (Truth b) = amount m 3
weight m (Input b) = amount m 3 + amount m 3 + extra m 1
weight m (Buffer r) = amount m 3 + (amount m 3 + amount m 3 + amount m 3) + extra m 1
weight m (Shared a) = amount m 3 + extra m 1

abbrev pub cost : Program → Measure → Global → ℕ
cost p m g = if is_common p g then 0 else weight m g

-- what a key that is named brings into the table
abbrev pub named : Program → Measure → Global → ℕ
named p m g = total (cost p m) (whole p g)

-- the numbers that belong to resources and arrays are small
pub record AreSmall (p : Program) : Type 0 where
  pub rows : (r : ℕ) → rows_of (slice_get p.resources r) ≤ most_number
  pub words : (a : ℕ) → slice_index p.shared a ≤ most_number

-- ---- tests

pub lt_so : (a b : ℕ) → a < b → nat_lt a b ≡ true
lt_so a b h = grind arith

pub lt_told : (a b : ℕ) → nat_lt a b ≡ true → a < b
lt_told a b e = grind arith

pub small_so : (n : ℕ) → n ≤ most_number → is_small n ≡ true
small_so n h = grind arith

pub cost_none : (p : Program) (m : Measure) (g : Global) → is_common p g ≡ true → cost p m g ≡ 0
cost_none p m g e = ap (λ b. if b then 0 else weight m g) e

-- ---- a common key brings nothing else

module _ (p : Program) (m : Measure) (small : AreSmall p) where
  words_free : (b : Bool) (r : ℕ) → nat_lt r (length p.resources) ≡ true → total (cost p m) (words_keys p b r) ≡ 0
  words_free true r e =
      let one = cost_none p m (Number (rows_of (slice_get p.resources r))) (small_so (rows_of (slice_get p.resources r)) (small.rows r)) in
      let two = cost_none p m (Plain (sort.Words r)) e in
      let sum : 0 + (0 + (cost p m (Number (rows_of (slice_get p.resources r))) + (cost p m (Plain (sort.Words r)) + 0))) ≡ 0 = omega (arith, one, two) in
      sum
  words_free false r e =
      let two = cost_none p m (Plain (sort.Words r)) e in
      let sum : 0 + (cost p m (Plain (sort.Words r)) + 0) ≡ 0 = omega (arith, two) in
      sum

  sort_free : (s : Sort) → is_common p (Plain s) ≡ true → total (cost p m) (sort_keys p s) ≡ 0
  sort_free sort.Int e = refl
  sort_free sort.Bool e = refl
  sort_free sort.Triple e = refl
  sort_free sort.Row e = refl
  sort_free (sort.Words r) e = words_free (rowed p r) r e
  sort_free (sort.Block r) e =
      let front = words_free (rowed p r) r e in
      let both = total_append (cost p m) (words_keys p (rowed p r) r) (Plain (sort.Block r) ∷ []) in
      let last = cost_none p m (Plain (sort.Block r)) e in
      omega (arith, front, both, last)
  sort_free (sort.Array a) e =
      let one = cost_none p m (Number (slice_index p.shared a)) (small_so (slice_index p.shared a) (small.words a)) in
      let two = cost_none p m (Plain (sort.Array a)) e in
      let sum : 0 + (cost p m (Number (slice_index p.shared a)) + (cost p m (Plain (sort.Array a)) + 0)) ≡ 0 = omega (arith, one, two) in
      sum

  behind_sort : (s : Sort) (gs : List Global) → is_common p (Plain s) ≡ true → total (cost p m) gs ≡ 0 → total (cost p m) (sort_keys p s ++ gs) ≡ 0
  behind_sort s gs e rest =
      let front = sort_free s e in
      let both = total_append (cost p m) (sort_keys p s) gs in
      omega (arith, front, rest, both)

  one_free : (g : Global) → is_common p g ≡ true → total (cost p m) (g ∷ []) ≡ 0
  one_free g e =
      let one = cost_none p m g e in
      let sum : cost p m g + 0 ≡ 0 = omega (arith, one) in
      sum

  two_free : (g h : Global) → is_common p g ≡ true → is_common p h ≡ true → total (cost p m) (g ∷ h ∷ []) ≡ 0
  two_free g h e f =
      let one = cost_none p m g e in
      let two = cost_none p m h f in
      let sum : cost p m g + (cost p m h + 0) ≡ 0 = omega (arith, one, two) in
      sum

  pointer_sort : (s : Storage) (to : Sort) → is_common p (Pointer s to) ≡ true → is_common p (Plain to) ≡ true
  pointer_sort s sort.Int e = refl
  pointer_sort s sort.Bool e = refl
  pointer_sort s sort.Triple e = refl
  pointer_sort s sort.Row e = refl
  pointer_sort s (sort.Words r) e = absurd (cc)
  pointer_sort storage.Uniform (sort.Block r) e = e
  pointer_sort storage.StorageBuffer (sort.Block r) e = e
  pointer_sort storage.Input (sort.Block r) e = absurd (cc)
  pointer_sort storage.Workgroup (sort.Block r) e = absurd (cc)
  pointer_sort storage.Function (sort.Block r) e = absurd (cc)
  pointer_sort storage.Workgroup (sort.Array a) e = e
  pointer_sort storage.Input (sort.Array a) e = absurd (cc)
  pointer_sort storage.Uniform (sort.Array a) e = absurd (cc)
  pointer_sort storage.Function (sort.Array a) e = absurd (cc)
  pointer_sort storage.StorageBuffer (sort.Array a) e = absurd (cc)

  input_common : (b : BuiltIn) → is_common p (Plain (input_sort b)) ≡ true
  input_common builtin.WorkgroupId = refl
  input_common builtin.LocalInvocationId = refl
  input_common builtin.GlobalInvocationId = refl
  input_common builtin.LocalInvocationIndex = refl

  input_pointer : (b : BuiltIn) → is_common p (Pointer storage.Input (input_sort b)) ≡ true
  input_pointer builtin.WorkgroupId = refl
  input_pointer builtin.LocalInvocationId = refl
  input_pointer builtin.GlobalInvocationId = refl
  input_pointer builtin.LocalInvocationIndex = refl

  buffer_pointer : (b : Bool) (r : ℕ) → nat_lt r (length p.resources) ≡ true → is_common p (Pointer (buffer_storage b) (sort.Block r)) ≡ true
  buffer_pointer true r e = e
  buffer_pointer false r e = e

  arrays_free : (n : ℕ) → n ≤ length p.shared → total (cost p m) (arrays_keys p n) ≡ 0
  arrays_free zero h = refl
  arrays_free (suc a) h =
      let e = lt_so a (length p.shared) (omega (arith, h)) in
      let rest = arrays_free a (omega (arith, h)) in
      let here = behind_sort (sort.Array a) (Pointer storage.Workgroup (sort.Array a) ∷ Shared a ∷ []) e (two_free (Pointer storage.Workgroup (sort.Array a)) (Shared a) e e) in
      let both = total_append (cost p m) (arrays_keys p a) (array_keys p a) in
      omega (arith, rest, here, both)

  pub named_common : (g : Global) → is_common p g ≡ true → named p m g ≡ 0
  named_common (Plain s) e = sort_free s e
  named_common (Pointer s to) e = behind_sort to (Pointer s to ∷ []) (pointer_sort s to e) (one_free (Pointer s to) e)
  named_common (Number n) e = two_free (Plain sort.Int) (Number n) refl e
  named_common (Truth b) e = refl
  named_common (Input b) e =
      behind_sort (input_sort b) (Pointer storage.Input (input_sort b) ∷ Input b ∷ []) (input_common b) (two_free (Pointer storage.Input (input_sort b)) (Input b) (input_pointer b) refl)
  named_common (Buffer r) e =
      behind_sort (sort.Block r) (Pointer (buffer_storage (rowed p r)) (sort.Block r) ∷ Buffer r ∷ []) e (two_free (Pointer (buffer_storage (rowed p r)) (sort.Block r)) (Buffer r) (buffer_pointer (rowed p r) r e) e)
  named_common (Shared a) e = arrays_free (length p.shared) (omega arith)

  pub named_number : (n : ℕ) → named p m (Number n) ≤ amount m 3
  named_number n = by_test (is_small n)
    where
      by_test : (b : Bool) → 0 + ((if b then 0 else amount m 3) + 0) ≤ amount m 3
      by_test true = omega arith
      by_test false = omega arith

-- ---- in a sound program

rows_small : (p : Program) → Sound p → (r : ℕ) → rows_of (slice_get p.resources r) ≤ most_number
rows_small p sound r = by_resource (slice_get p.resources r) refl
  where
    by_kind : (k : Kind) (class : Class) → KindFits k class → (resource : Resource) → resource.kind ≡ k → rows_of (Some resource) ≤ most_number
    by_kind Raw class h resource is = let e : rows_of (Some resource) ≡ 0 = ap (λ k. rows_of (Some (record resource { kind = k }))) is in omega (arith, e)
    by_kind (Structured stride) class h resource is = let e : rows_of (Some resource) ≡ 0 = ap (λ k. rows_of (Some (record resource { kind = k }))) is in omega (arith, e)
    by_kind (Constant rows) class h resource is =
        let e : rows_of (Some resource) ≡ rows = ap (λ k. rows_of (Some (record resource { kind = k }))) is in
        omega (arith, e, h.2)

    by_resource : (o : Option Resource) → slice_get p.resources r ≡ o → rows_of o ≤ most_number
    by_resource None e = omega arith
    by_resource (Some resource) e = by_kind resource.kind resource.class (sound.resources r resource e).kind resource refl

index_small : (xs : List ℕ) (a : ℕ) → slice_index xs a ≤ sum xs
index_small [] a = omega arith
index_small (x ∷ xs) zero = omega (arith, sum_by-cons (λ (y : ℕ). y) x xs)
index_small (x ∷ xs) (suc a) = let ih = index_small xs a in omega (arith, ih, sum_by-cons (λ (y : ℕ). y) x xs)

pub are_small : (p : Program) → Sound p → AreSmall p
are_small p sound =
    record {
      rows = rows_small p sound;
      words = λ a. let h = index_small p.shared a in omega (arith, h, sound.shared.most);
    }
