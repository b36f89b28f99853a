-- The table of a program has each key behind what its declaration names, and groupshared arrays in their order.
use Rattle.std.proofs.Common.{◌≡◌, ◌⊎◌, inl, inr, ⊎_elim, ℕ, zero, suc, ◌+◌, ◌<◌, ◌≤◌, Bool, true, false, List, [], ◌∷◌, ◌++◌, length, take, Some, refl, sym, ap, ◌∙◌, subst, arith}
use Rattle.std.specs.Prelude.{slice_get, slice_index, nat_eq, if◌then◌else◌, ◌&&◌, ◌||◌}
use Rattle.dxil_form.specs.declared.program.Program.{Program}
use Rattle.spirv_code.specs.declared.key.Sort.{Sort}
use Rattle.spirv_code.specs.declared.key.Sort.TheVariants as sort
use Rattle.spirv_code.specs.declared.key.Storage.{Storage}
use Rattle.spirv_code.specs.declared.key.Storage.TheVariants as storage
use Rattle.spirv_code.specs.declared.key.BuiltIn.{BuiltIn}
use Rattle.spirv_code.specs.declared.key.BuiltIn.TheVariants as builtin
use Rattle.spirv_code.specs.declared.key.Global.{Global}
use Rattle.spirv_code.specs.declared.key.Global.TheVariants.{Plain, Pointer, Number, Truth, Input, Buffer, Shared}
use Rattle.spirv_code.specs.Keys.{same_truth, same_sort, same_storage, same_built_in, same_global, has_key, add_key}
use Rattle.spirv_code.specs.Plans.{rows_of}
use Rattle.spirv_code.specs.Frame.{rowed, buffer_storage, input_sort, words_needs, needs}
use Rattle.spirv_code.specs.Needed.{words_keys, sort_keys, array_keys, arrays_keys, whole, add_each, add_whole, add_all}
use Rattle.frame_facts.specs.Serves.{AreKeys, arrays_in}
use Rattle.frame_facts.proofs.Searches.{eq_same, inj}
use Rattle.frame_facts.proofs.Tables.{global_told}

-- ---- a key is itself

pub truth_self : (b : Bool) → same_truth b b ≡ true
truth_self true = refl
truth_self false = refl

sort_self : (s : Sort) → same_sort s s ≡ true
sort_self sort.Int = refl
sort_self sort.Bool = refl
sort_self sort.Triple = refl
sort_self sort.Row = refl
sort_self (sort.Words r) = eq_same r
sort_self (sort.Block r) = eq_same r
sort_self (sort.Array a) = eq_same a

storage_self : (s : Storage) → same_storage s s ≡ true
storage_self storage.Input = refl
storage_self storage.Uniform = refl
storage_self storage.Workgroup = refl
storage_self storage.Function = refl
storage_self storage.StorageBuffer = refl

built_in_self : (b : BuiltIn) → same_built_in b b ≡ true
built_in_self builtin.WorkgroupId = refl
built_in_self builtin.LocalInvocationId = refl
built_in_self builtin.GlobalInvocationId = refl
built_in_self builtin.LocalInvocationIndex = refl

pub global_self : (g : Global) → same_global g g ≡ true
global_self (Plain s) = sort_self s
global_self (Pointer s to) = ap (λ b. b && same_sort to to) (storage_self s) ∙ sort_self to
global_self (Number n) = eq_same n
global_self (Truth b) = truth_self b
global_self (Input b) = built_in_self b
global_self (Buffer r) = eq_same r
global_self (Shared a) = eq_same a

-- ---- one key more

or_right : (x y : Bool) → y ≡ true → (x || y) ≡ true
or_right true y e = refl
or_right false y e = e

or_told : (x y : Bool) → (x || y) ≡ true → (x ≡ true) ⊎ (y ≡ true)
or_told true y e = inl refl
or_told false y e = inr e

has_front : (T b : List Global) (h : Global) → has_key T h ≡ true → has_key (T ++ b) h ≡ true
has_front [] b h e = absurd (cc)
has_front (g ∷ T) b h e =
    ⊎_elim (λ here. ap (λ x. x || has_key (T ++ b) h) here) (λ there. or_right (same_global h g) (has_key (T ++ b) h) (has_front T b h there)) (or_told (same_global h g) (has_key T h) e)

has_back : (T : List Global) (g : Global) → has_key (T ++ g ∷ []) g ≡ true
has_back [] g = ap (λ x. x || false) (global_self g)
has_back (h ∷ T) g = or_right (same_global g h) (has_key (T ++ g ∷ []) g) (has_back T g)

has_either : (T : List Global) (g h : Global) → has_key (T ++ g ∷ []) h ≡ true → (has_key T h ≡ true) ⊎ (h ≡ g)
has_either [] g h e =
    ⊎_elim (λ here. inr (global_told h g here)) (λ none. absurd (let clash : false ≡ true = none in grind arith)) (or_told (same_global h g) false e)
has_either (x ∷ T) g h e =
    ⊎_elim (λ here. inl (ap (λ b. b || has_key T h) here)) (λ there. ⊎_elim (λ old. inl (or_right (same_global h x) (has_key T h) old)) (λ new. inr new) (has_either T g h there)) (or_told (same_global h x) (has_key (T ++ g ∷ []) h) e)

add_has : (T : List Global) (g : Global) → has_key (add_key T g) g ≡ true
add_has T g = by_test (has_key T g) refl
  where
    by_test : (b : Bool) → has_key T g ≡ b → has_key (if b then T else T ++ g ∷ []) g ≡ true
    by_test true e = e
    by_test false e = has_back T g

add_keeps : (T : List Global) (g h : Global) → has_key T h ≡ true → has_key (add_key T g) h ≡ true
add_keeps T g h e = by_test (has_key T g)
  where
    by_test : (b : Bool) → has_key (if b then T else T ++ g ∷ []) h ≡ true
    by_test true = e
    by_test false = has_front T (g ∷ []) h e

add_told : (T : List Global) (g h : Global) → has_key (add_key T g) h ≡ true → (has_key T h ≡ true) ⊎ (h ≡ g)
add_told T g h e = by_test (has_key T g) e
  where
    by_test : (b : Bool) → has_key (if b then T else T ++ g ∷ []) h ≡ true → (has_key T h ≡ true) ⊎ (h ≡ g)
    by_test true e = inl e
    by_test false e = has_either T g h e

-- ---- lists of keys

keys_keep : (T U gs : List Global) → ((h : Global) → has_key T h ≡ true → has_key U h ≡ true) → AreKeys T gs → AreKeys U gs
keys_keep T U [] f h = tt
keys_keep T U (g ∷ gs) f h = (f g h.0, keys_keep T U gs f h.1)

each_keeps : (T gs : List Global) (h : Global) → has_key T h ≡ true → has_key (add_each T gs) h ≡ true
each_keeps T [] h e = e
each_keeps T (g ∷ gs) h e = each_keeps (add_key T g) gs h (add_keeps T g h e)

each_has : (T gs : List Global) → AreKeys (add_each T gs) gs
each_has T [] = tt
each_has T (g ∷ gs) = (each_keeps (add_key T g) gs g (add_has T g), each_has (add_key T g) gs)

keys_front : (T a b : List Global) → AreKeys T (a ++ b) → AreKeys T a
keys_front T [] b h = tt
keys_front T (g ∷ a) b h = (h.0, keys_front T a b h.1)

keys_back : (T a b : List Global) → AreKeys T (a ++ b) → AreKeys T b
keys_back T [] b h = h
keys_back T (g ∷ a) b h = keys_back T a b h.1

each_append : (T a b : List Global) → add_each T (a ++ b) ≡ add_each (add_each T a) b
each_append T [] b = refl
each_append T (g ∷ a) b = each_append (add_key T g) a b

module _ (p : Program) where
  -- what a declaration names is declared
  abbrev pub Closed : List Global → Type 0
  Closed T = (g : Global) → has_key T g ≡ true → AreKeys T (needs p g)

  -- keys that can be added one after the other, each behind what it names
  abbrev Ordered : List Global → List Global → Type 0
  Ordered T [] = Unit {0}
  Ordered T (g ∷ gs) = AreKeys T (needs p g) × Ordered (add_key T g) gs

  ordered_append : (T a b : List Global) → Ordered T a → Ordered (add_each T a) b → Ordered T (a ++ b)
  ordered_append T [] b h k = k
  ordered_append T (g ∷ a) b h k = (h.0, ordered_append (add_key T g) a b h.1 k)

  closed_add : (T : List Global) (g : Global) → AreKeys T (needs p g) → Closed T → Closed (add_key T g)
  closed_add T g named h x e =
      keys_keep T (add_key T g) (needs p x) (add_keeps T g) (⊎_elim (λ old. h x old) (λ new. subst (λ y. AreKeys T (needs p y)) (sym new) named) (add_told T g x e))

  closed_each : (T gs : List Global) → Ordered T gs → Closed T → Closed (add_each T gs)
  closed_each T [] o h = h
  closed_each T (g ∷ gs) o h = closed_each (add_key T g) gs o.1 (closed_add T g o.0 h)

  -- ---- what is added for a key

  int : Global
  int = Plain sort.Int

  words_ordered : (T : List Global) (r : ℕ) (b : Bool) → rowed p r ≡ b → Ordered T (words_keys p b r)
  words_ordered T r true e =
      let rows : Global = Number (rows_of (slice_get p.resources r)) in
      let one : List Global = add_key T (Plain sort.Int) in
      let two : List Global = add_key one (Plain sort.Row) in
      let named : AreKeys (add_key two rows) (words_needs p true r) = (add_keeps two rows (Plain sort.Row) (add_has one (Plain sort.Row)), (add_has two rows, tt)) in
      (tt, ((add_has T (Plain sort.Int), tt), ((add_keeps one (Plain sort.Row) (Plain sort.Int) (add_has T (Plain sort.Int)), tt), (subst (λ b. AreKeys (add_key two rows) (words_needs p b r)) (sym e) named, tt))))
  words_ordered T r false e =
      let named : AreKeys (add_key T (Plain sort.Int)) (words_needs p false r) = (add_has T (Plain sort.Int), tt) in
      (tt, (subst (λ b. AreKeys (add_key T (Plain sort.Int)) (words_needs p b r)) (sym e) named, tt))

  words_last : (T : List Global) (r : ℕ) (b : Bool) → has_key (add_each T (words_keys p b r)) (Plain (sort.Words r)) ≡ true
  words_last T r true = (each_has T (words_keys p true r)).1.1.1.0
  words_last T r false = (each_has T (words_keys p false r)).1.0

  sort_ordered : (T : List Global) (s : Sort) → Ordered T (sort_keys p s)
  sort_ordered T sort.Int = (tt, tt)
  sort_ordered T sort.Bool = (tt, tt)
  sort_ordered T sort.Triple = (tt, ((add_has T (Plain sort.Int), tt), tt))
  sort_ordered T sort.Row = (tt, ((add_has T (Plain sort.Int), tt), tt))
  sort_ordered T (sort.Words r) = words_ordered T r (rowed p r) refl
  sort_ordered T (sort.Block r) =
      ordered_append T (words_keys p (rowed p r) r) (Plain (sort.Block r) ∷ []) (words_ordered T r (rowed p r) refl) ((words_last T r (rowed p r), tt), tt)
  sort_ordered T (sort.Array a) =
      let size : Global = Number (slice_index p.shared a) in
      let one : List Global = add_key T (Plain sort.Int) in
      (tt, ((add_has T (Plain sort.Int), tt), ((add_keeps one size (Plain sort.Int) (add_has T (Plain sort.Int)), (add_has one size, tt)), tt)))

  sort_last : (T : List Global) (s : Sort) → has_key (add_each T (sort_keys p s)) (Plain s) ≡ true
  sort_last T sort.Int = (each_has T (sort_keys p sort.Int)).0
  sort_last T sort.Bool = (each_has T (sort_keys p sort.Bool)).0
  sort_last T sort.Triple = (each_has T (sort_keys p sort.Triple)).1.0
  sort_last T sort.Row = (each_has T (sort_keys p sort.Row)).1.0
  sort_last T (sort.Words r) = words_last T r (rowed p r)
  sort_last T (sort.Block r) =
      (keys_back _ (words_keys p (rowed p r) r) (Plain (sort.Block r) ∷ []) (each_has T (sort_keys p (sort.Block r)))).0
  sort_last T (sort.Array a) = (each_has T (sort_keys p (sort.Array a))).1.1.0

  array_ordered : (T : List Global) (a : ℕ) → ((b : ℕ) → a ≡ suc b → has_key T (Shared b) ≡ true) → Ordered T (array_keys p a)
  array_ordered T a before =
      let pointer : Global = Pointer storage.Workgroup (sort.Array a) in
      let made : List Global = add_each T (sort_keys p (sort.Array a)) in
      ordered_append T (sort_keys p (sort.Array a)) (pointer ∷ Shared a ∷ []) (sort_ordered T (sort.Array a)) ((sort_last T (sort.Array a), tt), (named a before, tt))
    where
      named : (a : ℕ) → ((b : ℕ) → a ≡ suc b → has_key T (Shared b) ≡ true) → AreKeys (add_key (add_each T (sort_keys p (sort.Array a))) (Pointer storage.Workgroup (sort.Array a))) (needs p (Shared a))
      named zero before = (add_has (add_each T (sort_keys p (sort.Array 0))) (Pointer storage.Workgroup (sort.Array 0)), tt)
      named (suc b) before =
          let pointer : Global = Pointer storage.Workgroup (sort.Array (suc b)) in
          let made : List Global = add_each T (sort_keys p (sort.Array (suc b))) in
          (add_has made pointer, (add_keeps made pointer (Shared b) (each_keeps T (sort_keys p (sort.Array (suc b))) (Shared b) (before b refl)), tt))

  array_last : (T : List Global) (a : ℕ) → has_key (add_each T (array_keys p a)) (Shared a) ≡ true
  array_last T a =
      (keys_back (add_each T (array_keys p a)) (sort_keys p (sort.Array a)) (Pointer storage.Workgroup (sort.Array a) ∷ Shared a ∷ []) (each_has T (array_keys p a))).1.0

  arrays_have : (T : List Global) (n a : ℕ) → a < n → has_key (add_each T (arrays_keys p n)) (Shared a) ≡ true
  arrays_have T zero a h = absurd (omega (arith, h))
  arrays_have T (suc n) a h = by_test (arrays_have T n a) (nat_eq a n) refl
    where
      same : add_each T (arrays_keys p n ++ array_keys p n) ≡ add_each (add_each T (arrays_keys p n)) (array_keys p n)
      same = each_append T (arrays_keys p n) (array_keys p n)

      eq_is : (a b : ℕ) → nat_eq a b ≡ true → a ≡ b
      eq_is a b e = grind arith

      less_is : (a b : ℕ) → nat_eq a b ≡ false → a < suc b → a < b
      less_is a b e h = grind arith

      by_test : (a < n → has_key (add_each T (arrays_keys p n)) (Shared a) ≡ true) → (b : Bool) → nat_eq a n ≡ b → has_key (add_each T (arrays_keys p n ++ array_keys p n)) (Shared a) ≡ true
      by_test again true e =
          ap (λ U. has_key U (Shared a)) same ∙ subst (λ k. has_key (add_each (add_each T (arrays_keys p n)) (array_keys p n)) (Shared k) ≡ true) (sym (eq_is a n e)) (array_last (add_each T (arrays_keys p n)) n)
      by_test again false e =
          ap (λ U. has_key U (Shared a)) same ∙ each_keeps (add_each T (arrays_keys p n)) (array_keys p n) (Shared a) (again (less_is a n e h))

  arrays_ordered : (T : List Global) (n : ℕ) → Ordered T (arrays_keys p n)
  arrays_ordered T zero = tt
  arrays_ordered T (suc n) =
      ordered_append T (arrays_keys p n) (array_keys p n) (arrays_ordered T n) (array_ordered (add_each T (arrays_keys p n)) n (λ b e. arrays_have T n b (omega (arith, e))))

  pub whole_ordered : (T : List Global) (g : Global) → Ordered T (whole p g)
  whole_ordered T (Plain s) = sort_ordered T s
  whole_ordered T (Pointer s to) =
      ordered_append T (sort_keys p to) (Pointer s to ∷ []) (sort_ordered T to) ((sort_last T to, tt), tt)
  whole_ordered T (Number n) = (tt, ((add_has T (Plain sort.Int), tt), tt))
  whole_ordered T (Truth b) = (tt, ((add_has T (Plain sort.Bool), tt), tt))
  whole_ordered T (Input b) =
      let made : List Global = add_each T (sort_keys p (input_sort b)) in
      ordered_append T (sort_keys p (input_sort b)) (Pointer storage.Input (input_sort b) ∷ Input b ∷ []) (sort_ordered T (input_sort b)) ((sort_last T (input_sort b), tt), ((add_has made (Pointer storage.Input (input_sort b)), tt), tt))
  whole_ordered T (Buffer r) =
      let pointer : Global = Pointer (buffer_storage (rowed p r)) (sort.Block r) in
      let made : List Global = add_each T (sort_keys p (sort.Block r)) in
      ordered_append T (sort_keys p (sort.Block r)) (pointer ∷ Buffer r ∷ []) (sort_ordered T (sort.Block r)) ((sort_last T (sort.Block r), tt), ((add_has made pointer, tt), tt))
  whole_ordered T (Shared a) = arrays_ordered T (length p.shared)

  -- a groupshared array is one of the program's
  abbrev pub IsKnown : Global → Type 0
  IsKnown (Shared a) = a < length p.shared
  IsKnown (Plain s) = Unit {0}
  IsKnown (Pointer s to) = Unit {0}
  IsKnown (Number n) = Unit {0}
  IsKnown (Truth b) = Unit {0}
  IsKnown (Input b) = Unit {0}
  IsKnown (Buffer r) = Unit {0}

  whole_last : (T : List Global) (g : Global) → IsKnown g → has_key (add_each T (whole p g)) g ≡ true
  whole_last T (Plain s) h = sort_last T s
  whole_last T (Pointer s to) h = (keys_back _ (sort_keys p to) (Pointer s to ∷ []) (each_has T (whole p (Pointer s to)))).0
  whole_last T (Number n) h = (each_has T (whole p (Number n))).1.0
  whole_last T (Truth b) h = (each_has T (whole p (Truth b))).1.0
  whole_last T (Input b) h =
      (keys_back _ (sort_keys p (input_sort b)) (Pointer storage.Input (input_sort b) ∷ Input b ∷ []) (each_has T (whole p (Input b)))).1.0
  whole_last T (Buffer r) h =
      (keys_back _ (sort_keys p (sort.Block r)) (Pointer (buffer_storage (rowed p r)) (sort.Block r) ∷ Buffer r ∷ []) (each_has T (whole p (Buffer r)))).1.0
  whole_last T (Shared a) h = arrays_have T (length p.shared) a h

  -- ---- the table

  pub add_whole_has : (T : List Global) (g : Global) → IsKnown g → has_key (add_whole p T g) g ≡ true
  add_whole_has T g h = by_test (has_key T g) refl
    where
      by_test : (b : Bool) → has_key T g ≡ b → has_key (if b then T else add_each T (whole p g)) g ≡ true
      by_test true e = e
      by_test false e = whole_last T g h

  add_whole_keeps : (T : List Global) (g x : Global) → has_key T x ≡ true → has_key (add_whole p T g) x ≡ true
  add_whole_keeps T g x e = by_test (has_key T g)
    where
      by_test : (b : Bool) → has_key (if b then T else add_each T (whole p g)) x ≡ true
      by_test true = e
      by_test false = each_keeps T (whole p g) x e

  pub all_keeps : (T gs : List Global) (x : Global) → has_key T x ≡ true → has_key (add_all p T gs) x ≡ true
  all_keeps T [] x e = e
  all_keeps T (g ∷ gs) x e = all_keeps (add_whole p T g) gs x (add_whole_keeps T g x e)

  abbrev pub AreKnown : List Global → Type 0
  AreKnown [] = Unit {0}
  AreKnown (g ∷ gs) = IsKnown g × AreKnown gs

  pub all_have : (T gs : List Global) → AreKnown gs → AreKeys (add_all p T gs) gs
  all_have T [] h = tt
  all_have T (g ∷ gs) h =
      (all_keeps (add_whole p T g) gs g (add_whole_has T g h.0), all_have (add_whole p T g) gs h.1)

  -- ---- what holds of the table while keys are added

  -- the groupshared arrays among the keys are those below their count, in their order
  pub record Numbered (T : List Global) : Type 0 where
    pub order : (k a : ℕ) → slice_get T k ≡ Some (Shared a) → arrays_in (take k T) ≡ a
    pub all : (a : ℕ) → a < arrays_in T → has_key T (Shared a) ≡ true

  arrays_append : (T : List Global) (g : Global) → arrays_in (T ++ g ∷ []) ≡ arrays_in T + arrays_in (g ∷ [])
  arrays_append [] g = let e : arrays_in (g ∷ []) ≡ 0 + arrays_in (g ∷ []) = omega arith in e
  arrays_append (Shared a ∷ T) g = let ih = arrays_append T g in let e : suc (arrays_in (T ++ g ∷ [])) ≡ suc (arrays_in T) + arrays_in (g ∷ []) = omega (arith, ih) in e
  arrays_append (Plain s ∷ T) g = arrays_append T g
  arrays_append (Pointer s to ∷ T) g = arrays_append T g
  arrays_append (Number n ∷ T) g = arrays_append T g
  arrays_append (Truth b ∷ T) g = arrays_append T g
  arrays_append (Input b ∷ T) g = arrays_append T g
  arrays_append (Buffer r ∷ T) g = arrays_append T g

  at_end : (T : List Global) (g : Global) (k : ℕ) (x : Global) → slice_get (T ++ g ∷ []) k ≡ Some x → ((slice_get T k ≡ Some x) × (take k (T ++ g ∷ []) ≡ take k T)) ⊎ ((x ≡ g) × (take k (T ++ g ∷ []) ≡ T))
  at_end [] g zero x e = inr (sym (inj e), refl)
  at_end [] g (suc k) x e = absurd (cc)
  at_end (y ∷ T) g zero x e = inl (e, refl)
  at_end (y ∷ T) g (suc k) x e =
      ⊎_elim (λ old. inl (old.0, ap (λ U. y ∷ U) old.1)) (λ new. inr (new.0, ap (λ U. y ∷ U) new.1)) (at_end T g k x e)

  -- an array among the keys is below their count
  array_below : (T : List Global) (a : ℕ) → Numbered T → has_key T (Shared a) ≡ true → a < arrays_in T
  array_below T a h e =
      let there = place_of T e in
      let before = h.order there.0 a there.1 in
      let less = counts T there.0 there.1 in
      omega (arith, before, less)
    where
      place_of : (T : List Global) → has_key T (Shared a) ≡ true → (k : ℕ) × (slice_get T k ≡ Some (Shared a))
      place_of [] e = absurd (cc)
      place_of (g ∷ T) e =
          ⊎_elim (λ here. (0, ap Some (sym (global_told (Shared a) g here)))) (λ there. let r = place_of T there in (suc r.0, r.1)) (or_told (same_global (Shared a) g) (has_key T (Shared a)) e)

      counts : (T : List Global) (k : ℕ) → slice_get T k ≡ Some (Shared a) → arrays_in (take k T) < arrays_in T
      counts [] k e = absurd (cc)
      counts (g ∷ T) zero e = subst (λ x. 0 < arrays_in (x ∷ T)) (sym (inj e)) (omega arith)
      counts (Shared b ∷ T) (suc k) e = let ih = counts T k e in omega (arith, ih)
      counts (Plain s ∷ T) (suc k) e = counts T k e
      counts (Pointer s to ∷ T) (suc k) e = counts T k e
      counts (Number n ∷ T) (suc k) e = counts T k e
      counts (Truth b ∷ T) (suc k) e = counts T k e
      counts (Input b ∷ T) (suc k) e = counts T k e
      counts (Buffer r ∷ T) (suc k) e = counts T k e

  -- a new array is the next one
  next_array : (T : List Global) (a : ℕ) → Numbered T → AreKeys T (needs p (Shared a)) → has_key T (Shared a) ≡ false → arrays_in T ≡ a
  next_array T zero h named new = none (arrays_in T) refl
    where
      none : (n : ℕ) → arrays_in T ≡ n → arrays_in T ≡ 0
      none zero e = e
      none (suc n) e =
          let there = h.all 0 (omega (arith, e)) in
          absurd (cc)
  next_array T (suc b) h named new =
      let low = array_below T b h named.1.0 in
      at_most (arrays_in T) refl low
    where
      at_most : (n : ℕ) → arrays_in T ≡ n → b < arrays_in T → arrays_in T ≡ suc b
      at_most n e low = by_test (more n (suc b))
        where
          more : (x y : ℕ) → (x ≤ y) ⊎ (y < x)
          more x y = grind arith

          by_test : (n ≤ suc b) ⊎ (suc b < n) → arrays_in T ≡ suc b
          by_test h' = ⊎_elim (λ few. omega (arith, e, low, few)) (λ many. let there = h.all (suc b) (omega (arith, e, many)) in absurd (cc)) h'

  numbered_add : (T : List Global) (g : Global) → AreKeys T (needs p g) → Numbered T → Numbered (add_key T g)
  numbered_add T g named h = by_test (has_key T g) refl
    where
      new_order : has_key T g ≡ false → (k a : ℕ) → slice_get (T ++ g ∷ []) k ≡ Some (Shared a) → arrays_in (take k (T ++ g ∷ [])) ≡ a
      new_order new k a e =
          ⊎_elim (λ old. ap arrays_in old.1 ∙ h.order k a old.0) (λ last. ap arrays_in last.1 ∙ next_array T a h (subst (λ x. AreKeys T (needs p x)) (sym last.0) named) (ap (has_key T) last.0 ∙ new)) (at_end T g k (Shared a) e)

      new_all : has_key T g ≡ false → (a : ℕ) → a < arrays_in (T ++ g ∷ []) → has_key (T ++ g ∷ []) (Shared a) ≡ true
      new_all new a less = by_key g named new (subst (λ n. a < n) (arrays_append T g) less)
        where
          old : (g : Global) → a < arrays_in T + 0 → has_key (T ++ g ∷ []) (Shared a) ≡ true
          old g low = has_front T (g ∷ []) (Shared a) (h.all a (omega (arith, low)))

          by_key : (g : Global) → AreKeys T (needs p g) → has_key T g ≡ false → a < arrays_in T + arrays_in (g ∷ []) → has_key (T ++ g ∷ []) (Shared a) ≡ true
          by_key (Shared b) named new low =
              let count = next_array T b h named new in
              by_place (sides a b (omega (arith, low, count)))
            where
              sides : (x y : ℕ) → x < y + 1 → (x < y) ⊎ (x ≡ y)
              sides x y e = grind arith

              by_place : (a < b) ⊎ (a ≡ b) → has_key (T ++ Shared b ∷ []) (Shared a) ≡ true
              by_place e = ⊎_elim (λ less. has_front T (Shared b ∷ []) (Shared a) (h.all a (omega (arith, less, next_array T b h named new)))) (λ same. subst (λ x. has_key (T ++ Shared b ∷ []) (Shared x) ≡ true) (sym same) (has_back T (Shared b))) e
          by_key (Plain s) named new low = old (Plain s) low
          by_key (Pointer s to) named new low = old (Pointer s to) low
          by_key (Number n) named new low = old (Number n) low
          by_key (Truth b) named new low = old (Truth b) low
          by_key (Input b) named new low = old (Input b) low
          by_key (Buffer r) named new low = old (Buffer r) low

      by_test : (b : Bool) → has_key T g ≡ b → Numbered (if b then T else T ++ g ∷ [])
      by_test true e = h
      by_test false e = record { order = new_order e; all = new_all e }

  numbered_each : (T gs : List Global) → Ordered T gs → Numbered T → Numbered (add_each T gs)
  numbered_each T [] o h = h
  numbered_each T (g ∷ gs) o h = numbered_each (add_key T g) gs o.1 (numbered_add T g o.0 h)

  pub record InOrder (T : List Global) : Type 0 where
    pub closed : Closed T
    pub numbered : Numbered T

  in_order_whole : (T : List Global) (g : Global) → InOrder T → InOrder (add_whole p T g)
  in_order_whole T g h = by_test (has_key T g)
    where
      by_test : (b : Bool) → InOrder (if b then T else add_each T (whole p g))
      by_test true = h
      by_test false =
          record {
            closed = closed_each T (whole p g) (whole_ordered T g) h.closed;
            numbered = numbered_each T (whole p g) (whole_ordered T g) h.numbered;
          }

  in_order_all : (T gs : List Global) → InOrder T → InOrder (add_all p T gs)
  in_order_all T [] h = h
  in_order_all T (g ∷ gs) h = in_order_all (add_whole p T g) gs (in_order_whole T g h)

  pub in_order : (gs : List Global) → InOrder (add_all p [] gs)
  in_order gs =
      in_order_all [] gs (record { closed = λ g e. absurd (cc); numbered = record { order = λ k a e. absurd (cc); all = λ a e. absurd (omega (arith, e)) } })
