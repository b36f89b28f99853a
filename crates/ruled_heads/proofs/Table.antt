-- Each key of the table of a program stands behind all that its declaration names.
use Rattle.std.proofs.Common.{◌≡◌, ⊎_elim, ℕ, zero, suc, ◌+◌, ◌<◌, Bool, true, false, List, [], ◌∷◌, ◌++◌, length, take, Some, refl, sym, ap, ◌∙◌, subst, arith}
use Rattle.std.proofs.lemmas.List.{take-append-le}
use Rattle.std.proofs.Math.Seq.{take-append_seam}
use Rattle.std.specs.Prelude.{slice_get, slice_index, ◌||◌, if◌then◌else◌}
use Rattle.dxil_form.specs.declared.program.Program.{Program}
use Rattle.spirv_code.specs.declared.key.Sort.{Sort}
use Rattle.spirv_code.specs.declared.key.Sort.TheVariants as sort
use Rattle.spirv_code.specs.declared.key.Storage.TheVariants as storage
use Rattle.spirv_code.specs.declared.key.Global.{Global}
use Rattle.spirv_code.specs.declared.key.Global.TheVariants.{Plain, Pointer, Number, Truth, Input, Buffer, Shared}
use Rattle.spirv_code.specs.Keys.{same_global, index_of, has_key, add_key}
use Rattle.spirv_code.specs.Plans.{rows_of}
use Rattle.spirv_code.specs.Frame.{rowed, buffer_storage, input_sort, words_needs, needs}
use Rattle.spirv_code.specs.Needed.{words_keys, sort_keys, array_keys, arrays_keys, whole, add_each, add_whole, add_all}
use Rattle.frame_facts.specs.Serves.{AreKeys}
use Rattle.frame_facts.proofs.Searches.{get_past, get_front, get_below, inj}
use Rattle.frame_facts.proofs.Tables.{global_told, key_stands}
use Rattle.frame_facts.proofs.Tabled.{global_self}
use Rattle.frame_facts.proofs.Labels.{get_either}
use Rattle.buffer_form.proofs.Standing.{has_at}

-- ---- lists of keys

-- keys behind others, the last one first
abbrev onto : List Global → List Global → List Global
onto [] seen = seen
onto (g ∷ gs) seen = onto gs (g ∷ seen)

onto_append : (a b seen : List Global) → onto (a ++ b) seen ≡ onto b (onto a seen)
onto_append [] b seen = refl
onto_append (g ∷ a) b seen = onto_append a b (g ∷ seen)

has_here : (g : Global) (seen : List Global) → has_key (g ∷ seen) g ≡ true
has_here g seen = ap (λ b. b || has_key seen g) (global_self g)

has_front : (T b : List Global) (h : Global) → has_key T h ≡ true → has_key (T ++ b) h ≡ true
has_front T b h e =
    has_at (T ++ b) (index_of T h) h (global_self h) (get_front T b (index_of T h) h (key_stands T h e))

add_has : (T : List Global) (g : Global) → has_key (add_key T g) g ≡ true
add_has T g = by_test (has_key T g) refl
  where
    by_test : (b : Bool) → has_key T g ≡ b → has_key (if b then T else T ++ g ∷ []) g ≡ true
    by_test true e = e
    by_test false e = has_at (T ++ g ∷ []) (length T + 0) g (global_self g) (get_past T (g ∷ []) 0)

add_keeps : (T : List Global) (g h : Global) → has_key T h ≡ true → has_key (add_key T g) h ≡ true
add_keeps T g h e = by_test (has_key T g)
  where
    by_test : (b : Bool) → has_key (if b then T else T ++ g ∷ []) h ≡ true
    by_test true = e
    by_test false = has_front T (g ∷ []) h e

-- each key of the one is a key of the other
abbrev Within : List Global → List Global → Type 0
Within seen T = (h : Global) → has_key seen h ≡ true → has_key T h ≡ true

within_keys : (seen T gs : List Global) → Within seen T → AreKeys seen gs → AreKeys T gs
within_keys seen T [] w h = tt
within_keys seen T (g ∷ gs) w h = (w g h.0, within_keys seen T gs w h.1)

within_add : (seen T : List Global) (g : Global) → Within seen T → Within (g ∷ seen) (add_key T g)
within_add seen T g w h e = by_test (same_global h g) refl e
  where
    by_test : (b : Bool) → same_global h g ≡ b → (b || has_key seen h) ≡ true → has_key (add_key T g) h ≡ true
    by_test true same e = subst (λ x. has_key (add_key T g) x ≡ true) (sym (global_told h g same)) (add_has T g)
    by_test false same e = add_keeps T g h (w h e)

-- a key among the first ones has its place among them
pub early_key : (T : List Global) (k : ℕ) (h : Global) → has_key (take k T) h ≡ true → (has_key T h ≡ true) × (index_of T h < k)
early_key T zero h e = absurd (cc)
early_key [] (suc k) h e = absurd (cc)
early_key (x ∷ T) (suc k) h e = by_test (same_global h x) e (early_key T k h)
  where
    by_test : (b : Bool) → (b || has_key (take k T) h) ≡ true → (has_key (take k T) h ≡ true → (has_key T h ≡ true) × (index_of T h < k)) → ((b || has_key T h) ≡ true) × ((if b then 0 else suc (index_of T h)) < suc k)
    by_test true e again = (refl, omega arith)
    by_test false e again =
        let rest = again e in
        let less : index_of T h < k = rest.1 in
        (rest.0, omega (arith, less))

module _ (p : Program) where
  -- ---- what is added for a key

  -- keys, each behind what it names: `seen` are those before them
  abbrev Behind : List Global → List Global → Type 0
  Behind seen [] = Unit {0}
  Behind seen (g ∷ gs) = AreKeys seen (needs p g) × Behind (g ∷ seen) gs

  behind_append : (a b seen : List Global) → Behind seen a → Behind (onto a seen) b → Behind seen (a ++ b)
  behind_append [] b seen h k = k
  behind_append (g ∷ a) b seen h k = (h.0, behind_append a b (g ∷ seen) h.1 k)

  words_behind : (seen : List Global) (r : ℕ) (b : Bool) → rowed p r ≡ b → Behind seen (words_keys p b r)
  words_behind seen r true e =
      let rows : Global = Number (rows_of (slice_get p.resources r)) in
      let all : List Global = rows ∷ Plain sort.Row ∷ Plain sort.Int ∷ seen in
      let named : AreKeys all (words_needs p true r) = (refl, (has_here rows (Plain sort.Row ∷ Plain sort.Int ∷ seen), tt)) in
      (tt, ((refl, tt), ((refl, tt), (subst (λ b. AreKeys all (words_needs p b r)) (sym e) named, tt))))
  words_behind seen r false e =
      let named : AreKeys (Plain sort.Int ∷ seen) (words_needs p false r) = (refl, tt) in
      (tt, (subst (λ b. AreKeys (Plain sort.Int ∷ seen) (words_needs p b r)) (sym e) named, tt))

  words_last : (seen : List Global) (r : ℕ) (b : Bool) → has_key (onto (words_keys p b r) seen) (Plain (sort.Words r)) ≡ true
  words_last seen r true =
      has_here (Plain (sort.Words r)) (Number (rows_of (slice_get p.resources r)) ∷ Plain sort.Row ∷ Plain sort.Int ∷ seen)
  words_last seen r false = has_here (Plain (sort.Words r)) (Plain sort.Int ∷ seen)

  sort_behind : (seen : List Global) (s : Sort) → Behind seen (sort_keys p s)
  sort_behind seen sort.Int = (tt, tt)
  sort_behind seen sort.Bool = (tt, tt)
  sort_behind seen sort.Triple = (tt, ((refl, tt), tt))
  sort_behind seen sort.Row = (tt, ((refl, tt), tt))
  sort_behind seen (sort.Words r) = words_behind seen r (rowed p r) refl
  sort_behind seen (sort.Block r) =
      behind_append (words_keys p (rowed p r) r) (Plain (sort.Block r) ∷ []) seen (words_behind seen r (rowed p r) refl) ((words_last seen r (rowed p r), tt), tt)
  sort_behind seen (sort.Array a) =
      (tt, ((refl, tt), ((refl, (has_here (Number (slice_index p.shared a)) (Plain sort.Int ∷ seen), tt)), tt)))

  sort_last : (seen : List Global) (s : Sort) → has_key (onto (sort_keys p s) seen) (Plain s) ≡ true
  sort_last seen sort.Int = refl
  sort_last seen sort.Bool = refl
  sort_last seen sort.Triple = refl
  sort_last seen sort.Row = refl
  sort_last seen (sort.Words r) = words_last seen r (rowed p r)
  sort_last seen (sort.Block r) =
      ap (λ T. has_key T (Plain (sort.Block r))) (onto_append (words_keys p (rowed p r) r) (Plain (sort.Block r) ∷ []) seen) ∙ has_here (Plain (sort.Block r)) (onto (words_keys p (rowed p r) r) seen)
  sort_last seen (sort.Array a) =
      has_here (Plain (sort.Array a)) (Number (slice_index p.shared a) ∷ Plain sort.Int ∷ seen)

  -- an array behind the one before it
  abbrev sized : List Global → ℕ → List Global
  sized seen a = Plain (sort.Array a) ∷ Number (slice_index p.shared a) ∷ Plain sort.Int ∷ seen

  abbrev array_pointer : ℕ → Global
  array_pointer a = Pointer storage.Workgroup (sort.Array a)

  array_behind : (seen : List Global) (a : ℕ) → ((b : ℕ) → a ≡ suc b → has_key seen (Shared b) ≡ true) → Behind seen (array_keys p a)
  array_behind seen a before =
      (tt, ((refl, tt), ((refl, (has_here (Number (slice_index p.shared a)) (Plain sort.Int ∷ seen), tt)), ((has_here (Plain (sort.Array a)) (Number (slice_index p.shared a) ∷ Plain sort.Int ∷ seen), tt), (named a before, tt)))))
    where
      named : (a : ℕ) → ((b : ℕ) → a ≡ suc b → has_key seen (Shared b) ≡ true) → AreKeys (array_pointer a ∷ sized seen a) (needs p (Shared a))
      named zero before = (has_here (array_pointer 0) (sized seen 0), tt)
      named (suc b) before = (has_here (array_pointer (suc b)) (sized seen (suc b)), (before b refl, tt))

  arrays_last : (n b : ℕ) → n ≡ suc b → has_key (onto (arrays_keys p n) []) (Shared b) ≡ true
  arrays_last zero b e = absurd (omega (arith, e))
  arrays_last (suc a) b e =
      let same : a ≡ b = omega (arith, e) in
      let before : List Global = onto (arrays_keys p a) [] in
      ap (λ T. has_key T (Shared b)) (onto_append (arrays_keys p a) (array_keys p a) []) ∙ subst (λ k. has_key (onto (array_keys p a) before) (Shared k) ≡ true) same (has_here (Shared a) (array_pointer a ∷ sized before a))

  arrays_behind : (n : ℕ) → Behind [] (arrays_keys p n)
  arrays_behind zero = tt
  arrays_behind (suc n) =
      behind_append (arrays_keys p n) (array_keys p n) [] (arrays_behind n) (array_behind (onto (arrays_keys p n) []) n (arrays_last n))

  whole_behind : (g : Global) → Behind [] (whole p g)
  whole_behind (Plain s) = sort_behind [] s
  whole_behind (Pointer s to) =
      behind_append (sort_keys p to) (Pointer s to ∷ []) [] (sort_behind [] to) ((sort_last [] to, tt), tt)
  whole_behind (Number n) = (tt, ((refl, tt), tt))
  whole_behind (Truth b) = (tt, ((refl, tt), tt))
  whole_behind (Input b) =
      let pointer : Global = Pointer storage.Input (input_sort b) in
      behind_append (sort_keys p (input_sort b)) (pointer ∷ Input b ∷ []) [] (sort_behind [] (input_sort b)) ((sort_last [] (input_sort b), tt), ((has_here pointer (onto (sort_keys p (input_sort b)) []), tt), tt))
  whole_behind (Buffer r) =
      let pointer : Global = Pointer (buffer_storage (rowed p r)) (sort.Block r) in
      behind_append (sort_keys p (sort.Block r)) (pointer ∷ Buffer r ∷ []) [] (sort_behind [] (sort.Block r)) ((sort_last [] (sort.Block r), tt), ((has_here pointer (onto (sort_keys p (sort.Block r)) []), tt), tt))
  whole_behind (Shared a) = arrays_behind (length p.shared)

  -- ---- the table

  -- each key stands behind what it names
  abbrev pub Told : List Global → Type 0
  Told T = (k : ℕ) (g : Global) → slice_get T k ≡ Some g → AreKeys (take k T) (needs p g)

  told_last : (T : List Global) (g : Global) → AreKeys T (needs p g) → Told T → Told (T ++ g ∷ [])
  told_last T g named h k x e = ⊎_elim old (λ r. new r.0 r.1 r.2) (get_either T (g ∷ []) k x e)
    where
      old : slice_get T k ≡ Some x → AreKeys (take k (T ++ g ∷ [])) (needs p x)
      old f =
          let low : k < length T = get_below T k x f in
          subst (λ U. AreKeys U (needs p x)) (sym (take-append-le k T (g ∷ []) (omega (arith, low)))) (h k x f)

      new : (j : ℕ) → k ≡ length T + j → slice_get (g ∷ []) j ≡ Some x → AreKeys (take k (T ++ g ∷ [])) (needs p x)
      new zero is f =
          let whole_is : k ≡ length T = omega (arith, is) in
          subst (λ U. AreKeys U (needs p x)) (sym (ap (λ n. take n (T ++ g ∷ [])) whole_is ∙ take-append_seam T (g ∷ []))) (subst (λ y. AreKeys T (needs p y)) (inj f) named)
      new (suc j) is f = absurd (cc)

  told_add : (T : List Global) (g : Global) → AreKeys T (needs p g) → Told T → Told (add_key T g)
  told_add T g named h = by_test (has_key T g)
    where
      by_test : (b : Bool) → Told (if b then T else T ++ g ∷ [])
      by_test true = h
      by_test false = told_last T g named h

  told_each : (seen T gs : List Global) → Within seen T → Behind seen gs → Told T → Told (add_each T gs)
  told_each seen T [] w b h = h
  told_each seen T (g ∷ gs) w b h =
      told_each (g ∷ seen) (add_key T g) gs (within_add seen T g w) b.1 (told_add T g (within_keys seen T (needs p g) w b.0) h)

  told_whole : (T : List Global) (g : Global) → Told T → Told (add_whole p T g)
  told_whole T g h = by_test (has_key T g)
    where
      by_test : (b : Bool) → Told (if b then T else add_each T (whole p g))
      by_test true = h
      by_test false = told_each [] T (whole p g) (λ x e. absurd (cc)) (whole_behind g) h

  told_all : (T gs : List Global) → Told T → Told (add_all p T gs)
  told_all T [] h = h
  told_all T (g ∷ gs) h = told_all (add_whole p T g) gs (told_whole T g h)

  pub table_told : (gs : List Global) → Told (add_all p [] gs)
  table_told gs = told_all [] gs (λ k g e. absurd (cc))
