-- The thread counts are in their bounds, and no two rows of resources have one class and id.
use Rattle.std.proofs.Common.{ℕ, zero, suc, ◌≡◌, ◌⊎◌, ◌<◌, ◌≤◌, ◌+◌, ◌*◌, inl, inr, refl, sym, ◌∙◌, ap, arith, List, [], ◌∷◌, ◌++◌, length, map, take, get_or, slice_get, unwrap_or, Option, Some, None, is_some, Bool, true, false, not, nat_lt, nat_le, ◌==◌, ◌&&◌, ◌||◌}
use Rattle.std.specs.List.{list_any}
use Rattle.std.proofs.lemmas.Bool.{cases_Bool, both_ways, cases_order, or_parts, eq-eqb, eqb-false, ltb-false}
use Rattle.std.proofs.lemmas.List.Elements.{All-nil, All-cons}
use Rattle.std.proofs.lemmas.Option.{same_Some}
use Rattle.dx_base.specs.First.{IsSound}
use Rattle.dxil_form.specs.Sound.{LocalFits}
use Rattle.dxil_form.specs.declared.program.Class.{Class}
use Rattle.dxil_form.specs.declared.program.Class.TheVariants.{Srv, Uav, Cbv}
use Rattle.llvm_nodes.specs.declared.item.Meta.{Meta}
use Rattle.llvm_facts.specs.Module.{Module}
use Rattle.llvm_facts.specs.Values.{node_at, i32_at, i1_at}
use Rattle.llvm_facts.specs.Tags.{says}
use Rattle.llvm_facts.specs.Entry.{is_outside, are_outside, local as counts_of, counts_bit, fields_at, number_at}
use Rattle.llvm_facts.specs.Rows.{least_fields, is_uav, is_structured, row_stride, has_numbers, is_formed, is_taken, is_faulty, is_at_fault, id_of, has_id, row_bit, rows_at, rows_of, row_of}
use Rattle.llvm_facts.specs.Rules.{Broken, outside, rows, entry_of, entry_bit}
use Rattle.llvm_facts.specs.Facts.{all_rows}
use Rattle.llvm_facts.specs.declared.facts.Row.{Row}
use Rattle.profile_tables.specs.Resources.{class_number}

-- ---- thread counts

record AreSmall (x y z : ℕ) : Type 0 where
  x_some : (x == 0) ≡ false
  y_some : (y == 0) ≡ false
  z_some : (z == 0) ≡ false
  x_few : nat_lt 1024 x ≡ false
  y_few : nat_lt 1024 y ≡ false
  z_few : nat_lt 64 z ≡ false
  few : nat_lt 1024 (x * y * z) ≡ false

small : (x y z : ℕ) → is_outside x y z ≡ false → AreSmall x y z
small x y z e = by (x == 0) (y == 0) (z == 0) (nat_lt 1024 x) (nat_lt 1024 y) (nat_lt 64 z) (nat_lt 1024 (x * y * z)) refl refl refl refl refl refl refl e where
  by : (a b c d f g h : Bool) → (x == 0) ≡ a → (y == 0) ≡ b → (z == 0) ≡ c → nat_lt 1024 x ≡ d → nat_lt 1024 y ≡ f → nat_lt 64 z ≡ g → nat_lt 1024 (x * y * z) ≡ h → (a || b || c || d || f || g || h) ≡ false → AreSmall x y z
  by false false false false false false false i j k l m n o e = record { x_some = i; y_some = j; z_some = k; x_few = l; y_few = m; z_few = n; few = o }
  by true b c d f g h i j k l m n o e = cc
  by false true c d f g h i j k l m n o e = cc
  by false false true d f g h i j k l m n o e = cc
  by false false false true f g h i j k l m n o e = cc
  by false false false false true g h i j k l m n o e = cc
  by false false false false false true h i j k l m n o e = cc
  by false false false false false false true i j k l m n o e = cc

positive : (n : ℕ) → (n == 0) ≡ false → 1 ≤ n
positive n e = let h = eqb-false n 0 e in above n h where
  above : (n : ℕ) → (n ≡ 0 → ⊥) → 1 ≤ n
  above zero h = absurd (h refl)
  above (suc n) h = omega arith

fits : (x y z : ℕ) → is_outside x y z ≡ false → LocalFits (x ∷ y ∷ z ∷ [])
fits x y z e =
    let s = small x y z e in
    record {
      three = refl;
      least = All-cons (λ n. 1 ≤ n) x (y ∷ z ∷ []) (positive x s.x_some) (All-cons (λ n. 1 ≤ n) y (z ∷ []) (positive y s.y_some) (All-cons (λ n. 1 ≤ n) z [] (positive z s.z_some) (All-nil (λ n. 1 ≤ n))));
      x = ltb-false 1024 x s.x_few;
      y = ltb-false 1024 y s.y_few;
      z = ltb-false 64 z s.z_few;
      product = ltb-false 1024 (x * y * z) s.few;
    }

-- ---- rows

abbrev Apart : List Row → Type 0
Apart l = (r s : ℕ) (a b : Row) → slice_get l r ≡ Some a → slice_get l s ≡ Some b → class_number a.class ≡ class_number b.class → a.id ≡ b.id → r ≡ s

append_at : {A : Type 0} (xs ys : List A) (i : ℕ) (x : A) → slice_get (xs ++ ys) i ≡ Some x → (slice_get xs i ≡ Some x) ⊎ ((k : ℕ) × (i ≡ length xs + k) × (slice_get ys k ≡ Some x))
append_at [] ys i x e = inr (i, omega arith, e)
append_at (z ∷ xs) ys zero x e = inl e
append_at (z ∷ xs) ys (suc i) x e = elim (append_at xs ys i x e) [ inl h ↦ inl h | inr h ↦ inr (h.0, omega (arith, h.1), h.2) ]

apart_append : (xs ys : List Row) → Apart xs → Apart ys → ((i j : ℕ) (a b : Row) → slice_get xs i ≡ Some a → slice_get ys j ≡ Some b → class_number a.class ≡ class_number b.class → ⊥) → Apart (xs ++ ys)
apart_append xs ys f g h r s a b at au c e = elim (append_at xs ys r a at) [
  | inl p ↦ elim (append_at xs ys s b au) [ inl q ↦ f r s a b p q c e | inr q ↦ absurd (h r q.0 a b p q.2 c) ]
  | inr p ↦ elim (append_at xs ys s b au) [
    | inl q ↦ absurd (h s p.0 b a q p.2 (sym c))
    | inr q ↦ (let k = g p.0 q.0 a b p.2 q.2 c e in omega (arith, p.1, q.1, k))
  ]
]

map_at : {X Y : Type 0} (f : X → Y) (xs : List X) (k : ℕ) (y : Y) → slice_get (map f xs) k ≡ Some y → (x : X) × (slice_get xs k ≡ Some x) × (f x ≡ y)
map_at f [] k y e = cc
map_at f (x ∷ xs) zero y e = (x, refl, same_Some (f x) y e)
map_at f (x ∷ xs) (suc k) y e = map_at f xs k y e

take_at : {A : Type 0} (xs : List A) (i j : ℕ) (x : A) → i < j → slice_get xs i ≡ Some x → slice_get (take j xs) i ≡ Some x
take_at xs i zero x h e = absurd (omega arith)
take_at [] i (suc j) x h e = e
take_at (y ∷ xs) zero (suc j) x h e = e
take_at (y ∷ xs) (suc i) (suc j) x h e = take_at xs i j x (omega arith) e

none_any : {A : Type 0} (p : A → Bool) (xs : List A) (i : ℕ) (x : A) → list_any p xs ≡ false → slice_get xs i ≡ Some x → p x ≡ false
none_any p [] i x f e = cc
none_any p (y ∷ xs) zero x f e = ap p (sym (same_Some y x e)) ∙ (or_parts (p y) (list_any p xs) f).0
none_any p (y ∷ xs) (suc i) x f e = none_any p xs i x (or_parts (p y) (list_any p xs) f).1 e

module _ (m : Module) where
  class_is : (class : Class) (fields : List ℕ) → (row_of m class fields).class ≡ class
  unfolding row_of
  class_is class fields = refl

  id_is : (class : Class) (fields : List ℕ) → (row_of m class fields).id ≡ number_at m (get_or fields 0 0)
  unfolding row_of
  id_is class fields = refl

  -- a row that is right has an id, which no row before it has
  record IsRight (before : List ℕ) (row : ℕ) : Type 0 where
    id : ℕ
    stated : id_of m (node_at m row) ≡ Some id
    told : number_at m (get_or (fields_at m row) 0 0) ≡ id
    new : has_id m before id ≡ false

  some_id : (o : Option ℕ) → is_some o ≡ true → (n : ℕ) × (o ≡ Some n)
  some_id None e = cc
  some_id (Some n) e = (n, refl)

  five : (a b c d e : Bool) → (a && b && c && d && e) ≡ true → a ≡ true
  five true b c d e h = refl
  five false b c d e h = cc

  four : (a b c d : Bool) → (a && b && c && d) ≡ true → b ≡ true
  four true true c d h = refl
  four true false c d h = cc
  four false b c d h = cc

  right : (class : Class) (before : List ℕ) (row : ℕ) → is_at_fault m class before row ≡ false → IsRight before row
  right class before row f = by (node_at m row) refl f where
    negated : (b : Bool) → not b ≡ false → b ≡ true
    negated true e = refl
    negated false e = cc

    by : (o : Option (List ℕ)) → node_at m row ≡ o → is_faulty m class (has_id m before) o ≡ false → IsRight before row
    by None n f = cc
    by (Some fields) n f =
        let p = or_parts (not (is_formed m class fields)) (is_taken (has_id m before) (i32_at m (get_or fields 0 0))) f in
        let formed : is_formed m class fields ≡ true = negated (is_formed m class fields) p.0 in
        let numbers = four (nat_le (least_fields class) (length fields)) (has_numbers m fields) (not (is_uav class) || is_some (i1_at m (get_or fields 9 0))) (not (is_structured m class fields) || is_some (row_stride m class fields)) formed in
        let k = some_id (i32_at m (get_or fields 0 0)) (five (is_some (i32_at m (get_or fields 0 0))) (is_some (i32_at m (get_or fields 3 0))) (is_some (i32_at m (get_or fields 4 0))) (is_some (i32_at m (get_or fields 5 0))) (is_some (i32_at m (get_or fields 6 0))) numbers) in
        record {
          id = k.0;
          stated = ap (id_of m) n ∙ k.1;
          told = ap (λ (o : Option (List ℕ)). number_at m (get_or (unwrap_or o []) 0 0)) n ∙ ap (λ (o : Option ℕ). unwrap_or o 0) k.1;
          new = sym (ap (is_taken (has_id m before)) k.1) ∙ p.1;
        }

  -- rows of one list of which none is at fault
  module _ (class : Class) (list : List ℕ) (good : (i row : ℕ) → slice_get list i ≡ Some row → is_at_fault m class (take i list) row ≡ false) where
    never : (i j a b : ℕ) → i < j → slice_get list i ≡ Some a → slice_get list j ≡ Some b → number_at m (get_or (fields_at m a) 0 0) ≡ number_at m (get_or (fields_at m b) 0 0) → ⊥
    never i j a b h at au e =
        let p = right class (take i list) a (good i a at) in
        let q = right class (take j list) b (good j b au) in
        let same : p.id ≡ q.id = sym p.told ∙ e ∙ q.told in
        let no = none_any (λ row. says q.id (id_of m (node_at m row))) (take j list) i a q.new (take_at list i j a h at) in
        both_ways (says q.id (id_of m (node_at m a))) no (ap (says q.id) p.stated ∙ eq-eqb p.id q.id same)

    list_apart : Apart (rows_of m class list)
    list_apart r s a b at au c e =
        let p = map_at (λ row. row_of m class (fields_at m row)) list r a at in
        let q = map_at (λ row. row_of m class (fields_at m row)) list s b au in
        let same : number_at m (get_or (fields_at m p.0) 0 0) ≡ number_at m (get_or (fields_at m q.0) 0 0) =
        sym (id_is class (fields_at m p.0)) ∙ ap (λ (x : Row). x.id) p.2 ∙ e ∙ sym (ap (λ (x : Row). x.id) q.2) ∙ id_is class (fields_at m q.0) in
        elim (cases_order r s) [
          | inl k ↦ k
          | inr (inl k) ↦ absurd (never r s p.0 q.0 k p.1 q.1 same)
          | inr (inr k) ↦ absurd (never s r q.0 p.0 k q.1 p.1 (sym same))
        ]

  class_in : (class : Class) (list : List ℕ) (i : ℕ) (a : Row) → slice_get (rows_of m class list) i ≡ Some a → class_number a.class ≡ class_number class
  class_in class list i a at =
      let p = map_at (λ row. row_of m class (fields_at m row)) list i a at in
      sym (ap (λ (x : Row). class_number x.class) p.2) ∙ ap class_number (class_is class (fields_at m p.0))

  module _ (meta : Meta) (sound : IsSound (Broken m meta)) where
    pub counts_fit : LocalFits (counts_of m (entry_of m meta))
    counts_fit =
        let entry = entry_of m meta in
        fits _ _ _ (elim (cases_Bool (are_outside (counts_of m entry))) [
          | inr f ↦ f
          | inl t ↦ absurd (sound.none 8 (counts_bit m entry) (outside refl (t, refl)))
        ])

    good_at : (class : Class) (list : List ℕ) → ((i row : ℕ) → slice_get list i ≡ Some row → is_at_fault m class (take i list) row ≡ true → ⊥) → (i row : ℕ) → slice_get list i ≡ Some row → is_at_fault m class (take i list) row ≡ false
    good_at class list none i row at = elim (cases_Bool (is_at_fault m class (take i list) row)) [ inr f ↦ f | inl t ↦ absurd (none i row at t) ]

    abbrev entry : List ℕ
    entry = entry_of m meta

    abbrev at_bit_of : ℕ → ℕ
    at_bit_of row = row_bit m (entry_bit m meta) row

    srvs : Apart (rows_of m Srv (rows_at m entry 0))
    srvs = list_apart Srv (rows_at m entry 0) (good_at Srv (rows_at m entry 0) (λ i row at t. sound.none 9 (at_bit_of row) (rows refl (inr (inl (record { index = i; place = row; stands = at; holds = t; at_bit = refl }))))))

    uavs : Apart (rows_of m Uav (rows_at m entry 1))
    uavs = list_apart Uav (rows_at m entry 1) (good_at Uav (rows_at m entry 1) (λ i row at t. sound.none 9 (at_bit_of row) (rows refl (inr (inr (inl (record { index = i; place = row; stands = at; holds = t; at_bit = refl })))))))

    cbvs : Apart (rows_of m Cbv (rows_at m entry 2))
    cbvs = list_apart Cbv (rows_at m entry 2) (good_at Cbv (rows_at m entry 2) (λ i row at t. sound.none 9 (at_bit_of row) (rows refl (inr (inr (inr (record { index = i; place = row; stands = at; holds = t; at_bit = refl })))))))

    pub rows_apart : Apart (all_rows m (entry_of m meta))
    rows_apart =
        apart_append (rows_of m Srv (rows_at m entry 0) ++ rows_of m Uav (rows_at m entry 1)) (rows_of m Cbv (rows_at m entry 2))
        (apart_append (rows_of m Srv (rows_at m entry 0)) (rows_of m Uav (rows_at m entry 1)) srvs uavs
        (λ i j a b at au e. two_numbers 0 1 (sym (class_in Srv (rows_at m entry 0) i a at) ∙ e ∙ class_in Uav (rows_at m entry 1) j b au) (λ k. omega (arith, k))))
        cbvs
        (λ i j a b at au e. elim (append_at (rows_of m Srv (rows_at m entry 0)) (rows_of m Uav (rows_at m entry 1)) i a at) [
          | inl q ↦ two_numbers 0 2 (sym (class_in Srv (rows_at m entry 0) i a q) ∙ e ∙ class_in Cbv (rows_at m entry 2) j b au) (λ k. omega (arith, k))
          | inr q ↦ two_numbers 1 2 (sym (class_in Uav (rows_at m entry 1) q.0 a q.2) ∙ e ∙ class_in Cbv (rows_at m entry 2) j b au) (λ k. omega (arith, k))
        ]) where
          two_numbers : (n k : ℕ) → n ≡ k → (n ≡ k → ⊥) → ⊥
          two_numbers n k e f = f e
