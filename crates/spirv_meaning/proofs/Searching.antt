-- A search for one place finds what the place is.
use Rattle.std.proofs.Common.{◌≡◌, ◌≢◌, ◌⊎◌, ℕ, zero, suc, ◌+◌, ◌^◌, ◌<◌, Bool, true, false, List, [], ◌∷◌, length, get_or, Option, Some, None, refl, sym, ap, subst, ◌∙◌, inl, inr, ⊎_elim, arith, lt-ltb, eqb→eq}
use Rattle.std.specs.Prelude.{T, nat_eq, slice_get, if◌then◌else◌, ◌||◌, ◌&&◌}
use Rattle.std.specs.List.{list_any}
use Rattle.spv_form.specs.declared.module.Inst.{Inst}
use Rattle.spv_form.specs.declared.module.Module.{Module}
use Rattle.spirv_meaning.specs.declared.site.Sought.{Sought}
use Rattle.spirv_meaning.specs.declared.site.Sought.TheVariants.{Nowhere, At, Several}
use Rattle.spirv_meaning.specs.Names.{label_of, named_by, is_some_at, is_named, is_label_of, only_place, block_name, site, same_words, named_in, block_text, text_words}
use Rattle.spirv_meaning.specs.Sought.{Describes, joined, LabelBelow, NamedBelow, found}

-- the same places are described the same
describes_same : (P Q : ℕ → Type 0) (s : Sought) → ((at : ℕ) → P at → Q at) → ((at : ℕ) → Q at → P at) → Describes P s → Describes Q s
describes_same P Q Nowhere to from h = λ at q. h at (from at q)
describes_same P Q (At a) to from h = (to a h.0, λ b q. h.1 b (from b q))
describes_same P Q Several to from h = (h.0, h.1, to h.0 h.2, to h.1 h.3, h.4)

nat_eq-eq : (m n : ℕ) → nat_eq m n ≡ true → m ≡ n
nat_eq-eq m n e = eqb→eq m n (subst (λ b. T b) (sym e) tt)

nat_eq_not : (a b : ℕ) → nat_eq a b ≡ false → a ≢ b
nat_eq_not a b e same = grind (arith, e, same)

-- two searches describe the places of either
pub both : (P Q : ℕ → Type 0) (x y : Sought) → Describes P x → Describes Q y → Describes (λ at. P at ⊎ Q at) (joined x y)
both P Q Nowhere y h k = describes_same Q (λ at. P at ⊎ Q at) y (λ at q. inr q) (λ at pq. ⊎_elim (λ p. absurd (h at p)) (λ q. q) pq) k
both P Q (At a) Nowhere h k = (inl h.0, λ b pq. ⊎_elim (λ p. h.1 b p) (λ q. absurd (k b q)) pq)
both P Q (At a) (At b) h k = by_test (nat_eq a b) refl
  where
    by_test : (t : Bool) → nat_eq a b ≡ t → Describes (λ at. P at ⊎ Q at) (if t then At a else Several)
    by_test true e = (inl h.0, λ c pq. ⊎_elim (λ p. h.1 c p) (λ q. k.1 c q ∙ sym (nat_eq-eq a b e)) pq)
    by_test false e = (a, b, inl h.0, inr k.0, nat_eq_not a b e)
both P Q (At a) Several h k = (k.0, k.1, inr k.2, inr k.3, k.4)
both P Q Several y h k = (h.0, h.1, inl h.2, inl h.3, h.4)

-- one place describes itself
alone : (n : ℕ) → Describes (λ at. at ≡ n) (At n)
alone n = (refl, λ b e. e)

pub some_same : {A : Type 0} (a b : A) → Some a ≡ Some b → a ≡ b
some_same a b e = cc

get_below : {A : Type 0} (xs : List A) (j : ℕ) (x : A) → slice_get xs j ≡ Some x → j < length xs
get_below [] j x e = absurd (cc)
get_below (y ∷ xs) zero x e = omega arith
get_below (y ∷ xs) (suc j) x e = let h = get_below xs j x e in omega (arith, h)

-- ---- labels of an id

pub label_start : (insts : List Inst) (id : ℕ) → Describes (LabelBelow insts id 0) Nowhere
label_start insts id = λ at h. let less : at < 0 = h.0 in omega (arith, less)

below_next : (at n : ℕ) → at < n + 1 → (at < n) ⊎ (at ≡ n)
below_next at n h = grind arith

pub label_more : (insts : List Inst) (id n : ℕ) (inst : Inst) (s : Sought) → slice_get insts n ≡ Some inst → label_of inst ≡ Some id → Describes (LabelBelow insts id n) s → Describes (LabelBelow insts id (n + 1)) (joined s (At n))
label_more insts id n inst s stands is h =
    describes_same (λ at. LabelBelow insts id n at ⊎ (at ≡ n)) (LabelBelow insts id (n + 1)) (joined s (At n)) to from (both (LabelBelow insts id n) (λ at. at ≡ n) s (At n) h (alone n))
  where
    to : (at : ℕ) → LabelBelow insts id n at ⊎ (at ≡ n) → LabelBelow insts id (n + 1) at
    to at h =
        ⊎_elim (λ l. let less : at < n = l.0 in (omega (arith, less), l.1)) (λ e. (omega (arith, e), (inst, ap (slice_get insts) e ∙ stands, is))) h

    from : (at : ℕ) → LabelBelow insts id (n + 1) at → LabelBelow insts id n at ⊎ (at ≡ n)
    from at h = ⊎_elim (λ less. inl (less, h.1)) (λ e. inr e) (below_next at n h.0)

pub label_none : (insts : List Inst) (id n : ℕ) (inst : Inst) (s : Sought) → slice_get insts n ≡ Some inst → (label_of inst ≡ Some id → ⊥) → Describes (LabelBelow insts id n) s → Describes (LabelBelow insts id (n + 1)) s
label_none insts id n inst s stands is_no h =
    describes_same (LabelBelow insts id n) (LabelBelow insts id (n + 1)) s to from h
  where
    to : (at : ℕ) → LabelBelow insts id n at → LabelBelow insts id (n + 1) at
    to at l = let less : at < n = l.0 in (omega (arith, less), l.1)

    here : (at : ℕ) → LabelBelow insts id (n + 1) at → at ≡ n → ⊥
    here at l e =
        let same : inst ≡ l.1.0 = some_same inst l.1.0 (sym stands ∙ ap (slice_get insts) (sym e) ∙ l.1.1) in
        is_no (ap label_of same ∙ l.1.2)

    from : (at : ℕ) → LabelBelow insts id (n + 1) at → LabelBelow insts id n at
    from at l = ⊎_elim (λ less. (less, l.1)) (λ e. absurd (here at l e)) (below_next at n l.0)

-- ---- labels of a name

pub named_start : (insts : List Inst) (name : List ℕ) → Describes (NamedBelow insts name 0) Nowhere
named_start insts name = λ at h. let less : h.0 < 0 = h.1 in omega (arith, less)

pub named_more : (insts : List Inst) (name : List ℕ) (n id : ℕ) (inst : Inst) (s t : Sought) → slice_get insts n ≡ Some inst → named_by name inst ≡ Some id → Describes (NamedBelow insts name n) s → Describes (LabelBelow insts id (length insts)) t → Describes (NamedBelow insts name (n + 1)) (joined s t)
named_more insts name n id inst s t stands is h k =
    describes_same (λ at. NamedBelow insts name n at ⊎ LabelBelow insts id (length insts) at) (NamedBelow insts name (n + 1)) (joined s t) to from (both (NamedBelow insts name n) (LabelBelow insts id (length insts)) s t h k)
  where
    to : (at : ℕ) → NamedBelow insts name n at ⊎ LabelBelow insts id (length insts) at → NamedBelow insts name (n + 1) at
    to at h =
        ⊎_elim (λ l. let less : l.0 < n = l.1 in (l.0, omega (arith, less), l.2)) (λ l. (n, omega arith, (inst, id, stands, is, l.1))) h

    here : (at j : ℕ) → ((x : Inst) × (i : ℕ) × (slice_get insts j ≡ Some x) × (named_by name x ≡ Some i) × ((label : Inst) × (slice_get insts at ≡ Some label) × (label_of label ≡ Some i))) → j ≡ n → LabelBelow insts id (length insts) at
    here at j l e =
        let same : inst ≡ l.0 = some_same inst l.0 (sym stands ∙ ap (slice_get insts) (sym e) ∙ l.2) in
        let ids : l.1 ≡ id = some_same l.1 id (sym l.3 ∙ ap (named_by name) (sym same) ∙ is) in
        (get_below insts at l.4.0 l.4.1, (l.4.0, l.4.1, l.4.2 ∙ ap (λ i. Some i) ids))

    from : (at : ℕ) → NamedBelow insts name (n + 1) at → NamedBelow insts name n at ⊎ LabelBelow insts id (length insts) at
    from at l = ⊎_elim (λ less. inl (l.0, less, l.2)) (λ e. inr (here at l.0 l.2 e)) (below_next l.0 n l.1)

pub named_none : (insts : List Inst) (name : List ℕ) (n : ℕ) (inst : Inst) (s : Sought) → slice_get insts n ≡ Some inst → named_by name inst ≡ None → Describes (NamedBelow insts name n) s → Describes (NamedBelow insts name (n + 1)) s
named_none insts name n inst s stands is h =
    describes_same (NamedBelow insts name n) (NamedBelow insts name (n + 1)) s to from h
  where
    to : (at : ℕ) → NamedBelow insts name n at → NamedBelow insts name (n + 1) at
    to at l = let less : l.0 < n = l.1 in (l.0, omega (arith, less), l.2)

    here : (at : ℕ) (l : NamedBelow insts name (n + 1) at) → l.0 ≡ n → ⊥
    here at l e =
        let same : inst ≡ l.2.0 = some_same inst l.2.0 (sym stands ∙ ap (slice_get insts) (sym e) ∙ l.2.2) in
        let none : Some l.2.1 ≡ None = sym l.2.3 ∙ ap (named_by name) (sym same) ∙ is in
        absurd (cc)

    from : (at : ℕ) → NamedBelow insts name (n + 1) at → NamedBelow insts name n at
    from at l = ⊎_elim (λ less. (l.0, less, l.2)) (λ e. absurd (here at l e)) (below_next l.0 n l.1)

-- ---- the one place that passes a test

-- the instruction at the place passes, counted from n
abbrev Passes : (Inst → Bool) → List Inst → ℕ → ℕ → Type 0
Passes test insts n at = (j : ℕ) × (at ≡ n + j) × ((inst : Inst) × (slice_get insts j ≡ Some inst) × (test inst ≡ true))

pub some_passes : (test : Inst → Bool) (insts : List Inst) → list_any test insts ≡ true → (j : ℕ) × ((inst : Inst) × (slice_get insts j ≡ Some inst) × (test inst ≡ true))
some_passes test [] e = absurd (cc)
some_passes test (i ∷ is) e = by_test (λ e. some_passes test is e) (test i) refl e
  where
    by_test : (list_any test is ≡ true → (j : ℕ) × ((inst : Inst) × (slice_get is j ≡ Some inst) × (test inst ≡ true))) → (t : Bool) → test i ≡ t → (t || list_any test is) ≡ true → (j : ℕ) × ((inst : Inst) × (slice_get (i ∷ is) j ≡ Some inst) × (test inst ≡ true))
    by_test again true p e = (0, (i, refl, p))
    by_test again false p e = let rest = again e in (suc rest.0, rest.1)

none_passes : (test : Inst → Bool) (insts : List Inst) → list_any test insts ≡ false → (j : ℕ) (inst : Inst) → slice_get insts j ≡ Some inst → test inst ≡ true → ⊥
none_passes test [] e j inst stands p = absurd (cc)
none_passes test (i ∷ is) e j inst stands p = by_test (λ e j stands. none_passes test is e j inst stands p) (test i) refl e j stands
  where
    by_test : (list_any test is ≡ false → (j : ℕ) → slice_get is j ≡ Some inst → ⊥) → (t : Bool) → test i ≡ t → (t || list_any test is) ≡ false → (j : ℕ) → slice_get (i ∷ is) j ≡ Some inst → ⊥
    by_test again true q e j stands = absurd (cc)
    by_test again false q e zero stands =
        let same : test i ≡ test inst = ap test (some_same i inst stands) in
        let clash : false ≡ true = sym q ∙ same ∙ p in
        absurd (cc)
    by_test again false q e (suc j) stands = again e j stands

pub passes_any : (test : Inst → Bool) (insts : List Inst) (j : ℕ) (inst : Inst) → slice_get insts j ≡ Some inst → test inst ≡ true → list_any test insts ≡ true
passes_any test insts j inst stands p = by_test (list_any test insts) refl
  where
    by_test : (t : Bool) → list_any test insts ≡ t → t ≡ true
    by_test true e = refl
    by_test false e = absurd (none_passes test insts e j inst stands p)

-- none passes
on_none : (P : ℕ → Type 0) → ((at : ℕ) → P at → ⊥) → (s : Sought) → Describes P s → None ≡ found s
on_none P none Nowhere h = refl
on_none P none (At a) h = absurd (none a h.0)
on_none P none Several h = refl

-- n passes alone
on_one : (P : ℕ → Type 0) (n : ℕ) → P n → ((at : ℕ) → P at → at ≡ n) → (s : Sought) → Describes P s → Some n ≡ found s
on_one P n p sole Nowhere h = absurd (h n p)
on_one P n p sole (At a) h = ap (λ x. Some x) (h.1 n p)
on_one P n p sole Several h = absurd (h.4 (sole h.0 h.2 ∙ sym (sole h.1 h.3)))

-- two pass
on_two : (P : ℕ → Type 0) (a b : ℕ) → P a → P b → a ≢ b → (s : Sought) → Describes P s → None ≡ found s
on_two P a b p q apart Nowhere h = refl
on_two P a b p q apart (At c) h = absurd (apart (h.1 a p ∙ sym (h.1 b q)))
on_two P a b p q apart Several h = refl

pub only_place_is : (test : Inst → Bool) (insts : List Inst) (n : ℕ) (s : Sought) → Describes (Passes test insts n) s → only_place test n insts ≡ found s
only_place_is test [] n s h = on_none (Passes test [] n) (λ at p. absurd (cc)) s h
only_place_is test (i ∷ is) n s h = by_test (λ k. only_place_is test is (suc n) s k) (test i) refl
  where
    next : test i ≡ false → Describes (Passes test is (suc n)) s
    next e = describes_same (Passes test (i ∷ is) n) (Passes test is (suc n)) s to from h
      where
        to : (at : ℕ) → Passes test (i ∷ is) n at → Passes test is (suc n) at
        to at p = step p.0 p.1 p.2
          where
            step : (j : ℕ) → at ≡ n + j → ((inst : Inst) × (slice_get (i ∷ is) j ≡ Some inst) × (test inst ≡ true)) → Passes test is (suc n) at
            step zero e' x =
                let same : test i ≡ test x.0 = ap test (some_same i x.0 x.1) in
                let clash : false ≡ true = sym e ∙ same ∙ x.2 in
                absurd (cc)
            step (suc j) e' x = (j, omega (arith, e'), x)

        from : (at : ℕ) → Passes test is (suc n) at → Passes test (i ∷ is) n at
        from at p = let e : at ≡ suc n + p.0 = p.1 in (suc p.0, omega (arith, e), p.2)

    here : test i ≡ true → Passes test (i ∷ is) n n
    here e = (0, omega arith, (i, refl, e))

    sole : list_any test is ≡ false → (at : ℕ) → Passes test (i ∷ is) n at → at ≡ n
    sole none at p = step p.0 p.1 p.2
      where
        step : (j : ℕ) → at ≡ n + j → ((inst : Inst) × (slice_get (i ∷ is) j ≡ Some inst) × (test inst ≡ true)) → at ≡ n
        step zero e x = omega (arith, e)
        step (suc j) e x = absurd (none_passes test is none j x.0 x.1 x.2)

    by_rest : test i ≡ true → (t : Bool) → list_any test is ≡ t → (if t then None else Some n) ≡ found s
    by_rest p true e =
        let other = some_passes test is e in
        let apart : n ≢ n + suc other.0 = λ same. omega (arith, same) in
        on_two (Passes test (i ∷ is) n) n (n + suc other.0) (here p) (suc other.0, refl, other.1) apart s h
    by_rest p false e = on_one (Passes test (i ∷ is) n) n (here p) (sole e) s h

    by_test : (Describes (Passes test is (suc n)) s → only_place test (suc n) is ≡ found s) → (t : Bool) → test i ≡ t → (if t then (if list_any test is then None else Some n) else only_place test (suc n) is) ≡ found s
    by_test again true e = by_rest e (list_any test is) refl
    by_test again false e = again (next e)

-- ---- sites

nat_eq_same : (n : ℕ) → nat_eq n n ≡ true
nat_eq_same n = grind arith

pub is_at : (o : Option ℕ) (id : ℕ) → is_some_at o id ≡ true → o ≡ Some id
is_at None id e = absurd (cc)
is_at (Some x) id e = ap (λ y. Some y) (nat_eq-eq x id e)

pub at_is : (o : Option ℕ) (id : ℕ) → o ≡ Some id → is_some_at o id ≡ true
at_is o id e = ap (λ o. is_some_at o id) e ∙ nat_eq_same id

-- a label that passes has an id that an OpName names
pub is_named_of : (insts : List Inst) (name : List ℕ) (o : Option ℕ) → is_named insts name o ≡ true → (id : ℕ) × (o ≡ Some id) × (list_any (λ inst. is_some_at (named_by name inst) id) insts ≡ true)
is_named_of insts name None e = absurd (cc)
is_named_of insts name (Some id) e = (id, refl, e)

pub site_is : (m : Module) (k : ℕ) (s : Sought) → k < 2 ^ 32 → Describes (NamedBelow m.insts (block_name k) (length m.insts)) s → found s ≡ site m k
site_is m k s small h =
    sym (ap (λ b. if b then only_place (is_label_of m k) 0 m.insts else None) (lt-ltb k (2 ^ 32) small) ∙ only_place_is (is_label_of m k) m.insts 0 s (describes_same (NamedBelow m.insts (block_name k) (length m.insts)) (Passes (is_label_of m k) m.insts 0) s to from h))
  where
    to : (at : ℕ) → NamedBelow m.insts (block_name k) (length m.insts) at → Passes (is_label_of m k) m.insts 0 at
    to at l =
        let id = l.2.1 in
        let any = passes_any (λ inst. is_some_at (named_by (block_name k) inst) id) m.insts l.0 l.2.0 l.2.2 (at_is (named_by (block_name k) l.2.0) id l.2.3) in
        (at, omega arith, (l.2.4.0, l.2.4.1, ap (is_named m.insts (block_name k)) l.2.4.2 ∙ any))

    from : (at : ℕ) → Passes (is_label_of m k) m.insts 0 at → NamedBelow m.insts (block_name k) (length m.insts) at
    from at p =
        let named = is_named_of m.insts (block_name k) (label_of p.2.0) p.2.2 in
        let by = some_passes (λ inst. is_some_at (named_by (block_name k) inst) named.0) m.insts named.2 in
        let same : p.0 ≡ at = omega (arith, p.1) in
        (by.0, get_below m.insts by.0 by.1.0 by.1.1, (by.1.0, named.0, by.1.1, is_at (named_by (block_name k) by.1.0) named.0 by.1.2, (p.2.0, ap (slice_get m.insts) (sym same) ∙ p.2.1, named.1)))

-- ---- names

same_words_of : (xs ys : List ℕ) → xs ≡ ys → same_words xs ys ≡ true
same_words_of xs ys e = ap (same_words xs) (sym e) ∙ same xs
  where
    same : (xs : List ℕ) → same_words xs xs ≡ true
    same [] = refl
    same (x ∷ xs) = ap (λ b. b && same_words xs xs) (nat_eq_same x) ∙ same xs

pub words_same_of : (xs ys : List ℕ) → same_words xs ys ≡ true → xs ≡ ys
words_same_of [] [] e = refl
words_same_of [] (y ∷ ys) e = absurd (cc)
words_same_of (x ∷ xs) [] e = absurd (cc)
words_same_of (x ∷ xs) (y ∷ ys) e = by_test (λ e. words_same_of xs ys e) (nat_eq x y) refl e
  where
    by_test : (same_words xs ys ≡ true → xs ≡ ys) → (t : Bool) → nat_eq x y ≡ t → (t && same_words xs ys) ≡ true → (x ∷ xs) ≡ (y ∷ ys)
    by_test again true p e = ap (λ z. z ∷ xs) (nat_eq-eq x y p) ∙ ap (λ zs. y ∷ zs) (again e)
    by_test again false p e = absurd (cc)

named_in_is : (inst : Inst) (name operands : List ℕ) → inst.opcode ≡ 5 → inst.operands ≡ operands → named_by name inst ≡ named_in name operands
named_in_is inst name operands five is =
    ap (λ n. if nat_eq n 5 then named_in name inst.operands else None) five ∙ ap (named_in name) is

pub named_is : (inst : Inst) (name : List ℕ) (id : ℕ) (text : List ℕ) → inst.opcode ≡ 5 → inst.operands ≡ id ∷ text → text ≡ name → named_by name inst ≡ Some id
named_is inst name id text five is same =
    named_in_is inst name (id ∷ text) five is ∙ ap (λ b. if b then Some id else None) (same_words_of text name same)

pub named_not : (inst : Inst) (name : List ℕ) (id : ℕ) (text : List ℕ) → inst.opcode ≡ 5 → inst.operands ≡ id ∷ text → (text ≡ name → ⊥) → named_by name inst ≡ None
named_not inst name id text five is other =
    named_in_is inst name (id ∷ text) five is ∙ by_test (same_words text name) refl
  where
    by_test : (t : Bool) → same_words text name ≡ t → (if t then Some id else None) ≡ None
    by_test true e = absurd (other (words_same_of text name e))
    by_test false e = refl

-- ---- items of a list

pub get_some : {A : Type 0} (xs : List A) (i : ℕ) (x : A) → i < length xs → x ≡ get_or xs i x → slice_get xs i ≡ Some x
get_some [] i x h e = absurd (omega arith)
get_some (y ∷ xs) zero x h e = ap (λ z. Some z) (sym e)
get_some (y ∷ xs) (suc i) x h e = get_some xs i x (omega arith) e

pub described_as : (P : ℕ → Type 0) (s t : Sought) → s ≡ t → Describes P t → Describes P s
described_as P s t e h = subst (λ s. Describes P s) (sym e) h

pub described_up_to : (P : ℕ → ℕ → Type 0) (n m : ℕ) (s : Sought) → n ≡ m → Describes (P n) s → Describes (P m) s
described_up_to P n m s e h = subst (λ n. Describes (P n) s) e h

pub site_found : (m : Module) (k : ℕ) (insts : List Inst) (text : List ℕ) (s : Sought) → insts ≡ m.insts → text ≡ block_text k → k < 2 ^ 32 → Describes (NamedBelow insts (text_words text) (length insts)) s → found s ≡ site m k
site_found m k insts text s same is small h =
    site_is m k s small (subst (λ insts. Describes (NamedBelow insts (block_name k) (length insts)) s) same (subst (λ text. Describes (NamedBelow insts (text_words text) (length insts)) s) is h))
