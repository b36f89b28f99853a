-- How many merge instructions wait for their merge label, with one instruction more.
use Rattle.std.proofs.Common.{ℕ, ◌≡◌, ◌+◌, ◌-◌, ◌<◌, ◌≤◌, ◌^◌, ◌&&◌, ◌||◌, zero, suc, inl, inr, refl, sym, ap, subst, ◌∙◌, arith, List, [], ◌∷◌, ◌++◌, length, take, take_all, get_or, Option, Some, None, Bool, true, false, not, cond, eqb, IfSome, count_by}
use Rattle.std.proofs.lemmas.Bool.{cases_lt, eqb-true, eqb-false, eq-eqb, ne_eqb}
use Rattle.std.proofs.lemmas.Grind.{common_steps}
use Rattle.std.proofs.lemmas.List.{take_more}
use Rattle.std.proofs.lemmas.List.Folds.{list_any-append, list_any_at, list_any_more}
use Rattle.std.proofs.lemmas.List.Sums.{sum_by-cons, sum_by_push, count_by-le-length}
use Rattle.std.specs.List.{list_any}
use Rattle.std.specs.Option.{option_map, option_map_or, option_and_then}
use Rattle.spv_form.specs.declared.module.Inst.{Inst}
use Rattle.spv_ids.specs.Roles.{operand}
use Rattle.order_rules.specs.Order.{IsThePlace}
use Rattle.order_rules.specs.declared.merges.Named.{Named}
use Rattle.order_rules.specs.Merges.{is_merge, is_label, is_open, waiting, MakesCrowded, unnamed, named_of, names, is_named, label_of, entry_of, named_with, waiting_with, AreNamed, IsPut, AreMerges, IsPassed, HasRoom, IsCounting}

-- ---- counts
abbrev one : Bool → ℕ
one b = cond b 1 0

count_push : (p : Inst → Bool) (xs : List Inst) (x : Inst) → count_by p (xs ++ x ∷ []) ≡ count_by p xs + one (p x)
count_push p xs x = sum_by_push (λ y. one (p y)) xs x

count_cons : (p : Inst → Bool) (x : Inst) (xs : List Inst) → count_by p (x ∷ xs) ≡ one (p x) + count_by p xs
count_cons p x xs = sum_by-cons (λ y. one (p y)) x xs

count_same : (p q : Inst → Bool) (xs : List Inst) → ((y : Inst) → p y ≡ q y) → count_by p xs ≡ count_by q xs
count_same p q [] h = refl
count_same p q (x ∷ xs) h = count_cons p x xs ∙ ap (λ b. one b + count_by p xs) (h x) ∙ ap (λ n. one (q x) + n) (count_same p q xs h) ∙ sym (count_cons q x xs)

count_split : (p q r : Inst → Bool) (xs : List Inst) → ((y : Inst) → one (p y) ≡ one (q y) + one (r y)) → count_by p xs ≡ count_by q xs + count_by r xs
count_split p q r [] h = omega arith
count_split p q r (x ∷ xs) h = omega (arith, count_cons p x xs, count_cons q x xs, count_cons r x xs, h x, count_split p q r xs h)

or_false : (b : Bool) → (b || false) ≡ b
or_false true = refl
or_false false = refl

or_true : (b : Bool) → (b || true) ≡ true
or_true true = refl
or_true false = refl

and_false : (b : Bool) → (b && false) ≡ false
and_false true = refl
and_false false = refl

any_push : (p : Inst → Bool) (xs : List Inst) (x : Inst) → list_any p (xs ++ x ∷ []) ≡ (list_any p xs || p x)
any_push p xs x = list_any-append p xs (x ∷ []) ∙ ap (λ b. list_any p xs || b) (or_false (p x))

eqb_swap : (a b : ℕ) → eqb a b ≡ eqb b a
eqb_swap a b = cases (eqb a b) refl where
  cases : (t : Bool) → eqb a b ≡ t → eqb a b ≡ eqb b a
  cases true e = e ∙ sym (eq-eqb b a (sym (eqb-true a b e)))
  cases false e = e ∙ sym (ne_eqb b a (λ s. eqb-false a b e (sym s)))

-- ---- the kinds of an instruction
pub data Kind (x : Inst) : Type 0 where
  other : label_of x ≡ None → is_merge x ≡ false → eqb x.opcode 248 ≡ false → Kind x
  merge : label_of x ≡ Some (operand x 0) → is_merge x ≡ true → eqb x.opcode 248 ≡ false → Kind x
  label : label_of x ≡ Some (operand x 0) → is_merge x ≡ false → eqb x.opcode 248 ≡ true → Kind x

kind : (x : Inst) → Kind x
kind x = cases (eqb x.opcode 246) (eqb x.opcode 247) (eqb x.opcode 248) refl refl refl where
  cases : (a b c : Bool) → eqb x.opcode 246 ≡ a → eqb x.opcode 247 ≡ b → eqb x.opcode 248 ≡ c → Kind x
  cases true b c p q r = let e = eqb-true x.opcode 246 p in Kind.merge (rw e refl) (rw e refl) (rw e refl)
  cases false true c p q r = let e = eqb-true x.opcode 247 q in Kind.merge (rw e refl) (rw e refl) (rw e refl)
  cases false false true p q r = Kind.label (rw (p, q, r) refl) (rw (p, q) refl) r
  cases false false false p q r = Kind.other (rw (p, q, r) refl) (rw (p, q) refl) r

-- ---- how many wait
no_label : (x : Inst) → eqb x.opcode 248 ≡ false → (l : ℕ) → is_label l x ≡ false
no_label x e l = rw e refl

same_open : (xs : List Inst) (x : Inst) → eqb x.opcode 248 ≡ false → (y : Inst) → is_open (xs ++ x ∷ []) y ≡ is_open xs y
same_open xs x e y =
    ap (λ b. is_merge y && not b) (any_push (is_label (operand y 0)) xs x ∙ ap (λ b. list_any (is_label (operand y 0)) xs || b) (no_label x e (operand y 0)) ∙ or_false (list_any (is_label (operand y 0)) xs))

waiting_unlabelled : (xs : List Inst) (x : Inst) → eqb x.opcode 248 ≡ false → waiting (xs ++ x ∷ []) ≡ waiting xs + one (is_open xs x)
unfolding waiting
waiting_unlabelled xs x e =
    count_push (is_open (xs ++ x ∷ [])) xs x
    ∙ ap (λ n. n + one (is_open (xs ++ x ∷ []) x)) (count_same (is_open (xs ++ x ∷ [])) (is_open xs) xs (same_open xs x e))
    ∙ ap (λ b. count_by (is_open xs) xs + one b) (same_open xs x e x)

split_one : (m s e : Bool) → (e ≡ true → s ≡ false) → one (m && not s) ≡ one (m && not (s || e)) + one (m && e)
split_one true true true h = let f = h refl in absurd cc
split_one true true false h = omega arith
split_one true false true h = omega arith
split_one true false false h = omega arith
split_one false s e h = omega arith

module _ (xs : List Inst) (x : Inst) (no_merge : is_merge x ≡ false) (labelled : eqb x.opcode 248 ≡ true) where
  l : ℕ
  l = operand x 0

  stands : (y : Inst) → list_any (is_label (operand y 0)) (xs ++ x ∷ []) ≡ (list_any (is_label (operand y 0)) xs || eqb (operand x 0) (operand y 0))
  stands y = any_push (is_label (operand y 0)) xs x ∙ ap (λ b. list_any (is_label (operand y 0)) xs || (b && eqb (operand x 0) (operand y 0))) labelled

  closed : (y : Inst) → is_open (xs ++ x ∷ []) y ≡ (is_merge y && not (list_any (is_label (operand y 0)) xs || eqb (operand x 0) (operand y 0)))
  closed y = ap (λ b. is_merge y && not b) (stands y)

  counted : waiting (xs ++ x ∷ []) ≡ count_by (λ y. is_merge y && not (list_any (is_label (operand y 0)) xs || eqb (operand x 0) (operand y 0))) xs
  unfolding waiting
  counted =
      count_push (is_open (xs ++ x ∷ [])) xs x
      ∙ ap (λ b. count_by (is_open (xs ++ x ∷ [])) xs + one (b && not (list_any (is_label (operand x 0)) (xs ++ x ∷ [])))) no_merge
      ∙ omega arith
      ∙ count_same (is_open (xs ++ x ∷ [])) (λ y. is_merge y && not (list_any (is_label (operand y 0)) xs || eqb (operand x 0) (operand y 0))) xs closed

  waiting_again : list_any (is_label (operand x 0)) xs ≡ true → waiting (xs ++ x ∷ []) ≡ waiting xs
  unfolding waiting
  waiting_again stood = counted ∙ count_same _ (is_open xs) xs (λ y. ap (λ b. is_merge y && not b) (each y (eqb (operand x 0) (operand y 0)) refl)) where
    each : (y : Inst) (b : Bool) → eqb (operand x 0) (operand y 0) ≡ b → (list_any (is_label (operand y 0)) xs || eqb (operand x 0) (operand y 0)) ≡ list_any (is_label (operand y 0)) xs
    each y true e =
        let there : list_any (is_label (operand y 0)) xs ≡ true = subst (λ (k : ℕ). list_any (is_label k) xs ≡ true) (eqb-true (operand x 0) (operand y 0) e) stood in
        rw there refl
    each y false e = rw e (or_false (list_any (is_label (operand y 0)) xs))

  waiting_first : list_any (is_label (operand x 0)) xs ≡ false → waiting xs ≡ waiting (xs ++ x ∷ []) + count_by (names (operand x 0)) xs
  unfolding waiting
  waiting_first absent =
      count_split (is_open xs) (λ y. is_merge y && not (list_any (is_label (operand y 0)) xs || eqb (operand x 0) (operand y 0))) (λ y. is_merge y && eqb (operand x 0) (operand y 0)) xs
      (λ y. split_one (is_merge y) (list_any (is_label (operand y 0)) xs) (eqb (operand x 0) (operand y 0))
      (λ e. subst (λ (k : ℕ). list_any (is_label k) xs ≡ false) (eqb-true (operand x 0) (operand y 0) e) absent))
      ∙ ap (λ n. n + count_by (λ y. is_merge y && eqb (operand x 0) (operand y 0)) xs) (sym counted)
      ∙ ap (λ n. waiting (xs ++ x ∷ []) + n) (count_same (λ y. is_merge y && eqb (operand x 0) (operand y 0)) (names (operand x 0)) xs
      (λ y. ap (λ b. is_merge y && b) (eqb_swap (operand x 0) (operand y 0))))

-- ---- one instruction more
same_named : (m n : ℕ) (s t : Bool) → m ≡ n → s ≡ t → ◌≡◌ {A = Named} (record { merges = m; stood = s }) (record { merges = n; stood = t })
same_named m n s t p q = cc

named_push : (xs : List Inst) (x : Inst) (k : ℕ) → named_of (xs ++ x ∷ []) k ≡ record { merges = (named_of xs k).merges + one (names k x); stood = (named_of xs k).stood || is_label k x }
unfolding named_of
named_push xs x k = same_named _ _ _ _ (count_push (names k) xs x) (any_push (is_label k) xs x)

stood_is : (xs : List Inst) (k : ℕ) → (named_of xs k).stood ≡ list_any (is_label k) xs
unfolding named_of
stood_is xs k = refl

merges_are : (xs : List Inst) (k : ℕ) → (named_of xs k).merges ≡ count_by (names k) xs
unfolding named_of
merges_are xs k = refl

-- an instruction that says nothing of the label
unchanged : (xs : List Inst) (x : Inst) (k : ℕ) → names k x ≡ false → is_label k x ≡ false → named_of (xs ++ x ∷ []) k ≡ named_of xs k
unchanged xs x k m s = named_push xs x k ∙ same_named _ _ _ _ (ap (λ b. (named_of xs k).merges + one b) m ∙ omega arith) (ap (λ b. (named_of xs k).stood || b) s ∙ or_false (named_of xs k).stood)

named_merge : (xs : List Inst) (x : Inst) → is_merge x ≡ true → eqb x.opcode 248 ≡ false → named_of (xs ++ x ∷ []) (operand x 0) ≡ named_with false (named_of xs (operand x 0))
named_merge xs x m e = named_push xs x (operand x 0) ∙ same_named _ _ _ _
    (ap (λ b. (named_of xs (operand x 0)).merges + one (b && eqb (operand x 0) (operand x 0))) m ∙ ap (λ b. (named_of xs (operand x 0)).merges + one b) (eq-eqb (operand x 0) (operand x 0) refl))
    (ap (λ b. (named_of xs (operand x 0)).stood || b) (no_label x e (operand x 0)) ∙ or_false (named_of xs (operand x 0)).stood)

named_label : (xs : List Inst) (x : Inst) → is_merge x ≡ false → eqb x.opcode 248 ≡ true → named_of (xs ++ x ∷ []) (operand x 0) ≡ named_with true (named_of xs (operand x 0))
named_label xs x m e = named_push xs x (operand x 0) ∙ same_named _ _ _ _
    (ap (λ b. (named_of xs (operand x 0)).merges + one (b && eqb (operand x 0) (operand x 0))) m ∙ omega arith)
    (ap (λ b. (named_of xs (operand x 0)).stood || (b && eqb (operand x 0) (operand x 0))) e ∙ ap (λ b. (named_of xs (operand x 0)).stood || b) (eq-eqb (operand x 0) (operand x 0) refl) ∙ or_true (named_of xs (operand x 0)).stood)

module _ (xs : List Inst) (x : Inst) where
  merged : is_merge x ≡ true → eqb x.opcode 248 ≡ false → waiting_with false (named_of xs (operand x 0)) (waiting xs) ≡ waiting (xs ++ x ∷ [])
  merged m e = cases (list_any (is_label (operand x 0)) xs) refl where
    cases : (b : Bool) → list_any (is_label (operand x 0)) xs ≡ b → waiting_with false (named_of xs (operand x 0)) (waiting xs) ≡ waiting (xs ++ x ∷ [])
    cases b stood =
        let s : (named_of xs (operand x 0)).stood ≡ b = stood_is xs (operand x 0) ∙ stood in
        let o : is_open xs x ≡ not b = ap (λ t. t && not (list_any (is_label (operand x 0)) xs)) m ∙ ap not stood in
        ap (λ t. cond t (waiting xs) (waiting xs + 1)) s ∙ one_more b (waiting xs) ∙ ap (λ t. waiting xs + one t) (sym o) ∙ sym (waiting_unlabelled xs x e) where
          one_more : (b : Bool) (n : ℕ) → cond b n (n + 1) ≡ n + one (not b)
          one_more true n = omega arith
          one_more false n = refl

  labelled : is_merge x ≡ false → eqb x.opcode 248 ≡ true → waiting_with true (named_of xs (operand x 0)) (waiting xs) ≡ waiting (xs ++ x ∷ [])
  labelled m e = cases (list_any (is_label (operand x 0)) xs) refl where
    cases : (b : Bool) → list_any (is_label (operand x 0)) xs ≡ b → waiting_with true (named_of xs (operand x 0)) (waiting xs) ≡ waiting (xs ++ x ∷ [])
    cases true stood = ap (λ t. cond t (waiting xs) (waiting xs - (named_of xs (operand x 0)).merges)) (stood_is xs (operand x 0) ∙ stood) ∙ sym (waiting_again xs x m e stood)
    cases false absent = ap (λ t. cond t (waiting xs) (waiting xs - (named_of xs (operand x 0)).merges)) (stood_is xs (operand x 0) ∙ absent) ∙ omega (arith, waiting_first xs x m e absent, merges_are xs (operand x 0))

  unlabelled : is_merge x ≡ false → eqb x.opcode 248 ≡ false → waiting xs ≡ waiting (xs ++ x ∷ [])
  unlabelled m e = sym (waiting_unlabelled xs x e ∙ ap (λ b. waiting xs + one (b && not (list_any (is_label (operand x 0)) xs))) m ∙ omega arith)

  -- a label that no merge instruction names
  unawaited : is_merge x ≡ false → eqb x.opcode 248 ≡ true → (named_of xs (operand x 0)).merges ≡ 0 → waiting xs ≡ waiting (xs ++ x ∷ [])
  unawaited m e none = sym (ap (λ n. cond (named_of xs (operand x 0)).stood (waiting xs) (waiting xs - n)) none ∙ either (named_of xs (operand x 0)).stood (waiting xs)) ∙ labelled m e where
    either : (b : Bool) (n : ℕ) → cond b n (n - 0) ≡ n
    either true n = refl
    either false n = omega arith

  named_step : (k : ℕ) → cond (option_map_or (λ j. eqb j k) (label_of x) false) (named_with (eqb x.opcode 248) (named_of xs k)) (named_of xs k) ≡ named_of (xs ++ x ∷ []) k
  named_step k = by_kind (kind x) where
    with_label : Option ℕ → Named
    with_label o = cond (option_map_or (λ j. eqb j k) o false) (named_with (eqb x.opcode 248) (named_of xs k)) (named_of xs k)

    at_label : (b : Bool) → eqb x.opcode 248 ≡ b → (t : Bool) → eqb (operand x 0) k ≡ t → named_of (xs ++ x ∷ []) (operand x 0) ≡ named_with b (named_of xs (operand x 0))
        → cond t (named_with (eqb x.opcode 248) (named_of xs k)) (named_of xs k) ≡ named_of (xs ++ x ∷ []) k
    at_label b e true same is =
        let k_is : operand x 0 ≡ k = eqb-true (operand x 0) k same in
        ap (λ t. named_with t (named_of xs k)) e ∙ ap (λ j. named_with b (named_of xs j)) (sym k_is) ∙ sym is ∙ ap (named_of (xs ++ x ∷ [])) k_is
    at_label b e false apart is =
        let not_merge : names k x ≡ false = ap (λ t. is_merge x && t) apart ∙ and_false (is_merge x) in
        let not_label : is_label k x ≡ false = ap (λ t. eqb x.opcode 248 && t) apart ∙ and_false (eqb x.opcode 248) in
        sym (unchanged xs x k not_merge not_label)

    by_kind : Kind x → with_label (label_of x) ≡ named_of (xs ++ x ∷ []) k
    by_kind (Kind.other q m e) = ap with_label q ∙ sym (unchanged xs x k (ap (λ b. b && eqb (operand x 0) k) m) (no_label x e k))
    by_kind (Kind.merge q m e) = ap with_label q ∙ at_label false e (eqb (operand x 0) k) refl (named_merge xs x m e)
    by_kind (Kind.label q m e) = ap with_label q ∙ at_label true e (eqb (operand x 0) k) refl (named_label xs x m e)

-- ---- the labels that are named
or_parts : (a b : Bool) → (a || b) ≡ false → (a ≡ false) × (b ≡ false)
or_parts false b h = (refl, h)
or_parts true b h = absurd cc

none_in_front : (p : Inst → Bool) (xs : List Inst) (n : ℕ) → list_any p xs ≡ false → count_by p (take n xs) ≡ 0
none_in_front p [] zero h = refl
none_in_front p [] (suc n) h = refl
none_in_front p (x ∷ xs) zero h = refl
none_in_front p (x ∷ xs) (suc n) h =
    let parts = or_parts (p x) (list_any p xs) h in
    count_cons p x (take n xs) ∙ ap (λ b. one b + count_by p (take n xs)) parts.0 ∙ omega (arith, none_in_front p xs n parts.1)

unnamed_merges : (insts : List Inst) (at l : ℕ) → is_named insts l ≡ false → (named_of (take at insts) l).merges ≡ 0
unfolding is_named
unnamed_merges insts at l h = merges_are (take at insts) l ∙ none_in_front (names l) insts at h

named_here : (insts : List Inst) (at : ℕ) (x : Inst) → at < length insts → x ≡ get_or insts at x → is_merge x ≡ true → is_named insts (operand x 0) ≡ true
unfolding is_named
named_here insts at x h is m =
    list_any_at (names (operand x 0)) insts at x h (ap (names (operand x 0)) (sym is) ∙ ap (λ b. b && eqb (operand x 0) (operand x 0)) m ∙ eq-eqb (operand x 0) (operand x 0) refl)

pub named_none : (named : ℕ → Option Named) (insts : List Inst) → ((l : ℕ) → named l ≡ None) → AreNamed named (take 0 insts)
unfolding is_named
named_none named insts e = record { named_is = e }

pub named_more : (named named' : ℕ → Option Named) (insts : List Inst) (at : ℕ) (x : Inst) → AreNamed named (take at insts) → at < length insts → x ≡ get_or insts at x → IsPut named named' x → AreNamed named' (take (at + 1) insts)
unfolding is_named
named_more named named' insts at x a h is p = record {
  named_is = λ l.
      p.named_is l ∙ ap (λ o. cond (names l x) (Some unnamed) o) (a.named_is l) ∙ either (list_any (names l) (take at insts)) (names l x)
      ∙ ap (λ b. cond b (Some unnamed) None) (sym (list_any_more (names l) insts at x h ∙ ap (λ y. list_any (names l) (take at insts) || names l y) (sym is)));
} where
  either : (a b : Bool) → cond b (Some unnamed) (cond a (Some unnamed) None) ≡ cond (a || b) (Some unnamed) None
  either true true = refl
  either true false = refl
  either false true = refl
  either false false = refl

pub named_all : (named : ℕ → Option Named) (insts : List Inst) (at : ℕ) → AreNamed named (take at insts) → length insts ≤ at → AreNamed named insts
named_all named insts at a h = subst (AreNamed named) (take_all at insts h) a

-- ---- the table
some_either : (b : Bool) (m n : Named) → cond b (Some m) (Some n) ≡ Some (cond b m n)
some_either true m n = refl
some_either false m n = refl

none_either : (b : Bool) → ◌≡◌ {A = Option Named} (cond b None None) None
none_either true = refl
none_either false = refl

module _ (count count' : ℕ) (named named' : ℕ → Option Named) (insts : List Inst) (at : ℕ) (x : Inst)
    (a : AreMerges count named insts at) (h : at < length insts) (is : x ≡ get_or insts at x) (p : IsPassed count count' named named' x) where
  abbrev xs : List Inst
  xs = take at insts

  abbrev id : ℕ
  id = operand x 0

  abbrev count_with : Option Named → ℕ
  count_with o = option_map_or (λ n. waiting_with (eqb x.opcode 248) n count) o count

  counts : count' ≡ waiting (xs ++ x ∷ [])
  counts = p.count_is ∙ by_kind (kind x) where
    entry : (t : Bool) → label_of x ≡ Some id → is_named insts id ≡ t → count_with (entry_of named x) ≡ count_with (cond t (Some (named_of xs id)) None)
    entry t q n = ap (λ o. count_with (option_and_then named o)) q ∙ ap count_with (a.named_is id ∙ ap (λ t. cond t (Some (named_of xs id)) None) n)

    present : (b : Bool) → eqb x.opcode 248 ≡ b → count_with (Some (named_of xs id)) ≡ waiting_with b (named_of xs id) (waiting xs)
    present b e = ap (λ t. waiting_with t (named_of xs id) count) e ∙ ap (waiting_with b (named_of xs id)) a.count_is

    at_label : (t : Bool) → is_named insts id ≡ t → label_of x ≡ Some id → is_merge x ≡ false → eqb x.opcode 248 ≡ true → count_with (entry_of named x) ≡ waiting (xs ++ x ∷ [])
    at_label true n q m e = entry true q n ∙ present true e ∙ labelled xs x m e
    at_label false n q m e = entry false q n ∙ a.count_is ∙ unawaited xs x m e (unnamed_merges insts at id n)

    by_kind : Kind x → count_with (entry_of named x) ≡ waiting (xs ++ x ∷ [])
    by_kind (Kind.other q m e) = ap (λ o. count_with (option_and_then named o)) q ∙ a.count_is ∙ unlabelled xs x m e
    by_kind (Kind.merge q m e) = entry true q (named_here insts at x h is m) ∙ present false e ∙ merged xs x m e
    by_kind (Kind.label q m e) = at_label (is_named insts id) refl q m e

  entries : (k : ℕ) → named' k ≡ cond (is_named insts k) (Some (named_of (xs ++ x ∷ []) k)) None
  entries k = p.named_is k ∙ ap (λ o. cond hit (option_map (named_with (eqb x.opcode 248)) o) o) (a.named_is k) ∙ each (is_named insts k) where
    hit : Bool
    hit = option_map_or (λ j. eqb j k) (label_of x) false

    old : Bool → Option Named
    old t = cond t (Some (named_of xs k)) None

    each : (t : Bool) → cond hit (option_map (named_with (eqb x.opcode 248)) (old t)) (old t) ≡ cond t (Some (named_of (xs ++ x ∷ []) k)) None
    each true = some_either hit _ _ ∙ ap Some (named_step xs x k)
    each false = none_either hit

  cut : xs ++ x ∷ [] ≡ take (at + 1) insts
  cut = ap (λ y. take at insts ++ y ∷ []) is ∙ sym (take_more insts at x h)

  passed : AreMerges count' named' insts (at + 1)
  passed = record {
    count_is = counts ∙ ap waiting cut;
    named_is = λ k. entries k ∙ ap (λ ys. cond (is_named insts k) (Some (named_of ys k)) None) cut;
  }

-- ---- the loop
pub counting_first : (named : ℕ → Option Named) (insts : List Inst) → AreNamed named insts → IsCounting 0 named insts 0
unfolding waiting named_of
counting_first named insts a = record {
  are = record { count_is = refl; named_is = a.named_is };
  before = λ j h. let zero_is : j ≡ 0 = omega arith in rw zero_is (omega arith);
}

pub room : (count : ℕ) (named : ℕ → Option Named) (insts : List Inst) (at : ℕ) (x : Inst) → IsCounting count named insts at → at < length insts → length insts < 2 ^ 32 → HasRoom named x
room count named insts at x c h few = each (label_of x) where
  few_merges : (l : ℕ) → (named_of (take at insts) l).merges + 1 < 2 ^ 32
  few_merges l =
      let short : length (take at insts) ≤ at = grind (arith, common_steps) in
      let most = count_by-le-length (names l) (take at insts) in
      omega (arith, merges_are (take at insts) l, most, short)

  entry : (l : ℕ) (t : Bool) → IfSome (cond t (Some (named_of (take at insts) l)) None) (λ n. n.merges + 1 < 2 ^ 32)
  entry l true = few_merges l
  entry l false = tt

  each : (o : Option ℕ) → IfSome (option_and_then named o) (λ n. n.merges + 1 < 2 ^ 32)
  each None = tt
  each (Some l) = subst (λ (o : Option Named). IfSome o (λ n. n.merges + 1 < 2 ^ 32)) (sym (c.are.named_is l)) (entry l (is_named insts l))

module _ (count count' : ℕ) (named named' : ℕ → Option Named) (insts : List Inst) (at : ℕ) (x : Inst)
    (c : IsCounting count named insts at) (h : at < length insts) (is : x ≡ get_or insts at x) (p : IsPassed count count' named named' x) where
  after : AreMerges count' named' insts (at + 1)
  after = passed count count' named named' insts at x c.are h is p

  pub counting_more : count' ≤ 1023 → IsCounting count' named' insts (at + 1)
  counting_more low = record { are = after; before = before } where
    before : (j : ℕ) → j ≤ at + 1 → waiting (take j insts) ≤ 1023
    before j k = elim (cases_lt at j) [
      | inl past ↦ let same : j ≡ at + 1 = omega arith in subst (λ (i : ℕ). waiting (take i insts) ≤ 1023) (sym same) (omega (arith, after.count_is))
      | inr not_past ↦ c.before j not_past
    ]

  pub crowded_here : 1023 < count' → IsThePlace (MakesCrowded insts) (Some at)
  crowded_here high = record {
    holds = λ i e. let same : at ≡ i = cc in subst (MakesCrowded insts) same here;
    only = λ i o. elim (cases_lt i at) [
      | inl earlier ↦ absurd (let low = c.before (i + 1) (omega arith) in omega (arith, low, o.over))
      | inr above ↦ elim (cases_lt at i) [
        | inl later ↦ absurd (let low = o.before (at + 1) (omega arith) in omega (arith, low, here.over))
        | inr below ↦ ap Some (omega arith)
      ]
    ];
  } where
    here : MakesCrowded insts at
    here = record { within = h; over = omega (arith, after.count_is); before = c.before }

pub never_crowded : (count : ℕ) (named : ℕ → Option Named) (insts : List Inst) (at : ℕ) → IsCounting count named insts at → length insts ≤ at → IsThePlace (MakesCrowded insts) None
never_crowded count named insts at c h = record {
  holds = λ i e. cc;
  only = λ i o. absurd (let low = c.before (i + 1) (omega (arith, o.within)) in omega (arith, low, o.over));
}
